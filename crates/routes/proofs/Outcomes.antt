-- The ways through a change of one table: what the table is afterwards, and what is answered.
use Rattle.std.proofs.Common.{◌≡◌, ℕ, ◌+◌, ◌-◌, ◌<◌, ◌≤◌, length, set, take, true, false, is_some, Some, None, Ok, Err, Option, Result, position, sym, ap, ◌∙◌, subst, arith}
use Rattle.std.proofs.lemmas.Bool.{cond-true, cond-false, lt-ltb, le-ltb}
use Rattle.refusals.specs.declared.refusal.Refusal.{Refusal}
use Rattle.refusals.specs.declared.refusal.Refusal.TheVariants.{RoutesFull, NoSuchRoute}
use Rattle.routes.specs.declared.route.Route.{Route}
use Rattle.routes.specs.declared.table.Table.{Table}
use Rattle.routes.specs.Fits.{fits}
use Rattle.routes.specs.Table.{place, entry}
use Rattle.routes.specs.Entries.{Entries, entries_of, setting_entry, removing_entry}
use Rattle.routes.proofs.Among.{fits-vci}
use Rattle.routes.proofs.Changes.{Sound, Becomes, replaced, added, taken}
use Rattle.routes.proofs.Lookups.{found, missing, entry-at, entry_none}

-- the answer of a change that was carried out
abbrev made : (ℕ → Option Route) → ℕ → Result Entries Refusal
made m n = Ok (record { route = m; count = n })

module _ (t : Table) (places : length t.routes ≡ 32) (v : ℕ) where
  abbrev looked : Option ℕ
  looked = position (λ r. fits r v) (take t.count t.routes)

  within : t.count ≤ length t.routes
  within = let room = t.room in omega (arith, room, places)

  sound : Sound t.routes t.count
  sound = record { places = places; room = t.room; distinct = t.distinct; outputs = t.outputs; counted = t.counted }

  has-entry : (k : ℕ) → looked ≡ Some k → is_some (entry t.routes t.count v) ≡ true
  has-entry k e = let h = found t.routes t.count v within k e in ap is_some (entry-at t.routes t.count v within t.distinct k h.0 h.1)

  no-entry : looked ≡ None → is_some (entry t.routes t.count v) ≡ false
  no-entry e = ap is_some (entry_none t.routes t.count v within t.distinct (missing t.routes t.count v within e))

  -- removing a route that is found at place k
  pub taken-at : (k : ℕ) → looked ≡ Some k → v < 65536 → Becomes t.routes t.count (set t.routes k (place t.routes (t.count - 1))) (t.count - 1) v None
  taken-at k e lv =
      let h = found t.routes t.count v within k e in
      let same : (place t.routes k).vci ≡ v = fits-vci (place t.routes k) v h.1 in
      subst (λ u. Becomes t.routes t.count (set t.routes k (place t.routes (t.count - 1))) (t.count - 1) u None) same (taken t.routes t.count sound k h.0 (rw same lv))

  pub remove-takes : (k : ℕ) → looked ≡ Some k → v < 65536 → made (entry (set t.routes k (place t.routes (t.count - 1))) (t.count - 1)) (t.count - 1) ≡ removing_entry (entries_of t) v
  remove-takes k e lv = ap (λ m. made m (t.count - 1)) (taken-at k e lv).map ∙ sym (cond-true _ _ _ (has-entry k e))

  pub remove-none : looked ≡ None → Err NoSuchRoute ≡ removing_entry (entries_of t) v
  remove-none e = sym (cond-false _ _ _ (no-entry e))

module _ (t : Table) (places : length t.routes ≡ 32) (r : Route) where
  -- setting a route whose VCI is found at place k
  pub replaced-at : (k : ℕ) → looked t places r.vci ≡ Some k → r.output < 8 → r.vci < 65536 → Becomes t.routes t.count (set t.routes k r) t.count r.vci (Some r)
  replaced-at k e lo lv = let h = found t.routes t.count r.vci (within t places r.vci) k e in replaced t.routes t.count (sound t places r.vci) k r h.0 h.1 lo lv

  pub set-replaces : (k : ℕ) → looked t places r.vci ≡ Some k → r.output < 8 → r.vci < 65536 → made (entry (set t.routes k r) t.count) t.count ≡ setting_entry (entries_of t) r
  set-replaces k e lo lv = ap (λ m. made m t.count) (replaced-at k e lo lv).map ∙ sym (cond-true _ _ _ (has-entry t places r.vci k e))

  -- setting a route with a new VCI
  pub added-last : looked t places r.vci ≡ None → t.count < 32 → r.output < 8 → r.vci < 65536 → Becomes t.routes t.count (set t.routes t.count r) (t.count + 1) r.vci (Some r)
  added-last e l lo lv = added t.routes t.count (sound t places r.vci) r l (missing t.routes t.count r.vci (within t places r.vci) e) lo lv

  pub set-adds : looked t places r.vci ≡ None → t.count < 32 → r.output < 8 → r.vci < 65536 → made (entry (set t.routes t.count r) (t.count + 1)) (t.count + 1) ≡ setting_entry (entries_of t) r
  set-adds e l lo lv =
      ap (λ m. made m (t.count + 1)) (added-last e l lo lv).map
      ∙ (sym (cond-true _ _ _ (lt-ltb t.count 32 l)) ∙ sym (cond-false _ _ _ (no-entry t places r.vci e)))

  pub set_full : looked t places r.vci ≡ None → 32 ≤ t.count → Err RoutesFull ≡ setting_entry (entries_of t) r
  set_full e l = sym (cond-false _ _ _ (le-ltb t.count 32 l)) ∙ sym (cond-false _ _ _ (no-entry t places r.vci e))

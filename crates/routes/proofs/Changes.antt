-- The three changes of a table: a route replaced, one added, one taken out.
use Rattle.std.proofs.Common.{◌≡◌, ℕ, ◌+◌, ◌-◌, ◌<◌, ◌≤◌, true, cond, eqb, List, length, set, Some, None, Option, sym, refl, ap, ◌∙◌, subst, arith}
use mathlib.Core.Path.{fun_ext}
use Rattle.std.proofs.lemmas.List.{get_or-set_same, get_or-set_other, length-set}
use Rattle.routes.specs.declared.route.Route.{Route}
use Rattle.routes.specs.Fits.{fits}
use Rattle.routes.specs.Table.{no_route, place, Apart, Within, entry, held, with_entry}
use Rattle.routes.proofs.Among.{Put, More, Less, among, fits-vci, vci-fits, apart-put, within-put, among-put, apart_more, within_more, among-more, apart-less, within-less, among-less}
use Rattle.routes.proofs.Counting.{one, counted-after}
use Rattle.routes.proofs.Lookups.{NoneFits, entry-among, entry-at, entry_none}

-- a table with what its type keeps
pub record Sound (rs : List Route) (n : ℕ) : Type 0 where
  pub places : length rs ≡ 32
  pub room : n ≤ 32
  pub distinct : Apart (place rs) n
  pub outputs : Within (place rs) n
  pub counted : n ≡ held (entry rs n) 65536

-- the table after a change of the entry of circuit u: it keeps the same, and its map has the new entry
pub record Becomes (rs : List Route) (n : ℕ) (rs' : List Route) (n' u : ℕ) (e : Option Route) : Type 0 where
  pub room : n' ≤ 32
  pub distinct : Apart (place rs') n'
  pub outputs : Within (place rs') n'
  pub counted : n' ≡ held (entry rs' n') 65536
  pub map : entry rs' n' ≡ with_entry (entry rs n) u e

module _ (rs : List Route) (n : ℕ) (ok : Sound rs n) where
  abbrev f : ℕ → Route
  f = place rs

  written-here : (k : ℕ) (r : Route) → k < 32 → place (set rs k r) k ≡ r
  written-here k r l = get_or-set_same rs k r no_route (omega (arith, ok.places))

  written-other : (k a : ℕ) (r : Route) → (a ≡ k → ⊥) → place (set rs k r) a ≡ f a
  written-other k a r ne = get_or-set_other rs k a r no_route ne

  -- a change by one write, from what it does to the routes in their places
  changes : (k m u : ℕ) (r : Route) (e : Option Route) → u < 65536 → m ≤ 32 → Apart (place (set rs k r)) m → Within (place (set rs k r)) m
      → ((v : ℕ) → among (place (set rs k r)) m v ≡ with_entry (among f n) u e v) → m + one (entry rs n u) ≡ n + one e → Becomes rs n (set rs k r) m u e
  changes k m u r e lu room apart within here count =
      let map : entry (set rs k r) m ≡ with_entry (entry rs n) u e = fun_ext (λ v.
      entry-among (set rs k r) m v (omega (arith, length-set rs k r, ok.places, room)) apart
      ∙ (here v ∙ ap (λ (x : Option Route). cond (eqb u v) e x) (sym (entry-among rs n v (omega (arith, ok.places, ok.room)) ok.distinct)))) in record {
        room = room;
        distinct = apart;
        outputs = within;
        counted = counted-after (entry rs n) (entry (set rs k r) m) n m u e lu ok.counted map count;
        map = map;
      }

  pub replaced : (k : ℕ) (r : Route) → k < n → fits (f k) r.vci ≡ true → r.output < 8 → r.vci < 65536 → Becomes rs n (set rs k r) n r.vci (Some r)
  replaced k r lk e lo lv =
      let w : Put f (place (set rs k r)) n k r = record { inside = lk; here = written-here k r (omega (arith, ok.room)); there = λ a _ ne. written-other k a r ne } in
      let same : (f k).vci ≡ r.vci = fits-vci (f k) r.vci e in
      let was : one (entry rs n r.vci) ≡ 1 = ap one (entry-at rs n r.vci (omega (arith, ok.places, ok.room)) ok.distinct k lk e) in
      changes k n r.vci r (Some r) lv ok.room (apart-put f _ n k r w same ok.distinct) (within-put f _ n k r w lo ok.outputs)
      (λ v. among-put f _ n k r w same ok.distinct v) (omega arith)

  pub added : (r : Route) → n < 32 → NoneFits rs n r.vci → r.output < 8 → r.vci < 65536 → Becomes rs n (set rs n r) (n + 1) r.vci (Some r)
  added r ln none lo lv =
      let w : More f (place (set rs n r)) n r = record { last = written-here n r ln; first = λ a la. written-other n a r (λ e. omega arith) } in
      let was : one (entry rs n r.vci) ≡ 0 = ap one (entry_none rs n r.vci (omega (arith, ok.places, ok.room)) ok.distinct none) in
      changes n (n + 1) r.vci r (Some r) lv (omega arith) (apart_more f _ n r w none ok.distinct) (within_more f _ n r w lo ok.outputs)
      (λ v. among-more f _ n r w v) (omega arith)

  -- the last route moved to the place of the one that is taken out
  pub taken : (k : ℕ) → k < n → (f k).vci < 65536 → Becomes rs n (set rs k (f (n - 1))) (n - 1) (f k).vci None
  taken k lk lv =
      let m : ℕ = n - 1 in
      let b : n ≡ m + 1 = omega arith in
      let apart : Apart f (m + 1) = subst (Apart f) b ok.distinct in
      let w : Less f (place (set rs k (f m))) m k = record { inside = omega arith; here = written-here k (f m) (omega (arith, ok.room)); there = λ a _ ne. written-other k a (f m) ne } in
      let was : one (entry rs n (f k).vci) ≡ 1 = ap one (entry-at rs n (f k).vci (omega (arith, ok.places, ok.room)) ok.distinct k lk (vci-fits (f k) (f k).vci refl)) in
      changes k m (f k).vci (f m) None lv (omega (arith, ok.room)) (apart-less f _ m k w apart) (within-less f _ m k w (subst (Within f) b ok.outputs))
      (λ v. among-less f _ m k w apart v ∙ ap (λ (x : ℕ). cond (fits (f k) v) None (among f x v)) (sym b)) (omega arith)

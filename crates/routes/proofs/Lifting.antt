-- A change of the table of one input, as a change of the tables of all inputs.
use Rattle.std.proofs.Common.{◌≡◌, ℕ, zero, suc, ◌<◌, true, cond, eqb, ltb, ◌+◌, ◌-◌, ◌&&◌, List, [], ◌∷◌, length, get_or, set, is_some, Some, None, Ok, Err, Option, Result, sym, refl, ap, ◌∙◌, ap₂, inl, inr, arith}
use mathlib.Core.Path.{fun_ext}
use Rattle.std.specs.List.{slice_get}
use Rattle.std.proofs.lemmas.Bool.{cases_eq, cases_Bool, eq-eqb, ne_eqb}
use Rattle.std.proofs.lemmas.Option.{slice_get-get_or}
use Rattle.refusals.specs.declared.refusal.Refusal.{Refusal}
use Rattle.routes.specs.declared.route.Route.{Route}
use Rattle.routes.specs.declared.table.Table.{Table}
use Rattle.routes.specs.declared.tables.Routes.{Routes}
use Rattle.routes.specs.Table.{with_entry, changed}
use Rattle.routes.specs.Entries.{Entries, entries_of, setting_entry, removing_entry}
use Rattle.routes.specs.Map.{Tables, of_input, tables_of, recounted, is_port, setting, removing, told}

-- what a place of a list holds after a write to place i
written-here : (xs : List Table) (i : ℕ) (y : Table) → i < length xs → slice_get (set xs i y) i ≡ Some y
written-here [] i y l = absurd (omega arith)
written-here (x ∷ xs) zero y l = refl
written-here (x ∷ xs) (suc i) y l = written-here xs i y (omega arith)

written-other : (xs : List Table) (i j : ℕ) (y : Table) → (j ≡ i → ⊥) → slice_get (set xs i y) j ≡ slice_get xs j
written-other [] i j y ne = refl
written-other (x ∷ xs) zero zero y ne = absurd (ne refl)
written-other (x ∷ xs) zero (suc j) y ne = refl
written-other (x ∷ xs) (suc i) zero y ne = refl
written-other (x ∷ xs) (suc i) (suc j) y ne = written-other xs i j y (λ e. ne (ap suc e))

-- the tables with other entries at input i
abbrev with_entries : Tables → ℕ → Entries → Tables
with_entries t i e = record { route = λ j. cond (eqb j i) e.route (t.route j); count = recounted t.count i e.count }

-- what a change of the entries at input i answers, as a change of all tables
abbrev lifted : Tables → ℕ → Result Entries Refusal → Result Tables Refusal
lifted t i (Ok e) = Ok (with_entries t i e)
lifted t i (Err k) = Err k

abbrev made : (ℕ → ℕ → Option Route) → (ℕ → ℕ) → Tables
made m n = record { route = m; count = n }

module _ (t : Tables) (i : ℕ) where
  -- the entries at input i
  abbrev here : Entries
  here = record { route = t.route i; count = t.count i }

  route-changed : (u : ℕ) (e : Option Route) → (λ j. cond (eqb j i) (with_entry (t.route i) u e) (t.route j)) ≡ changed t.route i u e
  route-changed u e = fun_ext (λ j. fun_ext (λ v. elim (cases_eq j i) [ inl q ↦ rw (q, eq-eqb i i refl) refl | inr q ↦ rw (ne_eqb j i q) refl ]))

  counted-again : recounted t.count i (t.count i) ≡ t.count
  counted-again = fun_ext (λ j. elim (cases_eq j i) [ inl q ↦ rw (q, eq-eqb i i refl) refl | inr q ↦ rw (ne_eqb j i q) refl ])

  setting-lifted : (ports : ℕ) (r : Route) → (is_port ports i && is_port ports r.output) ≡ true → lifted t i (setting_entry here r) ≡ setting t ports i r
  setting-lifted ports r p =
      elim (cases_Bool (is_some (t.route i r.vci))) [
        | inl q ↦
            rw (p, q) (ap Ok (ap₂ made (route-changed r.vci (Some r)) counted-again))
        | inr q ↦ elim (cases_Bool (ltb (t.count i) 32)) [ inl s ↦ rw (p, q, s) (ap (λ (m : ℕ → ℕ → Option Route). Ok (made m (recounted t.count i (t.count i + 1)))) (route-changed r.vci (Some r))) | inr s ↦ rw (p, q, s) refl ]
      ]

  removing-lifted : (ports v : ℕ) → is_port ports i ≡ true → lifted t i (removing_entry here v) ≡ removing t ports i v
  removing-lifted ports v p =
      elim (cases_Bool (is_some (t.route i v))) [
        | inl q ↦
            rw (p, q) (ap (λ (m : ℕ → ℕ → Option Route). Ok (made m (recounted t.count i (t.count i - 1)))) (route-changed v None))
        | inr q ↦ rw (p, q) refl
      ]

-- the tables in memory, where the table of input i has become y
module _ (t u : Routes) (i : ℕ) (d y : Table) (l : i < length t.inputs) (is : u.inputs ≡ set t.inputs i y) where
  of-inputs : {X : Type 0} (f : Entries → X) (j : ℕ) → f (of_input (slice_get u.inputs j)) ≡ cond (eqb j i) (f (entries_of y)) (f (of_input (slice_get t.inputs j)))
  of-inputs f j =
      elim (cases_eq j i) [
        | inl q ↦
            rw (is, q, eq-eqb i i refl, written-here t.inputs i y l) refl
        | inr q ↦ rw (is, ne_eqb j i q, written-other t.inputs i j y q) refl
      ]

  told-lifted : (k : Result (Unit {0}) Refusal) → told tables_of k u ≡ lifted (tables_of t) i (told entries_of k y)
  told-lifted (Ok a) = ap Ok (ap₂ made (fun_ext (of-inputs (λ e. e.route))) (fun_ext (of-inputs (λ e. e.count))))
  told-lifted (Err e) = refl

  pub set-at : (k : Result (Unit {0}) Refusal) (ports : ℕ) (r : Route) → (is_port ports i && is_port ports r.output) ≡ true → told entries_of k y ≡ setting_entry (entries_of (get_or t.inputs i d)) r → told tables_of k u ≡ setting (tables_of t) ports i r
  set-at k ports r p e =
      told-lifted k ∙ (ap (lifted (tables_of t) i) (e ∙ ap (λ (o : Option Table). setting_entry (of_input o) r) (sym (slice_get-get_or t.inputs i d l))) ∙ setting-lifted (tables_of t) i ports r p)

  pub remove-at : (k : Result (Unit {0}) Refusal) (ports v : ℕ) → is_port ports i ≡ true → told entries_of k y ≡ removing_entry (entries_of (get_or t.inputs i d)) v → told tables_of k u ≡ removing (tables_of t) ports i v
  remove-at k ports v p e =
      told-lifted k ∙ (ap (lifted (tables_of t) i) (e ∙ ap (λ (o : Option Table). removing_entry (of_input o) v) (sym (slice_get-get_or t.inputs i d l))) ∙ removing-lifted (tables_of t) i ports v p)

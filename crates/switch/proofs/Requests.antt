-- The table of the queues that are not empty, pair by pair.
use Rattle.std.proofs.Common.{◌≡◌, ℕ, ◌+◌, ◌<◌, ◌≤◌, Bool, true, false, cond, not, ◌&&◌, ◌||◌, eqb, ltb, List, [], ◌∷◌, is_ok, Ok, Err, Result, sym, refl, ap, ◌∙◌, ap₂, inl, inr, arith}
use Rattle.std.proofs.lemmas.Bool.{lt-ltb, cases_eq}
use Rattle.std.proofs.lemmas.Bool.Decides.{nat_tests}
use Rattle.pairs.specs.declared.table.Table.{Table}
use Rattle.pairs.specs.Tables.{holds, table_of, added}
use Rattle.pairs.proofs.Tables.{holds_of, table_of-ext}
use Rattle.queues.specs.declared.refusal.QueueRefusal.{QueueRefusal}
use Rattle.queues.specs.declared.refusal.QueueRefusal.TheVariants.{NoSuchQueue}
use Rattle.queues.specs.Calls.{head_call, head_of, then}
use Rattle.queues.specs.Queues.{Queues}
use Rattle.law.specs.View.{View}
use Rattle.law.specs.Calls.{is_empty}

abbrev pub wants : {A : Type 0} → View A → ℕ → ℕ → Bool
wants v i o = (ltb i v.ports && ltb o v.ports) && not (is_empty ((v.cells i).queue o))

module _ (F : ℕ → ℕ → Bool) (i o : ℕ) where
  abbrev seen : ℕ → ℕ → Bool
  seen x y = (ltb x i || (eqb x i && ltb y o)) && F x y

  abbrev next : ℕ → ℕ → Bool
  next x y = (ltb x i || (eqb x i && ltb y (o + 1))) && F x y

  step : (f : Bool) (x y : ℕ) → F i o ≡ f → ((eqb x i && eqb y o) && f) || seen x y ≡ next x y
  step f x y e = elim (cases_eq x i) [
    | inl p ↦ elim (cases_eq y o) [
      | inl q ↦ rw (p, q) (grind (arith, nat_tests))
      | inr q ↦ grind (arith, nat_tests)
    ]
    | inr p ↦ grind (arith, nat_tests)
  ]

  pub seen-with : (t : Table) → F i o ≡ true → t ≡ table_of seen → table_of (added (holds t) i o) ≡ table_of next
  seen-with t e f = table_of-ext (added (holds t) i o) next (λ x y lx ly.
      ap (λ (b : Bool). (eqb x i && eqb y o) || b) (ap (λ (u : Table). holds u x y) f ∙ holds_of seen x y lx ly)
      ∙ ap (λ (b : Bool). b || seen x y) (and-true (eqb x i && eqb y o)) ∙ step true x y e)
    where
      and-true : (b : Bool) → b ≡ (b && true)
      and-true true = refl
      and-true false = refl

  pub seen_same : (t : Table) → F i o ≡ false → t ≡ table_of seen → t ≡ table_of next
  seen_same t e f = f ∙ table_of-ext seen next (λ x y lx ly. ap (λ (b : Bool). b || seen x y) (and-false (eqb x i && eqb y o)) ∙ step false x y e)
    where
      and-false : (b : Bool) → false ≡ (b && false)
      and-false true = refl
      and-false false = refl

-- whether a queue has a head
module _ {A : Type 0} (v : View A) (i o : ℕ) (q : Queues) (li : i < v.ports) (lo : o < v.ports) (small : v.ports ≤ 8) (is : v.cells i ≡ q) where
  wants_is : wants v i o ≡ not (is_empty (q.queue o))
  wants_is =
      ap₂ (λ (x y : Bool). (x && y) && not (is_empty ((v.cells i).queue o))) (lt-ltb i v.ports li) (lt-ltb o v.ports lo)
      ∙ ap (λ (q : Queues). not (is_empty (q.queue o))) is

  head-is : head_call q o ≡ head_of (q.queue o)
  head-is = ap (λ (b : Bool). then (cond {A = Result (Unit {0}) QueueRefusal} b (Ok tt) (Err NoSuchQueue)) (head_of (q.queue o))) (lt-ltb o 8 (omega arith))

  has-head : (l : List ℕ) → not (is_empty l) ≡ is_ok (head_of l)
  has-head [] = refl
  has-head (b ∷ l) = refl

  pub wants-head : wants v i o ≡ is_ok (head_call q o)
  wants-head = wants_is ∙ has-head (q.queue o) ∙ ap is_ok (sym head-is)

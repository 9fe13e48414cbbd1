-- A join or a take is refused and leaves all as it was, or it moves one block.
use Rattle.std.proofs.Common.{◌≡◌, ℕ, ◌<◌, cond, eqb, ltb, ◌⊎◌, List, [], ◌∷◌, ◌++◌, length, set, Some, None, Ok, Err, Option, Result, sym, refl, ap, ◌∙◌, inl, inr}
use Rattle.std.specs.List.{slice_get}
use Rattle.queues.specs.declared.refusal.QueueRefusal.{QueueRefusal}
use Rattle.queues.specs.Queues.{Queues, put, taken_by}
use Rattle.queues.specs.Calls.{Outcome, outcome, queue_fits, fits, then, unless, join_by, join_call, held, head_of, read_by, read_call, take_by, take_call}
use Rattle.queues.proofs.Views.{queues_of}
use Rattle.std.proofs.lemmas.Bool.{cases_Bool, ltb-true, eqb-true, lt-ltb}
use Rattle.queues.specs.declared.refusal.QueueRefusal.TheVariants.{NoSuchQueue, BlockCount}

fits-queue : (B n q : ℕ) (x : Unit {0}) → Ok x ≡ fits B n q → q < 8
fits-queue B n q x e =
    elim (cases_Bool (ltb q 8)) [
      | inl t ↦ ltb-true q 8 t
      | inr f ↦ let bad : ◌≡◌ {A = Result (Unit {0}) QueueRefusal} (Ok x) (Err NoSuchQueue) = e ∙ ap (λ b. then (cond b (Ok tt) (Err NoSuchQueue)) (cond (eqb n B) (Ok tt) (Err BlockCount))) f in
          absurd cc
    ]

fits-blocks : (B n q : ℕ) (x : Unit {0}) → Ok x ≡ fits B n q → n ≡ B
fits-blocks B n q x e =
    elim (cases_Bool (eqb n B)) [
      | inl t ↦ eqb-true n B t
      | inr f ↦ let bad : ◌≡◌ {A = Result (Unit {0}) QueueRefusal} (Ok x) (Err BlockCount)
          = e ∙ ap (λ b. then (queue_fits q) (cond b (Ok tt) (Err BlockCount))) f ∙ ap (λ b. then (cond b (Ok tt) (Err NoSuchQueue)) (Err BlockCount)) (lt-ltb q 8 (fits-queue B n q x e)) in
          absurd cc
    ]

module _ {E : Type 0} (B : ℕ) (s : Queues) (xs : List E) (q : ℕ) where
  pub record Joins (v : E) : Type 0 where
    pub block : ℕ
    pub rest : List ℕ
    pub queue : q < 8
    pub blocks : length xs ≡ B
    pub first : s.free ≡ block ∷ rest
    pub comes : join_call B s xs q v ≡ outcome (Ok (length (s.queue q))) (queues_of (put s.queue q (s.queue q ++ (block ∷ []))) rest) (set xs block v)

  pub record Takes : Type 0 where
    pub block : ℕ
    pub rest : List ℕ
    pub element : E
    pub queue : q < 8
    pub first : s.queue q ≡ block ∷ rest
    pub holds : slice_get xs block ≡ Some element
    pub comes : take_call B s xs q ≡ outcome (Ok element) (queues_of (put s.queue q rest) (s.free ++ (block ∷ []))) xs

  abbrev pub Refused : {A : Type 0} → Outcome A E → Type 0
  Refused {A} o = (e : QueueRefusal) × (o ≡ outcome (Err e) s xs)

  join-fits : (v : E) (free : List ℕ) (x : Unit {0}) → s.free ≡ free → fits B (length xs) q ≡ Ok x → Refused (join_call B s xs q v) ⊎ Joins v
  join-fits v [] x f e = inl (_, ap (λ r. unless r s xs (join_by s xs q v s.free)) e ∙ ap (join_by s xs q v) f)
  join-fits v (b ∷ rest) x f e =
      inr (record {
        block = b;
        rest = rest;
        queue = fits-queue B (length xs) q x (sym e);
        blocks = fits-blocks B (length xs) q x (sym e);
        first = f;
        comes = ap (λ r. unless r s xs (join_by s xs q v s.free)) e ∙ ap (λ l. join_by (queues_of s.queue l) xs q v l) f;
      })

  join_by_lem : (v : E) (r : Result (Unit {0}) QueueRefusal) → fits B (length xs) q ≡ r → Refused (join_call B s xs q v) ⊎ Joins v
  join_by_lem v (Ok x) e = join-fits v s.free x refl e
  join_by_lem v (Err k) e = inl (k, ap (λ r. unless r s xs (join_by s xs q v s.free)) e)

  pub join-cases : (v : E) → Refused (join_call B s xs q v) ⊎ Joins v
  join-cases v = join_by_lem v (fits B (length xs) q) refl

  take-read : (b : ℕ) (rest : List ℕ) (x : Unit {0}) (o : Option E) → s.queue q ≡ b ∷ rest → slice_get xs b ≡ o → read_call B s xs q ≡ held o → fits B (length xs) q ≡ Ok x → Refused (take_call B s xs q) ⊎ Takes
  take-read b rest x None f n r e = inl (_, ap (take_by s xs q) r)
  take-read b rest x (Some v) f n r e =
      inr (record {
        block = b;
        rest = rest;
        element = v;
        queue = fits-queue B (length xs) q x (sym e);
        first = f;
        holds = n;
        comes = ap (take_by s xs q) r ∙ ap (λ l. outcome (Ok v) (taken_by s q l) xs) f;
      })

  take-fits : (l : List ℕ) (x : Unit {0}) → s.queue q ≡ l → fits B (length xs) q ≡ Ok x → Refused (take_call B s xs q) ⊎ Takes
  take-fits [] x f e = inl (_, ap (take_by s xs q) (ap (λ r. then r (read_by xs (head_of (s.queue q)))) e ∙ ap (λ l. read_by xs (head_of l)) f))
  take-fits (b ∷ rest) x f e =
      take-read b rest x (slice_get xs b) f refl (ap (λ r. then r (read_by xs (head_of (s.queue q)))) e ∙ ap (λ l. read_by xs (head_of l)) f) e

  take_by_lem : (r : Result (Unit {0}) QueueRefusal) → fits B (length xs) q ≡ r → Refused (take_call B s xs q) ⊎ Takes
  take_by_lem (Ok x) e = take-fits (s.queue q) x refl e
  take_by_lem (Err k) e = inl (k, ap (take_by s xs q) (ap (λ r. then r (read_by xs (head_of (s.queue q)))) e))

  pub take_cases : Refused (take_call B s xs q) ⊎ Takes
  take_cases = take_by_lem (fits B (length xs) q) refl

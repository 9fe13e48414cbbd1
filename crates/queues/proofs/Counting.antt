-- How often a block stands in the queues and in the free list, where a block goes from one list to another.
use Rattle.std.proofs.Common.{◌≡◌, ℕ, zero, suc, ◌+◌, ◌<◌, ◌≤◌, cond, List, [], ◌∷◌, ◌++◌, refl, ap, ◌∙◌, inl, inr, arith}
use Rattle.std.specs.List.{range_with_len}
use Rattle.std.proofs.lemmas.Bool.{cases_eq, eq-eqb, ne_eqb}
use Rattle.queues.specs.Queues.{put}
use Rattle.queues.specs.Runs.{times, sum_below, in_queues}
use Rattle.queues.proofs.Views.{queues_of, put_same, put_other}

pub times-same : (b x : ℕ) (xs : List ℕ) → b ≡ x → times b (x ∷ xs) ≡ 1 + times b xs
times-same b x xs e = ap (λ t. cond t 1 0 + times b xs) (eq-eqb b x e)

pub times-other : (b x : ℕ) (xs : List ℕ) → (b ≡ x → ⊥) → times b (x ∷ xs) ≡ times b xs
times-other b x xs ne = ap (λ t. cond t 1 0 + times b xs) (ne_eqb b x ne) ∙ omega arith

pub times-append : (b : ℕ) (xs ys : List ℕ) → times b (xs ++ ys) ≡ times b xs + times b ys
times-append b [] ys = omega arith
times-append b (x ∷ xs) ys = omega (arith, times-append b xs ys)

sum-before : (g : List ℕ → ℕ) (f : ℕ → List ℕ) (q : ℕ) (x : List ℕ) (n : ℕ) → n ≤ q → sum_below (λ p. g (put f q x p)) n ≡ sum_below (λ p. g (f p)) n
sum-before g f q x zero le = refl
sum-before g f q x (suc n) le =
    omega (arith, sum-before g f q x n (omega arith), ap g (put_other f q x n (omega arith)))

-- a sum over the queues, where one of them changes
sum-put :
    (g : List ℕ → ℕ) (f : ℕ → List ℕ) (q : ℕ) (x : List ℕ) (n : ℕ) → q < n
    → sum_below (λ p. g (put f q x p)) n + g (f q) ≡ sum_below (λ p. g (f p)) n + g x
sum-put g f q x zero lt = absurd (omega arith)
sum-put g f q x (suc n) lt =
    elim (cases_eq n q) [
      | inl e ↦ omega (arith, sum-before g f q x n (omega arith), ap g (put_same f q x n e), ap (λ p. g (f p)) e)
      | inr ne ↦ omega (arith, sum-put g f q x n (omega arith), ap g (put_other f q x n ne))
    ]

pub sum-above : (f : ℕ → ℕ) (n p : ℕ) → p < n → f p ≤ sum_below f n
sum-above f zero p lt = absurd (omega arith)
sum-above f (suc n) p lt =
    elim (cases_eq p n) [ inl e ↦ omega (arith, ap f e) | inr ne ↦ omega (arith, sum-above f n p (omega arith)) ]

-- a block keeps its one place where c goes from the free list to the queue q
pub times-joined :
    (f : ℕ → List ℕ) (c : ℕ) (rest : List ℕ) (q b : ℕ) → q < 8
    → times b rest + in_queues b (queues_of (put f q (f q ++ (c ∷ []))) rest) ≡ times b (c ∷ rest) + in_queues b (queues_of f (c ∷ rest))
times-joined f c rest q b lq =
    omega (arith, sum-put (times b) f q (f q ++ (c ∷ [])) 8 lq, times-append b (f q) (c ∷ []))

-- and where c goes from the queue q to the free list
pub times-taken :
    (f : ℕ → List ℕ) (free : List ℕ) (c : ℕ) (rest : List ℕ) (q b : ℕ) → q < 8 → f q ≡ c ∷ rest
    → times b (free ++ (c ∷ [])) + in_queues b (queues_of (put f q rest) (free ++ (c ∷ []))) ≡ times b free + in_queues b (queues_of f free)
times-taken f free c rest q b lq e =
    omega (arith, sum-put (times b) f q rest 8 lq, times-append b free (c ∷ []), ap (times b) e)

-- at the start each number below the count stands once
pub times-outside : (a n b : ℕ) → b < a → times b (range_with_len a n) ≡ 0
times-outside a zero b lt = refl
times-outside a (suc n) b lt = times-other b a (range_with_len (a + 1) n) (omega arith) ∙ times-outside (a + 1) n b (omega arith)

pub times-counting : (a n b : ℕ) → a ≤ b → b < a + n → times b (range_with_len a n) ≡ 1
times-counting a zero b le lt = absurd (omega arith)
times-counting a (suc n) b le lt =
    elim (cases_eq b a) [
      | inl e ↦ times-same b a (range_with_len (a + 1) n) e ∙ omega (arith, times-outside (a + 1) n b (omega arith))
      | inr ne ↦ times-other b a (range_with_len (a + 1) n) ne ∙ times-counting (a + 1) n b (omega arith) (omega arith)
    ]

pub times-beyond : (a n b : ℕ) → a + n ≤ b → times b (range_with_len a n) ≡ 0
times-beyond a zero b le = refl
times-beyond a (suc n) b le = times-other b a (range_with_len (a + 1) n) (omega arith) ∙ times-beyond (a + 1) n b (omega arith)

-- The pairs of a table of n ports: their outputs are below n, and where no input is in two of them they are at most n.
use Rattle.std.proofs.Common.{◌≡◌, ℕ, zero, suc, ◌<◌, ◌≤◌, Bool, true, cond, List, [], ◌∷◌, ◌++◌, length, ap, inl, inr, arith, length-append}
use Rattle.std.proofs.lemmas.Bool.{cond_both, cases_Bool, cases_lt}
use Rattle.arbiters.specs.Rules.{Apart}
use Rattle.pairs.specs.declared.table.Table.{Table}
use Rattle.pairs.specs.Tables.{holds}
use Rattle.law.specs.View.{row, rows, pairs}

-- the outputs of some pairs are below n
abbrev pub Outputs : ℕ → List (ℕ × ℕ) → Type 0
Outputs n [] = Unit {0}
Outputs n (x ∷ xs) = (x.1 < n) × Outputs n xs

outputs-append : (n : ℕ) (xs ys : List (ℕ × ℕ)) → Outputs n xs → Outputs n ys → Outputs n (xs ++ ys)
outputs-append n [] ys h k = k
outputs-append n (x ∷ xs) ys h k = (h.0, outputs-append n xs ys h.1 k)

module _ (G : ℕ → ℕ → Bool) where
  outputs-row : (n i k : ℕ) → k ≤ n → Outputs n (row G i k)
  outputs-row n i zero l = tt
  outputs-row n i (suc k) l =
      outputs-append n (row G i k) (cond (G i k) ((i, k) ∷ []) []) (outputs-row n i k (omega arith))
      (cond_both (G i k) ((i, k) ∷ []) [] (Outputs n) (λ e. (omega arith, tt)) (λ e. tt))

  outputs-rows : (n k : ℕ) → Outputs n (rows G n k)
  outputs-rows n zero = tt
  outputs-rows n (suc k) = outputs-append n (rows G n k) (row G k n) (outputs-rows n k) (outputs-row n k n (omega arith))

  abbrev one : ℕ → ℕ → List (ℕ × ℕ)
  one i k = cond (G i k) ((i, k) ∷ []) []

  row-some : (i k : ℕ) → 1 ≤ length (row G i k) → (o : ℕ) × (o < k) × (G i o ≡ true)
  row-some i zero l = absurd (omega arith)
  row-some i (suc k) l = elim (cases_Bool (G i k)) [
    | inl e ↦ (k, omega arith, e)
    | inr e ↦
        let none : ◌≡◌ {A = ℕ} (length (one i k)) 0 = ap (λ (b : Bool). length (cond {A = List (ℕ × ℕ)} b ((i, k) ∷ []) [])) e in
        let r = row-some i k (omega (arith, length-append (row G i k) (one i k))) in
        (r.0, omega (arith, r.1), r.2)
  ]

  row-once : (i k : ℕ) → ((o u : ℕ) → G i o ≡ true → G i u ≡ true → o ≡ u) → length (row G i k) ≤ 1
  row-once i zero once = omega arith
  row-once i (suc k) once = elim (cases_Bool (G i k)) [
    | inl e ↦
        let single : ◌≡◌ {A = ℕ} (length (one i k)) 1 = ap (λ (b : Bool). length (cond {A = List (ℕ × ℕ)} b ((i, k) ∷ []) [])) e in
        elim (cases_lt 0 (length (row G i k))) [
          | inl l ↦
              let r = row-some i k l in
              let same : r.0 ≡ k = once r.0 k r.2 e in
              absurd (omega (arith, r.1, same))
          | inr l ↦ omega (arith, length-append (row G i k) (one i k))
        ]
    | inr e ↦
        let none : ◌≡◌ {A = ℕ} (length (one i k)) 0 = ap (λ (b : Bool). length (cond {A = List (ℕ × ℕ)} b ((i, k) ∷ []) [])) e in
        omega (arith, length-append (row G i k) (one i k), row-once i k once)
  ]

  rows_few : (n k : ℕ) → ((i o u : ℕ) → G i o ≡ true → G i u ≡ true → o ≡ u) → length (rows G n k) ≤ k
  rows_few n zero once = omega arith
  rows_few n (suc k) once = omega (arith, length-append (rows G n k) (row G k n), rows_few n k once, row-once k n (once k))

pub outputs-pairs : (n : ℕ) (t : Table) → Outputs n (pairs n t)
outputs-pairs n t = outputs-rows (holds t) n n

pub few-pairs : (n : ℕ) (t : Table) → Apart t → length (pairs n t) ≤ n
few-pairs n t apart = rows_few (holds t) n n apart.inputs

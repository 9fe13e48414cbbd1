-- The pairs of a table in their order, counted by pair, by input and by output.
use Rattle.std.proofs.Common.{◌≡◌, ℕ, zero, suc, ◌+◌, ◌<◌, ◌≤◌, Bool, true, cond, ◌&&◌, eqb, ltb, ◌⊎◌, List, [], ◌∷◌, sym, refl, ap, ◌∙◌, subst, ap₂, inl, inr, arith}
use Rattle.std.proofs.lemmas.Bool.{ltb-true, eq-eqb, cases_Bool, cases_eq, cases_lt, and_parts}
use Rattle.std.proofs.lemmas.Bool.Decides.{nat_tests}
use Rattle.law.specs.View.{row, rows}
use Rattle.law.specs.History.{with_input, with_output}
use Rattle.law.proofs.Counts.{times, times-append, input-append, output-append}

module _ (G : ℕ → ℕ → Bool) where
  one-times : (i o p k : ℕ) → times i o (cond (G p k) ((p, k) ∷ []) []) ≡ cond ((eqb i p && eqb o k) && G p k) 1 0
  one-times i o p k = grind (arith, nat_tests)

  times-row : (i o p k : ℕ) → times i o (row G p k) ≡ cond (eqb i p && (ltb o k && G i o)) 1 0
  times-row i o p zero = grind (arith, nat_tests)
  times-row i o p (suc k) =
      times-append i o (row G p k) (cond (G p k) ((p, k) ∷ []) []) ∙ ap₂ ◌+◌ (times-row i o p k) (one-times i o p k) ∙ join (cases_eq i p) (cases_eq o k)
    where
      join : (i ≡ p) ⊎ (i ≡ p → ⊥) → (o ≡ k) ⊎ (o ≡ k → ⊥) → cond (eqb i p && (ltb o k && G i o)) 1 0 + cond ((eqb i p && eqb o k) && G p k) 1 0 ≡ cond (eqb i p && (ltb o (suc k) && G i o)) 1 0
      join (inl e) (inl f) = rw (e, f) (grind (arith, nat_tests))
      join (inl e) (inr f) = grind (arith, nat_tests)
      join (inr e) _ = grind (arith, nat_tests)

  pub times-rows : (i o n k : ℕ) → times i o (rows G n k) ≡ cond (ltb i k && (ltb o n && G i o)) 1 0
  times-rows i o n zero = grind (arith, nat_tests)
  times-rows i o n (suc k) =
      times-append i o (rows G n k) (row G k n) ∙ ap₂ ◌+◌ (times-rows i o n k) (times-row i o k n) ∙ grind (arith, nat_tests)

  abbrev one : ℕ → ℕ → List (ℕ × ℕ)
  one p k = cond (G p k) ((p, k) ∷ []) []

  one_input : (i p k : ℕ) → with_input i (one p k) ≡ cond (eqb i p && G p k) 1 0
  one_input i p k = grind (arith, nat_tests)

  one-output : (o p k : ℕ) → with_output o (one p k) ≡ cond (eqb o k && G p k) 1 0
  one-output o p k = grind (arith, nat_tests)

  input-other : (i p k : ℕ) → (i ≡ p → ⊥) → with_input i (row G p k) ≡ 0
  input-other i p zero ne = refl
  input-other i p (suc k) ne =
      let r = input-other i p k ne in
      let e = input-append i (row G p k) (one p k) in
      let f = one_input i p k in
      grind (arith, nat_tests)

  input-some : (p k : ℕ) → 1 ≤ with_input p (row G p k) → (o : ℕ) × (o < k) × (G p o ≡ true)
  input-some p zero l = absurd (omega arith)
  input-some p (suc k) l = elim (cases_Bool (G p k)) [
    | inl e ↦ (k, omega arith, e)
    | inr e ↦
        let f : ◌≡◌ {A = ℕ} (with_input p (one p k)) 0 = ap (λ (b : Bool). with_input p (cond b ((p, k) ∷ []) [])) e in
        let r = input-some p k (omega (arith, input-append p (row G p k) (one p k))) in
        (r.0, omega (arith, r.1), r.2)
  ]

  input-row : (p k : ℕ) → ((o u : ℕ) → o < k → u < k → G p o ≡ true → G p u ≡ true → o ≡ u) → with_input p (row G p k) ≤ 1
  input-row p zero once = omega arith
  input-row p (suc k) once = elim (cases_Bool (G p k)) [
    | inl e ↦
        let f : ◌≡◌ {A = ℕ} (with_input p (one p k)) 1 = ap (λ (b : Bool). with_input p (cond b ((p, k) ∷ []) [])) e ∙ ap (λ (b : Bool). cond {A = ℕ} b 1 0 + 0) (eq-eqb p p refl) in
        elim (cases_lt 0 (with_input p (row G p k))) [
          | inl l ↦
              let r = input-some p k l in
              let same : r.0 ≡ k = once r.0 k (omega (arith, r.1)) (omega arith) r.2 e in
              absurd (omega (arith, r.1, same))
          | inr l ↦ omega (arith, input-append p (row G p k) (one p k))
        ]
    | inr e ↦
        let f : ◌≡◌ {A = ℕ} (with_input p (one p k)) 0 = ap (λ (b : Bool). with_input p (cond b ((p, k) ∷ []) [])) e in
        omega (arith, input-append p (row G p k) (one p k), input-row p k (λ o u x y. once o u (omega arith) (omega arith)))
  ]

  input-rows-past : (i n k : ℕ) → k ≤ i → with_input i (rows G n k) ≡ 0
  input-rows-past i n zero l = refl
  input-rows-past i n (suc k) l =
      omega (arith, input-append i (rows G n k) (row G k n), input-rows-past i n k (omega arith), input-other i k n (omega arith))

  pub input-rows : (i n k : ℕ) → k ≤ n → ((i o u : ℕ) → i < n → o < n → u < n → G i o ≡ true → G i u ≡ true → o ≡ u) → with_input i (rows G n k) ≤ 1
  input-rows i n zero l once = omega arith
  input-rows i n (suc k) l once = elim (cases_eq i k) [
    | inl e ↦
        let f : with_input i (row G k n) ≤ 1 = subst (λ (x : ℕ). with_input x (row G k n) ≤ 1) (sym e) (input-row k n (λ o u x y. once k o u (omega arith) x y)) in
        omega (arith, input-append i (rows G n k) (row G k n), input-rows-past i n k (omega arith))
    | inr e ↦ omega (arith, input-append i (rows G n k) (row G k n), input-rows i n k (omega arith) once, input-other i k n e)
  ]

  output_row : (o p k : ℕ) → with_output o (row G p k) ≡ cond (ltb o k && G p o) 1 0
  output_row o p zero = grind (arith, nat_tests)
  output_row o p (suc k) =
      output-append o (row G p k) (one p k) ∙ ap₂ ◌+◌ (output_row o p k) (one-output o p k) ∙ join (cases_eq o k)
    where
      join : (o ≡ k) ⊎ (o ≡ k → ⊥) → cond (ltb o k && G p o) 1 0 + cond (eqb o k && G p k) 1 0 ≡ cond (ltb o (suc k) && G p o) 1 0
      join (inl e) = rw e (grind (arith, nat_tests))
      join (inr e) = grind (arith, nat_tests)

  row-some : (o p n : ℕ) → 1 ≤ with_output o (row G p n) → (o < n) × (G p o ≡ true)
  row-some o p n l = elim (cases_Bool (ltb o n && G p o)) [
    | inl e ↦ (ltb-true o n (and_parts (ltb o n) (G p o) e).0, (and_parts (ltb o n) (G p o) e).1)
    | inr e ↦ let f : ◌≡◌ {A = ℕ} (cond (ltb o n && G p o) 1 0) 0 = ap (λ (b : Bool). cond {A = ℕ} b 1 0) e in absurd (omega (arith, output_row o p n))
  ]

  row-most : (o p n : ℕ) → with_output o (row G p n) ≤ 1
  row-most o p n = let e = output_row o p n in grind (arith, nat_tests)

  output-some : (o n k : ℕ) → 1 ≤ with_output o (rows G n k) → (i : ℕ) × (i < k) × (o < n) × (G i o ≡ true)
  output-some o n zero l = absurd (omega arith)
  output-some o n (suc k) l = elim (cases_lt 0 (with_output o (row G k n))) [
    | inl m ↦ let r = row-some o k n m in (k, omega arith, r.0, r.1)
    | inr m ↦ let r = output-some o n k (omega (arith, output-append o (rows G n k) (row G k n))) in (r.0, omega (arith, r.1), r.2, r.3)
  ]

  pub output-rows : (o n k : ℕ) → k ≤ n → ((i j o : ℕ) → i < n → j < n → o < n → G i o ≡ true → G j o ≡ true → i ≡ j) → with_output o (rows G n k) ≤ 1
  output-rows o n zero l once = omega arith
  output-rows o n (suc k) l once = elim (cases_lt 0 (with_output o (row G k n))) [
    | inl m ↦
        let r = row-some o k n m in
        elim (cases_lt 0 (with_output o (rows G n k))) [
          | inl x ↦
              let t = output-some o n k x in
              let same : t.0 ≡ k = once t.0 k o (omega (arith, t.1)) (omega arith) r.0 t.3 r.1 in
              absurd (omega (arith, t.1, same))
          | inr x ↦ omega (arith, output-append o (rows G n k) (row G k n), row-most o k n)
        ]
    | inr m ↦ omega (arith, output-append o (rows G n k) (row G k n), output-rows o n k (omega arith) once)
  ]

-- The pairs of a table in their order, the first taken out.
use Rattle.std.proofs.Common.{◌≡◌, ℕ, zero, suc, ◌<◌, ◌≤◌, Bool, true, false, cond, not, ◌&&◌, eqb, ◌⊎◌, List, [], ◌∷◌, ◌++◌, Some, None, sym, refl, ap, ◌∙◌, ap₂, inl, inr, arith}
use Rattle.std.proofs.lemmas.Bool.{eq-eqb, ne_eqb, cases_eq, cases_lt, and_parts}
use Rattle.pairs.specs.declared.table.Table.{Table}
use Rattle.pairs.specs.Tables.{holds, table_of, dropped, First}
use Rattle.pairs.proofs.Tables.{holds_of, held, held_below}
use Rattle.law.specs.View.{row, rows, pairs}
use Rattle.switch.specs.Ready.{Within}

row-none : (G : ℕ → ℕ → Bool) (i k : ℕ) → ((o : ℕ) → o < k → G i o ≡ false) → row G i k ≡ []
row-none G i zero none = refl
row-none G i (suc k) none = ap₂ (λ (xs : List (ℕ × ℕ)) (b : Bool). xs ++ cond b ((i, k) ∷ []) []) (row-none G i k (λ o l. none o (omega arith))) (none k (omega arith))

rows_none : (G : ℕ → ℕ → Bool) (n k : ℕ) → ((i o : ℕ) → i < k → o < n → G i o ≡ false) → rows G n k ≡ []
rows_none G n zero none = refl
rows_none G n (suc k) none = ap₂ ◌++◌ (rows_none G n k (λ i o l m. none i o (omega arith) m)) (row-none G k n (λ o m. none k o (omega arith) m))

row_same : (F G : ℕ → ℕ → Bool) (i k : ℕ) → ((o : ℕ) → o < k → F i o ≡ G i o) → row F i k ≡ row G i k
row_same F G i zero same = refl
row_same F G i (suc k) same = ap₂ (λ (xs : List (ℕ × ℕ)) (b : Bool). xs ++ cond b ((i, k) ∷ []) []) (row_same F G i k (λ o l. same o (omega arith))) (same k (omega arith))

-- G holds of (i, o) and of no pair before it, and F of the same pairs but for this one
module _ (G F : ℕ → ℕ → Bool) (n i o : ℕ) (here : G i o ≡ true) (gone : F i o ≡ false) (before : (j : ℕ) → j < i → (u : ℕ) → u < n → G j u ≡ false)
    (left : (u : ℕ) → u < o → G i u ≡ false) (same : (j u : ℕ) → j < n → u < n → ((j ≡ i) × (u ≡ o) → ⊥) → F j u ≡ G j u) (li : i < n) (lo : o < n) where
  row_first : (k : ℕ) → o < k → k ≤ n → row G i k ≡ (i, o) ∷ row F i k
  row_first zero l m = absurd (omega arith)
  row_first (suc k) l m = elim (cases_lt o k) [
    | inl y ↦ ap₂ (λ (xs : List (ℕ × ℕ)) (b : Bool). xs ++ cond b ((i, k) ∷ []) []) (row_first k y (omega arith)) (sym (same i k li (omega arith) (λ e. let f = e.1 in omega arith)))
    | inr y ↦
        let e : k ≡ o = omega arith in
        ap₂ (λ (xs : List (ℕ × ℕ)) (b : Bool). xs ++ cond b ((i, k) ∷ []) []) (row-none G i k (λ u z. left u (omega arith))) (ap (G i) e ∙ here)
        ∙ ap (λ (u : ℕ). (i, u) ∷ []) e
        ∙ ap (λ (xs : List (ℕ × ℕ)). (i, o) ∷ xs) (sym (ap₂ (λ (xs : List (ℕ × ℕ)) (b : Bool). xs ++ cond b ((i, k) ∷ []) [])
        (row-none F i k (λ u z. same i u li (omega arith) (λ e. let f = e.1 in omega arith) ∙ left u (omega arith))) (ap (F i) e ∙ gone)))
  ]

  rows-first : (k : ℕ) → i < k → k ≤ n → rows G n k ≡ (i, o) ∷ rows F n k
  rows-first zero l m = absurd (omega arith)
  rows-first (suc k) l m = elim (cases_lt i k) [
    | inl y ↦ ap₂ ◌++◌ (rows-first k y (omega arith)) (row_same G F k n (λ u z. sym (same k u (omega arith) z (λ e. let f = e.0 in omega arith))))
    | inr y ↦
        let e : i ≡ k = omega arith in
        ap₂ ◌++◌ (rows_none G n k (λ j u z w. before j (omega arith) u w)) (ap (λ (j : ℕ). row G j n) (sym e) ∙ row_first n lo (omega arith))
        ∙ ap (λ (xs : List (ℕ × ℕ)). (i, o) ∷ xs) (ap₂ ◌++◌ (sym (rows_none F n k (λ j u z w. same j u (omega arith) w (λ e. let f = e.0 in omega arith) ∙ before j (omega arith) u w))) (ap (λ (j : ℕ). row F j n) e))
  ]

pub false-if : (b : Bool) → (b ≡ true → ⊥) → b ≡ false
false-if true no_way = absurd (no_way refl)
false-if false no_way = refl

-- the pairs of n ports are the first one and those of the table without it
pub pairs_first : (n : ℕ) (t u : Table) (x : ℕ × ℕ) → n ≤ 8 → x.0 < n → x.1 < n → First t (Some x) → u ≡ table_of (dropped (holds t) x.0 x.1) → pairs n t ≡ x ∷ pairs n u
pairs_first n t u x few li lo f e = rows-first (holds t) (holds u) n x.0 x.1 f.0 gone before left same li lo n li (omega arith)
  where
    is : (j v : ℕ) → j < n → v < n → holds u j v ≡ (holds t j v && not (eqb j x.0 && eqb v x.1))
    is j v l m = ap (λ (s : Table). holds s j v) e ∙ holds_of (dropped (holds t) x.0 x.1) j v (omega arith) (omega arith)

    gone : holds u x.0 x.1 ≡ false
    gone = is x.0 x.1 li lo ∙ ap₂ (λ (a b : Bool). holds t x.0 x.1 && not (a && b)) (eq-eqb x.0 x.0 refl) (eq-eqb x.1 x.1 refl) ∙ never (holds t x.0 x.1)
      where
        never : (b : Bool) → (b && false) ≡ false
        never true = refl
        never false = refl

    before : (j : ℕ) → j < x.0 → (v : ℕ) → v < n → holds t j v ≡ false
    before j l v m = false-if (holds t j v) (λ h. let k = f.1 j v h in omega arith)

    left : (v : ℕ) → v < x.1 → holds t x.0 v ≡ false
    left v l = false-if (holds t x.0 v) (λ h. let k = f.1 x.0 v h in omega arith)

    same : (j v : ℕ) → j < n → v < n → ((j ≡ x.0) × (v ≡ x.1) → ⊥) → holds u j v ≡ holds t j v
    same j v l m differ = is j v l m ∙ kept (cases_eq j x.0) (cases_eq v x.1)
      where
        always : (b : Bool) → (b && true) ≡ b
        always true = refl
        always false = refl

        first-false : (b : Bool) → (b && false) ≡ false
        first-false true = refl
        first-false false = refl

        kept : (j ≡ x.0) ⊎ (j ≡ x.0 → ⊥) → (v ≡ x.1) ⊎ (v ≡ x.1 → ⊥) → (holds t j v && not (eqb j x.0 && eqb v x.1)) ≡ holds t j v
        kept (inl p) (inl q) = absurd (differ (p, q))
        kept (inl p) (inr q) = ap (λ (b : Bool). holds t j v && not (eqb j x.0 && b)) (ne_eqb v x.1 q) ∙ ap (λ (b : Bool). holds t j v && not b) (first-false (eqb j x.0)) ∙ always (holds t j v)
        kept (inr p) _ = ap (λ (b : Bool). holds t j v && not (b && eqb v x.1)) (ne_eqb j x.0 p) ∙ always (holds t j v)

-- and none if there is no first
pub pairs-none : (n : ℕ) (t : Table) → First t None → pairs n t ≡ []
pairs-none n t none = rows_none (holds t) n n (λ i o _ _. none i o)

-- a table without a pair is of the same ports
pub within-dropped : (n : ℕ) (t u : Table) (x : ℕ × ℕ) → n ≤ 8 → u ≡ table_of (dropped (holds t) x.0 x.1) → Within n t → Within n u
within-dropped n t u x few e w y h =
    let l = held_below u y.0 y.1 h in
    w y (and_parts (holds t y.0 y.1) (not (eqb y.0 x.0 && eqb y.1 x.1)) (sym (held u (dropped (holds t) x.0 x.1) e y.0 y.1 l.0 l.1) ∙ h)).0

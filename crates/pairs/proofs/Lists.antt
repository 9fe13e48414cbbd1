-- A list of numbers each of which is what a function makes of its place, by one test that computes.
use Rattle.std.proofs.Common.{◌≡◌, ℕ, zero, suc, ◌+◌, ◌<◌, Bool, true, false, not, ◌&&◌, eqb, ◌⊎◌, List, [], ◌∷◌, length, get_or, sym, refl, ap, ◌∙◌, inl, inr, le_of_suc-le-suc, not-suc-le-zero, add-zero, add-suc, suc-add, zero-add, arith}
use Rattle.std.proofs.lemmas.Bool.{and_parts, cases_eq, eqb-true}

-- each entry of a list is what F makes of its place, counted from k
abbrev pub every : (ℕ → ℕ) → ℕ → List ℕ → Bool
every F k [] = true
every F k (x ∷ xs) = eqb x (F k) && every F (suc k) xs

from : (F : ℕ → ℕ) (xs : List ℕ) (k : ℕ) → every F k xs ≡ true → (j : ℕ) → j < length xs → get_or xs j 0 ≡ F (k + j)
from F [] k t j h = absurd (not-suc-le-zero h)
from F (x ∷ xs) k t zero h = eqb-true x (F k) (and_parts (eqb x (F k)) _ t).0 ∙ ap F (sym (add-zero k))
from F (x ∷ xs) k t (suc j) h =
    from F xs (suc k) (and_parts (eqb x (F k)) _ t).1 j (le_of_suc-le-suc h) ∙ ap F (suc-add k j ∙ sym (add-suc k j))

-- what stands at a place of such a list
pub entry : (F : ℕ → ℕ) (xs : List ℕ) {j x : ℕ} → every F 0 xs ≡ true → j < length xs → x ≡ get_or xs j 0 → x ≡ F j
entry F xs {j} t h is = is ∙ from F xs 0 t j h ∙ ap F (zero-add j)

-- two tests that agree, as a test
abbrev agree : Bool → Bool → Bool
agree true b = b
agree false b = not b

agree_same : (a b : Bool) → agree a b ≡ true → a ≡ b
agree_same true b e = sym e
agree_same false true e = e
agree_same false false e = refl

-- two tests agree at every number below n
abbrev pub each : ℕ → (ℕ → Bool) → (ℕ → Bool) → Bool
each zero f g = true
each (suc n) f g = agree (f n) (g n) && each n f g

pub each_at : (n : ℕ) (f g : ℕ → Bool) → each n f g ≡ true → (k : ℕ) → k < n → f k ≡ g k
each_at zero f g t k h = absurd (not-suc-le-zero h)
each_at (suc n) f g t k h =
    go (cases_eq k n) (λ l. each_at n f g (and_parts (agree (f n) (g n)) (each n f g) t).1 k l)
  where
    go : (k ≡ n) ⊎ (k ≡ n → ⊥) → (k < n → f k ≡ g k) → f k ≡ g k
    go (inl e) ih = ap f e ∙ agree_same (f n) (g n) (and_parts (agree (f n) (g n)) (each n f g) t).0 ∙ sym (ap g e)
    go (inr e) ih = ih (omega arith)

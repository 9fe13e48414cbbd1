-- A table of all bytes is right if it is the list of the digits' values.
use Rattle.std.proofs.Common.{◌≡◌, ℕ, zero, suc, ◌+◌, ◌<◌, List, [], ◌∷◌, get_or, sym, ap, ◌∙◌, le_of_suc-le-suc, not-suc-le-zero, add-zero, arith}
use Rattle.lines.specs.Hex.{digit}

abbrev pub values : ℕ → ℕ → List ℕ
values p zero = []
values p (suc k) = digit p ∷ values (suc p) k

pub get_or-values : (p k i : ℕ) → i < k → get_or (values p k) i 0 ≡ digit (p + i)
get_or-values p zero i h = absurd (not-suc-le-zero h)
get_or-values p (suc k) zero h = ap digit (sym (add-zero p))
get_or-values p (suc k) (suc i) h =
    let e : suc p + i ≡ p + suc i = omega arith in
    get_or-values (suc p) k i (le_of_suc-le-suc h) ∙ ap digit e

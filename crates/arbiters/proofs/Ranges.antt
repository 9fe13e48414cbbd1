-- `any` over the numbers below another.
use Rattle.std.proofs.Common.{◌≡◌, ℕ, zero, suc, ◌+◌, Bool, true, false, ◌||◌, sym, refl, ap, ◌∙◌, add-one, arith}
use Rattle.std.specs.List.{list_any, range_with_len}
use Rattle.pairs.specs.Tables.{some}

exchanged : (x y z : Bool) → (x || (y || z)) ≡ ((y || x) || z)
exchanged true true z = refl
exchanged true false z = refl
exchanged false true z = refl
exchanged false false z = refl

or-false : (x : Bool) → (x || false) ≡ x
or-false true = refl
or-false false = refl

some-or-any : (n a b : ℕ) (f : ℕ → Bool) → a + n ≡ b → (some a f || list_any f (range_with_len a n)) ≡ some b f
unfolding some
some-or-any zero a b f e = let same : a ≡ b = omega arith in or-false (some a f) ∙ ap (λ (m : ℕ). some m f) same
some-or-any (suc n) a b f e =
    exchanged (some a f) (f a) _ ∙ ap (λ (m : ℕ). some m f || list_any f (range_with_len (a + 1) n)) (sym (add-one a))
    ∙ some-or-any n (a + 1) b f (omega arith)

pub any-is-some : (n : ℕ) (f : ℕ → Bool) → list_any f (range_with_len 0 n) ≡ some n f
unfolding some
any-is-some n f = some-or-any n 0 n f (omega arith)

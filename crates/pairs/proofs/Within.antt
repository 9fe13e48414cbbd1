-- Functions of pairs, kept to the first n inputs and outputs.
use Rattle.std.proofs.Common.{◌≡◌, ℕ, ◌<◌, Bool, true, false, ◌&&◌, ltb, sym, refl, ap₂}
use Rattle.std.proofs.lemmas.Bool.{and_parts, and_right, lt-ltb, ltb-true}
use Rattle.pairs.specs.Tables.{within}

-- F and G agree on the pairs of n inputs and outputs
pub within-at : (n : ℕ) (F G : ℕ → ℕ → Bool) (x y : ℕ) → (x < n → y < n → F x y ≡ G x y) → within n F x y ≡ within n G x y
within-at n F G x y h = go (ltb x n) (ltb y n) refl refl
  where
    go : (a b : Bool) → ltb x n ≡ a → ltb y n ≡ b → (a && b) && F x y ≡ (a && b) && G x y
    go true true p q = h (ltb-true x n p) (ltb-true y n q)
    go true false p q = refl
    go false b p q = refl

pub within-is : (n : ℕ) (F : ℕ → ℕ → Bool) (x y : ℕ) → x < n → y < n → within n F x y ≡ F x y
within-is n F x y p q = ap₂ (λ (a b : Bool). (a && b) && F x y) (lt-ltb x n p) (lt-ltb y n q)

pub within_none : (n : ℕ) (F : ℕ → ℕ → Bool) (x y : ℕ) → F x y ≡ false → false ≡ within n F x y
within_none n F x y e = sym (and_right (ltb x n && ltb y n) (F x y) e)

pub within-parts : (n : ℕ) (F : ℕ → ℕ → Bool) (x y : ℕ) → within n F x y ≡ true → (x < n) × (y < n) × (F x y ≡ true)
within-parts n F x y h =
    let a = and_parts (ltb x n && ltb y n) (F x y) h in
    let b = and_parts (ltb x n) (ltb y n) a.0 in
    (ltb-true x n b.0, ltb-true y n b.1, a.1)

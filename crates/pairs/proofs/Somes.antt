-- Some number below another, and the ports that a table's pairs have.
use Rattle.std.proofs.Common.{◌≡◌, ℕ, zero, suc, ◌+◌, ◌<◌, Bool, true, false, ◌||◌, ◌⊎◌, sym, refl, ap, ◌∙◌, inl, inr, add-one, arith}
use Rattle.std.proofs.lemmas.Bool.{both_ways, cases_eq, or_cases, or_from, or_left, or_right}
use Rattle.pairs.specs.declared.table.Table.{Table}
use Rattle.pairs.specs.Tables.{holds, joint, some}
use Rattle.pairs.proofs.Tables.{held_below}

pub same : (a b : Bool) → (a ≡ true → b ≡ true) → (b ≡ true → a ≡ true) → a ≡ b
same true true f g = refl
same true false f g = sym (f refl)
same false true f g = g refl
same false false f g = refl

pub some-by : (n : ℕ) (f : ℕ → Bool) → some n f ≡ true → (x : ℕ) × (x < n) × (f x ≡ true)
unfolding some
some-by zero f e = absurd (both_ways false refl e)
some-by (suc n) f e = go (or_cases (f n) (some n f) e) (some-by n f)
  where
    go : (f n ≡ true) ⊎ (some n f ≡ true) → (some n f ≡ true → (x : ℕ) × (x < n) × (f x ≡ true)) → (x : ℕ) × (x < suc n) × (f x ≡ true)
    go (inl h) ih = (n, omega arith, h)
    go (inr h) ih = let r = ih h in (r.0, omega arith, r.2)

pub some_at : (n : ℕ) (f : ℕ → Bool) (x : ℕ) → x < n → f x ≡ true → some n f ≡ true
unfolding some
some_at zero f x h e = absurd (omega arith)
some_at (suc n) f x h e = go (cases_eq x n) (λ l. some_at n f x l e)
  where
    go : (x ≡ n) ⊎ (x ≡ n → ⊥) → (x < n → some n f ≡ true) → (f n || some n f) ≡ true
    go (inl p) ih = or_left (f n) (some n f) (ap f (sym p) ∙ e)
    go (inr p) ih = or_right (f n) (some n f) (ih (omega arith))

pub some_more : (n : ℕ) (f : ℕ → Bool) → some n f ≡ false → f n ≡ false → some (n + 1) f ≡ false
unfolding some
some_more n f h e = ap (λ (m : ℕ). some m f) (add-one n) ∙ or_from (f n) (some n f) e h

-- ---- an end of a pair is in a pair of the table
pub joint-input : (t : Table) (i o u : ℕ) → holds t i u ≡ true → joint t i o ≡ true
unfolding joint
joint-input t i o u h = or_left (some 8 (λ u. holds t i u)) _ (some_at 8 (λ u. holds t i u) u (held_below t i u h).1 h)

pub joint-output : (t : Table) (i o j : ℕ) → holds t j o ≡ true → joint t i o ≡ true
unfolding joint
joint-output t i o j h = or_right (some 8 (λ u. holds t i u)) _ (some_at 8 (λ j. holds t j o) j (held_below t j o h).0 h)

pub joint-by : (t : Table) (i o : ℕ) → joint t i o ≡ true → ((u : ℕ) × (holds t i u ≡ true)) ⊎ ((j : ℕ) × (holds t j o ≡ true))
unfolding joint
joint-by t i o e = go (or_cases (some 8 (λ u. holds t i u)) (some 8 (λ j. holds t j o)) e)
  where
    go : (some 8 (λ u. holds t i u) ≡ true) ⊎ (some 8 (λ j. holds t j o) ≡ true) → ((u : ℕ) × (holds t i u ≡ true)) ⊎ ((j : ℕ) × (holds t j o ≡ true))
    go (inl h) = let r = some-by 8 (λ u. holds t i u) h in inl (r.0, r.2)
    go (inr h) = let r = some-by 8 (λ j. holds t j o) h in inr (r.0, r.2)

-- What is asked of a choice G among the requests R of n inputs and outputs: `wait` and `next` are the waits before and after it.
use Rattle.std.proofs.Common.{◌≡◌, ℕ, ◌<◌, Bool, true, false, ◌⊎◌}

pub record Decided (n : ℕ) (R G : ℕ → ℕ → Bool) (wait next : ℕ → ℕ → ℕ) : Type 0 where
  -- each granted pair was requested
  pub asked : (i o : ℕ) → i < n → o < n → G i o ≡ true → R i o ≡ true
  -- no input, and no output, is in two granted pairs
  pub input-once : (i o u : ℕ) → i < n → o < n → u < n → G i o ≡ true → G i u ≡ true → o ≡ u
  pub output-once : (i j o : ℕ) → i < n → j < n → o < n → G i o ≡ true → G j o ≡ true → i ≡ j
  -- a requested pair that is not granted shares its input or its output with a granted one
  pub blocked : (i o : ℕ) → i < n → o < n → R i o ≡ true → G i o ≡ false
      → ((j : ℕ) × (j < n) × (G j o ≡ true)) ⊎ ((u : ℕ) × (u < n) × (G i u ≡ true))
  -- and has a smaller wait afterwards
  pub nearer : (i o : ℕ) → i < n → o < n → R i o ≡ true → G i o ≡ false → next i o < wait i o

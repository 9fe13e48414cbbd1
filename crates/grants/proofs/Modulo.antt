-- Remainders of what is below 3 n, and what they make of the diagonals.
use Rattle.std.proofs.Common.{◌≡◌, ℕ, zero, suc, ◌+◌, ◌-◌, ◌*◌, ◌/◌, ◌%◌, ◌<◌, ◌⊎◌, inl, inr, arith}
use Rattle.std.proofs.lemmas.Nat.{div-add-mod', div_below, mod_below}
use Rattle.grants.specs.Diagonal.{partner, diagonal_wait}

pub record Rest (x n : ℕ) : Type 0 where
  pub below : x % n < n
  pub turns : (x ≡ x % n) ⊎ ((x ≡ x % n + n) ⊎ (x ≡ x % n + 2 * n))

pub rest : (x n : ℕ) → 0 < n → x < 3 * n → Rest x n
rest x n p h = record { below = mod_below x n p; turns = go (x / n) (div-add-mod' x n) (div_below x n 3 p h) }
  where
    go : (q : ℕ) → q * n + x % n ≡ x → q < 3 → (x ≡ x % n) ⊎ ((x ≡ x % n + n) ⊎ (x ≡ x % n + 2 * n))
    go zero e l = inl (omega arith)
    go (suc zero) e l = inr (inl (omega arith))
    go (suc (suc zero)) e l = inr (inr (omega arith))
    go (suc (suc (suc q))) e l = absurd (omega arith)

module _ (n d : ℕ) (turn : d < n) where
  pub partner-lt : (k x : ℕ) → partner n d k x < n
  unfolding partner
  partner-lt k x = mod_below (d + k + (n - x)) n (omega arith)

  pub wait-lt : (i o : ℕ) → diagonal_wait n d i o < n
  unfolding diagonal_wait
  wait-lt i o = mod_below (i + o + (n - d)) n (omega arith)

  -- the pair partner from o on the diagonal of (i, o) is i
  pub partner-wait-o : (i o : ℕ) → i < n → o < n → partner n d (diagonal_wait n d i o) o ≡ i
  unfolding partner diagonal_wait
  partner-wait-o i o p q =
      let w : (i + o + (n - d)) % n < n = wait-lt i o in
      omega (arith, rest (i + o + (n - d)) n (omega arith) (omega arith), rest (d + (i + o + (n - d)) % n + (n - o)) n (omega arith) (omega arith))

  pub partner-wait-i : (i o : ℕ) → i < n → o < n → partner n d (diagonal_wait n d i o) i ≡ o
  unfolding partner diagonal_wait
  partner-wait-i i o p q =
      let w : (i + o + (n - d)) % n < n = wait-lt i o in
      omega (arith, rest (i + o + (n - d)) n (omega arith) (omega arith), rest (d + (i + o + (n - d)) % n + (n - i)) n (omega arith) (omega arith))

  pub wait-partner-o : (k o : ℕ) → k < n → o < n → diagonal_wait n d (partner n d k o) o ≡ k
  unfolding partner diagonal_wait
  wait-partner-o k o p q =
      let w : (d + k + (n - o)) % n < n = partner-lt k o in
      omega (arith, rest (d + k + (n - o)) n (omega arith) (omega arith), rest ((d + k + (n - o)) % n + o + (n - d)) n (omega arith) (omega arith))

  pub wait-partner-i : (k i : ℕ) → k < n → i < n → diagonal_wait n d i (partner n d k i) ≡ k
  unfolding partner diagonal_wait
  wait-partner-i k i p q =
      let w : (d + k + (n - i)) % n < n = partner-lt k i in
      omega (arith, rest (d + k + (n - i)) n (omega arith) (omega arith), rest (i + (d + k + (n - i)) % n + (n - d)) n (omega arith) (omega arith))

  -- a wait that is not over is one shorter at the next turn
  pub wait-next : (i o : ℕ) → i < n → o < n → 0 < diagonal_wait n d i o → diagonal_wait n ((d + 1) % n) i o + 1 ≡ diagonal_wait n d i o
  unfolding diagonal_wait
  wait-next i o p q h =
      let m : (d + 1) % n < n = mod_below (d + 1) n (omega arith) in
      omega (arith, rest (d + 1) n (omega arith) (omega arith), rest (i + o + (n - d)) n (omega arith) (omega arith), rest (i + o + (n - (d + 1) % n)) n (omega arith) (omega arith))

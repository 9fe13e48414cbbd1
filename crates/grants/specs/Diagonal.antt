-- The diagonal arbiter of n ports at the turn d, below n: the pair (i, o) lies on the diagonal (i + o) mod n, and the diagonals
-- d, d + 1, .. d + n - 1, all mod n, follow one another. R has the requests.
use Rattle.std.specs.Prelude.{ℕ, zero, suc, ◌+◌, ◌-◌, ◌%◌, Bool, true}
use Rattle.grants.specs.Cell.{grant, south, east}

-- how many diagonals come before the one of the pair (i, o), which is its wait: (i + o - d) mod n
unfoldable pub diagonal_wait : ℕ → ℕ → ℕ → ℕ → ℕ
diagonal_wait n d i o = (i + o + (n - d)) % n

-- the port with which the port x stands in a pair on the k-th diagonal: (d + k - x) mod n
unfoldable pub partner : ℕ → ℕ → ℕ → ℕ → ℕ
partner n d k x = (d + k + (n - x)) % n

-- what comes to the k-th diagonal's pair of the output o from north, and of the input i from west: on the first diagonal both are
-- high, and on any other north is the south of the same output's pair on the diagonal before, west the east of the same input's
unfoldable mutual
  pub north_of : (ℕ → ℕ → Bool) → ℕ → ℕ → ℕ → ℕ → Bool
  north_of R n d zero o = true
  north_of R n d (suc k) o =
      south (R (partner n d k o) o) (north_of R n d k o) (west_of R n d k (partner n d k o))

  pub west_of : (ℕ → ℕ → Bool) → ℕ → ℕ → ℕ → ℕ → Bool
  west_of R n d zero i = true
  west_of R n d (suc k) i =
      east (R i (partner n d k i)) (north_of R n d k (partner n d k i)) (west_of R n d k i)

-- whether the pair (i, o) is granted
unfoldable pub diagonal_granted : (ℕ → ℕ → Bool) → ℕ → ℕ → ℕ → ℕ → Bool
diagonal_granted R n d i o =
    grant (R i o) (north_of R n d (diagonal_wait n d i o) o) (west_of R n d (diagonal_wait n d i o) i)

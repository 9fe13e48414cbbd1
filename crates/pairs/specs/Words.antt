-- The bits of a number, and the number of given bits.
use Rattle.std.specs.Prelude.{ℕ, zero, suc, ◌+◌, ◌-◌, ◌*◌, Bool, true, false, ◌&&◌, ◌||◌, ◌==◌, nat_le}
use Rattle.std.specs.Int.{bit_at}

-- the bit at place k
unfoldable pub bit : ℕ → ℕ → Bool
bit x k = bit_at x k == 1

abbrev pub digit : Bool → ℕ
digit true = 1
digit false = 0

-- the number whose k bits, from the lowest, are f 0, f 1, ..
unfoldable pub word : (ℕ → Bool) → ℕ → ℕ
word f zero = 0
word f (suc k) = digit (f 0) + 2 * word (λ j. f (suc j)) k

-- the place k of x, or of the two places that stand `distance` apart, the lower of which is marked in `low`
unfoldable pub paired_bit : ℕ → ℕ → ℕ → ℕ → Bool
paired_bit x distance low k =
    bit x k || ((bit low k && bit x (distance + k)) || (nat_le distance k && (bit low (k - distance) && bit x (k - distance))))

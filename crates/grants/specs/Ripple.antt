-- The ripple arbiter of n ports, whose first row is the input a and whose first column is the output b, both below n: the row of an
-- input i is (i - a) mod n, and the column of an output o is (o - b) mod n.
use Rattle.std.specs.Prelude.{ℕ, zero, suc, ◌+◌, ◌-◌, ◌*◌, ◌%◌, Bool, true}
use Rattle.grants.specs.Cell.{grant, south, east}

-- the port that stands u places after the port a, and how many places the port x stands after it
unfoldable pub port : ℕ → ℕ → ℕ → ℕ
port n a u = (u + a) % n

unfoldable pub gap : ℕ → ℕ → ℕ → ℕ
gap n a x = (x + (n - a)) % n

-- what comes from west to the column v of a row whose requests are r and to which N comes from north: in the first column it is
-- high, and in any other it is the east of the column before
unfoldable pub along : (ℕ → Bool) → (ℕ → Bool) → ℕ → Bool
along r N zero = true
along r N (suc v) = east (r v) (N v) (along r N v)

-- what comes from north to the row u and the column v, where Q has the requests by row and column: in the first row it is high,
-- and in any other it is the south of the row before
unfoldable pub north_at : (ℕ → ℕ → Bool) → ℕ → ℕ → Bool
north_at Q zero v = true
north_at Q (suc u) v = south (Q u v) (north_at Q u v) (along (Q u) (north_at Q u) v)

unfoldable pub west_at : (ℕ → ℕ → Bool) → ℕ → ℕ → Bool
west_at Q u v = along (Q u) (north_at Q u) v

-- the requests by row and column
abbrev pub turned : (ℕ → ℕ → Bool) → ℕ → ℕ → ℕ → ℕ → ℕ → Bool
turned R n a b u v = R (port n a u) (port n b v)

-- whether the pair (i, o) is granted
unfoldable pub ripple_granted : (ℕ → ℕ → Bool) → ℕ → ℕ → ℕ → ℕ → ℕ → Bool
ripple_granted R n a b i o =
    grant (R i o) (north_at (turned R n a b) (gap n a i) (gap n b o)) (west_at (turned R n a b) (gap n a i) (gap n b o))

-- the wait of the pair (i, o) at the turn t = a × n + b: (i × n + o - t) mod n²
unfoldable pub ripple_wait : ℕ → ℕ → ℕ → ℕ → ℕ
ripple_wait n t i o = (i * n + o + (n * n - t)) % (n * n)

-- Which pairs a table holds, and the table of given pairs; which ports a set holds, and the set of given ports.
-- Pairs outside 8 × 8 are in no table, and ports of 8 and above are in no set.
use Rattle.std.specs.Prelude.{◌≡◌, ℕ, zero, suc, ◌+◌, ◌-◌, ◌*◌, ◌/◌, ◌%◌, ◌≤◌, Bool, true, false, not, ◌&&◌, ◌||◌, Some, None, Option, ◌==◌, nat_lt}
use Rattle.pairs.specs.declared.ports.Ports.{Ports}
use Rattle.pairs.specs.declared.table.Table.{Table}
use Rattle.pairs.specs.Words.{bit, digit, word}

-- F, of the pairs of the first n inputs and outputs alone
abbrev pub within : ℕ → (ℕ → ℕ → Bool) → ℕ → ℕ → Bool
within n F i o = (nat_lt i n && nat_lt o n) && F i o

-- whether the pair (i, o) is in the table
unfoldable pub holds : Table → ℕ → ℕ → Bool
holds t = within 8 (λ i o. bit t.bits (i * 8 + o))

-- the table of the pairs (i, o), i and o below 8, of which F is true
unfoldable pub table_of : (ℕ → ℕ → Bool) → Table
table_of F = record { bits = word (λ k. F (k / 8) (k % 8)) 64 }

-- F, and the pair (i, o)
abbrev pub added : (ℕ → ℕ → Bool) → ℕ → ℕ → ℕ → ℕ → Bool
added F i o x y = (x == i && y == o) || F x y

-- F, but for the pair (i, o)
abbrev pub dropped : (ℕ → ℕ → Bool) → ℕ → ℕ → ℕ → ℕ → Bool
dropped F i o x y = F x y && not (x == i && y == o)

-- F, and the pairs of the input i and the outputs f
abbrev pub filled : (ℕ → ℕ → Bool) → ℕ → (ℕ → Bool) → ℕ → ℕ → Bool
filled F i f x y = (x == i && f y) || F x y

-- whether f is true of some number below n
unfoldable pub some : ℕ → (ℕ → Bool) → Bool
some zero f = false
some (suc n) f = f n || some n f

-- f 0 + f 1 + .. + f (n - 1)
unfoldable pub total : ℕ → (ℕ → ℕ) → ℕ
total zero f = 0
total (suc n) f = total n f + f n

-- how many pairs the table has
unfoldable pub size : Table → ℕ
size t = total 8 (λ i. total 8 (λ o. digit (holds t i o)))

-- whether the input i or the output o is in a pair of the table
unfoldable pub joint : Table → ℕ → ℕ → Bool
joint t i o = some 8 (λ u. holds t i u) || some 8 (λ j. holds t j o)

-- the pair of the lowest input, and for that input of the lowest output
abbrev pub First : Table → Option (ℕ × ℕ) → Type 0
First t None = (i o : ℕ) → holds t i o ≡ false
First t (Some p) = (holds t p.0 p.1 ≡ true) × ((i o : ℕ) → holds t i o ≡ true → p.0 * 8 + p.1 ≤ i * 8 + o)

-- whether the port x is in the set
unfoldable pub inside : Ports → ℕ → Bool
inside p x = nat_lt x 8 && bit p.bits x

-- the set of the ports below 8 of which f is true
unfoldable pub ports_of : (ℕ → Bool) → Ports
ports_of f = record { bits = word f 8 }

-- f, and the port x
abbrev pub joined : (ℕ → Bool) → ℕ → ℕ → Bool
joined f x y = y == x || f y

-- f, but for the port x
abbrev pub removed : (ℕ → Bool) → ℕ → ℕ → Bool
removed f x y = not (y == x) && f y

-- how many ports on from `start` the port x is, where port 0 comes after port 7
abbrev pub ahead : ℕ → ℕ → ℕ
ahead start x = (x + (8 - start % 8)) % 8

-- the first port of the set from `start` on
abbrev pub NextFrom : Ports → ℕ → Option ℕ → Type 0
NextFrom p start None = (x : ℕ) → inside p x ≡ false
NextFrom p start (Some y) = (inside p y ≡ true) × ((x : ℕ) → inside p x ≡ true → ahead start y ≤ ahead start x)

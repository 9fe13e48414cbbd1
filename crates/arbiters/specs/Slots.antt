-- What is granted in a reserved slot, and how pairs are reserved: p has the reserved pairs and r the requests.
use Rattle.std.specs.Prelude.{ℕ, Bool, not, ◌&&◌, ◌||◌, ◌==◌}
use Rattle.pairs.specs.declared.table.Table.{Table}
use Rattle.pairs.specs.Tables.{holds, joint, some, table_of, within}
use Rattle.grants.specs.Diagonal.{diagonal_granted}

-- the requested reserved pairs of n ports
unfoldable pub kept_pairs : ℕ → Table → Table → Table
kept_pairs n p r = table_of (within n (λ i o. holds r i o && holds p i o))

-- the requested pairs whose two ends are free of those
unfoldable pub free_requests : ℕ → Table → Table → Table
free_requests n p r = table_of (λ i o. holds r i o && not (joint (kept_pairs n p r) i o))

-- what is granted: the requested reserved pairs, and of the free ones what the diagonals 0 to n - 1 give one after the other
unfoldable pub reserved_grants : ℕ → Table → Table → Table
reserved_grants n p r = table_of (within n (λ i o. holds (kept_pairs n p r) i o || diagonal_granted (holds (free_requests n p r)) n 0 i o))

-- whether the output o is reserved by another input than i
unfoldable pub by_another : Table → ℕ → ℕ → Bool
by_another p i o = some 8 (λ j. not (j == i) && holds p j o)

-- the table with the pair (i, o), in place of what the input i had
unfoldable pub replaced : Table → ℕ → ℕ → Table
replaced p i o = table_of (λ x y. (x == i && y == o) || (holds p x y && not (x == i)))

-- The header of a stored cell, taken off and put back.
use Rattle.std.specs.Prelude.{ℕ, List, [], ◌∷◌, ◌++◌, drop, slice_index}

-- the first four bytes of a cell
abbrev pub header_of : List ℕ → List ℕ
header_of cell = slice_index cell 0 ∷ slice_index cell 1 ∷ slice_index cell 2 ∷ slice_index cell 3 ∷ []

-- a cell with these in their place
abbrev pub with_header : List ℕ → List ℕ → List ℕ
with_header header cell = header ++ drop 4 cell

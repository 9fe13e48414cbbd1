-- What the lines of an input are, as a relation.
use Rattle.std.specs.Prelude.{◌≡◌, ℕ, ◌<◌, List, [], ◌∷◌, ◌++◌, length, ◌≢◌}
use Rattle.lines.specs.Lines.{lines}

-- no byte is 0A
abbrev pub Plain : List ℕ → Type 0
Plain [] = Unit {0}
Plain (b ∷ rest) = (b ≢ 10) × Plain rest

-- nothing has no line; a line ends with 0A, or with the input unless it is empty
pub data Lined : List ℕ → List (List ℕ) → Type 0 where
  none : Lined [] []
  last : (l : List ℕ) → Plain l → 0 < length l → Lined l (l ∷ [])
  line : (l rest : List ℕ) (more : List (List ℕ)) → Plain l → Lined rest more → Lined (l ++ 10 ∷ rest) (l ∷ more)

-- every input is cut into lines in one way, and `lines` gives it
abbrev pub OneWay : Type 0
OneWay = ((input : List ℕ) → Lined input (lines input)) × ((input : List ℕ) (found : List (List ℕ)) → Lined input found → found ≡ lines input)

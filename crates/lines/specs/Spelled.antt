-- What it is for a line to spell bytes, as a relation, and where a line goes wrong.
use Rattle.std.specs.Prelude.{◌≡◌, ℕ, ◌+◌, ◌*◌, ◌<◌, ◌⊎◌, List, [], ◌∷◌, ◌++◌, length, take, Ok, Err}
use Rattle.lines.specs.Hex.{digit, hex}

-- one pair or more, one space allowed between two
pub data Pairs : List ℕ → List ℕ → Type 0 where
  one : (a b : ℕ) → digit a < 16 → digit b < 16 → Pairs (a ∷ b ∷ []) ((16 * digit a + digit b) ∷ [])
  next : (a b : ℕ) (rest xs : List ℕ) → digit a < 16 → digit b < 16 → Pairs rest xs → Pairs (a ∷ b ∷ rest) ((16 * digit a + digit b) ∷ xs)
  spaced : (a b : ℕ) (rest xs : List ℕ) → digit a < 16 → digit b < 16 → Pairs rest xs → Pairs (a ∷ b ∷ 32 ∷ rest) ((16 * digit a + digit b) ∷ xs)

pub data Spelled : List ℕ → List ℕ → Type 0 where
  nothing : Spelled [] []
  pairs_of : (line xs : List ℕ) → Pairs line xs → Spelled line xs

-- a reading succeeds just where there is a spelling, with the bytes that it spells
abbrev pub OneReading : Type 0
OneReading = ((line xs : List ℕ) → Spelled line xs → hex line ≡ Ok xs) × ((line xs : List ℕ) → hex line ≡ Ok xs → Spelled line xs)

-- the place p of a refusal: the bytes before it begin some spelling, and with the byte at p, if the line has one, they begin none
abbrev pub Begins : List ℕ → Type 0
Begins xs = (more : List ℕ) × ((ys : List ℕ) × Spelled (xs ++ more) ys)

abbrev pub FirstWrong : Type 0
FirstWrong = (line : List ℕ) (p : ℕ) → hex line ≡ Err p → (Begins (take p line)) × ((p ≡ length line) ⊎ ((p < length line) × (Begins (take (p + 1) line) → ⊥)))

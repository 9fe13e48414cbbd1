-- Frames as bytes, bytes as upper-case digits, and the theorem on frames and the lines that spell them.
use Rattle.std.specs.Prelude.{◌≡◌, ℕ, ◌+◌, ◌/◌, ◌%◌, ◌<◌, ◌≤◌, cond, ◌⊎◌, List, [], ◌∷◌, ◌++◌, length, Ok, Err, ◌≢◌, nat_lt, slice_index}
use Rattle.refusals.specs.declared.refusal.Refusal.{Refusal}
use Rattle.lines.specs.declared.frame.Frame.{Frame}
use Rattle.lines.specs.declared.frame.Frame.TheVariants.{Start, Route, Cell, Close}
use Rattle.lines.specs.Frames.{frame_of, code_of}
use Rattle.lines.specs.Spelled.{Spelled}

-- the upper-case digit of a value below 16
unfoldable pub upper : ℕ → ℕ
upper d = cond (nat_lt d 10) (48 + d) (55 + d)

-- two digits for each byte
unfoldable pub spell : List ℕ → List ℕ
spell [] = []
spell (x ∷ xs) = upper (x / 16) ∷ upper (x % 16) ∷ spell xs

-- wide numbers put the high byte first
abbrev pub high-two : ℕ → List ℕ
high-two n = n / 256 % 256 ∷ n % 256 ∷ []

abbrev pub high-four : ℕ → List ℕ
high-four n = n / 16777216 % 256 ∷ n / 65536 % 256 ∷ n / 256 % 256 ∷ n % 256 ∷ []

abbrev pub bytes_of : Frame → List ℕ
bytes_of (Start ports arbiter mark first) = 0 ∷ ports ∷ code_of arbiter ∷ (high-four mark ++ high-four first)
bytes_of (Route input vci output new_vci) = 1 ∷ input ∷ (high-two vci ++ (output ∷ high-two new_vci))
bytes_of (Cell input cell) = 2 ∷ input ∷ cell
bytes_of Close = 3 ∷ []

-- the frame in upper case without spaces
abbrev pub canonical : Frame → List ℕ
canonical f = spell (bytes_of f)

-- what a frame can hold: numbers that fit their bytes, a cell of 53 bytes
abbrev pub Sound : Frame → Type 0
Sound (Start ports arbiter mark first) = (ports < 256) × (mark < 4294967296) × (first < 4294967296)
Sound (Route input vci output new_vci) = (input < 256) × (vci < 65536) × (output < 256) × (new_vci < 65536)
Sound (Cell input cell) = (input < 256) × (length cell ≡ 53) × ((i : ℕ) → slice_index cell i < 256)
Sound Close = Unit {0}

-- the line spells the frame, in either case and with or without spaces between pairs, in at most 200 bytes
abbrev pub Spells : List ℕ → Frame → Type 0
Spells line f = (Spelled line (bytes_of f)) × (Sound f) × (length line ≤ 200)

-- 0 to 9 or A to F
abbrev pub UpperDigit : ℕ → Type 0
UpperDigit b = ((48 ≤ b) × (b ≤ 57)) ⊎ ((65 ≤ b) × (b ≤ 70))

abbrev pub AllUpper : List ℕ → Type 0
AllUpper [] = Unit {0}
AllUpper (b ∷ rest) = UpperDigit b × AllUpper rest

pub record FramesSpelled : Type 0 where
  -- a line is read as a frame exactly if it spells that frame
  pub reads : (line : List ℕ) (f : Frame) → Spells line f → frame_of line ≡ Ok f
  pub read_only : (line : List ℕ) (f : Frame) → frame_of line ≡ Ok f → Spells line f
  -- no line that spells a frame is refused
  pub not-refused : (line : List ℕ) (f : Frame) (r : Refusal) → Spells line f → frame_of line ≢ Err r
  -- each frame has a spelling in upper case without spaces, and no second one
  pub has-spelling : (f : Frame) → Sound f → AllUpper (canonical f) × Spells (canonical f) f
  pub one-spelling : (line : List ℕ) (f : Frame) → AllUpper line → Spells line f → line ≡ canonical f

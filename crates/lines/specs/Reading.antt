-- What a reader answers, call by call and over a whole input.
use Rattle.std.specs.Prelude.{◌≡◌, ℕ, ◌+◌, min, cond, List, [], ◌∷◌, ◌++◌, length, take, drop, Some, None, Option, ◌==◌}
use Rattle.lines.specs.Frames.{frame_of}
use Rattle.lines.specs.declared.reader.SlotLine.{SlotLine}
use Rattle.lines.specs.declared.reader.Fed.{Fed}
use Rattle.lines.specs.declared.reader.LineReader.{LineReader}
use Rattle.lines.specs.Lines.{lines_after, lines, up_to, ends}

-- the line numbers stop at their largest
abbrev pub next : ℕ → ℕ
next n = min (n + 1) 4294967295

abbrev pub line_of : ℕ → List ℕ → SlotLine
line_of n bytes = record { number = n; frame = frame_of bytes }

-- what the lines say, the first having the number n
unfoldable pub numbered : ℕ → List (List ℕ) → List SlotLine
numbered n [] = []
numbered n (bytes ∷ more) = line_of n bytes ∷ numbered (next n) more

-- the number of the line that is being read, and its first 201 bytes as far as they have come
pub record Reading : Type 0 where
  pub number : ℕ
  pub held : List ℕ

abbrev pub reading : LineReader → Reading
reading r = record { number = r.number; held = r.start.items }

abbrev pub fresh : Reading
fresh = record { number = 1; held = [] }

-- one call uses a piece up to its first 0A, or to its end
abbrev pub fed : Reading → List ℕ → Fed
fed v piece =
    cond (ends piece)
    (record { used = length (up_to piece) + 1; line = Some (line_of v.number (v.held ++ up_to piece)) })
    (record { used = length piece; line = None })

abbrev pub after : Reading → List ℕ → Reading
after v piece =
    cond (ends piece)
    (record { number = next v.number; held = [] })
    (record { number = v.number; held = take 201 (v.held ++ piece) })

-- at the end of the input a line that has begun is a line
abbrev pub last : Reading → Option SlotLine
last v = cond (length v.held == 0) None (Some (line_of v.number v.held))

-- what a reader still answers if this is what is left of the input
abbrev pub still : Reading → List ℕ → List SlotLine
still v input = numbered v.number (lines_after v.held input)

abbrev pub as_list : Option SlotLine → List SlotLine
as_list None = []
as_list (Some l) = l ∷ []

-- The answers of a reader that is fed an input, cut into pieces in any way, and then ended.
-- A piece is any front of what is left of the input; what a call does not use of it is left.
pub data Reads : Reading → List ℕ → List SlotLine → Type 0 where
  ended : (v : Reading) → Reads v [] (as_list (last v))
  piece : (v : Reading) (p rest : List ℕ) (more : List SlotLine) →
      Reads (after v p) (drop (fed v p).used p ++ rest) more →
      Reads v (p ++ rest) (as_list (fed v p).line ++ more)

-- however the input is cut, the answers are what its lines say, numbered from 1
abbrev pub AnyCut : Reading → Type 0
AnyCut v = (input : List ℕ) (answers : List SlotLine) → Reads v input answers → answers ≡ numbered 1 (lines input)

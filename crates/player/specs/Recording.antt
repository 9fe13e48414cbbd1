-- What a recording comes to: the bytes that are written for its bytes, however they come in pieces.
use Rattle.std.specs.Prelude.{◌≡◌, ℕ, List, [], ◌∷◌, ◌++◌, drop, Some, None, Option}
use Rattle.lines.specs.declared.reader.SlotLine.{SlotLine}
use Rattle.lines.specs.Lines.{lines}
use Rattle.lines.specs.Reading.{Reading, fresh, fed, after, last, numbered, still}
use Rattle.player.specs.Playing.{Stands, Played, line_played, last_lines}

-- what is written for some lines, and then at the end of the input
abbrev pub written : Option Stands → List SlotLine → List ℕ
written s [] = last_lines s
written s (l ∷ more) = (line_played s l).written ++ written (line_played s l).stands more

-- what a whole recording comes to
abbrev pub comes_to : List ℕ → List ℕ
comes_to input = written None (numbered 1 (lines input))

-- a player: what it has read of a line, and what stands
pub record Held : Type 0 where
  pub reading : Reading
  pub stands : Option Stands

-- before anything was read, nothing stands
abbrev pub starts : Held
starts = record { reading = fresh; stands = None }

-- one call uses a piece up to its first 0A, or to its end, and plays the line that ends there
abbrev pub maybe_played : Option Stands → Option SlotLine → Played (Option Stands)
maybe_played s None = record { stands = s; written = [] }
maybe_played s (Some l) = line_played s l

abbrev pub piece_played : Held → List ℕ → Played Held
piece_played h piece =
    let p = maybe_played h.stands (fed h.reading piece).line in
    record { stands = record { reading = after h.reading piece; stands = p.stands }; written = p.written }

-- the end of the input: a line that has begun is played, and an open slot is ended
abbrev pub end_played : Held → List ℕ
end_played h =
    let p = maybe_played h.stands (last h.reading) in
    p.written ++ last_lines p.stands

-- what a player still writes if this is what is left of the input
abbrev pub still_written : Held → List ℕ → List ℕ
still_written h input = written h.stands (still h.reading input)

-- What a player writes that is fed an input, cut into pieces in any way, and then ended.
-- A piece is any front of what is left of the input; what a call does not use of it is left.
pub data Plays : Held → List ℕ → List ℕ → Type 0 where
  ended : (h : Held) → Plays h [] (end_played h)
  piece : (h : Held) (p rest more : List ℕ) →
      Plays (piece_played h p).stands (drop (fed h.reading p).used p ++ rest) more →
      Plays h (p ++ rest) ((piece_played h p).written ++ more)

-- however the input is cut, what is written is what the recording comes to
abbrev pub AnyPieces : Held → Type 0
AnyPieces h = (input output : List ℕ) → Plays h input output → output ≡ comes_to input

-- The frame that a line spells, or why it spells none.
use Rattle.std.specs.Prelude.{ℕ, ◌+◌, ◌*◌, cond, List, codes, length, Ok, Err, Result, ◌==◌, nat_lt, slice_index}
use Rattle.std.specs.List.{between}
use Rattle.refusals.specs.declared.refusal.Refusal.{Refusal}
use Rattle.refusals.specs.declared.refusal.Refusal.TheVariants.{LineTooLong, WrongDigit, UnknownKind, FrameLength, UnknownArbiter}
use Rattle.lines.specs.declared.frame.Frame.{Frame}
use Rattle.lines.specs.declared.frame.Frame.TheVariants.{Start, Route, Cell, Close}
use Rattle.lines.specs.declared.frame.ArbiterKind.{ArbiterKind}
use Rattle.lines.specs.declared.frame.ArbiterKind.TheVariants.{Diagonal, Ripple}
use Rattle.lines.specs.Hex.{hex}

-- the number in the bytes from the place i on, the high byte first
abbrev pub two : List ℕ → ℕ → ℕ
two xs i = slice_index xs i * 256 + slice_index xs (i + 1)

abbrev pub four : List ℕ → ℕ → ℕ
four xs i = slice_index xs i * 16777216 + slice_index xs (i + 1) * 65536 + slice_index xs (i + 2) * 256 + slice_index xs (i + 3)

-- the arbiter that a code stands for
abbrev pub kind_of : ℕ → Result ArbiterKind Refusal
kind_of code = cond (code == 1) (Ok Diagonal) (cond (code == 2) (Ok Ripple) (Err UnknownArbiter))

-- the code that stands for an arbiter
abbrev pub code_of : ArbiterKind → ℕ
code_of Diagonal = 1
code_of Ripple = 2

-- the arbiter in words
abbrev pub name_of : ArbiterKind → List ℕ
name_of Diagonal = codes "diagonal"
name_of Ripple = codes "ripple"

-- the frame with its arbiter, if its code stands for one
abbrev pub with_kind : Result ArbiterKind Refusal → (ArbiterKind → Frame) → Result Frame Refusal
with_kind (Ok kind) f = Ok (f kind)
with_kind (Err refusal) f = Err refusal

-- the frame, if it has n bytes
abbrev pub sized : List ℕ → ℕ → Result Frame Refusal → Result Frame Refusal
sized xs n f = cond (length xs == n) f (Err FrameLength)

-- 00, port count, arbiter code, mark, first slot
abbrev pub start_in : List ℕ → Result Frame Refusal
start_in xs = sized xs 11 (with_kind (kind_of (slice_index xs 2)) (λ kind. Start (slice_index xs 1) kind (four xs 3) (four xs 7)))

-- 01, input, VCI, output, new VCI
abbrev pub route_in : List ℕ → Result Frame Refusal
route_in xs = sized xs 7 (Ok (Route (slice_index xs 1) (two xs 2) (slice_index xs 4) (two xs 5)))

-- 02, input, cell
abbrev pub cell_in : List ℕ → Result Frame Refusal
cell_in xs = sized xs 55 (Ok (Cell (slice_index xs 1) (between 2 55 xs)))

-- 03
abbrev pub close_in : List ℕ → Result Frame Refusal
close_in xs = sized xs 1 (Ok Close)

-- the frame in some bytes, by its kind, the first byte
abbrev pub frame_in : List ℕ → Result Frame Refusal
frame_in xs =
    cond (length xs == 0) (Err FrameLength)
    (cond (slice_index xs 0 == 0) (start_in xs)
    (cond (slice_index xs 0 == 1) (route_in xs)
    (cond (slice_index xs 0 == 2) (cell_in xs)
    (cond (slice_index xs 0 == 3) (close_in xs)
    (Err UnknownKind)))))

-- the place of a wrong or missing digit makes a refusal
abbrev pub decoded : Result (List ℕ) ℕ → Result (List ℕ) Refusal
decoded (Ok xs) = Ok xs
decoded (Err place) = Err (WrongDigit place)

abbrev pub spelled : Result (List ℕ) ℕ → Result Frame Refusal
spelled (Ok xs) = frame_in xs
spelled (Err place) = Err (WrongDigit place)

-- of a whole line, without the 0A that ends it
unfoldable pub frame_of : List ℕ → Result Frame Refusal
frame_of line = cond (nat_lt 200 (length line)) (Err LineTooLong) (spelled (hex line))

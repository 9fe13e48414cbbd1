-- The bytes that the answers of a machine are written as.
use Rattle.std.specs.Prelude.{ℕ, List, [], ◌++◌, Ok, Err, Result}
use Rattle.std.specs.List.{flat_map}
use Rattle.refusals.specs.declared.refusal.Refusal.{Refusal}
use Rattle.refusals.specs.Numbers.{number_of}
use Rattle.lines.specs.declared.written.DepartureLine.{DepartureLine}
use Rattle.lines.specs.Written.{written, departure_bytes, closing_bytes, refusal_bytes}
use Rattle.machine.specs.declared.departures.Sent.{Sent}
use Rattle.machine.specs.Standing.{Ended}

-- what is told of a cell that was sent: the output, the fields of its note, and the cell
abbrev pub departure_of : Sent → DepartureLine
departure_of x = record { output = x.output; slot = x.note.slot; input = x.note.input; came = x.note.came; left = x.note.left; cell = x.cell }

-- a line for each cell that was sent, in order
abbrev pub sent_lines : List Sent → List ℕ
sent_lines = flat_map (λ x. written (departure_bytes (departure_of x)))

-- and then the line of the closing
abbrev pub ended_lines : Ended → List ℕ
ended_lines e = sent_lines e.sent ++ written (closing_bytes e.closed.slot e.closed.grants)

-- the line n was refused
abbrev pub refusal_line : ℕ → Refusal → List ℕ
refusal_line n k = written (refusal_bytes n (number_of k))

-- what is written of an answer to the line n
abbrev pub answer_lines : {T : Type 0} → (T → List ℕ) → ℕ → Result T Refusal → List ℕ
answer_lines lines n (Ok x) = lines x
answer_lines lines n (Err k) = refusal_line n k

-- most answers are not written
abbrev pub silent : {T : Type 0} → T → List ℕ
silent x = []

-- The slot bytes, 53 for each output.
use Rattle.std.specs.Prelude.{ℕ, ◌+◌, ◌*◌, Bool, cond, List, length, Ok, Err, Result, nat_le}
use Rattle.refusals.specs.declared.refusal.Refusal.{Refusal}
use Rattle.refusals.specs.declared.refusal.Refusal.TheVariants.{SlotBytesLength}
use Rattle.law.specs.declared.memory.Block.{Block}
use Rattle.law.specs.View.{leaving, part, parted}
use Rattle.outgoing.specs.Look.{of_length}

-- output o has its 53 among these bytes
abbrev pub has_part : ℕ → List ℕ → Bool
has_part o bytes = nat_le (o * 53 + 53) (length bytes)

-- the slot bytes once the cell of a block is sent to output o
abbrev pub sending : List ℕ → ℕ → Block → Result (List ℕ) Refusal
sending bytes o b = cond (has_part o bytes) (Ok (parted o (leaving b) bytes)) (Err SlotBytesLength)

-- the line of output o: its slot bytes if it was sent to, otherwise the idle cell
abbrev pub line_of : List ℕ → ℕ → Bool → List ℕ → Result (List ℕ) Refusal
line_of bytes o sent idle = cond (has_part o bytes) (of_length idle (cond sent (part o bytes) idle)) (Err SlotBytesLength)

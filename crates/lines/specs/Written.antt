-- The lines that are written: for a cell that was sent, a slot that was closed, a line that was refused.
use Rattle.std.specs.Prelude.{ℕ, List, [], ◌∷◌, ◌++◌}
use Rattle.lines.specs.declared.written.DepartureLine.{DepartureLine}
use Rattle.lines.specs.Spelling.{spell, high-two, high-four}

-- the bytes in upper case without spaces, and 0A
abbrev pub written : List ℕ → List ℕ
written bytes = spell bytes ++ (10 ∷ [])

-- 82, output, then the note: slot, input, the VCI that came and the VCI that left; then the cell
abbrev pub departure_bytes : DepartureLine → List ℕ
departure_bytes d = 130 ∷ d.output ∷ (high-four d.slot ++ (d.input ∷ (high-two d.came ++ (high-two d.left ++ d.cell))))

-- a kind, a number, one byte more
abbrev pub numbered_bytes : ℕ → ℕ → ℕ → List ℕ
numbered_bytes kind number last = kind ∷ (high-four number ++ (last ∷ []))

-- 83, slot, number of grants
abbrev pub closing_bytes : ℕ → ℕ → List ℕ
closing_bytes slot grants = 131 ∷ (high-four slot ++ (grants ∷ []))

-- 8F, line number, refusal
abbrev pub refusal_bytes : ℕ → ℕ → List ℕ
refusal_bytes number refusal = 143 ∷ (high-four number ++ (refusal ∷ []))

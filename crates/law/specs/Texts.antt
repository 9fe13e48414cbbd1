-- What is printed of an answer, and of a note.
use Rattle.std.specs.Prelude.{ℕ, ◌-◌, ◌^◌, List, [], ◌++◌, true, false, codes, decimal}
use Rattle.std.specs.Fmt.{digits, format_spec, padded_integral}
use Rattle.law.specs.declared.answers.Arrival.{Arrival}
use Rattle.law.specs.declared.answers.Arrival.TheVariants.{Idle, Accepted}
use Rattle.law.specs.declared.answers.Departed.{Departed}
use Rattle.law.specs.declared.answers.SlotClosed.{SlotClosed}
use Rattle.law.specs.declared.memory.Note.{Note}

abbrev pub arrival_text : Arrival → List ℕ
arrival_text Idle = codes "idle"
arrival_text (Accepted output ahead) = codes "output " ++ (decimal output ++ (codes ", " ++ (decimal ahead ++ codes " ahead")))

abbrev pub departed_text : Departed → List ℕ
departed_text d = codes "from input " ++ (decimal d.input ++ (codes " to output " ++ decimal d.output))

abbrev pub closed_text : SlotClosed → List ℕ
closed_text c = codes "slot " ++ (decimal c.slot ++ (codes ", grants " ++ decimal c.grants))

-- a number of 16 bits, by four upper-case hexadecimal digits: what `{:04X}` writes
abbrev pub four_digits : ℕ → List ℕ
four_digits n = padded_integral (format_spec 32 0 4 4 (2 ^ 64 - 1)) false [] (digits 16 true n)

abbrev pub note_text : Note → List ℕ
note_text n =
    codes "slot " ++ (decimal n.slot ++ (codes ", input " ++ (decimal n.input
    ++ (codes ", came with " ++ (four_digits n.came ++ (codes ", left with " ++ four_digits n.left))))))

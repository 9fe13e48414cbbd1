use Rattle.std.proofs.Common.{◌≡◌, ◌*◌, ◌++◌, take, drop}
use Rattle.lines.specs.Spelling.{spell}
use Rattle.lines.proofs.written.spell_into.Given as goal

abbrev pub invariant-loop-i : goal.invariant-loop-i
invariant-loop-i l = l.line ≡ spell (take l.i l.bytes) ++ drop (2 * l.i) l.initial.line

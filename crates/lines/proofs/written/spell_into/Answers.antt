use Rattle.std.proofs.Common.{refl, arith}
use Rattle.lines.specs.Spelling.{spell}
use Rattle.lines.proofs.Writing.{spell-turn}
use Rattle.lines.proofs.written.spell_into.Goals as goal

pub loop-i-init : goal.loop-i-init
unfolding spell
loop-i-init c = refl

pub loop-i-preserved : goal.loop-i-preserved
loop-i-preserved c =
    spell-turn c.args.bytes.now c.args.line.now c.loop-i.line c.loop-i.i c.digit_of.result c.digit_of-in-loop-i.result (omega arith) (omega arith) c.digit_of.ensures c.digit_of-in-loop-i.ensures c.loop-i.invariant

use Rattle.std.proofs.Common.{ap, ◌∙◌, zero-add, rules}
use Rattle.lines.proofs.Decoding.{some-value, no-value}
use Rattle.lines.proofs.Table.{get_or-values}
use Rattle.lines.specs.Hex.{digit}
use Rattle.lines.proofs.hex.value.Goals as goal

pub returns-then-value-lt16 : goal.returns-then-value-lt16
unfolding digit
returns-then-value-lt16 c =
    some-value c.args.b _ (get_or-values 0 256 c.args.b (search rules) ∙ ap digit (zero-add c.args.b)) c.if-value-lt16.true

pub returns-else-value-lt16 : goal.returns-else-value-lt16
unfolding digit
returns-else-value-lt16 c =
    no-value c.args.b _ (get_or-values 0 256 c.args.b (search rules) ∙ ap digit (zero-add c.args.b)) c.if-value-lt16.false

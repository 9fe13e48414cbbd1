use Rattle.std.proofs.Common.{ap, ◌∙◌, zero-add}
use Rattle.lines.specs.Spelling.{upper}
use Rattle.lines.proofs.Writing.{get_or-uppers}
use Rattle.lines.proofs.written.digit_of.Goals as goal

pub returns : goal.returns
unfolding upper
returns c = get_or-uppers 0 16 c.args.value c.requires ∙ ap upper (zero-add c.args.value)

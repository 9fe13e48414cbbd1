use Rattle.std.proofs.Common.{sym, ap, ◌∙◌, arith, rules}
use Rattle.lines.specs.Hex.{hex}
use Rattle.lines.specs.Frames.{frame_in}
use Rattle.lines.proofs.Spellings.{long_refused, short_spelled, decoded-bytes, decoded-wrong}
use Rattle.lines.proofs.Places.{first_wrong}
use Rattle.lines.proofs.frame.frame_of.Goals as goal

pub returns-then-line-gt-LONGEST-clause-answer : goal.returns-then-line-gt-LONGEST-clause-answer
returns-then-line-gt-LONGEST-clause-answer c = sym (long_refused c.args.line.now (omega arith))

pub returns-in_err-decode-clause-answer : goal.returns-in_err-decode-clause-answer
returns-in_err-decode-clause-answer c =
    search rules ∙ sym (short_spelled c.args.line.now (omega arith) ∙ decoded-wrong (hex c.args.line.now) c.in_err-decode.field-0.0 c.in_err-decode.ensures.wrong)

pub returns-clause-answer : goal.returns-clause-answer
returns-clause-answer c =
    c.frame_in.ensures ∙ ap frame_in c.as_slice.ensures.value ∙ sym (short_spelled c.args.line.now (omega arith) ∙ decoded-bytes (hex c.args.line.now) _ c.in_ok-decode.ensures.bytes)

pub returns-clause-places : goal.returns-clause-places
returns-clause-places c = first_wrong

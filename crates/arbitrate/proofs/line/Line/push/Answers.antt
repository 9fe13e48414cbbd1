use Rattle.arbitrate.proofs.Lines.{kept}
use Rattle.arbitrate.proofs.line.Line.push.Goals as goal

pub returns : goal.returns
returns c =
    let pushed = c.try_push.ensures in
    kept c.args.self.now.kept c.try_push.new.self c.args.byte c.try_push.result pushed.variant.0 pushed.ok pushed.err pushed.full

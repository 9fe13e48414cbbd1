use Rattle.std.proofs.Common.{Bool, ap, ◌∙◌, arith}
use Rattle.outgoing.specs.Results.{handed}
use Rattle.outgoing.specs.SlotBytes.{line_of}
use Rattle.law.specs.View.{Memory}
use Rattle.switch.specs.Seen.{view}
use Rattle.switch.proofs.Views.{lines}
use Rattle.switch.proofs.state.Switch.line.Goals as goal

pub returns : goal.returns
returns g c cells notes =
    let m : Memory = record { cells = cells; notes = notes; bytes = c.args.bytes.now } in
    lines (view c.args.self.now) m c.args.output c.args.idle.now (handed c.line_of.result) (omega (arith, c.if-output-ports.false, c.number-ports.ensures)) (omega (arith, c.if-bytes-ports.false, c.number-ports.ensures))
    (c.line_of.ensures ∙ ap (λ (b : Bool). line_of c.args.bytes.now c.args.output b c.args.idle.now) c.has.ensures)

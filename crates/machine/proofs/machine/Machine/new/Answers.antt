use Rattle.std.proofs.Common.{ap}
use Rattle.law.specs.View.{View}
use Rattle.switch.specs.Seen.{view}
use Rattle.machine.proofs.Telling.{started}
use Rattle.machine.proofs.machine.Machine.new.Goals as goal

pub returns : goal.returns
returns g c =
    let a = g.A.Arbiter.meaning in
    record {
      start = started a c.args.arbiter c.args.mark c.args.first _ (view c.new.result) _ _ _ c.new.ensures.made (ap (λ (v : View _). v.ports) c.new.ensures.made) c.empty_blocks.ensures c.empty_notes.ensures c.empty_bytes.ensures;
      law = c.new.ensures.law;
    }

use Rattle.std.proofs.Common.{rules}
use Rattle.switch.specs.Seen.{view}
use Rattle.delays.proofs.Leaving.{all-leave}
use Rattle.delays.proofs.switches.switch_over.Goals as goal

pub returns : goal.returns
returns c =
    record {
      made = search rules;
      law = search rules;
      leave = all-leave c.args.arbiter (view c.new.result) c.new.ensures.law;
    }

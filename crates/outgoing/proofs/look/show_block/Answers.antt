use Rattle.std.proofs.Common.{rules}
use Rattle.outgoing.proofs.Restoring.{restored}
use Rattle.outgoing.proofs.look.show_block.Goals as goal

pub returns-in_err-check_length : goal.returns-in_err-check_length
returns-in_err-check_length c =
    record {
      answer = search rules;
      bytes = search rules;
      kept = restored _ _ _ _ _ (search rules) c.to-leaving.ensures.cell c.to-leaving.ensures.header c.drop-leaving.ensures;
    }

pub returns : goal.returns
returns c =
    record {
      answer = search rules;
      bytes = search rules;
      kept = restored _ _ _ _ _ (search rules) c.to-leaving.ensures.cell c.to-leaving.ensures.header c.drop-leaving-2.ensures;
    }

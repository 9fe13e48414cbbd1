use Rattle.std.proofs.Common.{rules}
use Rattle.outgoing.proofs.Restoring.{unchanged}
use Rattle.outgoing.proofs.look.show_at.Goals as goal

pub returns : goal.returns
returns c =
    record {
      answer = search rules;
      bytes = search rules;
      kept = unchanged _ _ _ _ c.show_block.ensures.kept;
    }

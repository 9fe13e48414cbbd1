use Rattle.std.proofs.Common.{ap, ◌∙◌}
use Rattle.law.specs.declared.stage.Stage.TheVariants.{Sending}
use Rattle.law.specs.Calls.{wrong}
use Rattle.switch.specs.Seen.{view, grant_of}
use Rattle.calls.proofs.sending.Sending.close_at.Goals as goal

pub invariant_of-result : goal.invariant_of-result
invariant_of-result c =
    record {
      fits = ap (λ t. wrong (view c.args.self.two.switch) Sending (grant_of t)) c.in-Err.ensures.0 ∙ c.args.self.fits;
    }

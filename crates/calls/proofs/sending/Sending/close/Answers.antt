use Rattle.std.proofs.Common.{◌∙◌, ap₂}
use Rattle.law.specs.declared.stage.Stage.TheVariants.{Sending}
use Rattle.law.specs.Calls.{wrong}
use Rattle.switch.specs.Seen.{grant_of}
use Rattle.calls.proofs.sending.Sending.close.Goals as goal

pub invariant_of-result : goal.invariant_of-result
invariant_of-result c =
    let e = c.in-Err.ensures in
    record { fits = ap₂ (λ w t. wrong w Sending (grant_of t)) e.1 e.0 ∙ c.args.self.fits }

pub returns-in-Err : goal.returns-in-Err
returns-in-Err c =
    let e = c.in-Err.ensures in
    (e.1, e.2 c.args.self.fits)

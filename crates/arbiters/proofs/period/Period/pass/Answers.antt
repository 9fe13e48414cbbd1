use Rattle.std.proofs.Common.{◌≡◌, arith}
use Rattle.std.proofs.lemmas.Bool.Decides.{nat_tests}
use Rattle.arbiters.specs.Periods.{left_after}
use Rattle.arbiters.specs.PeriodsLemmas.{same-but-proofs}
use Rattle.arbiters.proofs.period.Period.pass.Goals as goal
use Rattle.arbiters.proofs.period.Period.pass.Goals.{then-self-eq0, else-self-eq0}

pub returns : goal.returns
returns c =
    let e : left_after c.args.self.now.slots c.args.self.now.left ≡ c.if-self-eq0.self =
    elim c.if-self-eq0.branch [ then-self-eq0 w ↦ grind (arith, nat_tests, w.self-is, w.if-self-eq0.true) | else-self-eq0 w ↦ grind (arith, nat_tests, w.self-is, w.if-self-eq0.false) ] in
    same-but-proofs c.args.self.now c.if-self-eq0.self e _ _ _

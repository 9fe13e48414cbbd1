use Rattle.switch.specs.Seen.{view}
use Rattle.calls.specs.Kept.{weight}
use Rattle.calls.proofs.sending.Sending.+finish.Given as goal

abbrev pub decreases-finish : goal.decreases-finish
decreases-finish l = weight (view l.self.two.switch)

use Rattle.player.proofs.Starting.{on-diagonal, on-ripple}
use Rattle.player.proofs.playing.NamedMachine.named.Goals as goal

pub returns-in_ok-machine-in-Diagonal-clause-made : goal.returns-in_ok-machine-in-Diagonal-clause-made
returns-in_ok-machine-in-Diagonal-clause-made c =
    rw (c.in-Start.is, c.in-Diagonal.is) (on-diagonal c.in-Start.ports c.in-Start.mark c.in-Start.first_slot c.in_ok-new-in-Diagonal.field-0 _ c.in_ok-new-in-Diagonal.ensures.made c.in_ok-machine-in-Diagonal.ensures)

pub returns-in_ok-machine-in-Ripple-clause-made : goal.returns-in_ok-machine-in-Ripple-clause-made
returns-in_ok-machine-in-Ripple-clause-made c =
    rw (c.in-Start.is, c.in-Ripple.is) (on-ripple c.in-Start.ports c.in-Start.mark c.in-Start.first_slot c.in_ok-new-in-Ripple.field-0 _ c.in_ok-new-in-Ripple.ensures.made c.in_ok-machine-in-Ripple.ensures)

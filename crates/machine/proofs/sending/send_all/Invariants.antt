use Rattle.std.proofs.Common.{length}
use Rattle.switch.specs.Seen.{grant_of, view}
use Rattle.machine.specs.Listed.{listed}
use Rattle.machine.specs.Sending.{sending}
use Rattle.machine.proofs.Progress.{Progress}
use Rattle.machine.proofs.sending.send_all.Given as goal

abbrev pub invariant-loop-sent : goal.invariant-loop-sent
invariant-loop-sent g l = Progress (grant_of l.grants) (sending (view l.initial.switch) l.blocks l.initial.notes l.initial.bytes) (listed l.departures) (sending (view l.switch) l.blocks l.notes l.bytes)

abbrev pub decreases-loop-sent : goal.decreases-loop-sent
decreases-loop-sent g l = length (view l.switch).slot.grants

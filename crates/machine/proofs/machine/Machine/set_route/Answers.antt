use Rattle.std.proofs.Common.{◌≤◌, length, sym, subst}
use Rattle.queues.specs.Queues.{Queues}
use Rattle.switch.specs.Seen.{view}
use Rattle.machine.proofs.Keeping.{nothing, Steady, unfit-same, sets}
use Rattle.machine.proofs.machine.Machine.set_route.Goals as goal

pub invariant_of-self : goal.invariant_of-self
invariant_of-self g c =
    let s = c.args.self.now in
    let v = view s.switch in
    let w = view c.set_route.new.self in
    let steady = subst (λ o. Steady v o) (c.set_route.ensures nothing) (sets v nothing c.args.input c.args.route.vci c.args.route.output c.args.route.new_vci) in
    record {
      fits = unfit-same v w steady.fits s.ticket s.fits;
      room = subst (λ (q : Queues). 1 ≤ length q.free) (sym steady.notes) s.room;
      cells = s.cells;
      kept = s.kept;
      sized = s.sized;
    }

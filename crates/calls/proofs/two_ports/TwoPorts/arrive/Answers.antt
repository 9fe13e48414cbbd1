use Rattle.std.proofs.Common.{[], subst}
use Rattle.switch.specs.Seen.{view, arrival_of}
use Rattle.calls.proofs.Keeping.{Steady, arrives}
use Rattle.calls.proofs.two_ports.TwoPorts.arrive.Goals as goal

pub invariant_of-self : goal.invariant_of-self
invariant_of-self c =
    let s = c.args.self.now in
    record {
      kept = (subst (λ o. Steady s.noted (view s.switch) o) (c.arrive.ensures [] []) (arrives s.noted (view s.switch) s.kept (record { cells = c.args.blocks.now; notes = []; bytes = [] }) (arrival_of c.args.ticket.now) c.args.input c.args.cell.now)).kept;
    }

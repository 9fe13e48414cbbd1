use Rattle.std.proofs.Common.{[], subst}
use Rattle.switch.specs.Seen.{view}
use Rattle.calls.proofs.Keeping.{Steady, takes}
use Rattle.calls.proofs.two_ports.TwoPorts.take_note.Goals as goal

pub invariant_of-self : goal.invariant_of-self
invariant_of-self c =
    let s = c.args.self.now in
    record {
      kept = (subst (λ o. Steady s.noted (view s.switch) o) (c.take_note.ensures [] []) (takes s.noted (view s.switch) s.kept (record { cells = []; notes = c.args.notes.now; bytes = [] }) c.args.output)).kept;
    }

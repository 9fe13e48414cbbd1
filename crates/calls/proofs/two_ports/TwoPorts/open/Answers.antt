use Rattle.std.proofs.Common.{subst}
use Rattle.switch.specs.Seen.{view}
use Rattle.calls.proofs.Keeping.{nothing, Held, opens}
use Rattle.calls.proofs.two_ports.TwoPorts.open.Goals as goal

pub invariant_of-self : goal.invariant_of-self
invariant_of-self c =
    let s = c.args.self.now in
    record {
      kept = (subst (λ o. Held s.noted o) (c.open.ensures nothing) (opens s.noted (view s.switch) s.kept nothing)).kept;
    }

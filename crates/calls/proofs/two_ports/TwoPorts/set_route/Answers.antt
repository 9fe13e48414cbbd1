use Rattle.std.proofs.Common.{subst}
use Rattle.switch.specs.Seen.{view}
use Rattle.calls.proofs.Keeping.{nothing, Steady, sets}
use Rattle.calls.proofs.two_ports.TwoPorts.set_route.Goals as goal

pub invariant_of-self : goal.invariant_of-self
invariant_of-self c =
    let s = c.args.self.now in
    record {
      kept = (subst (λ o. Steady s.noted (view s.switch) o) (c.set_route.ensures nothing) (sets s.noted (view s.switch) s.kept nothing c.args.input c.args.route.vci c.args.route.output c.args.route.new_vci)).kept;
    }

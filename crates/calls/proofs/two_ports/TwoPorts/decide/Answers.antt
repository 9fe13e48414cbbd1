use Rattle.std.proofs.Common.{subst}
use Rattle.arbiters.specs.Kinds.{diagonals}
use Rattle.switch.specs.Seen.{view, arrival_of}
use Rattle.calls.specs.Kept.{Fits}
use Rattle.calls.proofs.Keeping.{nothing, Held, decides, decide-fits}
use Rattle.calls.proofs.two_ports.TwoPorts.decide.Goals as goal

pub invariant_of-self : goal.invariant_of-self
invariant_of-self c =
    let s = c.args.self.now in
    record {
      kept = (subst (λ o. Held s.noted o) (c.decide.ensures.done nothing) (decides s.noted (view s.switch) s.kept diagonals nothing (arrival_of c.args.ticket))).kept;
    }

pub returns : goal.returns
returns c =
    subst (λ o. Fits o.view o.reply) (c.decide.ensures.done nothing) (decide-fits diagonals (view c.args.self.now.switch) nothing (arrival_of c.args.ticket))

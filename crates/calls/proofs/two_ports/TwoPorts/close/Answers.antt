use Rattle.std.proofs.Common.{subst}
use Rattle.switch.specs.Seen.{view, grant_of}
use Rattle.calls.proofs.Keeping.{nothing, Held, closes}
use Rattle.calls.proofs.Ending.{closing}
use Rattle.calls.proofs.two_ports.TwoPorts.close.Goals as goal

pub invariant_of-self : goal.invariant_of-self
invariant_of-self c =
    let s = c.args.self.now in
    record {
      kept = (subst (λ o. Held s.noted o) (c.close.ensures.done nothing) (closes s.noted (view s.switch) s.kept nothing (grant_of c.args.ticket))).kept;
    }

pub returns : goal.returns
returns c = closing (view c.args.self.now.switch) _ nothing c.args.ticket c.close.result (c.close.ensures.done nothing) c.close.ensures.back

use Rattle.std.proofs.Common.{subst}
use Rattle.switch.specs.Seen.{view, grant_of}
use Rattle.law.proofs.Pairs.{outputs-pairs}
use Rattle.calls.proofs.Keeping.{Left, Parting, departs}
use Rattle.calls.proofs.two_ports.TwoPorts.depart.Goals as goal

pub invariant_of-self : goal.invariant_of-self
invariant_of-self c =
    let s = c.args.self.now in
    let all = departs s.noted (view s.switch) s.kept (record { cells = c.args.blocks.now; notes = c.args.notes.now; bytes = c.args.bytes.now }) (grant_of c.args.ticket.now) (outputs-pairs s.switch.ports.number s.switch.grants) in
    record {
      kept = subst (λ r. Left s.noted (view c.depart.new.self) r) c.in_err-departed.was (subst (λ o. Parting s.noted (view s.switch) o) c.depart.ensures all).kept;
    }

pub invariant_of-self-2 : goal.invariant_of-self-2
invariant_of-self-2 c =
    let s = c.args.self.now in
    let all = departs s.noted (view s.switch) s.kept (record { cells = c.args.blocks.now; notes = c.args.notes.now; bytes = c.args.bytes.now }) (grant_of c.args.ticket.now) (outputs-pairs s.switch.ports.number s.switch.grants) in
    record {
      kept = subst (λ r. Left s.noted (view c.depart.new.self) r) c.in_ok-departed.was (subst (λ o. Parting s.noted (view s.switch) o) c.depart.ensures all).kept;
    }

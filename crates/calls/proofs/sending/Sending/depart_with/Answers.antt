use Rattle.std.proofs.Common.{◌∙◌, subst}
use Rattle.law.specs.declared.stage.Stage.TheVariants.{Sending}
use Rattle.switch.specs.Seen.{view, grant_of}
use Rattle.law.proofs.Pairs.{outputs-pairs}
use Rattle.calls.proofs.Keeping.{Parting, departs}
use Rattle.calls.proofs.sending.Sending.depart_with.Goals as goal

pub invariant_of-self : goal.invariant_of-self
invariant_of-self c =
    let s = c.args.self.now in
    record {
      fits = (subst (λ o. Parting s.two.noted (view s.two.switch) o) c.depart.ensures (departs s.two.noted (view s.two.switch) s.two.kept (record { cells = c.args.blocks.now; notes = c.args.notes.now; bytes = c.args.bytes.now }) (grant_of s.ticket) (outputs-pairs s.two.switch.ports.number s.two.switch.grants))).fits Sending (grant_of s.ticket) ∙ s.fits;
    }

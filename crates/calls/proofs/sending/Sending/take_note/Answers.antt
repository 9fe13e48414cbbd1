use Rattle.std.proofs.Common.{[], ◌∙◌, subst}
use Rattle.law.specs.declared.stage.Stage.TheVariants.{Sending}
use Rattle.switch.specs.Seen.{view, grant_of}
use Rattle.calls.proofs.Keeping.{Steady, takes}
use Rattle.calls.proofs.sending.Sending.take_note.Goals as goal

pub invariant_of-self : goal.invariant_of-self
invariant_of-self c =
    let s = c.args.self.now in
    record {
      fits = (subst (λ o. Steady s.two.noted (view s.two.switch) o) (c.take_note.ensures [] []) (takes s.two.noted (view s.two.switch) s.two.kept (record { cells = []; notes = c.args.notes.now; bytes = [] }) c.args.output)).fits Sending (grant_of s.ticket) ∙ s.fits;
    }

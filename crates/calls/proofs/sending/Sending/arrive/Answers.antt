use Rattle.std.proofs.Common.{[], ◌∙◌, subst}
use Rattle.law.specs.declared.stage.Stage.TheVariants.{Sending}
use Rattle.switch.specs.Seen.{view, arrival_of, grant_of}
use Rattle.calls.proofs.Keeping.{Steady, arrives}
use Rattle.calls.proofs.sending.Sending.arrive.Goals as goal

pub invariant_of-self : goal.invariant_of-self
invariant_of-self c =
    let s = c.args.self.now in
    record {
      fits = (subst (λ o. Steady s.two.noted (view s.two.switch) o) (c.arrive.ensures [] []) (arrives s.two.noted (view s.two.switch) s.two.kept (record { cells = c.args.blocks.now; notes = []; bytes = [] }) (arrival_of c.args.ticket.now) c.args.input c.args.cell.now)).fits Sending (grant_of s.ticket) ∙ s.fits;
    }

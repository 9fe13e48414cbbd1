use Rattle.std.proofs.Common.{ap, refl, sym, ◌∙◌, arith, rules, Result}
use Rattle.refusals.specs.declared.refusal.Refusal.{Refusal}
use Rattle.refusals.specs.declared.refusal.Refusal.TheVariants.{NoNote}
use Rattle.law.specs.declared.memory.Note.{Note}
use Rattle.law.specs.View.{Memory}
use Rattle.law.specs.Calls.{with_notes}
use Rattle.queues.specs.Queues as Queued
use Rattle.switch.specs.Seen.{view}
use Rattle.switch.proofs.Errors.{error-mapped}
use Rattle.switch.proofs.Notes.{takes-note}
use Rattle.switch.proofs.state.Switch.take_note.Goals as goal

pub returns : goal.returns
returns g c cells bytes =
    let s = c.args.self.now in
    let m : Memory = record { cells = cells; notes = c.args.notes.now; bytes = bytes } in
    let q = Queued.view c.take.new.self in
    takes-note (view s) m c.args.output s.notes refl (omega (arith, c.if-output-number.false, c.number.ensures)) s.ports.eight c.if-notes-ne-NOTE_BLOCKS.false c.take.result q c.take.ensures
    ∙ ap (λ (r : Result Note Refusal). record { reply = r; view = with_notes (view s) q; memory = m })
    (sym (error-mapped NoNote c.take.result c.map_err.result _ (λ e k gives. search rules) c.map_err.ensures.cases))

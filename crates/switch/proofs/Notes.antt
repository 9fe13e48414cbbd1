-- Taking a note, by the facts of the code.
use Rattle.std.proofs.Common.{◌≡◌, ℕ, ◌<◌, ◌≤◌, not, List, [], ◌∷◌, length, get_or, Ok, Err, Result, sym, refl, ap, ◌∙◌, arith}
use Rattle.std.proofs.lemmas.Bool.{lt-ltb, eq-eqb}
use Rattle.queues.specs.declared.links.Links.{Links}
use Rattle.queues.specs.declared.refusal.QueueRefusal.{QueueRefusal}
use Rattle.queues.specs.Calls.{Outcome, outcome, take_call}
use Rattle.queues.specs.Queues.{Queues}
use Rattle.queues.specs.Queues as Queued
use Rattle.refusals.specs.declared.refusal.Refusal.{Refusal}
use Rattle.refusals.specs.declared.refusal.Refusal.TheVariants.{PortBeyond, NoteMemoryLength, NoNote}
use Rattle.law.specs.declared.memory.Note.{Note}
use Rattle.law.specs.View.{Memory, View}
use Rattle.law.specs.Calls as Calls
use Rattle.law.specs.Calls.{beyond, notes_amiss, oldest, with_notes, take_note_call}
use Rattle.law.proofs.Refusing.{passes}
use Rattle.switch.proofs.Errors.{refused_with}
use Rattle.switch.proofs.Heads.{takes-head, takes_none}

module _ {A : Type 0} (v : View A) (m : Memory) (o : ℕ) (l : Links 64) (is : v.notes ≡ Queued.view l) (lo : o < v.ports) (small : v.ports ≤ 8) (size : length m.notes ≡ 64)
    (r : Result Note QueueRefusal) (q : Queues) (e : outcome r q m.notes ≡ take_call 64 (Queued.view l) m.notes o) where
  below : o < 8
  below = omega arith

  abbrev out : Result Note Refusal → Queues → Calls.Outcome A Note
  out r q = record { reply = r; view = with_notes v q; memory = m }

  by-queue : (queue : List ℕ) → v.notes.queue o ≡ queue → oldest v m o queue ≡ out (refused_with NoNote r) q
  by-queue [] f =
      let t = e ∙ takes_none l m.notes o below size (ap (λ (q : Queues). q.queue o) (sym is) ∙ f) in
      ap (out (Err NoNote)) is ∙ sym (ap (λ (x : Outcome Note Note). out (refused_with NoNote x.answer) x.queues) t)
  by-queue (n ∷ rest) f =
      let t = e ∙ takes-head l m.notes o below size n rest (record { slot = 0; input = 0; came = 0; left = 0 }) (ap (λ (q : Queues). q.queue o) (sym is) ∙ f) in
      ap (λ (q : Queues). out (Ok (get_or m.notes n (record { slot = 0; input = 0; came = 0; left = 0 }))) (Queued.taken q o)) is ∙ sym (ap (λ (x : Outcome Note Note). out (refused_with NoNote x.answer) x.queues) t)

  pub takes-note : take_note_call v m o ≡ out (refused_with NoNote r) q
  takes-note =
      passes ((PortBeyond, beyond v o) ∷ (NoteMemoryLength, notes_amiss m) ∷ []) v m (oldest v m o (v.notes.queue o)) (ap not (lt-ltb o v.ports lo), (ap not (eq-eqb (length m.notes) 64 size), tt))
      ∙ by-queue (v.notes.queue o) refl

-- Each step brings a slot nearer to its close.
use Rattle.std.proofs.Common.{◌≡◌, ℕ, ◌+◌, ◌*◌, ◌<◌, ◌≤◌, true, false, not, List, [], ◌∷◌, length, is_err, Ok, Err, Result, sym, refl, ap, ◌∙◌, subst, arith, length-append}
use Rattle.std.proofs.lemmas.Bool.{cond_both, both_ways, eq-eqb, lt-ltb}
use Rattle.queues.specs.Queues.{taken, taken_by}
use Rattle.refusals.specs.declared.refusal.Refusal.{Refusal}
use Rattle.refusals.specs.declared.refusal.Refusal.TheVariants.{PortBeyond, CellMemoryLength, NoteMemoryLength, SlotBytesLength, WrongTicket, GrantsUnsent}
use Rattle.law.specs.declared.answers.Departed.{Departed}
use Rattle.law.specs.declared.answers.SlotClosed.{SlotClosed}
use Rattle.law.specs.declared.memory.Note.{Note}
use Rattle.law.specs.declared.stage.Stage.TheVariants.{Sending}
use Rattle.law.specs.View.{Memory, View}
use Rattle.law.specs.Calls.{Outcome, Ticket, refused, noted, oldest, sent_first, wrong, is_empty, beyond, cells_amiss, notes_amiss, bytes_amiss, depart_call, close_call, take_note_call}
use Rattle.law.proofs.Refusing.{passes}
use Rattle.switch.specs.declared.tickets.GrantTicket.{GrantTicket}
use Rattle.switch.specs.declared.tickets.Returned.{Returned}
use Rattle.switch.specs.Seen.{HandsBack, grant_of, told_back}
use Rattle.calls.specs.Kept.{Kept, Closing, weight}

some_left : (xs : List (ℕ × ℕ)) → not (is_empty xs) ≡ true → 1 ≤ length xs
some_left [] e = absurd (both_ways false refl e)
some_left (x ∷ xs) e = omega arith

module _ {A : Type 0} where
  -- a departure carried out brings it nearer; refused, no note block is free
  abbrev pub Nearer : View A → View A → Result Departed Refusal → Type 0
  Nearer v w (Ok d) = weight w < weight v
  Nearer v w (Err k) = (w ≡ v) × (v.notes.free ≡ [])

  module _ (v : View A) (m : Memory) where
    first-nearer : (g : List (ℕ × ℕ)) (f : List ℕ) → v.slot.grants ≡ g → v.notes.free ≡ f → 1 ≤ length g → Nearer v (sent_first v m g).view (sent_first v m g).reply
    first-nearer [] f e h l = absurd (omega arith)
    first-nearer (x ∷ rest) [] e h l = subst (λ (ys : List ℕ). Nearer v (noted v m x rest ys).view (noted v m x rest ys).reply) (sym h) (refl, h)
    first-nearer (x ∷ rest) (b ∷ ys) e h l =
        let count : length v.slot.grants ≡ length (x ∷ rest) = ap (λ (g : List (ℕ × ℕ)). length g) e in
        subst (λ (ys : List ℕ). Nearer v (noted v m x rest ys).view (noted v m x rest ys).reply) (sym h) (omega (arith, count))

    pub depart-nearer : (t : Ticket) → length m.cells ≡ v.ports * 16 → length m.notes ≡ 64 → length m.bytes ≡ v.ports * 53 → wrong v Sending t ≡ false → 1 ≤ length v.slot.grants
        → Nearer v (depart_call v m t).view (depart_call v m t).reply
    depart-nearer t cells notes bytes fits l =
        let through : depart_call v m t ≡ sent_first v m v.slot.grants =
        passes ((CellMemoryLength, cells_amiss v m) ∷ (NoteMemoryLength, notes_amiss m) ∷ (SlotBytesLength, bytes_amiss v m) ∷ (WrongTicket, wrong v Sending t) ∷ []) v m (sent_first v m v.slot.grants)
        (ap not (eq-eqb (length m.cells) (v.ports * 16) cells), (ap not (eq-eqb (length m.notes) 64 notes), (ap not (eq-eqb (length m.bytes) (v.ports * 53) bytes), (fits, tt)))) in
        subst (λ (o : Outcome A Departed). Nearer v o.view o.reply) (sym through) (first-nearer v.slot.grants v.notes.free refl refl l)

    oldest-nearer : (n : ℕ) (q : List ℕ) → v.notes.queue n ≡ q → v.notes.free ≡ [] → 1 ≤ length v.notes.free + length (v.notes.queue n) → weight (oldest v m n q).view < weight v
    oldest-nearer n [] e f l = absurd (omega (arith, ap (λ (xs : List ℕ). length xs) e, ap (λ (xs : List ℕ). length xs) f))
    oldest-nearer n (b ∷ rest) e f l =
        let free : length (taken v.notes n).free ≡ length v.notes.free + 1 =
        ap (λ (xs : List ℕ). length (taken_by v.notes n xs).free) e ∙ length-append v.notes.free (b ∷ []) in
        let none : length v.notes.free ≡ 0 = ap (λ (xs : List ℕ). length xs) f in
        omega (arith, free, none)

    pub take-nearer : (n : ℕ) → Kept n v → length m.notes ≡ 64 → v.notes.free ≡ [] → weight (take_note_call v m n).view < weight v
    take-nearer n kept notes f =
        let port : n < v.ports = omega (arith, kept.0, kept.1) in
        let through : take_note_call v m n ≡ oldest v m n (v.notes.queue n) =
        passes ((PortBeyond, beyond v n) ∷ (NoteMemoryLength, notes_amiss m) ∷ []) v m (oldest v m n (v.notes.queue n)) (ap not (lt-ltb n v.ports port), (ap not (eq-eqb (length m.notes) 64 notes), tt)) in
        subst (λ o. weight o.view < weight v) (sym through) (oldest-nearer n (v.notes.queue n) refl f kept.2)

  pub nearer-ok : (v w : View A) (r : Result Departed Refusal) → is_err r ≡ false → Nearer v w r → weight w < weight v
  nearer-ok v w (Ok d) e h = h
  nearer-ok v w (Err k) e h = absurd (both_ways true e refl)

  pub nearer-err : (v w : View A) (r : Result Departed Refusal) → is_err r ≡ true → Nearer v w r → (w ≡ v) × (v.notes.free ≡ [])
  nearer-err v w (Ok d) e h = absurd (both_ways false refl e)
  nearer-err v w (Err k) e h = h

  -- where a departure was refused for want of room, the note that is taken brings it nearer
  pub room-nearer : (v u w : View A) (n : ℕ) (m : Memory) (r : Result Note Refusal) → Kept n u → length m.notes ≡ 64 → take_note_call u m n ≡ record { reply = r; view = w; memory = m }
      → (u ≡ v) × (v.notes.free ≡ []) → weight w < weight v
  room-nearer v u w n m r kept notes taking e =
      let free : u.notes.free ≡ [] = ap (λ (y : View A). y.notes.free) e.0 ∙ e.1 in
      let less : weight w < weight u = subst (λ (o : Outcome A Note). weight o.view < weight u) taking (take-nearer u m n kept notes free) in
      subst (λ (y : View A). weight w < weight y) e.0 less

  -- a close that is refused changes nothing, and for a ticket that fits a grant is left
  abbrev Unclosed : View A → Ticket → View A → Result SlotClosed Refusal → Type 0
  Unclosed v t w (Ok x) = Unit {0}
  Unclosed v t w (Err k) = (w ≡ v) × (wrong v Sending t ≡ false → 1 ≤ length v.slot.grants)

  close-left : (v : View A) (m : Memory) (t : Ticket) → Unclosed v t (close_call v m t).view (close_call v m t).reply
  close-left v m t = cond_both (wrong v Sending t) (refused WrongTicket v m) _ (λ (o : Outcome A SlotClosed). Unclosed v t o.view o.reply)
      (λ e. (refl, λ f. absurd (both_ways (wrong v Sending t) f e)))
      (λ _. cond_both (not (is_empty v.slot.grants)) (refused GrantsUnsent v m) _ (λ (o : Outcome A SlotClosed). Unclosed v t o.view o.reply) (λ e. (refl, λ _. some_left v.slot.grants e)) (λ _. tt))

  pub closing : (v w : View A) (m : Memory) (t : GrantTicket) (r : Result SlotClosed (Returned GrantTicket)) → close_call v m (grant_of t) ≡ record { reply = told_back (λ x. x) r; view = w; memory = m }
      → HandsBack t r → Closing v t r w
  closing v w m t (Ok x) e back = tt
  closing v w m t (Err k) e back =
      let left = subst (λ (o : Outcome A SlotClosed). Unclosed v (grant_of t) o.view o.reply) e (close-left v m (grant_of t)) in
      (back, left.0, left.1)

-- One departure and the taking of its note: neither is refused while a grant is left.
use Rattle.std.proofs.Common.{◌≡◌, ℕ, ◌+◌, ◌*◌, ◌<◌, ◌≤◌, not, eqb, List, [], ◌∷◌, ◌++◌, length, Ok, Err, Result, sym, refl, ap, ◌∙◌, subst, arith, length-append}
use Rattle.std.proofs.lemmas.Bool.{cond_both, both_ways, eq-eqb, lt-ltb}
use Rattle.queues.specs.Queues.{put, joined, joined_by, taken, taken_by}
use Rattle.refusals.specs.declared.refusal.Refusal.{Refusal}
use Rattle.refusals.specs.declared.refusal.Refusal.TheVariants.{PortBeyond, CellMemoryLength, NoteMemoryLength, SlotBytesLength, WrongTicket}
use Rattle.law.specs.declared.answers.Departed.{Departed}
use Rattle.law.specs.declared.memory.Block.{Block}
use Rattle.law.specs.declared.memory.Note.{Note}
use Rattle.law.specs.declared.stage.Stage.TheVariants.{Sending}
use Rattle.law.specs.View.{Memory, View}
use Rattle.law.specs.Calls.{Outcome, Ticket, noted, oldest, sent_first, wrong, beyond, cells_amiss, notes_amiss, bytes_amiss, depart_call, take_note_call}
use Rattle.law.proofs.Pairs.{Outputs}
use Rattle.law.proofs.Refusing.{passes}
use Rattle.machine.specs.Sending.{CanSend}
use Rattle.machine.specs.Standing.{lent}
use Rattle.machine.proofs.Parts.{length_part}

-- memory of the size that n ports need
pub record Sized (n : ℕ) (m : Memory) : Type 0 where
  pub cells : length m.cells ≡ n * 16
  pub notes : length m.notes ≡ 64
  pub bytes : length m.bytes ≡ n * 53

pub lent-sized : (n k : ℕ) (blocks : List Block) (notes : List Note) (bytes : List ℕ) → n ≡ k → k ≤ 8 → length blocks ≡ 128 → length notes ≡ 64 → length bytes ≡ 424 → Sized k (lent n blocks notes bytes)
lent-sized n k blocks notes bytes same l b e c =
    record { cells = length_part (n * 16) blocks (omega arith) ∙ ap (λ (p : ℕ). p * 16) same; notes = e; bytes = length_part (n * 53) bytes (omega arith) ∙ ap (λ (p : ℕ). p * 53) same }

-- a departure leaves one grant and one free note block fewer, and a note that waits at its output
pub record Gone {A : Type 0} (v w : View A) (d : Departed) : Type 0 where
  pub fewer : length v.slot.grants ≡ 1 + length w.slot.grants
  pub output : d.output < v.ports
  pub waits : 1 ≤ length (w.notes.queue d.output)
  pub room : length v.notes.free ≡ 1 + length w.notes.free
  pub ports : w.ports ≡ v.ports
  pub fits : (t : Ticket) → wrong w Sending t ≡ wrong v Sending t

one_at : (f : ℕ → List ℕ) (q : ℕ) (xs : List ℕ) (b : ℕ) → 1 ≤ length (put f q (xs ++ (b ∷ [])) q)
one_at f q xs b = cond_both (eqb q q) (xs ++ (b ∷ [])) (f q) (λ (ys : List ℕ). 1 ≤ length ys) (λ _. omega (arith, length-append xs (b ∷ []))) (λ e. absurd (both_ways (eqb q q) e (eq-eqb q q refl)))

module _ {A : Type 0} where
  -- a refused departure changes nothing, and is refused because no grant is left
  abbrev pub Departure : View A → Memory → Result Departed Refusal → View A → Memory → Type 0
  Departure v m (Ok d) w x = Gone v w d
  Departure v m (Err k) w x = (w ≡ v) × (x ≡ m) × (v.slot.grants ≡ [])

  -- the note that waits is taken, and its block is free again
  abbrev pub Taking : View A → Result Note Refusal → View A → Type 0
  Taking v (Ok n) w = (length w.notes.free ≡ 1 + length v.notes.free) × (w.ports ≡ v.ports) × ((t : Ticket) → wrong w Sending t ≡ wrong v Sending t) × (w.slot ≡ v.slot)
  Taking v (Err k) w = ⊥

  module _ (v : View A) (m : Memory) where
    first-departs : (grants : List (ℕ × ℕ)) (free : List ℕ) → v.slot.grants ≡ grants → v.notes.free ≡ free → 1 ≤ length free → Outputs v.ports grants
        → Departure v m (sent_first v m grants).reply (sent_first v m grants).view (sent_first v m grants).memory
    first-departs [] free e f l outputs = (refl, refl, e)
    first-departs (x ∷ rest) [] e f l outputs = absurd (omega arith)
    first-departs (x ∷ rest) (b ∷ more) e f l outputs =
        let count : length v.slot.grants ≡ length (x ∷ rest) = ap (λ (xs : List (ℕ × ℕ)). length xs) e in
        let blocks : length v.notes.free ≡ length (b ∷ more) = ap (λ (xs : List ℕ). length xs) f in
        let left : length (joined v.notes x.1).free ≡ length more = ap (λ (xs : List ℕ). length (joined_by v.notes x.1 xs).free) f in
        let waits : 1 ≤ length ((joined v.notes x.1).queue x.1) = subst (λ (xs : List ℕ). 1 ≤ length ((joined_by v.notes x.1 xs).queue x.1)) (sym f) (one_at v.notes.queue x.1 (v.notes.queue x.1) b) in
        subst (λ (xs : List ℕ). Departure v m (noted v m x rest xs).reply (noted v m x rest xs).view (noted v m x rest xs).memory) (sym f)
        (record { fewer = omega (arith, count); output = outputs.0; waits = waits; room = omega (arith, blocks, left); ports = refl; fits = λ t. refl })

    pub departs : (g : Ticket) → Sized v.ports m → CanSend v g → Outputs v.ports v.slot.grants
        → Departure v m (depart_call v m g).reply (depart_call v m g).view (depart_call v m g).memory
    departs g sized can outputs =
        let through : depart_call v m g ≡ sent_first v m v.slot.grants =
        passes ((CellMemoryLength, cells_amiss v m) ∷ (NoteMemoryLength, notes_amiss m) ∷ (SlotBytesLength, bytes_amiss v m) ∷ (WrongTicket, wrong v Sending g) ∷ []) v m (sent_first v m v.slot.grants)
        (ap not (eq-eqb (length m.cells) (v.ports * 16) sized.cells), (ap not (eq-eqb (length m.notes) 64 sized.notes), (ap not (eq-eqb (length m.bytes) (v.ports * 53) sized.bytes), (can.fits, tt)))) in
        subst (λ (o : Outcome A Departed). Departure v m o.reply o.view o.memory) (sym through) (first-departs v.slot.grants v.notes.free refl refl can.room outputs)

    oldest-taken : (o : ℕ) (queue : List ℕ) → v.notes.queue o ≡ queue → 1 ≤ length queue → Taking v (oldest v m o queue).reply (oldest v m o queue).view
    oldest-taken o [] e l = absurd (omega arith)
    oldest-taken o (b ∷ rest) e l =
        let free : length (taken v.notes o).free ≡ 1 + length v.notes.free =
        ap (λ (xs : List ℕ). length (taken_by v.notes o xs).free) e ∙ omega (arith, length-append v.notes.free (b ∷ [])) in
        (free, refl, λ t. refl, refl)

    pub takes : (o : ℕ) → o < v.ports → length m.notes ≡ 64 → 1 ≤ length (v.notes.queue o) → Taking v (take_note_call v m o).reply (take_note_call v m o).view
    takes o port notes waits =
        let through : take_note_call v m o ≡ oldest v m o (v.notes.queue o) =
        passes ((PortBeyond, beyond v o) ∷ (NoteMemoryLength, notes_amiss m) ∷ []) v m (oldest v m o (v.notes.queue o)) (ap not (lt-ltb o v.ports port), (ap not (eq-eqb (length m.notes) 64 notes), tt)) in
        subst (λ (x : Outcome A Note). Taking v x.reply x.view) (sym through) (oldest-taken o (v.notes.queue o) refl waits)

-- what a departure that was carried out left
pub gone-by : {A : Type 0} (v w : View A) (g : Ticket) (d : Departed) (m x : Memory) → Sized v.ports m → CanSend v g → Outputs v.ports v.slot.grants
    → depart_call v m g ≡ record { reply = Ok d; view = w; memory = x } → Gone v w d
gone-by {A} v w g d m x sized can outputs departure =
    subst (λ (o : Outcome A Departed). Departure v m o.reply o.view o.memory) departure (departs v m g sized can outputs)

-- and what the taking of its note left
pub took_by : {A : Type 0} (v w : View A) (o : ℕ) (m : Memory) (r : Result Note Refusal) → o < v.ports → length m.notes ≡ 64 → 1 ≤ length (v.notes.queue o)
    → take_note_call v m o ≡ record { reply = r; view = w; memory = m } → Taking v r w
took_by {A} v w o m r port notes waits taking =
    subst (λ (x : Outcome A Note). Taking v x.reply x.view) taking (takes v m o port notes waits)

-- what can be sent stays so
pub still-can : {A : Type 0} (v w z : View A) (g : Ticket) (d : Departed) → Gone v w d → (length z.notes.free ≡ 1 + length w.notes.free) × (z.ports ≡ w.ports) × ((t : Ticket) → wrong z Sending t ≡ wrong w Sending t) × (z.slot ≡ w.slot)
    → CanSend v g → CanSend z g
still-can v w z g d gone took can =
    record {
      fits = took.2 g ∙ (gone.fits g ∙ can.fits);
      eight = omega (arith, took.1, gone.ports, can.eight);
      room = omega (arith, took.0, gone.room, can.room);
    }

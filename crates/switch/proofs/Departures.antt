-- A cell that departs, by the facts of the code.
use Rattle.std.proofs.Common.{◌≡◌, ℕ, ◌*◌, ◌<◌, ◌≤◌, Bool, true, false, cond, not, List, [], ◌∷◌, length, get_or, drop, set, Ok, Err, Result, sym, refl, ap, ◌∙◌, subst, ap₂, arith}
use Rattle.std.proofs.lemmas.Bool.{eq-eqb, and_parts, not-true}
use Rattle.cells.specs.Header.{vci_of}
use Rattle.outgoing.specs.Results.{written}
use Rattle.outgoing.specs.SlotBytes.{sending}
use Rattle.outgoing.proofs.Places.{has_part_lem}
use Rattle.pairs.specs.declared.table.Table.{Table}
use Rattle.pairs.specs.Tables.{holds, table_of, dropped}
use Rattle.pairs.proofs.Tables.{held, held_below}
use Rattle.law.specs.History.{both}
use Rattle.law.proofs.Blocks.{takes, queue-put}
use Rattle.refusals.specs.declared.refusal.Refusal.{Refusal}
use Rattle.queues.specs.declared.links.Links.{Links}
use Rattle.queues.specs.declared.refusal.QueueRefusal.{QueueRefusal}
use Rattle.queues.specs.Calls.{Outcome as Joined, outcome, unless, join_by, join_call}
use Rattle.queues.specs.Queues.{Queues, put, joined, taken}
use Rattle.queues.specs.Queues as Queued
use Rattle.refusals.specs.declared.refusal.Refusal.TheVariants.{CellMemoryLength, NoteMemoryLength, SlotBytesLength, WrongTicket, NoGrantLeft, NotesFull}
use Rattle.law.specs.declared.answers.Departed.{Departed}
use Rattle.law.specs.declared.memory.Block.{Block}
use Rattle.law.specs.declared.memory.Note.{Note}
use Rattle.law.specs.declared.stage.Stage.TheVariants.{Sending}
use Rattle.law.specs.View.{Memory, View, leaving, parted}
use Rattle.law.specs.Calls.{Outcome, Ticket, done, refused, cells_amiss, notes_amiss, bytes_amiss, wrong, number, head_block, noted, sent_first, depart_call}
use Rattle.law.proofs.Refusing.{passes}
use Rattle.switch.proofs.Heads.{fits-ok}

-- a note joins the notes of an output where a block is free
pub notes-join : (l : Links 64) (notes notes' : List Note) (o : ℕ) (x : Note) (r : Result ℕ QueueRefusal) (q : Queues) (n : ℕ) (free : List ℕ) → o < 8 → length notes ≡ 64 → (Queued.view l).free ≡ n ∷ free
    → outcome r q notes' ≡ join_call 64 (Queued.view l) notes o x → (q ≡ joined (Queued.view l) o) × (notes' ≡ set notes n x)
notes-join l notes notes' o x r q n free lo size e f =
    let s = Queued.view l in
    let y = f ∙ ap (λ (r : Result (Unit {0}) QueueRefusal). unless r s notes (join_by s notes o x s.free)) (fits-ok 64 (length notes) o lo size) ∙ ap (join_by s notes o x) e in
    (ap (λ (z : Joined ℕ Note). z.queues) y, ap (λ (z : Joined ℕ Note). z.blocks) y)

module _ {A : Type 0} (v : View A) (m : Memory) (t : Ticket) (cells_fit : length m.cells ≡ v.ports * 16) (notes-fit : length m.notes ≡ 64) (bytes_fit : length m.bytes ≡ v.ports * 53)
    (fits : wrong v Sending t ≡ false) where
  enters : depart_call v m t ≡ sent_first v m v.slot.grants
  enters = passes ((CellMemoryLength, cells_amiss v m) ∷ (NoteMemoryLength, notes_amiss m) ∷ (SlotBytesLength, bytes_amiss v m) ∷ (WrongTicket, wrong v Sending t) ∷ []) v m _
      (ap not (eq-eqb (length m.cells) (v.ports * 16) cells_fit), (ap not (eq-eqb (length m.notes) 64 notes-fit), (ap not (eq-eqb (length m.bytes) (v.ports * 53) bytes_fit), (fits, tt))))

  pub no-grant : v.slot.grants ≡ [] → depart_call v m t ≡ refused NoGrantLeft v m
  no-grant e = enters ∙ ap (sent_first v m) e

  module _ (x : ℕ × ℕ) (rest : List (ℕ × ℕ)) (e : v.slot.grants ≡ x ∷ rest) where
    pub notes-full : v.notes.free ≡ [] → depart_call v m t ≡ refused NotesFull v m
    notes-full f = enters ∙ ap (sent_first v m) e ∙ ap (noted v m x rest) f

    abbrev note : Block → ℕ → Note
    note b slot = record { slot = slot; input = x.0; came = vci_of b.cell; left = b.new_vci }

    abbrev out : (grants : List (ℕ × ℕ)) (sent : ℕ → Bool) (cells : ℕ → Queues) (notes : Queues) → List Note → List ℕ → Outcome A Departed
    out grants sent cells notes ns bytes = done (record { input = x.0; output = x.1 })
        (record {
          ports = v.ports;
          mark = v.mark;
          arbiter = v.arbiter;
          slot = record { next = v.slot.next; stage = v.slot.stage; used = v.slot.used; grants = grants; granted = v.slot.granted; sent = sent };
          tables = v.tables;
          cells = cells;
          notes = notes;
        })
        (record { cells = m.cells; notes = ns; bytes = bytes })

    pub departs : (n : ℕ) (free : List ℕ) → v.notes.free ≡ n ∷ free → (b : Block) (slot : ℕ) (sent : ℕ → Bool) (cells : ℕ → Queues) (notes : Queues) (ns : List Note) (bytes : List ℕ)
        → b ≡ head_block v m x.0 x.1 → slot ≡ number v.slot → sent ≡ put v.slot.sent x.1 true → cells ≡ put v.cells x.0 (taken (v.cells x.0) x.1)
        → notes ≡ joined v.notes x.1 → ns ≡ set m.notes n (note b slot) → bytes ≡ parted x.1 (leaving b) m.bytes
        → depart_call v m t ≡ out rest sent cells notes ns bytes
    departs n free f b slot sent cells notes ns bytes eb es et ec en em ey =
        enters ∙ ap (sent_first v m) e ∙ ap (noted v m x rest) f
        ∙ sym (ap₂ (λ (k : ℕ → Bool) (c : ℕ → Queues). out rest k c notes ns bytes) et ec
        ∙ ap₂ (λ (q : Queues) (l : List Note). out rest (put v.slot.sent x.1 true) (put v.cells x.0 (taken (v.cells x.0) x.1)) q l bytes) en em
        ∙ ap (out rest (put v.slot.sent x.1 true) (put v.cells x.0 (taken (v.cells x.0) x.1)) (joined v.notes x.1) (set m.notes n (note b slot))) ey
        ∙ ap₂ (λ (z : Block) (k : ℕ). out rest (put v.slot.sent x.1 true) (put v.cells x.0 (taken (v.cells x.0) x.1)) (joined v.notes x.1) (set m.notes n (note z k)) (parted x.1 (leaving z) m.bytes)) eb es)

first_of : (l : List ℕ) → 1 ≤ length l → l ≡ get_or l 0 0 ∷ drop 1 l
first_of [] l = absurd (omega arith)
first_of (b ∷ rest) l = refl

-- the grants that are left are still ready
pub ready-sent : (t u : Table) (x : ℕ × ℕ) (cs ds : ℕ → Queues) → u ≡ table_of (dropped (holds t) x.0 x.1) → holds t x.0 x.1 ≡ true → ds ≡ put cs x.0 (taken (cs x.0) x.1)
    → ((y : ℕ × ℕ) → holds t y.0 y.1 ≡ true → 1 ≤ length ((cs y.0).queue y.1)) → (y : ℕ × ℕ) → holds u y.0 y.1 ≡ true → 1 ≤ length ((ds y.0).queue y.1)
ready-sent t u x cs ds e granted f ready y h =
    let l = held_below u y.0 y.1 h in
    let p = and_parts (holds t y.0 y.1) (not (both y.0 y.1 x.0 x.1)) (sym (held u (dropped (holds t) x.0 x.1) e y.0 y.1 l.0 l.1) ∙ h) in
    let q = takes (cs x.0) x.1 (get_or ((cs x.0).queue x.1) 0 0) (drop 1 ((cs x.0).queue x.1)) (first_of ((cs x.0).queue x.1) (ready x granted)) in
    let is = ap (λ (d : ℕ → Queues). (d y.0).queue y.1) f
    ∙ queue-put cs (taken (cs x.0) x.1) x.0 x.1 (drop 1 ((cs x.0).queue x.1)) y.0 y.1 q.queue
    ∙ ap (λ (b : Bool). cond b (drop 1 ((cs x.0).queue x.1)) ((cs y.0).queue y.1)) (not-true (both y.0 y.1 x.0 x.1) p.1) in
    subst (λ (l : List ℕ). 1 ≤ length l) (sym is) (ready y p.0)

pub nil-of : (l : List ℕ) → length l ≡ 0 → l ≡ []
nil-of [] e = refl
nil-of (b ∷ l) e = absurd (omega arith)

pub cons_of : (l : List ℕ) → (length l ≡ 0 → ⊥) → l ≡ get_or l 0 0 ∷ drop 1 l
cons_of l f = first_of l (omega arith)

-- what is written into the slot bytes
pub sent-bytes : (bytes bytes' : List ℕ) (o n : ℕ) (b : Block) → o < n → length bytes ≡ n * 53 → bytes' ≡ written (sending bytes o b) bytes → bytes' ≡ parted o (leaving b) bytes
sent-bytes bytes bytes' o n b l size e = e ∙ ap (λ (f : Bool). written (cond {A = Result (List ℕ) Refusal} f (Ok (parted o (leaving b) bytes)) (Err SlotBytesLength)) bytes) (has_part_lem o n bytes l (omega arith))

-- The ten calls, each by one definition of all its cases: from the switch, the memory lent and the arguments to the
-- answer, the switch and the memory afterwards.
use Rattle.std.specs.Prelude.{ℕ, ◌+◌, ◌-◌, ◌*◌, Bool, true, false, cond, not, ◌&&◌, List, [], ◌∷◌, length, Some, None, Ok, Err, Option, Result, ◌==◌, nat_lt, slice_index, slice_index_or, slice_set}
use Rattle.cells.specs.Header.{vci_of, is_idle}
use Rattle.pairs.specs.declared.table.Table.{Table}
use Rattle.pairs.specs.Tables.{table_of}
use Rattle.queues.specs.Queues.{Queues, put, joined, taken}
use Rattle.refusals.specs.declared.refusal.Refusal.{Refusal}
use Rattle.refusals.specs.declared.refusal.Refusal.TheVariants.{PortBeyond, CellLength, CellMemoryLength, NoteMemoryLength, SlotBytesLength, IdleOrLookLength, WrongTicket, SlotOpen, NoSlotNumber, TurnUsed, NoRoute, InputFull, GrantsUnsent, NoGrantLeft, NotesFull, NoNote, NoCell}
use Rattle.routes.specs.declared.route.Route.{Route}
use Rattle.routes.specs.Map.{Tables, setting, removing}
use Rattle.law.specs.declared.answers.Arrival.{Arrival}
use Rattle.law.specs.declared.answers.Arrival.TheVariants.{Idle, Accepted}
use Rattle.law.specs.declared.answers.Departed.{Departed}
use Rattle.law.specs.declared.answers.SlotClosed.{SlotClosed}
use Rattle.law.specs.declared.memory.Block.{Block}
use Rattle.law.specs.declared.memory.Note.{Note}
use Rattle.law.specs.declared.stage.Stage.{Stage}
use Rattle.law.specs.declared.stage.Stage.TheVariants.{Closed, Arriving, Sending}
use Rattle.arbiters.specs.Meaning.{Meaning}
use Rattle.law.specs.View.{Memory, Slot, View, place, leaving, part, parted, pairs}

-- what a call answers, or why it is refused, and what stands afterwards
pub record Outcome (A T : Type 0) : Type 0 where
  pub reply : Result T Refusal
  pub view : View A
  pub memory : Memory

-- what a ticket bears; its stage is its type's
pub record Ticket : Type 0 where
  pub mark : ℕ
  pub slot : ℕ

abbrev pub is_empty : {X : Type 0} → List X → Bool
is_empty [] = true
is_empty (x ∷ xs) = false

abbrev pub step : Stage → ℕ
step Closed = 0
step Arriving = 1
step Sending = 2

abbrev pub same_stage : Stage → Stage → Bool
same_stage x y = step x == step y

-- the number of the open slot
abbrev pub number : Slot → ℕ
number s = s.next - 1

-- parts of a slot and of a view replaced
abbrev pub turn_used : Slot → ℕ → Slot
turn_used s p = record { next = s.next; stage = s.stage; used = put s.used p true; grants = s.grants; granted = s.granted; sent = s.sent }

-- reasons to refuse: bytes that are no cell, note memory that is not 64 blocks
abbrev pub not53 : List ℕ → Bool
not53 x = not (length x == 53)

abbrev pub notes_amiss : Memory → Bool
notes_amiss m = not (length m.notes == 64)

module _ {A : Type 0} where
  abbrev pub with_slot : View A → Slot → View A
  with_slot v s = record { ports = v.ports; mark = v.mark; arbiter = v.arbiter; slot = s; tables = v.tables; cells = v.cells; notes = v.notes }

  abbrev pub with_tables : View A → Tables → View A
  with_tables v t = record { ports = v.ports; mark = v.mark; arbiter = v.arbiter; slot = v.slot; tables = t; cells = v.cells; notes = v.notes }

  abbrev pub with_notes : View A → Queues → View A
  with_notes v q = record { ports = v.ports; mark = v.mark; arbiter = v.arbiter; slot = v.slot; tables = v.tables; cells = v.cells; notes = q }

  -- carried out, and refused with all as it was
  abbrev pub done : {T : Type 0} → T → View A → Memory → Outcome A T
  done x v m = record { reply = Ok x; view = v; memory = m }

  abbrev pub refused : {T : Type 0} → Refusal → View A → Memory → Outcome A T
  refused k v m = record { reply = Err k; view = v; memory = m }

  -- refused for the first reason that holds; otherwise as given
  abbrev pub unless : {T : Type 0} → List (Refusal × Bool) → View A → Memory → Outcome A T → Outcome A T
  unless [] v m r = r
  unless (c ∷ cs) v m r = cond c.1 (refused c.0 v m) (unless cs v m r)

  -- and those that the switch has a part in: ports, cell memory, slot bytes
  abbrev pub beyond : View A → ℕ → Bool
  beyond v p = not (nat_lt p v.ports)

  abbrev pub pair_beyond : View A → ℕ → ℕ → Bool
  pair_beyond v i o = not (nat_lt i v.ports && nat_lt o v.ports)

  abbrev pub cells_amiss : View A → Memory → Bool
  cells_amiss v m = not (length m.cells == v.ports * 16)

  abbrev pub bytes_amiss : View A → Memory → Bool
  bytes_amiss v m = not (length m.bytes == v.ports * 53)

  -- a ticket not of this mark, slot and stage
  abbrev pub wrong : View A → Stage → Ticket → Bool
  wrong v s t = not ((t.mark == v.mark && t.slot + 1 == v.slot.next) && same_stage v.slot.stage s)

  -- the tables as a change of routes leaves them, or its refusal
  abbrev pub rerouted : View A → Memory → Result Tables Refusal → Outcome A (Unit {0})
  rerouted v m (Ok t) = done tt (with_tables v t) m
  rerouted v m (Err k) = refused k v m

  -- set a route of an input, and remove the one for a VCI
  abbrev pub set_route_call : View A → Memory → (input vci output new_vci : ℕ) → Outcome A (Unit {0})
  set_route_call v m p c o w = rerouted v m (setting v.tables v.ports p (record { vci = c; output = o; new_vci = w }))

  abbrev pub remove_route_call : View A → Memory → (input vci : ℕ) → Outcome A (Unit {0})
  remove_route_call v m p c = rerouted v m (removing v.tables v.ports p c)

  -- open the next slot: no turn is used; grants, sent marks and queues stay
  abbrev pub open_call : View A → Memory → Outcome A Ticket
  open_call v m =
      unless ((SlotOpen, not (same_stage v.slot.stage Closed)) ∷ (NoSlotNumber, nat_lt 4294967295 v.slot.next) ∷ []) v m
      (done (record { mark = v.mark; slot = v.slot.next })
      (with_slot v (record {
        next = v.slot.next + 1;
        stage = Arriving;
        used = λ _. false;
        grants = v.slot.grants;
        granted = v.slot.granted;
        sent = v.slot.sent;
      })) m)

  -- a cell stored in the block b, at the tail of its route's queue: the output and how many stand ahead
  abbrev pub stored : View A → Memory → ℕ → List ℕ → Route → List ℕ → Outcome A Arrival
  stored v m p c r [] = refused InputFull v m
  stored v m p c r (b ∷ free) =
      done (Accepted r.output (length ((v.cells p).queue r.output)))
      (record {
        ports = v.ports;
        mark = v.mark;
        arbiter = v.arbiter;
        slot = turn_used v.slot p;
        tables = v.tables;
        cells = put v.cells p (joined (v.cells p) r.output);
        notes = v.notes;
      })
      (record { cells = slice_set m.cells (place p b) (record { cell = c; new_vci = r.new_vci }); notes = m.notes; bytes = m.bytes })

  abbrev pub routed : View A → Memory → ℕ → List ℕ → Option Route → Outcome A Arrival
  routed v m p c None = refused NoRoute v m
  routed v m p c (Some r) = stored v m p c r (v.cells p).free

  -- a cell arrives at an input: an idle cell uses the turn and is not stored, and no route is looked for
  abbrev pub arrive_call : View A → Memory → Ticket → (input : ℕ) → (cell : List ℕ) → Outcome A Arrival
  arrive_call v m t p c =
      unless ((PortBeyond, beyond v p) ∷ (CellLength, not53 c) ∷ (CellMemoryLength, cells_amiss v m) ∷ (WrongTicket, wrong v Arriving t) ∷ (TurnUsed, v.slot.used p) ∷ []) v m
      (cond (is_idle c) (done Idle (with_slot v (turn_used v.slot p)) m) (routed v m p c (v.tables.route p (vci_of c))))

  -- a request for each queue that is not empty
  abbrev pub requests : View A → Table
  requests v = table_of (λ i o. (nat_lt i v.ports && nat_lt o v.ports) && not (is_empty ((v.cells i).queue o)))

  -- decide the slot: its grants are the arbiter's answer, and no output has been sent to
  abbrev pub decide_call : Meaning A → View A → Memory → Ticket → Outcome A Ticket
  decide_call a v m t =
      let grants = pairs v.ports (a.answer v.arbiter (requests v)) in
      unless ((WrongTicket, wrong v Arriving t) ∷ []) v m
      (done t (record {
        ports = v.ports;
        mark = v.mark;
        arbiter = a.after v.arbiter (requests v);
        slot = record { next = v.slot.next; stage = Sending; used = v.slot.used; grants = grants; granted = length grants; sent = λ _. false };
        tables = v.tables;
        cells = v.cells;
        notes = v.notes;
      }) m)

  -- the block at the head of the queue (i, o)
  abbrev pub head_block : View A → Memory → ℕ → ℕ → Block
  head_block v m i o = slice_index_or m.cells (place i (slice_index ((v.cells i).queue o) 0)) (record { cell = []; new_vci = 0 })

  -- the grant (i, o) sent, its note in the note block n
  abbrev pub noted : View A → Memory → ℕ × ℕ → List (ℕ × ℕ) → List ℕ → Outcome A Departed
  noted v m x rest [] = refused NotesFull v m
  noted v m x rest (n ∷ free) =
      let i = x.0 in
      let o = x.1 in
      let b = head_block v m i o in
      done (record { input = i; output = o })
      (record {
        ports = v.ports;
        mark = v.mark;
        arbiter = v.arbiter;
        slot = record { next = v.slot.next; stage = v.slot.stage; used = v.slot.used; grants = rest; granted = v.slot.granted; sent = put v.slot.sent o true };
        tables = v.tables;
        cells = put v.cells i (taken (v.cells i) o);
        notes = joined v.notes o;
      })
      (record {
        cells = m.cells;
        notes = slice_set m.notes n (record { slot = number v.slot; input = i; came = vci_of b.cell; left = b.new_vci });
        bytes = parted o (leaving b) m.bytes;
      })

  abbrev pub sent_first : View A → Memory → List (ℕ × ℕ) → Outcome A Departed
  sent_first v m [] = refused NoGrantLeft v m
  sent_first v m (x ∷ rest) = noted v m x rest v.notes.free

  -- send the grant of the lowest input not yet sent: the head of its queue leaves, rewritten, and a note is kept of it
  abbrev pub depart_call : View A → Memory → Ticket → Outcome A Departed
  depart_call v m t =
      unless ((CellMemoryLength, cells_amiss v m) ∷ (NoteMemoryLength, notes_amiss m) ∷ (SlotBytesLength, bytes_amiss v m) ∷ (WrongTicket, wrong v Sending t) ∷ []) v m
      (sent_first v m v.slot.grants)

  -- close the slot: its number and the number of its grants
  abbrev pub close_call : View A → Memory → Ticket → Outcome A SlotClosed
  close_call v m t =
      unless ((WrongTicket, wrong v Sending t) ∷ (GrantsUnsent, not (is_empty v.slot.grants)) ∷ []) v m
      (done (record { slot = number v.slot; grants = v.slot.granted })
      (with_slot v (record { next = v.slot.next; stage = Closed; used = v.slot.used; grants = v.slot.grants; granted = v.slot.granted; sent = v.slot.sent })) m)

  abbrev pub oldest : View A → Memory → ℕ → List ℕ → Outcome A Note
  oldest v m o [] = refused NoNote v m
  oldest v m o (n ∷ rest) = done (slice_index_or m.notes n (record { slot = 0; input = 0; came = 0; left = 0 })) (with_notes v (taken v.notes o)) m

  -- take the oldest note of an output
  abbrev pub take_note_call : View A → Memory → (output : ℕ) → Outcome A Note
  take_note_call v m o =
      unless ((PortBeyond, beyond v o) ∷ (NoteMemoryLength, notes_amiss m) ∷ []) v m (oldest v m o (v.notes.queue o))

  -- look at the head of a queue as it will leave, into the given bytes x: answered is what they hold afterwards
  abbrev pub look_call : View A → Memory → (input output : ℕ) → List ℕ → Outcome A (List ℕ)
  look_call v m i o x =
      unless ((PortBeyond, pair_beyond v i o) ∷ (CellMemoryLength, cells_amiss v m) ∷ (IdleOrLookLength, not53 x) ∷ (NoCell, is_empty ((v.cells i).queue o)) ∷ []) v m
      (done (leaving (head_block v m i o)) v m)

  -- the line of an output: its slot bytes if it was sent to since the latest decision, otherwise the given idle cell x
  abbrev pub line_call : View A → Memory → (output : ℕ) → List ℕ → Outcome A (List ℕ)
  line_call v m o x =
      unless ((PortBeyond, beyond v o) ∷ (SlotBytesLength, bytes_amiss v m) ∷ (IdleOrLookLength, not53 x) ∷ []) v m
      (done (cond (v.slot.sent o) (part o m.bytes) x) v m)

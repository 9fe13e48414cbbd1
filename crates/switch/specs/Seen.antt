-- A switch and its tickets as plain values, and what each call's contract says by the definition of that call.
use Rattle.std.specs.Prelude.{◌≡◌, ℕ, List, [], ◌∷◌, length, Ok, Err, Result, slice_index_or, slice_set}
use Rattle.cells.specs.Header.{vci_of}
use Rattle.std.specs.Borrow.{Bor}
use Rattle.outgoing.specs.Results.{answered, written, handed}
use Rattle.pairs.specs.Tables.{inside}
use Rattle.queues.specs.Queues.{Queues, put, joined}
use Rattle.queues.specs.Queues as Queued
use Rattle.refusals.specs.declared.refusal.Refusal.{Refusal}
use Rattle.refusals.specs.declared.refusal.Refusal.TheVariants.{InputFull}
use Rattle.routes.specs.Map.{tables_of}
use Rattle.law.specs.declared.answers.Arrival.{Arrival}
use Rattle.law.specs.declared.answers.Departed.{Departed}
use Rattle.law.specs.declared.answers.SlotClosed.{SlotClosed}
use Rattle.law.specs.declared.memory.Block.{Block}
use Rattle.law.specs.declared.memory.Note.{Note}
use Rattle.arbiters.specs.Meaning.{Meaning}
use Rattle.arbiters.specs.declared.arbiter.Arbiter.{Ghosts}
use Rattle.law.specs.View.{Memory, View, place, pairs}
use Rattle.law.specs.Calls.{Outcome, Ticket, routed, open_call, arrive_call, decide_call, depart_call, close_call, take_note_call, set_route_call, remove_route_call, look_call, line_call}
use Rattle.switch.specs.declared.state.Switch.{Switch}
use Rattle.switch.specs.declared.tickets.ArrivalTicket.{ArrivalTicket}
use Rattle.switch.specs.declared.tickets.GrantTicket.{GrantTicket}
use Rattle.switch.specs.declared.tickets.Returned.{Returned}
use Rattle.switch.specs.declared.tickets.Stamp.{Stamp}
use Rattle.switch.specs.Ready.{cells_of}

abbrev pub view : {A : Type 0} {G : Ghosts A} → Switch A G → View A
view s = record {
  ports = s.ports.number;
  mark = s.mark;
  arbiter = s.arbiter;
  slot = record { next = s.next; stage = s.stage; used = inside s.used; grants = pairs s.ports.number s.grants; granted = s.granted; sent = inside s.sent };
  tables = tables_of s.routes;
  cells = cells_of s.cells;
  notes = Queued.view s.notes;
}

abbrev pub stamped : Stamp → Ticket
stamped s = record { mark = s.mark; slot = s.slot }

abbrev pub arrival_of : ArrivalTicket → Ticket
arrival_of t = stamped t.stamp

abbrev pub grant_of : GrantTicket → Ticket
grant_of t = stamped t.stamp

-- an answer by its ticket's numbers, and a refusal that hands a ticket back
abbrev pub told : {X Y : Type 0} → (X → Y) → Result X Refusal → Result Y Refusal
told f (Ok x) = Ok (f x)
told f (Err k) = Err k

abbrev pub told_back : {X Y T : Type 0} → (X → Y) → Result X (Returned T) → Result Y Refusal
told_back f (Ok x) = Ok (f x)
told_back f (Err e) = Err e.refusal

abbrev pub HandsBack : {X T : Type 0} → T → Result X (Returned T) → Type 0
HandsBack t (Ok x) = Unit {0}
HandsBack t (Err e) = e.ticket ≡ t

-- a call that is lent no memory
abbrev pub Does : {A T : Type 0} {G : Ghosts A} → (Memory → Outcome A T) → Result T Refusal → Switch A G → Type 0
Does f r t = (m : Memory) → f m ≡ record { reply = r; view = view t; memory = m }

abbrev pub Opens : {A : Type 0} {G : Ghosts A} → Switch A G → Result ArrivalTicket Refusal → Switch A G → Type 0
Opens s r t = Does (open_call (view s)) (told arrival_of r) t

abbrev pub Closes : {A : Type 0} {G : Ghosts A} → Switch A G → GrantTicket → Result SlotClosed (Returned GrantTicket) → Switch A G → Type 0
Closes s t r u = Does (λ m. close_call (view s) m (grant_of t)) (told_back (λ x. x) r) u

abbrev pub Decides : {A : Type 0} {G : Ghosts A} → Meaning A → Switch A G → ArrivalTicket → Result GrantTicket (Returned ArrivalTicket) → Switch A G → Type 0
Decides a s t r u = Does (λ m. decide_call a (view s) m (arrival_of t)) (told_back grant_of r) u

abbrev pub SetsRoute : {A : Type 0} {G : Ghosts A} → Switch A G → (input vci output new_vci : ℕ) → Result (Unit {0}) Refusal → Switch A G → Type 0
SetsRoute s p c o w r t = Does (λ m. set_route_call (view s) m p c o w) r t

abbrev pub RemovesRoute : {A : Type 0} {G : Ghosts A} → Switch A G → (input vci : ℕ) → Result (Unit {0}) Refusal → Switch A G → Type 0
RemovesRoute s p c r t = Does (λ m. remove_route_call (view s) m p c) r t

-- a call that is lent the notes, and leaves them as they are
abbrev pub TakesNote : {A : Type 0} {G : Ghosts A} → Switch A G → (output : ℕ) → List Note → Result Note Refusal → Switch A G → Type 0
TakesNote s o notes r t = (cells : List Block) (bytes : List ℕ) → let m : Memory = record { cells = cells; notes = notes; bytes = bytes } in take_note_call (view s) m o ≡ record { reply = r; view = view t; memory = m }

-- a block stored in the first free block of input i, at the tail of its queue q: what is answered, and the queues of
-- all inputs and the blocks afterwards
pub record Stored : Type 0 where
  pub answer : Result ℕ Refusal
  pub queues : ℕ → Queues
  pub blocks : List Block

abbrev pub storing : (ℕ → Queues) → List Block → (i q : ℕ) → Block → (free : List ℕ) → Stored
storing s xs i q x [] = record { answer = Err InputFull; queues = s; blocks = xs }
storing s xs i q x (b ∷ rest) = record { answer = Ok (length ((s i).queue q)); queues = put s i (joined (s i) q); blocks = slice_set xs (place i b) x }

abbrev pub Stores : (ℕ → Queues) → List Block → (i q : ℕ) → Block → Result ℕ Refusal → (ℕ → Queues) → List Block → Type 0
Stores s xs i q x r t ys = ◌≡◌ {A = Stored} (record { answer = r; queues = t; blocks = ys }) (storing s xs i q x (s i).free)

-- a call that is lent cell memory
abbrev pub Arrives : {A : Type 0} {G : Ghosts A} → Switch A G → ArrivalTicket → (input : ℕ) → (cell : List ℕ) → List Block → Result Arrival Refusal → Switch A G → List Block → Type 0
Arrives s t p c cells r u cells' = (notes : List Note) (bytes : List ℕ)
    → arrive_call (view s) (record { cells = cells; notes = notes; bytes = bytes }) (arrival_of t) p c
    ≡ record { reply = r; view = view u; memory = record { cells = cells'; notes = notes; bytes = bytes } }

-- and of this, the part in which the route is looked for and the cell stored
abbrev pub Accepts : {A : Type 0} {G : Ghosts A} → Switch A G → (input : ℕ) → (cell : List ℕ) → List Block → Result Arrival Refusal → Switch A G → List Block → Type 0
Accepts s p c cells r u cells' = (notes : List Note) (bytes : List ℕ)
    → routed (view s) (record { cells = cells; notes = notes; bytes = bytes }) p c ((view s).tables.route p (vci_of c))
    ≡ record { reply = r; view = view u; memory = record { cells = cells'; notes = notes; bytes = bytes } }

-- the block b of input i
abbrev pub block_at : List Block → (i b : ℕ) → Block
block_at cells i b = slice_index_or cells (place i b) (record { cell = []; new_vci = 0 })

-- a call that is lent all memory, and leaves cell memory as it is
abbrev pub Departs : {A : Type 0} {G : Ghosts A} → Switch A G → GrantTicket → List Block → List Note → List ℕ → Result Departed Refusal → Switch A G → List Note → List ℕ → Type 0
Departs s t cells notes bytes r u notes' bytes' =
    depart_call (view s) (record { cells = cells; notes = notes; bytes = bytes }) (grant_of t) ≡ record { reply = r; view = view u; memory = record { cells = cells; notes = notes'; bytes = bytes' } }

-- a call that shows the head of a queue in the bytes x, which then are y, and leaves the switch as it is
abbrev pub looking : {A : Type 0} {G : Ghosts A} → Switch A G → (i o : ℕ) → List Block → (x : List ℕ) → List Note → List ℕ → Outcome A (List ℕ)
looking s i o cells x notes bytes = look_call (view s) (record { cells = cells; notes = notes; bytes = bytes }) i o x

pub record Looks {A : Type 0} {G : Ghosts A} (s : Switch A G) (i o : ℕ) (cells : List Block) (x : List ℕ) (r : Result (Unit {0}) Refusal) (cells' : List Block) (y : List ℕ) : Type 0 where
  pub answer : (notes : List Note) (bytes : List ℕ) → r ≡ answered (looking s i o cells x notes bytes).reply
  pub shown : (notes : List Note) (bytes : List ℕ) → y ≡ written (looking s i o cells x notes bytes).reply x
  pub memory : (notes : List Note) (bytes : List ℕ) → (looking s i o cells x notes bytes).memory ≡ record { cells = cells'; notes = notes; bytes = bytes }
  pub switch : (notes : List Note) (bytes : List ℕ) → (looking s i o cells x notes bytes).view ≡ view s

-- a call that hands out a part of one of two slices, and leaves all as it is
abbrev pub Lines : {A : Type 0} {G : Ghosts A} → Switch A G → (output : ℕ) → (bytes idle : List ℕ) → Result (Bor (List ℕ)) Refusal → Type 0
Lines s o bytes idle r = (cells : List Block) (notes : List Note) → let m : Memory = record { cells = cells; notes = notes; bytes = bytes } in line_call (view s) m o idle ≡ record { reply = handed r; view = view s; memory = m }

-- A switch with its memory and the ticket of its open slot, and what its calls come to: each is one or more calls of the
-- switch, up to the first that is refused.
use Rattle.std.specs.Prelude.{ℕ, zero, suc, ◌*◌, Bool, List, [], ◌∷◌, replicate, is_some, Some, None, Ok, Err, Option, Result}
use Rattle.std.specs.List.{between}
use Rattle.arbiters.specs.Meaning.{Meaning}
use Rattle.refusals.specs.declared.refusal.Refusal.{Refusal}
use Rattle.law.specs.declared.answers.Arrival.{Arrival}
use Rattle.law.specs.declared.answers.SlotClosed.{SlotClosed}
use Rattle.law.specs.declared.memory.Block.{Block}
use Rattle.law.specs.declared.memory.Note.{Note}
use Rattle.law.specs.View.{Memory, View, part}
use Rattle.law.specs.Calls.{Outcome, Ticket, open_call, arrive_call, decide_call, depart_call, close_call, take_note_call, set_route_call}
use Rattle.law.specs.Runs.{made}
use Rattle.machine.specs.declared.departures.Sent.{Sent}

pub record Standing (A : Type 0) : Type 0 where
  pub view : View A
  pub memory : Memory
  -- the arrival ticket of the open slot
  pub ticket : Option Ticket

-- what is answered, or why it is refused, and what stands afterwards
pub record Told (A T : Type 0) : Type 0 where
  pub reply : Result T Refusal
  pub standing : Standing A

-- the cells sent in a slot, in order, and what its close answered
pub record Ended : Type 0 where
  pub sent : List Sent
  pub closed : SlotClosed

-- as much memory as n ports need
abbrev pub lent : ℕ → List Block → List Note → List ℕ → Memory
lent n blocks notes bytes = record { cells = between 0 (n * 16) blocks; notes = notes; bytes = between 0 (n * 53) bytes }

-- memory in which nothing was stored yet
abbrev pub empty_block : Block
empty_block = record { cell = replicate 53 0; new_vci = 0 }

abbrev pub empty_note : Note
empty_note = record { slot = 0; input = 0; came = 0; left = 0 }

-- a refused decide hands the ticket back
abbrev pub handed_back : {T : Type 0} → Result T Refusal → Ticket → Option Ticket
handed_back (Ok x) t = None
handed_back (Err k) t = Some t

module _ {A : Type 0} where
  -- a call of the switch, while this ticket is held
  abbrev pub calling : {T : Type 0} → Outcome A T → Option Ticket → Told A T
  calling o held = record { reply = o.reply; standing = record { view = o.view; memory = o.memory; ticket = held } }

  -- one step after another, up to the first that is refused
  abbrev pub following : {T U : Type 0} → Result T Refusal → Standing A → (T → Standing A → Told A U) → Told A U
  following (Ok x) s next = next x s
  following (Err k) s next = record { reply = Err k; standing = s }

  abbrev pub and_then : {T U : Type 0} → Told A T → (T → Standing A → Told A U) → Told A U
  and_then step next = following step.reply step.standing next

  abbrev pub answering : {T : Type 0} → T → Standing A → Told A T
  answering x s = record { reply = Ok x; standing = s }

  -- a switch just made of the arbiter x, with empty memory
  abbrev pub starting : Meaning A → A → (mark first : ℕ) → Standing A
  starting a x mark first = record { view = made a x mark first; memory = lent (a.ports x) (replicate 128 empty_block) (replicate 64 empty_note) (replicate 424 0); ticket = None }

  abbrev pub is_open : Standing A → Bool
  is_open s = is_some s.ticket

  -- a route is set
  abbrev pub routing : Standing A → (input vci output new_vci : ℕ) → Told A (Unit {0})
  routing s p c o w = calling (set_route_call s.view s.memory p c o w) s.ticket

  -- the ticket of the open slot is taken up; if no slot is open, the next is opened
  abbrev pub taking_up : Standing A → Option Ticket → Told A Ticket
  taking_up s (Some t) = answering t (record { view = s.view; memory = s.memory; ticket = None })
  taking_up s None = calling (open_call s.view s.memory) None

  -- a cell arrives, in a slot that is opened for it if none is
  abbrev pub arriving : Standing A → (input : ℕ) → (cell : List ℕ) → Told A Arrival
  arriving s p c = and_then (taking_up s s.ticket) (λ t u. calling (arrive_call u.view u.memory t p c) (Some t))

  -- a cell departs, and its note is taken there and then
  abbrev pub departing : Ticket → Standing A → Told A Sent
  departing g s =
      and_then (calling (depart_call s.view s.memory g) None)
      (λ d u. and_then (calling (take_note_call u.view u.memory d.output) None)
      (λ n w. answering (record { output = d.output; note = n; cell = part d.output w.memory.bytes }) w))

  -- so many, one after the other
  abbrev pub departing_all : ℕ → Ticket → Standing A → Told A (List Sent)
  departing_all zero g s = answering [] s
  departing_all (suc k) g s = and_then (departing g s) (λ x u. and_then (departing_all k g u) (λ xs w. answering (x ∷ xs) w))

  -- the slot is decided
  abbrev pub deciding : Meaning A → Ticket → Standing A → Told A Ticket
  deciding a t s =
      let o = decide_call a s.view s.memory t in
      calling o (handed_back o.reply t)

  -- all its grants are sent, and the slot is closed
  abbrev pub finishing : Ticket → Standing A → Told A Ended
  finishing g s =
      and_then (departing_all s.view.slot.granted g s)
      (λ sent u. and_then (calling (close_call u.view u.memory g) None)
      (λ closed w. answering (record { sent = sent; closed = closed }) w))

  -- the slot is decided, sent and closed; it is opened first if none is open
  abbrev pub ending : Meaning A → Standing A → Told A Ended
  ending a s = and_then (taking_up s s.ticket) (λ t u. and_then (deciding a t u) finishing)

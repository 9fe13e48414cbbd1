-- Runs: calls one after another, with any arguments and tickets, each carried out or refused.
use Rattle.std.specs.Prelude.{ℕ, false, List, [], ◌∷◌, Ok, Err, Result}
use Rattle.queues.specs.Queues.{unused}
use Rattle.refusals.specs.declared.refusal.Refusal.{Refusal}
use Rattle.routes.specs.Map.{empty}
use Rattle.law.specs.declared.answers.Arrival.{Arrival}
use Rattle.law.specs.declared.answers.Departed.{Departed}
use Rattle.law.specs.declared.answers.SlotClosed.{SlotClosed}
use Rattle.law.specs.declared.memory.Note.{Note}
use Rattle.law.specs.declared.stage.Stage.TheVariants.{Closed}
use Rattle.arbiters.specs.Meaning.{Meaning}
use Rattle.law.specs.View.{Memory, View}
use Rattle.law.specs.Calls.{Outcome, Ticket, set_route_call, remove_route_call, open_call, arrive_call, decide_call, depart_call, close_call, take_note_call, look_call, line_call}

pub data Call : Type 0 where
  set_route : (input vci output new_vci : ℕ) → Call
  remove_route : (input vci : ℕ) → Call
  open_slot : Call
  arrive : Ticket → (input : ℕ) (cell : List ℕ) → Call
  decide : Ticket → Call
  depart : Ticket → Call
  close : Ticket → Call
  take_note : (output : ℕ) → Call
  look : (input output : ℕ) (bytes : List ℕ) → Call
  line : (output : ℕ) (idle : List ℕ) → Call

-- what a call answers if it is carried out
abbrev pub Answer : Call → Type 0
Answer (set_route p c o w) = Unit {0}
Answer (remove_route p c) = Unit {0}
Answer open_slot = Ticket
Answer (arrive t p x) = Arrival
Answer (decide t) = Ticket
Answer (depart t) = Departed
Answer (close t) = SlotClosed
Answer (take_note o) = Note
Answer (look i o x) = List ℕ
Answer (line o x) = List ℕ

-- a call, its answer or refusal, and the slot bytes right after it
pub record Event : Type 0 where
  pub call : Call
  pub reply : Result (Answer call) Refusal
  pub bytes : List ℕ

abbrev pub IsRefused : {T : Type 0} → Result T Refusal → Type 0
IsRefused (Ok x) = ⊥
IsRefused (Err k) = Unit {0}

abbrev pub event_of : {A : Type 0} (c : Call) → Outcome A (Answer c) → Event
event_of c r = record { call = c; reply = r.reply; bytes = r.memory.bytes }

module _ {A : Type 0} (a : Meaning A) where
  abbrev pub outcome : View A → Memory → (c : Call) → Outcome A (Answer c)
  outcome v m (set_route p c o w) = set_route_call v m p c o w
  outcome v m (remove_route p c) = remove_route_call v m p c
  outcome v m open_slot = open_call v m
  outcome v m (arrive t p x) = arrive_call v m t p x
  outcome v m (decide t) = decide_call a v m t
  outcome v m (depart t) = depart_call v m t
  outcome v m (close t) = close_call v m t
  outcome v m (take_note o) = take_note_call v m o
  outcome v m (look i o x) = look_call v m i o x
  outcome v m (line o x) = line_call v m o x

  -- the runs of a switch that stood at v with the memory m: the events, the latest first, and what stands afterwards
  pub data Run (v : View A) (m : Memory) : List Event → View A → Memory → Type 0 where
    nothing : Run v m [] v m
    -- a call gets the memory that the one before it left
    next : {es : List Event} {w : View A} {x : Memory} → Run v m es w x → (c : Call)
        → Run v m (event_of c (outcome w x c) ∷ es) (outcome w x c).view (outcome w x c).memory
    -- a refused call may get any other memory, of any length
    elsewhere : {es : List Event} {w : View A} {x : Memory} → Run v m es w x → (c : Call) (y : Memory) → IsRefused (outcome w y c).reply
        → Run v m (event_of c (outcome w y c) ∷ es) (outcome w y c).view x

-- a switch just made of the arbiter s, a mark and the number of its first slot
abbrev pub made : {A : Type 0} → Meaning A → A → (mark first : ℕ) → View A
made a s mark first = record {
  ports = a.ports s;
  mark = mark;
  arbiter = s;
  slot = record { next = first; stage = Closed; used = λ _. false; grants = []; granted = 0; sent = λ _. false };
  tables = empty;
  cells = λ _. unused 16;
  notes = unused 64;
}

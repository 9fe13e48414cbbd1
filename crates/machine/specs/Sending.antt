-- What is known of a machine while the grants of its slot are sent.
use Rattle.std.specs.Prelude.{◌≡◌, ℕ, ◌+◌, ◌≤◌, false, List, [], length, Some, None, Ok, Err, Option, Result}
use Rattle.refusals.specs.declared.refusal.Refusal.{Refusal}
use Rattle.law.specs.declared.memory.Block.{Block}
use Rattle.law.specs.declared.memory.Note.{Note}
use Rattle.law.specs.declared.stage.Stage.TheVariants.{Sending}
use Rattle.law.specs.View.{View}
use Rattle.law.specs.Calls.{Ticket, wrong}
use Rattle.machine.specs.declared.departures.Sent.{Sent}
use Rattle.machine.specs.Standing.{Standing, lent, answering, departing, departing_all}

-- a switch with it, while no arrival ticket is held
abbrev pub sending : {A : Type 0} → View A → List Block → List Note → List ℕ → Standing A
sending v blocks notes bytes = record { view = v; memory = lent v.ports blocks notes bytes; ticket = None }

-- the grant ticket is that of the open slot, the switch has at most eight ports, and there is room for a note
pub record CanSend {A : Type 0} (v : View A) (g : Ticket) : Type 0 where
  pub fits : wrong v Sending g ≡ false
  pub eight : v.ports ≤ 8
  pub room : 1 ≤ length v.notes.free

-- one grant fewer is left
pub record OneSent {A : Type 0} (g : Ticket) (s : Standing A) (x : Sent) (u : Standing A) : Type 0 where
  pub departed : departing g s ≡ answering x u
  pub fewer : length s.view.slot.grants ≡ 1 + length u.view.slot.grants
  pub can : CanSend s.view g → CanSend u.view g

-- the next grant was sent, or none was left
abbrev pub SendsOne : {A : Type 0} → Ticket → Standing A → Option Sent → Standing A → Type 0
SendsOne g s None u = (u ≡ s) × (s.view.slot.grants ≡ [])
SendsOne g s (Some x) u = OneSent g s x u

-- all grants were sent
pub record SendsAll {A : Type 0} (g : Ticket) (s : Standing A) (xs : List Sent) (u : Standing A) : Type 0 where
  pub departed : departing_all (length s.view.slot.grants) g s ≡ answering xs u
  pub none_left : u.view.slot.grants ≡ []
  pub can : CanSend s.view g → CanSend u.view g

-- the grants just decided: no arrival ticket is held, and there are at most eight, as many as are counted
pub record Granted {A : Type 0} (s : Standing A) : Type 0 where
  pub held : s.ticket ≡ None
  pub counted : s.view.slot.granted ≡ length s.view.slot.grants
  pub few : length s.view.slot.grants ≤ 8

-- a slot that is open can always be ended
abbrev pub OpenEnds : {T : Type 0} → Option Ticket → Result T Refusal → Type 0
OpenEnds None r = Unit {0}
OpenEnds (Some t) (Ok x) = Unit {0}
OpenEnds (Some t) (Err k) = ⊥

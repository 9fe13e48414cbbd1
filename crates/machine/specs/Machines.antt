-- A machine and what it answers, as plain values.
use Rattle.arbiters.specs.declared.arbiter.Arbiter.{Ghosts}
use Rattle.std.specs.Prelude.{Some, None, Option, Result}
use Rattle.refusals.specs.declared.refusal.Refusal.{Refusal}
use Rattle.law.specs.View.{Memory}
use Rattle.law.specs.Calls.{Ticket}
use Rattle.switch.specs.declared.tickets.ArrivalTicket.{ArrivalTicket}
use Rattle.switch.specs.Seen.{view, arrival_of}
use Rattle.machine.specs.declared.departures.EndedSlot.{EndedSlot}
use Rattle.machine.specs.declared.machine.Machine.{Machine}
use Rattle.machine.specs.Listed.{listed}
use Rattle.machine.specs.Standing.{Standing, Told, Ended, lent}

abbrev pub ticket_of : Option ArrivalTicket → Option Ticket
ticket_of None = None
ticket_of (Some t) = Some (arrival_of t)

abbrev pub memory_of : {A : Type 0} {G : Ghosts A} → Machine A G → Memory
memory_of s = lent (view s.switch).ports s.blocks s.notes s.bytes

abbrev pub standing : {A : Type 0} {G : Ghosts A} → Machine A G → Standing A
standing s = record { view = view s.switch; memory = memory_of s; ticket = ticket_of s.ticket }

abbrev pub ended_of : EndedSlot → Ended
ended_of e = record { sent = listed e.departures; closed = e.closed }

-- a machine answers so, and stands so afterwards
abbrev pub telling : {A T : Type 0} {G : Ghosts A} → Result T Refusal → Machine A G → Told A T
telling r s = record { reply = r; standing = standing s }

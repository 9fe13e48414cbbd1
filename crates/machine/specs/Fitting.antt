-- What a machine keeps between its calls, so that a slot can always be brought to its end.
use Rattle.std.specs.Prelude.{◌≡◌, Bool, false, Some, None, Ok, Err, Option, Result}
use Rattle.refusals.specs.declared.refusal.Refusal.{Refusal}
use Rattle.law.specs.declared.stage.Stage.{Stage}
use Rattle.law.specs.declared.stage.Stage.TheVariants.{Arriving}
use Rattle.law.specs.View.{View}
use Rattle.law.specs.Calls.{Ticket, wrong}
use Rattle.switch.specs.declared.tickets.ArrivalTicket.{ArrivalTicket}
use Rattle.switch.specs.Seen.{arrival_of}

-- a ticket that is held is not that of the open slot
abbrev pub unfit : {A : Type 0} → View A → Option ArrivalTicket → Bool
unfit v None = false
unfit v (Some t) = wrong v Arriving (arrival_of t)

-- a ticket that is given is that of the slot that is open, in this stage
abbrev pub Fits : {A : Type 0} → Stage → View A → Result Ticket Refusal → Type 0
Fits s v (Ok t) = wrong v s t ≡ false
Fits s v (Err k) = Unit {0}

-- What is known of a switch of two ports from call to call, so that a slot can always be brought to its end.
use Rattle.std.specs.Prelude.{◌≡◌, ℕ, ◌+◌, ◌-◌, ◌*◌, ◌<◌, ◌≤◌, false, length, Ok, Err, Result}
use Rattle.refusals.specs.declared.refusal.Refusal.{Refusal}
use Rattle.law.specs.declared.answers.SlotClosed.{SlotClosed}
use Rattle.law.specs.declared.stage.Stage.TheVariants.{Sending}
use Rattle.law.specs.View.{View}
use Rattle.law.specs.Calls.{Ticket, wrong}
use Rattle.switch.specs.declared.tickets.GrantTicket.{GrantTicket}
use Rattle.switch.specs.declared.tickets.Returned.{Returned}
use Rattle.switch.specs.Seen.{grant_of}

module _ {A : Type 0} where
  -- there are two ports, and where no note block is free the output o has a note
  abbrev pub Kept : ℕ → View A → Type 0
  Kept o v = (v.ports ≡ 2) × (o < 2) × (1 ≤ length v.notes.free + length (v.notes.queue o))

  -- a ticket given fits a switch that sends
  abbrev pub Fits : View A → Result Ticket Refusal → Type 0
  Fits v (Ok t) = wrong v Sending t ≡ false
  Fits v (Err k) = Unit {0}

  -- a refused close hands the ticket back and changes nothing; if the ticket fits, a grant is left
  abbrev pub Closing : View A → GrantTicket → Result SlotClosed (Returned GrantTicket) → View A → Type 0
  Closing v t (Ok x) w = Unit {0}
  Closing v t (Err e) w = (e.ticket ≡ t) × (w ≡ v) × (wrong v Sending (grant_of t) ≡ false → 1 ≤ length v.slot.grants)

  -- how far a slot is from its close: two steps for each grant that is left, and one more where no note block is free
  abbrev pub weight : View A → ℕ
  weight v = 2 * length v.slot.grants + (1 - length v.notes.free)

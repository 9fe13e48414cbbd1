-- What an attempt to close leaves.
use Rattle.std.specs.Prelude.{◌≡◌, ◌≤◌, length, Ok, Err, Result}
use Rattle.arbiters.specs.Kinds.{Diagonal}
use Rattle.law.specs.declared.answers.SlotClosed.{SlotClosed}
use Rattle.law.specs.View.{View}
use Rattle.switch.specs.Seen.{view}
use Rattle.calls.specs.declared.sending.Unclosed.{Unclosed}
use Rattle.calls.specs.declared.two_ports.TwoPorts.{TwoPorts}

-- refused, the switch is as it was, with a grant left to send
abbrev pub LeavesGrants : View Diagonal → Result (TwoPorts × SlotClosed) Unclosed → Type 0
LeavesGrants v (Ok x) = Unit {0}
LeavesGrants v (Err e) = (view e.sending.two.switch ≡ v) × (1 ≤ length v.slot.grants)

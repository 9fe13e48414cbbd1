-- What making a port count answers: the number from 2 to 8, or the refusal.
use Rattle.std.specs.Prelude.{◌≡◌, ℕ, ◌≤◌, Ok, Err, Result}
use Rattle.refusals.specs.declared.refusal.Refusal.{Refusal}
use Rattle.refusals.specs.declared.refusal.Refusal.TheVariants.{PortCount as wrong_port_count}
use Rattle.grants.specs.declared.port_count.PortCount.{PortCount}

-- a number from 2 to 8 is counted, and any other is refused
abbrev pub Counted : ℕ → Result PortCount Refusal → Type 0
Counted n (Ok c) = c.number ≡ n
Counted n (Err e) = (2 ≤ n → n ≤ 8 → ⊥) × (e ≡ wrong_port_count)

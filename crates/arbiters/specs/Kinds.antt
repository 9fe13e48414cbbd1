-- The diagonal and the ripple arbiter: the type of each, and what it means.
use Rattle.std.specs.Prelude.{ℕ, ◌≤◌, Ok, Err, Result}
use Rattle.std.proofs.Math.Decide.{dec_le}
use Rattle.refusals.specs.declared.refusal.Refusal.{Refusal}
use Rattle.refusals.specs.declared.refusal.Refusal.TheVariants.{PortCount as wrong_port_count}
use Rattle.grants.specs.declared.port_count.PortCount.{PortCount}
use Rattle.arbiters.specs.declared.diagonal.Diagonals.{Diagonals}
use Rattle.arbiters.specs.declared.ripple.Ripples.{Ripples}
use Rattle.arbiters.specs.declared.turning.Turning.{Turning}
use Rattle.arbiters.specs.Meaning.{Meaning}
use Rattle.arbiters.specs.Turning.{turning}
use Rattle.arbiters.specs.Wirings.{diagonal, ripple}

abbrev pub Diagonal : Type 0
Diagonal = Turning Diagonals

abbrev pub Ripple : Type 0
Ripple = Turning Ripples

abbrev pub diagonals : Meaning Diagonal
diagonals = turning diagonal

abbrev pub ripples : Meaning Ripple
ripples = turning ripple

-- a port count is a number from 2 to 8
abbrev pub counted_by : (n : ℕ) → Dec (2 ≤ n) → Dec (n ≤ 8) → Result PortCount Refusal
counted_by n (yes two) (yes eight) = Ok (record { number = n; two = two; eight = eight })
counted_by n (yes two) (no more) = Err wrong_port_count
counted_by n (no fewer) eight = Err wrong_port_count

abbrev pub counted : ℕ → Result PortCount Refusal
counted n = counted_by n (dec_le 2 n) (dec_le n 8)

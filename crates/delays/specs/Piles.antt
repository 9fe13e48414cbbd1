-- A pile of three reservations on a diagonal arbiter, and what it means.
use Rattle.std.specs.Prelude.{ℕ}
use Rattle.arbiters.specs.Kinds.{diagonals}
use Rattle.arbiters.specs.Meaning.{Meaning}
use Rattle.arbiters.specs.Reservations.{reservations}
use Rattle.piles.specs.Three.{Pile}
use Rattle.piles.specs.Three as of_three
use Rattle.delays.specs.declared.periods.Periods.{Periods}

-- what the pile means: what a reservation means on an arbiter, three times, on what the diagonal arbiter means
abbrev pub piled : Meaning Pile
piled = reservations (reservations (reservations diagonals))

-- its periods
abbrev pub periods_of : Pile → Periods
periods_of s = record { low = s.below.below.period.slots; middle = s.below.period.slots; high = s.period.slots }

-- a pile just made for n ports and the periods p: no pair is reserved, every period begins, the turn is at the diagonal 0; and its
-- longest wait is that of the definition
abbrev pub Stands : ℕ → Periods → Pile → Type 0
Stands n p = of_three.Stands n p.low p.middle p.high

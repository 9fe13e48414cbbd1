-- What a pile of three reservations on a diagonal arbiter promises: n is its ports, and a, b and c are its periods from the lowest.
use Rattle.std.specs.Prelude.{◌≡◌, ℕ, ◌-◌, cond, ◌&&◌, Some, None, Ok, Err, Option, Result}
use Rattle.refusals.specs.declared.refusal.Refusal.{Refusal}
use Rattle.refusals.specs.declared.refusal.Refusal.TheVariants.{PeriodRange, PortCount}
use Rattle.arbiters.specs.declared.reservation.Reservation.{Reservation}
use Rattle.arbiters.specs.Kinds.{Diagonal, diagonals}
use Rattle.arbiters.specs.Periods.{longest}
use Rattle.arbiters.specs.Reservations.{Fresh, reservations}
use Rattle.piles.specs.Fits.{period_fits, ports_fit}

abbrev pub Pile : Type 0
Pile = Reservation (Reservation (Reservation Diagonal))

-- the bound of the pile, as the trait gives it at this type
abbrev pub bound : Pile → ℕ
bound = (reservations (reservations (reservations diagonals))).bound

-- ports that do not fit are refused first, and then a period that does not
abbrev pub refusal : ℕ → ℕ → ℕ → ℕ → Option Refusal
refusal n a b c = cond (ports_fit n) (cond ((period_fits a && period_fits b) && period_fits c) None (Some PeriodRange)) (Some PortCount)

-- each reservation is new and stands on the one below, at the bottom is a new diagonal arbiter; and the bound of it all
pub record Stands (n a b c : ℕ) (p : Pile) : Type 0 where
  pub high : Fresh p.below c p
  pub middle : Fresh p.below.below b p.below
  pub low : Fresh p.below.below.below a p.below.below
  pub ports : p.below.below.below.ports.number ≡ n
  pub turn : p.below.below.below.turn ≡ 0
  pub bounded : bound p ≡ longest c (longest b (longest a (n - 1)))

abbrev pub Piled : ℕ → ℕ → ℕ → ℕ → Result Pile Refusal → Type 0
Piled n a b c (Ok p) = (refusal n a b c ≡ None) × Stands n a b c p
Piled n a b c (Err e) = refusal n a b c ≡ Some e

-- How long a cell waits in a switch over a pile of three reservations on a diagonal arbiter: n is the port count, p the periods.
use Rattle.std.specs.Prelude.{◌≡◌, ℕ, ◌+◌, ◌-◌, ◌*◌, cond, ◌&&◌, Ok, Err, Result}
use Rattle.refusals.specs.declared.refusal.Refusal.{Refusal}
use Rattle.refusals.specs.declared.refusal.Refusal.TheVariants.{PortCount, PeriodRange}
use Rattle.arbiters.specs.Periods.{longest}
use Rattle.piles.specs.Fits.{period_fits, ports_fit}
use Rattle.delays.specs.declared.periods.Periods.{Periods}

-- the longest wait of the pile: n - 1 on the diagonal arbiter, then with each reservation from the lowest
abbrev pub longest_wait : ℕ → Periods → ℕ
longest_wait n p = longest p.high (longest p.middle (longest p.low (n - 1)))

-- after so many closings a cell with k ahead in its queue has left
abbrev pub closings_until_left : ℕ → Periods → ℕ → ℕ
closings_until_left n p k = (k + 1) * (longest_wait n p + 1)

-- the port count is looked at first
abbrev pub allowed : ℕ → Periods → Result (Unit {0}) Refusal
allowed n p =
    cond (ports_fit n) (cond (period_fits p.low && (period_fits p.middle && period_fits p.high)) (Ok tt) (Err PeriodRange)) (Err PortCount)

-- an answer of which P holds, or the refusal
abbrev pub Answers : {X : Type 0} → ℕ → Periods → (X → Type 0) → Result X Refusal → Type 0
Answers n p P (Ok x) = (allowed n p ≡ Ok tt) × P x
Answers n p P (Err e) = allowed n p ≡ Err e

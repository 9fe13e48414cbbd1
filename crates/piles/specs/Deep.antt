-- What a pile of equal reservations promises: how many there are, n its ports, k the period, v the bound of the arbiter at the bottom.
use Rattle.std.specs.Prelude.{◌≡◌, ℕ, zero, suc, cond, Some, None, Ok, Err, Option, Result}
use Rattle.refusals.specs.declared.refusal.Refusal.{Refusal}
use Rattle.refusals.specs.declared.refusal.Refusal.TheVariants.{PeriodRange, PortCount}
use Rattle.arbiters.specs.Periods.{longest}
use Rattle.piles.specs.Fits.{period_fits, ports_fit}

-- each reservation makes the bound longer in the same way
unfoldable pub deep_bound : ℕ → ℕ → ℕ → ℕ
deep_bound zero k v = v
deep_bound (suc d) k v = longest k (deep_bound d k v)

-- a period is looked at only if there is a reservation
abbrev pub period_refusal : ℕ → ℕ → Option Refusal
period_refusal zero k = None
period_refusal (suc d) k = cond (period_fits k) None (Some PeriodRange)

-- ports that do not fit are refused first, and then a period that does not
abbrev pub refusal : ℕ → ℕ → ℕ → Option Refusal
refusal d n k = cond (ports_fit n) (period_refusal d k) (Some PortCount)

abbrev pub Made : {A : Type 0} → ℕ → ℕ → ℕ → ℕ → (A → Type 0) → (A → ℕ) → Result A Refusal → Type 0
Made d n k v fresh bound (Ok p) = (refusal d n k ≡ None) × fresh p × (bound p ≡ deep_bound d k v)
Made d n k v fresh bound (Err e) = refusal d n k ≡ Some e

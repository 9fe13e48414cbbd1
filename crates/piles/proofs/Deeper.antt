-- One reservation more on a pile.
use Rattle.std.proofs.Common.{◌≡◌, ℕ, suc, ◌≤◌, Bool, true, false, cond, leb, Some, None, sym, refl, ap, ◌∙◌, subst, ap₂}
use Rattle.std.proofs.lemmas.Bool.{and_from, le-leb}
use Rattle.refusals.specs.declared.refusal.Refusal.TheVariants.{PeriodRange, PortCount}
use Rattle.arbiters.specs.declared.reservation.Reservation.{Reservation}
use Rattle.arbiters.specs.Meaning.{Meaning}
use Rattle.arbiters.specs.Periods.{longest}
use Rattle.arbiters.specs.Reservations.{Fresh, reservations}
use Rattle.piles.specs.Fits.{period_fits, ports_fit}
use Rattle.piles.specs.Deep.{deep_bound, period_refusal, refusal}

pub deeper : {A : Type 0} (d n k v : ℕ) (fresh : A → Type 0) (m : Meaning A) (b : A) (p : Reservation A)
    → (refusal d n k ≡ None) × fresh b × (m.bound b ≡ deep_bound d k v) → (2 ≤ k) × (k ≤ 64) × Fresh b k p
    → (refusal (suc d) n k ≡ None) × (fresh p.below × Fresh p.below k p) × ((reservations m).bound p ≡ deep_bound (suc d) k v)
unfolding deep_bound
deeper d n k v fresh m b p low made = (
  go (ports_fit n) low.0,
  (
    subst fresh (sym made.2.on) low.1,
    record { on = refl; pairs = made.2.pairs; slots = made.2.slots; left = made.2.left },
  ),
  ap₂ longest made.2.slots (ap m.bound made.2.on ∙ low.2),
)
  where
    go : (f : Bool) → cond f (period_refusal d k) (Some PortCount) ≡ None → cond f (cond (period_fits k) None (Some PeriodRange)) (Some PortCount) ≡ None
    go true e = ap (λ (c : Bool). cond c None (Some PeriodRange)) (and_from (leb 2 k) (leb k 64) (le-leb 2 k made.0) (le-leb k 64 made.1))
    go false e = e

-- What a pile of three answers is what is asked here.
use Rattle.std.proofs.Common.{◌≡◌, ℕ, Bool, true, false, cond, ◌&&◌, Some, None, Ok, Err, Option, Result, refl, ap, ◌∙◌}
use Rattle.refusals.specs.declared.refusal.Refusal.{Refusal}
use Rattle.refusals.specs.declared.refusal.Refusal.TheVariants.{PeriodRange, PortCount}
use Rattle.piles.specs.Fits.{period_fits, ports_fit}
use Rattle.piles.specs.Three.{Pile, Piled, refusal}
use Rattle.delays.specs.declared.periods.Periods.{Periods}
use Rattle.delays.specs.Delays.{Answers, allowed}
use Rattle.delays.specs.Piles.{Stands}

abbrev unless : Option Refusal → Result (Unit {0}) Refusal
unless None = Ok tt
unless (Some e) = Err e

allowed-is : (n : ℕ) (p : Periods) → allowed n p ≡ unless (refusal n p.low p.middle p.high)
allowed-is n p = go (ports_fit n) (period_fits p.low) (period_fits p.middle) (period_fits p.high)
  where
    go : (f a b c : Bool) → cond f (cond (a && (b && c)) (Ok tt) (Err PeriodRange)) (Err PortCount) ≡ unless (cond f (cond ((a && b) && c) None (Some PeriodRange)) (Some PortCount))
    go false a b c = refl
    go true false b c = refl
    go true true false c = refl
    go true true true false = refl
    go true true true true = refl

pub answers : (n : ℕ) (p : Periods) (r : Result Pile Refusal) → Piled n p.low p.middle p.high r → Answers n p (Stands n p) r
answers n p (Ok s) made = (allowed-is n p ∙ ap unless made.0, made.1)
answers n p (Err e) refused = allowed-is n p ∙ ap unless refused

-- A reservation on an arbiter that keeps to its ports and bound (`within`) keeps each other rule that the arbiter keeps: of the arbiter
-- below, that rule alone is asked, in the state and on the requests at hand.
use Rattle.std.specs.Prelude.{◌≡◌, ℕ, ◌-◌, ◌<◌, Bool, true, false, cond, ◌==◌, ◌≢◌, refl}
use Rattle.std.proofs.Common.{ap, arith}
use Rattle.std.proofs.lemmas.Bool.{eqb-true, eqb-false}
use Rattle.pairs.specs.declared.table.Table.{Table}
use Rattle.pairs.specs.Tables.{holds}
use Rattle.arbiters.specs.Meaning.{Lawful, Meaning}
use Rattle.arbiters.specs.Rules.{Requested, Apart, Maximal, Nearer, Within}
use Rattle.arbiters.specs.declared.reservation.Reservation.{Reservation}
use Rattle.arbiters.specs.Periods.{lengthened, longest, due}
use Rattle.arbiters.specs.Slots.{reserved_grants}
use Rattle.arbiters.specs.Reservations.{reservations}
use Rattle.arbiters.specs.Verdicts.{Kept}
use Rattle.arbiters.specs.Verdicts as verdicts
use Rattle.arbiters.specs.PeriodsLemmas.{lengthened-longest, falls_below, falls-reserved}
use Rattle.arbiters.specs.SlotGrants.{slot-grants, slot-decided}

module _ {A : Type 0} (m : Meaning A) (within : (s : A) → Within m.ports m.bound m.wait m.after s) where
  module _ (s : Reservation A) (r : Table) where
    -- what is granted where the slot is reserved
    abbrev reserved : Table
    reserved = reserved_grants (m.ports s.below) s.reserved.pairs r

    reserved-kept : Kept (m.ports s.below) r reserved
    reserved-kept =
        verdicts.kept r reserved (within s.below).eight (slot-grants (m.ports s.below) s.reserved.pairs r)
        (slot-decided (m.ports s.below) s.reserved.pairs r (within s.below).two (within s.below).eight s.reserved.inputs s.reserved.outputs)

    -- what holds of the grants of the reserved slot and of those below holds of the grants of either slot
    either : (P : Table → Type 0) → P reserved → P (m.answer s.below r) → (b : Bool) → P (cond b reserved (m.answer s.below r))
    either P here below true = here
    either P here below false = below

    pub requested : Requested (m.ports s.below) r (m.answer s.below r) → Requested (m.ports s.below) r ((reservations m).answer s r)
    requested below = either (Requested (m.ports s.below) r) reserved-kept.requested below (due s.period)

    pub apart : Apart (m.answer s.below r) → Apart ((reservations m).answer s r)
    apart below = either Apart reserved-kept.apart below (due s.period)

    pub maximal : Maximal (m.ports s.below) r (m.answer s.below r) → Maximal (m.ports s.below) r ((reservations m).answer s r)
    maximal below = either (Maximal (m.ports s.below) r) reserved-kept.maximal below (due s.period)

    pub nearer : Nearer (m.ports s.below) r (m.answer s.below r) (m.wait s.below) (m.wait (m.after s.below r))
        → Nearer (m.ports s.below) r ((reservations m).answer s r) ((reservations m).wait s) ((reservations m).wait ((reservations m).after s r))
    nearer below = go (s.period.left == 0) refl
      where
        go : (b : Bool) → (s.period.left == 0) ≡ b
            → (i o : ℕ) → i < m.ports s.below → o < m.ports s.below → holds r i o ≡ true → holds (cond b reserved (m.answer s.below r)) i o ≡ false
            → lengthened s.period.slots (cond b (s.period.slots - 1) (s.period.left - 1)) (m.wait (cond b s.below (m.after s.below r)) i o)
            < lengthened s.period.slots s.period.left (m.wait s.below i o)
        go true e i o p q h g = rw (eqb-true s.period.left 0 e) (falls-reserved s.period.slots (m.wait s.below i o) s.period.two)
        go false e i o p q h g =
            falls_below s.period.slots s.period.left (m.wait s.below i o) (m.wait (m.after s.below r) i o) s.period.two
            (above s.period.left (eqb-false s.period.left 0 e)) (below i o p q h g)
          where
            above : (f : ℕ) → (f ≢ 0) → 0 < f
            above f n = omega arith

  pub within_on : (s : Reservation A) → Within (reservations m).ports (reservations m).bound (reservations m).wait (reservations m).after s
  within_on s =
      record {
        two = (within s.below).two;
        eight = (within s.below).eight;
        waits = λ i o p q. lengthened-longest s.period.slots s.period.left (m.wait s.below i o) (m.bound s.below) s.period.two ((within s.below).waits i o p q);
        same-ports = λ r. same_after m.ports r ((within s.below).same-ports r) (due s.period);
        same-bound = λ r. ap (longest s.period.slots) (same_after m.bound r ((within s.below).same-bound r) (due s.period));
      }
    where
      same_after : (f : A → ℕ) (r : Table) → f (m.after s.below r) ≡ f s.below → (b : Bool) → f (cond b s.below (m.after s.below r)) ≡ f s.below
      same_after f r e true = refl
      same_after f r e false = e

pub reservations-lawful : {A : Type 0} (m : Meaning A) → Lawful m → Lawful (reservations m)
reservations-lawful m laws =
    record {
      requested = λ s r. requested m laws.within s r (laws.requested s.below r);
      apart = λ s r. apart m laws.within s r (laws.apart s.below r);
      maximal = λ s r. maximal m laws.within s r (laws.maximal s.below r);
      nearer = λ s r. nearer m laws.within s r (laws.nearer s.below r);
      within = within_on m laws.within;
    }

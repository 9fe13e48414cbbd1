-- What a reservation answers and what it becomes, from what the arbiter below does.
use Rattle.std.specs.Prelude.{◌≡◌, ℕ, ◌-◌, ◌≤◌, false, cond, ◌&&◌, Ok, Err, Result, nat_lt}
use Rattle.refusals.specs.declared.refusal.Refusal.{Refusal}
use Rattle.refusals.specs.declared.refusal.Refusal.TheVariants.{PortBeyond, PeriodRange, OutputReserved}
use Rattle.pairs.specs.declared.table.Table.{Table}
use Rattle.pairs.specs.Tables.{table_of}
use Rattle.arbiters.specs.declared.reservation.Reservation.{Reservation}
use Rattle.arbiters.specs.declared.reservation.Unreserved.{Unreserved}
use Rattle.arbiters.specs.Meaning.{Meaning}
use Rattle.arbiters.specs.Periods.{lengthened, longest, due, passed}
use Rattle.arbiters.specs.Slots.{by_another, replaced, reserved_grants}

module _ {A : Type 0} where
  -- what a reservation means on an arbiter that means m: the waits are longer by the reserved slots, in each of which the reserved pairs
  -- go first and the arbiter below stays as it is; in any other slot that arbiter answers
  abbrev pub reservations : Meaning A → Meaning (Reservation A)
  reservations m = record {
    ports = λ s. m.ports s.below;
    bound = λ s. longest s.period.slots (m.bound s.below);
    wait = λ s i o. lengthened s.period.slots s.period.left (m.wait s.below i o);
    answer = λ s r. cond (due s.period) (reserved_grants (m.ports s.below) s.reserved.pairs r) (m.answer s.below r);
    after = λ s r. record { below = cond (due s.period) s.below (m.after s.below r); reserved = s.reserved; period = passed s.period };
  }

  -- a reservation with no pair, whose reserved slot is the last of its first period
  pub record Fresh (below : A) (k : ℕ) (s : Reservation A) : Type 0 where
    pub on : s.below ≡ below
    pub pairs : s.reserved.pairs ≡ table_of (λ _ _. false)
    pub slots : s.period.slots ≡ k
    pub left : s.period.left ≡ k - 1

  -- what `new` answers: such a reservation for a period of 2 to 64 slots, or the arbiter and the refusal
  abbrev pub Made : A → ℕ → Result (Reservation A) (Unreserved A) → Type 0
  Made below k (Ok s) = (2 ≤ k) × (k ≤ 64) × Fresh below k s
  Made below k (Err e) = (2 ≤ k → k ≤ 64 → ⊥) × (e.below ≡ below) × (e.why ≡ PeriodRange)

-- what `reserve` answers, of n ports and the pairs p: ports beyond are refused first, and then an output that another input holds
abbrev pub reserving : ℕ → Table → ℕ → ℕ → Result (Unit {0}) Refusal
reserving n p i o = cond (nat_lt i n && nat_lt o n) (cond (by_another p i o) (Err OutputReserved) (Ok tt)) (Err PortBeyond)

-- and the pairs after it: refused, they stay
abbrev pub pairs_after : Result (Unit {0}) Refusal → Table → ℕ → ℕ → Table
pairs_after (Ok _) p i o = replaced p i o
pairs_after (Err _) p i o = p

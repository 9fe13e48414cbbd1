-- What an arbiter with up to three reservations on it means, from what the arbiter below means.
use Rattle.std.specs.Prelude.{ℕ}
use Rattle.pairs.specs.declared.table.Table.{Table}
use Rattle.arbiters.specs.Meaning.{Meaning}
use Rattle.arbiters.specs.Reservations.{reservations}
use Rattle.arbitrate.specs.declared.pile.Pile.{Pile}
use Rattle.arbitrate.specs.declared.pile.Pile.TheVariants.{Bare, One, Two, Three}

module _ {A : Type 0} (m : Meaning A) where
  abbrev pub ports_of : Pile A → ℕ
  ports_of (Bare a) = m.ports a
  ports_of (One s) = m.ports s.below
  ports_of (Two s) = m.ports s.below.below
  ports_of (Three s) = m.ports s.below.below.below

  abbrev pub wait_of : Pile A → ℕ → ℕ → ℕ
  wait_of (Bare a) = m.wait a
  wait_of (One s) = (reservations m).wait s
  wait_of (Two s) = (reservations (reservations m)).wait s
  wait_of (Three s) = (reservations (reservations (reservations m))).wait s

  abbrev pub answer_of : Pile A → Table → Table
  answer_of (Bare a) = m.answer a
  answer_of (One s) = (reservations m).answer s
  answer_of (Two s) = (reservations (reservations m)).answer s
  answer_of (Three s) = (reservations (reservations (reservations m))).answer s

  abbrev pub after_of : Pile A → Table → Pile A
  after_of (Bare a) r = Bare (m.after a r)
  after_of (One s) r = One ((reservations m).after s r)
  after_of (Two s) r = Two ((reservations (reservations m)).after s r)
  after_of (Three s) r = Three ((reservations (reservations (reservations m))).after s r)

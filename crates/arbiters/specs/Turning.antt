-- What an arbiter means whose turn moves on with every decision, from how it is wired.
use Rattle.std.specs.Prelude.{◌≡◌, ℕ, ◌-◌, ◌<◌, ◌≤◌, Ok, Err, Result}
use Rattle.refusals.specs.declared.refusal.Refusal.{Refusal}
use Rattle.refusals.specs.declared.refusal.Refusal.TheVariants.{PortCount as wrong_port_count}
use Rattle.pairs.specs.Tables.{holds, table_of, within}
use Rattle.grants.specs.declared.port_count.PortCount.{PortCount}
use Rattle.arbiters.specs.declared.turning.Turning.{Turning}
use Rattle.arbiters.specs.Meaning.{Meaning}
use Rattle.arbiters.specs.Wirings.{Wired, next_turn}

module _ {W : Type 0} where
  -- what `new` answers: an arbiter of 2 to 8 ports, whose turn is 0, or the refusal
  abbrev pub Made : ℕ → Result (Turning W) Refusal → Type 0
  Made n (Ok s) = (s.ports.number ≡ n) × (s.turn ≡ 0)
  Made n (Err e) = (2 ≤ n → n ≤ 8 → ⊥) × (e ≡ wrong_port_count)

  -- its turn is one of the turns of its wiring
  abbrev pub Placed : Wired → Turning W → Type 0
  Placed w s = s.turn < w.turns s.ports.number

  -- as it is just made
  abbrev pub unturned : PortCount → Turning W
  unturned c = record { ports = c; turn = 0; wiring = record {} }

  -- after every decision it is at the next turn
  abbrev pub moved : Wired → Turning W → Turning W
  moved w s = record { ports = s.ports; turn = next_turn w s.ports.number s.turn; wiring = s.wiring }

  -- what it means: no wait is above the number of turns less one
  abbrev pub turning : Wired → Meaning (Turning W)
  turning w = record {
    ports = λ s. s.ports.number;
    bound = λ s. w.turns s.ports.number - 1;
    wait = λ s. w.wait s.ports.number s.turn;
    answer = λ s r. table_of (within s.ports.number (w.granted (holds r) s.ports.number s.turn));
    after = λ s _. moved w s;
  }

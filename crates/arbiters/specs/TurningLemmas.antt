-- An arbiter whose turn moves on keeps the rules, and its turn stays one of the turns, if it is well wired.
use Rattle.std.specs.Prelude.{ℕ, ◌+◌, ◌%◌, ◌<◌, ◌≤◌, refl}
use Rattle.std.proofs.Common.{arith}
use Rattle.std.proofs.lemmas.Nat.{mod_below}
use Rattle.pairs.specs.Tables.{holds}
use Rattle.arbiters.specs.Meaning.{Lawful}
use Rattle.arbiters.specs.Turning.{turning}
use Rattle.arbiters.specs.Verdicts.{lawful}
use Rattle.arbiters.specs.Wirings.{Wired, WellWired, next_turn}

pub turning-lawful : {W : Type 0} (w : Wired) → WellWired w → Lawful (turning {W = W} w)
turning-lawful w well =
    lawful (turning w) (λ s r. w.granted (holds r) s.ports.number s.turn) (λ s r. refl)
    (λ s r. well.decided (holds r) s.ports.number s.turn s.ports.two)
    (λ s.
    record {
      two = s.ports.two;
      eight = s.ports.eight;
      waits = λ i o _ _. omega (arith, well.waits s.ports.number s.turn i o s.ports.two);
      same-ports = λ r. refl;
      same-bound = λ r. refl;
    })

-- whatever the turn was, the next is one of the turns
pub next-below : (w : Wired) → WellWired w → (n t : ℕ) → 2 ≤ n → next_turn w n t < w.turns n
next-below w well n t two = mod_below (t % w.turns n + 1) (w.turns n) (well.some n two)

-- What a wiring of arbiter cells means, what is asked of it, and the two wirings.
use Rattle.std.specs.Prelude.{ℕ, ◌+◌, ◌*◌, ◌/◌, ◌%◌, ◌<◌, ◌≤◌, Bool}
use Rattle.grants.specs.Diagonal.{diagonal_granted, diagonal_wait}
use Rattle.grants.specs.Ripple.{ripple_granted, ripple_wait}
use Rattle.grants.proofs.Decided.{Decided}

-- n ports have so many turns; whether a pair is granted to the requests R at a turn, and its wait from the turn on
pub record Wired : Type 0 where
  pub turns : ℕ → ℕ
  pub granted : (R : ℕ → ℕ → Bool) → (n turn : ℕ) → ℕ → ℕ → Bool
  pub wait : (n turn : ℕ) → ℕ → ℕ → ℕ

-- the turn after this one: turns count modulo their number
abbrev pub next_turn : Wired → (n turn : ℕ) → ℕ
next_turn w n t = (t % w.turns n + 1) % w.turns n

-- there is a turn, no wait is as long as the turns are many, and the grants have what is asked of a decision after which the turn
-- moves on
pub record WellWired (w : Wired) : Type 0 where
  pub some : (n : ℕ) → 2 ≤ n → 0 < w.turns n
  pub waits : (n t i o : ℕ) → 2 ≤ n → w.wait n t i o < w.turns n
  pub decided : (R : ℕ → ℕ → Bool) (n t : ℕ) → 2 ≤ n → Decided n R (w.granted R n t) (w.wait n t) (w.wait n (next_turn w n t))

-- a turn of the diagonal arbiter is at a diagonal
abbrev pub diagonal : Wired
diagonal = record {
  turns = λ n. n;
  granted = λ R n t. diagonal_granted R n (t % n);
  wait = λ n t. diagonal_wait n (t % n);
}

-- a turn of the ripple arbiter is at a pair: the first row is its input, and the first column its output
abbrev pub ripple : Wired
ripple = record {
  turns = λ n. n * n;
  granted = λ R n t. ripple_granted R n (t / n % n) (t % n);
  wait = λ n t. ripple_wait n (t % (n * n));
}

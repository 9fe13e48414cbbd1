-- A call that comes to bytes is said by one value: the bytes, or why it is refused.
use Rattle.std.specs.Prelude.{ℕ, List, Ok, Err, Result}
use Rattle.std.specs.Borrow.{Bor}
use Rattle.refusals.specs.declared.refusal.Refusal.{Refusal}

-- what is answered by a call that writes those bytes
abbrev pub answered : Result (List ℕ) Refusal → Result (Unit {0}) Refusal
answered (Ok x) = Ok tt
answered (Err k) = Err k

-- what the bytes `before` are after such a call: a refused one leaves them as they were
abbrev pub written : Result (List ℕ) Refusal → List ℕ → List ℕ
written (Ok x) before = x
written (Err k) before = before

-- the bytes that a call hands out by a reference
abbrev pub handed : Result (Bor (List ℕ)) Refusal → Result (List ℕ) Refusal
handed (Ok r) = Ok r.now
handed (Err k) = Err k

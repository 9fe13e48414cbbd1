-- Periods whose last slot is reserved, and what they make of waits.
use Rattle.std.specs.Prelude.{◌≡◌, ℕ, ◌+◌, ◌-◌, ◌/◌, ◌<◌, ◌≤◌, Bool, cond, Ok, Err, Result, ◌==◌, nat_lt}
use Rattle.std.proofs.Common.{arith}
use Rattle.std.proofs.lemmas.Bool.{cond_both}
use Rattle.refusals.specs.declared.refusal.Refusal.{Refusal}
use Rattle.refusals.specs.declared.refusal.Refusal.TheVariants.{PeriodRange}
use Rattle.arbiters.specs.declared.period.Period.{Period}

-- the wait where one slot in k is reserved, the next of which comes after f others: w is the wait below
abbrev pub lengthened : ℕ → ℕ → ℕ → ℕ
lengthened k f w = cond (nat_lt w f) w (w + 1 + (w - f) / (k - 1))

-- the longest such wait, where the longest below is v
abbrev pub longest : ℕ → ℕ → ℕ
longest k v = v + 1 + v / (k - 1)

-- what `new` answers: a period of 2 to 64 slots, the last of which is reserved, or the refusal
abbrev pub Made : ℕ → Result Period Refusal → Type 0
Made k (Ok p) = (p.slots ≡ k) × (p.left ≡ k - 1)
Made k (Err e) = (2 ≤ k → k ≤ 64 → ⊥) × (e ≡ PeriodRange)

-- whether the reserved slot is next
abbrev pub due : Period → Bool
due p = p.left == 0

-- how many others come before the reserved slot, once a slot has passed
abbrev pub left_after : ℕ → ℕ → ℕ
left_after k f = cond (f == 0) (k - 1) (f - 1)

pub after-place : (k f : ℕ) → 2 ≤ k → f < k → left_after k f < k
after-place k f h l = cond_both (f == 0) (k - 1) (f - 1) (λ x. x < k) (λ _. omega arith) (λ _. omega arith)

abbrev pub passed : Period → Period
passed p =
    record {
      slots = p.slots;
      left = left_after p.slots p.left;
      two = p.two;
      most = p.most;
      place = after-place p.slots p.left p.two p.place;
    }

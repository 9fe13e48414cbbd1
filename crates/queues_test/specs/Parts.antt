-- Queues whose blocks are a part of a larger memory.
use Rattle.std.specs.Prelude.{◌≡◌, ℕ, ◌+◌, cond, List, ◌++◌, length, take, drop, Ok, Err, Result, nat_le}
use Rattle.std.specs.List.{between}
use Rattle.queues.specs.declared.refusal.QueueRefusal.{QueueRefusal}
use Rattle.queues.specs.declared.refusal.QueueRefusal.TheVariants.{BlockCount}
use Rattle.queues.specs.Queues.{Queues}
use Rattle.queues.specs.Calls.{Outcome, outcome, join_call, take_call}

-- where the B blocks from `at` on end: a memory that has not all of them is refused
abbrev pub part_end : ℕ → ℕ → ℕ → Result ℕ QueueRefusal
part_end B at memory = cond (nat_le (at + B) memory) (Ok (at + B)) (Err BlockCount)

-- the memory xs with ys in the place of the B blocks from `at` on
abbrev pub with_part : {E : Type 0} → ℕ → ℕ → List E → List E → List E
with_part B at xs ys = take at xs ++ (ys ++ drop (at + B) xs)

-- what a call on the B blocks from `at` on comes to for the whole memory; a memory that has not all of them is refused
abbrev pub on_part : {A E : Type 0} → ℕ → ℕ → Queues → List E → Outcome A E → Outcome A E
on_part B at s xs o =
    cond (nat_le (at + B) (length xs)) (outcome o.answer o.queues (with_part B at xs o.blocks)) (outcome (Err BlockCount) s xs)

abbrev pub join_part : {E : Type 0} → ℕ → ℕ → Queues → List E → ℕ → E → Outcome ℕ E
join_part B at s xs q v = on_part B at s xs (join_call B s (between at (at + B) xs) q v)

abbrev pub take_part : {E : Type 0} → ℕ → ℕ → Queues → List E → ℕ → Outcome E E
take_part B at s xs q = on_part B at s xs (take_call B s (between at (at + B) xs) q)

-- what lies before the B blocks from `at` on, and what lies behind them, is in ys as it is in xs
abbrev pub Untouched : {E : Type 0} → ℕ → ℕ → List E → List E → Type 0
Untouched B at xs ys = (take at ys ≡ take at xs) × (drop (at + B) ys ≡ drop (at + B) xs)

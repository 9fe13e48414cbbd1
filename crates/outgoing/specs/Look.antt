-- Looking at a stored cell as it will leave.
use Rattle.std.specs.Prelude.{ℕ, cond, List, [], length, Ok, Err, Result, nat_lt, slice_index_or}
use Rattle.refusals.specs.declared.refusal.Refusal.{Refusal}
use Rattle.refusals.specs.declared.refusal.Refusal.TheVariants.{IdleOrLookLength, NoCell}
use Rattle.law.specs.declared.memory.Block.{Block}
use Rattle.law.specs.Calls.{not53}
use Rattle.law.specs.View.{leaving}

-- refused where the bytes x are not 53
abbrev pub of_length : {T : Type 0} → List ℕ → T → Result T Refusal
of_length x answer = cond (not53 x) (Err IdleOrLookLength) (Ok answer)

-- what a look at a block shows in the bytes x
abbrev pub look_into : Block → List ℕ → Result (List ℕ) Refusal
look_into b x = of_length x (leaving b)

-- the same of the block `at` of cell memory
abbrev pub look_at : List Block → ℕ → List ℕ → Result (List ℕ) Refusal
look_at cells at x =
    cond (not53 x) (Err IdleOrLookLength)
    (cond (nat_lt at (length cells)) (Ok (leaving (slice_index_or cells at (record { cell = []; new_vci = 0 })))) (Err NoCell))

-- What each call answers and leaves, by one definition of all its cases.
use Rattle.std.specs.Prelude.{ℕ, cond, List, [], ◌∷◌, length, Some, None, Ok, Err, Option, Result, ◌==◌, nat_lt, slice_set}
use Rattle.std.specs.List.{slice_get}
use Rattle.queues.specs.declared.refusal.QueueRefusal.{QueueRefusal}
use Rattle.queues.specs.declared.refusal.QueueRefusal.TheVariants.{NoSuchQueue, BlockCount, NoFreeBlock, Empty}
use Rattle.queues.specs.Queues.{Queues, joined, taken}

-- what a call answers, and the queues and the blocks after it
pub record Outcome (A E : Type 0) : Type 0 where
  pub answer : Result A QueueRefusal
  pub queues : Queues
  pub blocks : List E

-- an outcome of these three
abbrev pub outcome : {A E : Type 0} → Result A QueueRefusal → Queues → List E → Outcome A E
outcome r s xs = record { answer = r; queues = s; blocks = xs }

-- a queue of 8 or above is refused
abbrev pub queue_fits : ℕ → Result (Unit {0}) QueueRefusal
queue_fits q = cond (nat_lt q 8) (Ok tt) (Err NoSuchQueue)

-- a refusal of what is handed in, or else what follows
abbrev pub then : {A : Type 0} → Result (Unit {0}) QueueRefusal → Result A QueueRefusal → Result A QueueRefusal
then (Ok x) r = r
then (Err e) r = Err e

-- what is handed in to links of B blocks is refused first for the queue, then for the number of blocks
abbrev pub fits : ℕ → ℕ → ℕ → Result (Unit {0}) QueueRefusal
fits B blocks q = then (queue_fits q) (cond (blocks == B) (Ok tt) (Err BlockCount))

-- a refusal of what is handed in, which leaves all as it was, or else what follows
abbrev pub unless : {A E : Type 0} → Result (Unit {0}) QueueRefusal → Queues → List E → Outcome A E → Outcome A E
unless (Ok x) s xs done = done
unless (Err e) s xs done = outcome (Err e) s xs

-- a join that nothing handed in speaks against, by the free blocks
abbrev pub join_by : {E : Type 0} → Queues → List E → ℕ → E → List ℕ → Outcome ℕ E
join_by s xs q v [] = outcome (Err NoFreeBlock) s xs
join_by s xs q v (b ∷ rest) = outcome (Ok (length (s.queue q))) (joined s q) (slice_set xs b v)

-- v joins the queue q: the first free block holds it, and the answer is the length of the queue before
abbrev pub join_call : {E : Type 0} → ℕ → Queues → List E → ℕ → E → Outcome ℕ E
join_call B s xs q v = unless (fits B (length xs) q) s xs (join_by s xs q v s.free)

-- what the block b holds: a slice that has no such block is not one of these links
abbrev pub held : {E : Type 0} → Option E → Result E QueueRefusal
held None = Err BlockCount
held (Some v) = Ok v

-- the first of the blocks of a queue
abbrev pub head_of : List ℕ → Result ℕ QueueRefusal
head_of [] = Err Empty
head_of (b ∷ rest) = Ok b

-- the number of the block at the head of the queue q
abbrev pub head_call : Queues → ℕ → Result ℕ QueueRefusal
head_call s q = then (queue_fits q) (head_of (s.queue q))

-- what the block found holds
abbrev pub read_by : {E : Type 0} → List E → Result ℕ QueueRefusal → Result E QueueRefusal
read_by xs (Ok b) = held (slice_get xs b)
read_by xs (Err e) = Err e

-- what the block at the head of the queue q holds
abbrev pub read_call : {E : Type 0} → ℕ → Queues → List E → ℕ → Result E QueueRefusal
read_call B s xs q = then (fits B (length xs) q) (read_by xs (head_of (s.queue q)))

-- a take, by what a read of the same queue answers
abbrev pub take_by : {E : Type 0} → Queues → List E → ℕ → Result E QueueRefusal → Outcome E E
take_by s xs q (Err e) = outcome (Err e) s xs
take_by s xs q (Ok v) = outcome (Ok v) (taken s q) xs

-- the head of the queue q is taken: the answer is what its block holds, and goes on holding
abbrev pub take_call : {E : Type 0} → ℕ → Queues → List E → ℕ → Outcome E E
take_call B s xs q = take_by s xs q (read_call B s xs q)

-- how many elements the queue q holds
abbrev pub len_call : Queues → ℕ → Result ℕ QueueRefusal
len_call s q = then (queue_fits q) (Ok (length (s.queue q)))

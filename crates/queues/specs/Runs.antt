-- Joins and takes in any order, and what holds after all of them.
use Rattle.std.specs.Prelude.{◌≡◌, ℕ, zero, suc, ◌+◌, ◌<◌, ◌≤◌, cond, List, [], ◌∷◌, ◌++◌, map, length, Some, Ok, Err, Option, Result, ◌==◌}
use Rattle.std.specs.List.{slice_get}
use Rattle.queues.specs.declared.refusal.QueueRefusal.{QueueRefusal}
use Rattle.queues.specs.declared.refusal.QueueRefusal.TheVariants.{NoFreeBlock}
use Rattle.queues.specs.Queues.{Queues, unused}
use Rattle.queues.specs.Calls.{join_call, take_call}

-- a join of an element to a queue, or a take from a queue, with the answer
pub data Event (E : Type 0) : Type 0 where
  Join : (queue : ℕ) → E → Result ℕ QueueRefusal → Event E
  Take : (queue : ℕ) → Result E QueueRefusal → Event E

-- a run of joins and takes on links of B blocks: the events, the latest first, and the queues and the blocks after them
pub data Run (B : ℕ) {E : Type 0} : List (Event E) → Queues → List E → Type 0 where
  -- all blocks are free at first, whatever they hold
  start : (xs : List E) → Run B [] (unused B) xs
  -- a call gets the blocks that the one before it left
  join : {es : List (Event E)} {s : Queues} {xs : List E} → Run B es s xs → (q : ℕ) (v : E)
      → Run B (Join q v (join_call B s xs q v).answer ∷ es) (join_call B s xs q v).queues (join_call B s xs q v).blocks
  take : {es : List (Event E)} {s : Queues} {xs : List E} → Run B es s xs → (q : ℕ)
      → Run B (Take q (take_call B s xs q).answer ∷ es) (take_call B s xs q).queues (take_call B s xs q).blocks
  -- a refused call may get other blocks
  join-refused : {es : List (Event E)} {s : Queues} {xs : List E} → Run B es s xs
      → (ys : List E) (q : ℕ) (v : E) (e : QueueRefusal) → (join_call B s ys q v).answer ≡ Err e → Run B (Join q v (Err e) ∷ es) (join_call B s ys q v).queues xs
  take-refused : {es : List (Event E)} {s : Queues} {xs : List E} → Run B es s xs
      → (ys : List E) (q : ℕ) (e : QueueRefusal) → (take_call B s ys q).answer ≡ Err e → Run B (Take q (Err e) ∷ es) (take_call B s ys q).queues xs

-- the element that joined the queue q by an event, if one did
abbrev pub entered : {E : Type 0} → ℕ → Event E → List E
entered q (Join p v (Ok ahead)) = cond (q == p) (v ∷ []) []
entered q (Join p v (Err e)) = []
entered q (Take p r) = []

-- the element that was taken from the queue q by an event, if one was
abbrev pub left : {E : Type 0} → ℕ → Event E → List E
left q (Join p v r) = []
left q (Take p (Ok v)) = cond (q == p) (v ∷ []) []
left q (Take p (Err e)) = []

-- what the events gave, in their order
abbrev pub gathered : {E : Type 0} → (Event E → List E) → List (Event E) → List E
gathered f [] = []
gathered f (e ∷ es) = gathered f es ++ f e

-- what joined the queue q
abbrev pub joined_to : {E : Type 0} → ℕ → List (Event E) → List E
joined_to q es = gathered (entered q) es

-- what was taken from the queue q
abbrev pub taken_from : {E : Type 0} → ℕ → List (Event E) → List E
taken_from q es = gathered (left q) es

-- how often the block b stands in a list of blocks
abbrev pub times : ℕ → List ℕ → ℕ
times b [] = 0
times b (x ∷ xs) = cond (b == x) 1 0 + times b xs

-- f 0 + .. + f (n - 1)
abbrev pub sum_below : (ℕ → ℕ) → ℕ → ℕ
sum_below f zero = 0
sum_below f (suc n) = sum_below f n + f n

-- how often the block b stands in the eight queues
abbrev pub in_queues : ℕ → Queues → ℕ
in_queues b s = sum_below (λ q. times b (s.queue q)) 8

-- what was taken is the first of what joined, in order, and the blocks hold the rest, in order
pub record FirstTaken {E : Type 0} (joins takes : List E) (held : List (Option E)) : Type 0 where
  pub rest : List E
  pub first : joins ≡ takes ++ rest
  pub holds : held ≡ map Some rest

-- each of the B blocks holds an element of a queue
abbrev pub AllHold : ℕ → Queues → Type 0
AllHold B s = (b : ℕ) → b < B → in_queues b s ≡ 1

-- what holds of the events, the queues and the blocks
pub record Law {E : Type 0} (B : ℕ) (es : List (Event E)) (s : Queues) (xs : List E) : Type 0 where
  pub in_order : (q : ℕ) → q < 8 → FirstTaken (joined_to q es) (taken_from q es) (map (slice_get xs) (s.queue q))
  -- a block is in exactly one queue, once, or free
  pub once : (b : ℕ) → b < B → times b s.free + in_queues b s ≡ 1
  pub no_other : (b : ℕ) → B ≤ b → times b s.free + in_queues b s ≡ 0
  -- a join, of a queue that there is, to as many blocks as there are, is refused exactly if all blocks hold elements
  pub refused_full : (q : ℕ) (v : E) → q < 8 → length xs ≡ B → (join_call B s xs q v).answer ≡ Err NoFreeBlock → AllHold B s
  pub full-refused : (q : ℕ) (v : E) → q < 8 → length xs ≡ B → AllHold B s → (join_call B s xs q v).answer ≡ Err NoFreeBlock

-- the law holds after every run, of elements of any one type E
abbrev pub FirstInFirstOut : ℕ → Type 0 → Type 0
FirstInFirstOut B E = (es : List (Event E)) (s : Queues) (xs : List E) → Run B es s xs → Law B es s xs

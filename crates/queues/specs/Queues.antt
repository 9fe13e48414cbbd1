-- The queues and the free blocks, by the numbers of the blocks.
use Rattle.std.specs.Prelude.{◌≡◌, ℕ, cond, List, [], ◌∷◌, ◌++◌, Ok, Err, Result, ◌==◌, ◌≢◌, nat_lt}
use Rattle.std.specs.List.{range_with_len}
use Rattle.queues.specs.declared.refusal.QueueRefusal.{QueueRefusal}
use Rattle.queues.specs.declared.refusal.QueueRefusal.TheVariants.{BlockCount}
use Rattle.queues.specs.declared.links.Links.{Links}
use Rattle.queues.specs.Linked.{blocks_in, list_at}

-- eight queues and the free blocks; a queue of 8 or above has no blocks
pub record Queues : Type 0 where
  -- the blocks of each queue, from head to tail
  pub queue : ℕ → List ℕ
  -- the free blocks, in the order in which they became free
  pub free : List ℕ

-- f, but x at k
abbrev pub put : {X : Type 0} → (ℕ → X) → ℕ → X → ℕ → X
put f k x j = cond (j == k) x (f j)

-- the first of the blocks given, which are the free ones, goes to the tail of the queue q
abbrev pub joined_by : Queues → ℕ → List ℕ → Queues
joined_by s q [] = s
joined_by s q (b ∷ rest) = record { queue = put s.queue q (s.queue q ++ (b ∷ [])); free = rest }

-- the first free block goes to the tail of the queue q; with no free block nothing changes
abbrev pub joined : Queues → ℕ → Queues
joined s q = joined_by s q s.free

-- the first of the blocks given, which are those of the queue q, becomes the last free block
abbrev pub taken_by : Queues → ℕ → List ℕ → Queues
taken_by s q [] = s
taken_by s q (b ∷ rest) = record { queue = put s.queue q rest; free = s.free ++ (b ∷ []) }

-- the head of the queue q becomes the last free block; with nothing in the queue nothing changes
abbrev pub taken : Queues → ℕ → Queues
taken s q = taken_by s q (s.queue q)

-- all blocks free, by rising number
abbrev pub unused : ℕ → Queues
unused blocks = record { queue = λ _. []; free = range_with_len 0 blocks }

-- the blocks of one of the nine linked lists, from head to tail
abbrev pub blocks_of : {B : ℕ} → Links B → ℕ → List ℕ
blocks_of l q = blocks_in l.next (list_at l.queues l.free q)

-- the queues that the links keep: eight, and the free list
abbrev pub view : {B : ℕ} → Links B → Queues
view l = record { queue = λ q. cond (nat_lt q 8) (blocks_of l q) []; free = blocks_of l 8 }

-- links for a number of blocks: refused if it is not theirs
abbrev pub Starts : (B blocks : ℕ) → Result (Links B) QueueRefusal → Type 0
Starts B blocks (Ok l) = (blocks ≡ B) × (view l ≡ unused B)
Starts B blocks (Err e) = (blocks ≢ B) × (e ≡ BlockCount)

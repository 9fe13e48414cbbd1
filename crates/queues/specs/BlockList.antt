-- A linked list of blocks, and what its steps make of it; `next` has the block behind each block.
use Rattle.std.specs.Prelude.{◌≡◌, ℕ, ◌+◌, ◌-◌, ◌<◌, cond, List, Some, None, Option, ◌==◌, slice_index, slice_set}
use Rattle.queues.specs.declared.block_list.BlockList.{BlockList}

-- the block at the head of a list
abbrev pub first_of : BlockList → Option ℕ
first_of l = cond (l.count == 0) None (Some l.head)

-- a list without the block at its head
abbrev pub popped : List ℕ → BlockList → BlockList
popped next l = record { head = slice_index next l.head; tail = l.tail; count = l.count - 1 }

-- what taking the block at the head out of a list answers and leaves
abbrev pub Pops : List ℕ → BlockList → BlockList → Option ℕ → Type 0
Pops next old new None = (old.count ≡ 0) × (new ≡ old)
Pops next old new (Some b) = (0 < old.count) × (b ≡ old.head) × (new ≡ popped next old)

-- a list with the block b behind its last
abbrev pub pushed : BlockList → ℕ → BlockList
pushed l b = record { head = cond (l.count == 0) b l.head; tail = b; count = l.count + 1 }

-- the links where the block b comes behind the last of a list
abbrev pub linked : BlockList → List ℕ → ℕ → List ℕ
linked l next b = cond (l.count == 0) next (slice_set next l.tail b)

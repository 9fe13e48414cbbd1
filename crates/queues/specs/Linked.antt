-- Linked lists of blocks: `next` has the block behind each block, and `lists` has a list for each number below 9.
use Rattle.std.specs.Prelude.{◌≡◌, ℕ, zero, suc, ◌+◌, ◌-◌, ◌<◌, cond, List, [], ◌∷◌, sum_by, ◌==◌, slice_index, slice_index_or}
use Rattle.queues.specs.declared.block_list.BlockList.{BlockList}

-- the block that is i links behind the block b
unfoldable pub behind : List ℕ → ℕ → ℕ → ℕ
behind next b zero = b
behind next b (suc i) = slice_index next (behind next b i)

-- the n blocks from the block b on
unfoldable pub blocks_from : List ℕ → ℕ → ℕ → List ℕ
blocks_from next b zero = []
blocks_from next b (suc n) = b ∷ blocks_from next (slice_index next b) n

-- the blocks of a list, from head to tail
abbrev pub blocks_in : List ℕ → BlockList → List ℕ
blocks_in next l = blocks_from next l.head l.count

-- the lists by their numbers: the queues, and the free list as number 8
abbrev pub list_at : List BlockList → BlockList → ℕ → BlockList
list_at queues free q = cond (q == 8) free (slice_index_or queues q (record { head = 0; tail = 0; count = 0 }))

-- how many blocks the lists have in all
abbrev pub sum_of_counts : List BlockList → BlockList → ℕ
sum_of_counts queues free = sum_by (λ (l : BlockList). l.count) queues + free.count

-- the block at place i of the list q
abbrev pub place : List ℕ → (ℕ → BlockList) → ℕ → ℕ → ℕ
place next lists q i = behind next (lists q).head i

-- each block of a list is one of the B
abbrev pub Inside : ℕ → List ℕ → (ℕ → BlockList) → Type 0
Inside B next lists = (q i : ℕ) → q < 9 → i < (lists q).count → place next lists q i < B

-- no block stands in two places: (p, i) and (q, j)
abbrev pub Apart : List ℕ → (ℕ → BlockList) → Type 0
Apart next lists =
    (x : ℕ × ℕ × ℕ × ℕ)
    → (x.0 < 9) × (x.2 < 9) × (x.1 < (lists x.0).count) × (x.3 < (lists x.2).count) × (place next lists x.0 x.1 ≡ place next lists x.2 x.3)
    → (x.0 ≡ x.2) × (x.1 ≡ x.3)

-- each of the B blocks stands in some place
abbrev pub Covered : ℕ → List ℕ → (ℕ → BlockList) → Type 0
Covered B next lists =
    (b : ℕ) → b < B → ∥ ((x : ℕ × ℕ) × ((x.0 < 9) × (x.1 < (lists x.0).count) × (place next lists x.0 x.1 ≡ b))) ∥₁

-- the tail is the last block of each list that has one
abbrev pub Ended : List ℕ → (ℕ → BlockList) → Type 0
Ended next lists = (q : ℕ) → q < 9 → 0 < (lists q).count → (lists q).tail ≡ place next lists q ((lists q).count - 1)

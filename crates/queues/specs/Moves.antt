-- The steps that joins and takes are made of: a block goes from the head of one linked list to the tail of another.
use Rattle.std.specs.Prelude.{◌≡◌, ℕ, ◌<◌, [], ◌∷◌, drop, Some, None, Option}
use Rattle.queues.specs.Queues.{Queues, joined, taken}

-- the head of the queue q, one of B blocks
abbrev pub Heads : ℕ → Queues → ℕ → Option ℕ → Type 0
Heads B s q None = s.queue q ≡ []
Heads B s q (Some b) = (b < B) × (s.queue q ≡ b ∷ drop 1 (s.queue q))

-- the first free block, one of B, has gone to the tail of the queue q
abbrev pub Appends : ℕ → Queues → Queues → ℕ → Option ℕ → Type 0
Appends B old new q None = (old.free ≡ []) × (new ≡ old)
Appends B old new q (Some b) = (b < B) × (old.free ≡ b ∷ new.free) × (new ≡ joined old q)

-- the head of the queue q, one of B blocks, has become the last free block
abbrev pub Releases : ℕ → Queues → Queues → ℕ → Option ℕ → Type 0
Releases B old new q None = (old.queue q ≡ []) × (new ≡ old)
Releases B old new q (Some b) = (b < B) × (old.queue q ≡ b ∷ new.queue q) × (new ≡ taken old q)

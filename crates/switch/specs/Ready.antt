-- What a switch keeps between its calls.
use Rattle.std.specs.Prelude.{◌≡◌, ℕ, ◌<◌, ◌≤◌, true, List, length, Some, None, Option}
use Rattle.std.specs.List.{slice_get}
use Rattle.pairs.specs.declared.table.Table.{Table}
use Rattle.pairs.specs.Tables.{holds}
use Rattle.queues.specs.declared.links.Links.{Links}
use Rattle.queues.specs.Queues.{Queues, unused, view}

-- the queues of each input; of an input that there is not, empty ones
abbrev pub queues_of : Option (Links 16) → Queues
queues_of None = unused 16
queues_of (Some l) = view l

abbrev pub cells_of : List (Links 16) → ℕ → Queues
cells_of ls i = queues_of (slice_get ls i)

-- the pairs of a table are of the n ports
abbrev pub Within : ℕ → Table → Type 0
Within n t = (x : ℕ × ℕ) → holds t x.0 x.1 ≡ true → (x.0 < n) × (x.1 < n)

-- the queue of each grant that is not sent yet holds a cell
abbrev pub Ready : Table → List (Links 16) → Type 0
Ready t ls = (x : ℕ × ℕ) → holds t x.0 x.1 ≡ true → 1 ≤ length ((cells_of ls x.0).queue x.1)

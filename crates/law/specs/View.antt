-- A switch and the memory lent to it, as plain values.
use Rattle.std.specs.Prelude.{ℕ, zero, suc, ◌+◌, ◌*◌, Bool, cond, List, [], ◌∷◌, ◌++◌, take, drop}
use Rattle.std.specs.List.{between}
use Rattle.cells.specs.Header.{rewritten}
use Rattle.pairs.specs.declared.table.Table.{Table}
use Rattle.pairs.specs.Tables.{holds}
use Rattle.queues.specs.Queues.{Queues}
use Rattle.routes.specs.Map.{Tables}
use Rattle.law.specs.declared.memory.Block.{Block}
use Rattle.law.specs.declared.memory.Note.{Note}
use Rattle.law.specs.declared.stage.Stage.{Stage}

-- what is lent to the calls: 16 cell blocks for each input, 64 note blocks, 53 bytes for each output
pub record Memory : Type 0 where
  pub cells : List Block
  pub notes : List Note
  pub bytes : List ℕ

pub record Slot : Type 0 where
  -- the number of the slot to be opened next; of an open slot the number is one less
  pub next : ℕ
  pub stage : Stage
  -- the inputs whose turn in this slot is used
  pub used : ℕ → Bool
  -- the grants (input, output) of the latest decision that are not yet sent, by rising input, and the number of all
  pub grants : List (ℕ × ℕ)
  pub granted : ℕ
  -- the outputs sent to since the latest decision
  pub sent : ℕ → Bool

pub record View (A : Type 0) : Type 0 where
  pub ports : ℕ
  pub mark : ℕ
  pub arbiter : A
  pub slot : Slot
  -- the routes of each input by VCI
  pub tables : Tables
  -- the queues of each input, one for each output, and the queues of notes, one for each output
  pub cells : ℕ → Queues
  pub notes : Queues

-- where the block b of input i lies in cell memory
abbrev pub place : ℕ → ℕ → ℕ
place i b = i * 16 + b

-- the cell of a block as it leaves
abbrev pub leaving : Block → List ℕ
leaving b = rewritten b.cell b.new_vci

-- the 53 slot bytes of output o, and the slot bytes with the cell x there
abbrev pub part : ℕ → List ℕ → List ℕ
part o bytes = between (o * 53) (o * 53 + 53) bytes

abbrev pub parted : ℕ → List ℕ → List ℕ → List ℕ
parted o x bytes = take (o * 53) bytes ++ (x ++ drop (o * 53 + 53) bytes)

-- the pairs (i, o) of G with o below n, and those with i below k, by rising input
abbrev pub row : (ℕ → ℕ → Bool) → ℕ → ℕ → List (ℕ × ℕ)
row G i zero = []
row G i (suc o) = row G i o ++ cond (G i o) ((i, o) ∷ []) []

abbrev pub rows : (ℕ → ℕ → Bool) → ℕ → ℕ → List (ℕ × ℕ)
rows G n zero = []
rows G n (suc i) = rows G n i ++ row G i n

-- the pairs of a table of n ports, by rising input
abbrev pub pairs : ℕ → Table → List (ℕ × ℕ)
pairs n t = rows (holds t) n n

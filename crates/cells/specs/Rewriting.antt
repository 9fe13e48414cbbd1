-- What rewriting means for the cell that is sent: the theorem above the definition `rewritten`.
use Rattle.std.specs.Prelude.{◌≡◌, ℕ, ◌<◌, ◌≢◌, List, length, slice_index}
use Rattle.cells.specs.Header.{gfc_of, vpi_of, vci_of, payload_type_of, loss_priority_of, rewritten}

-- a cell is 53 bytes, each below 256
pub record IsCell (cell : List ℕ) : Type 0 where
  pub long : length cell ≡ 53
  pub bytes : (k : ℕ) → slice_index cell k < 256

-- the cell after differs from the cell before in its VCI, which is v, and in nothing else
pub record OnlyVci (before after : List ℕ) (v : ℕ) : Type 0 where
  pub cell : IsCell after
  pub vci : vci_of after ≡ v
  pub gfc : gfc_of after ≡ gfc_of before
  pub vpi : vpi_of after ≡ vpi_of before
  pub payload_type : payload_type_of after ≡ payload_type_of before
  pub loss_priority : loss_priority_of after ≡ loss_priority_of before
  pub others : (k : ℕ) → k ≢ 1 → k ≢ 2 → k ≢ 3 → slice_index after k ≡ slice_index before k

-- of every cell: rewriting changes the VCI and nothing else, rewriting twice is rewriting once,
-- and rewriting to the cell's own VCI changes nothing
pub record RewritingLaw : Type 0 where
  pub only : (cell : List ℕ) (v : ℕ) → IsCell cell → v < 65536 → OnlyVci cell (rewritten cell v) v
  pub twice : (cell : List ℕ) (v w : ℕ) → IsCell cell → v < 65536 → w < 65536 → rewritten (rewritten cell v) w ≡ rewritten cell w
  pub own : (cell : List ℕ) → IsCell cell → rewritten cell (vci_of cell) ≡ cell

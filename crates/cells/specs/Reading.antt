-- What reading a header answers, and what a call answers that is handed a slice in place of a cell.
use Rattle.std.specs.Prelude.{◌≡◌, ℕ, cond, List, length, Ok, Err, Result, ◌==◌}
use Rattle.refusals.specs.declared.refusal.Refusal.{Refusal}
use Rattle.refusals.specs.declared.refusal.Refusal.TheVariants.{CellLength}
use Rattle.cells.specs.declared.header.Header.{Header}
use Rattle.cells.specs.Header.{gfc_of, vpi_of, vci_of, payload_type_of, loss_priority_of}
use Rattle.cells.specs.Layout.{LayoutLaw}

-- all fields of a header
abbrev pub header_of : List ℕ → Header
header_of cell =
    record { gfc = gfc_of cell; vpi = vpi_of cell; vci = vci_of cell; payload_type = payload_type_of cell; loss_priority = loss_priority_of cell }

-- the header of a cell: all its fields, which lie where the standard lays them
pub record IsHeaderOf (cell : List ℕ) (header : Header) : Type 0 where
  pub fields : header ≡ header_of cell
  pub layout : LayoutLaw

-- the first where the slice is a cell, that is 53 bytes long; else the second
abbrev pub where_cell : {A : Type 0} → List ℕ → A → A → A
where_cell cell x y = cond (length cell == 53) x y

-- the answer about a cell, or the refusal of a slice that is none
abbrev pub of_cell : {A : Type 0} → List ℕ → A → Result A Refusal
of_cell cell x = where_cell cell (Ok x) (Err CellLength)

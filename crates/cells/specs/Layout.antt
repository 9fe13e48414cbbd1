-- The header as a row of bits, and the fields as what those bits spell.
use Rattle.std.specs.Prelude.{◌≡◌, ℕ, zero, suc, ◌+◌, ◌-◌, ◌*◌, ◌/◌, ◌%◌, ◌^◌, List, slice_index}
use Rattle.cells.specs.Header.{gfc_of, vpi_of, vci_of, payload_type_of, loss_priority_of}
use Rattle.cells.specs.Rewriting.{IsCell}

-- bit k of a cell: bits 0 to 7 are those of byte 0, its highest first, bits 8 to 15 those of byte 1, and so on
abbrev pub bit_of : List ℕ → ℕ → ℕ
bit_of cell k = slice_index cell (k / 8) / 2 ^ (7 - k % 8) % 2

-- the number that `width` bits spell from bit `from` on, the first of them the highest
abbrev pub spelt : List ℕ → ℕ → ℕ → ℕ
spelt cell from zero = 0
spelt cell from (suc width) = 2 * spelt cell from width + bit_of cell (from + width)

-- where each field of the header lies
pub record Layout (cell : List ℕ) : Type 0 where
  pub gfc : gfc_of cell ≡ spelt cell 0 4
  pub vpi : vpi_of cell ≡ spelt cell 4 8
  pub vci : vci_of cell ≡ spelt cell 12 16
  pub payload_type : payload_type_of cell ≡ spelt cell 28 3
  pub loss_priority : loss_priority_of cell ≡ spelt cell 31 1

-- of every cell: each field is what its bits spell
abbrev pub LayoutLaw : Type 0
LayoutLaw = (cell : List ℕ) → IsCell cell → Layout cell

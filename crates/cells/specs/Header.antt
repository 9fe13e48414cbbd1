-- The header of a cell at the user network interface (ITU-T I.361), over the list of the cell's bytes.
-- Byte 0 holds GFC and the upper half of VPI; byte 1 the lower half of VPI and the top four bits of VCI;
-- byte 2 the next eight bits of VCI; byte 3 the last four bits of VCI, then the payload type (three bits)
-- and the loss priority (one bit). Byte 4 is carried as it came.
use Rattle.std.specs.Prelude.{ℕ, ◌+◌, ◌*◌, ◌/◌, ◌%◌, Bool, ◌&&◌, List, set, ◌==◌, slice_index, slice_set}

-- generic flow control
abbrev pub gfc_of : List ℕ → ℕ
gfc_of cell = slice_index cell 0 / 16

-- the virtual path
abbrev pub vpi_of : List ℕ → ℕ
vpi_of cell = slice_index cell 0 % 16 * 16 + slice_index cell 1 / 16

-- the virtual circuit
abbrev pub vci_of : List ℕ → ℕ
vci_of cell = slice_index cell 1 % 16 * 4096 + slice_index cell 2 * 16 + slice_index cell 3 / 16

-- the payload type
abbrev pub payload_type_of : List ℕ → ℕ
payload_type_of cell = slice_index cell 3 / 2 % 8

-- the cell loss priority
abbrev pub loss_priority_of : List ℕ → ℕ
loss_priority_of cell = slice_index cell 3 % 2

-- the cell with its VCI replaced: each of the three bytes keeps what is not VCI
abbrev pub rewritten : List ℕ → ℕ → List ℕ
rewritten cell v =
    set
    (slice_set (slice_set cell 1 (slice_index cell 1 / 16 * 16 + v / 4096)) 2 (v / 16 % 256))
    3
    (v % 16 * 16 + slice_index cell 3 % 16)

-- an idle cell begins 00 00 00 01
abbrev pub is_idle : List ℕ → Bool
is_idle cell = slice_index cell 0 == 0 && slice_index cell 1 == 0 && slice_index cell 2 == 0 && slice_index cell 3 == 1

-- Ten worked figures.
use Rattle.std.specs.Prelude.{Bool, ◌&&◌, ◌==◌, List, [], ◌∷◌, ◌≡◌, ℕ, ◌-◌, ◌/◌, ◌%◌}
use Rattle.std.specs.List.{list_any}
use Rattle.cells.specs.Header.{rewritten, vci_of}
use Rattle.pairs.specs.declared.table.Table.{Table}
use Rattle.pairs.specs.Tables.{holds, table_of, within}
use Rattle.grants.specs.Diagonal.{diagonal_granted, diagonal_wait}
use Rattle.grants.specs.Ripple.{ripple_granted}
use Rattle.arbiters.specs.Periods.{lengthened, longest}

-- whether the pair (i, o) is one of those listed
abbrev pub listed : List (ℕ × ℕ) → ℕ → ℕ → Bool
listed ps i o = list_any (λ p. i == p.0 && o == p.1) ps

-- the table of the pairs listed
abbrev pub table : List (ℕ × ℕ) → Table
table ps = table_of (listed ps)

-- what the diagonal arbiter of n ports grants at the turn d, and the ripple arbiter at the turn t
abbrev pub diagonal : ℕ → ℕ → Table → Table
diagonal n d requests = table_of (within n (diagonal_granted (holds requests) n d))

abbrev pub ripple : ℕ → ℕ → Table → Table
ripple n t requests = table_of (within n (ripple_granted (holds requests) n (t / n) (t % n)))

-- requests of which the first keeps both others out
abbrev pub corner : Table
corner = table ((0, 0) ∷ (0, 1) ∷ (1, 0) ∷ [])

-- two requests for the output 1
abbrev pub column : Table
column = table ((0, 1) ∷ (1, 1) ∷ [])

pub record Figures : Type 0 where
  -- 00 12 34 56 has VCI 0x2345, and rewritten to 0xBEEF it is 00 1B EE F6
  pub vci : vci_of (0x00 ∷ 0x12 ∷ 0x34 ∷ 0x56 ∷ []) ≡ 0x2345
  pub rewriting : rewritten (0x00 ∷ 0x12 ∷ 0x34 ∷ 0x56 ∷ []) 0xBEEF ≡ 0x00 ∷ 0x1B ∷ 0xEE ∷ 0xF6 ∷ []
  -- FF FF FF FF rewritten to 0 is FF F0 00 0F
  pub clearing : rewritten (0xFF ∷ 0xFF ∷ 0xFF ∷ 0xFF ∷ []) 0 ≡ 0xFF ∷ 0xF0 ∷ 0x00 ∷ 0x0F ∷ []
  -- four ports: the diagonal arbiter grants (0, 0) alone at the turn 0, and the two others at the turn 1, as the ripple arbiter does at the turn 1
  pub diagonal-at-0 : diagonal 4 0 corner ≡ table ((0, 0) ∷ [])
  pub diagonal-at-1 : diagonal 4 1 corner ≡ table ((0, 1) ∷ (1, 0) ∷ [])
  pub ripple-at-1 : ripple 4 1 corner ≡ table ((0, 1) ∷ (1, 0) ∷ [])
  -- two ports, at the turn 0: the diagonal arbiter grants (1, 1), and the ripple arbiter (0, 1)
  pub contended : (diagonal 2 0 column ≡ table ((1, 1) ∷ [])) × (ripple 2 0 column ≡ table ((0, 1) ∷ []))
  -- four ports, at the turn 1: the waits of (0, 0) and (3, 3)
  pub waits : (diagonal_wait 4 1 0 0 ≡ 3) × (diagonal_wait 4 1 3 3 ≡ 1)
  -- a period of 2 on a diagonal arbiter of four ports: the bound, and a wait of 1 below with one slot to the reserved one
  pub short-period : (longest 2 (4 - 1) ≡ 7) × (lengthened 2 1 1 ≡ 2)
  -- a period of 64 on a diagonal arbiter of eight ports
  pub long-period : longest 64 (8 - 1) ≡ 8

-- A cell whose header is put back is as it was, and so is the memory that it lies in.
use Rattle.std.proofs.Common.{◌≡◌, ℕ, List, [], ◌∷◌, length, get_or, set, refl, ap, ◌∙◌, arith}
use Rattle.std.proofs.lemmas.List.{set-get_or}
use Rattle.cells.specs.Header.{rewritten}
use Rattle.law.specs.declared.memory.Block.{Block}
use Rattle.outgoing.specs.Headers.{header_of, with_header}

-- rewriting changes no byte past the fourth
put_back : (cell : List ℕ) (v : ℕ) → length cell ≡ 53 → with_header (header_of cell) (rewritten cell v) ≡ cell
put_back [] v e = absurd (omega arith)
put_back (a ∷ []) v e = absurd (omega arith)
put_back (a ∷ b ∷ []) v e = absurd (omega arith)
put_back (a ∷ b ∷ c ∷ []) v e = absurd (omega arith)
put_back (a ∷ b ∷ c ∷ d ∷ rest) v e = refl

-- a block whose cell was rewritten to `under` and then had its own header put back is as it was
pub restored : (b : Block) (v : ℕ) (header under after : List ℕ) → length b.cell ≡ 53 → under ≡ rewritten b.cell v → header ≡ header_of b.cell → after ≡ with_header header under → ◌≡◌ {A = Block} (record { cell = after; new_vci = b.new_vci }) b
restored b v header under after long p q r =
    let back = put_back b.cell v long in
    let same : after ≡ b.cell = cc in
    ap (λ (x : List ℕ). record { cell = x; new_vci = b.new_vci }) same

-- cell memory with one block set to what it was is as it was
pub unchanged : (blocks : List Block) (at : ℕ) (d block : Block) → block ≡ get_or blocks at d → set blocks at block ≡ blocks
unchanged blocks at d block same = ap (set blocks at) same ∙ set-get_or blocks at d

-- How many pairs a table of so many ports has.
use Rattle.std.proofs.Common.{◌≡◌, ℕ, zero, suc, ◌+◌, ◌≤◌, Bool, true, false, cond, eqb, List, [], ◌∷◌, length, sym, refl, ap, ◌∙◌, ap₂, arith}
use Rattle.std.proofs.lemmas.List.{length-append}
use Rattle.std.proofs.lemmas.Bool.{ne_eqb}
use Rattle.pairs.specs.declared.table.Table.{Table}
use Rattle.pairs.specs.Words.{digit}
use Rattle.pairs.specs.Tables.{holds, size, total}
use Rattle.pairs.proofs.Sizes.{total-ext, total-short}
use Rattle.law.specs.View.{row, rows, pairs}
use Rattle.law.specs.Calls.{is_empty}
use Rattle.switch.specs.Ready.{Within}
use Rattle.switch.proofs.Firsts.{false-if}

row-size : (G : ℕ → ℕ → Bool) (i k : ℕ) → length (row G i k) ≡ total k (λ o. digit (G i o))
unfolding total
row-size G i zero = refl
row-size G i (suc k) = length-append (row G i k) (cond (G i k) ((i, k) ∷ []) []) ∙ ap₂ ◌+◌ (row-size G i k) (one (G i k))
  where
    one : (b : Bool) → length (cond {A = List (ℕ × ℕ)} b ((i, k) ∷ []) []) ≡ digit b
    one true = refl
    one false = refl

rows-size : (G : ℕ → ℕ → Bool) (n k : ℕ) → length (rows G n k) ≡ total k (λ i. total n (λ o. digit (G i o)))
unfolding total
rows-size G n zero = refl
rows-size G n (suc k) = length-append (rows G n k) (row G k n) ∙ ap₂ ◌+◌ (rows-size G n k) (row-size G k n)

zeros : (k : ℕ) (f : ℕ → ℕ) → ((o : ℕ) → f o ≡ 0) → total k f ≡ 0
unfolding total
zeros zero f none = refl
zeros (suc k) f none = ap₂ ◌+◌ (zeros k f none) (none k)

-- the size of a table is the number of its pairs
pub size-pairs : (n : ℕ) (t : Table) → n ≤ 8 → Within n t → size t ≡ length (pairs n t)
unfolding size
size-pairs n t few w =
    total-ext 8 (λ i. total 8 (λ o. digit (holds t i o))) (λ i. total n (λ o. digit (holds t i o)))
    (λ i _. total-short n 8 (λ o. digit (holds t i o)) few (λ o l. none i o (λ h. let b = (w (i, o) h).1 in omega arith)))
    ∙ total-short n 8 (λ i. total n (λ o. digit (holds t i o))) few (λ i l. zeros n (λ o. digit (holds t i o)) (λ o. none i o (λ h. let b = (w (i, o) h).0 in omega arith)))
    ∙ sym (rows-size (holds t) n n)
  where
    none : (i o : ℕ) → (holds t i o ≡ true → ⊥) → digit (holds t i o) ≡ 0
    none i o no_way = ap digit (false-if (holds t i o) no_way)

by-length : (l : List (ℕ × ℕ)) → is_empty l ≡ eqb (length l) 0
by-length [] = refl
by-length (x ∷ l) = sym (ne_eqb (suc (length l)) 0 (omega arith))

pub empty-pairs : (n : ℕ) (t : Table) → n ≤ 8 → Within n t → is_empty (pairs n t) ≡ eqb (size t) 0
empty-pairs n t few w = by-length (pairs n t) ∙ ap (λ (m : ℕ). eqb m 0) (sym (size-pairs n t few w))

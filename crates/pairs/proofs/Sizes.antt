-- How many pairs a table has.
use Rattle.std.proofs.Common.{◌≡◌, ℕ, zero, suc, ◌+◌, ◌*◌, ◌/◌, ◌%◌, ◌^◌, ◌<◌, ◌≤◌, Bool, true, false, sym, refl, ap, ◌∙◌, ap₂, eqb, inl, inr, add-suc, add-zero, arith}
use lib.Count.{ones}
use Rattle.std.proofs.lemmas.Nat.{ones_cat, zero_from_ones}
use Rattle.std.proofs.lemmas.Bool.{cases_eq, eq-eqb, eqb-true, ne_eqb}
use Rattle.std.proofs.lemmas.Bool.Decides.{nat_tests}
use Rattle.pairs.specs.declared.table.Table.{Table}
use Rattle.pairs.specs.Words.{bit, digit, word}
use Rattle.pairs.specs.Tables.{holds, size, total}
use Rattle.pairs.proofs.Bits.{digit_lt, word-is}
use Rattle.pairs.proofs.Tables.{bit-held, held_below}

pub total-ext : (n : ℕ) (f g : ℕ → ℕ) → ((k : ℕ) → k < n → f k ≡ g k) → total n f ≡ total n g
unfolding total
total-ext zero f g h = refl
total-ext (suc n) f g h = ap₂ ◌+◌ (total-ext n f g (λ k l. h k (omega arith))) (h n (omega arith))

total-first : (n : ℕ) (f : ℕ → ℕ) → total (suc n) f ≡ f 0 + total n (λ k. f (suc k))
unfolding total
total-first zero f = omega arith
total-first (suc n) f = omega (arith, total-first n f)

total-add : (m n : ℕ) (f : ℕ → ℕ) → total (m + n) f ≡ total m f + total n (λ k. f (m + k))
unfolding total
total-add m zero f = ap (λ (k : ℕ). total k f) (add-zero m) ∙ sym (add-zero (total m f))
total-add m (suc n) f = ap (λ (k : ℕ). total k f) (add-suc m n) ∙ omega (arith, total-add m n f)

-- what adds nothing from n on
pub total-short : (n m : ℕ) (f : ℕ → ℕ) → n ≤ m → ((k : ℕ) → n ≤ k → f k ≡ 0) → total m f ≡ total n f
unfolding total
total-short n zero f l none = let e : zero ≡ n = omega arith in ap (λ (k : ℕ). total k f) e
total-short n (suc m) f l none = elim (cases_eq (suc m) n) [
  | inl e ↦ ap (λ (k : ℕ). total k f) e
  | inr e ↦ ap₂ ◌+◌ (total-short n m f (omega arith) none) (none m (omega arith)) ∙ add-zero (total n f)
]

-- row after row
total-rows : (n : ℕ) (F : ℕ → ℕ → ℕ) → total (n * 8) (λ k. F (k / 8) (k % 8)) ≡ total n (λ i. total 8 (F i))
unfolding total
total-rows zero F = refl
total-rows (suc n) F =
    ap (λ (k : ℕ). total k (λ k. F (k / 8) (k % 8))) e
    ∙ total-add (n * 8) 8 (λ k. F (k / 8) (k % 8))
    ∙ ap₂ ◌+◌ (total-rows n F) (total-ext 8 (λ k. F ((n * 8 + k) / 8) ((n * 8 + k) % 8)) (F n) (λ k l. ap₂ F (row k l) (place k l)))
  where
    e : suc n * 8 ≡ n * 8 + 8
    e = omega arith

    row : (k : ℕ) → k < 8 → (n * 8 + k) / 8 ≡ n
    row k l = omega arith

    place : (k : ℕ) → k < 8 → (n * 8 + k) % 8 ≡ k
    place k l = omega arith

ones-digit : (b : Bool) → ones (digit b) ≡ digit b
unfolding ones
ones-digit true = refl
ones-digit false = refl

ones-word : (f : ℕ → Bool) (k : ℕ) → ones (word f k) ≡ total k (λ j. digit (f j))
unfolding word total ones
ones-word f zero = refl
ones-word f (suc k) =
    let W : ℕ = word (λ j. f (suc j)) k in
    let e : digit (f 0) + 2 * W ≡ W * 2 ^ 1 + digit (f 0) = omega arith in
    ap ones e ∙ ones_cat 1 W (digit (f 0)) (digit_lt (f 0)) ∙ ap₂ ◌+◌ (ones-word (λ j. f (suc j)) k) (ones-digit (f 0))
    ∙ omega (arith, total-first k (λ j. digit (f j)))

pub ones-size : (t : Table) → t.bits < 2 ^ 64 → ones t.bits ≡ size t
unfolding size
ones-size t l =
    ap ones (word-is (bit t.bits) 64 t.bits l (λ j h. refl))
    ∙ ones-word (bit t.bits) 64
    ∙ total-ext 64 (λ k. digit (bit t.bits k)) (λ k. digit (holds t (k / 8) (k % 8))) (λ k h. ap digit (bit-held t k h))
    ∙ total-rows 8 (λ i o. digit (holds t i o))

-- the word of a table is 0 if the table has no pair, and only then
pub empty-size : (t : Table) → t.bits < 2 ^ 64 → eqb t.bits 0 ≡ eqb (size t) 0
empty-size t l = elim (cases_eq t.bits 0) [
  | inl e ↦ eq-eqb t.bits 0 e ∙ sym (eq-eqb (size t) 0 (sym (ones-size t l) ∙ ap ones e ∙ ones-digit false))
  | inr e ↦ ne_eqb t.bits 0 e ∙ sym (ne_eqb (size t) 0 (λ z. e (zero_from_ones t.bits (ones-size t l ∙ z))))
]

total-zero : (n : ℕ) (f : ℕ → ℕ) → total n f ≡ 0 → (k : ℕ) → k < n → f k ≡ 0
unfolding total
total-zero zero f e k l = absurd (omega arith)
total-zero (suc n) f e k l = elim (cases_eq k n) [
  | inl p ↦ ap f p ∙ omega arith
  | inr p ↦ total-zero n f (omega arith) k (omega arith)
]

-- an empty table has no pair
pub none-held : (t : Table) → eqb (size t) 0 ≡ true → (i o : ℕ) → holds t i o ≡ false
unfolding size
none-held t e i o = go (holds t i o) refl
  where
    go : (b : Bool) → holds t i o ≡ b → holds t i o ≡ false
    go false h = h
    go true h =
        let l = held_below t i o h in
        let row = total-zero 8 (λ i. total 8 (λ o. digit (holds t i o))) (eqb-true (size t) 0 e) i l.0 in
        let none : digit (holds t i o) ≡ 0 = total-zero 8 (λ o. digit (holds t i o)) row o l.1 in
        absurd (omega (arith, none, ap digit h))

pub some-bit : (t : Table) → t.bits < 2 ^ 64 → eqb (size t) 0 ≡ false → 0 < t.bits
some-bit t l e = grind (arith, nat_tests, empty-size t l)

total-most : (n m : ℕ) (f : ℕ → ℕ) → ((k : ℕ) → k < n → f k ≤ m) → total n f ≤ n * m
unfolding total
total-most zero m f h = omega arith
total-most (suc n) m f h = omega (arith, total-most n m f (λ k l. h k (omega arith)), h n (omega arith))

pub size-most : (t : Table) → size t ≤ 64
unfolding size
size-most t = total-most 8 8 _ (λ i _. total-most 8 1 _ (λ o _. omega (arith, digit_lt (holds t i o))))

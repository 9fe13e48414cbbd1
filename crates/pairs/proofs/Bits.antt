-- A number below 2 ^ k is the word of its bits, and a word's bits are those that it is made of.
use Rattle.std.proofs.Common.{◌≡◌, ℕ, zero, suc, ◌+◌, ◌-◌, ◌*◌, ◌/◌, ◌%◌, ◌^◌, ◌<◌, ◌≤◌, Bool, true, false, not, ◌&&◌, ◌||◌, eqb, leb, ltb, min, max, sym, refl, ap, ◌∙◌, ap₂, inl, inr, add-zero, le_of_suc-le-suc, not-suc-le-zero, pow-suc, pow_pos, arith}
use mir.Val.{bits}
use lib.Bits.{bit_and, bit_or}
use Rattle.std.specs.Int.{Width, bit_at, trailing_zeros}
use Rattle.std.proofs.lemmas.Nat.{shr-shr, shr_split}
use Rattle.std.proofs.lemmas.Nat.Bits.{bit_at-lt, bit_at-suc, bit_at-zero, bit_at_and, bit_at_or, bit_at_not, bit_at-pow_same, bit_at-pow_other, bit_at_above, bit_at_ones, bit_at_ones_above, bit_at_cat_low, bit_at_cat_high, bit_at-trailing_zeros, same_from_bits_below}
use Rattle.std.proofs.lemmas.Bool.{and_left, cases_eq, cases_lt, eq-eqb, le-leb, le-ltb, lt-leb, lt-ltb, ne_eqb}
use Rattle.std.proofs.lemmas.Bool.Decides.{nat_tests}
use Rattle.pairs.specs.Words.{bit, digit, word}

pub digit_lt : (b : Bool) → digit b < 2
digit_lt true = omega arith
digit_lt false = omega arith

pub word_lt : (f : ℕ → Bool) (k : ℕ) → word f k < 2 ^ k
unfolding word
word_lt f zero = omega arith
word_lt f (suc k) =
    omega (arith, digit_lt (f 0), word_lt (λ j. f (suc j)) k, pow-suc 2 k)

digit-bit : (b : Bool) → eqb (digit b) 1 ≡ b
digit-bit true = refl
digit-bit false = refl

pub bit_word : (f : ℕ → Bool) (k j : ℕ) → j < k → bit (word f k) j ≡ f j
unfolding word bit
bit_word f zero j h = absurd (not-suc-le-zero h)
bit_word f (suc k) zero h =
    let W : ℕ = word (λ j. f (suc j)) k in
    let e : (digit (f 0) + 2 * W) / 1 % 2 ≡ digit (f 0) = omega (arith, digit_lt (f 0)) in
    ap (λ (y : ℕ). eqb y 1) e ∙ digit-bit (f 0)
bit_word f (suc k) (suc j) h =
    let W : ℕ = word (λ j. f (suc j)) k in
    let e : (digit (f 0) + 2 * W) / 2 ≡ W = omega (arith, digit_lt (f 0)) in
    ap (λ (y : ℕ). eqb y 1) (bit_at-suc (digit (f 0) + 2 * W) j) ∙ ap (λ (y : ℕ). bit y j) e ∙ bit_word (λ j. f (suc j)) k j (le_of_suc-le-suc h)

-- two functions that agree below k make one word
pub word-ext : (f g : ℕ → Bool) (k : ℕ) → ((j : ℕ) → j < k → f j ≡ g j) → word f k ≡ word g k
unfolding word
word-ext f g zero h = refl
word-ext f g (suc k) h =
    ap₂ (λ (a : Bool) (b : ℕ). digit a + 2 * b) (h 0 (omega arith))
    (word-ext (λ j. f (suc j)) (λ j. g (suc j)) k (λ j l. h (suc j) (omega arith)))

same-digit : (a b : ℕ) → a < 2 → b < 2 → eqb a 1 ≡ eqb b 1 → a ≡ b
same-digit a b p q e = grind (arith, nat_tests)

-- a number below 2 ^ k whose bits are f's
pub word-is : (f : ℕ → Bool) (k x : ℕ) → x < 2 ^ k → ((j : ℕ) → j < k → bit x j ≡ f j) → x ≡ word f k
unfolding bit
word-is f k x h b =
    same_from_bits_below k x (word f k) h (word_lt f k)
    (λ j l. same-digit (bit_at x j) (bit_at (word f k) j) (bit_at-lt x j) (bit_at-lt (word f k) j) (b j l ∙ sym (bit_word f k j l)))

-- ---- the operations, bit by bit
max-either : (a b : ℕ) → a < 2 → b < 2 → eqb (max a b) 1 ≡ (eqb a 1 || eqb b 1)
max-either a b p q = grind (arith, nat_tests)

min-both : (a b : ℕ) → a < 2 → b < 2 → eqb (min a b) 1 ≡ (eqb a 1 && eqb b 1)
min-both a b p q = grind (arith, nat_tests)

opposite : (a : ℕ) → a < 2 → eqb (1 - a) 1 ≡ not (eqb a 1)
opposite a h = grind (arith, nat_tests)

pub bit-or : (x y j : ℕ) → bit (bit_or x y) j ≡ (bit x j || bit y j)
unfolding bit
bit-or x y j = ap (λ (z : ℕ). eqb z 1) (bit_at_or x y j) ∙ max-either (bit_at x j) (bit_at y j) (bit_at-lt x j) (bit_at-lt y j)

pub bit-and : (x y j : ℕ) → bit (bit_and x y) j ≡ (bit x j && bit y j)
unfolding bit
bit-and x y j = ap (λ (z : ℕ). eqb z 1) (bit_at_and x y j) ∙ min-both (bit_at x j) (bit_at y j) (bit_at-lt x j) (bit_at-lt y j)

-- `!x` at w bits
pub bit_not : (w : Width) (x j : ℕ) → x < 2 ^ bits w → j < bits w → bit ((2 ^ bits w - 1) - x) j ≡ not (bit x j)
unfolding bit
bit_not w x j p h = ap (λ (z : ℕ). eqb z 1) (bit_at_not w x j p h) ∙ opposite (bit_at x j) (bit_at-lt x j)

-- `1 << k`
pub bit-pow : (k j : ℕ) → bit (2 ^ k) j ≡ eqb j k
unfolding bit
bit-pow k j = elim (cases_eq j k) [
  | inl e ↦ ap (λ (i : ℕ). eqb (bit_at (2 ^ k) i) 1) e ∙ ap (λ (z : ℕ). eqb z 1) (bit_at-pow_same k) ∙ sym (eq-eqb j k e)
  | inr e ↦ ap (λ (z : ℕ). eqb z 1) (bit_at-pow_other k j e) ∙ sym (ne_eqb j k e)
]

-- the lowest k bits
pub bit_ones : (k j : ℕ) → bit (2 ^ k - 1) j ≡ ltb j k
unfolding bit
bit_ones k j = elim (cases_lt j k) [
  | inl l ↦ ap (λ (z : ℕ). eqb z 1) (bit_at_ones k j l) ∙ sym (lt-ltb j k l)
  | inr l ↦ ap (λ (z : ℕ). eqb z 1) (bit_at_ones_above k j l) ∙ sym (le-ltb j k l)
]

-- `x >> s`
pub bit-shr : (x s j : ℕ) → bit (x / 2 ^ s) j ≡ bit x (s + j)
unfolding bit
bit-shr x s j = ap (λ (y : ℕ). eqb (y % 2) 1) (shr-shr x s j)

-- what is left of a number below 2 ^ w
pub bit-mod : (n w k : ℕ) → k < w → bit (n % 2 ^ w) k ≡ bit n k
unfolding bit
bit-mod n w k h =
    ap (λ (y : ℕ). eqb y 1) (sym (bit_at_cat_low (n / 2 ^ w) w (n % 2 ^ w) k h))
    ∙ ap (λ (y : ℕ). bit y k) (shr_split n w)

-- `x << s` at w bits
pub bit-shl : (x s w k : ℕ) → k < w → bit ((x * 2 ^ s) % 2 ^ w) k ≡ (leb s k && bit x (k - s))
unfolding bit
bit-shl x s w k h = bit-mod (x * 2 ^ s) w k h ∙ ap (λ (y : ℕ). bit y k) (sym (add-zero (x * 2 ^ s))) ∙ elim (cases_lt k s) [
  | inl l ↦ ap (λ (y : ℕ). eqb y 1) (bit_at_cat_low x s 0 k l ∙ bit_at-zero k) ∙ sym (and_left (leb s k) _ (lt-leb s k l))
  | inr l ↦ ap (λ (y : ℕ). eqb y 1) (bit_at_cat_high x s 0 k (pow_pos s) l) ∙ ap (λ (b : Bool). b && bit x (k - s)) (sym (le-leb s k l))
]

-- a number below 2 ^ w has no bit from w on
pub bit_high : (x w k : ℕ) → x < 2 ^ w → w ≤ k → bit x k ≡ false
unfolding bit
bit_high x w k h l = ap (λ (y : ℕ). eqb y 1) (bit_at_above x w k h l)

-- 0 has no bit
pub bit-zero : (k : ℕ) → bit 0 k ≡ false
unfolding bit
bit-zero k = ap (λ (y : ℕ). eqb y 1) (bit_at-zero k)

-- the lowest bit that is set
pub lowest_set : (w : Width) (n : ℕ) → 0 < n → n < 2 ^ bits w
    → (trailing_zeros w n < bits w) × (bit n (trailing_zeros w n) ≡ true) × ((j : ℕ) → j < trailing_zeros w n → bit n j ≡ false)
unfolding bit
lowest_set w n p h =
    let low = bit_at-trailing_zeros w n p h in
    (low.0, eq-eqb (bit_at n (trailing_zeros w n)) 1 low.1, λ j l. ap (λ (y : ℕ). eqb y 1) (low.2 j l))

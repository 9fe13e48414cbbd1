-- What a table made of a function holds; tables that hold the same pairs are one.
use Rattle.std.proofs.Common.{◌≡◌, ℕ, ◌+◌, ◌-◌, ◌*◌, ◌/◌, ◌%◌, ◌^◌, ◌<◌, ◌≤◌, Bool, true, false, not, ◌&&◌, ◌||◌, eqb, leb, ◌⊎◌, sym, refl, ap, ◌∙◌, ap₂, inl, inr, arith}
use lib.Bits.{bit_and, bit_or, or_lt, and_le_l}
use lib.Count.{count_trailing_zeros}
use Rattle.std.specs.Int.{w64}
use Rattle.std.proofs.lemmas.Bool.{and_left, and_right, both_ways, cases_lt, eq-eqb, le-leb, lt-leb, ne_eqb}
use Rattle.pairs.specs.declared.ports.Ports.{Ports}
use Rattle.pairs.specs.declared.table.Table.{Table}
use Rattle.pairs.specs.Words.{bit, word}
use Rattle.pairs.specs.Tables.{added, dropped, filled, holds, inside, joined, ports_of, table_of}
use Rattle.pairs.proofs.Bits.{bit_word, word_lt, word-ext, word-is, bit-or, bit-and, bit_not, bit-shl, bit_high, lowest_set}
use Rattle.pairs.proofs.PortSets.{kept, not-inside}
use Rattle.pairs.proofs.Within.{within-is, within-parts}

abbrev pub made : ℕ → Table
made x = record { bits = x }

pub holds-bit : (t : Table) (i o : ℕ) → i < 8 → o < 8 → holds t i o ≡ bit t.bits (i * 8 + o)
unfolding holds
holds-bit t i o p q = within-is 8 (λ i o. bit t.bits (i * 8 + o)) i o p q

-- the pairs of a table lie within 8 × 8
pub held_below : (t : Table) (i o : ℕ) → holds t i o ≡ true → (i < 8) × (o < 8)
unfolding holds
held_below t i o h = let a = within-parts 8 (λ i o. bit t.bits (i * 8 + o)) i o h in (a.0, a.1)

pub not-held : (t : Table) (i o : ℕ) → (i < 8 → o < 8 → ⊥) → holds t i o ≡ false
not-held t i o h = go (holds t i o) refl
  where
    go : (b : Bool) → holds t i o ≡ b → holds t i o ≡ false
    go true e = let l = held_below t i o e in absurd (h l.0 l.1)
    go false e = e

pub holds_of : (F : ℕ → ℕ → Bool) (i o : ℕ) → i < 8 → o < 8 → holds (table_of F) i o ≡ F i o
unfolding table_of
holds_of F i o p q =
    let e : (i * 8 + o) / 8 ≡ i = omega arith in
    let f : (i * 8 + o) % 8 ≡ o = omega arith in
    holds-bit (table_of F) i o p q ∙ bit_word (λ k. F (k / 8) (k % 8)) 64 (i * 8 + o) (omega arith) ∙ ap₂ F e f

-- what a table holds of which it is known what it was made of
pub held : (t : Table) (F : ℕ → ℕ → Bool) → t ≡ table_of F → (i o : ℕ) → i < 8 → o < 8 → holds t i o ≡ F i o
held t F is i o p q = ap (λ (u : Table). holds u i o) is ∙ holds_of F i o p q

pub table_of-ext : (F G : ℕ → ℕ → Bool) → ((i o : ℕ) → i < 8 → o < 8 → F i o ≡ G i o) → table_of F ≡ table_of G
unfolding table_of
table_of-ext F G h =
    ap made (word-ext (λ k. F (k / 8) (k % 8)) (λ k. G (k / 8) (k % 8)) 64 (λ k l. h (k / 8) (k % 8) (omega arith) (omega arith)))

-- a word below 2 ^ 64 with the bits of F
pub table_of-is : (F : ℕ → ℕ → Bool) (x : ℕ) → x < 2 ^ 64 → ((k : ℕ) → k < 64 → bit x k ≡ F (k / 8) (k % 8)) → made x ≡ table_of F
unfolding table_of
table_of-is F x l h = ap made (word-is (λ k. F (k / 8) (k % 8)) 64 x l h)

pub bit-held : (t : Table) (k : ℕ) → k < 64 → bit t.bits k ≡ holds t (k / 8) (k % 8)
bit-held t k h =
    let e : k ≡ k / 8 * 8 + k % 8 = omega arith in
    ap (bit t.bits) e ∙ sym (holds-bit t (k / 8) (k % 8) (omega arith) (omega arith))

-- a table is the table of what it holds
pub table_of-holds : (t : Table) → t.bits < 2 ^ 64 → t ≡ table_of (holds t)
table_of-holds t l = table_of-is (holds t) t.bits l (bit-held t)

-- two tables that hold the same pairs are equal
pub table-ext : (s t : Table) → s.bits < 2 ^ 64 → t.bits < 2 ^ 64 → ((i o : ℕ) → i < 8 → o < 8 → holds s i o ≡ holds t i o) → s ≡ t
table-ext s t p q h = table_of-holds s p ∙ table_of-ext (holds s) (holds t) h ∙ sym (table_of-holds t q)

-- a table to which nothing is done
pub stays : (t : Table) (F : ℕ → ℕ → Bool) → t.bits < 2 ^ 64 → ((x y : ℕ) → x < 8 → y < 8 → holds t x y ≡ F x y) → t ≡ table_of F
stays t F l h = table_of-holds t l ∙ table_of-ext (holds t) F h

or_comm : (a b : Bool) → (a || b) ≡ (b || a)
or_comm true true = refl
or_comm true false = refl
or_comm false true = refl
or_comm false false = refl

-- ---- the outputs of one input
pub outputs-hold : (t : Table) (p : Ports) (i o : ℕ) → p ≡ ports_of (holds t i) → inside p o ≡ holds t i o
outputs-hold t p i o e = elim (cases_lt o 8) [
  | inl l ↦ kept p (holds t i) e o l
  | inr l ↦ not-inside p o l ∙ sym (not-held t i o (λ _ m. omega arith))
]

-- ---- one pair put in, and taken out
no-more : (a b : Bool) → b ≡ false → (a || b) ≡ a
no-more a b e = or_comm a b ∙ ap (λ (c : Bool). c || a) e

pub added_is : (t : Table) (i o : ℕ) (none one : Ports) → none ≡ ports_of (λ _. false) → one ≡ ports_of (joined (inside none) o)
    → table_of (filled (holds t) i (inside one)) ≡ table_of (added (holds t) i o)
added_is t i o none one e f =
    table_of-ext (filled (holds t) i (inside one)) (added (holds t) i o)
    (λ x y _ l. ap (λ (b : Bool). (eqb x i && b) || holds t x y) (kept one (joined (inside none) o) f y l ∙ no-more (eqb y o) _ (kept none (λ _. false) e y l)))

pub dropped-is : (t : Table) (i o : ℕ) (none one : Table) → none ≡ table_of (λ _ _. false) → one ≡ table_of (added (holds none) i o)
    → table_of (λ x y. holds t x y && not (holds one x y)) ≡ table_of (dropped (holds t) i o)
dropped-is t i o none one e f =
    table_of-ext (λ x y. holds t x y && not (holds one x y)) (dropped (holds t) i o)
    (λ x y l m. ap (λ (b : Bool). holds t x y && not b) (held one (added (holds none) i o) f x y l m ∙ no-more (eqb x i && eqb y o) _ (held none (λ _ _. false) e x y l m)))

-- ---- the outputs of one input put in
module _ (t : Table) (i : ℕ) (l : t.bits < 2 ^ 64) where
  pub filled_none : (f : ℕ → Bool) → 8 ≤ i → t ≡ table_of (filled (holds t) i f)
  filled_none f h =
      stays t (filled (holds t) i f) l
      (λ x y p q. ap (λ (b : Bool). b || holds t x y) (sym (and_left (eqb x i) (f y) (ne_eqb x i (omega arith)))))

  module _ (f : ℕ → Bool) (p : i < 8) where
    shifted : (k : ℕ) → k < 64 → bit ((word f 8 * 2 ^ (i * 8)) % 2 ^ 64) k ≡ (eqb (k / 8) i && f (k % 8))
    shifted k m = bit-shl (word f 8) (i * 8) 64 k m ∙ go (cases_lt k (i * 8)) (cases_lt k (i * 8 + 8))
      where
        go : (k < i * 8) ⊎ (i * 8 ≤ k) → (k < i * 8 + 8) ⊎ (i * 8 + 8 ≤ k) → (leb (i * 8) k && bit (word f 8) (k - i * 8)) ≡ (eqb (k / 8) i && f (k % 8))
        go (inl a) _ = and_left (leb (i * 8) k) _ (lt-leb (i * 8) k a) ∙ sym (and_left (eqb (k / 8) i) _ (ne_eqb (k / 8) i (omega arith)))
        go (inr a) (inr b) =
            and_right (leb (i * 8) k) _ (bit_high (word f 8) 8 (k - i * 8) (word_lt f 8) (omega arith)) ∙ sym (and_left (eqb (k / 8) i) _ (ne_eqb (k / 8) i (omega arith)))
        go (inr a) (inl b) =
            let e : k - i * 8 ≡ k % 8 = omega arith in
            ap₂ ◌&&◌ (le-leb (i * 8) k a) (bit_word f 8 (k - i * 8) (omega arith) ∙ ap f e) ∙ ap (λ (b : Bool). b && f (k % 8)) (sym (eq-eqb (k / 8) i (omega arith)))

    pub filled_is : made (bit_or t.bits ((word f 8 * 2 ^ (i * 8)) % 2 ^ 64)) ≡ table_of (filled (holds t) i f)
    filled_is =
        table_of-is (filled (holds t) i f) (bit_or t.bits ((word f 8 * 2 ^ (i * 8)) % 2 ^ 64))
        (or_lt 64 t.bits ((word f 8 * 2 ^ (i * 8)) % 2 ^ 64) l (omega arith))
        (λ k m. bit-or t.bits ((word f 8 * 2 ^ (i * 8)) % 2 ^ 64) k ∙ or_comm (bit t.bits k) _ ∙ ap₂ ◌||◌ (shifted k m) (bit-held t k m))

-- ---- whole tables
module _ (s t : Table) (p : s.bits < 2 ^ 64) (q : t.bits < 2 ^ 64) where
  pub and_is : made (bit_and s.bits t.bits) ≡ table_of (λ i o. holds s i o && holds t i o)
  and_is =
      table_of-is (λ i o. holds s i o && holds t i o) (bit_and s.bits t.bits) (omega (arith, and_le_l s.bits t.bits))
      (λ k m. bit-and s.bits t.bits k ∙ ap₂ ◌&&◌ (bit-held s k m) (bit-held t k m))

  pub or_is : made (bit_or s.bits t.bits) ≡ table_of (λ i o. holds s i o || holds t i o)
  or_is =
      table_of-is (λ i o. holds s i o || holds t i o) (bit_or s.bits t.bits) (or_lt 64 s.bits t.bits p q)
      (λ k m. bit-or s.bits t.bits k ∙ ap₂ ◌||◌ (bit-held s k m) (bit-held t k m))

  pub minus_is : made (bit_and s.bits ((2 ^ 64 - 1) - t.bits)) ≡ table_of (λ i o. holds s i o && not (holds t i o))
  minus_is =
      table_of-is (λ i o. holds s i o && not (holds t i o)) (bit_and s.bits ((2 ^ 64 - 1) - t.bits)) (omega (arith, and_le_l s.bits ((2 ^ 64 - 1) - t.bits)))
      (λ k m. bit-and s.bits ((2 ^ 64 - 1) - t.bits) k ∙ ap₂ ◌&&◌ (bit-held s k m) (bit_not w64 t.bits k q m ∙ ap not (bit-held t k m)))

-- ---- the first pair
module _ (t : Table) (some-bit : 0 < t.bits) (l : t.bits < 2 ^ 64) where
  pub first-lt : count_trailing_zeros 64 t.bits < 64
  first-lt = (lowest_set w64 t.bits some-bit l).0

  pub first-held : holds t (count_trailing_zeros 64 t.bits / 8) (count_trailing_zeros 64 t.bits % 8) ≡ true
  first-held = sym (bit-held t (count_trailing_zeros 64 t.bits) first-lt) ∙ (lowest_set w64 t.bits some-bit l).1

  pub first-least : (i o : ℕ) → holds t i o ≡ true → count_trailing_zeros 64 t.bits ≤ i * 8 + o
  first-least i o h = go (cases_lt (i * 8 + o) (count_trailing_zeros 64 t.bits))
    where
      b : (i < 8) × (o < 8)
      b = held_below t i o h

      go : (i * 8 + o < count_trailing_zeros 64 t.bits) ⊎ (count_trailing_zeros 64 t.bits ≤ i * 8 + o) → count_trailing_zeros 64 t.bits ≤ i * 8 + o
      go (inr m) = m
      go (inl m) = absurd (both_ways _ ((lowest_set w64 t.bits some-bit l).2 (i * 8 + o) m) (sym (holds-bit t i o b.0 b.1) ∙ h))

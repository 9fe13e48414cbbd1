-- What a set made of a function holds, and the first port of a set.
use Rattle.std.proofs.Common.{◌≡◌, ℕ, zero, suc, ◌+◌, ◌-◌, ◌/◌, ◌%◌, ◌^◌, ◌<◌, ◌≤◌, Bool, true, false, not, ◌&&◌, ◌||◌, ltb, leb, ◌⊎◌, sym, refl, ap, ◌∙◌, ap₂, inl, inr, arith}
use lib.Bits.{bit_and, bit_or, or_lt, and_le_l}
use Rattle.std.specs.Int.{rotate_right, trailing_zeros, w8}
use Rattle.std.proofs.lemmas.Nat.{pow_below, shr_le}
use Rattle.std.proofs.lemmas.Bool.{and_left, and_parts, and_right, both_ways, cases_eq, cases_lt, le-leb, le-ltb, lt-leb, lt-ltb, ltb-true, ne_eqb}
use Rattle.pairs.specs.declared.ports.Ports.{Ports}
use Rattle.pairs.specs.Words.{bit, word}
use Rattle.pairs.specs.Tables.{ahead, inside, joined, ports_of, removed}
use Rattle.pairs.proofs.Bits.{bit_word, word-ext, word-is, bit-or, bit-and, bit_not, bit-pow, bit-shl, bit-shr, bit_high, bit-zero, lowest_set}

abbrev pub made : ℕ → Ports
made x = record { bits = x }

pub inside-bit : (p : Ports) (x : ℕ) → x < 8 → inside p x ≡ bit p.bits x
unfolding inside
inside-bit p x h = ap (λ (b : Bool). b && bit p.bits x) (lt-ltb x 8 h)

-- the ports of a set are below 8
pub inside-below : (p : Ports) (x : ℕ) → inside p x ≡ true → x < 8
unfolding inside
inside-below p x h = ltb-true x 8 (and_parts (ltb x 8) _ h).0

pub not-inside : (p : Ports) (x : ℕ) → 8 ≤ x → inside p x ≡ false
unfolding inside
not-inside p x h = and_left (ltb x 8) _ (le-ltb x 8 h)

pub inside_of : (f : ℕ → Bool) (x : ℕ) → x < 8 → inside (ports_of f) x ≡ f x
unfolding ports_of
inside_of f x h = inside-bit (ports_of f) x h ∙ bit_word f 8 x h

-- what a set holds of which it is known what it was made of
pub kept : (p : Ports) (f : ℕ → Bool) → p ≡ ports_of f → (x : ℕ) → x < 8 → inside p x ≡ f x
kept p f is x h = ap (λ (q : Ports). inside q x) is ∙ inside_of f x h

pub ports_of-ext : (f g : ℕ → Bool) → ((x : ℕ) → x < 8 → f x ≡ g x) → ports_of f ≡ ports_of g
unfolding ports_of
ports_of-ext f g h = ap made (word-ext f g 8 h)

pub ports_of-is : (f : ℕ → Bool) (x : ℕ) → x < 2 ^ 8 → ((k : ℕ) → k < 8 → bit x k ≡ f k) → made x ≡ ports_of f
unfolding ports_of
ports_of-is f x l h = ap made (word-is f 8 x l h)

-- the byte of a set
pub byte-is : (p : Ports) → p.bits < 2 ^ 8 → p.bits ≡ word (inside p) 8
byte-is p l = word-is (inside p) 8 p.bits l (λ k h. sym (inside-bit p k h))

stays : (p : Ports) (f : ℕ → Bool) → p.bits < 2 ^ 8 → ((x : ℕ) → x < 8 → inside p x ≡ f x) → p ≡ ports_of f
stays p f l h = ports_of-is f p.bits l (λ k m. sym (inside-bit p k m) ∙ h k m)

or_comm : (a b : Bool) → (a || b) ≡ (b || a)
or_comm true true = refl
or_comm true false = refl
or_comm false true = refl
or_comm false false = refl

and_comm : (a b : Bool) → (a && b) ≡ (b && a)
and_comm true true = refl
and_comm true false = refl
and_comm false true = refl
and_comm false false = refl

module _ (p : Ports) (x : ℕ) (l : p.bits < 2 ^ 8) where
  pub joined-none : 8 ≤ x → p ≡ ports_of (joined (inside p) x)
  joined-none h = stays p (joined (inside p) x) l (λ y m. ap (λ (b : Bool). b || inside p y) (sym (ne_eqb y x (omega arith))))

  pub removed-none : 8 ≤ x → p ≡ ports_of (removed (inside p) x)
  removed-none h = stays p (removed (inside p) x) l (λ y m. ap (λ (b : Bool). not b && inside p y) (sym (ne_eqb y x (omega arith))))

  pub joined_is : x < 8 → made (bit_or p.bits (2 ^ x)) ≡ ports_of (joined (inside p) x)
  joined_is h =
      ports_of-is (joined (inside p) x) (bit_or p.bits (2 ^ x)) (or_lt 8 p.bits (2 ^ x) l (pow_below x 8 h))
      (λ k m. bit-or p.bits (2 ^ x) k ∙ or_comm (bit p.bits k) (bit (2 ^ x) k) ∙ ap₂ ◌||◌ (bit-pow x k) (sym (inside-bit p k m)))

  pub removed-is : x < 8 → made (bit_and p.bits (255 - 2 ^ x)) ≡ ports_of (removed (inside p) x)
  removed-is h =
      ports_of-is (removed (inside p) x) (bit_and p.bits (255 - 2 ^ x)) (omega (arith, and_le_l p.bits (255 - 2 ^ x)))
      (λ k m. bit-and p.bits (255 - 2 ^ x) k ∙ and_comm (bit p.bits k) (bit (255 - 2 ^ x) k)
      ∙ ap₂ ◌&&◌ (bit_not w8 (2 ^ x) k (pow_below x 8 h) m ∙ ap not (bit-pow x k)) (sym (inside-bit p k m)))

pub and_is : (p q : Ports) → p.bits < 2 ^ 8 → made (bit_and p.bits q.bits) ≡ ports_of (λ x. inside p x && inside q x)
and_is p q l =
    ports_of-is (λ x. inside p x && inside q x) (bit_and p.bits q.bits) (omega (arith, and_le_l p.bits q.bits))
    (λ k m. bit-and p.bits q.bits k ∙ ap₂ ◌&&◌ (sym (inside-bit p k m)) (sym (inside-bit q k m)))

pub none_inside : (p : Ports) → p.bits ≡ 0 → (x : ℕ) → inside p x ≡ false
unfolding inside
none_inside p e x = and_right (ltb x 8) _ (ap (λ (y : ℕ). bit y x) e ∙ bit-zero x)

-- ---- the first port from one on, which is the lowest of the byte turned by as many places
module _ (p : Ports) (start : ℕ) (some-bit : 0 < p.bits) (l : p.bits < 2 ^ 8) where
  abbrev turned : ℕ
  turned = rotate_right w8 p.bits (start % 8)

  turned-bit : (m : ℕ) → m < 8 → bit turned m ≡ inside p ((start % 8 + m) % 8)
  turned-bit m h =
      bit-or (p.bits / 2 ^ (start % 8 % 8)) _ m
      ∙ ap₂ ◌||◌ (bit-shr p.bits (start % 8 % 8) m) (bit-shl p.bits ((8 - start % 8 % 8) % 8) 8 m h)
      ∙ go (start % 8 % 8) (omega arith) (cases_lt (start % 8 % 8 + m) 8) (cases_eq (start % 8 % 8) 0)
      ∙ sym (inside-bit p ((start % 8 + m) % 8) (omega arith))
    where
      same : (b : Bool) → (b || b) ≡ b
      same true = refl
      same false = refl

      go : (s : ℕ) → s ≡ start % 8 → (s + m < 8) ⊎ (8 ≤ s + m) → (s ≡ 0) ⊎ (s ≡ 0 → ⊥)
          → (bit p.bits (s + m) || (leb ((8 - s) % 8) m && bit p.bits (m - (8 - s) % 8))) ≡ bit p.bits ((start % 8 + m) % 8)
      go s e (inl a) (inl z) =
          let first : s + m ≡ (start % 8 + m) % 8 = omega arith in
          let again : m - (8 - s) % 8 ≡ (start % 8 + m) % 8 = omega arith in
          ap₂ ◌||◌ (ap (bit p.bits) first) (ap₂ ◌&&◌ (le-leb ((8 - s) % 8) m (omega arith)) (ap (bit p.bits) again)) ∙ same (bit p.bits ((start % 8 + m) % 8))
      go s e (inl a) (inr z) =
          let first : s + m ≡ (start % 8 + m) % 8 = omega arith in
          ap₂ ◌||◌ (ap (bit p.bits) first) (and_left (leb ((8 - s) % 8) m) _ (lt-leb ((8 - s) % 8) m (omega arith))) ∙ or_comm (bit p.bits ((start % 8 + m) % 8)) false
      go s e (inr a) _ =
          let again : m - (8 - s) % 8 ≡ (start % 8 + m) % 8 = omega arith in
          ap₂ ◌||◌ (bit_high p.bits 8 (s + m) l a) (ap₂ ◌&&◌ (le-leb ((8 - s) % 8) m (omega arith)) (ap (bit p.bits) again))

  seen : (x : ℕ) → inside p x ≡ true → bit turned (ahead start x) ≡ true
  seen x h =
      let b : x < 8 = inside-below p x h in
      let e : (start % 8 + ahead start x) % 8 ≡ x = omega arith in
      turned-bit (ahead start x) (omega arith) ∙ ap (inside p) e ∙ h

  turned-some : 0 < turned
  turned-some = go turned refl
    where
      go : (t : ℕ) → turned ≡ t → 0 < turned
      go zero e =
          let low = lowest_set w8 p.bits some-bit l in
          let x : ℕ = trailing_zeros w8 p.bits in
          absurd (both_ways _ (ap (λ (y : ℕ). bit y (ahead start x)) e ∙ bit-zero (ahead start x)) (seen x (inside-bit p x low.0 ∙ low.1)))
      go (suc t) e = omega arith

  turned-lt : turned < 2 ^ 8
  turned-lt = or_lt 8 (p.bits / 2 ^ (start % 8 % 8)) _ (omega (arith, shr_le p.bits (start % 8 % 8))) (omega arith)

  pub next-lt : trailing_zeros w8 turned < 8
  next-lt = (lowest_set w8 turned turned-some turned-lt).0

  pub next-inside : inside p ((start % 8 + trailing_zeros w8 turned) % 8) ≡ true
  next-inside = sym (turned-bit (trailing_zeros w8 turned) next-lt) ∙ (lowest_set w8 turned turned-some turned-lt).1

  pub next-least : (x : ℕ) → inside p x ≡ true → ahead start ((start % 8 + trailing_zeros w8 turned) % 8) ≤ ahead start x
  next-least x h = go (cases_lt (ahead start x) (trailing_zeros w8 turned))
    where
      z : ahead start ((start % 8 + trailing_zeros w8 turned) % 8) ≡ trailing_zeros w8 turned
      z = let a : trailing_zeros w8 turned < 8 = next-lt in omega arith

      go : (ahead start x < trailing_zeros w8 turned) ⊎ (trailing_zeros w8 turned ≤ ahead start x)
          → ahead start ((start % 8 + trailing_zeros w8 turned) % 8) ≤ ahead start x
      go (inr m) = omega (arith, z)
      go (inl m) = absurd (both_ways _ ((lowest_set w8 turned turned-some turned-lt).2 (ahead start x) m) (seen x h))

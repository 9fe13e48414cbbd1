-- The words in which a table's rows and columns are spread: each step joins the places that stand `d` apart.
use Rattle.std.proofs.Common.{◌≡◌, ℕ, ◌+◌, ◌-◌, ◌*◌, ◌/◌, ◌%◌, ◌^◌, ◌<◌, ◌≤◌, Bool, true, false, ◌&&◌, ◌||◌, eqb, leb, ◌⊎◌, sym, refl, ap, ◌∙◌, subst, ap₂, inl, inr, arith}
use lib.Bits.{bit_and, bit_or, or_lt}
use Rattle.std.proofs.lemmas.Bool.{and_from, and_parts, cases_eq, eq-eqb, eqb-true, leb-true, le-leb, or_cases, or_left, or_right}
use Rattle.pairs.specs.declared.table.Table.{Table}
use Rattle.pairs.specs.Words.{bit, paired_bit}
use Rattle.pairs.specs.Tables.{holds, joint, table_of}
use Rattle.pairs.proofs.Bits.{bit-or, bit-and, bit-shr, bit-shl}
use Rattle.pairs.proofs.Lists.{each, each_at}
use Rattle.pairs.proofs.Somes.{same, joint-input, joint-output, joint-by}
use Rattle.pairs.proofs.Tables.{made, table_of-is, bit-held, held_below, holds-bit}

-- what one step of the code makes
pub paired_is : (x d low k : ℕ) → d < 64 → k < 64
    → bit (bit_or (bit_or x (bit_and (x / 2 ^ d) low)) ((bit_and x low * 2 ^ d) % 2 ^ 64)) k ≡ paired_bit x d low k
unfolding paired_bit
paired_is x d low k p h =
    bit-or (bit_or x (bit_and (x / 2 ^ d) low)) ((bit_and x low * 2 ^ d) % 2 ^ 64) k
    ∙ ap₂ ◌||◌
    (bit-or x (bit_and (x / 2 ^ d) low) k ∙ ap (λ (b : Bool). bit x k || b) (bit-and (x / 2 ^ d) low k ∙ ap (λ (b : Bool). b && bit low k) (bit-shr x d k) ∙ and_comm (bit x (d + k)) (bit low k)))
    (bit-shl (bit_and x low) d 64 k h ∙ ap (λ (b : Bool). leb d k && b) (bit-and x low (k - d) ∙ and_comm (bit x (k - d)) (bit low (k - d))))
    ∙ or_assoc (bit x k) (bit low k && bit x (d + k)) (leb d k && (bit low (k - d) && bit x (k - d)))
  where
    and_comm : (a b : Bool) → (a && b) ≡ (b && a)
    and_comm true true = refl
    and_comm true false = refl
    and_comm false true = refl
    and_comm false false = refl

    or_assoc : (a b c : Bool) → ((a || b) || c) ≡ (a || (b || c))
    or_assoc true b c = refl
    or_assoc false b c = refl

-- two places that are the same but for multiples of m, in one block of g
abbrev Same : ℕ → ℕ → ℕ → ℕ → Type 0
Same m g j k = (j % m ≡ k % m) × (j / g ≡ k / g)

-- the lower places of each pair that a step joins
abbrev Marked : ℕ → ℕ → Type 0
Marked d low = (k : ℕ) → k < 64 → bit low k ≡ eqb (k / d % 2) 0

marked_by : (d low : ℕ) → each 64 (bit low) (λ k. eqb (k / d % 2) 0) ≡ true → Marked d low
marked_by d low = each_at 64 (bit low) (λ k. eqb (k / d % 2) 0)

-- y has a place set where x has one that is the same
record Joined (m g x y : ℕ) : Type 0 where
  to : (j : ℕ) → j < 64 → bit y j ≡ true → (k : ℕ) × (k < 64) × Same m g j k × (bit x k ≡ true)
  from : (j k : ℕ) → j < 64 → k < 64 → Same m g j k → bit x k ≡ true → bit y j ≡ true

-- what numbers have to do with one another for a step at the distance d
record Steps (d g : ℕ) : Type 0 where
  finer : (j k : ℕ) → Same (2 * d) g j k → Same d g j k
  up : (j k : ℕ) → j < 64 → k < 64 → j / d % 2 ≡ 0 → Same (2 * d) g (d + j) k → Same d g j k
  up_lt : (j : ℕ) → j < 64 → j / d % 2 ≡ 0 → d + j < 64
  down : (j k : ℕ) → j < 64 → k < 64 → d ≤ j → (j - d) / d % 2 ≡ 0 → Same (2 * d) g (j - d) k → Same d g j k
  even : (j k : ℕ) → j < 64 → k < 64 → Same d g j k → j / d % 2 ≡ 0 → (k / d % 2 ≡ 0 → ⊥) → Same (2 * d) g (d + j) k
  odd-le : (j : ℕ) → (j / d % 2 ≡ 0 → ⊥) → d ≤ j
  odd : (i k : ℕ) → d + i < 64 → k < 64 → Same d g (d + i) k → ((d + i) / d % 2 ≡ 0 → ⊥) → k / d % 2 ≡ 0 → (i / d % 2 ≡ 0) × Same (2 * d) g i k
  both-even : (j k : ℕ) → Same d g j k → j / d % 2 ≡ 0 → k / d % 2 ≡ 0 → Same (2 * d) g j k
  both-odd : (j k : ℕ) → Same d g j k → (j / d % 2 ≡ 0 → ⊥) → (k / d % 2 ≡ 0 → ⊥) → Same (2 * d) g j k

module _ {d g : ℕ} (low x w y : ℕ) (steps : Steps d g) (marks : Marked d low)
    (step_is : (k : ℕ) → k < 64 → bit y k ≡ paired_bit w d low k) (s : Joined (2 * d) g x w) where
  marked : (k : ℕ) → k < 64 → bit low k ≡ true → k / d % 2 ≡ 0
  marked k h e = eqb-true (k / d % 2) 0 (sym (marks k h) ∙ e)

  mark : (k : ℕ) → k < 64 → k / d % 2 ≡ 0 → bit low k ≡ true
  mark k h e = marks k h ∙ eq-eqb (k / d % 2) 0 e

  ends : (j : ℕ) → j < 64 → bit y j ≡ true → (k : ℕ) × (k < 64) × Same d g j k × (bit x k ≡ true)
  unfolding paired_bit
  ends j h e = go (or_cases (bit w j) _ (sym (step_is j h) ∙ e))
    where
      other : ((bit low j && bit w (d + j)) ≡ true) ⊎ ((leb d j && (bit low (j - d) && bit w (j - d))) ≡ true)
          → (k : ℕ) × (k < 64) × Same d g j k × (bit x k ≡ true)
      other (inl a) =
          let b = and_parts (bit low j) (bit w (d + j)) a in
          let m = marked j h b.0 in
          let r = s.to (d + j) (steps.up_lt j h m) b.1 in
          (r.0, r.1, steps.up j r.0 h r.1 m r.2, r.3)
      other (inr a) =
          let b = and_parts (leb d j) _ a in
          let c = and_parts (bit low (j - d)) (bit w (j - d)) b.1 in
          let m = marked (j - d) (omega arith) c.0 in
          let r = s.to (j - d) (omega arith) c.1 in
          (r.0, r.1, steps.down j r.0 h r.1 (leb-true d j b.0) m r.2, r.3)

      go : (bit w j ≡ true) ⊎ (((bit low j && bit w (d + j)) || (leb d j && (bit low (j - d) && bit w (j - d)))) ≡ true)
          → (k : ℕ) × (k < 64) × Same d g j k × (bit x k ≡ true)
      go (inl a) = let r = s.to j h a in (r.0, r.1, steps.finer j r.0 r.2, r.3)
      go (inr a) = other (or_cases (bit low j && bit w (d + j)) _ a)

  starts : (j k : ℕ) → j < 64 → k < 64 → Same d g j k → bit x k ≡ true → bit y j ≡ true
  unfolding paired_bit
  starts j k h l e b = step_is j h ∙ go (cases_eq (j / d % 2) 0) (cases_eq (k / d % 2) 0)
    where
      here : Same (2 * d) g j k → paired_bit w d low j ≡ true
      here q = or_left (bit w j) _ (s.from j k h l q b)

      go : (j / d % 2 ≡ 0) ⊎ (j / d % 2 ≡ 0 → ⊥) → (k / d % 2 ≡ 0) ⊎ (k / d % 2 ≡ 0 → ⊥) → paired_bit w d low j ≡ true
      go (inl p) (inl q) = here (steps.both-even j k e p q)
      go (inr p) (inr q) = here (steps.both-odd j k e p q)
      go (inl p) (inr q) =
          or_right (bit w j) _
          (or_left _ _ (and_from (bit low j) (bit w (d + j)) (mark j h p) (s.from (d + j) k (steps.up_lt j h p) l (steps.even j k h l e p q) b)))
      go (inr p) (inl q) =
          let a = steps.odd-le j p in
          let f : d + (j - d) ≡ j = omega arith in
          let r = steps.odd (j - d) k (omega arith) l (subst (λ (z : ℕ). Same d g z k) (sym f) e) (λ z. p (ap (λ (y : ℕ). y / d % 2) (sym f) ∙ z)) q in
          or_right (bit w j) _
          (or_right (bit low j && bit w (d + j)) _
          (and_from (leb d j) _ (le-leb d j a)
          (and_from (bit low (j - d)) (bit w (j - d)) (mark (j - d) (omega arith) r.0) (s.from (j - d) k (omega arith) l r.1 b))))

  next : Joined d g x y
  next = record { to = ends; from = starts }

-- the steps of a row, and of a column
by_4 : Steps 4 8
by_4 =
    record {
      finer = λ j k s. (omega arith, omega arith);
      up = λ j k h l m s. (omega arith, omega arith);
      up_lt = λ j h m. omega arith;
      down = λ j k h l d m s. (omega arith, omega arith);
      even = λ j k h l s m n. (omega arith, omega arith);
      odd-le = λ j m. omega arith;
      odd = λ i k h l s m n. (omega arith, (omega arith, omega arith));
      both-even = λ j k s m n. (omega arith, omega arith);
      both-odd = λ j k s m n. (omega arith, omega arith);
    }

by_2 : Steps 2 8
by_2 =
    record {
      finer = λ j k s. (omega arith, omega arith);
      up = λ j k h l m s. (omega arith, omega arith);
      up_lt = λ j h m. omega arith;
      down = λ j k h l d m s. (omega arith, omega arith);
      even = λ j k h l s m n. (omega arith, omega arith);
      odd-le = λ j m. omega arith;
      odd = λ i k h l s m n. (omega arith, (omega arith, omega arith));
      both-even = λ j k s m n. (omega arith, omega arith);
      both-odd = λ j k s m n. (omega arith, omega arith);
    }

by-1 : Steps 1 8
by-1 =
    record {
      finer = λ j k s. (omega arith, omega arith);
      up = λ j k h l m s. (omega arith, omega arith);
      up_lt = λ j h m. omega arith;
      down = λ j k h l d m s. (omega arith, omega arith);
      even = λ j k h l s m n. (omega arith, omega arith);
      odd-le = λ j m. omega arith;
      odd = λ i k h l s m n. (omega arith, (omega arith, omega arith));
      both-even = λ j k s m n. (omega arith, omega arith);
      both-odd = λ j k s m n. (omega arith, omega arith);
    }

by-32 : Steps 32 64
by-32 =
    record {
      finer = λ j k s. (omega arith, omega arith);
      up = λ j k h l m s. (omega arith, omega arith);
      up_lt = λ j h m. omega arith;
      down = λ j k h l d m s. (omega arith, omega arith);
      even = λ j k h l s m n. (omega arith, omega arith);
      odd-le = λ j m. omega arith;
      odd = λ i k h l s m n. (omega arith, (omega arith, omega arith));
      both-even = λ j k s m n. (omega arith, omega arith);
      both-odd = λ j k s m n. (omega arith, omega arith);
    }

by-16 : Steps 16 64
by-16 =
    record {
      finer = λ j k s. (omega arith, omega arith);
      up = λ j k h l m s. (omega arith, omega arith);
      up_lt = λ j h m. omega arith;
      down = λ j k h l d m s. (omega arith, omega arith);
      even = λ j k h l s m n. (omega arith, omega arith);
      odd-le = λ j m. omega arith;
      odd = λ i k h l s m n. (omega arith, (omega arith, omega arith));
      both-even = λ j k s m n. (omega arith, omega arith);
      both-odd = λ j k s m n. (omega arith, omega arith);
    }

by_8 : Steps 8 64
by_8 =
    record {
      finer = λ j k s. (omega arith, omega arith);
      up = λ j k h l m s. (omega arith, omega arith);
      up_lt = λ j h m. omega arith;
      down = λ j k h l d m s. (omega arith, omega arith);
      even = λ j k h l s m n. (omega arith, omega arith);
      odd-le = λ j m. omega arith;
      odd = λ i k h l s m n. (omega arith, (omega arith, omega arith));
      both-even = λ j k s m n. (omega arith, omega arith);
      both-odd = λ j k s m n. (omega arith, omega arith);
    }

module _ (t : Table) (l : t.bits < 2 ^ 64) (r4 r2 r1 c32 c16 c8 : ℕ) (p : r1 < 2 ^ 64) (q : c8 < 2 ^ 64)
    (is-4 : (k : ℕ) → k < 64 → bit r4 k ≡ paired_bit t.bits 4 0x0f0f0f0f0f0f0f0f k)
    (is-2 : (k : ℕ) → k < 64 → bit r2 k ≡ paired_bit r4 2 0x3333333333333333 k)
    (is-1 : (k : ℕ) → k < 64 → bit r1 k ≡ paired_bit r2 1 0x5555555555555555 k)
    (is_32 : (k : ℕ) → k < 64 → bit c32 k ≡ paired_bit t.bits 32 0x00000000ffffffff k)
    (is-16 : (k : ℕ) → k < 64 → bit c16 k ≡ paired_bit c32 16 0x0000ffff0000ffff k)
    (is-8 : (k : ℕ) → k < 64 → bit c8 k ≡ paired_bit c16 8 0x00ff00ff00ff00ff k) where
  one : (m g : ℕ) → ((j k : ℕ) → j < 64 → k < 64 → Same m g j k → j ≡ k) → Joined m g t.bits t.bits
  one m g alike =
      record {
        to = λ j h e. (j, h, (refl, refl), e);
        from = λ j k h i s e. ap (bit t.bits) (alike j k h i s) ∙ e;
      }

  rows : Joined 1 8 t.bits r1
  unfolding bit
  rows =
      next _ _ r2 r1 by-1 (marked_by 1 0x5555555555555555 refl) is-1
      (next _ _ r4 r2 by_2 (marked_by 2 0x3333333333333333 refl) is-2 (next _ _ t.bits r4 by_4 (marked_by 4 0x0f0f0f0f0f0f0f0f refl) is-4 (one 8 8 (λ j k h i s. omega arith))))

  columns : Joined 8 64 t.bits c8
  unfolding bit
  columns =
      next _ _ c16 c8 by_8 (marked_by 8 0x00ff00ff00ff00ff refl) is-8
      (next _ _ c32 c16 by-16 (marked_by 16 0x0000ffff0000ffff refl) is-16 (next _ _ t.bits c32 by-32 (marked_by 32 0x00000000ffffffff refl) is_32 (one 64 64 (λ j k h i s. omega arith))))

  spread : (k : ℕ) → k < 64 → bit (bit_or r1 c8) k ≡ joint t (k / 8) (k % 8)
  spread k h = bit-or r1 c8 k ∙ same (bit r1 k || bit c8 k) (joint t (k / 8) (k % 8)) (λ e. ends (or_cases (bit r1 k) (bit c8 k) e)) (λ e. starts (joint-by t (k / 8) (k % 8) e))
    where
      ends : (bit r1 k ≡ true) ⊎ (bit c8 k ≡ true) → joint t (k / 8) (k % 8) ≡ true
      ends (inl e) =
          let a = rows.to k h e in
          joint-input t (k / 8) (k % 8) (a.0 % 8) (ap (λ (i : ℕ). holds t i (a.0 % 8)) a.2.1 ∙ sym (bit-held t a.0 a.1) ∙ a.3)
      ends (inr e) =
          let a = columns.to k h e in
          joint-output t (k / 8) (k % 8) (a.0 / 8) (ap (λ (o : ℕ). holds t (a.0 / 8) o) a.2.0 ∙ sym (bit-held t a.0 a.1) ∙ a.3)

      starts : ((u : ℕ) × (holds t (k / 8) u ≡ true)) ⊎ ((j : ℕ) × (holds t j (k % 8) ≡ true)) → (bit r1 k || bit c8 k) ≡ true
      starts (inl a) =
          let b = held_below t (k / 8) a.0 a.1 in
          or_left (bit r1 k) _ (rows.from k (k / 8 * 8 + a.0) h (omega arith) (omega arith, omega arith) (sym (holds-bit t (k / 8) a.0 b.0 b.1) ∙ a.1))
      starts (inr a) =
          let b = held_below t a.0 (k % 8) a.1 in
          or_right (bit r1 k) _ (columns.from k (a.0 * 8 + k % 8) h (omega arith) (omega arith, omega arith) (sym (holds-bit t a.0 (k % 8) b.0 b.1) ∙ a.1))

  pub crossing_is : made (bit_or r1 c8) ≡ table_of (joint t)
  crossing_is = table_of-is (joint t) (bit_or r1 c8) (or_lt 64 r1 c8 p q) spread

-- What is granted in a reserved slot has what is asked of a decision, and the code finds it.
use Rattle.std.specs.Prelude.{◌≡◌, ℕ, ◌+◌, ◌%◌, ◌<◌, ◌≤◌, Bool, true, false, not, ◌&&◌, ◌||◌, ◌⊎◌, ◌≢◌, nat_lt}
use Rattle.std.proofs.Common.{inl, inr, sym, ◌∙◌, arith}
use Rattle.std.proofs.Math.Path.{refl, ap, ap₂}
use Rattle.std.proofs.Math.Nat.{zero-mod}
use Rattle.std.proofs.lemmas.Bool.{both_ways, cases_Bool, and_parts, and_from, or_cases, or_left, or_right, or_parts, not-true, not_from_false}
use Rattle.pairs.specs.declared.table.Table.{Table}
use Rattle.pairs.specs.Tables.{holds, joint, table_of, within}
use Rattle.pairs.proofs.Somes.{joint-by, joint-input, joint-output}
use Rattle.pairs.proofs.Tables.{held, held_below, table_of-ext}
use Rattle.pairs.proofs.Within.{within-parts}
use Rattle.grants.specs.Diagonal.{diagonal_granted, diagonal_wait}
use Rattle.grants.proofs.Decided.{Decided}
use Rattle.grants.proofs.Diagonals as diagonals
use Rattle.arbiters.specs.Once.{OneInput, OneOutput}
use Rattle.arbiters.specs.Slots.{free_requests, kept_pairs, reserved_grants}

module _ (n : ℕ) (p r : Table) (two : 2 ≤ n) (small : n ≤ 8) (one-output : OneOutput p) (one_input : OneInput p) where
  kept_by : (i o : ℕ) → holds (kept_pairs n p r) i o ≡ true → (i < n) × (o < n) × (holds r i o ≡ true) × (holds p i o ≡ true)
  unfolding kept_pairs
  kept_by i o h =
      let l = held_below (kept_pairs n p r) i o h in
      let a = within-parts n (λ i o. holds r i o && holds p i o) i o (sym (held (kept_pairs n p r) _ refl i o l.0 l.1) ∙ h) in
      let c = and_parts (holds r i o) (holds p i o) a.2 in
      (a.0, a.1, c.0, c.1)

  free-by : (i o : ℕ) → holds (free_requests n p r) i o ≡ true → (holds r i o ≡ true) × (joint (kept_pairs n p r) i o ≡ false)
  unfolding free_requests
  free-by i o h =
      let l = held_below (free_requests n p r) i o h in
      let a = and_parts (holds r i o) (not (joint (kept_pairs n p r) i o)) (sym (held (free_requests n p r) _ refl i o l.0 l.1) ∙ h) in
      (a.0, not-true _ a.1)

  is_free : (i o : ℕ) → i < 8 → o < 8 → holds r i o ≡ true → joint (kept_pairs n p r) i o ≡ false → holds (free_requests n p r) i o ≡ true
  unfolding free_requests
  is_free i o l m h e = held (free_requests n p r) _ refl i o l m ∙ and_from (holds r i o) _ h (not_from_false _ e)

  abbrev fill : ℕ → ℕ → Bool
  fill = diagonal_granted (holds (free_requests n p r)) n 0

  abbrev chosen : ℕ → ℕ → Bool
  chosen i o = holds (kept_pairs n p r) i o || fill i o

  filling : Decided n (holds (free_requests n p r)) fill (diagonal_wait n 0) (diagonal_wait n ((0 + 1) % n))
  filling = diagonals.decided (holds (free_requests n p r)) n 0 (omega arith)

  -- a pair that is reserved_grants in has both its ends free
  other-input : (i o u : ℕ) → i < n → o < n → u < n → holds (kept_pairs n p r) i o ≡ true → fill i u ≢ true
  other-input i o u a b c k f =
      both_ways _ (free-by i u (filling.asked i u a c f)).1 (joint-input (kept_pairs n p r) i u o k)

  other-output : (i j o : ℕ) → i < n → j < n → o < n → holds (kept_pairs n p r) i o ≡ true → fill j o ≢ true
  other-output i j o a b c k f =
      both_ways _ (free-by j o (filling.asked j o b c f)).1 (joint-output (kept_pairs n p r) j o i k)

  asked : (i o : ℕ) → i < n → o < n → chosen i o ≡ true → holds r i o ≡ true
  asked i o a b h = go (or_cases (holds (kept_pairs n p r) i o) (fill i o) h)
    where
      go : (holds (kept_pairs n p r) i o ≡ true) ⊎ (fill i o ≡ true) → holds r i o ≡ true
      go (inl k) = (kept_by i o k).2
      go (inr f) = (free-by i o (filling.asked i o a b f)).0

  input-once : (i o u : ℕ) → i < n → o < n → u < n → chosen i o ≡ true → chosen i u ≡ true → o ≡ u
  input-once i o u a b c g h = go (or_cases (holds (kept_pairs n p r) i o) (fill i o) g) (or_cases (holds (kept_pairs n p r) i u) (fill i u) h)
    where
      go : (holds (kept_pairs n p r) i o ≡ true) ⊎ (fill i o ≡ true) → (holds (kept_pairs n p r) i u ≡ true) ⊎ (fill i u ≡ true) → o ≡ u
      go (inl k) (inl m) = one-output (i, o, u) ((kept_by i o k).3, (kept_by i u m).3)
      go (inl k) (inr f) = absurd (other-input i o u a b c k f)
      go (inr f) (inl k) = absurd (other-input i u o a c b k f)
      go (inr f) (inr e) = filling.input-once i o u a b c f e

  output-once : (i j o : ℕ) → i < n → j < n → o < n → chosen i o ≡ true → chosen j o ≡ true → i ≡ j
  output-once i j o a b c g h = go (or_cases (holds (kept_pairs n p r) i o) (fill i o) g) (or_cases (holds (kept_pairs n p r) j o) (fill j o) h)
    where
      go : (holds (kept_pairs n p r) i o ≡ true) ⊎ (fill i o ≡ true) → (holds (kept_pairs n p r) j o ≡ true) ⊎ (fill j o ≡ true) → i ≡ j
      go (inl k) (inl m) = one_input (i, j, o) ((kept_by i o k).3, (kept_by j o m).3)
      go (inl k) (inr f) = absurd (other-output i j o a b c k f)
      go (inr f) (inl k) = absurd (other-output j i o b a c k f)
      go (inr f) (inr e) = filling.output-once i j o a b c f e

  -- a requested pair that is left out: its end is in a kept pair, or it is free and the fill passes over it
  blocked : (i o : ℕ) → i < n → o < n → holds r i o ≡ true → chosen i o ≡ false
      → ((j : ℕ) × (j < n) × (chosen j o ≡ true)) ⊎ ((u : ℕ) × (u < n) × (chosen i u ≡ true))
  blocked i o a b h e = go (cases_Bool (joint (kept_pairs n p r) i o))
    where
      by-kept : ((u : ℕ) × (holds (kept_pairs n p r) i u ≡ true)) ⊎ ((j : ℕ) × (holds (kept_pairs n p r) j o ≡ true))
          → ((j : ℕ) × (j < n) × (chosen j o ≡ true)) ⊎ ((u : ℕ) × (u < n) × (chosen i u ≡ true))
      by-kept (inl k) = inr (k.0, (kept_by i k.0 k.1).1, or_left (holds (kept_pairs n p r) i k.0) _ k.1)
      by-kept (inr k) = inl (k.0, (kept_by k.0 o k.1).0, or_left (holds (kept_pairs n p r) k.0 o) _ k.1)

      by-fill : ((j : ℕ) × (j < n) × (fill j o ≡ true)) ⊎ ((u : ℕ) × (u < n) × (fill i u ≡ true))
          → ((j : ℕ) × (j < n) × (chosen j o ≡ true)) ⊎ ((u : ℕ) × (u < n) × (chosen i u ≡ true))
      by-fill (inl f) = inl (f.0, f.1, or_right (holds (kept_pairs n p r) f.0 o) _ f.2)
      by-fill (inr f) = inr (f.0, f.1, or_right (holds (kept_pairs n p r) i f.0) _ f.2)

      go : (joint (kept_pairs n p r) i o ≡ true) ⊎ (joint (kept_pairs n p r) i o ≡ false)
          → ((j : ℕ) × (j < n) × (chosen j o ≡ true)) ⊎ ((u : ℕ) × (u < n) × (chosen i u ≡ true))
      go (inl t) = by-kept (joint-by (kept_pairs n p r) i o t)
      go (inr t) = by-fill (filling.blocked i o a b (is_free i o (omega arith) (omega arith) h t) (or_parts (holds (kept_pairs n p r) i o) (fill i o) e).1)

  pub slot-decided : Decided n (holds r) chosen (λ _ _. 1) (λ _ _. 0)
  slot-decided =
      record {
        asked = asked;
        input-once = input-once;
        output-once = output-once;
        blocked = blocked;
        nearer = λ i o _ _ _ _. omega arith;
      }

pub slot-grants : (n : ℕ) (p r : Table) → reserved_grants n p r ≡ table_of (within n (λ i o. holds (kept_pairs n p r) i o || diagonal_granted (holds (free_requests n p r)) n 0 i o))
unfolding reserved_grants
slot-grants n p r = refl

and_comm : (a b : Bool) → (a && b) ≡ (b && a)
and_comm true true = refl
and_comm true false = refl
and_comm false true = refl
and_comm false false = refl

absorb : (c x g k : Bool) → k ≡ (c && x) → (k || (c && g)) ≡ (c && (k || g))
absorb true x g k e = refl
absorb false x g true e = e
absorb false x g false e = refl

-- what the code makes
module _ (n : ℕ) (p r a sq k ar m s g : Table)
    (a-is : a ≡ table_of (λ i o. holds r i o && holds p i o)) (sq-is : sq ≡ table_of (λ i o. nat_lt i n && nat_lt o n)) (k-is : k ≡ table_of (λ i o. holds a i o && holds sq i o))
    (ar-is : ar ≡ table_of (joint k)) (m-is : m ≡ table_of (λ i o. holds r i o && not (holds ar i o))) (s-is : s ≡ table_of (within n (diagonal_granted (holds m) n (0 % n))))
    (g-is : g ≡ table_of (λ i o. holds k i o || holds s i o)) where
  kept-is : k ≡ kept_pairs n p r
  unfolding kept_pairs
  kept-is =
      k-is ∙ table_of-ext (λ i o. holds a i o && holds sq i o) (within n (λ i o. holds r i o && holds p i o))
      (λ x y l q. ap₂ ◌&&◌ (held a _ a-is x y l q) (held sq (λ i o. nat_lt i n && nat_lt o n) sq-is x y l q) ∙ and_comm (holds r x y && holds p x y) (nat_lt x n && nat_lt y n))

  free-is : m ≡ free_requests n p r
  unfolding free_requests
  free-is =
      m-is ∙ table_of-ext (λ i o. holds r i o && not (holds ar i o)) (λ i o. holds r i o && not (joint (kept_pairs n p r) i o))
      (λ x y l q. ap (λ (b : Bool). holds r x y && not b) (held ar (joint k) ar-is x y l q ∙ ap (λ (t : Table). joint t x y) kept-is))

  kept-within : (x y : ℕ) → x < 8 → y < 8 → holds k x y ≡ ((nat_lt x n && nat_lt y n) && (holds r x y && holds p x y))
  unfolding kept_pairs
  kept-within x y l q = held k (within n (λ i o. holds r i o && holds p i o)) kept-is x y l q

  pub slot-grants-is : g ≡ reserved_grants n p r
  unfolding reserved_grants
  slot-grants-is =
      g-is ∙ table_of-ext (λ i o. holds k i o || holds s i o) (within n (λ i o. holds (kept_pairs n p r) i o || diagonal_granted (holds (free_requests n p r)) n 0 i o))
      (λ x y l q. ap (λ (b : Bool). holds k x y || b) (held s (within n (diagonal_granted (holds m) n 0)) (s-is ∙ ap (λ (d : ℕ). table_of (within n (diagonal_granted (holds m) n d))) (zero-mod n)) x y l q)
      ∙ absorb (nat_lt x n && nat_lt y n) (holds r x y && holds p x y) (diagonal_granted (holds m) n 0 x y) (holds k x y) (kept-within x y l q)
      ∙ ap₂ (λ (t u : Table). (nat_lt x n && nat_lt y n) && (holds t x y || diagonal_granted (holds u) n 0 x y)) kept-is free-is)

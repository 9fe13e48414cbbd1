-- The diagonal arbiter grants what is asked of a decision.
use Rattle.std.proofs.Common.{◌≡◌, ℕ, zero, suc, ◌+◌, ◌%◌, ◌<◌, ◌≤◌, Bool, true, false, not, ◌&&◌, ◌⊎◌, sym, refl, ap, ◌∙◌, inl, inr, arith}
use native.Mathlib.Decide.{le_ind}
use Rattle.std.proofs.lemmas.Bool.{and_left, and_right, and_cases, and_from, not_from_true, not-false, both_ways}
use Rattle.grants.specs.Cell.{grant}
use Rattle.grants.specs.Diagonal.{partner, diagonal_wait, north_of, west_of, diagonal_granted}
use Rattle.grants.proofs.Decided.{Decided}
use Rattle.grants.proofs.Waves as waves
use Rattle.grants.proofs.Waves.{Wave}
use Rattle.grants.proofs.Modulo.{partner-lt, wait-lt, partner-wait-o, partner-wait-i, wait-partner-o, wait-partner-i, wait-next}

module _ (R : ℕ → ℕ → Bool) (n d : ℕ) where
  pub north-stays : (j k o : ℕ) → north_of R n d j o ≡ false → j ≤ k → north_of R n d k o ≡ false
  unfolding north_of
  north-stays j k o e h = le_ind (λ m. north_of R n d m o ≡ false) e (λ m _ f. and_left (north_of R n d m o) _ f) k h

  pub west-stays : (j k i : ℕ) → west_of R n d j i ≡ false → j ≤ k → west_of R n d k i ≡ false
  unfolding west_of
  west-stays j k i e h = le_ind (λ m. west_of R n d m i ≡ false) e (λ m _ f. and_left (west_of R n d m i) _ f) k h

  -- where a line is low, a grant before made it so
  north-low : (k o : ℕ) → north_of R n d k o ≡ false
      → (j : ℕ) × (j < k) × (grant (R (partner n d j o) o) (north_of R n d j o) (west_of R n d j (partner n d j o)) ≡ true)
  unfolding north_of
  north-low zero o e = absurd (both_ways true e refl)
  north-low (suc k) o e =
      go (and_cases (north_of R n d k o) _ e) (north-low k o)
    where
      go : (north_of R n d k o ≡ false) ⊎ (not (grant (R (partner n d k o) o) (north_of R n d k o) (west_of R n d k (partner n d k o))) ≡ false)
          → (north_of R n d k o ≡ false
          → (j : ℕ) × (j < k) × (grant (R (partner n d j o) o) (north_of R n d j o) (west_of R n d j (partner n d j o)) ≡ true))
          → (j : ℕ) × (j < suc k) × (grant (R (partner n d j o) o) (north_of R n d j o) (west_of R n d j (partner n d j o)) ≡ true)
      go (inl f) ih = let r = ih f in (r.0, omega arith, r.2)
      go (inr f) ih = (k, omega arith, not-false _ f)

  west-low : (k i : ℕ) → west_of R n d k i ≡ false
      → (j : ℕ) × (j < k) × (grant (R i (partner n d j i)) (north_of R n d j (partner n d j i)) (west_of R n d j i) ≡ true)
  unfolding west_of
  west-low zero i e = absurd (both_ways true e refl)
  west-low (suc k) i e =
      go (and_cases (west_of R n d k i) _ e) (west-low k i)
    where
      go : (west_of R n d k i ≡ false) ⊎ (not (grant (R i (partner n d k i)) (north_of R n d k (partner n d k i)) (west_of R n d k i)) ≡ false)
          → (west_of R n d k i ≡ false
          → (j : ℕ) × (j < k) × (grant (R i (partner n d j i)) (north_of R n d j (partner n d j i)) (west_of R n d j i) ≡ true))
          → (j : ℕ) × (j < suc k) × (grant (R i (partner n d j i)) (north_of R n d j (partner n d j i)) (west_of R n d j i) ≡ true)
      go (inl f) ih = let r = ih f in (r.0, omega arith, r.2)
      go (inr f) ih = (k, omega arith, not-false _ f)

module _ (R : ℕ → ℕ → Bool) (n d : ℕ) (turn : d < n) where
  -- south and east of a granted pair are low
  south-granted : (i o : ℕ) → i < n → o < n → diagonal_granted R n d i o ≡ true → north_of R n d (suc (diagonal_wait n d i o)) o ≡ false
  unfolding diagonal_granted north_of
  south-granted i o p q h =
      let k : ℕ = diagonal_wait n d i o in
      and_right (north_of R n d k o) _
      (not_from_true _ (ap (λ (a : ℕ). grant (R a o) (north_of R n d k o) (west_of R n d k a)) (partner-wait-o n d turn i o p q) ∙ h))

  east-granted : (i o : ℕ) → i < n → o < n → diagonal_granted R n d i o ≡ true → west_of R n d (suc (diagonal_wait n d i o)) i ≡ false
  unfolding diagonal_granted west_of
  east-granted i o p q h =
      let k : ℕ = diagonal_wait n d i o in
      and_right (west_of R n d k i) _
      (not_from_true _ (ap (λ (a : ℕ). grant (R i a) (north_of R n d k a) (west_of R n d k i)) (partner-wait-i n d turn i o p q) ∙ h))

  -- what the k-th diagonal's cells grant is granted
  at-output : (k o : ℕ) → k < n → o < n
      → grant (R (partner n d k o) o) (north_of R n d k o) (west_of R n d k (partner n d k o)) ≡ true → diagonal_granted R n d (partner n d k o) o ≡ true
  unfolding diagonal_granted
  at-output k o p q h =
      ap (λ (m : ℕ). grant (R (partner n d k o) o) (north_of R n d m o) (west_of R n d m (partner n d k o))) (wait-partner-o n d turn k o p q) ∙ h

  at-input : (k i : ℕ) → k < n → i < n
      → grant (R i (partner n d k i)) (north_of R n d k (partner n d k i)) (west_of R n d k i) ≡ true → diagonal_granted R n d i (partner n d k i) ≡ true
  unfolding diagonal_granted
  at-input k i p q h =
      ap (λ (m : ℕ). grant (R i (partner n d k i)) (north_of R n d m (partner n d k i)) (west_of R n d m i)) (wait-partner-i n d turn k i p q) ∙ h

  wave : Wave n R (diagonal_granted R n d) (λ i o. north_of R n d (diagonal_wait n d i o) o) (λ i o. west_of R n d (diagonal_wait n d i o) i) (diagonal_wait n d) (diagonal_wait n d)
  unfolding diagonal_granted
  wave =
      record {
        cell = λ i o. refl;
        deep_one = λ i j o p q r e. sym (partner-wait-o n d turn i o p r) ∙ ap (λ (k : ℕ). partner n d k o) e ∙ partner-wait-o n d turn j o q r;
        wide-one = λ i o u p q r e. sym (partner-wait-i n d turn i o p q) ∙ ap (λ (k : ℕ). partner n d k i) e ∙ partner-wait-i n d turn i u p r;
        south-of = λ i j o p q r g l. north-stays R n d _ _ o (south-granted i o p r g) l;
        east-of = λ i o u p q r g l. west-stays R n d _ _ i (east-granted i o p q g) l;
        north-low = λ i o p q e.
            let s = north-low R n d (diagonal_wait n d i o) o e in
            let l : s.0 < n = omega (arith, wait-lt n d turn i o) in
            (partner n d s.0 o, partner-lt n d turn s.0 o, at-output s.0 o l q s.2);
        west-low = λ i o p q e.
            let s = west-low R n d (diagonal_wait n d i o) i e in
            let l : s.0 < n = omega (arith, wait-lt n d turn i o) in
            (partner n d s.0 i, partner-lt n d turn s.0 i, at-input s.0 i l p s.2);
      }

  waits : (i o : ℕ) → R i o ≡ true → diagonal_granted R n d i o ≡ false → 0 < diagonal_wait n d i o
  unfolding diagonal_granted north_of west_of
  waits i o r h = go (diagonal_wait n d i o) refl
    where
      go : (k : ℕ) → diagonal_wait n d i o ≡ k → 0 < diagonal_wait n d i o
      go zero e =
          absurd (both_ways (R i o && true) (sym (ap (λ (m : ℕ). grant (R i o) (north_of R n d m o) (west_of R n d m i)) e) ∙ h) (and_from (R i o) true r refl))
      go (suc k) e = omega arith

  -- a requested pair that is not granted waits one less afterwards
  nearer : (i o : ℕ) → i < n → o < n → R i o ≡ true → diagonal_granted R n d i o ≡ false → diagonal_wait n ((d + 1) % n) i o + 1 ≡ diagonal_wait n d i o
  nearer i o p q r h = wait-next n d turn i o p q (waits i o r h)

  pub decided : Decided n R (diagonal_granted R n d) (diagonal_wait n d) (diagonal_wait n ((d + 1) % n))
  decided =
      waves.decided n R (diagonal_granted R n d) _ _ (diagonal_wait n d) (diagonal_wait n d) wave (diagonal_wait n d) (diagonal_wait n ((d + 1) % n))
      (λ i o p q r h. omega (arith, nearer i o p q r h))

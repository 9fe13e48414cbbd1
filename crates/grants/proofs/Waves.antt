-- What any arbiter of cells grants, whatever the order in which its wires pass through the pairs: N and W are what comes to
-- a pair from north and west, `deep` its place among its output's pairs and `wide` among its input's.
use Rattle.std.proofs.Common.{◌≡◌, ℕ, ◌<◌, Bool, true, false, ◌&&◌, ◌⊎◌, sym, ◌∙◌, inl, inr}
use Rattle.std.proofs.lemmas.Bool.{and_parts, and_cases, both_ways, cases_order}
use Rattle.grants.specs.Cell.{grant}
use Rattle.grants.proofs.Decided.{Decided}

pub record Wave (n : ℕ) (R G N W : ℕ → ℕ → Bool) (deep wide : ℕ → ℕ → ℕ) : Type 0 where
  pub cell : (i o : ℕ) → G i o ≡ grant (R i o) (N i o) (W i o)
  pub deep_one : (i j o : ℕ) → i < n → j < n → o < n → deep i o ≡ deep j o → i ≡ j
  pub wide-one : (i o u : ℕ) → i < n → o < n → u < n → wide i o ≡ wide i u → o ≡ u
  pub south-of : (i j o : ℕ) → i < n → j < n → o < n → G i o ≡ true → deep i o < deep j o → N j o ≡ false
  pub east-of : (i o u : ℕ) → i < n → o < n → u < n → G i o ≡ true → wide i o < wide i u → W i u ≡ false
  pub north-low : (i o : ℕ) → i < n → o < n → N i o ≡ false → (j : ℕ) × (j < n) × (G j o ≡ true)
  pub west-low : (i o : ℕ) → i < n → o < n → W i o ≡ false → (u : ℕ) × (u < n) × (G i u ≡ true)

module _ (n : ℕ) (R G N W : ℕ → ℕ → Bool) (deep wide : ℕ → ℕ → ℕ) (wave : Wave n R G N W deep wide) where
  parts : (i o : ℕ) → G i o ≡ true → (R i o ≡ true) × (N i o ≡ true) × (W i o ≡ true)
  parts i o h =
      let a = and_parts (R i o) (N i o && W i o) (sym (wave.cell i o) ∙ h) in
      let b = and_parts (N i o) (W i o) a.1 in
      (a.0, b.0, b.1)

  asked : (i o : ℕ) → G i o ≡ true → R i o ≡ true
  asked i o h = (parts i o h).0

  output-once : (i j o : ℕ) → i < n → j < n → o < n → G i o ≡ true → G j o ≡ true → i ≡ j
  output-once i j o p q r g h = go (cases_order (deep i o) (deep j o))
    where
      go : (deep i o ≡ deep j o) ⊎ ((deep i o < deep j o) ⊎ (deep j o < deep i o)) → i ≡ j
      go (inl e) = wave.deep_one i j o p q r e
      go (inr (inl l)) = absurd (both_ways _ (wave.south-of i j o p q r g l) (parts j o h).1)
      go (inr (inr l)) = absurd (both_ways _ (wave.south-of j i o q p r h l) (parts i o g).1)

  input-once : (i o u : ℕ) → i < n → o < n → u < n → G i o ≡ true → G i u ≡ true → o ≡ u
  input-once i o u p q r g h = go (cases_order (wide i o) (wide i u))
    where
      go : (wide i o ≡ wide i u) ⊎ ((wide i o < wide i u) ⊎ (wide i u < wide i o)) → o ≡ u
      go (inl e) = wave.wide-one i o u p q r e
      go (inr (inl l)) = absurd (both_ways _ (wave.east-of i o u p q r g l) (parts i u h).2)
      go (inr (inr l)) = absurd (both_ways _ (wave.east-of i u o p r q h l) (parts i o g).2)

  blocked : (i o : ℕ) → i < n → o < n → R i o ≡ true → G i o ≡ false
      → ((j : ℕ) × (j < n) × (G j o ≡ true)) ⊎ ((u : ℕ) × (u < n) × (G i u ≡ true))
  blocked i o p q r h = go (and_cases (R i o) (N i o && W i o) (sym (wave.cell i o) ∙ h))
    where
      lines : (N i o ≡ false) ⊎ (W i o ≡ false) → ((j : ℕ) × (j < n) × (G j o ≡ true)) ⊎ ((u : ℕ) × (u < n) × (G i u ≡ true))
      lines (inl e) = inl (wave.north-low i o p q e)
      lines (inr e) = inr (wave.west-low i o p q e)

      go : (R i o ≡ false) ⊎ ((N i o && W i o) ≡ false) → ((j : ℕ) × (j < n) × (G j o ≡ true)) ⊎ ((u : ℕ) × (u < n) × (G i u ≡ true))
      go (inl e) = absurd (both_ways (R i o) e r)
      go (inr e) = lines (and_cases (N i o) (W i o) e)

  -- and all that is asked, where a pair that is left out has a smaller wait afterwards
  pub decided : (wait next : ℕ → ℕ → ℕ) → ((i o : ℕ) → i < n → o < n → R i o ≡ true → G i o ≡ false → next i o < wait i o) → Decided n R G wait next
  decided wait next nearer =
      record { asked = λ i o _ _ h. asked i o h; input-once = input-once; output-once = output-once; blocked = blocked; nearer = nearer }

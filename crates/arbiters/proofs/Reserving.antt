-- Tables in which each input and each output is in one pair at most stay such.
use Rattle.std.proofs.Common.{◌≡◌, ℕ, ◌<◌, Bool, true, false, not, ◌&&◌, ◌||◌, eqb, ◌⊎◌, sym, refl, ap, ◌∙◌, ap₂, inl, inr}
use Rattle.std.proofs.lemmas.Bool.{and_from, and_parts, and_right, both_ways, cases_eq, eq-eqb, eqb-true, ne_eqb, not_from_false, not_from_true, not-true, or_cases}
use Rattle.pairs.specs.declared.ports.Ports.{Ports}
use Rattle.pairs.specs.declared.table.Table.{Table}
use Rattle.pairs.specs.Tables.{added, filled, holds, inside, ports_of, table_of}
use Rattle.pairs.proofs.PortSets.{kept}
use Rattle.pairs.proofs.Somes.{some_at}
use Rattle.pairs.proofs.Tables.{held, held_below, table_of-ext}
use Rattle.arbiters.specs.Once.{OneOutput, OneInput}
use Rattle.arbiters.specs.Slots.{by_another, replaced}

module _ (t : Table) (e : t ≡ table_of (λ _ _. false)) where
  none-held : (i o : ℕ) → holds t i o ≡ true → ⊥
  none-held i o h = let b = held_below t i o h in both_ways _ (held t (λ _ _. false) e i o b.0 b.1) h

  pub none-output : OneOutput t
  none-output p h = absurd (none-held p.0 p.1 h.0)

  pub none-input : OneInput t
  none-input p h = absurd (none-held p.0 p.2 h.0)

module _ (t u : Table) (i o : ℕ) (is : u ≡ replaced t i o) (open-output : by_another t i o ≡ false) where
  ways : (x y : ℕ) → holds u x y ≡ true → ((x ≡ i) × (y ≡ o)) ⊎ ((holds t x y ≡ true) × (eqb x i ≡ false))
  unfolding replaced
  ways x y h =
      let l = held_below u x y h in
      go (or_cases (eqb x i && eqb y o) (holds t x y && not (eqb x i)) (sym (held u _ is x y l.0 l.1) ∙ h))
    where
      go : ((eqb x i && eqb y o) ≡ true) ⊎ ((holds t x y && not (eqb x i)) ≡ true) → ((x ≡ i) × (y ≡ o)) ⊎ ((holds t x y ≡ true) × (eqb x i ≡ false))
      go (inl a) = let b = and_parts (eqb x i) (eqb y o) a in inl (eqb-true x i b.0, eqb-true y o b.1)
      go (inr a) = let b = and_parts (holds t x y) (not (eqb x i)) a in inr (b.0, not-true _ b.1)

  another : (j : ℕ) → eqb j i ≡ false → holds t j o ≡ true → ⊥
  unfolding by_another
  another j e h =
      both_ways _ open-output
      (some_at 8 (λ j. not (eqb j i) && holds t j o) j (held_below t j o h).0 (and_from (not (eqb j i)) (holds t j o) (not_from_false _ e) h))

  not_itself : (x : ℕ) → x ≡ i → eqb x i ≡ false → ⊥
  not_itself x e f = both_ways (eqb x i) f (eq-eqb x i e)

  pub replaced-output : OneOutput t → OneOutput u
  replaced-output once p h = go (ways p.0 p.1 h.0) (ways p.0 p.2 h.1)
    where
      go : ((p.0 ≡ i) × (p.1 ≡ o)) ⊎ ((holds t p.0 p.1 ≡ true) × (eqb p.0 i ≡ false))
          → ((p.0 ≡ i) × (p.2 ≡ o)) ⊎ ((holds t p.0 p.2 ≡ true) × (eqb p.0 i ≡ false)) → p.1 ≡ p.2
      go (inl a) (inl b) = a.1 ∙ sym b.1
      go (inl a) (inr b) = absurd (not_itself p.0 a.0 b.1)
      go (inr a) (inl b) = absurd (not_itself p.0 b.0 a.1)
      go (inr a) (inr b) = once p (a.0, b.0)

  pub replaced-input : OneInput t → OneInput u
  replaced-input once p h = go (ways p.0 p.2 h.0) (ways p.1 p.2 h.1)
    where
      go : ((p.0 ≡ i) × (p.2 ≡ o)) ⊎ ((holds t p.0 p.2 ≡ true) × (eqb p.0 i ≡ false))
          → ((p.1 ≡ i) × (p.2 ≡ o)) ⊎ ((holds t p.1 p.2 ≡ true) × (eqb p.1 i ≡ false)) → p.0 ≡ p.1
      go (inl a) (inl b) = a.0 ∙ sym b.0
      go (inl a) (inr b) = absurd (another p.1 b.1 (ap (holds t p.1) (sym a.1) ∙ b.0))
      go (inr a) (inl b) = absurd (another p.0 a.1 (ap (holds t p.0) (sym b.1) ∙ a.0))
      go (inr a) (inr b) = once p (a.0, b.0)

-- what the code makes
pub replaced-is : (t none had less u : Table) (outputs : Ports) (i o : ℕ) → none ≡ table_of (λ _ _. false) → outputs ≡ ports_of (holds t i)
    → had ≡ table_of (filled (holds none) i (inside outputs)) → less ≡ table_of (λ x y. holds t x y && not (holds had x y))
    → u ≡ table_of (added (holds less) i o) → u ≡ replaced t i o
unfolding replaced
replaced-is t none had less u outputs i o n-is o_is h-is l-is e =
    e ∙ table_of-ext (added (holds less) i o) (λ x y. (eqb x i && eqb y o) || (holds t x y && not (eqb x i)))
    (λ x y p q. ap (λ (b : Bool). (eqb x i && eqb y o) || b)
    (held less _ l-is x y p q ∙ ap (λ (b : Bool). holds t x y && not b) (had-is x y p q) ∙ go x y (cases_eq x i)))
  where
    had-is : (x y : ℕ) → x < 8 → y < 8 → holds had x y ≡ (eqb x i && holds t i y)
    had-is x y p q =
        held had _ h-is x y p q ∙ ap₂ (λ (a b : Bool). (eqb x i && a) || b) (kept outputs _ o_is y q) (held none _ n-is x y p q) ∙ or-none (eqb x i && holds t i y)
      where
        or-none : (a : Bool) → (a || false) ≡ a
        or-none true = refl
        or-none false = refl

    go : (x y : ℕ) → (x ≡ i) ⊎ (x ≡ i → ⊥) → (holds t x y && not (eqb x i && holds t i y)) ≡ (holds t x y && not (eqb x i))
    go x y (inl h) =
        ap (λ (b : Bool). holds t x y && not (b && holds t i y)) (eq-eqb x i h) ∙ ap (λ (z : ℕ). holds t z y && not (holds t i y)) h
        ∙ neither (holds t i y) ∙ sym (and_right (holds t x y) _ (not_from_true _ (eq-eqb x i h)))
      where
        neither : (a : Bool) → (a && not a) ≡ false
        neither true = refl
        neither false = refl
    go x y (inr h) =
        ap (λ (b : Bool). holds t x y && not (b && holds t i y)) (ne_eqb x i h) ∙ ap (λ (b : Bool). holds t x y && not b) (sym (ne_eqb x i h))

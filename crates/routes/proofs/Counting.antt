-- The count of an input is the number of VCIs that have a route there.
use Rattle.std.proofs.Common.{◌≡◌, ℕ, zero, suc, ◌+◌, ◌<◌, false, cond, is_some, Option, sym, refl, ap, inl, inr, arith}
use Rattle.std.proofs.lemmas.Bool.{cases_eq, eq-eqb, ne_eqb}
use Rattle.routes.specs.declared.route.Route.{Route}
use Rattle.routes.specs.Table.{held, with_entry}

-- an entry counts for one
abbrev pub one : Option Route → ℕ
one entry = cond (is_some entry) 1 0

held_same : (f g : ℕ → Option Route) (n : ℕ) → ((v : ℕ) → v < n → g v ≡ f v) → held g n ≡ held f n
unfolding held
held_same f g zero h = refl
held_same f g (suc n) h = rw (h n (omega arith), held_same f g n (λ v l. h v (omega arith)))

-- another entry for circuit u
held-changed : (f g : ℕ → Option Route) (n u : ℕ) → u < n → ((v : ℕ) → (v ≡ u → ⊥) → g v ≡ f v) → held g n + one (f u) ≡ held f n + one (g u)
unfolding held
held-changed f g zero u l h = absurd (omega arith)
held-changed f g (suc n) u l h =
    elim (cases_eq u n) [
      | inl q ↦
          let e : held g n ≡ held f n = held_same f g n (λ v lv. h v (λ p. omega arith)) in
          let x : one (f u) ≡ one (f n) = ap (λ (w : ℕ). one (f w)) q in
          let y : one (g u) ≡ one (g n) = ap (λ (w : ℕ). one (g w)) q in
          omega arith
      | inr q ↦
          let e : held g n + one (f u) ≡ held f n + one (g u) = held-changed f g n u (omega arith) h in
          let x : one (g n) ≡ one (f n) = ap one (h n (λ p. q (sym p))) in
          omega arith
    ]

-- the count stays right where the map is changed at one entry, and the count with it
pub counted-after : (f g : ℕ → Option Route) (n m u : ℕ) (entry : Option Route) → u < 65536 → n ≡ held f 65536 → g ≡ with_entry f u entry → m + one (f u) ≡ n + one entry → m ≡ held g 65536
counted-after f g n m u entry lu was e here =
    let h = with_entry f u entry in
    let c : held h 65536 + one (f u) ≡ held f 65536 + one (h u) = held-changed f h 65536 u lu (λ v ne. rw (ne_eqb u v (λ p. ne (sym p))) refl) in
    let o : one (h u) ≡ one entry = rw (eq-eqb u u refl) refl in
    let x : held g 65536 ≡ held h 65536 = ap (λ (x : ℕ → Option Route). held x 65536) e in
    omega arith

-- an empty map holds nothing
pub held_none : (f : ℕ → Option Route) (n : ℕ) → ((v : ℕ) → is_some (f v) ≡ false) → held f n ≡ 0
unfolding held
held_none f zero h = refl
held_none f (suc n) h = rw (h n, held_none f n h)

-- Waits lengthened reserved slots: they never fall below those without, they grow with them, and they fall from slot to slot.
use Rattle.std.specs.Prelude.{◌≡◌, ℕ, ◌+◌, ◌-◌, ◌/◌, ◌<◌, ◌≤◌, ◌⊎◌, nat_lt}
use Rattle.std.proofs.Common.{inl, inr, ap, subst, arith}
use Rattle.std.proofs.Math.Bridge.{le_prop}
use Rattle.std.proofs.lemmas.Nat.{div-add-mod', le-div}
use Rattle.std.proofs.lemmas.Bool.{cases_lt, lt-ltb, le-ltb, cond-true, cond-false}
use Rattle.arbiters.specs.declared.period.Period.{Period}
use Rattle.arbiters.specs.Periods.{lengthened, longest, left_after, after-place, passed}

div_grows : (a b m : ℕ) → 0 < m → a ≤ b → a / m ≤ b / m
div_grows a b m p h = le-div (a / m) b m p (omega (arith, div-add-mod' a m))

-- m more is one more time m
div-more : (a m : ℕ) → 0 < m → m ≤ a → (a - m) / m + 1 ≤ a / m
div-more a m p h =
    let q : ℕ = (a - m) / m in
    le-div (q + 1) a m p (omega (arith, div-add-mod' (a - m) m))

lengthened-near : (k f w : ℕ) → w < f → lengthened k f w ≡ w
lengthened-near k f w h = cond-true (nat_lt w f) w (w + 1 + (w - f) / (k - 1)) (lt-ltb w f h)

lengthened-far : (k f w : ℕ) → f ≤ w → lengthened k f w ≡ w + 1 + (w - f) / (k - 1)
lengthened-far k f w h = cond-false (nat_lt w f) w (w + 1 + (w - f) / (k - 1)) (le-ltb w f h)

-- it never falls below the wait without them
lengthened-above : (k f w : ℕ) → w ≤ lengthened k f w
lengthened-above k f w = go (cases_lt w f)
  where
    go : (w < f) ⊎ (f ≤ w) → w ≤ lengthened k f w
    go (inl h) = omega (arith, lengthened-near k f w h)
    go (inr h) = omega (arith, lengthened-far k f w h)

-- and never gets above the longest
pub lengthened-longest : (k f w v : ℕ) → 2 ≤ k → w ≤ v → lengthened k f w ≤ longest k v
lengthened-longest k f w v two h = go (cases_lt w f)
  where
    go : (w < f) ⊎ (f ≤ w) → lengthened k f w ≤ longest k v
    go (inl l) = omega (arith, lengthened-near k f w l)
    go (inr l) = omega (arith, lengthened-far k f w l, div_grows (w - f) v (k - 1) (omega arith) (omega arith))

-- in a slot of the arbiter below the wait without them falls, and so does this
pub falls_below : (k f w v : ℕ) → 2 ≤ k → 0 < f → v < w → lengthened k (f - 1) v < lengthened k f w
falls_below k f w v two some h = go (cases_lt w f) (cases_lt v (f - 1))
  where
    go : (w < f) ⊎ (f ≤ w) → (v < f - 1) ⊎ (f - 1 ≤ v) → lengthened k (f - 1) v < lengthened k f w
    go _ (inl m) = omega (arith, lengthened-near k (f - 1) v m, lengthened-above k f w)
    go (inl l) (inr m) = absurd (omega arith)
    go (inr l) (inr m) =
        omega (arith, lengthened-far k f w l, lengthened-far k (f - 1) v m, div_grows (v - (f - 1)) (w - f) (k - 1) (omega arith) (omega arith))

-- in a reserved slot it falls by that slot
pub falls-reserved : (k w : ℕ) → 2 ≤ k → lengthened k (k - 1) w < lengthened k 0 w
falls-reserved k w two = go (cases_lt w (k - 1))
  where
    far : lengthened k 0 w ≡ w + 1 + (w - 0) / (k - 1)
    far = lengthened-far k 0 w (omega arith)

    go : (w < k - 1) ⊎ (k - 1 ≤ w) → lengthened k (k - 1) w < lengthened k 0 w
    go (inl l) = omega (arith, far, lengthened-near k (k - 1) w l)
    go (inr l) =
        let same : w - 0 ≡ w = omega arith in
        omega (arith, far, ap (λ (x : ℕ). x / (k - 1)) same, lengthened-far k (k - 1) w l, div-more w (k - 1) (omega arith) l)

-- two values that differ in the proofs of their ghost fields alone are equal
pub same-but-proofs : (p : Period) (f : ℕ) → left_after p.slots p.left ≡ f → (a : 2 ≤ p.slots) (b : p.slots ≤ 64) (c : f < p.slots)
    → record { slots = p.slots; left = f; two = a; most = b; place = c } ≡ passed p
same-but-proofs p f e =
    subst (λ (x : ℕ). (a : 2 ≤ p.slots) (b : p.slots ≤ 64) (c : x < p.slots) → record { slots = p.slots; left = x; two = a; most = b; place = c } ≡ passed p) e
    (λ a b c. rw (le_prop a p.two, le_prop b p.most, le_prop c (after-place p.slots p.left p.two p.place)))

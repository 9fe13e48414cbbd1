-- The ripple arbiter grants what is asked of a decision.
use Rattle.std.proofs.Common.{◌≡◌, ℕ, zero, suc, ◌+◌, ◌-◌, ◌*◌, ◌/◌, ◌%◌, ◌<◌, ◌≤◌, Bool, true, false, not, ◌&&◌, ◌⊎◌, sym, refl, ap, ◌∙◌, ap₂, inl, inr, arith}
use native.Mathlib.Decide.{le_ind}
use native.Mathlib.Nat.{mod_self}
use Rattle.std.proofs.lemmas.Nat.{mod_below, mul-add-lt, div-mul-add, mod-mul-add, div_below}
use Rattle.std.proofs.lemmas.Bool.{and_left, and_right, and_cases, and_from, not_from_true, not-false, both_ways}
use Rattle.grants.specs.Cell.{grant}
use Rattle.grants.specs.Ripple.{port, gap, along, north_at, west_at, turned, ripple_granted, ripple_wait}
use Rattle.grants.proofs.Decided.{Decided}
use Rattle.grants.proofs.Modulo.{rest}
use Rattle.grants.proofs.Waves as waves
use Rattle.grants.proofs.Waves.{Wave}

module _ (n a : ℕ) (first : a < n) where
  pub port-lt : (u : ℕ) → port n a u < n
  unfolding port
  port-lt u = mod_below (u + a) n (omega arith)

  pub gap-lt : (x : ℕ) → gap n a x < n
  unfolding gap
  gap-lt x = mod_below (x + (n - a)) n (omega arith)

  pub port-gap : (x : ℕ) → x < n → port n a (gap n a x) ≡ x
  unfolding port gap
  port-gap x h =
      let w : (x + (n - a)) % n < n = gap-lt x in
      omega (arith, rest (x + (n - a)) n (omega arith) (omega arith), rest ((x + (n - a)) % n + a) n (omega arith) (omega arith))

  pub gap-port : (u : ℕ) → u < n → gap n a (port n a u) ≡ u
  unfolding port gap
  gap-port u h =
      let w : (u + a) % n < n = port-lt u in
      omega (arith, rest (u + a) n (omega arith) (omega arith), rest ((u + a) % n + (n - a)) n (omega arith) (omega arith))

  pub gap-none : gap n a a ≡ 0
  unfolding gap
  gap-none = let e : a + (n - a) ≡ n = omega arith in ap (λ (y : ℕ). y % n) e ∙ mod_self n

-- ---- along the wires, Q the requests by row and column
unfoldable pub cell_of : (ℕ → ℕ → Bool) → ℕ → ℕ → Bool
cell_of Q u v = grant (Q u v) (north_at Q u v) (west_at Q u v)

module _ (Q : ℕ → ℕ → Bool) where
  pub north-more : (u v : ℕ) → north_at Q (suc u) v ≡ (north_at Q u v && not (cell_of Q u v))
  unfolding north_at west_at cell_of
  north-more u v = refl

  pub west-more : (u v : ℕ) → west_at Q u (suc v) ≡ (west_at Q u v && not (cell_of Q u v))
  unfolding along west_at cell_of
  west-more u v = refl

  north-stays : (j k v : ℕ) → north_at Q j v ≡ false → j ≤ k → north_at Q k v ≡ false
  north-stays j k v e h = le_ind (λ m. north_at Q m v ≡ false) e (λ m _ f. north-more m v ∙ and_left (north_at Q m v) _ f) k h

  pub west-stays : (u j k : ℕ) → west_at Q u j ≡ false → j ≤ k → west_at Q u k ≡ false
  west-stays u j k e h = le_ind (λ m. west_at Q u m ≡ false) e (λ m _ f. west-more u m ∙ and_left (west_at Q u m) _ f) k h

  south-low : (u v k : ℕ) → cell_of Q u v ≡ true → u < k → north_at Q k v ≡ false
  south-low u v k g h = north-stays (suc u) k v (north-more u v ∙ and_right (north_at Q u v) _ (not_from_true _ g)) h

  east-low : (u v k : ℕ) → cell_of Q u v ≡ true → v < k → west_at Q u k ≡ false
  east-low u v k g h = west-stays u (suc v) k (west-more u v ∙ and_right (west_at Q u v) _ (not_from_true _ g)) h

  north-from : (u v : ℕ) → north_at Q u v ≡ false → (j : ℕ) × (j < u) × (cell_of Q j v ≡ true)
  unfolding north_at
  north-from zero v e = absurd (both_ways true e refl)
  north-from (suc u) v e = go (and_cases (north_at Q u v) _ (sym (north-more u v) ∙ e)) (north-from u v)
    where
      go : (north_at Q u v ≡ false) ⊎ (not (cell_of Q u v) ≡ false) → (north_at Q u v ≡ false → (j : ℕ) × (j < u) × (cell_of Q j v ≡ true))
          → (j : ℕ) × (j < suc u) × (cell_of Q j v ≡ true)
      go (inl f) ih = let r = ih f in (r.0, omega arith, r.2)
      go (inr f) ih = (u, omega arith, not-false _ f)

  west-from : (u v : ℕ) → west_at Q u v ≡ false → (j : ℕ) × (j < v) × (cell_of Q u j ≡ true)
  unfolding west_at along
  west-from u zero e = absurd (both_ways true e refl)
  west-from u (suc v) e = go (and_cases (west_at Q u v) _ (sym (west-more u v) ∙ e)) (west-from u v)
    where
      go : (west_at Q u v ≡ false) ⊎ (not (cell_of Q u v) ≡ false) → (west_at Q u v ≡ false → (j : ℕ) × (j < v) × (cell_of Q u j ≡ true))
          → (j : ℕ) × (j < suc v) × (cell_of Q u j ≡ true)
      go (inl f) ih = let r = ih f in (r.0, omega arith, r.2)
      go (inr f) ih = (v, omega arith, not-false _ f)

module _ (R : ℕ → ℕ → Bool) (n a b : ℕ) (row : a < n) (column : b < n) where
  -- the cell at a row and column, as a pair
  pub at_pair : (i o : ℕ) → i < n → o < n → ripple_granted R n a b i o ≡ cell_of (turned R n a b) (gap n a i) (gap n b o)
  unfolding ripple_granted cell_of
  at_pair i o p q =
      ap₂ (λ (x y : ℕ). grant (R x y) (north_at (turned R n a b) (gap n a i) (gap n b o)) (west_at (turned R n a b) (gap n a i) (gap n b o)))
      (sym (port-gap n a row i p)) (sym (port-gap n b column o q))

  pub at-cell : (u v : ℕ) → u < n → v < n → ripple_granted R n a b (port n a u) (port n b v) ≡ cell_of (turned R n a b) u v
  at-cell u v p q =
      at_pair (port n a u) (port n b v) (port-lt n a row u) (port-lt n b column v)
      ∙ ap₂ (cell_of (turned R n a b)) (gap-port n a row u p) (gap-port n b column v q)

  wave : Wave n R (ripple_granted R n a b) (λ i o. north_at (turned R n a b) (gap n a i) (gap n b o)) (λ i o. west_at (turned R n a b) (gap n a i) (gap n b o))
      (λ i _. gap n a i) (λ _ o. gap n b o)
  unfolding ripple_granted
  wave =
      record {
        cell = λ i o. refl;
        deep_one = λ i j o p q r e. sym (port-gap n a row i p) ∙ ap (port n a) e ∙ port-gap n a row j q;
        wide-one = λ i o u p q r e. sym (port-gap n b column o q) ∙ ap (port n b) e ∙ port-gap n b column u r;
        south-of = λ i j o p q r g l. south-low Q (gap n a i) (gap n b o) (gap n a j) (sym (at_pair i o p r) ∙ g) l;
        east-of = λ i o u p q r g l. east-low Q (gap n a i) (gap n b o) (gap n b u) (sym (at_pair i o p q) ∙ g) l;
        north-low = λ i o p q e.
            let s = north-from Q (gap n a i) (gap n b o) e in
            let l : s.0 < n = omega (arith, gap-lt n a row i) in
            (port n a s.0, port-lt n a row s.0, ap (ripple_granted R n a b (port n a s.0)) (sym (port-gap n b column o q)) ∙ at-cell s.0 (gap n b o) l (gap-lt n b column o) ∙ s.2);
        west-low = λ i o p q e.
            let s = west-from Q (gap n a i) (gap n b o) e in
            let l : s.0 < n = omega (arith, gap-lt n b column o) in
            (port n b s.0, port-lt n b column s.0, ap (λ (x : ℕ). ripple_granted R n a b x (port n b s.0)) (sym (port-gap n a row i p)) ∙ at-cell (gap n a i) s.0 (gap-lt n a row i) l ∙ s.2);
      }
    where
      Q : ℕ → ℕ → Bool
      Q = turned R n a b

-- ---- how long a pair waits
module _ (n t : ℕ) (turn : t < n * n) where
  some : 0 < n
  some = go n turn
    where
      go : (m : ℕ) → t < m * m → 0 < m
      go zero h = absurd (omega arith)
      go (suc m) h = omega arith

  pub wait-lt : (i o : ℕ) → ripple_wait n t i o < n * n
  unfolding ripple_wait
  wait-lt i o = mod_below (i * n + o + (n * n - t)) (n * n) (omega arith)

  pub wait-next : (i o : ℕ) → i < n → o < n → 0 < ripple_wait n t i o → ripple_wait n ((t + 1) % (n * n)) i o + 1 ≡ ripple_wait n t i o
  unfolding ripple_wait
  wait-next i o p q h =
      let x : i * n + o < n * n = mul-add-lt i n o n p q in
      let m : (t + 1) % (n * n) < n * n = mod_below (t + 1) (n * n) (omega arith) in
      omega (arith, rest (t + 1) (n * n) (omega arith) (omega arith), rest (i * n + o + (n * n - t)) (n * n) (omega arith) (omega arith), rest (i * n + o + (n * n - (t + 1) % (n * n))) (n * n) (omega arith) (omega arith))

  -- no wait: the pair of the turn
  pub wait-none : (i o : ℕ) → i < n → o < n → ripple_wait n t i o ≡ 0 → i * n + o ≡ t
  unfolding ripple_wait
  wait-none i o p q h =
      let x : i * n + o < n * n = mul-add-lt i n o n p q in
      omega (arith, rest (i * n + o + (n * n - t)) (n * n) (omega arith) (omega arith))

  pub row_lt : t / n < n
  row_lt = div_below t n n some turn

  pub column-lt : t % n < n
  column-lt = mod_below t n some

  waits : (R : ℕ → ℕ → Bool) (i o : ℕ) → i < n → o < n → R i o ≡ true → ripple_granted R n (t / n) (t % n) i o ≡ false → 0 < ripple_wait n t i o
  unfolding ripple_granted north_at west_at along
  waits R i o p q r h = go (ripple_wait n t i o) refl
    where
      go : (k : ℕ) → ripple_wait n t i o ≡ k → 0 < ripple_wait n t i o
      go zero e =
          let w : i * n + o ≡ t = wait-none i o p q e in
          let u : gap n (t / n) i ≡ 0 = ap (gap n (t / n)) (sym (div-mul-add i n o q) ∙ ap (λ (y : ℕ). y / n) w) ∙ gap-none n (t / n) row_lt in
          let v : gap n (t % n) o ≡ 0 = ap (gap n (t % n)) (sym (mod-mul-add i n o q) ∙ ap (λ (y : ℕ). y % n) w) ∙ gap-none n (t % n) column-lt in
          let Q : ℕ → ℕ → Bool = turned R n (t / n) (t % n) in
          absurd (both_ways (R i o && true) (sym (ap₂ (λ (x y : ℕ). grant (R i o) (north_at Q x y) (west_at Q x y)) u v) ∙ h) (and_from (R i o) true r refl))
      go (suc k) e = omega arith

  nearer : (R : ℕ → ℕ → Bool) (i o : ℕ) → i < n → o < n → R i o ≡ true → ripple_granted R n (t / n) (t % n) i o ≡ false
      → ripple_wait n ((t + 1) % (n * n)) i o + 1 ≡ ripple_wait n t i o
  nearer R i o p q r h = wait-next i o p q (waits R i o p q r h)

  pub decided : (R : ℕ → ℕ → Bool) → Decided n R (ripple_granted R n (t / n) (t % n)) (ripple_wait n t) (ripple_wait n ((t + 1) % (n * n)))
  decided R =
      waves.decided n R (ripple_granted R n (t / n) (t % n)) _ _ (λ i _. gap n (t / n) i) (λ _ o. gap n (t % n) o) (wave R n (t / n) (t % n) row_lt column-lt)
      (ripple_wait n t) (ripple_wait n ((t + 1) % (n * n))) (λ i o p q r h. omega (arith, nearer R i o p q r h))

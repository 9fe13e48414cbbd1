-- How far a decision of the diagonal arbiter has come, a diagonal at a time: `free` has the pairs whose input and output are both free.
use Rattle.std.proofs.Common.{◌≡◌, ℕ, suc, ◌+◌, ◌-◌, ◌%◌, ◌<◌, ◌≤◌, Bool, true, false, not, ◌&&◌, ◌||◌, eqb, ltb, ◌⊎◌, sym, refl, ap, ◌∙◌, ap₂, inl, inr, add-one, arith}
use Rattle.std.proofs.lemmas.Nat.{mod_below}
use Rattle.std.proofs.lemmas.Bool.{cases_eq, cases_lt, eq-eqb, ne_eqb, eqb-true, lt-ltb, ltb-true, and_from, and_left, and_right, and_parts, both_ways, or_cases, or_left, or_right, or_from}
use Rattle.std.proofs.lemmas.Bool.Decides.{nat_tests}
use Rattle.pairs.specs.declared.table.Table.{Table}
use Rattle.pairs.specs.Tables.{holds, joint, table_of, within}
use Rattle.pairs.proofs.Somes.{same, joint-by, joint-input, joint-output}
use Rattle.pairs.proofs.Tables.{held, held_below, table_of-ext}
use Rattle.pairs.proofs.Within.{within-at, within_none}
use Rattle.grants.specs.Cell.{grant}
use Rattle.grants.specs.Diagonal.{partner, diagonal_wait, north_of, west_of, diagonal_granted}
use Rattle.grants.proofs.Diagonals.{north-stays, west-stays}
use Rattle.grants.proofs.Modulo.{rest, partner-lt, wait-lt, partner-wait-o, partner-wait-i, wait-partner-o, wait-partner-i}

-- the pairs that are granted on the diagonals before the k-th
unfoldable pub before : (ℕ → ℕ → Bool) → ℕ → ℕ → ℕ → ℕ → ℕ → Bool
before R n d k x y = diagonal_granted R n d x y && ltb (diagonal_wait n d x y) k

pub record Front (R : ℕ → ℕ → Bool) (n d k : ℕ) (free g : Table) : Type 0 where
  pub free-is : (x y : ℕ) → x < n → y < n → holds free x y ≡ (north_of R n d k y && west_of R n d k x)
  pub edge : (x y : ℕ) → holds free x y ≡ true → (x < n) × (y < n)
  pub grants : g ≡ table_of (within n (before R n d k))

-- the pairs of two sums are those of a diagonal
sums : (n d k x y : ℕ) → d < n → k < n → x < n → y < n → (eqb (x + y) ((d + k) % n) || eqb (x + y) ((d + k) % n + n)) ≡ eqb (diagonal_wait n d x y) k
unfolding diagonal_wait
sums n d k x y turn place p q =
    go (cases_eq ((x + y + (n - d)) % n) k)
  where
    a : (d + k) % n < n
    a = mod_below (d + k) n (omega arith)

    go : ((x + y + (n - d)) % n ≡ k) ⊎ ((x + y + (n - d)) % n ≡ k → ⊥)
        → (eqb (x + y) ((d + k) % n) || eqb (x + y) ((d + k) % n + n)) ≡ eqb ((x + y + (n - d)) % n) k
    go (inl e) = here (cases_lt (x + y) n) ∙ sym (eq-eqb ((x + y + (n - d)) % n) k e)
      where
        here : (x + y < n) ⊎ (n ≤ x + y) → (eqb (x + y) ((d + k) % n) || eqb (x + y) ((d + k) % n + n)) ≡ true
        here (inl l) =
            or_left _ _ (eq-eqb (x + y) ((d + k) % n) (omega (arith, rest (d + k) n (omega arith) (omega arith), rest (x + y + (n - d)) n (omega arith) (omega arith))))
        here (inr l) =
            or_right _ _ (eq-eqb (x + y) ((d + k) % n + n) (omega (arith, rest (d + k) n (omega arith) (omega arith), rest (x + y + (n - d)) n (omega arith) (omega arith))))
    go (inr e) =
        or_from _ _
        (ne_eqb (x + y) ((d + k) % n) (λ z. e (omega (arith, rest (d + k) n (omega arith) (omega arith), rest (x + y + (n - d)) n (omega arith) (omega arith)))))
        (ne_eqb (x + y) ((d + k) % n + n) (λ z. e (omega (arith, rest (d + k) n (omega arith) (omega arith), rest (x + y + (n - d)) n (omega arith) (omega arith)))))
        ∙ sym (ne_eqb ((x + y + (n - d)) % n) k e)

-- ---- tests alone
and_both : (a b : Bool) → b ≡ true → (a && b) ≡ a
and_both true b e = e
and_both false b e = refl

regroup : (n w a b : Bool) → ((n && w) && not (a || b)) ≡ ((n && not b) && (w && not a))
regroup false w a b = refl
regroup true false a true = refl
regroup true false a false = refl
regroup true true true true = refl
regroup true true true false = refl
regroup true true false true = refl
regroup true true false false = refl

now-or-before : (k w : ℕ) → ltb w (k + 1) ≡ (ltb w k || eqb w k)
now-or-before k w = grind (arith, nat_tests)

none_before : (w : ℕ) → ltb w 0 ≡ false
none_before w = grind (arith, nat_tests)

pub begin : (R : ℕ → ℕ → Bool) (n d : ℕ) (free g : Table) → n ≤ 8 → free ≡ table_of (λ i o. ltb i n && ltb o n) → g ≡ table_of (λ _ _. false) → Front R n d 0 free g
unfolding before north_of west_of
begin R n d free g small a e =
    record {
      free-is = λ x y p r. held free _ a x y (omega arith) (omega arith) ∙ ap₂ ◌&&◌ (lt-ltb x n p) (lt-ltb y n r);
      edge = λ x y h.
          let b = held_below free x y h in
          let t = and_parts (ltb x n) (ltb y n) (sym (held free _ a x y b.0 b.1) ∙ h) in
          (ltb-true x n t.0, ltb-true y n t.1);
      grants = e ∙ table_of-ext (λ _ _. false) (within n (before R n d 0)) (λ x y _ _. within_none n (before R n d 0) x y (and_right (diagonal_granted R n d x y) _ (none_before (diagonal_wait n d x y))));
    }

pub finish : (R : ℕ → ℕ → Bool) (n d : ℕ) (free g : Table) → d < n → Front R n d n free g → g ≡ table_of (within n (diagonal_granted R n d))
unfolding before
finish R n d free g turn s =
    s.grants ∙ table_of-ext (within n (before R n d n)) (within n (diagonal_granted R n d))
    (λ x y _ _. within-at n (before R n d n) (diagonal_granted R n d) x y (λ _ _. and_both (diagonal_granted R n d x y) _ (lt-ltb (diagonal_wait n d x y) n (wait-lt n d turn x y))))

-- where no request is free, nothing is granted on the diagonals that are left
pub stop : (requests wanted : Table) (n d k : ℕ) (free g : Table) → n ≤ 8 → Front (holds requests) n d k free g
    → wanted ≡ table_of (λ i o. holds requests i o && holds free i o) → ((i o : ℕ) → holds wanted i o ≡ false) → g ≡ table_of (within n (diagonal_granted (holds requests) n d))
unfolding before diagonal_granted
stop requests wanted n d k free g small s is none =
    s.grants ∙ table_of-ext (within n (before (holds requests) n d k)) (within n (diagonal_granted (holds requests) n d))
    (λ x y _ _. within-at n (before (holds requests) n d k) (diagonal_granted (holds requests) n d) x y (λ p q. same-grant x y p q (cases_lt (diagonal_wait n d x y) k)))
  where
    -- what is high on a later diagonal is high on this one
    high : (b c : Bool) → (b ≡ false → c ≡ false) → c ≡ true → b ≡ true
    high true c f e = refl
    high false c f e = sym (f refl) ∙ e

    later : (x y : ℕ) → x < n → y < n → k ≤ diagonal_wait n d x y → (c : Bool) → diagonal_granted (holds requests) n d x y ≡ c → diagonal_granted (holds requests) n d x y ≡ false
    later x y p q l false e = e
    later x y p q l true e =
        let a = and_parts (holds requests x y) _ e in
        let b = and_parts (north_of (holds requests) n d (diagonal_wait n d x y) y) _ a.1 in
        let north = high (north_of (holds requests) n d k y) _ (λ z. north-stays (holds requests) n d k (diagonal_wait n d x y) y z l) b.0 in
        let west = high (west_of (holds requests) n d k x) _ (λ z. west-stays (holds requests) n d k (diagonal_wait n d x y) x z l) b.1 in
        absurd (both_ways _ (none x y)
        (held wanted _ is x y (omega arith) (omega arith) ∙ and_from (holds requests x y) _ a.0 (s.free-is x y p q ∙ and_from (north_of (holds requests) n d k y) _ north west)))

    same-grant : (x y : ℕ) → x < n → y < n → (diagonal_wait n d x y < k) ⊎ (k ≤ diagonal_wait n d x y)
        → (diagonal_granted (holds requests) n d x y && ltb (diagonal_wait n d x y) k) ≡ diagonal_granted (holds requests) n d x y
    same-grant x y p q (inl l) = and_both (diagonal_granted (holds requests) n d x y) _ (lt-ltb (diagonal_wait n d x y) k l)
    same-grant x y p q (inr l) =
        let e = later x y p q l (diagonal_granted (holds requests) n d x y) refl in
        and_left (diagonal_granted (holds requests) n d x y) _ e ∙ sym e

module _ (requests : Table) (n d : ℕ) (small : n ≤ 8) (turn : d < n) (k : ℕ) (place : k < n) where
  -- what the cell of the pair (x, y) would grant on the k-th diagonal
  cell : ℕ → ℕ → Bool
  cell x y = grant (holds requests x y) (north_of (holds requests) n d k y) (west_of (holds requests) n d k x)

  cell-granted : (x y : ℕ) → diagonal_wait n d x y ≡ k → diagonal_granted (holds requests) n d x y ≡ cell x y
  unfolding diagonal_granted cell
  cell-granted x y e = ap (λ (m : ℕ). grant (holds requests x y) (north_of (holds requests) n d m y) (west_of (holds requests) n d m x)) e

  north-next : (y : ℕ) → north_of (holds requests) n d (suc k) y ≡ (north_of (holds requests) n d k y && not (cell (partner n d k y) y))
  unfolding north_of cell
  north-next y = refl

  west-next : (x : ℕ) → west_of (holds requests) n d (suc k) x ≡ (west_of (holds requests) n d k x && not (cell x (partner n d k x)))
  unfolding west_of cell
  west-next x = refl

  module _ (free g asked low high both line crossing free' g' : Table) (s : Front (holds requests) n d k free g)
      (low-is : low ≡ table_of (λ i o. eqb (i + o) ((d + k) % n))) (high_is : high ≡ table_of (λ i o. eqb (i + o) ((d + k) % n + n)))
      (both_is : both ≡ table_of (λ i o. holds low i o || holds high i o))
      (Asked-is : asked ≡ table_of (λ i o. holds requests i o && holds free i o)) (line-is : line ≡ table_of (λ i o. holds asked i o && holds both i o))
      (g-is : g' ≡ table_of (λ i o. holds g i o || holds line i o))
      (crossing_is : crossing ≡ table_of (joint line)) (free-is : free' ≡ table_of (λ i o. holds free i o && not (holds crossing i o))) where
    on_line : (x y : ℕ) → x < n → y < n → holds line x y ≡ (cell x y && eqb (diagonal_wait n d x y) k)
    unfolding cell
    on_line x y p q =
        let a : x < 8 = omega arith in
        let b : y < 8 = omega arith in
        held line _ line-is x y a b
        ∙ ap₂ ◌&&◌
        (held asked _ Asked-is x y a b ∙ ap (λ (c : Bool). holds requests x y && c) (s.free-is x y p q))
        (held both _ both_is x y a b ∙ ap₂ ◌||◌ (held low _ low-is x y a b) (held high _ high_is x y a b) ∙ sums n d k x y turn place p q)

    line-edge : (x y : ℕ) → holds line x y ≡ true → (x < n) × (y < n)
    line-edge x y h =
        let b = held_below line x y h in
        let a = (and_parts (holds asked x y) _ (sym (held line _ line-is x y b.0 b.1) ∙ h)).0 in
        s.edge x y (and_parts (holds requests x y) _ (sym (held asked _ Asked-is x y b.0 b.1) ∙ a)).1

    -- the line's pair of an input, and of an output
    line-input : (x : ℕ) → x < n → holds line x (partner n d k x) ≡ cell x (partner n d k x)
    line-input x p =
        on_line x (partner n d k x) p (partner-lt n d turn k x) ∙ and_both (cell x (partner n d k x)) _ (eq-eqb _ k (wait-partner-i n d turn k x place p))

    line-output : (y : ℕ) → y < n → holds line (partner n d k y) y ≡ cell (partner n d k y) y
    line-output y p =
        on_line (partner n d k y) y (partner-lt n d turn k y) p ∙ and_both (cell (partner n d k y) y) _ (eq-eqb _ k (wait-partner-o n d turn k y place p))

    on-diagonal : (x y : ℕ) → holds line x y ≡ true → diagonal_wait n d x y ≡ k
    on-diagonal x y h =
        let b = line-edge x y h in
        eqb-true (diagonal_wait n d x y) k (and_parts (cell x y) _ (sym (on_line x y b.0 b.1) ∙ h)).1

    crossed : (x y : ℕ) → x < n → y < n → joint line x y ≡ (cell x (partner n d k x) || cell (partner n d k y) y)
    crossed x y p q =
        same (joint line x y) (cell x (partner n d k x) || cell (partner n d k y) y) (λ h. ends (joint-by line x y h))
        (λ h. starts (or_cases (cell x (partner n d k x)) (cell (partner n d k y) y) h))
      where
        ends : ((u : ℕ) × (holds line x u ≡ true)) ⊎ ((j : ℕ) × (holds line j y ≡ true)) → (cell x (partner n d k x) || cell (partner n d k y) y) ≡ true
        ends (inl a) =
            let e : partner n d k x ≡ a.0 = ap (λ (m : ℕ). partner n d m x) (sym (on-diagonal x a.0 a.1)) ∙ partner-wait-i n d turn x a.0 p (line-edge x a.0 a.1).1 in
            or_left _ _ (sym (line-input x p) ∙ ap (holds line x) e ∙ a.1)
        ends (inr a) =
            let e : partner n d k y ≡ a.0 = ap (λ (m : ℕ). partner n d m y) (sym (on-diagonal a.0 y a.1)) ∙ partner-wait-o n d turn a.0 y (line-edge a.0 y a.1).0 q in
            or_right (cell x (partner n d k x)) _ (sym (line-output y q) ∙ ap (λ (i : ℕ). holds line i y) e ∙ a.1)

        starts : (cell x (partner n d k x) ≡ true) ⊎ (cell (partner n d k y) y ≡ true) → joint line x y ≡ true
        starts (inl h) = joint-input line x y (partner n d k x) (line-input x p ∙ h)
        starts (inr h) = joint-output line x y (partner n d k y) (line-output y q ∙ h)

    granted-line : (x y : ℕ) → x < n → y < n → (before (holds requests) n d k x y || holds line x y) ≡ before (holds requests) n d (k + 1) x y
    unfolding before
    granted-line x y p q =
        ap (λ (c : Bool). (diagonal_granted (holds requests) n d x y && ltb (diagonal_wait n d x y) k) || c) (on_line x y p q ∙ here (cases_eq (diagonal_wait n d x y) k))
        ∙ spread (diagonal_granted (holds requests) n d x y) (ltb (diagonal_wait n d x y) k) (eqb (diagonal_wait n d x y) k)
        ∙ ap (λ (c : Bool). diagonal_granted (holds requests) n d x y && c) (sym (now-or-before k (diagonal_wait n d x y)))
      where
        here : (diagonal_wait n d x y ≡ k) ⊎ (diagonal_wait n d x y ≡ k → ⊥)
            → (cell x y && eqb (diagonal_wait n d x y) k) ≡ (diagonal_granted (holds requests) n d x y && eqb (diagonal_wait n d x y) k)
        here (inl e) = ap (λ (c : Bool). c && eqb (diagonal_wait n d x y) k) (sym (cell-granted x y e))
        here (inr e) = and_right (cell x y) _ (ne_eqb _ k e) ∙ sym (and_right (diagonal_granted (holds requests) n d x y) _ (ne_eqb _ k e))

        spread : (a b c : Bool) → ((a && b) || (a && c)) ≡ (a && (b || c))
        spread true b c = refl
        spread false b c = refl

    within-or : (x y : ℕ) → (within n (before (holds requests) n d k) x y || holds line x y) ≡ within n (before (holds requests) n d (k + 1)) x y
    within-or x y = go (ltb x n && ltb y n) refl
      where
        go : (v : Bool) → (ltb x n && ltb y n) ≡ v → ((v && before (holds requests) n d k x y) || holds line x y) ≡ (v && before (holds requests) n d (k + 1) x y)
        go true h = let t = and_parts (ltb x n) (ltb y n) h in granted-line x y (ltb-true x n t.0) (ltb-true y n t.1)
        go false h = off (holds line x y) refl
          where
            off : (b : Bool) → holds line x y ≡ b → b ≡ false
            off true e = let t = line-edge x y e in absurd (both_ways _ h (and_from (ltb x n) (ltb y n) (lt-ltb x n t.0) (lt-ltb y n t.1)))
            off false e = refl

    pub step : Front (holds requests) n d (k + 1) free' g'
    step =
        record {
          free-is = λ x y p q.
              let a : x < 8 = omega arith in
              let b : y < 8 = omega arith in
              held free' _ free-is x y a b
              ∙ ap₂ (λ (v w : Bool). v && not w) (s.free-is x y p q) (held crossing (joint line) crossing_is x y a b ∙ crossed x y p q)
              ∙ regroup (north_of (holds requests) n d k y) (west_of (holds requests) n d k x) (cell x (partner n d k x)) (cell (partner n d k y) y)
              ∙ ap₂ ◌&&◌ (sym (north-next y)) (sym (west-next x))
              ∙ ap (λ (m : ℕ). north_of (holds requests) n d m y && west_of (holds requests) n d m x) (sym (add-one k));
          edge = λ x y h.
              let b = held_below free' x y h in
              s.edge x y (and_parts (holds free x y) _ (sym (held free' _ free-is x y b.0 b.1) ∙ h)).0;
          grants = g-is ∙ table_of-ext (λ i o. holds g i o || holds line i o) (within n (before (holds requests) n d (k + 1)))
              (λ x y p q. ap (λ (c : Bool). c || holds line x y) (held g _ s.grants x y p q) ∙ within-or x y);
        }

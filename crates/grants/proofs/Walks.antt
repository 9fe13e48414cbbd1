-- How far a decision of the ripple arbiter has come, a row at a time: `free` has the outputs that are free.
use Rattle.std.proofs.Common.{◌≡◌, ℕ, zero, suc, ◌+◌, ◌-◌, ◌<◌, ◌≤◌, Bool, true, false, not, ◌&&◌, ◌||◌, eqb, ltb, ◌⊎◌, sym, refl, ap, ◌∙◌, ap₂, inl, inr, add-one, arith}
use Rattle.std.proofs.lemmas.Bool.{and_from, and_left, and_parts, and_right, both_ways, cases_Bool, cases_eq, cases_lt, cases_order, eq-eqb, eqb-true, lt-ltb, ltb-true, ne_eqb, not_from_false, not_from_true}
use Rattle.std.proofs.lemmas.Bool.Decides.{nat_tests}
use Rattle.pairs.specs.declared.ports.Ports.{Ports}
use Rattle.pairs.specs.declared.table.Table.{Table}
use Rattle.pairs.specs.Tables.{added, ahead, holds, inside, ports_of, removed, table_of, within}
use Rattle.pairs.proofs.PortSets.{inside-below, kept}
use Rattle.pairs.proofs.Tables.{held, table_of-ext}
use Rattle.pairs.proofs.Within.{within-at, within_none}
use Rattle.grants.specs.Ripple.{port, gap, along, north_at, west_at, turned, ripple_granted}
use Rattle.grants.proofs.Modulo.{rest}
use Rattle.grants.proofs.Rows.{cell_of, north-more, west-more, west-stays, port-lt, gap-lt, port-gap, gap-port, at_pair}

-- the pairs that are granted in the rows before u
unfoldable pub above : (ℕ → ℕ → Bool) → ℕ → ℕ → ℕ → ℕ → ℕ → ℕ → Bool
above R n a b u x y = ripple_granted R n a b x y && ltb (gap n a x) u

pub record Walk (R : ℕ → ℕ → Bool) (n a b u : ℕ) (free : Ports) (g : Table) : Type 0 where
  pub free-is : (y : ℕ) → y < n → inside free y ≡ north_at (turned R n a b) u (gap n b y)
  pub edge : (y : ℕ) → inside free y ≡ true → y < n
  pub grants : g ≡ table_of (within n (above R n a b u))

none_above : (w : ℕ) → ltb w 0 ≡ false
none_above w = grind (arith, nat_tests)

this-or-above : (u w : ℕ) → ltb w (u + 1) ≡ (eqb w u || ltb w u)
this-or-above u w = grind (arith, nat_tests)

and_both : (a b : Bool) → b ≡ true → (a && b) ≡ a
and_both true b e = e
and_both false b e = refl

pub begin : (R : ℕ → ℕ → Bool) (n a b : ℕ) (free : Ports) (g : Table) → n ≤ 8 → free ≡ ports_of (λ x. ltb x n) → g ≡ table_of (λ _ _. false) → Walk R n a b 0 free g
unfolding above north_at
begin R n a b free g small f e =
    record {
      free-is = λ y p. kept free _ f y (omega arith) ∙ lt-ltb y n p;
      edge = λ y h. ltb-true y n (sym (kept free _ f y (inside-below free y h)) ∙ h);
      grants = e ∙ table_of-ext (λ _ _. false) (within n (above R n a b 0)) (λ x y _ _. within_none n (above R n a b 0) x y (and_right (ripple_granted R n a b x y) _ (none_above (gap n a x))));
    }

pub finish : (R : ℕ → ℕ → Bool) (n a b : ℕ) (free : Ports) (g : Table) → a < n → Walk R n a b n free g → g ≡ table_of (within n (ripple_granted R n a b))
unfolding above
finish R n a b free g row s =
    s.grants ∙ table_of-ext (within n (above R n a b n)) (within n (ripple_granted R n a b))
    (λ x y _ _. within-at n (above R n a b n) (ripple_granted R n a b) x y (λ _ _. and_both (ripple_granted R n a b x y) _ (lt-ltb (gap n a x) n (gap-lt n a row x))))

-- ---- one row: the first of its cells that is requested and whose output is free grants
abbrev ready : (ℕ → ℕ → Bool) → ℕ → ℕ → Bool
ready Q u v = Q u v && north_at Q u v

west-high : (Q : ℕ → ℕ → Bool) (u v : ℕ) → ((j : ℕ) → j < v → ready Q u j ≡ false) → west_at Q u v ≡ true
unfolding west_at along
west-high Q u zero h = refl
west-high Q u (suc v) h =
    and_from (west_at Q u v) _ (west-high Q u v (λ j l. h j (omega arith))) (not_from_false _ (unready (Q u v) (north_at Q u v) (west_at Q u v) (h v (omega arith))))
  where
    unready : (q m w : Bool) → (q && m) ≡ false → (q && (m && w)) ≡ false
    unready true m w e = and_left m w e
    unready false m w e = refl

module _ (Q : ℕ → ℕ → Bool) (u : ℕ) where
  -- a cell that is not ready does not grant
  not-ready : (v : ℕ) → ready Q u v ≡ false → cell_of Q u v ≡ false
  unfolding cell_of
  not-ready v e = go (Q u v) (north_at Q u v) (west_at Q u v) e
    where
      go : (q m w : Bool) → (q && m) ≡ false → (q && (m && w)) ≡ false
      go true m w e = and_left m w e
      go false m w e = refl

  module _ (v : ℕ) (is-ready : ready Q u v ≡ true) (first : (j : ℕ) → ready Q u j ≡ true → v ≤ j) where
    grants-first : cell_of Q u v ≡ true
    unfolding cell_of
    grants-first =
        let p = and_parts (Q u v) (north_at Q u v) is-ready in
        and_from (Q u v) _ p.0 (and_from (north_at Q u v) _ p.1 (west-high Q u v (λ j l. earlier j l (cases_Bool (ready Q u j)))))
      where
        earlier : (j : ℕ) → j < v → (ready Q u j ≡ true) ⊎ (ready Q u j ≡ false) → ready Q u j ≡ false
        earlier j l (inl e) = absurd (omega (arith, first j e))
        earlier j l (inr e) = e

    grants-other : (j : ℕ) → (j ≡ v → ⊥) → cell_of Q u j ≡ false
    unfolding cell_of
    grants-other j ne = go (cases_order j v)
      where
        low : v < j → west_at Q u j ≡ false
        low l = west-stays Q u (suc v) j (west-more Q u v ∙ and_right (west_at Q u v) _ (not_from_true _ grants-first)) l

        before : j < v → (ready Q u j ≡ true) ⊎ (ready Q u j ≡ false) → cell_of Q u j ≡ false
        before l (inl e) = absurd (omega (arith, first j e))
        before l (inr e) = not-ready j e

        go : (j ≡ v) ⊎ ((j < v) ⊎ (v < j)) → cell_of Q u j ≡ false
        go (inl e) = absurd (ne e)
        go (inr (inl l)) = before l (cases_Bool (ready Q u j))
        go (inr (inr l)) = and_right (Q u j) _ (and_right (north_at Q u j) _ (low l))

-- going round after port 7 comes to the same order as going round after the last of n ports
same-order : (n b x y : ℕ) → n ≤ 8 → b < n → x < n → y < n → ahead b x ≤ ahead b y → gap n b x ≤ gap n b y
unfolding gap
same-order n b x y small first p q h =
    omega (arith, rest (x + (n - b)) n (omega arith) (omega arith), rest (y + (n - b)) n (omega arith) (omega arith))

module _ (requests : Table) (n a b : ℕ) (small : n ≤ 8) (row : a < n) (column : b < n) (u : ℕ) (deep : u < n)
    (asked : Ports) (free : Ports) (g : Table) (s : Walk (holds requests) n a b u free g)
    (outputs : Ports) (outputs-is : outputs ≡ ports_of (holds requests (port n a u))) (Asked-is : asked ≡ ports_of (λ y. inside outputs y && inside free y)) where
  asked-ready : (y : ℕ) → y < n → inside asked y ≡ ready (turned (holds requests) n a b) u (gap n b y)
  asked-ready y p =
      kept asked _ Asked-is y (omega arith)
      ∙ ap₂ ◌&&◌ (kept outputs _ outputs-is y (omega arith) ∙ ap (holds requests (port n a u)) (sym (port-gap n b column y p))) (s.free-is y p)

  asked-edge : (y : ℕ) → inside asked y ≡ true → y < n
  asked-edge y h = s.edge y (and_parts (inside outputs y) _ (sym (kept asked _ Asked-is y (inside-below asked y h)) ∙ h)).1

  -- what the row grants, by input and output
  row-grants : (x y : ℕ) → x < n → y < n → gap n a x ≡ u → ripple_granted (holds requests) n a b x y ≡ cell_of (turned (holds requests) n a b) u (gap n b y)
  row-grants x y p q e = at_pair (holds requests) n a b row column x y p q ∙ ap (λ (m : ℕ). cell_of (turned (holds requests) n a b) m (gap n b y)) e

  -- the grants of the rows up to this one, given those of this row
  next-grants : (G : ℕ → ℕ → Bool) → ((x y : ℕ) → x < n → y < n → gap n a x ≡ u → ripple_granted (holds requests) n a b x y ≡ G x y)
      → ((x y : ℕ) → x < n → y < n → (gap n a x ≡ u → ⊥) → G x y ≡ false) → ((x y : ℕ) → G x y ≡ true → (x < n) × (y < n)) → (x y : ℕ)
      → (G x y || within n (above (holds requests) n a b u) x y) ≡ within n (above (holds requests) n a b (u + 1)) x y
  unfolding above
  next-grants G here there edge x y = go (ltb x n && ltb y n) refl
    where
      at : x < n → y < n → (gap n a x ≡ u) ⊎ (gap n a x ≡ u → ⊥)
          → (G x y || (ripple_granted (holds requests) n a b x y && ltb (gap n a x) u)) ≡ (ripple_granted (holds requests) n a b x y && ltb (gap n a x) (u + 1))
      at p q (inl e) =
          ap₂ ◌||◌ (sym (here x y p q e)) (and_right (ripple_granted (holds requests) n a b x y) _ (not_yet e)) ∙ or-none (ripple_granted (holds requests) n a b x y)
          ∙ sym (and_both (ripple_granted (holds requests) n a b x y) _ (by-now e))
        where
          not_yet : gap n a x ≡ u → ltb (gap n a x) u ≡ false
          not_yet e = grind (arith, nat_tests)

          by-now : gap n a x ≡ u → ltb (gap n a x) (u + 1) ≡ true
          by-now e = grind (arith, nat_tests)

          or-none : (c : Bool) → (c || false) ≡ c
          or-none true = refl
          or-none false = refl
      at p q (inr e) =
          ap (λ (c : Bool). c || (ripple_granted (holds requests) n a b x y && ltb (gap n a x) u)) (there x y p q e)
          ∙ ap (λ (c : Bool). ripple_granted (holds requests) n a b x y && c) (sym (this-or-above u (gap n a x) ∙ ap (λ (c : Bool). c || ltb (gap n a x) u) (ne_eqb (gap n a x) u e)))

      go : (v : Bool) → (ltb x n && ltb y n) ≡ v
          → (G x y || (v && (ripple_granted (holds requests) n a b x y && ltb (gap n a x) u))) ≡ (v && (ripple_granted (holds requests) n a b x y && ltb (gap n a x) (u + 1)))
      go true h = let t = and_parts (ltb x n) (ltb y n) h in at (ltb-true x n t.0) (ltb-true y n t.1) (cases_eq (gap n a x) u)
      go false h = off (G x y) refl
        where
          off : (c : Bool) → G x y ≡ c → (c || false) ≡ false
          off true e = let t = edge x y e in absurd (both_ways _ h (and_from (ltb x n) (ltb y n) (lt-ltb x n t.0) (lt-ltb y n t.1)))
          off false e = refl

  -- the row grants nothing
  pub skip : ((y : ℕ) → inside asked y ≡ false) → Walk (holds requests) n a b (u + 1) free g
  skip none =
      record {
        free-is = λ y p.
            s.free-is y p
            ∙ sym (ap (λ (m : ℕ). north_at (turned (holds requests) n a b) m (gap n b y)) (add-one u) ∙ north-more (turned (holds requests) n a b) u (gap n b y)
            ∙ and_both (north_at (turned (holds requests) n a b) u (gap n b y)) _ (not_from_false _ (nothing y p)));
        edge = s.edge;
        grants = s.grants
            ∙ table_of-ext (within n (above (holds requests) n a b u)) (within n (above (holds requests) n a b (u + 1)))
            (λ x y _ _. next-grants (λ _ _. false) (λ x y p q e. row-grants x y p q e ∙ nothing y q) (λ x y _ _ _. refl) (λ x y h. absurd (both_ways false refl h)) x y);
      }
    where
      nothing : (y : ℕ) → y < n → cell_of (turned (holds requests) n a b) u (gap n b y) ≡ false
      nothing y p = not-ready (turned (holds requests) n a b) u (gap n b y) (sym (asked-ready y p) ∙ none y)

  -- the row grants its first free request
  pub give : (o : ℕ) → inside asked o ≡ true → ((y : ℕ) → inside asked y ≡ true → ahead b o ≤ ahead b y)
      → (free' : Ports) (g' : Table) → g' ≡ table_of (added (holds g) (port n a u) o) → free' ≡ ports_of (removed (inside free) o) → Walk (holds requests) n a b (u + 1) free' g'
  give o is-asked first free' g' g-is f-is =
      record {
        free-is = λ y p.
            kept free' _ f-is y (omega arith) ∙ ap₂ (λ (c d : Bool). not c && d) (same-cell y p) (s.free-is y p)
            ∙ and_comm (not (cell_of (turned (holds requests) n a b) u (gap n b y))) (north_at (turned (holds requests) n a b) u (gap n b y))
            ∙ sym (ap (λ (m : ℕ). north_at (turned (holds requests) n a b) m (gap n b y)) (add-one u) ∙ north-more (turned (holds requests) n a b) u (gap n b y));
        edge = λ y h. s.edge y (and_parts (not (eqb y o)) (inside free y) (sym (kept free' _ f-is y (inside-below free' y h)) ∙ h)).1;
        grants = g-is
            ∙ table_of-ext (added (holds g) (port n a u) o) (within n (above (holds requests) n a b (u + 1)))
            (λ x y l m. ap (λ (c : Bool). (eqb x (port n a u) && eqb y o) || c) (held g _ s.grants x y l m)
            ∙ next-grants (λ x y. eqb x (port n a u) && eqb y o)
            (λ x y p q e. row-grants x y p q e ∙ sym (same-cell y q) ∙ ap (λ (c : Bool). c && eqb y o) (sym (eq-eqb x (port n a u) (here x p e))))
            (λ x y p q e. and_left (eqb x (port n a u)) (eqb y o) (ne_eqb x (port n a u) (λ z. e (ap (gap n a) z ∙ gap-port n a row u deep))))
            (λ x y h. edges x y (and_parts (eqb x (port n a u)) (eqb y o) h)) x y);
      }
    where
      o_lt : o < n
      o_lt = asked-edge o is-asked

      ready-here : ready (turned (holds requests) n a b) u (gap n b o) ≡ true
      ready-here = sym (asked-ready o o_lt) ∙ is-asked

      first-here : (j : ℕ) → ready (turned (holds requests) n a b) u j ≡ true → gap n b o ≤ j
      first-here j e = go (cases_lt j n)
        where
          go : (j < n) ⊎ (n ≤ j) → gap n b o ≤ j
          go (inr l) = omega (arith, gap-lt n b column o)
          go (inl l) =
              let y : ℕ = port n b j in
              let q : y < n = port-lt n b column j in
              let z : gap n b y ≡ j = gap-port n b column j l in
              omega (arith, z, same-order n b o y small column o_lt q (first y (asked-ready y q ∙ ap (ready (turned (holds requests) n a b) u) z ∙ e)))

      same-cell : (y : ℕ) → y < n → eqb y o ≡ cell_of (turned (holds requests) n a b) u (gap n b y)
      same-cell y p = go (cases_eq y o)
        where
          go : (y ≡ o) ⊎ (y ≡ o → ⊥) → eqb y o ≡ cell_of (turned (holds requests) n a b) u (gap n b y)
          go (inl e) = eq-eqb y o e ∙ sym (ap (λ (m : ℕ). cell_of (turned (holds requests) n a b) u (gap n b m)) e ∙ grants-first (turned (holds requests) n a b) u (gap n b o) ready-here first-here)
          go (inr e) =
              ne_eqb y o e
              ∙ sym (grants-other (turned (holds requests) n a b) u (gap n b o) ready-here first-here (gap n b y) (λ z. e (sym (port-gap n b column y p) ∙ ap (port n b) z ∙ port-gap n b column o o_lt)))

      here : (x : ℕ) → x < n → gap n a x ≡ u → x ≡ port n a u
      here x p e = sym (port-gap n a row x p) ∙ ap (port n a) e

      edges : (x y : ℕ) → (eqb x (port n a u) ≡ true) × (eqb y o ≡ true) → (x < n) × (y < n)
      edges x y t = (omega (arith, eqb-true x (port n a u) t.0, port-lt n a row u), omega (arith, eqb-true y o t.1, o_lt))

      and_comm : (c d : Bool) → (c && d) ≡ (d && c)
      and_comm true true = refl
      and_comm true false = refl
      and_comm false true = refl
      and_comm false false = refl

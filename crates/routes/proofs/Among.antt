-- The first routes of a table, as a function of the place: which of them fits a VCI.
use Rattle.std.proofs.Common.{◌≡◌, ℕ, zero, suc, ◌+◌, ◌<◌, true, false, cond, ◌⊎◌, Some, None, Option, sym, refl, ap, ◌∙◌, inl, inr, add-one, arith}
use Rattle.std.proofs.lemmas.Bool.{cases_eq, cases_order, cases_Bool, both_ways, eq-eqb, eqb-true}
use Rattle.routes.specs.declared.route.Route.{Route}
use Rattle.routes.specs.Fits.{fits}
use Rattle.routes.specs.Table.{Apart, Within}

-- of the routes f 0 to f (n - 1), the last that fits circuit v
abbrev pub among : (ℕ → Route) → ℕ → ℕ → Option Route
among f zero v = None
among f (suc n) v = cond (fits (f n) v) (Some (f n)) (among f n v)

-- a route that fits has the VCI, and the other way round
pub fits-vci : (r : Route) (v : ℕ) → fits r v ≡ true → r.vci ≡ v
fits-vci r v e = eqb-true r.vci v e

pub vci-fits : (r : Route) (v : ℕ) → r.vci ≡ v → fits r v ≡ true
vci-fits r v e = eq-eqb r.vci v e

-- two places with one VCI are one place
pub one_place : (f : ℕ → Route) (n a b : ℕ) → Apart f n → a < n → b < n → (f a).vci ≡ (f b).vci → a ≡ b
one_place f n a b d la lb e =
    elim (cases_order a b) [
      | inl q ↦ q
      | inr q ↦ elim q [ inl p ↦ absurd (d a b (p, lb, e)) | inr p ↦ absurd (d b a (p, la, sym e)) ]
    ]

pub among_none : (f : ℕ → Route) (n v : ℕ) → ((k : ℕ) → k < n → fits (f k) v ≡ true → ⊥) → among f n v ≡ None
among_none f zero v h = refl
among_none f (suc n) v h =
    elim (cases_Bool (fits (f n) v)) [
      | inl t ↦ absurd (h n (omega arith) t)
      | inr t ↦ rw t (among_none f n v (λ k l. h k (omega arith)))
    ]

-- where no two have one VCI, the answer is the route at any place that fits
pub among-at : (f : ℕ → Route) (n v k : ℕ) → Apart f n → k < n → fits (f k) v ≡ true → among f n v ≡ Some (f k)
among-at f zero v k d l e = absurd (omega arith)
among-at f (suc n) v k d l e =
    elim (cases_Bool (fits (f n) v)) [
      | inl t ↦
          let q : n ≡ k = one_place f (suc n) n k d (omega arith) l (fits-vci (f n) v t ∙ sym (fits-vci (f k) v e)) in
          rw t (ap (λ (m : ℕ). Some (f m)) q)
      | inr t ↦ elim (cases_eq k n) [
        | inl q ↦ absurd (both_ways (fits (f n) v) t (ap (λ (m : ℕ). fits (f m) v) (sym q) ∙ e))
        | inr q ↦ rw t (among-at f n v k (λ a b h. d a b (h.0, omega arith, h.2)) (omega arith) e)
      ]
    ]

-- places that hold the same route, or routes that both do not fit, give the same answer
pub among-agree : (f g : ℕ → Route) (n v : ℕ) → ((k : ℕ) → k < n → (g k ≡ f k) ⊎ ((fits (g k) v ≡ false) × (fits (f k) v ≡ false))) → among g n v ≡ among f n v
among-agree f g zero v h = refl
among-agree f g (suc n) v h =
    let rest : among g n v ≡ among f n v = among-agree f g n v (λ k l. h k (omega arith)) in
    elim (h n (omega arith)) [ inl q ↦ rw (q, rest) | inr q ↦ rw (q.0, q.1) rest ]

-- what a place holds depends only on the places below n
apart-same : (f g : ℕ → Route) (n : ℕ) → ((k : ℕ) → k < n → g k ≡ f k) → Apart f n → Apart g n
apart-same f g n h d a b p =
    let ea : g a ≡ f a = h a (omega (arith, p.0, p.1)) in
    let eb : g b ≡ f b = h b p.1 in
    d a b (p.0, p.1, sym (ap (λ (r : Route). r.vci) ea) ∙ (p.2 ∙ ap (λ (r : Route). r.vci) eb))

-- g is f with route r at place k, of the n that are used
pub record Put (f g : ℕ → Route) (n k : ℕ) (r : Route) : Type 0 where
  pub inside : k < n
  pub here : g k ≡ r
  pub there : (a : ℕ) → a < n → (a ≡ k → ⊥) → g a ≡ f a

put-vci : (f g : ℕ → Route) (n k : ℕ) (r : Route) → Put f g n k r → (f k).vci ≡ r.vci → (a : ℕ) → a < n → (g a).vci ≡ (f a).vci
put-vci f g n k r w e a l =
    elim (cases_eq a k) [
      | inl q ↦ rw q (ap (λ (x : Route). x.vci) w.here ∙ sym e)
      | inr q ↦ ap (λ (x : Route). x.vci) (w.there a l q)
    ]

pub apart-put : (f g : ℕ → Route) (n k : ℕ) (r : Route) → Put f g n k r → (f k).vci ≡ r.vci → Apart f n → Apart g n
apart-put f g n k r w e d a b p =
    let same = put-vci f g n k r w e in
    d a b (p.0, p.1, sym (same a (omega (arith, p.0, p.1))) ∙ (p.2 ∙ same b p.1))

pub within-put : (f g : ℕ → Route) (n k : ℕ) (r : Route) → Put f g n k r → r.output < 8 → Within f n → Within g n
within-put f g n k r w o h a l =
    elim (cases_eq a k) [ inl q ↦ rw (q, w.here) o | inr q ↦ rw (w.there a l q) (h a l) ]

-- a route put in the place of one with the same VCI
pub among-put : (f g : ℕ → Route) (n k : ℕ) (r : Route) → Put f g n k r → (f k).vci ≡ r.vci → Apart f n → (v : ℕ) → among g n v ≡ cond (fits r v) (Some r) (among f n v)
among-put f g n k r w e d v =
    elim (cases_Bool (fits r v)) [
      | inl t ↦
          rw t (among-at g n v k (apart-put f g n k r w e d) w.inside (rw w.here t) ∙ ap (λ (x : Route). Some x) w.here)
      | inr t ↦ rw t (among-agree f g n v (λ a l. elim (cases_eq a k) [ inl q ↦ inr (rw (q, w.here) t, rw (q, e) t) | inr q ↦ inl (w.there a l q) ]))
    ]

-- g is f with one more route, r
pub record More (f g : ℕ → Route) (n : ℕ) (r : Route) : Type 0 where
  pub last : g n ≡ r
  pub first : (a : ℕ) → a < n → g a ≡ f a

pub apart_more : (f g : ℕ → Route) (n : ℕ) (r : Route) → More f g n r → ((k : ℕ) → k < n → fits (f k) r.vci ≡ true → ⊥) → Apart f n → Apart g (n + 1)
apart_more f g n r w none d a b p =
    let la : a < n = omega (arith, p.0, p.1) in
    elim (cases_eq b n) [
      | inl q ↦
          none a la (vci-fits (f a) r.vci (sym (ap (λ (x : Route). x.vci) (w.first a la)) ∙ (p.2 ∙ (ap (λ (m : ℕ). (g m).vci) q ∙ ap (λ (x : Route). x.vci) w.last))))
      | inr q ↦ apart-same f g n w.first d a b (p.0, omega (arith, p.1), p.2)
    ]

pub within_more : (f g : ℕ → Route) (n : ℕ) (r : Route) → More f g n r → r.output < 8 → Within f n → Within g (n + 1)
within_more f g n r w o h a l =
    elim (cases_eq a n) [
      | inl q ↦ rw (q, w.last) o
      | inr q ↦ let la : a < n = omega arith in rw (w.first a la) (h a la)
    ]

pub among-more : (f g : ℕ → Route) (n : ℕ) (r : Route) → More f g n r → (v : ℕ) → among g (n + 1) v ≡ cond (fits r v) (Some r) (among f n v)
among-more f g n r w v =
    let e : among g n v ≡ among f n v = among-agree f g n v (λ a l. inl (w.first a l)) in
    rw (add-one n, w.last, e)

-- g is f without the route at place k, the last of its n + 1 routes being moved there
pub record Less (f g : ℕ → Route) (n k : ℕ) : Type 0 where
  pub inside : k < n + 1
  pub here : g k ≡ f n
  pub there : (a : ℕ) → a < n → (a ≡ k → ⊥) → g a ≡ f a

-- where the route at place a came from
came_from : (f g : ℕ → Route) (n k a : ℕ) → Less f g n k → a < n → (b : ℕ) × (b < n + 1) × (b ≡ k → ⊥) × (g a ≡ f b) × (((a ≡ k) × (b ≡ n)) ⊎ (a ≡ b))
came_from f g n k a w l =
    elim (cases_eq a k) [
      | inl q ↦ (n, omega arith, (λ e. omega arith), rw q w.here, inl (q, refl))
      | inr q ↦ (a, omega arith, q, w.there a l q, inr refl)
    ]

pub apart-less : (f g : ℕ → Route) (n k : ℕ) → Less f g n k → Apart f (n + 1) → Apart g n
apart-less f g n k w d a b h =
    let la : a < n = omega arith in
    let x = came_from f g n k a w la in
    let y = came_from f g n k b w h.1 in
    let e : (f x.0).vci ≡ (f y.0).vci = sym (ap (λ (r : Route). r.vci) x.3) ∙ (h.2 ∙ ap (λ (r : Route). r.vci) y.3) in
    let s : x.0 ≡ y.0 = one_place f (n + 1) x.0 y.0 d x.1 y.1 e in
    elim x.4 [
      | inl p ↦ elim y.4 [ inl q ↦ omega arith | inr q ↦ omega arith ]
      | inr p ↦ elim y.4 [ inl q ↦ omega arith | inr q ↦ omega arith ]
    ]

pub within-less : (f g : ℕ → Route) (n k : ℕ) → Less f g n k → Within f (n + 1) → Within g n
within-less f g n k w h a l =
    let x = came_from f g n k a w l in
    rw x.3 (h x.0 x.1)

-- a route that fits among n, or none
some_fits : (f : ℕ → Route) (n v : ℕ) → ((k : ℕ) × (k < n) × (fits (f k) v ≡ true)) ⊎ ((k : ℕ) → k < n → fits (f k) v ≡ true → ⊥)
some_fits f zero v = inr (λ k l e. omega arith)
some_fits f (suc n) v =
    elim (cases_Bool (fits (f n) v)) [
      | inl t ↦ inl (n, omega arith, t)
      | inr t ↦ elim (some_fits f n v) [
        | inl p ↦ inl (p.0, omega (arith, p.1), p.2)
        | inr p ↦ inr (λ k l e. elim (cases_eq k n) [ inl s ↦ both_ways (fits (f n) v) t (ap (λ (m : ℕ). fits (f m) v) (sym s) ∙ e) | inr s ↦ p k (omega arith) e ])
      ]
    ]

pub among-less : (f g : ℕ → Route) (n k : ℕ) → Less f g n k → Apart f (n + 1) → (v : ℕ) → among g n v ≡ cond (fits (f k) v) None (among f (n + 1) v)
among-less f g n k w d v =
    elim (cases_Bool (fits (f k) v)) [
      | inl t ↦
          rw t (among_none g n v (λ a l e.
          let x = came_from f g n k a w l in
          x.2 (one_place f (n + 1) x.0 k d x.1 w.inside (fits-vci (f x.0) v (rw x.3 at e) ∙ sym (fits-vci (f k) v t)))))
      | inr t ↦ rw t (elim (some_fits g n v) [
        | inl p ↦
            let x = came_from f g n k p.0 w p.1 in
            among-at g n v p.0 (apart-less f g n k w d) p.1 p.2
            ∙ (ap (λ (r : Route). Some r) x.3 ∙ sym (among-at f (n + 1) v x.0 d x.1 (rw x.3 at p.2)))
        | inr p ↦ among_none g n v p ∙ sym (among_none f (n + 1) v (λ b l e.
            let ne : b ≡ k → ⊥ = λ q. both_ways (fits (f k) v) t (ap (λ (m : ℕ). fits (f m) v) (sym q) ∙ e) in
            elim (cases_eq b n) [
              | inl q ↦
                  let lk : k < n = omega (arith, w.inside, ne) in
                  p k lk (rw w.here (ap (λ (m : ℕ). fits (f m) v) (sym q) ∙ e))
              | inr q ↦ let lb : b < n = omega arith in p b lb (rw (w.there b lb ne) e)
            ]))
      ])
    ]

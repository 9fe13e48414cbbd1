-- Places in a history, and what is gathered from two parts of one.
use Rattle.std.proofs.Common.{◌≡◌, ℕ, ◌+◌, true, false, cond, List, [], ◌∷◌, ◌++◌, length, Some, None, Option, refl, ap, ◌∙◌, subst, arith}
use Rattle.std.proofs.lemmas.List.{length-append}
use Rattle.cells.specs.Header.{vci_of}
use Rattle.routes.specs.declared.route.Route.{Route}
use Rattle.law.specs.History.{Effect, Acceptance, Departure, accepting, departing, added, both, route_of, with_route, accepted, sent_from, sent}

-- of each effect of a history, with those since and those before it
abbrev pub Each : (List Effect → Effect → List Effect → Type 0) → List Effect → Type 0
Each P h = (since past : List Effect) (e : Effect) → h ≡ since ++ (e ∷ past) → P since e past

pub each_none : (P : List Effect → Effect → List Effect → Type 0) → Each P []
each_none P [] past e f = let z : ◌≡◌ {A = ℕ} 0 1 = cc in absurd (omega arith)
each_none P (x ∷ since) past e f = let z : ◌≡◌ {A = ℕ} 0 1 = cc in absurd (omega arith)

pub each_more : (P Q : List Effect → Effect → List Effect → Type 0) (e : Effect) (h : List Effect) → Each P h → Q [] e h
    → ((since past : List Effect) (x : Effect) → P since x past → Q (e ∷ since) x past) → Each Q (e ∷ h)
each_more P Q e h all here there [] past x f =
    let p : h ≡ past = cc in
    let q : e ≡ x = cc in
    subst (λ (l : List Effect). Q [] x l) p (subst (λ (y : Effect). Q [] y h) q here)
each_more P Q e h all here there (y ∷ since) past x f =
    let p : e ≡ y = cc in
    let q : h ≡ since ++ (x ∷ past) = cc in
    subst (λ (z : Effect). Q (z ∷ since) x past) p (there since past x (all since past x q))

length-added : {X : Type 0} (x : Option X) (xs ys zs : List X) → length xs ≡ length ys + length zs → length (added x xs) ≡ length (added x ys) + length zs
length-added None xs ys zs e = e
length-added (Some x) xs ys zs e = omega (arith, length-append xs (x ∷ []), length-append ys (x ∷ []))

-- what was sent in two parts of a history
pub sent-append : (i o : ℕ) (since past : List Effect) → length (sent i o (since ++ past)) ≡ length (sent i o since) + length (sent i o past)
sent-append i o [] past = omega arith
sent-append i o (e ∷ since) past = length-added (sent_from i o e.departure) (sent i o (since ++ past)) (sent i o since) (sent i o past) (sent-append i o since past)

-- a departure adds to its queue's cells, and an acceptance by a route to its own
pub sent-more : (i o : ℕ) (d : Departure) (h : List Effect) → sent i o (departing d ∷ h) ≡ cond (both i o d.input d.output) (sent i o h ++ (d.bytes ∷ [])) (sent i o h)
sent-more i o d h = elim (both i o d.input d.output) as (λ b. added (cond b (Some d.bytes) None) (sent i o h) ≡ cond b (sent i o h ++ (d.bytes ∷ [])) (sent i o h)) [
  | true ↦ refl
  | false ↦ refl
]

pub accepted-more : (i o : ℕ) (x : Acceptance) (r : Route) (h : List Effect) → route_of x.input (vci_of x.cell) h ≡ Some r
    → accepted i o (accepting x ∷ h) ≡ cond (both i o x.input x.output) (accepted i o h ++ (record { cell = x.cell; new_vci = r.new_vci } ∷ [])) (accepted i o h)
accepted-more i o x r h e =
    ap (λ (y : Option Route). added (cond (both i o x.input x.output) (with_route x.cell y) None) (accepted i o h)) e
    ∙ (elim (both i o x.input x.output) as (λ b. added (cond b (with_route x.cell (Some r)) None) (accepted i o h) ≡ cond b (accepted i o h ++ (record { cell = x.cell; new_vci = r.new_vci } ∷ [])) (accepted i o h)) [
      | true ↦ refl
      | false ↦ refl
    ])

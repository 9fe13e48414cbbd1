-- Every acceptance of a lawful history has its route, so that the cells accepted for a queue are as many as the arrives that say so.
use Rattle.std.proofs.Common.{◌≡◌, ℕ, ◌+◌, true, false, cond, List, [], ◌∷◌, ◌++◌, length, Some, None, Option, sym, refl, ap, ◌∙◌, append_assoc, arith, length-append}
use Rattle.routes.specs.declared.route.Route.{Route}
use Rattle.law.specs.declared.memory.Block.{Block}
use Rattle.law.specs.History.{Acceptance, Effect, accepted, accepted_for, added, both, counted, with_route}
use Rattle.law.specs.Law.{ByRoute}
use Rattle.delays.specs.Leaving.{is_for}

-- what one effect more adds to either
one_more : (i o : ℕ) (past : List Effect) (a : Option Acceptance) (xs : List Block) → ((x : Acceptance) → a ≡ Some x → ByRoute past x)
    → length (added (accepted_for i o past a) xs) ≡ cond (is_for i o a) (1 + length xs) (length xs)
one_more i o past None xs routed = refl
one_more i o past (Some x) xs routed =
    let r : Route = (routed x refl).0 in
    let block : Block = record { cell = x.cell; new_vci = r.new_vci } in
    ap (λ (y : Option Route). length (added (cond (both i o x.input x.output) (with_route x.cell y) None) xs)) (routed x refl).1
    ∙ (elim (both i o x.input x.output) as (λ b. length (added (cond b (Some block) None) xs) ≡ cond b (1 + length xs) (length xs)) [
      | true ↦ omega (arith, length-append xs (block ∷ []))
      | false ↦ refl
    ])

-- `past` being what is left of the history h after `since`
pub as_many : (h : List Effect)
    → ((since past : List Effect) (e : Effect) (x : Acceptance) → h ≡ since ++ (e ∷ past) → e.acceptance ≡ Some x → ByRoute past x)
    → (i o : ℕ) (past since : List Effect) → h ≡ since ++ past → length (accepted i o past) ≡ counted (λ e. is_for i o e.acceptance) past
as_many h routed i o [] since split = refl
as_many h routed i o (e ∷ past) since split =
    one_more i o past e.acceptance (accepted i o past) (λ x. routed since past e x split)
    ∙ ap (λ (c : ℕ). cond (is_for i o e.acceptance) (1 + c) c) (as_many h routed i o past (since ++ (e ∷ [])) (split ∙ sym (append_assoc since (e ∷ []) past)))

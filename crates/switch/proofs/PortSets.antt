-- Sets of ports as functions of the port.
use Rattle.std.proofs.Common.{◌≡◌, ℕ, ◌<◌, Bool, true, false, cond, ◌||◌, eqb, sym, refl, ap, ◌∙◌, inl, inr, arith}
use mathlib.Core.Path.{fun_ext}
use Rattle.std.proofs.lemmas.Bool.{ne_eqb, cases_lt}
use Rattle.pairs.specs.declared.ports.Ports.{Ports}
use Rattle.pairs.specs.Tables.{inside, ports_of, joined}
use Rattle.pairs.proofs.PortSets.{kept, not-inside}
use Rattle.queues.specs.Queues.{put}

pub inside-none : (p : Ports) → p ≡ ports_of (λ _. false) → inside p ≡ (λ _. false)
inside-none p e = fun_ext (λ x. elim (cases_lt x 8) [ inl l ↦ kept p (λ _. false) e x l | inr l ↦ not-inside p x l ])

pub inside-with : (p q : Ports) (k : ℕ) → k < 8 → q ≡ ports_of (joined (inside p) k) → inside q ≡ put (inside p) k true
inside-with p q k l e = fun_ext (λ x. elim (cases_lt x 8) [
  | inl m ↦ kept q (joined (inside p) k) e x m ∙ either (eqb x k) (inside p x)
  | inr m ↦ not-inside q x m ∙ sym (ap (λ (b : Bool). cond b true (inside p x)) (ne_eqb x k (omega arith)) ∙ not-inside p x m)
])
  where
    either : (a b : Bool) → (a || b) ≡ cond a true b
    either true b = refl
    either false b = refl

-- The calls that leave queues and grants as they are: routes, open, take a note, look, line, and every refused call.
use Rattle.std.proofs.Common.{◌≡◌, ℕ, ◌+◌, ◌*◌, ◌<◌, ◌≤◌, Bool, true, false, cond, ◌&&◌, eqb, ltb, List, ◌∷◌, length, Some, None, Option, sym, refl, ap, ◌∙◌, subst, arith}
use Rattle.queues.specs.Queues.{Queues}
use Rattle.routes.specs.declared.route.Route.{Route}
use Rattle.routes.specs.Table.{changed}
use Rattle.law.specs.declared.memory.Block.{Block}
use Rattle.law.specs.declared.stage.Stage.{Stage}
use Rattle.law.specs.declared.stage.Stage.TheVariants.{Closed, Arriving, Sending}
use Rattle.arbiters.specs.Meaning.{Meaning}
use Rattle.law.specs.History.{Effect, Routing, routes_only, rerouting, sent, closings}
use Rattle.law.proofs.Counts.{times}
use Rattle.law.proofs.Invariant.{pending, Invariant, nothing-kept, kept_more}

module _ {A : Type 0} (a : Meaning A) (s : A) {h : List Effect} {ports : ℕ} {arbiter : A} {stage : Stage} {grants : List (ℕ × ℕ)} {granted : ℕ}
    {route : ℕ → ℕ → Option Route} {cells : ℕ → Queues} {blocks : List Block} (inv : Invariant a s h ports arbiter stage grants granted route cells blocks) where
  -- routes may change, and a slot may be opened
  beside : (x : Option Routing) (stage' : Stage) (route' : ℕ → ℕ → Option Route) → pending stage ≡ pending stage' → (stage' ≡ Sending → stage ≡ Sending) → (stage ≡ Sending → stage' ≡ Sending)
      → ((p c : ℕ) → route' p c ≡ rerouting p c x (route p c)) → ((p c : ℕ) (r : Route) → route' p c ≡ Some r → r.output < a.ports s)
      → Invariant a s (routes_only x ∷ h) ports arbiter stage' grants granted route' cells blocks
  beside x stage' route' same back forth routes outputs = record {
    ports-is = inv.ports-is;
    same-ports = inv.same-ports;
    same-bound = inv.same-bound;
    state = inv.state;
    routes = λ p c. routes p c ∙ ap (rerouting p c x) (inv.routes p c);
    outputs = outputs;
    calm = λ f. inv.calm (λ e. f (forth e));
    ready = inv.ready;
    inside = inv.inside;
    queues = inv.queues;
    distinct = inv.distinct;
    kept = kept_more a s stage stage' grants grants arbiter arbiter cells cells h (routes_only x) inv.kept (nothing-kept a s (routes_only x) refl refl)
        (λ since i o k d. (d.0, d.1, λ l. ((d.2 l).0, subst (λ (n : ℕ). closings since + cond (ltb 0 (times i o grants)) 0 (n + a.wait arbiter i o) ≤ length (sent i o since) * (a.bound s + 1) + a.bound s) same (d.2 l).1)));
    current = λ e.
        let c = inv.current (back e) in
        record { before = c.before; slot = routes_only x ∷ c.slot; whole = ap (λ l. routes_only x ∷ l) c.whole; one-decide = c.one-decide; no-close = c.no-close; exact = c.exact; number = c.number; small = c.small };
  }

  -- nothing happens
  pub stays : Invariant a s (routes_only None ∷ h) ports arbiter stage grants granted route cells blocks
  stays = beside None stage route refl (λ e. e) (λ e. e) (λ p c. refl) inv.outputs

  pub opened : stage ≡ Closed → Invariant a s (routes_only None ∷ h) ports arbiter Arriving grants granted route cells blocks
  opened e = beside None Arriving route (ap pending e)
      (λ f. let z : ◌≡◌ {A = ℕ} 0 1 = ap pending f in absurd (omega arith))
      (λ f. let z : ◌≡◌ {A = ℕ} 0 1 = ap pending (sym e ∙ f) in absurd (omega arith))
      (λ p c. refl) inv.outputs

  pub changes : (p c : ℕ) (r : Option Route) → ((x : Route) → r ≡ Some x → x.output < a.ports s)
      → Invariant a s (routes_only (Some (record { input = p; vci = c; route = r })) ∷ h) ports arbiter stage grants granted (changed route p c r) cells blocks
  changes p c r small = beside (Some (record { input = p; vci = c; route = r })) stage (changed route p c r) refl (λ e. e) (λ e. e)
      (λ q d. refl) (λ q d x e. outputs q d x (eqb q p && eqb c d) e)
    where
      outputs : (q d : ℕ) (x : Route) (b : Bool) → cond b r (route q d) ≡ Some x → x.output < a.ports s
      outputs q d x true e = small x e
      outputs q d x false e = inv.outputs q d x e

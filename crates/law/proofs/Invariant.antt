-- What holds between the history of a run and the switch that stands afterwards.
use Rattle.std.proofs.Common.{◌≡◌, ℕ, ◌+◌, ◌*◌, ◌<◌, ◌≤◌, true, cond, ltb, List, [], ◌∷◌, ◌++◌, map, length, Some, None, Option, sym, ap, ◌∙◌, arith}
use Rattle.std.proofs.lemmas.List.{length-append, length-map}
use Rattle.std.specs.List.{slice_get, AllByRecursion as All}
use Rattle.queues.specs.Queues.{Queues}
use Rattle.routes.specs.declared.route.Route.{Route}
use Rattle.law.specs.declared.memory.Block.{Block}
use Rattle.law.specs.declared.stage.Stage.{Stage}
use Rattle.law.specs.declared.stage.Stage.TheVariants.{Closed, Arriving, Sending}
use Rattle.arbiters.specs.Meaning.{Meaning}
use Rattle.law.specs.View.{Memory, View, place, leaving, pairs}
use Rattle.law.specs.History.{Effect, Acceptance, deciding, route_of, accepted, sent, served, closings, decisions, waits, waiting, state_after, grants_at}
use Rattle.law.specs.Law.{ByRoute, Matched}
use Rattle.law.proofs.Counts.{times, count}
use Rattle.law.proofs.Histories.{Each, each_more}

-- the blocks of a queue of input i hold what was accepted for it and not sent from it
pub record Held (cells : List Block) (i : ℕ) (ins : List Block) (outs : List (List ℕ)) (queue : List ℕ) : Type 0 where
  pub gone : List Block
  pub rest : List Block
  pub all : ins ≡ gone ++ rest
  pub sent : outs ≡ map leaving gone
  pub held : map (λ b. slice_get cells (place i b)) queue ≡ map Some rest
  pub long : All (λ (b : Block). length b.cell ≡ 53) rest

pub lengths : {cells : List Block} {i : ℕ} {ins : List Block} {outs : List (List ℕ)} {queue : List ℕ} → Held cells i ins outs queue → length outs + length queue ≡ length ins
lengths {cells} {i} {ins} {outs} {queue} h =
    let e = ap length h.all ∙ length-append h.gone h.rest in
    let f = ap length h.sent ∙ length-map h.gone leaving in
    let g = sym (length-map queue (λ b. slice_get cells (place i b))) ∙ ap length h.held ∙ length-map h.rest Some in
    omega (arith, e, f, g)

-- no block of an input stands in two places, and each is one of 16
pub record Distinct (q : Queues) : Type 0 where
  pub once : (o b : ℕ) → count b (q.queue o) + count b q.free ≤ 1
  pub apart : (o u b : ℕ) → (o ≡ u → ⊥) → count b (q.queue o) + count b (q.queue u) + count b q.free ≤ 1
  pub few : (o b : ℕ) → 1 ≤ count b (q.queue o) + count b q.free → b < 16

-- 1 between a decide and its close
abbrev pub pending : Stage → ℕ
pending Closed = 0
pending Arriving = 0
pending Sending = 1

module _ {A : Type 0} (a : Meaning A) (s : A) where
  -- how many closings the queue (i, o) may have to wait for: none if its grant is on the way
  abbrev pub load : Stage → List (ℕ × ℕ) → A → ℕ → ℕ → ℕ
  load stage grants arbiter i o = cond (ltb 0 (times i o grants)) 0 (pending stage + a.wait arbiter i o)

  -- of a cell accepted with k ahead, since when c slots closed and j cells of its queue were sent
  abbrev pub Due : (waiting load i o k c j : ℕ) → Type 0
  Due waiting load i o k c j = (i < a.ports s) × (o < a.ports s) × (j ≤ k → (k + 1 ≤ j + waiting) × (c + load ≤ j * (a.bound s + 1) + a.bound s))

  -- of each effect
  pub record Kept (stage : Stage) (grants : List (ℕ × ℕ)) (arbiter : A) (cells : ℕ → Queues) (since : List Effect) (e : Effect) (past : List Effect) : Type 0 where
    pub ahead : (x : Acceptance) → e.acceptance ≡ Some x → length (sent x.input x.output past) + x.ahead ≡ length (accepted x.input x.output past)
    pub by-route : (x : Acceptance) → e.acceptance ≡ Some x → ByRoute past x
    pub due : (x : Acceptance) → e.acceptance ≡ Some x
        → Due (length ((cells x.input).queue x.output)) (load stage grants arbiter x.input x.output) x.input x.output x.ahead (closings since) (length (sent x.input x.output since))
    pub matched : (g : ℕ) → e.closing ≡ Some g → Matched a s past g

  -- of the slot that is being sent
  pub record Current (h : List Effect) (grants : List (ℕ × ℕ)) (granted : ℕ) : Type 0 where
    pub before : List Effect
    pub slot : List Effect
    pub whole : h ≡ slot ++ (deciding ∷ before)
    pub one-decide : decisions slot ≡ 0
    pub no-close : closings slot ≡ 0
    pub exact : served slot ++ grants ≡ pairs (a.ports s) (grants_at a s before)
    pub number : granted ≡ length (served slot ++ grants)
    pub small : (i o : ℕ) → waits before i o ≡ true → (i < a.ports s) × (o < a.ports s)

  pub record Invariant (h : List Effect) (ports : ℕ) (arbiter : A) (stage : Stage) (grants : List (ℕ × ℕ)) (granted : ℕ)
      (route : ℕ → ℕ → Option Route) (cells : ℕ → Queues) (blocks : List Block) : Type 0 where
    pub ports-is : ports ≡ a.ports s
    pub same-ports : a.ports arbiter ≡ a.ports s
    pub same-bound : a.bound arbiter ≡ a.bound s
    pub state : arbiter ≡ state_after a s h
    pub routes : (p c : ℕ) → route p c ≡ route_of p c h
    pub outputs : (p c : ℕ) (r : Route) → route p c ≡ Some r → r.output < a.ports s
    -- no grant waits but while sending, and each has a cell to send
    pub calm : (stage ≡ Sending → ⊥) → grants ≡ []
    pub ready : (i o : ℕ) → times i o grants ≤ length ((cells i).queue o)
    pub inside : (i o : ℕ) → 1 ≤ length ((cells i).queue o) → (i < a.ports s) × (o < a.ports s)
    pub queues : (i o : ℕ) → Held blocks i (accepted i o h) (sent i o h) ((cells i).queue o)
    pub distinct : (i : ℕ) → Distinct (cells i)
    pub kept : Each (Kept stage grants arbiter cells) h
    pub current : stage ≡ Sending → Current h grants granted

  abbrev pub InvariantAt : List Effect → View A → Memory → Type 0
  InvariantAt h v m = Invariant h v.ports v.arbiter v.slot.stage v.slot.grants v.slot.granted v.tables.route v.cells m.cells

  -- an effect that neither accepts a cell nor closes a slot
  pub nothing-kept : {stage : Stage} {grants : List (ℕ × ℕ)} {arbiter : A} {cells : ℕ → Queues} {since past : List Effect} (e : Effect)
      → e.acceptance ≡ None → e.closing ≡ None → Kept stage grants arbiter cells since e past
  nothing-kept e f g = record {
    ahead = λ x y. absurd (differ (sym f ∙ y));
    by-route = λ x y. absurd (differ (sym f ∙ y));
    due = λ x y. absurd (differ (sym f ∙ y));
    matched = λ x y. absurd (differ (sym g ∙ y));
  }
    where
      differ : {X : Type 0} {x : X} → None ≡ Some x → ⊥
      differ y = let z : ◌≡◌ {A = ℕ} 0 1 = cc in omega arith

  -- one effect more
  pub kept_more : (stage stage' : Stage) (grants grants' : List (ℕ × ℕ)) (arbiter arbiter' : A) (cells cells' : ℕ → Queues) (h : List Effect) (e : Effect)
      → Each (Kept stage grants arbiter cells) h → Kept stage' grants' arbiter' cells' [] e h
      → ((since : List Effect) (i o k : ℕ) → Due (length ((cells i).queue o)) (load stage grants arbiter i o) i o k (closings since) (length (sent i o since))
      → Due (length ((cells' i).queue o)) (load stage' grants' arbiter' i o) i o k (closings (e ∷ since)) (length (sent i o (e ∷ since))))
      → Each (Kept stage' grants' arbiter' cells') (e ∷ h)
  kept_more stage stage' grants grants' arbiter arbiter' cells cells' h e all here there =
      each_more (Kept stage grants arbiter cells) (Kept stage' grants' arbiter' cells') e h all here
      (λ since past x k. record {
        ahead = k.ahead;
        by-route = k.by-route;
        due = λ y f. there since y.input y.output y.ahead (k.due y f);
        matched = k.matched;
      })

-- Decide and close.
use Rattle.std.proofs.Common.{◌≡◌, ℕ, ◌+◌, ◌<◌, ◌≤◌, Bool, true, false, cond, not, ◌&&◌, ltb, List, [], ◌∷◌, ◌++◌, length, Option, sym, refl, ap, ◌∙◌, subst, ap₂, inl, inr, arith}
use Rattle.std.proofs.lemmas.Bool.{ltb-true, lt-ltb, le-ltb, cases_Bool, cases_lt, and_parts}
use Rattle.std.proofs.lemmas.List.{append-nil}
use Rattle.pairs.specs.declared.table.Table.{Table}
use Rattle.pairs.specs.Tables.{holds, table_of}
use Rattle.pairs.proofs.Tables.{holds_of, table_of-ext}
use Rattle.queues.specs.Queues.{Queues}
use Rattle.routes.specs.declared.route.Route.{Route}
use Rattle.law.specs.declared.memory.Block.{Block}
use Rattle.law.specs.declared.stage.Stage.{Stage}
use Rattle.law.specs.declared.stage.Stage.TheVariants.{Closed, Arriving, Sending}
use Rattle.arbiters.specs.Meaning.{Meaning, Lawful as Rules}
use Rattle.law.specs.View.{pairs}
use Rattle.law.specs.Calls.{is_empty}
use Rattle.law.specs.History.{Effect, deciding, closing, accepted, sent, served, closings, waits, waiting, state_after, grants_at, with_input, with_output}
use Rattle.law.specs.Law.{Matched}
use Rattle.law.proofs.Counts.{times, times-input, times-output}
use Rattle.law.proofs.Grants.{times-rows, input-rows, output-rows}
use Rattle.law.proofs.Invariant.{lengths, pending, load, Due, Kept, Invariant, nothing-kept, kept_more}

waits_if : (queue : List ℕ) (x y : ℕ) → x + length queue ≡ y → not (is_empty queue) ≡ ltb x y
waits_if [] x y e = sym (le-ltb x y (omega arith))
waits_if (b ∷ queue) x y e = sym (lt-ltb x y (omega arith))

filled : (queue : List ℕ) → not (is_empty queue) ≡ true → 1 ≤ length queue
filled [] e = let z : ◌≡◌ {A = ℕ} 0 1 = cc in absurd (omega arith)
filled (b ∷ queue) e = omega arith

fills : (queue : List ℕ) → 1 ≤ length queue → not (is_empty queue) ≡ true
fills [] l = absurd (omega arith)
fills (b ∷ queue) l = refl

not-above : {x : ℕ} → x ≡ 0 → ltb 0 x ≡ false
not-above {x} e = ap (λ (y : ℕ). ltb 0 y) e

module _ {A : Type 0} (a : Meaning A) (rules : Rules a) (s : A) where
  ports-state : (h : List Effect) → a.ports (state_after a s h) ≡ a.ports s
  ports-state [] = refl
  ports-state (e ∷ past) = elim e.decided as (λ b. a.ports (cond b (a.after (state_after a s past) (waiting (a.ports s) past)) (state_after a s past)) ≡ a.ports s) [
    | true ↦ (rules.within (state_after a s past)).same-ports (waiting (a.ports s) past) ∙ ports-state past
    | false ↦ ports-state past
  ]

  -- the grants of a decision of the arbiter x on the table t, counted
  module _ (t : Table) (x : A) (n : ℕ) (e : a.ports x ≡ n) where
    abbrev G : ℕ → ℕ → Bool
    G = holds (a.answer x t)

    once-input : (i : ℕ) → with_input i (pairs n (a.answer x t)) ≤ 1
    once-input i = input-rows G i n n (omega arith) (λ i o u p q r. (rules.apart x t).inputs i o u)

    once-output : (o : ℕ) → with_output o (pairs n (a.answer x t)) ≤ 1
    once-output o = output-rows G o n n (omega arith) (λ i j o p q r. (rules.apart x t).outputs i j o)

    times-is : (i o : ℕ) → i < n → o < n → times i o (pairs n (a.answer x t)) ≡ cond (G i o) 1 0
    times-is i o l m = times-rows G i o n n ∙ ap₂ (λ (u v : Bool). cond {A = ℕ} (u && (v && G i o)) 1 0) (lt-ltb i n l) (lt-ltb o n m)

    granted-times : (i o : ℕ) → i < n → o < n → G i o ≡ true → 1 ≤ times i o (pairs n (a.answer x t))
    granted-times i o l m g = omega (arith, times-is i o l m ∙ ap (λ (b : Bool). cond {A = ℕ} b 1 0) g)

    times-granted : (i o : ℕ) → 1 ≤ times i o (pairs n (a.answer x t)) → (i < n) × (o < n) × (G i o ≡ true)
    times-granted i o l = elim (cases_Bool (ltb i n && (ltb o n && G i o))) [
      | inl f ↦
          let p = and_parts (ltb i n) (ltb o n && G i o) f in
          let q = and_parts (ltb o n) (G i o) p.1 in
          (ltb-true i n p.0, ltb-true o n q.0, q.1)
      | inr f ↦ absurd (omega (arith, times-rows G i o n n ∙ ap (λ (b : Bool). cond {A = ℕ} b 1 0) f))
    ]

    served-busy : (i o : ℕ) → i < n → o < n → holds t i o ≡ true → 1 ≤ with_input i (pairs n (a.answer x t)) + with_output o (pairs n (a.answer x t))
    served-busy i o l m h = elim (cases_Bool (G i o)) [
      | inl g ↦ omega (arith, granted-times i o l m g, times-input i o (pairs n (a.answer x t)))
      | inr g ↦ elim (rules.maximal x t i o (omega arith) (omega arith) h g) [
        | inl y ↦ let r = rules.requested x t y.0 o y.1 in omega (arith, granted-times y.0 o (omega (arith, r.1)) m y.1, times-output y.0 o (pairs n (a.answer x t)))
        | inr y ↦ let r = rules.requested x t i y.0 y.1 in omega (arith, granted-times i y.0 l (omega (arith, r.2)) y.1, times-input i y.0 (pairs n (a.answer x t)))
      ]
    ]

  module _ {h : List Effect} {ports : ℕ} {arbiter : A} {stage : Stage} {grants : List (ℕ × ℕ)} {granted : ℕ}
      {route : ℕ → ℕ → Option Route} {cells : ℕ → Queues} {blocks : List Block} (inv : Invariant a s h ports arbiter stage grants granted route cells blocks) where
    abbrev F : ℕ → ℕ → Bool
    F i o = (ltb i ports && ltb o ports) && not (is_empty ((cells i).queue o))

    -- the requests are the queues in which a cell waits by the history
    requests-are : table_of F ≡ waiting (a.ports s) h
    requests-are = table_of-ext F (λ i o. (ltb i (a.ports s) && ltb o (a.ports s)) && waits h i o)
        (λ i o _ _. ap₂ (λ (n : ℕ) (b : Bool). (ltb i n && ltb o n) && b) inv.ports-is (waits_if ((cells i).queue o) (length (sent i o h)) (length (accepted i o h)) (lengths (inv.queues i o))))

    -- a queue that is not empty is requested, and no other
    requested : (i o : ℕ) → i < a.ports s → o < a.ports s → 1 ≤ length ((cells i).queue o) → holds (table_of F) i o ≡ true
    requested i o l m c =
        let w = (rules.within s).eight in
        holds_of F i o (omega arith) (omega arith) ∙ ap₂ (λ (x y : Bool). x && y) (ap₂ (λ (x y : Bool). x && y) (lt-ltb i ports (omega (arith, inv.ports-is))) (lt-ltb o ports (omega (arith, inv.ports-is)))) (fills ((cells i).queue o) c)

    requested-filled : (i o : ℕ) → i < a.ports s → o < a.ports s → holds (table_of F) i o ≡ true → 1 ≤ length ((cells i).queue o)
    requested-filled i o l m e =
        let w = (rules.within s).eight in
        filled ((cells i).queue o) (and_parts (ltb i ports && ltb o ports) (not (is_empty ((cells i).queue o))) (sym (holds_of F i o (omega arith) (omega arith)) ∙ e)).1

    ports-now : a.ports arbiter ≡ ports
    ports-now = inv.same-ports ∙ sym inv.ports-is

    abbrev grants' : List (ℕ × ℕ)
    grants' = pairs ports (a.answer arbiter (table_of F))

    abbrev arbiter' : A
    arbiter' = a.after arbiter (table_of F)

    -- a cell that is not granted is nearer to its grant
    due : stage ≡ Arriving → (i o k c j : ℕ) → Due a s (length ((cells i).queue o)) (load a s stage grants arbiter i o) i o k c j
        → Due a s (length ((cells i).queue o)) (load a s Sending grants' arbiter' i o) i o k c j
    due e i o k c j d = (
      d.0,
      d.1,
      λ l.
          let before : load a s stage grants arbiter i o ≡ a.wait arbiter i o =
          ap₂ (λ (x : Bool) (y : ℕ). cond x 0 (y + a.wait arbiter i o)) (not-above (ap (times i o) (inv.calm (λ f. let z : ◌≡◌ {A = ℕ} 0 1 = ap pending (sym e ∙ f) in omega arith)))) (ap pending e) ∙ omega arith in
          let size = inv.same-ports in
          let p = inv.ports-is in (
            (d.2 l).0,
            elim (cases_Bool (holds (a.answer arbiter (table_of F)) i o)) [
              | inl g ↦
                  let one = granted-times (table_of F) arbiter ports ports-now i o (omega (arith, d.0)) (omega (arith, d.1)) g in
                  let zero-load : load a s Sending grants' arbiter' i o ≡ 0 = ap (λ (x : Bool). cond x 0 (1 + a.wait arbiter' i o)) (lt-ltb 0 (times i o grants') one) in
                  omega (arith, (d.2 l).1, zero-load)
              | inr g ↦
                  let none = times-is (table_of F) arbiter ports ports-now i o (omega (arith, d.0)) (omega (arith, d.1)) ∙ ap (λ (b : Bool). cond {A = ℕ} b 1 0) g in
                  let some-load : load a s Sending grants' arbiter' i o ≡ 1 + a.wait arbiter' i o = ap (λ (x : Bool). cond x 0 (1 + a.wait arbiter' i o)) (not-above none) in
                  let less = rules.nearer arbiter (table_of F) i o (omega (arith, d.0)) (omega (arith, d.1)) (requested i o d.0 d.1 (omega (arith, (d.2 l).0))) g in
                  omega (arith, (d.2 l).1, some-load, before, less)
            ],
          ),
    )

    pub decided : stage ≡ Arriving → Invariant a s (deciding ∷ h) ports arbiter' Sending grants' (length grants') route cells blocks
    decided e = record {
      ports-is = inv.ports-is;
      same-ports = (rules.within arbiter).same-ports (table_of F) ∙ inv.same-ports;
      same-bound = (rules.within arbiter).same-bound (table_of F) ∙ inv.same-bound;
      state = ap₂ a.after inv.state requests-are;
      routes = inv.routes;
      outputs = inv.outputs;
      calm = λ f. absurd (f refl);
      ready = ready;
      inside = inv.inside;
      queues = inv.queues;
      distinct = inv.distinct;
      kept = kept_more a s stage Sending grants grants' arbiter arbiter' cells cells h deciding inv.kept (nothing-kept a s deciding refl refl) (λ since i o k d. due e i o k (closings since) (length (sent i o since)) d);
      current = λ _. record {
        before = h;
        slot = [];
        whole = refl;
        one-decide = refl;
        no-close = refl;
        exact = ap₂ pairs inv.ports-is (ap₂ a.answer inv.state requests-are);
        number = refl;
        small = λ i o w. inv.inside i o (omega (arith, ltb-true (length (sent i o h)) (length (accepted i o h)) w, lengths (inv.queues i o)));
      };
    }
      where
        ready : (i o : ℕ) → times i o grants' ≤ length ((cells i).queue o)
        ready i o = elim (cases_lt 0 (times i o grants')) [
          | inl l ↦
              let g = times-granted (table_of F) arbiter ports ports-now i o l in
              let p = inv.ports-is in
              let w = (rules.within s).eight in
              let r = rules.requested arbiter (table_of F) i o g.2 in
              let full = requested-filled i o (omega (arith, g.0)) (omega (arith, g.1)) r.0 in
              let one = times-is (table_of F) arbiter ports ports-now i o g.0 g.1 ∙ ap (λ (b : Bool). cond {A = ℕ} b 1 0) g.2 in
              omega (arith, full, one)
          | inr l ↦ omega arith
        ]

    matches : stage ≡ Sending → grants ≡ [] → Matched a s h granted
    matches e f =
        let c = inv.current e in
        let t = waiting (a.ports s) c.before in
        let x = state_after a s c.before in
        let all : served c.slot ≡ pairs (a.ports s) (grants_at a s c.before) = sym (append-nil (served c.slot)) ∙ ap (λ (l : List (ℕ × ℕ)). served c.slot ++ l) (sym f) ∙ c.exact in
        record {
          before = c.before;
          decide = deciding;
          slot = c.slot;
          whole = c.whole;
          decided = refl;
          one-decide = c.one-decide;
          no-close = c.no-close;
          exact = all;
          number = c.number ∙ ap length (ap (λ (l : List (ℕ × ℕ)). served c.slot ++ l) f ∙ append-nil (served c.slot));
          input-once = λ i. subst (λ (l : List (ℕ × ℕ)). with_input i l ≤ 1) (sym all) (once-input t x (a.ports s) (ports-state c.before) i);
          output-once = λ o. subst (λ (l : List (ℕ × ℕ)). with_output o l ≤ 1) (sym all) (once-output t x (a.ports s) (ports-state c.before) o);
          busy = λ i o w. subst (λ (l : List (ℕ × ℕ)). 1 ≤ with_input i l + with_output o l) (sym all)
              (let n = c.small i o w in
              let m = (rules.within s).eight in
              served-busy t x (a.ports s) (ports-state c.before) i o n.0 n.1
              (holds_of (λ i o. (ltb i (a.ports s) && ltb o (a.ports s)) && waits c.before i o) i o (omega (arith, n.0)) (omega (arith, n.1))
              ∙ ap₂ (λ (x y : Bool). x && y) (ap₂ (λ (x y : Bool). x && y) (lt-ltb i (a.ports s) n.0) (lt-ltb o (a.ports s) n.1)) w));
        }

    pub closed : stage ≡ Sending → grants ≡ [] → Invariant a s (closing granted ∷ h) ports arbiter Closed grants granted route cells blocks
    closed e f = record {
      ports-is = inv.ports-is;
      same-ports = inv.same-ports;
      same-bound = inv.same-bound;
      state = inv.state;
      routes = inv.routes;
      outputs = inv.outputs;
      calm = λ _. f;
      ready = inv.ready;
      inside = inv.inside;
      queues = inv.queues;
      distinct = inv.distinct;
      kept = kept_more a s stage Closed grants grants arbiter arbiter cells cells h (closing granted) inv.kept here
          (λ since i o k d. (
            d.0,
            d.1,
            λ l.
                let x : load a s stage grants arbiter i o ≡ 1 + a.wait arbiter i o = ap₂ (λ (x : Bool) (y : ℕ). cond x 0 (y + a.wait arbiter i o)) (not-above (ap (times i o) f)) (ap pending e) in
                let y : load a s Closed grants arbiter i o ≡ 0 + a.wait arbiter i o = ap (λ (x : Bool). cond x 0 (0 + a.wait arbiter i o)) (not-above (ap (times i o) f)) in
                ((d.2 l).0, omega (arith, (d.2 l).1, x, y)),
          ));
      current = λ g. absurd (let z : ◌≡◌ {A = ℕ} 0 1 = ap pending g in omega arith);
    }
      where
        here : Kept a s Closed grants arbiter cells [] (closing granted) h
        here = record {
          ahead = λ x y. absurd (let z : ◌≡◌ {A = ℕ} 0 1 = cc in omega arith);
          by-route = λ x y. absurd (let z : ◌≡◌ {A = ℕ} 0 1 = cc in omega arith);
          due = λ x y. absurd (let z : ◌≡◌ {A = ℕ} 0 1 = cc in omega arith);
          matched = λ g y. let n : granted ≡ g = cc in subst (Matched a s h) n (matches e f);
        }

-- A cell is sent.
use Rattle.std.proofs.Common.{◌≡◌, ℕ, ◌+◌, ◌*◌, ◌<◌, ◌≤◌, Bool, true, false, cond, eqb, ltb, List, [], ◌∷◌, ◌++◌, length, get_or, drop, Option, sym, refl, ap, ◌∙◌, subst, ap₂, add-mul, one-mul, arith}
use Rattle.std.proofs.lemmas.Bool.{lt-ltb}
use Rattle.std.proofs.lemmas.List.{length-append, append_assoc, length-drop}
use Rattle.queues.specs.Queues.{Queues, put, taken}
use Rattle.routes.specs.declared.route.Route.{Route}
use Rattle.law.specs.declared.memory.Block.{Block}
use Rattle.law.specs.declared.stage.Stage.{Stage}
use Rattle.law.specs.declared.stage.Stage.TheVariants.{Sending}
use Rattle.arbiters.specs.Meaning.{Meaning, Lawful as Rules}
use Rattle.law.specs.View.{leaving}
use Rattle.law.specs.History.{Effect, Departure, departing, both, accepted, sent, served, closings}
use Rattle.law.proofs.Counts.{times}
use Rattle.law.proofs.Histories.{sent-more}
use Rattle.law.proofs.Invariant.{Held, Distinct, pending, load, Due, Invariant, nothing-kept, kept_more}
use Rattle.law.proofs.Blocks.{Takes, takes, Headed, headed, distinct-taken, queue-put, both-same, same-both}

cons_of : (xs : List ℕ) → 1 ≤ length xs → xs ≡ get_or xs 0 0 ∷ drop 1 xs
cons_of [] l = absurd (omega arith)
cons_of (x ∷ xs) l = refl

module _ {A : Type 0} (a : Meaning A) (rules : Rules a) (s : A) {h : List Effect} {ports : ℕ} {arbiter : A} {stage : Stage} {grants : List (ℕ × ℕ)} {granted : ℕ}
    {route : ℕ → ℕ → Option Route} {cells : ℕ → Queues} {blocks : List Block} (inv : Invariant a s h ports arbiter stage grants granted route cells blocks) where
  -- the first grant is x
  module _ (here : stage ≡ Sending) (x : ℕ × ℕ) (left : List (ℕ × ℕ)) (grants-is : grants ≡ x ∷ left) where
    abbrev p : ℕ
    p = x.0

    abbrev o : ℕ
    o = x.1

    abbrev b : ℕ
    b = get_or ((cells p).queue o) 0 0

    abbrev rest : List ℕ
    rest = drop 1 ((cells p).queue o)

    abbrev cells' : ℕ → Queues
    cells' = put cells p (taken (cells p) o)

    times-first : (i u : ℕ) → times i u grants ≡ cond (both i u p o) 1 0 + times i u left
    times-first i u = ap (times i u) grants-is

    some : 1 ≤ length ((cells p).queue o)
    some = omega (arith, inv.ready p o, times-first p o, ap (λ (f : Bool). cond {A = ℕ} f 1 0) (same-both p o))

    take-it : Takes (cells p) (taken (cells p) o) o b rest
    take-it = takes (cells p) o b rest (cons_of ((cells p).queue o) some)

    pub head : Headed blocks p (accepted p o h) (sent p o h) b rest
    head = headed (inv.queues p o) b rest (cons_of ((cells p).queue o) some)

    pub output-small : o < a.ports s
    output-small = (inv.inside p o some).1

    queue-is : (i u : ℕ) → (cells' i).queue u ≡ cond (both i u p o) rest ((cells i).queue u)
    queue-is i u = queue-put cells (taken (cells p) o) p o rest i u take-it.queue

    length-flag : (i u : ℕ) (f : Bool) → (f ≡ true → (i ≡ p) × (u ≡ o)) → cond f 1 0 + length (cond f rest ((cells i).queue u)) ≡ length ((cells i).queue u)
    length-flag i u false w = omega arith
    length-flag i u true w =
        let e = w refl in
        omega (arith, some, ap₂ (λ (y z : ℕ). length ((cells y).queue z)) e.0 e.1, length-drop 1 ((cells p).queue o))

    shorter : (i u : ℕ) → cond (both i u p o) 1 0 + length ((cells' i).queue u) ≡ length ((cells i).queue u)
    shorter i u = ap (λ (l : List ℕ). cond (both i u p o) 1 0 + length l) (queue-is i u) ∙ length-flag i u (both i u p o) (both-same i u p o)

    -- sent as y, which is the head as it leaves
    module _ (y : List ℕ) (is-head : y ≡ leaving head.block) where
      abbrev departure : Departure
      departure = record { input = p; output = o; bytes = y }

      held-flag : (i u : ℕ) (f : Bool) → (f ≡ true → (i ≡ p) × (u ≡ o))
          → Held blocks i (accepted i u h) (cond f (sent i u h ++ (y ∷ [])) (sent i u h)) (cond f rest ((cells i).queue u))
      held-flag i u false w = inv.queues i u
      held-flag i u true w =
          let e = w refl in
          subst (λ (t : ℕ). Held blocks t (accepted t u h) (sent t u h ++ (y ∷ [])) rest) (sym e.0)
          (subst (λ (t : ℕ). Held blocks p (accepted p t h) (sent p t h ++ (y ∷ [])) rest) (sym e.1)
          (subst (λ (t : List ℕ). Held blocks p (accepted p o h) (sent p o h ++ (t ∷ [])) rest) (sym is-head) head.after))

      held-now : (i u : ℕ) → Held blocks i (accepted i u h) (sent i u (departing departure ∷ h)) ((cells' i).queue u)
      held-now i u =
          subst (λ (l : List ℕ). Held blocks i (accepted i u h) (sent i u (departing departure ∷ h)) l) (sym (queue-is i u))
          (subst (λ (l : List (List ℕ)). Held blocks i (accepted i u h) l (cond (both i u p o) rest ((cells i).queue u))) (sym (sent-more i u departure h))
          (held-flag i u (both i u p o) (both-same i u p o)))

      distinct-flag : (i : ℕ) (f : Bool) → Distinct (cond f (taken (cells p) o) (cells i))
      distinct-flag i true = distinct-taken (cells p) (taken (cells p) o) o b (inv.distinct p) rest take-it
      distinct-flag i false = inv.distinct i

      at_most : (f : Bool) (i u : ℕ) → a.wait arbiter i u ≤ a.bound s → cond f 0 (pending stage + a.wait arbiter i u) ≤ 1 + a.bound s
      at_most true i u l = omega arith
      at_most false i u l = omega (arith, ap pending here)

      -- the other queues' cells wait as before, and this one's next cell at most a bound and the closing more
      due-flag : (i u k c j : ℕ) (f : Bool) (out : List (List ℕ)) → both i u p o ≡ f → length out ≡ j
          → Due a s (length ((cells i).queue u)) (load a s stage grants arbiter i u) i u k c j
          → Due a s (length ((cells' i).queue u)) (load a s stage left arbiter i u) i u k c (length (cond f (out ++ (y ∷ [])) out))
      due-flag i u k c j false out e n d =
          let no_one : ◌≡◌ {A = ℕ} (cond (both i u p o) 1 0) 0 = ap (λ (f : Bool). cond {A = ℕ} f 1 0) e in
          let same : times i u grants ≡ times i u left = omega (arith, times-first i u, no_one) in
          let as_before : load a s stage grants arbiter i u ≡ load a s stage left arbiter i u = ap (λ (t : ℕ). cond (ltb 0 t) 0 (pending stage + a.wait arbiter i u)) same in (
            d.0,
            d.1,
            λ l.
                let r = d.2 (omega arith) in (
                  omega (arith, r.0, shorter i u, no_one),
                  subst (λ (t : ℕ). c + load a s stage left arbiter i u ≤ t * (a.bound s + 1) + a.bound s) (sym n) (omega (arith, r.1, as_before)),
                ),
          )
      due-flag i u k c j true out e n d =
          let one : ◌≡◌ {A = ℕ} (cond (both i u p o) 1 0) 1 = ap (λ (f : Bool). cond {A = ℕ} f 1 0) e in
          let none : load a s stage grants arbiter i u ≡ 0 = ap (λ (b : Bool). cond b 0 (pending stage + a.wait arbiter i u)) (lt-ltb 0 (times i u grants) (omega (arith, times-first i u, one))) in
          let size-now = inv.same-ports in
          let near = (rules.within arbiter).waits i u (omega (arith, d.0)) (omega (arith, d.1)) in
          let most : load a s stage left arbiter i u ≤ 1 + a.bound s = at_most (ltb 0 (times i u left)) i u (omega (arith, near, inv.same-bound)) in
          let count : length (out ++ (y ∷ [])) ≡ j + 1 = omega (arith, length-append out (y ∷ [])) in (
            d.0,
            d.1,
            λ l.
                let r = d.2 (omega arith) in (
                  omega (arith, r.0, shorter i u, one, count),
                  subst (λ (t : ℕ). c + load a s stage left arbiter i u ≤ t * (a.bound s + 1) + a.bound s) (sym count)
                      (omega (arith, r.1, none, most, add-mul j 1 (a.bound s + 1), one-mul (a.bound s + 1))),
                ),
          )

      due-more : (since : List Effect) (i u k : ℕ) → Due a s (length ((cells i).queue u)) (load a s stage grants arbiter i u) i u k (closings since) (length (sent i u since))
          → Due a s (length ((cells' i).queue u)) (load a s stage left arbiter i u) i u k (closings since) (length (sent i u (departing departure ∷ since)))
      due-more since i u k d =
          subst (λ (l : List (List ℕ)). Due a s (length ((cells' i).queue u)) (load a s stage left arbiter i u) i u k (closings since) (length l)) (sym (sent-more i u departure since))
          (due-flag i u k (closings since) (length (sent i u since)) (both i u p o) (sent i u since) refl refl d)

      pub departed : Invariant a s (departing departure ∷ h) ports arbiter stage left granted route cells' blocks
      departed = record {
        ports-is = inv.ports-is;
        same-ports = inv.same-ports;
        same-bound = inv.same-bound;
        state = inv.state;
        routes = inv.routes;
        outputs = inv.outputs;
        calm = λ f. absurd (f here);
        ready = λ i u. omega (arith, inv.ready i u, shorter i u, times-first i u);
        inside = λ i u l. inv.inside i u (omega (arith, shorter i u));
        queues = held-now;
        distinct = λ i. distinct-flag i (eqb i p);
        kept = kept_more a s stage stage grants left arbiter arbiter cells cells' h (departing departure) inv.kept (nothing-kept a s (departing departure) refl refl) due-more;
        current = λ e.
            let c = inv.current e in
            let list : (served c.slot ++ (x ∷ [])) ++ left ≡ served c.slot ++ grants = append_assoc (served c.slot) (x ∷ []) left ∙ ap (λ (g : List (ℕ × ℕ)). served c.slot ++ g) (sym grants-is) in
            record {
              before = c.before;
              slot = departing departure ∷ c.slot;
              whole = ap (λ l. departing departure ∷ l) c.whole;
              one-decide = c.one-decide;
              no-close = c.no-close;
              exact = list ∙ c.exact;
              number = c.number ∙ ap length (sym list);
              small = c.small;
            };
      }

-- A cell is accepted.
use Rattle.std.proofs.Common.{◌≡◌, ℕ, ◌+◌, ◌*◌, ◌<◌, ◌≤◌, Bool, true, false, cond, eqb, ltb, List, [], ◌∷◌, ◌++◌, length, set, Some, Option, sym, refl, ap, ◌∙◌, subst, ap₂, arith}
use Rattle.std.proofs.lemmas.List.{length-append}
use Rattle.std.specs.List.{slice_get}
use Rattle.cells.specs.Header.{vci_of}
use Rattle.queues.specs.Queues.{Queues, put, joined}
use Rattle.routes.specs.declared.route.Route.{Route}
use Rattle.law.specs.declared.memory.Block.{Block}
use Rattle.law.specs.declared.stage.Stage.{Stage}
use Rattle.law.specs.declared.stage.Stage.TheVariants.{Arriving, Sending}
use Rattle.arbiters.specs.Meaning.{Meaning, Lawful as Rules}
use Rattle.law.specs.View.{place}
use Rattle.law.specs.History.{Effect, Acceptance, accepting, both, route_of, accepted, sent}
use Rattle.law.specs.Law.{ByRoute}
use Rattle.law.proofs.Counts.{times, count, count-first}
use Rattle.law.proofs.Histories.{accepted-more}
use Rattle.law.proofs.Invariant.{Held, lengths, Distinct, pending, load, Kept, Invariant, kept_more}
use Rattle.law.proofs.Blocks.{Joins, joins, nth-set-other, nth-set-same, held-other, held-joined, distinct-joined, queue-put, both-same, same-both}

same_place : (i p c b : ℕ) → c < 16 → b < 16 → place i c ≡ place p b → (i ≡ p) × (c ≡ b)
same_place i p c b l m e = (omega arith, omega arith)

module _ {A : Type 0} (a : Meaning A) (rules : Rules a) (s : A) {h : List Effect} {ports : ℕ} {arbiter : A} {stage : Stage} {grants : List (ℕ × ℕ)} {granted : ℕ}
    {route : ℕ → ℕ → Option Route} {cells : ℕ → Queues} {blocks : List Block} (inv : Invariant a s h ports arbiter stage grants granted route cells blocks) where
  -- the cell x comes to input p, its route is r, and b is the first free block
  module _ (p : ℕ) (x : List ℕ) (r : Route) (b : ℕ) (free : List ℕ) (here : stage ≡ Arriving) (lp : p < a.ports s) (long : length x ≡ 53) (size : length blocks ≡ ports * 16)
      (known : route p (vci_of x) ≡ Some r) (room : (cells p).free ≡ b ∷ free) where
    abbrev o : ℕ
    o = r.output

    abbrev block : Block
    block = record { cell = x; new_vci = r.new_vci }

    abbrev cells' : ℕ → Queues
    cells' = put cells p (joined (cells p) o)

    abbrev blocks' : List Block
    blocks' = set blocks (place p b) block

    abbrev acceptance : Acceptance
    acceptance = record { input = p; cell = x; output = o; ahead = length ((cells p).queue o) }

    join : Joins (cells p) (joined (cells p) o) o b
    join = joins (cells p) o b free room

    counts-free : 1 ≤ count b (cells p).free
    counts-free = subst (λ (l : List ℕ). 1 ≤ count b l) (sym room) (count-first b free)

    b-few : b < 16
    b-few = (inv.distinct p).few 0 b (omega (arith, counts-free))

    output-small : o < a.ports s
    output-small = inv.outputs p (vci_of x) r known

    queue-is : (i u : ℕ) → (cells' i).queue u ≡ cond (both i u p o) ((cells p).queue o ++ (b ∷ [])) ((cells i).queue u)
    queue-is i u = queue-put cells (joined (cells p) o) p o ((cells p).queue o ++ (b ∷ [])) i u join.queue

    by-history : route_of p (vci_of x) h ≡ Some r
    by-history = sym (inv.routes p (vci_of x)) ∙ known

    -- no other cell's block is written
    untouched : (i u c : ℕ) → 1 ≤ count c ((cells i).queue u) → slice_get blocks' (place i c) ≡ slice_get blocks (place i c)
    untouched i u c l = nth-set-other blocks (place p b) (place i c) block (λ e.
        let r = same_place i p c b ((inv.distinct i).few u c (omega arith)) b-few e in
        let there : 1 ≤ count b ((cells p).queue u) = subst (λ (y : ℕ). 1 ≤ count y ((cells p).queue u)) r.1 (subst (λ (y : ℕ). 1 ≤ count c ((cells y).queue u)) r.0 l) in
        omega (arith, (inv.distinct p).once u b, counts-free, there))

    held-flag : (i u : ℕ) (f : Bool) → (f ≡ true → (i ≡ p) × (u ≡ o))
        → Held blocks' i (cond f (accepted i u h ++ (block ∷ [])) (accepted i u h)) (sent i u h) (cond f ((cells p).queue o ++ (b ∷ [])) ((cells i).queue u))
    held-flag i u false w = held-other blocks' (inv.queues i u) (untouched i u)
    held-flag i u true w =
        let e = w refl in
        let same : (cells i).queue u ≡ (cells p).queue o = ap₂ (λ (y z : ℕ). (cells y).queue z) e.0 e.1 in
        let lands : slice_get blocks' (place i b) ≡ Some block =
        ap (λ (y : ℕ). slice_get blocks' (place y b)) e.0 ∙ nth-set-same blocks (place p b) block (omega (arith, b-few, inv.ports-is)) in
        subst (λ (l : List ℕ). Held blocks' i (accepted i u h ++ (block ∷ [])) (sent i u h) (l ++ (b ∷ []))) same
        (held-joined blocks' (inv.queues i u) (untouched i u) b block lands long)

    held-now : (i u : ℕ) → Held blocks' i (accepted i u (accepting acceptance ∷ h)) (sent i u h) ((cells' i).queue u)
    held-now i u =
        subst (λ (l : List ℕ). Held blocks' i (accepted i u (accepting acceptance ∷ h)) (sent i u h) l) (sym (queue-is i u))
        (subst (λ (l : List Block). Held blocks' i l (sent i u h) (cond (both i u p o) ((cells p).queue o ++ (b ∷ [])) ((cells i).queue u))) (sym (accepted-more i u acceptance r h by-history))
        (held-flag i u (both i u p o) (both-same i u p o)))

    longer : (i u : ℕ) (f : Bool) → (f ≡ true → (i ≡ p) × (u ≡ o)) → length ((cells i).queue u) ≤ length (cond f ((cells p).queue o ++ (b ∷ [])) ((cells i).queue u))
    longer i u false w = omega arith
    longer i u true w =
        let e = w refl in
        omega (arith, ap₂ (λ (y z : ℕ). length ((cells y).queue z)) e.0 e.1, length-append ((cells p).queue o) (b ∷ []))

    more : (i u : ℕ) → length ((cells i).queue u) ≤ length ((cells' i).queue u)
    more i u = subst (λ (l : List ℕ). length ((cells i).queue u) ≤ length l) (sym (queue-is i u)) (longer i u (both i u p o) (both-same i u p o))

    inside-flag : (i u : ℕ) (f : Bool) → (f ≡ true → (i ≡ p) × (u ≡ o)) → 1 ≤ length (cond f ((cells p).queue o ++ (b ∷ [])) ((cells i).queue u)) → (i < a.ports s) × (u < a.ports s)
    inside-flag i u false w l = inv.inside i u l
    inside-flag i u true w l = let e = w refl in (omega (arith, e.0), omega (arith, e.1, output-small))

    distinct-flag : (i : ℕ) (f : Bool) → Distinct (cond f (joined (cells p) o) (cells i))
    distinct-flag i true = distinct-joined (cells p) (joined (cells p) o) o b (inv.distinct p) join
    distinct-flag i false = inv.distinct i

    not-sending : stage ≡ Sending → ⊥
    not-sending f = let z : ◌≡◌ {A = ℕ} 0 1 = ap pending (sym here ∙ f) in omega arith

    -- the new cell's own wait begins within the bound
    new : Kept a s stage grants arbiter cells' [] (accepting acceptance) h
    new =
        let grown : length ((cells p).queue o) + 1 ≤ length ((cells' p).queue o) =
        omega (arith, ap length (queue-is p o ∙ ap (λ (f : Bool). cond f ((cells p).queue o ++ (b ∷ [])) ((cells p).queue o)) (same-both p o)), length-append ((cells p).queue o) (b ∷ [])) in
        let light : load a s stage grants arbiter p o ≡ a.wait arbiter p o =
        ap₂ (λ (g : List (ℕ × ℕ)) (y : ℕ). cond (ltb 0 (times p o g)) 0 (y + a.wait arbiter p o)) (inv.calm not-sending) (ap pending here) ∙ omega arith in
        let size-now = inv.same-ports in
        let near = (rules.within arbiter).waits p o (omega arith) (omega (arith, output-small)) in
        record {
          ahead = λ y e. let f : acceptance ≡ y = cc in subst (λ (y : Acceptance). length (sent y.input y.output h) + y.ahead ≡ length (accepted y.input y.output h)) f (lengths (inv.queues p o));
          by-route = λ y e. let f : acceptance ≡ y = cc in subst (ByRoute h) f (r, by-history, refl);
          due = λ y e.
              let f : acceptance ≡ y = cc in
              subst (λ (y : Acceptance). (y.input < a.ports s) × (y.output < a.ports s) × (0 ≤ y.ahead → (y.ahead + 1 ≤ 0 + length ((cells' y.input).queue y.output)) × (0 + load a s stage grants arbiter y.input y.output ≤ 0 * (a.bound s + 1) + a.bound s))) f
              (lp, output-small, λ _. (omega (arith, grown), omega (arith, light, near, inv.same-bound)));
          matched = λ g e. absurd (let z : ◌≡◌ {A = ℕ} 0 1 = cc in omega arith);
        }

    pub arrived : Invariant a s (accepting acceptance ∷ h) ports arbiter stage grants granted route cells' blocks'
    arrived = record {
      ports-is = inv.ports-is;
      same-ports = inv.same-ports;
      same-bound = inv.same-bound;
      state = inv.state;
      routes = inv.routes;
      outputs = inv.outputs;
      calm = inv.calm;
      ready = λ i u. omega (arith, inv.ready i u, more i u);
      inside = λ i u l. inside-flag i u (both i u p o) (both-same i u p o) (subst (λ (y : List ℕ). 1 ≤ length y) (queue-is i u) l);
      queues = held-now;
      distinct = λ i. distinct-flag i (eqb i p);
      kept = kept_more a s stage stage grants grants arbiter arbiter cells cells' h (accepting acceptance) inv.kept new
          (λ since i u k d. (d.0, d.1, λ l. (omega (arith, (d.2 l).0, more i u), (d.2 l).1)));
      current = λ e. absurd (not-sending e);
    }

-- The law of a switch, from the rules of its arbiter.
use Rattle.std.proofs.Common.{◌≡◌, ℕ, ◌+◌, ◌*◌, ◌≤◌, List, [], ◌∷◌, ◌++◌, map, length, take, drop, Some, None, Option, sym, refl, ap, ◌∙◌, inl, inr, mul-le-mul_right, add-mul, one-mul, arith}
use Rattle.std.proofs.lemmas.Bool.{cases_lt}
use Rattle.std.proofs.lemmas.List.{length-append, length-map, take_at, drop_at}
use Rattle.queues.specs.Queues.{unused}
use Rattle.law.specs.declared.memory.Block.{Block}
use Rattle.law.specs.declared.stage.Stage.TheVariants.{Closed}
use Rattle.arbiters.specs.Meaning.{Meaning, Lawful as Rules}
use Rattle.law.specs.View.{Memory, View, leaving}
use Rattle.law.specs.Runs.{Event, Run, nothing, next, elsewhere, made}
use Rattle.law.specs.History.{Effect, Acceptance, history, added, accepted, sent_from, sent, closings}
use Rattle.law.specs.Law.{Timely, InOrder, Law, Lawful}
use Rattle.law.proofs.Histories.{each_none, sent-append}
use Rattle.law.proofs.Invariant.{Held, pending, Kept, InvariantAt}
use Rattle.law.proofs.Blocks.{distinct-unused}
use Rattle.law.proofs.Steps.{keeps}

module _ {A : Type 0} (a : Meaning A) (rules : Rules a) (s : A) where
  start : (mark first : ℕ) (m : Memory) → InvariantAt a s [] (made a s mark first) m
  start mark first m = record {
    ports-is = refl;
    same-ports = refl;
    same-bound = refl;
    state = refl;
    routes = λ p c. refl;
    outputs = λ p c r e. let z : ◌≡◌ {A = ℕ} 0 1 = cc in absurd (omega arith);
    calm = λ _. refl;
    ready = λ i o. omega arith;
    inside = λ i o l. absurd (omega arith);
    queues = λ i o. record { gone = []; rest = []; all = refl; sent = refl; held = refl; long = tt };
    distinct = λ i. distinct-unused;
    kept = each_none (Kept a s Closed [] s (λ _. unused 16));
    current = λ e. absurd (let z : ◌≡◌ {A = ℕ} 0 1 = ap pending e in omega arith);
  }

  runs : (v : View A) (m : Memory) → InvariantAt a s [] v m → {es : List Event} {w : View A} {x : Memory} → Run a v m es w x → InvariantAt a s (history es) w x
  runs v m inv nothing = inv
  runs v m inv (next {es = es} {w = w} {x = x} run c) = (keeps a rules s (history es) w x c).carried (runs v m inv run)
  runs v m inv (elsewhere {es = es} {w = w} {x = x} run c y f) = (keeps a rules s (history es) w y c).other-memory f x (runs v m inv run)

  -- from the invariant to the law
  in-time : (w k c j : ℕ) → (j ≤ k → c ≤ j * (w + 1) + w) → (k + 1) * (w + 1) ≤ c → k + 1 ≤ j
  in-time w k c j f l = elim (cases_lt k j) [
    | inl m ↦ omega arith
    | inr m ↦ absurd (omega (arith, f m, add-mul k 1 (w + 1), one-mul (w + 1), mul-le-mul_right (w + 1) m))
  ]

  timely : (h : List Effect) (v : View A) (m : Memory) → InvariantAt a s h v m → (since past : List Effect) (e : Effect) (x : Acceptance) → h ≡ since ++ (e ∷ past) → e.acceptance ≡ Some x
      → Timely (a.bound s) h since past x
  timely h v m inv since past e x split is = record {
    ahead = (inv.kept since past e split).ahead x is;
    left = λ l.
        let k = inv.kept since past e split in
        let d = k.due x is in
        let t = in-time (a.bound s) x.ahead (closings since) (length (sent x.input x.output since)) (λ n. let q = (d.2 n).1 in omega arith) l in
        omega (arith, t, k.ahead x is, ap (λ (y : List Effect). length (sent x.input x.output y)) split, sent-append x.input x.output since (e ∷ past), sent-grows e past);
  }
    where
      sent-grows : (e : Effect) (past : List Effect) → length (sent x.input x.output past) ≤ length (sent x.input x.output (e ∷ past))
      sent-grows e past = grows (sent_from x.input x.output e.departure)
        where
          grows : (y : Option (List ℕ)) → length (sent x.input x.output past) ≤ length (added y (sent x.input x.output past))
          grows None = omega arith
          grows (Some y) = omega (arith, length-append (sent x.input x.output past) (y ∷ []))

  in_order : {cells : List Block} {i o : ℕ} {h : List Effect} {queue : List ℕ} → Held cells i (accepted i o h) (sent i o h) queue → InOrder cells h i o queue
  in_order {cells} {i} {o} {h} {queue} q =
      let n : length (sent i o h) ≡ length q.gone = ap length q.sent ∙ length-map q.gone leaving in
      let first : take (length (sent i o h)) (accepted i o h) ≡ q.gone = ap (take (length (sent i o h))) q.all ∙ take_at q.gone q.rest (length (sent i o h)) (sym n) in
      let last : drop (length (sent i o h)) (accepted i o h) ≡ q.rest = ap (drop (length (sent i o h))) q.all ∙ drop_at q.gone q.rest (length (sent i o h)) (sym n) in
      record { gone = q.sent ∙ ap (map leaving) (sym first); held = q.held ∙ ap (map Some) (sym last) }

  law-of : (h : List Effect) (v : View A) (m : Memory) → InvariantAt a s h v m → Law a s h v m
  law-of h v m inv = record {
    timely = timely h v m inv;
    by-route = λ since past e x split is. (inv.kept since past e split).by-route x is;
    in_order = λ i o. in_order (inv.queues i o);
    matched = λ since past e g split is. (inv.kept since past e split).matched g is;
  }

  -- a switch just made keeps the law
  pub lawful : (mark first : ℕ) → Lawful a s (made a s mark first)
  lawful mark first m n es v run = law-of (history es) v n (runs (made a s mark first) m (start mark first m) run)

-- From the law of a switch over a pile to the closings after which a cell has left.
use Rattle.std.proofs.Common.{◌≡◌, ℕ, [], ◌∷◌, ◌++◌, length, Ok, sym, refl, ap, ◌∙◌, subst, append_assoc, arith}
use mathlib.Core.List.{map-append}
use Rattle.law.specs.declared.answers.Arrival.TheVariants.{Accepted}
use Rattle.law.specs.View.{View}
use Rattle.law.specs.Runs.{Event, arrive, made}
use Rattle.law.specs.History.{Acceptance, accepted, accepting, history}
use Rattle.law.specs.Law.{Lawful}
use Rattle.delays.specs.declared.periods.Periods.{Periods}
use Rattle.piles.specs.Three.{Pile}
use Rattle.delays.specs.Piles.{Stands, periods_of, piled}
use Rattle.delays.specs.Leaving.{AllLeave, Starts, acceptances}
use Rattle.delays.proofs.Acceptances.{as_many}

-- the law at a pile is the promise at its own port count and periods, by the pile's bound
pub all-leave : (s : Pile) (v : View Pile) → Lawful piled s v → AllLeave (piled.ports s) (periods_of s) v
all-leave s v lawful m l es since before w t i o k cell bytes run split =
    let e : Event = record { call = arrive t i cell; reply = Ok (Accepted o k); bytes = bytes } in
    let x : Acceptance = record { input = i; cell = cell; output = o; ahead = k } in
    let parts : history es ≡ history since ++ (accepting x ∷ history before) = ap history split ∙ map-append _ since (e ∷ before) in
    let law = lawful m l es w run in
    let timely = law.timely (history since) (history before) (accepting x) x parts refl in
    let many : length (accepted i o (history before)) ≡ acceptances i o before =
    as_many (history es) law.by-route i o (history before) (history since ++ (accepting x ∷ []))
    (parts ∙ sym (append_assoc (history since) (accepting x ∷ []) (history before))) in
    record {
      ahead = omega (arith, timely.ahead, many);
      left = λ enough. omega (arith, many, timely.left enough);
    }

periods-is : {a b c x y z : ℕ} → a ≡ x → b ≡ y → c ≡ z → ◌≡◌ {A = Periods} (record { low = a; middle = b; high = c }) (record { low = x; middle = y; high = z })
periods-is p q r = cc

-- a switch over a pile just made
pub starts : {n mark first : ℕ} {p : Periods} {s : Pile} {v : View Pile} → Stands n p s → v ≡ made piled s mark first → Lawful piled s v → AllLeave (piled.ports s) (periods_of s) v
    → Starts n p mark first v
starts {n} {mark} {first} {p} {s} {v} stands new law leave =
    let same : s ≡ v.arbiter = sym (ap (λ (w : View Pile). w.arbiter) new) in
    let periods : periods_of s ≡ p = periods-is stands.low.slots stands.middle.slots stands.high.slots in
    record {
      pile = subst (λ (t : Pile). Stands n p t) same stands;
      new = subst (λ (t : Pile). v ≡ made piled t mark first) same new;
      law = subst (λ (t : Pile). Lawful piled t v) same law;
      leave = subst (λ (q : Periods). AllLeave n q v) periods (subst (λ (k : ℕ). AllLeave k (periods_of s) v) stands.ports leave);
    }

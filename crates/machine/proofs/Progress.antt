-- How far the sending of a slot's grants has come: s stood at its beginning, u stands now, and xs were sent.
use Rattle.std.proofs.Common.{◌≡◌, ℕ, ◌+◌, List, [], ◌∷◌, ◌++◌, length, Ok, Err, Result, sym, refl, ap, ◌∙◌, subst, append_assoc, append-nil, one-add, arith, length-append}
use Rattle.refusals.specs.declared.refusal.Refusal.{Refusal}
use Rattle.law.specs.Calls.{Ticket}
use Rattle.machine.specs.declared.departures.Sent.{Sent}
use Rattle.machine.specs.Standing.{Standing, Told, following, and_then, answering, departing_all}
use Rattle.machine.specs.Sending.{CanSend, OneSent, SendsAll}

-- some cells sent before what is told
abbrev pub after : {A : Type 0} → List Sent → Told A (List Sent) → Told A (List Sent)
after xs t = and_then t (λ ys w. answering (xs ++ ys) w)

pub record Progress {A : Type 0} (g : Ticket) (s : Standing A) (xs : List Sent) (u : Standing A) : Type 0 where
  pub left : length xs + length u.view.slot.grants ≡ length s.view.slot.grants
  pub told : departing_all (length s.view.slot.grants) g s ≡ after xs (departing_all (length u.view.slot.grants) g u)
  pub can : CanSend s.view g → CanSend u.view g

module _ {A : Type 0} where
  none_before : (r : Result (List Sent) Refusal) (u : Standing A) → ◌≡◌ {A = Told A (List Sent)} (record { reply = r; standing = u }) (following r u (λ ys w. answering ([] ++ ys) w))
  none_before (Ok ys) u = refl
  none_before (Err k) u = refl

  twice-before : (xs : List Sent) (x : Sent) (r : Result (List Sent) Refusal) (u : Standing A)
      → after xs (following r u (λ ys w. answering (x ∷ ys) w)) ≡ following r u (λ ys w. answering ((xs ++ (x ∷ [])) ++ ys) w)
  twice-before xs x (Ok ys) u = ap (λ (zs : List Sent). answering zs u) (sym (append_assoc xs (x ∷ []) ys))
  twice-before xs x (Err k) u = refl

  module _ (g : Ticket) (s : Standing A) where
    pub begun : (xs : List Sent) → xs ≡ [] → Progress g s xs s
    begun xs e =
        subst (λ (ys : List Sent). Progress g s ys s) (sym e)
        (record {
          left = omega arith;
          told = none_before (departing_all (length s.view.slot.grants) g s).reply (departing_all (length s.view.slot.grants) g s).standing;
          can = λ can. can;
        })

    pub one_more : (xs ys : List Sent) (x : Sent) (u w : Standing A) → Progress g s xs u → OneSent g u x w → ys ≡ xs ++ (x ∷ []) → Progress g s ys w
    one_more xs ys x u w progress one e =
        let rest = departing_all (length w.view.slot.grants) g w in
        let next : departing_all (length u.view.slot.grants) g u ≡ and_then rest (λ zs z. answering (x ∷ zs) z) =
        ap (λ (k : ℕ). departing_all k g u) (one.fewer ∙ one-add (length w.view.slot.grants))
        ∙ ap (λ (t : Told A Sent). and_then t (λ x u. and_then (departing_all (length w.view.slot.grants) g u) (λ zs z. answering (x ∷ zs) z))) one.departed in
        subst (λ (zs : List Sent). Progress g s zs w) (sym e)
        (record {
          left = omega (arith, progress.left, one.fewer, length-append xs (x ∷ []));
          told = progress.told ∙ (ap (after xs) next ∙ twice-before xs x rest.reply rest.standing);
          can = λ can. one.can (progress.can can);
        })

    pub all-sent : (xs : List Sent) (u w : Standing A) → Progress g s xs u → w ≡ u → u.view.slot.grants ≡ [] → SendsAll g s xs w
    all-sent xs u w progress e none =
        subst (λ (z : Standing A). SendsAll g s xs z) (sym e)
        (record {
          departed = progress.told ∙ (ap (λ (gs : List (ℕ × ℕ)). after xs (departing_all (length gs) g u)) none ∙ ap (λ (zs : List Sent). answering zs u) (append-nil xs));
          none_left = none;
          can = progress.can;
        })

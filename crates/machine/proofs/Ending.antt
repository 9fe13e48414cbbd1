-- A slot is decided and closed: neither is refused.
use Rattle.std.proofs.Common.{◌≡◌, ℕ, ◌+◌, ◌≤◌, Bool, true, false, not, ◌&&◌, eqb, List, [], ◌∷◌, length, Ok, Err, Result, sym, refl, ap, subst}
use Rattle.std.proofs.lemmas.Bool.{and_parts, not-false}
use Rattle.arbiters.specs.Meaning.{Meaning}
use Rattle.arbiters.specs.Rules.{Apart}
use Rattle.refusals.specs.declared.refusal.Refusal.{Refusal}
use Rattle.refusals.specs.declared.refusal.Refusal.TheVariants.{WrongTicket, GrantsUnsent}
use Rattle.law.specs.declared.answers.SlotClosed.{SlotClosed}
use Rattle.law.specs.declared.stage.Stage.TheVariants.{Arriving, Sending}
use Rattle.law.specs.View.{Memory, View}
use Rattle.law.specs.Calls.{Outcome, Ticket, requests, same_stage, wrong, is_empty, decide_call, close_call}
use Rattle.law.proofs.Pairs.{few-pairs}
use Rattle.law.proofs.Refusing.{passes}

-- what a decision gives: the ticket fits, and the grants are counted and at most as many as the ports
pub record Decided {A : Type 0} (n : ℕ) (w : View A) (g : Ticket) : Type 0 where
  pub fits : wrong w Sending g ≡ false
  pub counted : w.slot.granted ≡ length w.slot.grants
  pub few : length w.slot.grants ≤ n

abbrev pub Closing : Result SlotClosed Refusal → Type 0
Closing (Ok x) = Unit {0}
Closing (Err k) = ⊥

module _ {A : Type 0} where
  abbrev pub Deciding : ℕ → Result Ticket Refusal → View A → Type 0
  Deciding n (Ok g) w = Decided n w g
  Deciding n (Err k) w = ⊥

  module _ (v : View A) (m : Memory) where
    pub decided : (a : Meaning A) (t : Ticket) → wrong v Arriving t ≡ false → Apart (a.answer v.arbiter (requests v)) → Deciding v.ports (decide_call a v m t).reply (decide_call a v m t).view
    decided a t fits apart =
        let all = not-false ((eqb t.mark v.mark && eqb (t.slot + 1) v.slot.next) && same_stage v.slot.stage Arriving) fits in
        subst (λ (o : Outcome A Ticket). Deciding v.ports o.reply o.view) (sym (passes ((WrongTicket, wrong v Arriving t) ∷ []) v m _ (fits, tt)))
        (record {
          fits = ap (λ (b : Bool). not (b && true)) (and_parts (eqb t.mark v.mark && eqb (t.slot + 1) v.slot.next) (same_stage v.slot.stage Arriving) all).0;
          counted = refl;
          few = few-pairs v.ports (a.answer v.arbiter (requests v)) apart;
        })

    pub closed : (g : Ticket) → wrong v Sending g ≡ false → v.slot.grants ≡ [] → Closing (close_call v m g).reply
    closed g fits none =
        subst (λ (o : Outcome A SlotClosed). Closing o.reply)
        (sym (passes ((WrongTicket, wrong v Sending g) ∷ (GrantsUnsent, not (is_empty v.slot.grants)) ∷ []) v m _ (fits, (ap (λ (gs : List (ℕ × ℕ)). not (is_empty gs)) none, tt)))) tt

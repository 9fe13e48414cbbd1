-- A slot opened, decided and closed, by the facts of the code.
use Rattle.std.proofs.Common.{◌≡◌, ℕ, ◌+◌, ◌≤◌, Bool, true, false, not, ◌&&◌, eqb, ltb, [], ◌∷◌, sym, ap, ◌∙◌, arith}
use Rattle.std.proofs.lemmas.Bool.{le-ltb, and_parts, not-false, eqb-true}
use Rattle.refusals.specs.declared.refusal.Refusal.TheVariants.{SlotOpen, NoSlotNumber, WrongTicket, GrantsUnsent}
use Rattle.law.specs.declared.stage.Stage.{Stage}
use Rattle.law.specs.declared.stage.Stage.TheVariants.{Closed, Arriving, Sending}
use Rattle.law.specs.View.{Memory, View}
use Rattle.law.specs.Calls.{Ticket, done, refused, is_empty, number, with_slot, wrong, open_call, close_call, same_stage}
use Rattle.law.proofs.Refusing.{passes, stops}

pub opens : {A : Type 0} (v : View A) (m : Memory) (used : ℕ → Bool) → v.slot.stage ≡ Closed → v.slot.next ≤ 4294967295 → used ≡ (λ _. false)
    → open_call v m ≡ done (record { mark = v.mark; slot = v.slot.next })
    (with_slot v (record { next = v.slot.next + 1; stage = Arriving; used = used; grants = v.slot.grants; granted = v.slot.granted; sent = v.slot.sent })) m
opens v m used e l f =
    passes ((SlotOpen, not (same_stage v.slot.stage Closed)) ∷ (NoSlotNumber, ltb 4294967295 v.slot.next) ∷ []) v m _ (ap (λ (x : Stage). not (same_stage x Closed)) e, (le-ltb 4294967295 v.slot.next l, tt))
    ∙ ap (λ (w : ℕ → Bool). done (record { mark = v.mark; slot = v.slot.next })
    (with_slot v (record { next = v.slot.next + 1; stage = Arriving; used = w; grants = v.slot.grants; granted = v.slot.granted; sent = v.slot.sent })) m) (sym f)

-- a ticket that fits bears the number of the open slot
pub of-slot : {A : Type 0} (v : View A) (x : Stage) (t : Ticket) → wrong v x t ≡ false → t.slot ≡ number v.slot
of-slot v x t e =
    let all = not-false ((eqb t.mark v.mark && eqb (t.slot + 1) v.slot.next) && same_stage v.slot.stage x) e in
    let both = (and_parts (eqb t.mark v.mark && eqb (t.slot + 1) v.slot.next) (same_stage v.slot.stage x) all).0 in
    let same = eqb-true (t.slot + 1) v.slot.next (and_parts (eqb t.mark v.mark) (eqb (t.slot + 1) v.slot.next) both).1 in
    omega (arith, same)

module _ {A : Type 0} (v : View A) (m : Memory) (t : Ticket) (fits : wrong v Sending t ≡ false) where
  pub closes : is_empty v.slot.grants ≡ true
      → close_call v m t ≡ done (record { slot = t.slot; grants = v.slot.granted })
      (with_slot v (record { next = v.slot.next; stage = Closed; used = v.slot.used; grants = v.slot.grants; granted = v.slot.granted; sent = v.slot.sent })) m
  closes none =
      passes ((WrongTicket, wrong v Sending t) ∷ (GrantsUnsent, not (is_empty v.slot.grants)) ∷ []) v m _ (fits, (ap not none, tt))
      ∙ ap (λ (n : ℕ). done (record { slot = n; grants = v.slot.granted })
      (with_slot v (record { next = v.slot.next; stage = Closed; used = v.slot.used; grants = v.slot.grants; granted = v.slot.granted; sent = v.slot.sent })) m) (sym (of-slot v Sending t fits))

  pub closes-not : is_empty v.slot.grants ≡ false → close_call v m t ≡ refused GrantsUnsent v m
  closes-not some = stops ((WrongTicket, wrong v Sending t) ∷ []) [] GrantsUnsent (not (is_empty v.slot.grants)) v m _ (fits, tt) (ap not some)

-- What the calls of a switch leave as it is: its ports, its notes, and the tickets that fit.
use Rattle.std.proofs.Common.{◌≡◌, ℕ, ◌+◌, Bool, true, false, cond, not, ◌&&◌, ltb, List, [], ◌∷◌, Some, None, Ok, Err, Option, Result, refl, ap, ◌∙◌, arith}
use Rattle.std.proofs.lemmas.Bool.{cond_both, eq-eqb}
use Rattle.arbiters.specs.Meaning.{Meaning}
use Rattle.cells.specs.Header.{is_idle, vci_of}
use Rattle.refusals.specs.declared.refusal.Refusal.{Refusal}
use Rattle.refusals.specs.declared.refusal.Refusal.TheVariants.{PortBeyond, CellLength, CellMemoryLength, WrongTicket, SlotOpen, NoSlotNumber, TurnUsed, GrantsUnsent}
use Rattle.routes.specs.declared.route.Route.{Route}
use Rattle.routes.specs.Map.{Tables, setting}
use Rattle.law.specs.declared.stage.Stage.{Stage}
use Rattle.law.specs.declared.stage.Stage.TheVariants.{Closed, Arriving, Sending}
use Rattle.law.specs.declared.answers.Arrival.TheVariants.{Idle}
use Rattle.law.proofs.Refusing.{by-unless}
use Rattle.law.specs.View.{Memory, View}
use Rattle.law.specs.Calls.{Outcome, Ticket, refused, done, with_slot, turn_used, beyond, not53, cells_amiss, rerouted, routed, stored, same_stage, wrong, is_empty, open_call, arrive_call, decide_call, close_call, set_route_call}
use Rattle.switch.specs.declared.tickets.ArrivalTicket.{ArrivalTicket}
use Rattle.switch.specs.Seen.{arrival_of}
use Rattle.machine.specs.Fitting.{Fits, unfit}
use Rattle.machine.specs.Machines.{ticket_of}

-- the memory of a call that is lent none
pub nothing : Memory
nothing = record { cells = []; notes = []; bytes = [] }

pub record Holds {A T : Type 0} (v : View A) (o : Outcome A T) : Type 0 where
  pub ports : o.view.ports ≡ v.ports
  pub notes : o.view.notes ≡ v.notes

pub record Steady {A T : Type 0} (v : View A) (o : Outcome A T) : Type 0 where
  pub ports : o.view.ports ≡ v.ports
  pub notes : o.view.notes ≡ v.notes
  pub fits : (s : Stage) (t : Ticket) → wrong o.view s t ≡ wrong v s t

pub unfit-same : {A : Type 0} (v w : View A) → ((s : Stage) (t : Ticket) → wrong w s t ≡ wrong v s t) → (t : Option ArrivalTicket) → unfit v t ≡ false → unfit w t ≡ false
unfit-same v w same None e = refl
unfit-same v w same (Some t) e = same Arriving (arrival_of t) ∙ e

pub unfit-none : {A : Type 0} (v : View A) (t : Option ArrivalTicket) → ticket_of t ≡ None → unfit v t ≡ false
unfit-none v None e = refl
unfit-none v (Some t) e = let z : ◌≡◌ {A = ℕ} 0 1 = cc in absurd (omega arith)

both_true : {a b : Bool} → a ≡ true → b ≡ true → (a && b) ≡ true
both_true e f = cc

module _ {A : Type 0} (v : View A) (m : Memory) where
  same : {T : Type 0} (k : Refusal) → Steady {T = T} v (refused k v m)
  same k = record { ports = refl; notes = refl; fits = λ s t. refl }

  rerouted-steady : (x : Result Tables Refusal) → Steady v (rerouted v m x)
  rerouted-steady (Ok t) = record { ports = refl; notes = refl; fits = λ s t. refl }
  rerouted-steady (Err k) = same k

  pub sets : (p c o w : ℕ) → Steady v (set_route_call v m p c o w)
  sets p c o w = rerouted-steady (setting v.tables v.ports p (record { vci = c; output = o; new_vci = w }))

  stored-steady : (p : ℕ) (c : List ℕ) (r : Route) (xs : List ℕ) → Steady v (stored v m p c r xs)
  stored-steady p c r [] = same _
  stored-steady p c r (b ∷ xs) = record { ports = refl; notes = refl; fits = λ s t. refl }

  routed-steady : (p : ℕ) (c : List ℕ) (x : Option Route) → Steady v (routed v m p c x)
  routed-steady p c None = same _
  routed-steady p c (Some r) = stored-steady p c r (v.cells p).free

  pub arrives : (t : Ticket) (p : ℕ) (c : List ℕ) → Steady v (arrive_call v m t p c)
  arrives t p c =
      by-unless (λ o. Steady v o)
      ((PortBeyond, beyond v p) ∷ (CellLength, not53 c) ∷ (CellMemoryLength, cells_amiss v m) ∷ (WrongTicket, wrong v Arriving t) ∷ (TurnUsed, v.slot.used p) ∷ []) v m
      (cond (is_idle c) (done Idle (with_slot v (turn_used v.slot p)) m) (routed v m p c (v.tables.route p (vci_of c))))
      (λ k. same k)
      (λ _. cond_both (is_idle c) (done Idle (with_slot v (turn_used v.slot p)) m) (routed v m p c (v.tables.route p (vci_of c))) (λ o. Steady v o) (λ _. record { ports = refl; notes = refl; fits = λ s t. refl })
      (λ _. routed-steady p c (v.tables.route p (vci_of c))))

  pub opens : Holds v (open_call v m)
  opens = by-unless (λ o. Holds v o) ((SlotOpen, not (same_stage v.slot.stage Closed)) ∷ (NoSlotNumber, ltb 4294967295 v.slot.next) ∷ []) v m _
      (λ k. record { ports = refl; notes = refl }) (λ _. record { ports = refl; notes = refl })

  pub open-fits : Fits Arriving (open_call v m).view (open_call v m).reply
  open-fits = by-unless (λ o. Fits Arriving o.view o.reply) ((SlotOpen, not (same_stage v.slot.stage Closed)) ∷ (NoSlotNumber, ltb 4294967295 v.slot.next) ∷ []) v m _
      (λ k. tt) (λ _. ap (λ (b : Bool). not (b && true)) (both_true (eq-eqb v.mark v.mark refl) (eq-eqb (v.slot.next + 1) (v.slot.next + 1) refl)))

  pub closes : (t : Ticket) → Holds v (close_call v m t)
  closes t = by-unless (λ o. Holds v o) ((WrongTicket, wrong v Sending t) ∷ (GrantsUnsent, not (is_empty v.slot.grants)) ∷ []) v m _
      (λ k. record { ports = refl; notes = refl }) (λ _. record { ports = refl; notes = refl })

  pub decides : (a : Meaning A) (t : Ticket) → Holds v (decide_call a v m t)
  decides a t = by-unless (λ o. Holds v o) ((WrongTicket, wrong v Arriving t) ∷ []) v m _ (λ k. record { ports = refl; notes = refl }) (λ _. record { ports = refl; notes = refl })

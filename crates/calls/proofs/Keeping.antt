-- What every call leaves standing: the two ports, a note where no note block is free, and the tickets that fit.
use Rattle.std.proofs.Common.{◌≡◌, ℕ, ◌+◌, ◌<◌, ◌≤◌, Bool, true, cond, not, ◌&&◌, eqb, ltb, List, [], ◌∷◌, ◌++◌, length, Some, None, Ok, Err, Option, Result, sym, refl, ap, subst, arith, length-append}
use Rattle.std.proofs.lemmas.Bool.{cond_both, and_parts, not-false, both_ways, eq-eqb}
use Rattle.arbiters.specs.Meaning.{Meaning}
use Rattle.cells.specs.Header.{is_idle, vci_of}
use Rattle.queues.specs.Queues.{Queues, put, joined, joined_by, taken_by}
use Rattle.refusals.specs.declared.refusal.Refusal.{Refusal}
use Rattle.refusals.specs.declared.refusal.Refusal.TheVariants.{PortBeyond, CellLength, CellMemoryLength, NoteMemoryLength, SlotBytesLength, WrongTicket, SlotOpen, NoSlotNumber, TurnUsed, GrantsUnsent}
use Rattle.routes.specs.declared.route.Route.{Route}
use Rattle.routes.specs.Map.{Tables, setting, removing}
use Rattle.law.specs.declared.answers.Departed.{Departed}
use Rattle.law.specs.declared.stage.Stage.{Stage}
use Rattle.law.specs.declared.stage.Stage.TheVariants.{Closed, Arriving, Sending}
use Rattle.law.specs.declared.answers.Arrival.TheVariants.{Idle}
use Rattle.law.proofs.Pairs.{Outputs}
use Rattle.law.proofs.Refusing.{by-unless}
use Rattle.law.specs.View.{Memory, View}
use Rattle.law.specs.Calls.{Outcome, Ticket, refused, done, with_slot, turn_used, beyond, not53, cells_amiss, notes_amiss, bytes_amiss, rerouted, routed, stored, oldest, noted, sent_first, same_stage, wrong, is_empty, open_call, arrive_call, decide_call, depart_call, close_call, take_note_call, set_route_call, remove_route_call}
use Rattle.calls.specs.Kept.{Kept, Fits}

-- the memory of a call that is lent none
pub nothing : Memory
nothing = record { cells = []; notes = []; bytes = [] }

pub record Held {A T : Type 0} (n : ℕ) (o : Outcome A T) : Type 0 where
  pub kept : Kept n o.view

pub record Steady {A T : Type 0} (n : ℕ) (v : View A) (o : Outcome A T) : Type 0 where
  pub kept : Kept n o.view
  pub fits : (s : Stage) (t : Ticket) → wrong o.view s t ≡ wrong v s t

-- a departure moves the note that is known of to its output
abbrev pub Left : {A : Type 0} → ℕ → View A → Result Departed Refusal → Type 0
Left n w (Ok d) = Kept d.output w
Left n w (Err k) = Kept n w

pub record Parting {A : Type 0} (n : ℕ) (v : View A) (o : Outcome A Departed) : Type 0 where
  pub kept : Left n o.view o.reply
  pub fits : (s : Stage) (t : Ticket) → wrong o.view s t ≡ wrong v s t

-- room for a note stays where one is taken, and a departure leaves a note
room-taken_by : (s : Queues) (q n : ℕ) (xs : List ℕ) → 1 ≤ length s.free + length (s.queue n) → 1 ≤ length (taken_by s q xs).free + length ((taken_by s q xs).queue n)
room-taken_by s q n [] h = h
room-taken_by s q n (b ∷ rest) h = omega (arith, length-append s.free (b ∷ []))

one_at : (f : ℕ → List ℕ) (q : ℕ) (xs : List ℕ) (b : ℕ) → 1 ≤ length (put f q (xs ++ (b ∷ [])) q)
one_at f q xs b = cond_both (eqb q q) (xs ++ (b ∷ [])) (f q) (λ (ys : List ℕ). 1 ≤ length ys) (λ _. omega (arith, length-append xs (b ∷ []))) (λ e. absurd (both_ways (eqb q q) e (eq-eqb q q refl)))

room_joined : (s : Queues) (q b : ℕ) (xs : List ℕ) → s.free ≡ b ∷ xs → 1 ≤ length (joined s q).free + length ((joined s q).queue q)
room_joined s q b xs e = subst (λ (ys : List ℕ). 1 ≤ length (joined_by s q ys).free + length ((joined_by s q ys).queue q)) (sym e) (omega (arith, one_at s.queue q (s.queue q) b))

module _ {A : Type 0} (n : ℕ) (v : View A) (kept : Kept n v) where
  same : {T : Type 0} (k : Refusal) (m : Memory) → Steady {T = T} n v (refused k v m)
  same k m = record { kept = kept; fits = λ s t. refl }

  rerouted-steady : (m : Memory) (x : Result Tables Refusal) → Steady n v (rerouted v m x)
  rerouted-steady m (Ok t) = record { kept = kept; fits = λ s t. refl }
  rerouted-steady m (Err k) = same k m

  pub sets : (m : Memory) (p c o w : ℕ) → Steady n v (set_route_call v m p c o w)
  sets m p c o w = rerouted-steady m (setting v.tables v.ports p (record { vci = c; output = o; new_vci = w }))

  pub removes : (m : Memory) (p c : ℕ) → Steady n v (remove_route_call v m p c)
  removes m p c = rerouted-steady m (removing v.tables v.ports p c)

  stored-steady : (m : Memory) (p : ℕ) (c : List ℕ) (r : Route) (xs : List ℕ) → Steady n v (stored v m p c r xs)
  stored-steady m p c r [] = same _ m
  stored-steady m p c r (b ∷ xs) = record { kept = kept; fits = λ s t. refl }

  routed-steady : (m : Memory) (p : ℕ) (c : List ℕ) (x : Option Route) → Steady n v (routed v m p c x)
  routed-steady m p c None = same _ m
  routed-steady m p c (Some r) = stored-steady m p c r (v.cells p).free

  pub arrives : (m : Memory) (t : Ticket) (p : ℕ) (c : List ℕ) → Steady n v (arrive_call v m t p c)
  arrives m t p c =
      by-unless (λ o. Steady n v o)
      ((PortBeyond, beyond v p) ∷ (CellLength, not53 c) ∷ (CellMemoryLength, cells_amiss v m) ∷ (WrongTicket, wrong v Arriving t) ∷ (TurnUsed, v.slot.used p) ∷ []) v m
      (cond (is_idle c) (done Idle (with_slot v (turn_used v.slot p)) m) (routed v m p c (v.tables.route p (vci_of c))))
      (λ k. same k m)
      (λ _. cond_both (is_idle c) (done Idle (with_slot v (turn_used v.slot p)) m) (routed v m p c (v.tables.route p (vci_of c))) (λ o. Steady n v o) (λ _. record { kept = kept; fits = λ s t. refl })
      (λ _. routed-steady m p c (v.tables.route p (vci_of c))))

  oldest-steady : (m : Memory) (o : ℕ) (xs : List ℕ) → Steady n v (oldest v m o xs)
  oldest-steady m o [] = same _ m
  oldest-steady m o (b ∷ xs) = record { kept = (kept.0, kept.1, room-taken_by v.notes o n (v.notes.queue o) kept.2); fits = λ s t. refl }

  pub takes : (m : Memory) (o : ℕ) → Steady n v (take_note_call v m o)
  takes m o =
      by-unless (λ x. Steady n v x) ((PortBeyond, beyond v o) ∷ (NoteMemoryLength, notes_amiss m) ∷ []) v m (oldest v m o (v.notes.queue o)) (λ k. same k m) (λ _. oldest-steady m o (v.notes.queue o))

  pub opens : (m : Memory) → Held n (open_call v m)
  opens m =
      by-unless (λ o. Held n o) ((SlotOpen, not (same_stage v.slot.stage Closed)) ∷ (NoSlotNumber, ltb 4294967295 v.slot.next) ∷ []) v m _ (λ k. record { kept = kept }) (λ _. record { kept = kept })

  pub closes : (m : Memory) (t : Ticket) → Held n (close_call v m t)
  closes m t =
      by-unless (λ o. Held n o) ((WrongTicket, wrong v Sending t) ∷ (GrantsUnsent, not (is_empty v.slot.grants)) ∷ []) v m _ (λ k. record { kept = kept }) (λ _. record { kept = kept })

  pub decides : (a : Meaning A) (m : Memory) (t : Ticket) → Held n (decide_call a v m t)
  decides a m t = by-unless (λ o. Held n o) ((WrongTicket, wrong v Arriving t) ∷ []) v m _ (λ k. record { kept = kept }) (λ _. record { kept = kept })

  noted-parting : (m : Memory) (x : ℕ × ℕ) (rest : List (ℕ × ℕ)) (xs : List ℕ) → v.notes.free ≡ xs → x.1 < v.ports → Parting n v (noted v m x rest xs)
  noted-parting m x rest [] e l = record { kept = kept; fits = λ s t. refl }
  noted-parting m x rest (b ∷ xs) e l = record { kept = (kept.0, omega (arith, kept.0, l), room_joined v.notes x.1 b xs e); fits = λ s t. refl }

  sent-parting : (m : Memory) (xs : List (ℕ × ℕ)) → Outputs v.ports xs → Parting n v (sent_first v m xs)
  sent-parting m [] h = record { kept = kept; fits = λ s t. refl }
  sent-parting m (x ∷ xs) h = noted-parting m x xs v.notes.free refl h.0

  pub departs : (m : Memory) (t : Ticket) → Outputs v.ports v.slot.grants → Parting n v (depart_call v m t)
  departs m t h =
      by-unless (λ o. Parting n v o)
      ((CellMemoryLength, cells_amiss v m) ∷ (NoteMemoryLength, notes_amiss m) ∷ (SlotBytesLength, bytes_amiss v m) ∷ (WrongTicket, wrong v Sending t) ∷ []) v m (sent_first v m v.slot.grants)
      (λ k. record { kept = kept; fits = λ s t. refl }) (λ _. sent-parting m v.slot.grants h)

-- a decision carried out gives a ticket that fits
pub decide-fits : {A : Type 0} (a : Meaning A) (v : View A) (m : Memory) (t : Ticket) → Fits (decide_call a v m t).view (decide_call a v m t).reply
decide-fits {A} a v m t = cond_both (wrong v Arriving t) (refused WrongTicket v m) _ (λ (o : Outcome A Ticket). Fits o.view o.reply) (λ _. tt)
    (λ e. let all = not-false ((eqb t.mark v.mark && eqb (t.slot + 1) v.slot.next) && same_stage v.slot.stage Arriving) e in
    ap (λ (b : Bool). not (b && true)) (and_parts (eqb t.mark v.mark && eqb (t.slot + 1) v.slot.next) (same_stage v.slot.stage Arriving) all).0)

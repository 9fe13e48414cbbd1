-- Each call keeps the invariant, whatever it answers.
use Rattle.std.proofs.Common.{◌≡◌, ℕ, ◌+◌, ◌*◌, ◌<◌, true, false, not, ◌&&◌, eqb, ltb, List, [], ◌∷◌, length, get_or, is_some, Some, None, Ok, Option, Result, sym, refl, ap, ◌∙◌, subst, arith}
use Rattle.std.proofs.lemmas.Bool.{ltb-true, eqb-true, and_parts, not-false, both_ways, cond_both}
use Rattle.refusals.specs.declared.refusal.Refusal.{Refusal}
use Rattle.refusals.specs.declared.refusal.Refusal.TheVariants.{PortBeyond, CellLength, CellMemoryLength, NoteMemoryLength, SlotBytesLength, IdleOrLookLength, WrongTicket, SlotOpen, NoSlotNumber, TurnUsed, NoRoute, InputFull, RoutesFull, NoSuchRoute, GrantsUnsent, NoGrantLeft, NotesFull, NoNote, NoCell}
use Rattle.cells.specs.Header.{vci_of, is_idle}
use Rattle.routes.specs.declared.route.Route.{Route}
use Rattle.routes.specs.Map.{Tables, is_port}
use Rattle.routes.specs.Table.{changed}
use Rattle.law.specs.declared.memory.Block.{Block}
use Rattle.law.specs.declared.stage.Stage.{Stage}
use Rattle.law.specs.declared.stage.Stage.TheVariants.{Closed, Arriving, Sending}
use Rattle.arbiters.specs.Meaning.{Meaning, Lawful as Rules}
use Rattle.law.specs.View.{Memory, View, place, leaving, part, parted}
use Rattle.law.specs.Calls.{Outcome, Ticket, refused, is_empty, same_stage, beyond, pair_beyond, cells_amiss, notes_amiss, bytes_amiss, not53, wrong, head_block, rerouted, stored, routed, noted, sent_first, oldest, set_route_call, remove_route_call, open_call, arrive_call, decide_call, depart_call, close_call, take_note_call, look_call, line_call}
use Rattle.law.specs.Runs.{Call, set_route, remove_route, open_slot, arrive, decide, depart, close, take_note, look, line, Answer, IsRefused, outcome}
use Rattle.law.specs.History.{Effect, effect_of}
use Rattle.law.proofs.Refusing.{by-unless}
use Rattle.law.proofs.Invariant.{InvariantAt}
use Rattle.law.proofs.Blocks.{get_or-of-nth, length-leaving, part-parted}
use Rattle.law.proofs.Besides.{stays, opened, changes}
use Rattle.law.proofs.Decides.{decided, closed}
use Rattle.law.proofs.Arrives.{arrived}
use Rattle.law.proofs.Departs.{head, output-small, departed}

same-stage : (x y : Stage) → same_stage x y ≡ true → x ≡ y
same-stage Closed Closed e = refl
same-stage Closed Arriving e = absurd (both_ways false refl e)
same-stage Closed Sending e = absurd (both_ways false refl e)
same-stage Arriving Closed e = absurd (both_ways false refl e)
same-stage Arriving Arriving e = refl
same-stage Arriving Sending e = absurd (both_ways false refl e)
same-stage Sending Closed e = absurd (both_ways false refl e)
same-stage Sending Arriving e = absurd (both_ways false refl e)
same-stage Sending Sending e = refl

nil-of : {X : Type 0} (xs : List X) → not (is_empty xs) ≡ false → xs ≡ []
nil-of [] e = refl
nil-of (x ∷ xs) e = absurd (both_ways true e refl)

module _ {A : Type 0} (a : Meaning A) (rules : Rules a) (s : A) (h : List Effect) (v : View A) (m : Memory) where
  -- a call is given the memory m: if the invariant held of m it holds of what the call leaves, and if it held of some
  -- other memory it still does where the call is refused
  abbrev After : (c : Call) → Outcome A (Answer c) → Type 0
  After c r = InvariantAt a s (effect_of c r.reply r.memory.bytes ∷ h) r.view r.memory

  pub record Keeps (c : Call) (r : Outcome A (Answer c)) : Type 0 where
    pub carried : InvariantAt a s h v m → After c r
    pub other-memory : IsRefused r.reply → (x : Memory) → InvariantAt a s h v x → InvariantAt a s (effect_of c r.reply r.memory.bytes ∷ h) r.view x

  refuses : (c : Call) (k : Refusal) → Keeps c (refused k v m)
  refuses c k = record { carried = λ inv. stays a s inv; other-memory = λ _ x inv. stays a s inv }

  stage-of : (t : Ticket) (x : Stage) → wrong v x t ≡ false → v.slot.stage ≡ x
  stage-of t x e = same-stage v.slot.stage x (and_parts (eqb t.mark v.mark && eqb (t.slot + 1) v.slot.next) (same_stage v.slot.stage x)
      (not-false ((eqb t.mark v.mark && eqb (t.slot + 1) v.slot.next) && same_stage v.slot.stage x) e)).1

  sets : (p c o w : ℕ) → Keeps (set_route p c o w) (set_route_call v m p c o w)
  sets p c o w =
      let r : Route = record { vci = c; output = o; new_vci = w } in
      cond_both (is_port v.ports p && is_port v.ports o) _ _ P
      (λ ports.
      let small : o < v.ports = ltb-true o v.ports (and_parts (ltb o v.ports) (ltb o 8) (and_parts (is_port v.ports p) (is_port v.ports o) ports).1).0 in
      let done : (count : ℕ → ℕ) → P (Ok (record { route = changed v.tables.route p c (Some r); count = count })) = λ count. record {
        carried = λ inv. changes a s inv p c (Some r) (λ x e. let f : r ≡ x = cc in subst (λ (y : Route). y.output < a.ports s) f (subst (λ (n : ℕ). o < n) inv.ports-is small));
        other-memory = λ f. absurd f;
      } in
      cond_both (is_some (v.tables.route p c)) _ _ P (λ _. done v.tables.count)
      (λ _. cond_both (ltb (v.tables.count p) 32) _ _ P (λ _. done _) (λ _. refuses (set_route p c o w) RoutesFull)))
      (λ _. refuses (set_route p c o w) PortBeyond)
    where
      P : Result Tables Refusal → Type 0
      P r = Keeps (set_route p c o w) (rerouted v m r)

  removes : (p c : ℕ) → Keeps (remove_route p c) (remove_route_call v m p c)
  removes p c = cond_both (is_port v.ports p) _ _ P
      (λ _. cond_both (is_some (v.tables.route p c)) _ _ P
      (λ _. record { carried = λ inv. changes a s inv p c None (λ x e. let z : ◌≡◌ {A = ℕ} 0 1 = cc in absurd (omega arith)); other-memory = λ f. absurd f })
      (λ _. refuses (remove_route p c) NoSuchRoute))
      (λ _. refuses (remove_route p c) PortBeyond)
    where
      P : Result Tables Refusal → Type 0
      P r = Keeps (remove_route p c) (rerouted v m r)

  opens : Keeps open_slot (open_call v m)
  opens = by-unless (Keeps open_slot)
      ((SlotOpen, not (same_stage v.slot.stage Closed)) ∷ (NoSlotNumber, ltb 4294967295 v.slot.next) ∷ []) v m _ (refuses open_slot)
      (λ clear. record { carried = λ inv. opened a s inv (same-stage v.slot.stage Closed (not-false (same_stage v.slot.stage Closed) clear.0)); other-memory = λ f. absurd f })

  module _ (t : Ticket) (p : ℕ) (x : List ℕ) (here : v.slot.stage ≡ Arriving) (lp : p < v.ports) (long : length x ≡ 53) (size : length m.cells ≡ v.ports * 16) where
    stores : (r : Route) → v.tables.route p (vci_of x) ≡ Some r → (free : List ℕ) → (v.cells p).free ≡ free → Keeps (arrive t p x) (stored v m p x r free)
    stores r known [] e = refuses (arrive t p x) InputFull
    stores r known (b ∷ free) e = record { carried = λ inv. arrived a rules s inv p x r b free here (subst (λ (n : ℕ). p < n) inv.ports-is lp) long size known e; other-memory = λ f. absurd f }

    accepts : (r : Option Route) → v.tables.route p (vci_of x) ≡ r → Keeps (arrive t p x) (routed v m p x r)
    accepts None e = refuses (arrive t p x) NoRoute
    accepts (Some r) e = stores r e (v.cells p).free refl

  arrives : (t : Ticket) (p : ℕ) (x : List ℕ) → Keeps (arrive t p x) (arrive_call v m t p x)
  arrives t p x = by-unless (Keeps (arrive t p x))
      ((PortBeyond, beyond v p) ∷ (CellLength, not53 x) ∷ (CellMemoryLength, cells_amiss v m) ∷ (WrongTicket, wrong v Arriving t) ∷ (TurnUsed, v.slot.used p) ∷ []) v m _ (refuses (arrive t p x))
      (λ clear. cond_both (is_idle x) _ (routed v m p x (v.tables.route p (vci_of x))) (Keeps (arrive t p x))
      (λ _. record { carried = λ inv. stays a s inv; other-memory = λ f. absurd f })
      (λ _. accepts t p x (stage-of t Arriving clear.1.1.1.0)
      (ltb-true p v.ports (not-false (ltb p v.ports) clear.0))
      (eqb-true (length x) 53 (not-false (eqb (length x) 53) clear.1.0))
      (eqb-true (length m.cells) (v.ports * 16) (not-false (eqb (length m.cells) (v.ports * 16)) clear.1.1.0))
      (v.tables.route p (vci_of x)) refl))

  decides : (t : Ticket) → Keeps (decide t) (decide_call a v m t)
  decides t = by-unless (Keeps (decide t)) ((WrongTicket, wrong v Arriving t) ∷ []) v m _ (refuses (decide t))
      (λ clear. record { carried = λ inv. decided a rules s inv (stage-of t Arriving clear.0); other-memory = λ f. absurd f })

  module _ (t : Ticket) (here : v.slot.stage ≡ Sending) (size : length m.bytes ≡ v.ports * 53) where
    -- the bytes then at the output are the head of its queue, rewritten
    bytes-are : (inv : InvariantAt a s h v m) (x : ℕ × ℕ) (left : List (ℕ × ℕ)) (e : v.slot.grants ≡ x ∷ left)
        → part x.1 (parted x.1 (leaving (head_block v m x.0 x.1)) m.bytes) ≡ leaving (head a rules s inv here x left e).block
    bytes-are inv x left e =
        let b = head a rules s inv here x left e in
        let is : head_block v m x.0 x.1 ≡ b.block = get_or-of-nth m.cells (place x.0 (get_or ((v.cells x.0).queue x.1) 0 0)) (record { cell = []; new_vci = 0 }) b.block b.is in
        ap (λ (y : Block). part x.1 (parted x.1 (leaving y) m.bytes)) is
        ∙ part-parted x.1 v.ports (leaving b.block) m.bytes (length-leaving b.block ∙ b.long) size (subst (λ (n : ℕ). x.1 < n) (sym inv.ports-is) (output-small a rules s inv here x left e))

    notes : (x : ℕ × ℕ) (left : List (ℕ × ℕ)) → v.slot.grants ≡ x ∷ left → (free : List ℕ) → Keeps (depart t) (noted v m x left free)
    notes x left e [] = refuses (depart t) NotesFull
    notes x left e (n ∷ free) = record {
      carried = λ inv. departed a rules s inv here x left e (part x.1 (parted x.1 (leaving (head_block v m x.0 x.1)) m.bytes)) (bytes-are inv x left e);
      other-memory = λ f. absurd f;
    }

    sends : (grants : List (ℕ × ℕ)) → v.slot.grants ≡ grants → Keeps (depart t) (sent_first v m grants)
    sends [] e = refuses (depart t) NoGrantLeft
    sends (x ∷ left) e = notes x left e v.notes.free

  departs : (t : Ticket) → Keeps (depart t) (depart_call v m t)
  departs t = by-unless (Keeps (depart t))
      ((CellMemoryLength, cells_amiss v m) ∷ (NoteMemoryLength, notes_amiss m) ∷ (SlotBytesLength, bytes_amiss v m) ∷ (WrongTicket, wrong v Sending t) ∷ []) v m _ (refuses (depart t))
      (λ clear. sends t (stage-of t Sending clear.1.1.1.0) (eqb-true (length m.bytes) (v.ports * 53) (not-false (eqb (length m.bytes) (v.ports * 53)) clear.1.1.0)) v.slot.grants refl)

  closes : (t : Ticket) → Keeps (close t) (close_call v m t)
  closes t = by-unless (Keeps (close t)) ((WrongTicket, wrong v Sending t) ∷ (GrantsUnsent, not (is_empty v.slot.grants)) ∷ []) v m _ (refuses (close t))
      (λ clear. record { carried = λ inv. closed a rules s inv (stage-of t Sending clear.0) (nil-of v.slot.grants clear.1.0); other-memory = λ f. absurd f })

  takes : (o : ℕ) → Keeps (take_note o) (take_note_call v m o)
  takes o = by-unless (Keeps (take_note o)) ((PortBeyond, beyond v o) ∷ (NoteMemoryLength, notes_amiss m) ∷ []) v m _ (refuses (take_note o))
      (λ _. elim (v.notes.queue o) as (λ q. Keeps (take_note o) (oldest v m o q)) [
        | [] ↦ refuses (take_note o) NoNote
        | n ∷ rest ↦ record { carried = λ inv. stays a s inv; other-memory = λ f. absurd f }
      ])

  looks : (i o : ℕ) (x : List ℕ) → Keeps (look i o x) (look_call v m i o x)
  looks i o x = by-unless (Keeps (look i o x))
      ((PortBeyond, pair_beyond v i o) ∷ (CellMemoryLength, cells_amiss v m) ∷ (IdleOrLookLength, not53 x) ∷ (NoCell, is_empty ((v.cells i).queue o)) ∷ []) v m _ (refuses (look i o x))
      (λ _. record { carried = λ inv. stays a s inv; other-memory = λ f. absurd f })

  lines : (o : ℕ) (x : List ℕ) → Keeps (line o x) (line_call v m o x)
  lines o x = by-unless (Keeps (line o x)) ((PortBeyond, beyond v o) ∷ (SlotBytesLength, bytes_amiss v m) ∷ (IdleOrLookLength, not53 x) ∷ []) v m _ (refuses (line o x))
      (λ _. record { carried = λ inv. stays a s inv; other-memory = λ f. absurd f })

  pub keeps : (c : Call) → Keeps c (outcome a v m c)
  keeps (set_route p c o w) = sets p c o w
  keeps (remove_route p c) = removes p c
  keeps open_slot = opens
  keeps (arrive t p x) = arrives t p x
  keeps (decide t) = decides t
  keeps (depart t) = departs t
  keeps (close t) = closes t
  keeps (take_note o) = takes o
  keeps (look i o x) = looks i o x
  keeps (line o x) = lines o x

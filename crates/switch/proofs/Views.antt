-- What look and line answer, by the facts of the code.
use Rattle.std.proofs.Common.{◌≡◌, ℕ, ◌*◌, ◌<◌, ◌≤◌, Bool, true, false, cond, not, ltb, List, [], ◌∷◌, length, get_or, Ok, Err, Result, sym, refl, ap, ◌∙◌, ap₂, arith}
use Rattle.std.proofs.lemmas.Bool.{lt-ltb, eq-eqb, and_from}
use Rattle.outgoing.specs.Look.{of_length, look_at}
use Rattle.outgoing.specs.Results.{answered, written}
use Rattle.outgoing.specs.SlotBytes.{line_of}
use Rattle.outgoing.proofs.Places.{has_part_lem}
use Rattle.queues.specs.declared.refusal.QueueRefusal.{QueueRefusal}
use Rattle.queues.specs.declared.refusal.QueueRefusal.TheVariants.{NoSuchQueue}
use Rattle.queues.specs.Calls.{head_call, head_of, then}
use Rattle.queues.specs.Queues.{Queues}
use Rattle.refusals.specs.declared.refusal.Refusal.{Refusal}
use Rattle.refusals.specs.declared.refusal.Refusal.TheVariants.{PortBeyond, CellMemoryLength, SlotBytesLength, IdleOrLookLength, NoCell}
use Rattle.law.specs.declared.memory.Block.{Block}
use Rattle.law.specs.declared.memory.Note.{Note}
use Rattle.switch.specs.declared.state.Switch.{Switch}
use Rattle.arbiters.specs.declared.arbiter.Arbiter.{Ghosts}
use Rattle.switch.specs.Seen.{view, looking, Looks}
use Rattle.law.specs.View.{Memory, View, place, leaving, part}
use Rattle.law.specs.Calls.{Outcome, unless, done, refused, is_empty, not53, head_block, look_call, line_call}

-- an answer that leaves all as it is
abbrev pub told : {A T : Type 0} → View A → Memory → Result T Refusal → Outcome A T
told v m r = record { reply = r; view = v; memory = m }

pub lines : {A : Type 0} (v : View A) (m : Memory) (o : ℕ) (x : List ℕ) (r : Result (List ℕ) Refusal) → o < v.ports → length m.bytes ≡ v.ports * 53
    → r ≡ line_of m.bytes o (v.slot.sent o) x → line_call v m o x ≡ told v m r
lines {A} v m o x r lo size e =
    ap₂ (λ (a b : Bool). cond {A = Outcome A (List ℕ)} a (refused PortBeyond v m) (cond b (refused SlotBytesLength v m) (unless ((IdleOrLookLength, not53 x) ∷ []) v m (done (cond (v.slot.sent o) (part o m.bytes) x) v m))))
    (ap not (lt-ltb o v.ports lo)) (ap not (eq-eqb (length m.bytes) (v.ports * 53) size))
    ∙ by_length (not53 x)
    ∙ sym (ap (told v m) (e ∙ ap (λ (b : Bool). cond {A = Result (List ℕ) Refusal} b (of_length x (cond (v.slot.sent o) (part o m.bytes) x)) (Err SlotBytesLength)) (has_part_lem o v.ports m.bytes lo (omega arith))))
  where
    by_length : (b : Bool) → cond {A = Outcome A (List ℕ)} b (refused IdleOrLookLength v m) (done (cond (v.slot.sent o) (part o m.bytes) x) v m)
        ≡ told v m (cond {A = Result (List ℕ) Refusal} b (Err IdleOrLookLength) (Ok (cond (v.slot.sent o) (part o m.bytes) x)))
    by_length true = refl
    by_length false = refl

module _ {A : Type 0} (v : View A) (m : Memory) (i o : ℕ) (x : List ℕ) (q : Queues) (is : v.cells i ≡ q) (li : i < v.ports) (lo : o < v.ports) (small : v.ports ≤ 8) (size : length m.cells ≡ v.ports * 16) where
  begins : look_call v m i o x ≡ cond (not53 x) (refused IdleOrLookLength v m) (cond (is_empty ((v.cells i).queue o)) (refused NoCell v m) (done (leaving (head_block v m i o)) v m))
  begins = ap₂ (λ (a b : Bool). cond {A = Outcome A (List ℕ)} a (refused PortBeyond v m) (cond b (refused CellMemoryLength v m)
      (cond (not53 x) (refused IdleOrLookLength v m) (cond (is_empty ((v.cells i).queue o)) (refused NoCell v m) (done (leaving (head_block v m i o)) v m)))))
      (ap not (and_from (ltb i v.ports) (ltb o v.ports) (lt-ltb i v.ports li) (lt-ltb o v.ports lo))) (ap not (eq-eqb (length m.cells) (v.ports * 16) size))

  head-is : head_call q o ≡ head_of ((v.cells i).queue o)
  head-is = ap (λ (b : Bool). then (cond {A = Result (Unit {0}) QueueRefusal} b (Ok tt) (Err NoSuchQueue)) (head_of (q.queue o))) (lt-ltb o 8 (omega arith)) ∙ ap (λ (z : Queues). head_of (z.queue o)) (sym is)

  pub looks-at : (b : ℕ) → Ok b ≡ head_call q o → b < 16 → look_call v m i o x ≡ told v m (look_at m.cells (place i b) x)
  looks-at b e few = begins ∙ by-queue ((v.cells i).queue o) refl (e ∙ head-is)
    where
      by_length : (f : Bool) (y : List ℕ) → cond {A = Outcome A (List ℕ)} f (refused IdleOrLookLength v m) (done y v m) ≡ told v m (cond {A = Result (List ℕ) Refusal} f (Err IdleOrLookLength) (Ok y))
      by_length true y = refl
      by_length false y = refl

      by-queue : (l : List ℕ) → (v.cells i).queue o ≡ l → Ok b ≡ head_of l
          → cond {A = Outcome A (List ℕ)} (not53 x) (refused IdleOrLookLength v m) (cond (is_empty ((v.cells i).queue o)) (refused NoCell v m) (done (leaving (head_block v m i o)) v m)) ≡ told v m (look_at m.cells (place i b) x)
      by-queue [] f g = let z : ◌≡◌ {A = ℕ} 0 1 = cc in absurd (omega arith)
      by-queue (n ∷ l) f g =
          let same : b ≡ n = cc in
          let inside : place i b < length m.cells = omega (arith, size, few, li) in
          ap (λ (l : List ℕ). cond {A = Outcome A (List ℕ)} (not53 x) (refused IdleOrLookLength v m)
          (cond (is_empty l) (refused NoCell v m) (done (leaving (get_or m.cells (place i (get_or l 0 0)) (record { cell = []; new_vci = 0 }))) v m))) f
          ∙ by_length (not53 x) (leaving (get_or m.cells (place i n) (record { cell = []; new_vci = 0 })))
          ∙ ap (λ (k : ℕ). told v m (cond {A = Result (List ℕ) Refusal} (not53 x) (Err IdleOrLookLength) (Ok (leaving (get_or m.cells (place i k) (record { cell = []; new_vci = 0 })))))) (sym same)
          ∙ sym (ap (λ (f : Bool). told v m (cond {A = Result (List ℕ) Refusal} (not53 x) (Err IdleOrLookLength)
          (cond {A = Result (List ℕ) Refusal} f (Ok (leaving (get_or m.cells (place i b) (record { cell = []; new_vci = 0 })))) (Err NoCell)))) (lt-ltb (place i b) (length m.cells) inside))

  pub looks-in-vain : (k : QueueRefusal) → Err k ≡ head_call q o → look_call v m i o x ≡ told v m (cond {A = Result (List ℕ) Refusal} (not53 x) (Err IdleOrLookLength) (Err NoCell))
  looks-in-vain k e = begins ∙ by-queue ((v.cells i).queue o) refl (e ∙ head-is)
    where
      by_length : (f : Bool) → cond {A = Outcome A (List ℕ)} f (refused IdleOrLookLength v m) (refused NoCell v m) ≡ told v m (cond {A = Result (List ℕ) Refusal} f (Err IdleOrLookLength) (Err NoCell))
      by_length true = refl
      by_length false = refl

      by-queue : (l : List ℕ) → (v.cells i).queue o ≡ l → Err k ≡ head_of l
          → cond {A = Outcome A (List ℕ)} (not53 x) (refused IdleOrLookLength v m) (cond (is_empty ((v.cells i).queue o)) (refused NoCell v m) (done (leaving (head_block v m i o)) v m))
          ≡ told v m (cond {A = Result (List ℕ) Refusal} (not53 x) (Err IdleOrLookLength) (Err NoCell))
      by-queue [] f g = ap (λ (b : Bool). cond {A = Outcome A (List ℕ)} (not53 x) (refused IdleOrLookLength v m) (cond b (refused NoCell v m) (done (leaving (head_block v m i o)) v m))) (ap is_empty f) ∙ by_length (not53 x)
      by-queue (n ∷ l) f g = let z : ◌≡◌ {A = ℕ} 0 1 = cc in absurd (omega arith)

-- the whole of what look leaves, from what the call comes to
pub looked : {A : Type 0} {G : Ghosts A} (s : Switch A G) (i o : ℕ) (cells : List Block) (x : List ℕ) (r : Result (Unit {0}) Refusal) (cells' : List Block) (y : List ℕ) (come : Result (List ℕ) Refusal)
    → ((notes : List Note) (bytes : List ℕ) → looking s i o cells x notes bytes ≡ told (view s) (record { cells = cells; notes = notes; bytes = bytes }) come)
    → r ≡ answered come → y ≡ written come x → cells' ≡ cells → Looks s i o cells x r cells' y
looked {A} s i o cells x r cells' y come e f g h = record {
  answer = λ notes bytes. f ∙ sym (ap (λ (z : Outcome A (List ℕ)). answered z.reply) (e notes bytes));
  shown = λ notes bytes. g ∙ sym (ap (λ (z : Outcome A (List ℕ)). written z.reply x) (e notes bytes));
  memory = λ notes bytes. ap (λ (z : Outcome A (List ℕ)). z.memory) (e notes bytes) ∙ ap (λ (l : List Block). record { cells = l; notes = notes; bytes = bytes }) (sym h);
  switch = λ notes bytes. ap (λ (z : Outcome A (List ℕ)). z.view) (e notes bytes);
}

-- bytes of the right length
pub right-length : (x : List ℕ) (u : Unit {0}) → Ok u ≡ of_length x tt → not53 x ≡ false
right-length x u e = go (not53 x) e
  where
    go : (b : Bool) → Ok u ≡ cond {A = Result (Unit {0}) Refusal} b (Err IdleOrLookLength) (Ok tt) → b ≡ false
    go true e = let z : ◌≡◌ {A = ℕ} 0 1 = cc in absurd (omega arith)
    go false e = refl

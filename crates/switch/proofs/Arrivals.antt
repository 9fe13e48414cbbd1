-- A cell that arrives, by the facts of the code.
use Rattle.std.proofs.Common.{◌≡◌, ℕ, ◌*◌, ◌<◌, ◌≤◌, Bool, true, false, cond, not, List, [], ◌∷◌, ◌++◌, length, set, Ok, Err, Result, sym, refl, ap, ◌∙◌, ap₂, arith}
use Rattle.std.proofs.lemmas.List.{length-append}
use Rattle.std.proofs.lemmas.Bool.{lt-ltb, eq-eqb}
use Rattle.cells.specs.Header.{vci_of, is_idle}
use Rattle.queues.specs.Queues.{Queues, put, joined}
use Rattle.refusals.specs.declared.refusal.Refusal.{Refusal}
use Rattle.refusals.specs.declared.refusal.Refusal.TheVariants.{PortBeyond, CellLength, CellMemoryLength, WrongTicket, TurnUsed, InputFull}
use Rattle.routes.specs.declared.route.Route.{Route}
use Rattle.law.specs.declared.answers.Arrival.TheVariants.{Idle, Accepted}
use Rattle.law.specs.declared.memory.Block.{Block}
use Rattle.law.specs.declared.stage.Stage.TheVariants.{Arriving}
use Rattle.law.specs.View.{Memory, View, Slot, place}
use Rattle.law.specs.Calls.{Ticket, done, refused, with_slot, turn_used, beyond, not53, cells_amiss, wrong, stored, routed, arrive_call}
use Rattle.law.proofs.Refusing.{passes}
use Rattle.law.specs.History.{both}
use Rattle.law.proofs.Blocks.{joins, queue-put, both-same}
use Rattle.switch.specs.Seen.{Stored, storing, Stores}

-- carried as far as the idle test
module _ {A : Type 0} (v : View A) (m : Memory) (t : Ticket) (p : ℕ) (c : List ℕ) (lp : p < v.ports) (long : length c ≡ 53) (size : length m.cells ≡ v.ports * 16)
    (fits : wrong v Arriving t ≡ false) (turn : v.slot.used p ≡ false) where
  enters : arrive_call v m t p c ≡ cond (is_idle c) (done Idle (with_slot v (turn_used v.slot p)) m) (routed v m p c (v.tables.route p (vci_of c)))
  enters = passes
      ((PortBeyond, beyond v p) ∷ (CellLength, not53 c) ∷ (CellMemoryLength, cells_amiss v m) ∷ (WrongTicket, wrong v Arriving t) ∷ (TurnUsed, v.slot.used p) ∷ []) v m _
      (ap not (lt-ltb p v.ports lp), (ap not (eq-eqb (length c) 53 long), (ap not (eq-eqb (length m.cells) (v.ports * 16) size), (fits, (turn, tt)))))

  pub idles : (used : ℕ → Bool) → is_idle c ≡ true → used ≡ put v.slot.used p true
      → arrive_call v m t p c ≡ done Idle (with_slot v (record { next = v.slot.next; stage = v.slot.stage; used = used; grants = v.slot.grants; granted = v.slot.granted; sent = v.slot.sent })) m
  idles used e f =
      enters ∙ ap (λ (b : Bool). cond b (done Idle (with_slot v (turn_used v.slot p)) m) (routed v m p c (v.tables.route p (vci_of c)))) e
      ∙ ap (λ (u : ℕ → Bool). done Idle (with_slot v (record { next = v.slot.next; stage = v.slot.stage; used = u; grants = v.slot.grants; granted = v.slot.granted; sent = v.slot.sent })) m) (sym f)

  pub looks_for_route : is_idle c ≡ false → arrive_call v m t p c ≡ routed v m p c (v.tables.route p (vci_of c))
  looks_for_route e = enters ∙ ap (λ (b : Bool). cond b (done Idle (with_slot v (turn_used v.slot p)) m) (routed v m p c (v.tables.route p (vci_of c)))) e

-- the route is r, and storing left the queues q and the blocks ys
module _ {A : Type 0} (v : View A) (m : Memory) (p : ℕ) (c : List ℕ) (r : Route) (q : ℕ → Queues) (ys : List Block) where
  abbrev block : Block
  block = record { cell = c; new_vci = r.new_vci }

  abbrev view : Slot → (ℕ → Queues) → View A
  view s cells = record { ports = v.ports; mark = v.mark; arbiter = v.arbiter; slot = s; tables = v.tables; cells = cells; notes = v.notes }

  abbrev memory : List Block → Memory
  memory ys = record { cells = ys; notes = m.notes; bytes = m.bytes }

  abbrev slot : (ℕ → Bool) → Slot
  slot used = record { next = v.slot.next; stage = v.slot.stage; used = used; grants = v.slot.grants; granted = v.slot.granted; sent = v.slot.sent }

  pub stores : (ahead : ℕ) (used : ℕ → Bool) → used ≡ put v.slot.used p true → Stores v.cells m.cells p r.output block (Ok ahead) q ys
      → stored v m p c r (v.cells p).free ≡ done (Accepted r.output ahead) (view (slot used) q) (memory ys)
  stores ahead used f e = go (v.cells p).free e
    where
      go : (free : List ℕ) → ◌≡◌ {A = Stored} (record { answer = Ok ahead; queues = q; blocks = ys }) (storing v.cells m.cells p r.output block free)
          → stored v m p c r free ≡ done (Accepted r.output ahead) (view (slot used) q) (memory ys)
      go [] x =
          let y = ap (λ (o : Stored). o.answer) x in
          let z : ◌≡◌ {A = ℕ} 0 1 = cc in absurd (omega arith)
      go (b ∷ free) x =
          let y = ap (λ (o : Stored). o.answer) x in
          let n : ahead ≡ length ((v.cells p).queue r.output) = cc in
          ap₂ (λ (k : ℕ) (w : ℕ → Queues). done (Accepted r.output k) (view (slot (put v.slot.used p true)) w) (memory (set m.cells (place p b) block))) (sym n) (sym (ap (λ (o : Stored). o.queues) x))
          ∙ ap₂ (λ (u : ℕ → Bool) (l : List Block). done (Accepted r.output ahead) (view (slot u) q) (memory l)) (sym f) (sym (ap (λ (o : Stored). o.blocks) x))

  pub fills : (k : Refusal) → Stores v.cells m.cells p r.output block (Err k) q ys → stored v m p c r (v.cells p).free ≡ refused k (view v.slot q) (memory ys)
  fills k e = go (v.cells p).free e
    where
      go : (free : List ℕ) → ◌≡◌ {A = Stored} (record { answer = Err k; queues = q; blocks = ys }) (storing v.cells m.cells p r.output block free)
          → stored v m p c r free ≡ refused k (view v.slot q) (memory ys)
      go [] x =
          let y = ap (λ (o : Stored). o.answer) x in
          let full : k ≡ InputFull = cc in
          ap₂ (λ (w : ℕ → Queues) (l : List Block). refused InputFull (view v.slot w) (memory l)) (sym (ap (λ (o : Stored). o.queues) x)) (sym (ap (λ (o : Stored). o.blocks) x))
          ∙ ap (λ (f : Refusal). refused f (view v.slot q) (memory ys)) (sym full)
      go (b ∷ free) x =
          let y = ap (λ (o : Stored). o.answer) x in
          let z : ◌≡◌ {A = ℕ} 0 1 = cc in absurd (omega arith)

-- storing makes no queue shorter
pub longer : (s t : ℕ → Queues) (xs ys : List Block) (i q : ℕ) (x : Block) (r : Result ℕ Refusal) → Stores s xs i q x r t ys → (j u : ℕ) → length ((s j).queue u) ≤ length ((t j).queue u)
longer s t xs ys i q x r e j u = go (s i).free refl e
  where
    go : (free : List ℕ) → (s i).free ≡ free → ◌≡◌ {A = Stored} (record { answer = r; queues = t; blocks = ys }) (storing s xs i q x free) → length ((s j).queue u) ≤ length ((t j).queue u)
    go [] f e = omega (arith, ap (λ (o : Stored). length ((o.queues j).queue u)) e)
    go (b ∷ rest) f e =
        let is = ap (λ (o : Stored). length ((o.queues j).queue u)) e ∙ ap length (queue-put s (joined (s i) q) i q ((s i).queue q ++ (b ∷ [])) j u (joins (s i) q b rest f).queue) in
        grows (both j u i q) is (both-same j u i q)
      where
        grows : (f : Bool) → length ((t j).queue u) ≡ length (cond f ((s i).queue q ++ (b ∷ [])) ((s j).queue u)) → (f ≡ true → (j ≡ i) × (u ≡ q)) → length ((s j).queue u) ≤ length ((t j).queue u)
        grows true is w = let e = w refl in omega (arith, is, length-append ((s i).queue q) (b ∷ []), ap₂ (λ (y z : ℕ). length ((s y).queue z)) e.0 e.1)
        grows false is w = omega (arith, is)

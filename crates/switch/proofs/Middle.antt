-- A block of an input, which lies in the middle of cell memory.
use Rattle.std.proofs.Common.{◌≡◌, ℕ, ◌+◌, ◌-◌, ◌*◌, ◌<◌, ◌≤◌, Bool, cond, List, [], ◌∷◌, ◌++◌, length, get_or, take, drop, set, Ok, Err, Result, sym, refl, ap, ◌∙◌, ap₂, inl, inr, arith}
use mathlib.Core.Path.{fun_ext}
use Rattle.std.proofs.lemmas.Bool.{eq-eqb, ne_eqb, cases_eq}
use borrow.Rule.Slice.PartMut.{put_mid}
use Rattle.std.proofs.lemmas.List.{set-append_left, set-append_right, take-append-drop, length-take-le, length-drop, get_or-take, get_or-drop}
use Rattle.queues.specs.declared.refusal.QueueRefusal.{QueueRefusal}
use Rattle.std.specs.List.{between}
use Rattle.queues.specs.declared.links.Links.{Links}
use Rattle.queues.specs.Calls.{Outcome, outcome, unless, join_by, join_call, take_call}
use Rattle.queues.specs.Queues.{Queues, put, joined, taken}
use Rattle.queues.specs.Queues as Queued
use Rattle.refusals.specs.declared.refusal.Refusal.TheVariants.{InputFull}
use Rattle.law.specs.declared.memory.Block.{Block}
use Rattle.switch.specs.Seen.{Stored, storing, Stores, block_at}
use Rattle.switch.specs.Ready.{cells_of}
use Rattle.switch.proofs.Errors.{refused_with}
use Rattle.switch.proofs.Heads.{fits-ok, head-inside, view-at, takes-head}
use Rattle.switch.proofs.Inputs.{cells_at, cells-put}

module _ {T : Type 0} (xs : List T) (a k : ℕ) (fits : a + k ≤ length xs) where
  pub length-mid : length (take k (drop a xs)) ≡ k
  length-mid = length-take-le k (drop a xs) (omega (arith, length-drop a xs))

  whole : take a xs ++ (take k (drop a xs) ++ drop k (drop a xs)) ≡ xs
  whole = ap (λ l. take a xs ++ l) (take-append-drop k (drop a xs)) ∙ take-append-drop a xs

  set-mid : (i : ℕ) (v : T) → i < k → put_mid a k xs (set (take k (drop a xs)) i v) ≡ set xs (a + i) v
  set-mid i v l =
      let n : (a + i) - a ≡ i = omega arith in
      ap (λ l. take a xs ++ l) (sym (set-append_left (take k (drop a xs)) (drop k (drop a xs)) i v (omega (arith, length-mid))))
      ∙ ap (λ j. take a xs ++ set (take k (drop a xs) ++ drop k (drop a xs)) j v) (sym n)
      ∙ sym (set-append_right (take a xs) _ a (a + i) v (length-take-le a xs (omega arith)) (omega arith))
      ∙ ap (λ l. set l (a + i) v) whole

-- a function replaced by what it is
put_same : {X : Type 0} (f : ℕ → X) (p : ℕ) → put f p (f p) ≡ f
put_same f p = fun_ext (λ i. elim (cases_eq i p) [
  | inl e ↦ ap (λ (b : Bool). cond b (f p) (f i)) (eq-eqb i p e) ∙ ap f (sym e)
  | inr e ↦ ap (λ (b : Bool). cond b (f p) (f i)) (ne_eqb i p e)
])

-- what joining does to the part, it does to the whole; the queues of input i are s, and cs those of all
pub join-mid : (s : Queues) (xs : List Block) (i q : ℕ) (x : Block) (k : ℕ) (free : List ℕ) → k ≡ 16 → ((b : ℕ) (rest : List ℕ) → free ≡ b ∷ rest → b < 16) → i * 16 + 16 ≤ length xs
    → (cs ds : ℕ → Queues) → cs i ≡ s → (o : Outcome ℕ Block) → o ≡ join_by s (take k (drop (i * 16) xs)) q x free → ds ≡ put cs i o.queues
    → ◌≡◌ {A = Stored} (record { answer = refused_with InputFull o.answer; queues = ds; blocks = put_mid (i * 16) k xs o.blocks }) (storing cs xs i q x free)
join-mid s xs i q x k [] sixteen few room cs ds is o e f =
    ap₂ (λ (o : Outcome ℕ Block) (d : ℕ → Queues). record { answer = refused_with InputFull o.answer; queues = d; blocks = put_mid (i * 16) k xs o.blocks }) e
    (f ∙ ap (λ (o : Outcome ℕ Block). put cs i o.queues) e ∙ ap (put cs i) (sym is) ∙ put_same cs i)
    ∙ ap (λ (l : List Block). record { answer = Err InputFull; queues = cs; blocks = l }) (whole xs (i * 16) k (omega arith))
join-mid s xs i q x k (b ∷ rest) sixteen few room cs ds is o e f =
    ap₂ (λ (o : Outcome ℕ Block) (d : ℕ → Queues). record { answer = refused_with InputFull o.answer; queues = d; blocks = put_mid (i * 16) k xs o.blocks }) e
    (f ∙ ap (λ (o : Outcome ℕ Block). put cs i o.queues) e ∙ ap (λ (z : Queues). put cs i (joined z q)) (sym is))
    ∙ ap₂ (λ (n : ℕ) (l : List Block). record { answer = Ok n; queues = put cs i (joined (cs i) q); blocks = l }) (ap (λ (z : Queues). length (z.queue q)) (sym is))
    (set-mid xs (i * 16) k (omega arith) b x (let l = few b rest refl in omega arith))

-- storing, by what joining the queue of one of the links answered
pub store_is : (ls : List (Links 16)) (i : ℕ) (d new : Links 16) (xs ys : List Block) (q : ℕ) (x : Block) (r : Result ℕ QueueRefusal) → i < length ls → q < 8 → i * 16 + 16 ≤ length xs
    → outcome r (Queued.view new) ys ≡ join_call 16 (Queued.view (get_or ls i d)) (between (i * 16) (i * 16 + 16) xs) q x
    → Stores (cells_of ls) xs i q x (refused_with InputFull r) (cells_of (set ls i new)) (put_mid (i * 16) ((i * 16 + 16) - i * 16) xs ys)
store_is ls i d new xs ys q x r li lq room e =
    let s = Queued.view (get_or ls i d) in
    let k : ℕ = (i * 16 + 16) - i * 16 in
    let sixteen : k ≡ 16 = omega arith in
    let is : cells_of ls i ≡ s = cells_at ls i d li in
    join-mid s xs i q x k s.free sixteen (λ b rest f. head-inside (get_or ls i d) 8 b rest (omega arith) f) room (cells_of ls) (cells_of (set ls i new)) is (outcome r (Queued.view new) ys)
    (e ∙ ap (λ (f : Result (Unit {0}) QueueRefusal). unless f s (between (i * 16) (i * 16 + 16) xs) (join_by s (between (i * 16) (i * 16 + 16) xs) q x s.free))
    (fits-ok 16 (length (between (i * 16) (i * 16 + 16) xs)) q lq (length-mid xs (i * 16) k (omega arith) ∙ sixteen)))
    (cells-put ls i new li)
    ∙ ap (λ (z : Queues). storing (cells_of ls) xs i q x z.free) (sym is)

-- taking the head of a queue that holds a cell
module _ (ls : List (Links 16)) (i : ℕ) (d : Links 16) (xs : List Block) (q : ℕ) (li : i < length ls) (lq : q < 8) (room : i * 16 + 16 ≤ length xs) (some : 1 ≤ length ((cells_of ls i).queue q)) where
  abbrev s : Queues
  s = Queued.view (get_or ls i d)

  abbrev mid : List Block
  mid = between (i * 16) (i * 16 + 16) xs

  abbrev head : ℕ
  head = get_or ((cells_of ls i).queue q) 0 0

  is : cells_of ls i ≡ s
  is = cells_at ls i d li

  first_of : (l : List ℕ) → 1 ≤ length l → l ≡ get_or l 0 0 ∷ drop 1 l
  first_of [] l = absurd (omega arith)
  first_of (b ∷ rest) l = refl

  queue-is : s.queue q ≡ head ∷ drop 1 ((cells_of ls i).queue q)
  queue-is = ap (λ (z : Queues). z.queue q) (sym is) ∙ first_of ((cells_of ls i).queue q) some

  sixteen : (i * 16 + 16) - i * 16 ≡ 16
  sixteen = omega arith

  size : length mid ≡ 16
  size = length-mid xs (i * 16) ((i * 16 + 16) - i * 16) (omega (arith, sixteen, room)) ∙ sixteen

  few : head < 16
  few = head-inside (get_or ls i d) q head (drop 1 ((cells_of ls i).queue q)) (omega arith) (sym (view-at (get_or ls i d) q lq) ∙ queue-is)

  taken_is : take_call 16 s mid q ≡ outcome (Ok (block_at xs i head)) (taken s q) mid
  taken_is = takes-head (get_or ls i d) mid q lq size head (drop 1 ((cells_of ls i).queue q)) (record { cell = []; new_vci = 0 }) queue-is
      ∙ ap (λ (b : Block). outcome (Ok b) (taken s q) mid) (get_or-take ((i * 16 + 16) - i * 16) (drop (i * 16) xs) head (record { cell = []; new_vci = 0 }) (omega (arith, few, sixteen)) ∙ get_or-drop (i * 16) xs head (record { cell = []; new_vci = 0 }))

  pub fetch-is : (r : Result Block QueueRefusal) (new : Links 16) → outcome r (Queued.view new) mid ≡ take_call 16 s mid q
      → (r ≡ Ok (block_at xs i head)) × (cells_of (set ls i new) ≡ put (cells_of ls) i (taken (cells_of ls i) q))
  fetch-is r new e =
      let x = e ∙ taken_is in (
        ap (λ (o : Outcome Block Block). o.answer) x,
        cells-put ls i new li ∙ ap (put (cells_of ls) i) (ap (λ (o : Outcome Block Block). o.queues) x ∙ ap (λ (z : Queues). taken z q) (sym is)),
      )

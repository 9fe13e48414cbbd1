-- The blocks at the heads of the lists, and what taking one gives.
use Rattle.std.proofs.Common.{◌≡◌, ℕ, zero, suc, ◌<◌, Bool, cond, List, [], ◌∷◌, length, get_or, Ok, Err, Option, Result, sym, refl, ap, ◌∙◌, ap₂, arith}
use Rattle.std.proofs.lemmas.Bool.{lt-ltb, eq-eqb}
use Rattle.std.proofs.lemmas.Option.{slice_get-get_or}
use Rattle.queues.specs.declared.links.Links.{Links}
use Rattle.queues.specs.declared.refusal.QueueRefusal.{QueueRefusal}
use Rattle.queues.specs.declared.refusal.QueueRefusal.TheVariants.{NoSuchQueue, BlockCount, Empty}
use Rattle.queues.specs.Calls.{outcome, fits, then, held, head_of, read_by, take_by, take_call}
use Rattle.queues.specs.Linked.{behind, blocks_from, list_at}
use Rattle.queues.specs.Queues.{taken, blocks_of, view}

from-head : (next : List ℕ) (h n b : ℕ) (rest : List ℕ) → blocks_from next h n ≡ b ∷ rest → (h ≡ b) × (0 < n)
unfolding blocks_from
from-head next h zero b rest e = let z : ◌≡◌ {A = ℕ} 0 1 = cc in absurd (omega arith)
from-head next h (suc n) b rest e = (cc, omega arith)

behind-none : (next : List ℕ) (b : ℕ) → behind next b 0 ≡ b
unfolding behind
behind-none next b = refl

-- the head of a list is one of the blocks
pub head-inside : {B : ℕ} (l : Links B) (q b : ℕ) (rest : List ℕ) → q < 9 → blocks_of l q ≡ b ∷ rest → b < B
head-inside l q b rest lq e =
    let list = list_at l.queues l.free q in
    let r = from-head l.next list.head list.count b rest e in
    omega (arith, r.0, l.inside q 0 lq r.1, behind-none l.next list.head)

pub view-at : {B : ℕ} (l : Links B) (q : ℕ) → q < 8 → (view l).queue q ≡ blocks_of l q
view-at l q h = ap (λ (b : Bool). cond b (blocks_of l q) []) (lt-ltb q 8 h)

pub fits-ok : (B n q : ℕ) → q < 8 → n ≡ B → fits B n q ≡ Ok tt
fits-ok B n q l e = ap₂ (λ (x y : Bool). then (cond {A = Result (Unit {0}) QueueRefusal} x (Ok tt) (Err NoSuchQueue)) (cond {A = Result (Unit {0}) QueueRefusal} y (Ok tt) (Err BlockCount))) (lt-ltb q 8 l) (eq-eqb n B e)

module _ {B : ℕ} {T : Type 0} (l : Links B) (xs : List T) (q : ℕ) (lq : q < 8) (size : length xs ≡ B) where
  fitted : take_call B (view l) xs q ≡ take_by (view l) xs q (read_by xs (head_of ((view l).queue q)))
  fitted = ap (λ (r : Result (Unit {0}) QueueRefusal). take_by (view l) xs q (then r (read_by xs (head_of ((view l).queue q))))) (fits-ok B (length xs) q lq size)

  pub takes-head : (b : ℕ) (rest : List ℕ) (d : T) → (view l).queue q ≡ b ∷ rest → take_call B (view l) xs q ≡ outcome (Ok (get_or xs b d)) (taken (view l) q) xs
  takes-head b rest d e =
      let inside = head-inside l q b rest (omega arith) (sym (view-at l q lq) ∙ e) in
      fitted ∙ ap (λ (r : List ℕ). take_by (view l) xs q (read_by xs (head_of r))) e
      ∙ ap (λ (o : Option T). take_by (view l) xs q (held o)) (slice_get-get_or xs b d (omega arith))

  pub takes_none : (view l).queue q ≡ [] → take_call B (view l) xs q ≡ outcome (Err Empty) (view l) xs
  takes_none e = fitted ∙ ap (λ (r : List ℕ). take_by (view l) xs q (read_by xs (head_of r))) e

-- What a pop of one list and a push to another make of the lists.
use Rattle.std.proofs.Common.{◌≡◌, ℕ, ◌+◌, ◌<◌, cond, List, length, get_or, set, sym, ap, ◌∙◌, ap₂, arith}
use Rattle.std.proofs.lemmas.List.{get_or-set_same, get_or-set_other}
use Rattle.std.proofs.lemmas.List.Sums.{sum_by-set}
use Rattle.std.proofs.lemmas.Bool.{ne_eqb}
use Rattle.queues.specs.declared.block_list.BlockList.{BlockList}
use Rattle.queues.specs.declared.links.Links.{Links}
use Rattle.queues.specs.BlockList.{popped, pushed, linked}
use Rattle.queues.specs.Linked.{list_at, sum_of_counts}
use Rattle.queues.proofs.Moving.{Relinked, Moved, moved}

abbrev pub queue_at : List BlockList → ℕ → BlockList
queue_at queues q = get_or queues q (record { head = 0; tail = 0; count = 0 })

pub list_at-queue : (queues : List BlockList) (free : BlockList) (q : ℕ) → (q ≡ 8 → ⊥) → list_at queues free q ≡ queue_at queues q
list_at-queue queues free q ne = ap (λ t. cond t free (queue_at queues q)) (ne_eqb q 8 ne)

module _ (queues : List BlockList) (free : BlockList) (q : ℕ) (lq : q < 8) (long : length queues ≡ 8) (next : List ℕ) where
  set-same : (l free' : BlockList) → list_at (set queues q l) free' q ≡ l
  set-same l free' = list_at-queue (set queues q l) free' q (omega arith) ∙ get_or-set_same queues q l _ (omega arith)

  set-other : (l free' : BlockList) (p : ℕ) → (p ≡ 8 → ⊥) → (p ≡ q → ⊥) → list_at (set queues q l) free' p ≡ list_at queues free p
  set-other l free' p ne np =
      list_at-queue (set queues q l) free' p ne ∙ get_or-set_other queues q p l _ np ∙ sym (list_at-queue queues free p ne)

  as-queue : queue_at queues q ≡ list_at queues free q
  as-queue = sym (list_at-queue queues free q (omega arith))

  -- the head of the free list goes to the tail of the queue q
  append-relinks :
      (l free' : BlockList) (next' : List ℕ) (b : ℕ) → b ≡ free.head → free' ≡ popped next free
      → l ≡ pushed (queue_at queues q) b → next' ≡ linked (queue_at queues q) next b
      → Relinked 8 q next (list_at queues free) next' (list_at (set queues q l) free')
  append-relinks l free' next' b eb ef el en = record {
    from = ef;
    to = set-same l free' ∙ el ∙ ap₂ pushed as-queue eb;
    rest = λ p na nb. set-other l free' p na nb;
    links = en ∙ ap₂ (λ x y. linked x next y) as-queue eb;
  }

  -- the head of the queue q goes to the tail of the free list
  release-relinks :
      (l free' : BlockList) (next' : List ℕ) (b : ℕ) → b ≡ (queue_at queues q).head → l ≡ popped next (queue_at queues q)
      → free' ≡ pushed free b → next' ≡ linked free next b
      → Relinked q 8 next (list_at queues free) next' (list_at (set queues q l) free')
  release-relinks l free' next' b eb el ef en = record {
    from = set-same l free' ∙ el ∙ ap (popped next) as-queue;
    to = ef ∙ ap (pushed free) (eb ∙ ap (λ x. x.head) as-queue);
    rest = λ p na nb. set-other l free' p nb na;
    links = en ∙ ap (linked free next) (eb ∙ ap (λ x. x.head) as-queue);
  }

  -- the lists have as many blocks as before where one list has one more and another one less
  sum_of_counts-moved :
      (l free' : BlockList) → l.count + free'.count ≡ (queue_at queues q).count + free.count
      → sum_of_counts (set queues q l) free' ≡ sum_of_counts queues free
  sum_of_counts-moved l free' e = omega (arith, sum_by-set (λ (x : BlockList). x.count) queues q l (record { head = 0; tail = 0; count = 0 }) (omega arith))

-- the links after a step from the list a to the list b
pub record Stepped {B : ℕ} (links : Links B) (a b : ℕ) (next : List ℕ) (queues : List BlockList) (free : BlockList) : Type 0 where
  pub moved : Moved B a b links.next (list_at links.queues links.free) next (list_at queues free)
  pub whole : sum_of_counts queues free ≡ B

module _ {B : ℕ} (links : Links B) (q : ℕ) (lq : q < 8) (all : length links.next ≡ B) (long : length links.queues ≡ 8) where
  pub append-steps :
      (l free : BlockList) (next : List ℕ) (b : ℕ) → (0 < links.free.count) × (b ≡ links.free.head) × (free ≡ popped links.next links.free)
      → l ≡ pushed (queue_at links.queues q) b → next ≡ linked (queue_at links.queues q) links.next b
      → Stepped links 8 q next (set links.queues q l) free
  append-steps l free next b p el en = record {
    moved = moved B 8 q links.next (list_at links.queues links.free) next (list_at (set links.queues q l) free)
        (omega arith) (omega arith) (omega arith) p.0 all links.inside links.apart links.ended
        (append-relinks links.queues links.free q lq long links.next l free next b p.1 p.2 el en) links.covered;
    whole = sum_of_counts-moved links.queues links.free q lq long links.next l free
        (omega (arith, ap (λ x. x.count) el, ap (λ x. x.count) p.2)) ∙ links.whole;
  }

  pub release-steps :
      (l free : BlockList) (next : List ℕ) (b : ℕ)
      → (0 < (queue_at links.queues q).count) × (b ≡ (queue_at links.queues q).head) × (l ≡ popped links.next (queue_at links.queues q))
      → free ≡ pushed links.free b → next ≡ linked links.free links.next b
      → Stepped links q 8 next (set links.queues q l) free
  release-steps l free next b p ef en = record {
    moved = moved B q 8 links.next (list_at links.queues links.free) next (list_at (set links.queues q l) free)
        (omega arith) (omega arith) (omega arith) (omega (arith, p.0, ap (λ x. x.count) (as-queue links.queues links.free q lq long links.next)))
        all links.inside links.apart links.ended
        (release-relinks links.queues links.free q lq long links.next l free next b p.1 p.2 ef en) links.covered;
    whole = sum_of_counts-moved links.queues links.free q lq long links.next l free
        (omega (arith, p.0, ap (λ x. x.count) p.2, ap (λ x. x.count) ef)) ∙ links.whole;
  }

use Rattle.std.proofs.Common.{◌≡◌, set, sym, ap, ◌∙◌, subst, arith}
use Rattle.std.proofs.lemmas.List.{set-get_or}
use Rattle.queues.specs.Linked.{blocks_from, blocks_in, list_at}
use Rattle.queues.specs.Moves.{Releases}
use Rattle.queues.specs.Queues.{view}
use Rattle.queues.proofs.Following.{blocks-none}
use Rattle.queues.proofs.Moving.{head-inside, tail-inside}
use Rattle.queues.proofs.Steps.{list_at-queue, queue_at, release-steps}
use Rattle.queues.proofs.Views.{releases, queues_in, queue_in}
use Rattle.queues.proofs.links.Links.release.Goals as goal

pub pop-requires : goal.pop-requires
pop-requires g c =
    let l = c.args.self.now in
    let q = c.args.queue.number in
    let e = list_at-queue l.queues l.free q (omega (arith, c.args.queue.below)) in
    λ p. omega (arith, ap (λ x. x.head) e, head-inside l.next (list_at l.queues l.free) q l.inside (omega (arith, c.args.queue.below)) (omega (arith, p, ap (λ x. x.count) e)))

pub invariant_of-self : goal.invariant_of-self
invariant_of-self g c =
    let l = c.args.self.now in
    let e : set l.queues c.args.queue.number c.pop.new.self ≡ l.queues = ap (set l.queues c.args.queue.number) c.in_err-block.ensures.1 ∙ set-get_or l.queues c.args.queue.number _ in
    rw e (record { addressed = l.addressed; inside = l.inside; apart = l.apart; covered = l.covered; ended = l.ended; whole = l.whole })

pub returns-in_err-block : goal.returns-in_err-block
returns-in_err-block g c =
    let l = c.args.self.now in
    let q = c.args.queue.number in
    let at = queue_at l.queues q in
    let e : set l.queues q c.pop.new.self ≡ l.queues = ap (set l.queues q) c.in_err-block.ensures.1 ∙ set-get_or l.queues q _ in
    subst (Releases g.row.B (view l) (queues_in l.next (list_at (set l.queues q c.pop.new.self) l.free)) q) (sym c.from_residual.ensures) (
      queue_in l.next (list_at l.queues l.free) q c.args.queue.below ∙ ap (blocks_in l.next) (list_at-queue l.queues l.free q (omega (arith, c.args.queue.below)))
          ∙ ap (λ n. blocks_from l.next at.head n) c.in_err-block.ensures.0 ∙ blocks-none l.next at.head,
      ap (λ x. queues_in l.next (list_at x l.free)) e,
    )

pub push-requires-clause-last : goal.push-requires-clause-last
push-requires-clause-last g c =
    let l = c.args.self.now in
    λ p. omega (arith, tail-inside l.next (list_at l.queues l.free) 8 l.inside l.ended (omega arith) p)

pub invariant_of-self-2 : goal.invariant_of-self-2
invariant_of-self-2 g c =
    let l = c.args.self.now in
    let s = release-steps l c.args.queue.number c.args.queue.below (omega arith) (omega arith) c.pop.new.self c.push.new.self c.push.new.next
    c.in_ok-block.block c.in_ok-block.ensures c.push.ensures.list c.push.ensures.next in
    let m = s.moved in
    record { addressed = l.addressed; inside = m.inside; apart = m.apart; covered = m.covered; ended = m.ended; whole = s.whole }

pub returns : goal.returns
returns g c =
    let l = c.args.self.now in
    let q = c.args.queue.number in
    let s = release-steps l q c.args.queue.below (omega arith) (omega arith) c.pop.new.self c.push.new.self c.push.new.next
    c.in_ok-block.block c.in_ok-block.ensures c.push.ensures.list c.push.ensures.next in
    releases l.next (list_at l.queues l.free) c.push.new.next _ q c.args.queue.below c.in_ok-block.block
    (c.in_ok-block.ensures.1 ∙ ap (λ x. x.head) (sym (list_at-queue l.queues l.free q (omega (arith, c.args.queue.below))))) s.moved

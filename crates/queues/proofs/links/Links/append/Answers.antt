use Rattle.std.proofs.Common.{sym, ap, ◌∙◌, subst, arith}
use Rattle.queues.specs.Linked.{blocks_from, list_at}
use Rattle.queues.specs.Moves.{Appends}
use Rattle.queues.specs.Queues.{view}
use Rattle.queues.proofs.Following.{blocks-none}
use Rattle.queues.proofs.Moving.{head-inside}
use Rattle.queues.proofs.Steps.{append-steps}
use Rattle.queues.proofs.Views.{appends, queues_in}
use Rattle.queues.proofs.links.Links.append.Goals as goal

pub pop-requires : goal.pop-requires
pop-requires g c =
    let l = c.args.self.now in
    λ p. omega (arith, head-inside l.next (list_at l.queues l.free) 8 l.inside (omega arith) p)

pub invariant_of-self : goal.invariant_of-self
invariant_of-self g c =
    let l = c.args.self.now in
    rw c.in_err-block.ensures.1 (record { addressed = l.addressed; inside = l.inside; apart = l.apart; covered = l.covered; ended = l.ended; whole = l.whole })

pub returns-in_err-block : goal.returns-in_err-block
returns-in_err-block g c =
    let l = c.args.self.now in
    subst (Appends g.row.B (view l) (queues_in l.next (list_at l.queues c.pop.new.self)) c.args.queue.number) (sym c.from_residual.ensures) (
      ap (λ n. blocks_from l.next l.free.head n) c.in_err-block.ensures.0 ∙ blocks-none l.next l.free.head,
      ap (λ f. queues_in l.next (list_at l.queues f)) c.in_err-block.ensures.1,
    )

pub invariant_of-self-2 : goal.invariant_of-self-2
invariant_of-self-2 g c =
    let l = c.args.self.now in
    let s = append-steps l c.args.queue.number c.args.queue.below (omega arith) (omega arith) c.push.new.self c.pop.new.self c.push.new.next
    c.in_ok-block.block c.in_ok-block.ensures c.push.ensures.list c.push.ensures.next in
    let m = s.moved in
    record { addressed = l.addressed; inside = m.inside; apart = m.apart; covered = m.covered; ended = m.ended; whole = s.whole }

pub returns : goal.returns
returns g c =
    let l = c.args.self.now in
    let q = c.args.queue.number in
    let s = append-steps l q c.args.queue.below (omega arith) (omega arith) c.push.new.self c.pop.new.self c.push.new.next
    c.in_ok-block.block c.in_ok-block.ensures c.push.ensures.list c.push.ensures.next in
    appends l.next (list_at l.queues l.free) c.push.new.next _ q c.args.queue.below c.in_ok-block.block c.in_ok-block.ensures.1 s.moved

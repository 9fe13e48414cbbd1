use Rattle.std.proofs.Common.{sym, ap, ◌∙◌, subst, arith}
use Rattle.queues.specs.BlockList.{first_of}
use Rattle.queues.specs.Linked.{list_at}
use Rattle.queues.specs.Moves.{Heads}
use Rattle.queues.specs.Queues.{view}
use Rattle.queues.proofs.Steps.{list_at-queue}
use Rattle.queues.proofs.Views.{heads}
use Rattle.queues.proofs.links.Links.first.Goals as goal

pub returns : goal.returns
returns g c =
    let l = c.args.self.now in
    let q = c.args.queue.number in
    subst (Heads g.row.B (view l) q) (sym (c.first.ensures ∙ ap first_of (sym (list_at-queue l.queues l.free q (omega (arith, c.args.queue.below))))))
    (heads l.next (list_at l.queues l.free) q c.args.queue.below l.inside)

use Rattle.std.proofs.Common.{sym, ap, ◌∙◌, arith}
use Rattle.queues.proofs.Following.{length-blocks}
use Rattle.queues.proofs.Steps.{list_at-queue}
use Rattle.queues.proofs.links.Links.size.Goals as goal

pub returns : goal.returns
returns g c =
    let l = c.args.self.now in
    let at = list_at-queue l.queues l.free c.args.queue.number (omega (arith, c.args.queue.below)) in
    sym (length-blocks l.next _ _ ∙ ap (λ x. x.count) at)

use Rattle.std.proofs.Common.{arith}
use Rattle.queues.proofs.Following.{length-blocks}
use Rattle.queues.proofs.links.Links.free_blocks.Goals as goal

pub returns : goal.returns
returns g c = let l = c.args.self.now in omega (arith, length-blocks l.next l.free.head l.free.count)

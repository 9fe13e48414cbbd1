use Rattle.piles.proofs.Deeper.{deeper}
use Rattle.piles.proofs.any_depth.ReservationDeep.new.Goals as goal

pub returns : goal.returns
returns g c =
    deeper g.A.Deep.depth c.args.ports c.args.slots (g.A.Deep.lowest c.args.ports) (g.A.Deep.fresh c.args.ports c.args.slots) g.A.Arbiter.meaning
    c.in_ok-below.below _ c.in_ok-below.ensures c.in_ok-new.ensures

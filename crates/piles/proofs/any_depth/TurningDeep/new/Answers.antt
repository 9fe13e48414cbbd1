use Rattle.piles.proofs.Bottoms.{turning-made}
use Rattle.piles.proofs.any_depth.TurningDeep.new.Goals as goal

pub returns : goal.returns
returns g c = turning-made g.W.Wiring.wired c.args.ports c.args.slots c.new.result c.new.ensures.made

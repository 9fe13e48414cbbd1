use Rattle.std.proofs.Common.{◌∙◌, vec_items}
use Rattle.player.specs.Players.{held}
use Rattle.player.proofs.Pieces.{rest-left}
use Rattle.player.proofs.player.Player.feed_all.Goals as goal

pub loop-rest-preserved : goal.loop-rest-preserved
loop-rest-preserved c more =
    rest-left (held c.loop-rest.self) (held c.feed.new.self) c.loop-rest.rest.now more (vec_items c.loop-rest.out) (vec_items c.feed.new.out) c.in_ok-used.used c.in_ok-used.ensures.used c.in_ok-used.ensures.played ∙ c.loop-rest.invariant more

use Rattle.player.proofs.Pieces.{any-pieces}
use Rattle.player.proofs.player.Player.new.Goals as goal

pub returns-clause-law : goal.returns-clause-law
returns-clause-law c = rw (c.new.ensures.starts, c.new-2.ensures) any-pieces

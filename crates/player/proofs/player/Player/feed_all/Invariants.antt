use Rattle.std.proofs.Common.{◌≡◌, ℕ, List, ◌++◌, length, vec_items}
use Rattle.player.specs.Players.{held}
use Rattle.player.specs.Recording.{still_written}
use Rattle.player.proofs.player.Player.feed_all.Given as goal

abbrev pub invariant-loop-rest : goal.invariant-loop-rest
invariant-loop-rest l = (more : List ℕ) → vec_items l.out ++ still_written (held l.self) (l.rest ++ more) ≡ vec_items l.initial.out ++ still_written (held l.initial.self) (l.piece ++ more)

abbrev pub decreases-loop-rest : goal.decreases-loop-rest
decreases-loop-rest l = length l.rest

use Rattle.std.proofs.Common.{◌≡◌, ◌++◌, take, vec_items}
use Rattle.player.specs.Written.{sent_lines}
use Rattle.player.proofs.writing.write_sent.Given as goal

abbrev pub invariant-loop-sent : goal.invariant-loop-sent
invariant-loop-sent l = vec_items l.out ≡ vec_items l.initial.out ++ sent_lines (take l.sent-index l.all)

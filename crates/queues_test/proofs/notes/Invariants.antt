use Rattle.std.proofs.Common.{◌≡◌, length}
use Rattle.queues_test.proofs.notes.Given as goal

abbrev pub invariant-loop-note : goal.invariant-loop-note
invariant-loop-note l = length l.notes ≡ 64

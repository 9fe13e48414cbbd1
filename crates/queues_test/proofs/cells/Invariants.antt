use Rattle.std.proofs.Common.{◌≡◌, length}
use Rattle.queues_test.proofs.cells.Given as goal

abbrev pub invariant-loop-queue : goal.invariant-loop-queue
invariant-loop-queue l = length l.cells ≡ 128

abbrev pub invariant-loop-cell : goal.invariant-loop-cell
invariant-loop-cell l = length l.cells ≡ 128

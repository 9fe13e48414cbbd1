use Rattle.std.proofs.Common.{◌≡◌, length}
use Rattle.bench_queues.proofs.work.Given as goal

abbrev pub invariant-loop : goal.invariant-loop
invariant-loop l = length l.blocks ≡ 64

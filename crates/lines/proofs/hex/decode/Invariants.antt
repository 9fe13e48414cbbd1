use Rattle.std.proofs.Common.{length}
use Rattle.lines.proofs.Decoding.{Stage}
use Rattle.lines.proofs.hex.decode.Given as goal

abbrev pub invariant-loop-rest : goal.invariant-loop-rest
invariant-loop-rest l = Stage l.line l.bytes.items l.rest

abbrev pub decreases-loop-rest : goal.decreases-loop-rest
decreases-loop-rest l = length l.rest

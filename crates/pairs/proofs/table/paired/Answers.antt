use Rattle.std.proofs.Common.{arith}
use Rattle.pairs.proofs.Spreading.{paired_is}
use Rattle.pairs.proofs.table.paired.Goals as goal

pub returns : goal.returns
returns c k h = paired_is c.args.bits c.args.distance c.args.low k (omega arith) h

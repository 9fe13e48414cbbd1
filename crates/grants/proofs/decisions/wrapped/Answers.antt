use Rattle.std.proofs.Common.{arith}
use Rattle.grants.proofs.Modulo.{rest}
use Rattle.grants.proofs.decisions.wrapped.Goals as goal

pub returns-then-x-n : goal.returns-then-x-n
returns-then-x-n c = omega (arith, rest c.args.x c.args.n (omega arith) (omega arith))

pub returns-else-x-n : goal.returns-else-x-n
returns-else-x-n c = omega (arith, rest c.args.x c.args.n (omega arith) (omega arith))

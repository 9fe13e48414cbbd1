use Rattle.std.proofs.Common.{mul-le-mul}
use mir.Facts.{Fits-below}
use Rattle.delays.proofs.periods.product.Goals as goal

pub overflow_mul-result : goal.overflow_mul-result
overflow_mul-result c = Fits-below tt (mul-le-mul c.requires.0 c.requires.1)

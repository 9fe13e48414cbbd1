use Rattle.std.proofs.Common.{rules}
use Rattle.pairs.proofs.Sizes.{ones-size}
use Rattle.pairs.proofs.table.Table.len.Goals as goal

pub returns : goal.returns
returns c = ones-size c.args.self (search rules)

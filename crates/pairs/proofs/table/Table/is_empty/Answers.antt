use Rattle.std.proofs.Common.{rules}
use Rattle.pairs.proofs.Sizes.{empty-size}
use Rattle.pairs.proofs.table.Table.is_empty.Goals as goal

pub returns : goal.returns
returns c = empty-size c.args.self (search rules)

use Rattle.std.proofs.Common.{rules}
use Rattle.pairs.proofs.Tables.{or_is}
use Rattle.pairs.proofs.table.Table.or.Goals as goal

pub returns : goal.returns
returns c =
    let fact =
    or_is c.args.self c.args.other (search rules) (search rules) in
    search rules

use Rattle.std.proofs.Common.{rules}
use Rattle.pairs.proofs.Tables.{minus_is}
use Rattle.pairs.proofs.table.Table.minus.Goals as goal

pub returns : goal.returns
returns c =
    let fact =
    minus_is c.args.self c.args.other (search rules) (search rules) in
    search rules

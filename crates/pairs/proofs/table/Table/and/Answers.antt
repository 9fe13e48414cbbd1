use Rattle.std.proofs.Common.{rules}
use Rattle.pairs.proofs.Tables.{and_is}
use Rattle.pairs.proofs.table.Table.and.Goals as goal

pub returns : goal.returns
returns c =
    let fact =
    and_is c.args.self c.args.other (search rules) (search rules) in
    search rules

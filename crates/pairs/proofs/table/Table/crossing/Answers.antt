use Rattle.std.proofs.Common.{rules}
use Rattle.pairs.proofs.Spreading.{crossing_is}
use Rattle.pairs.proofs.table.Table.crossing.Goals as goal

pub returns : goal.returns
returns c =
    let fact =
    crossing_is c.args.self (search rules)
    c.paired-row.result c.paired-row-2.result c.paired-row-3.result c.paired-column.result c.paired-column-2.result c.paired-column-3.result
    c.paired-row-3.type_inv c.paired-column-3.type_inv
    c.paired-row.ensures c.paired-row-2.ensures c.paired-row-3.ensures c.paired-column.ensures c.paired-column-2.ensures c.paired-column-3.ensures in
    search rules

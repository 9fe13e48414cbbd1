use Rattle.pairs.proofs.Tables.{dropped-is}
use Rattle.std.proofs.Common.{◌∙◌}
use Rattle.pairs.proofs.table.Table.without.Goals as goal

pub returns : goal.returns
returns c = c.minus.ensures ∙ dropped-is c.args.self c.args.input c.args.output c.empty.result c.with.result c.empty.ensures c.with.ensures

use Rattle.pairs.proofs.Tables.{added_is}
use Rattle.std.proofs.Common.{◌∙◌}
use Rattle.pairs.proofs.table.Table.with.Goals as goal

pub returns : goal.returns
returns c = c.with_outputs.ensures ∙ added_is c.args.self c.args.input c.args.output c.empty.result c.with.result c.empty.ensures c.with.ensures

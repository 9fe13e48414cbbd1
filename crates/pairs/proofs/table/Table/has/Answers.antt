use Rattle.pairs.proofs.Tables.{outputs-hold}
use Rattle.std.proofs.Common.{◌∙◌}
use Rattle.pairs.proofs.table.Table.has.Goals as goal

pub returns : goal.returns
returns c = c.has.ensures ∙ outputs-hold c.args.self c.outputs.result c.args.input c.args.output c.outputs.ensures

use Rattle.std.proofs.Common.{refl}
use Rattle.pairs.specs.Words.{word}
use Rattle.pairs.specs.Tables.{table_of}
use Rattle.pairs.proofs.table.Table.empty.Goals as goal

pub returns : goal.returns
unfolding table_of word
returns c = refl

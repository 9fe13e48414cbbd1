use Rattle.std.proofs.Common.{refl}
use Rattle.pairs.specs.Words.{word}
use Rattle.pairs.specs.Tables.{ports_of}
use Rattle.pairs.proofs.ports.Ports.empty.Goals as goal

pub returns : goal.returns
unfolding ports_of word
returns c = refl

use Rattle.std.proofs.Common.{refl, rules}
use Rattle.pairs.specs.Words.{bit}
use Rattle.pairs.proofs.PortSets.{ports_of-is}
use Rattle.pairs.proofs.ports.Ports.from_byte.Goals as goal

pub returns : goal.returns
returns c = ports_of-is (bit c.args.byte) c.args.byte (search rules) (λ k h. refl)

use Rattle.std.proofs.Common.{rules}
use Rattle.pairs.proofs.PortSets.{byte-is}
use Rattle.pairs.proofs.ports.Ports.byte.Goals as goal

pub returns : goal.returns
returns c = byte-is c.args.self (search rules)

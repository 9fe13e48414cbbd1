use Rattle.std.proofs.Common.{rules}
use Rattle.pairs.proofs.PortSets.{and_is}
use Rattle.pairs.proofs.ports.Ports.and.Goals as goal

pub returns : goal.returns
returns c =
    let fact =
    and_is c.args.self c.args.other (search rules) in
    search rules

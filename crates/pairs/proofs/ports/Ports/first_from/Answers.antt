use Rattle.std.proofs.Common.{◌^◌, ◌<◌, arith, rules}
use Rattle.pairs.proofs.PortSets.{next-inside, next-least, none_inside}
use Rattle.pairs.proofs.ports.Ports.first_from.Goals as goal

pub returns-then-self-eq0 : goal.returns-then-self-eq0
returns-then-self-eq0 c = none_inside c.args.self c.if-self-eq0.true

pub returns : goal.returns
returns c =
    let l : c.args.self.bits < 2 ^ 8 = search rules in
    let p : 0 < c.args.self.bits = omega arith in
    let port = next-inside c.args.self c.args.start p l in
    let least = next-least c.args.self c.args.start p l in
    (search rules, search rules)

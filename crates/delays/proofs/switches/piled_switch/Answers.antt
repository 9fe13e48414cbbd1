use Rattle.std.proofs.Common.{◌≡◌, rules}
use Rattle.law.specs.Runs.{made}
use Rattle.switch.specs.Seen.{view}
use Rattle.delays.specs.Piles.{piled}
use Rattle.delays.proofs.Leaving.{starts}
use Rattle.delays.proofs.switches.piled_switch.Goals as goal

pub returns : goal.returns
returns c =
    let stands = c.in_ok-arbiter.ensures in
    let new : view c.switch_over.result ≡ made piled c.in_ok-arbiter.arbiter c.args.mark c.args.first = search rules in
    (stands.0, starts stands.1 new c.switch_over.ensures.law c.switch_over.ensures.leave)

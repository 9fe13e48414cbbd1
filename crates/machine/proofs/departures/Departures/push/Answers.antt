use Rattle.std.proofs.Common.{◌<◌, length, arith, length-take}
use Rattle.std.proofs.lemmas.List.{take_more_set}
use Rattle.machine.proofs.departures.Departures.push.Goals as goal

pub returns : goal.returns
returns c =
    let d = c.args.self.now in
    let place : d.count < length d.sent = omega (arith, c.requires, length-take d.count d.sent, d.few, d.places) in
    take_more_set d.sent d.count c.args.sent place

-- The cells that were sent in a slot, as a list.
use Rattle.std.specs.Prelude.{List, take}
use Rattle.machine.specs.declared.departures.Sent.{Sent}
use Rattle.machine.specs.declared.departures.Departures.{Departures}

abbrev pub listed : Departures → List Sent
listed d = take d.count d.sent

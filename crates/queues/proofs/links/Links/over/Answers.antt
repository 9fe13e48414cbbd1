use Rattle.std.proofs.Common.{rules}
use Rattle.queues.proofs.Lawful.{lawful}
use Rattle.queues.proofs.links.Links.over.Goals as goal

pub returns-then-blocks : goal.returns-then-blocks
returns-then-blocks g c = record { links = search rules; law = lawful g.row.B }

pub returns : goal.returns
returns g c = record { links = search rules; law = lawful g.row.B }

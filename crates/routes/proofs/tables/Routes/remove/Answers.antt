use Rattle.std.proofs.Common.{refl, rules}
use Rattle.routes.proofs.Lifting.{remove-at}
use Rattle.routes.proofs.tables.Routes.remove.Goals as goal

pub returns-clause-outcome : goal.returns-clause-outcome
returns-clause-outcome c =
    remove-at c.args.self.now _ c.args.input c.index-self-input.result c.remove.new.self (search rules) refl c.remove.result c.args.ports c.args.vci (search rules) c.remove.ensures.outcome

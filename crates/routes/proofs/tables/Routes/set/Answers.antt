use Rattle.std.proofs.Common.{refl, rules}
use Rattle.routes.proofs.Lifting.{set-at}
use Rattle.routes.proofs.tables.Routes.set.Goals as goal

pub returns-clause-outcome : goal.returns-clause-outcome
returns-clause-outcome c =
    set-at c.args.self.now _ c.args.input c.index-self-input.result c.set.new.self (search rules) refl c.set.result c.args.ports c.args.route (search rules) c.set.ensures.outcome

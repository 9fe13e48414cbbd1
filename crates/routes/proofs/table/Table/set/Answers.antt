use Rattle.std.proofs.Common.{sym, ◌∙◌, rules}
use Rattle.routes.proofs.Outcomes.{replaced-at, added-last, set-replaces, set-adds, set_full}
use Rattle.routes.proofs.table.Table.set.Goals as goal

pub invariant_of-self : goal.invariant_of-self
invariant_of-self c =
    let after = replaced-at c.args.self.now (search rules) c.args.route c.in-Some.k (sym c.position.ensures ∙ c.in-Some.is) c.requires (search rules) in
    record { room = after.room; distinct = after.distinct; outputs = after.outputs; counted = after.counted }

pub returns-in-Some-clause-outcome : goal.returns-in-Some-clause-outcome
returns-in-Some-clause-outcome c =
    set-replaces c.args.self.now (search rules) c.args.route c.in-Some.k (sym c.position.ensures ∙ c.in-Some.is) c.requires (search rules)

pub invariant_of-self-in-None : goal.invariant_of-self-in-None
invariant_of-self-in-None c =
    let after = added-last c.args.self.now (search rules) c.args.route (sym c.position.ensures ∙ c.in-None.is) c.if-count-ge-PLACES.false c.requires (search rules) in
    record { room = after.room; distinct = after.distinct; outputs = after.outputs; counted = after.counted }

pub returns-else-count-ge-PLACES-clause-outcome : goal.returns-else-count-ge-PLACES-clause-outcome
returns-else-count-ge-PLACES-clause-outcome c =
    set-adds c.args.self.now (search rules) c.args.route (sym c.position.ensures ∙ c.in-None.is) c.if-count-ge-PLACES.false c.requires (search rules)

pub returns-then-count-ge-PLACES-clause-outcome : goal.returns-then-count-ge-PLACES-clause-outcome
returns-then-count-ge-PLACES-clause-outcome c =
    set_full c.args.self.now (search rules) c.args.route (sym c.position.ensures ∙ c.in-None.is) c.if-count-ge-PLACES.true

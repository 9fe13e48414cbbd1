use Rattle.std.proofs.Common.{◌≡◌, None, Some, sym, ◌∙◌, arith, rules}
use Rattle.std.proofs.lemmas.Result.{err_from_is_err_and}
use Rattle.refusals.specs.declared.refusal.Refusal.{Refusal}
use Rattle.refusals.specs.declared.refusal.Refusal.TheVariants.{NoSuchRoute}
use Rattle.routes.proofs.Outcomes.{taken-at, remove-takes, remove-none}
use Rattle.routes.proofs.table.Table.remove.Goals as goal

pub returns-in_err-k-clause-outcome : goal.returns-in_err-k-clause-outcome
returns-in_err-k-clause-outcome c =
    let e = c.in_err-k.ensures in
    let none : c.position.result ≡ None = grind arith in
    let why : ◌≡◌ {A = Refusal} c.in_err-k.field-0.0 NoSuchRoute = grind arith in
    let p = err_from_is_err_and c.from_residual.result c.from_residual.ensures.1 in
    rw (p.1, p.2, why) (remove-none c.args.self.now (search rules) c.args.vci (sym c.position.ensures ∙ none))

pub invariant_of-self : goal.invariant_of-self
invariant_of-self c =
    let at : c.position.result ≡ Some c.in_ok-k.k = grind arith in
    let after = taken-at c.args.self.now (search rules) c.args.vci c.in_ok-k.k (sym c.position.ensures ∙ at) (search rules) in
    record { room = after.room; distinct = after.distinct; outputs = after.outputs; counted = after.counted }

pub returns-clause-outcome : goal.returns-clause-outcome
returns-clause-outcome c =
    let at : c.position.result ≡ Some c.in_ok-k.k = grind arith in
    remove-takes c.args.self.now (search rules) c.args.vci c.in_ok-k.k (sym c.position.ensures ∙ at) (search rules)

use Rattle.std.proofs.Common.{sym, ap, ◌∙◌, arith, rules}
use Rattle.std.specs.List.{find}
use Rattle.routes.specs.declared.route.Route.{Route}
use Rattle.routes.specs.Fits.{fits}
use Rattle.routes.proofs.Lookups.{find-first, find_none}
use Rattle.routes.proofs.table.Table.find.Goals as goal

pub returns-then-fits-clause-entry : goal.returns-then-fits-clause-entry
returns-then-fits-clause-entry c =
    let p = λ (r : Route). fits r c.args.vci in
    let used = c.used-route-items in
    sym (find-first p used.result.now c.loop-route.route-index c.loop-route-test.true (λ j l. rw used.ensures (c.loop-route.invariant j l)) (search rules))
    ∙ ap (find p) used.ensures

pub returns-clause-entry : goal.returns-clause-entry
returns-clause-entry c =
    let p = λ (r : Route). fits r c.args.vci in
    let used = c.used-route-items in
    sym (find_none p used.result.now (λ j l. rw used.ensures (c.loop-route.invariant j (omega (arith, l, c.loop-route-test.false)))))
    ∙ ap (find p) used.ensures

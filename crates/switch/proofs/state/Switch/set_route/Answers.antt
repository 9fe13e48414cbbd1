use Rattle.std.proofs.Common.{ℕ, sym, refl, ap, ◌∙◌}
use Rattle.routes.specs.Map.{setting}
use Rattle.law.specs.Calls.{rerouted}
use Rattle.switch.specs.Seen.{view}
use Rattle.switch.proofs.Routing.{rerouted-told}
use Rattle.switch.proofs.state.Switch.set_route.Goals as goal

pub returns : goal.returns
returns g c m =
    let v = view c.args.self.now in
    ap (rerouted v m) (sym (c.set.ensures.outcome ∙ ap (λ (n : ℕ). setting v.tables n c.args.input c.args.route) c.number.ensures)) ∙ rerouted-told v m c.set.result c.args.self.now.routes c.set.new.self refl c.set.ensures.kept

use Rattle.std.proofs.Common.{ℕ, sym, refl, ap, ◌∙◌}
use Rattle.routes.specs.Map.{removing}
use Rattle.law.specs.Calls.{rerouted}
use Rattle.switch.specs.Seen.{view}
use Rattle.switch.proofs.Routing.{rerouted-told}
use Rattle.switch.proofs.state.Switch.remove_route.Goals as goal

pub returns : goal.returns
returns g c m =
    let v = view c.args.self.now in
    ap (rerouted v m) (sym (c.remove.ensures.outcome ∙ ap (λ (n : ℕ). removing v.tables n c.args.input c.args.vci) c.number.ensures)) ∙ rerouted-told v m c.remove.result c.args.self.now.routes c.remove.new.self refl c.remove.ensures.kept

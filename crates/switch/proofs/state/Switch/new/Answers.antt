use Rattle.std.proofs.Common.{[], ◌∷◌, sym, refl, subst, rules}
use Rattle.routes.specs.Map.{tables_of}
use Rattle.law.specs.Law.{Lawful}
use Rattle.law.specs.View.{View}
use Rattle.law.proofs.Whole.{lawful}
use Rattle.switch.proofs.Starts.{starts, within_none, ready-none}
use Rattle.switch.proofs.state.Switch.new.Goals as goal

pub returns : goal.returns
returns g c =
    let a = g.A.Arbiter.meaning in
    let is = starts a c.args.arbiter c.args.mark c.args.first c.ports-ports.result.number c.empty.result c.empty-3.result c.empty-2.result (tables_of c.new.result) c.new-2.result c.new-3.result
    c.ports-ports.ensures c.empty.ensures c.empty-3.ensures c.empty-2.ensures c.new.ensures c.new-2.ensures c.new-3.ensures in
    record { made = is; law = subst (λ (v : View g.row.A.Denot). Lawful a c.args.arbiter v) (sym is) (lawful a g.met.A.Arbiter.lawful c.args.arbiter c.args.mark c.args.first) }

pub invariant_of-result : goal.invariant_of-result
invariant_of-result g c =
    let l = c.new-2.result in
    record {
      numbered = search rules;
      sized = refl;
      within = within_none c.empty-2.result c.empty-2.ensures _;
      ready = ready-none c.empty-2.result c.empty-2.ensures (l ∷ l ∷ l ∷ l ∷ l ∷ l ∷ l ∷ l ∷ []);
    }

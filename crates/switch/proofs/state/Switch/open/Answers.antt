use Rattle.std.proofs.Common.{◌≡◌, not, false, refl}
use denote.Enum.Bare.{sameb}
use Rattle.pairs.specs.Tables.{inside}
use Rattle.law.specs.contracts.stage.Stage.{the_type}
use Rattle.law.specs.declared.stage.Stage.{Stage}
use Rattle.law.specs.declared.stage.Stage.TheVariants.{Closed, Arriving, Sending}
use Rattle.switch.specs.Seen.{view}
use Rattle.switch.proofs.PortSets.{inside-none}
use Rattle.switch.proofs.Slots.{opens}
use Rattle.switch.proofs.state.Switch.open.Goals as goal

-- a stage that is not told apart from the closed one is it
is_closed : (s : Stage) → false ≡ not (sameb the_type s Closed) → s ≡ Closed
is_closed Closed e = refl
is_closed Arriving e = cc
is_closed Sending e = cc

pub returns : goal.returns
returns g c m =
    opens (view c.args.self.now) m (inside c.empty-self.result) (is_closed c.args.self.now.stage c.if-ne.ensures) c.if-self-gt-LAST_SLOT.false
    (inside-none c.empty-self.result c.empty-self.ensures)

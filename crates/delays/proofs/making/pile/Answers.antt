use Rattle.delays.proofs.Asking.{answers}
use Rattle.delays.proofs.making.pile.Goals as goal

pub returns : goal.returns
returns c = answers c.args.ports c.args.periods c.pile_of_three.result c.pile_of_three.ensures

use Rattle.std.proofs.Common.{◌≡◌, ◌&&◌, ◌||◌, eqb, ltb}
use Rattle.pairs.specs.Tables.{table_of}
use Rattle.switch.specs.Seen.{view}
use Rattle.switch.proofs.Requests.{wants}
use Rattle.switch.proofs.state.Switch.requests.Given as goal

abbrev pub invariant-loop-i : goal.invariant-loop-i
invariant-loop-i g l = l.table ≡ table_of (λ x y. ltb x l.i && wants (view l.self) x y)

abbrev pub invariant-loop-o : goal.invariant-loop-o
invariant-loop-o g l = l.table ≡ table_of (λ x y. (ltb x l.i || (eqb x l.i && ltb y l.o)) && wants (view l.self) x y)

use Rattle.pairs.specs.Tables.{holds}
use Rattle.grants.proofs.Fronts.{Front}
use Rattle.grants.proofs.decisions.diagonal_grants.Given as goal

abbrev pub invariant-diagonals : goal.invariant-diagonals
invariant-diagonals l = Front (holds l.requests) l.n l.first l.k l.free l.grants

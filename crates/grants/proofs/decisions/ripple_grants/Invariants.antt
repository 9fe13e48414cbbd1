use Rattle.pairs.specs.Tables.{holds}
use Rattle.grants.proofs.Walks.{Walk}
use Rattle.grants.proofs.decisions.ripple_grants.Given as goal

abbrev pub invariant-rows : goal.invariant-rows
invariant-rows l = Walk (holds l.requests) l.n l.first_input l.first_output l.u l.free l.grants

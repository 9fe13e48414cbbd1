use Rattle.std.proofs.Common.{refl, sym, None}
use Rattle.routes.proofs.Counting.{held_none}
use Rattle.routes.proofs.table.Table.new.Goals as goal

pub invariant_of-result-clause-counted : goal.invariant_of-result-clause-counted
invariant_of-result-clause-counted c = sym (held_none (λ v. None) 65536 (λ v. refl))

-- What an arbiter means, in one record, and that it keeps every rule.
use Rattle.std.specs.Prelude.{ℕ}
use Rattle.pairs.specs.declared.table.Table.{Table}
use Rattle.arbiters.specs.Rules.{Apart, Maximal, Nearer, Requested, Within}

-- S are the arbiter's states
pub record Meaning (S : Type 0) : Type 0 where
  pub ports : S → ℕ
  pub bound : S → ℕ
  pub wait : S → ℕ → ℕ → ℕ
  -- the grants to a table of requests, and the state after deciding on it
  pub answer : S → Table → Table
  pub after : S → Table → S

pub record Lawful {S : Type 0} (m : Meaning S) : Type 0 where
  pub requested : (s : S) (r : Table) → Requested (m.ports s) r (m.answer s r)
  pub apart : (s : S) (r : Table) → Apart (m.answer s r)
  pub maximal : (s : S) (r : Table) → Maximal (m.ports s) r (m.answer s r)
  pub nearer : (s : S) (r : Table) → Nearer (m.ports s) r (m.answer s r) (m.wait s) (m.wait (m.after s r))
  pub within : (s : S) → Within m.ports m.bound m.wait m.after s

-- What is asked of an arbiter, rule by rule: n is its ports, r the requests and g the grants.
use Rattle.std.specs.Prelude.{◌≡◌, ℕ, ◌<◌, ◌≤◌, min, true, false, cond, ◌&&◌, ◌⊎◌, nat_lt}
use Rattle.pairs.specs.declared.table.Table.{Table}
use Rattle.pairs.specs.Tables.{holds}

-- a granted pair was requested, and its ports are the arbiter's
abbrev pub Requested : ℕ → Table → Table → Type 0
Requested n r g = (i o : ℕ) → holds g i o ≡ true → (holds r i o ≡ true) × (i < n) × (o < n)

-- no input, and no output, is in two pairs
pub record Apart (g : Table) : Type 0 where
  pub inputs : (i o u : ℕ) → holds g i o ≡ true → holds g i u ≡ true → o ≡ u
  pub outputs : (i j o : ℕ) → holds g i o ≡ true → holds g j o ≡ true → i ≡ j

-- some granted pair has the output o, or the input i
abbrev pub Shares : Table → ℕ → ℕ → Type 0
Shares g i o = ((j : ℕ) × (holds g j o ≡ true)) ⊎ ((u : ℕ) × (holds g i u ≡ true))

-- a requested pair that is not granted shares its input or its output with a granted one
abbrev pub Maximal : ℕ → Table → Table → Type 0
Maximal n r g = (i o : ℕ) → i < n → o < n → holds r i o ≡ true → holds g i o ≡ false → Shares g i o

-- a requested pair that is not granted has a smaller wait afterwards
abbrev pub Nearer : ℕ → Table → Table → (ℕ → ℕ → ℕ) → (ℕ → ℕ → ℕ) → Type 0
Nearer n r g wait next = (i o : ℕ) → i < n → o < n → holds r i o ≡ true → holds g i o ≡ false → next i o < wait i o

-- the ports are 2 to 8, no wait is above the bound, and neither ports nor bound ever change
pub record Within {S : Type 0} (ports bound : S → ℕ) (wait : S → ℕ → ℕ → ℕ) (after : S → Table → S) (s : S) : Type 0 where
  pub two : 2 ≤ ports s
  pub eight : ports s ≤ 8
  pub waits : (i o : ℕ) → i < ports s → o < ports s → wait s i o ≤ bound s
  pub same-ports : (r : Table) → ports (after s r) ≡ ports s
  pub same-bound : (r : Table) → bound (after s r) ≡ bound s

-- the wait that is told: at most 65,535, and 0 beyond the ports
abbrev pub told : ℕ → (ℕ → ℕ → ℕ) → ℕ → ℕ → ℕ
told n wait i o = cond (nat_lt i n && nat_lt o n) (min (wait i o) 65535) 0

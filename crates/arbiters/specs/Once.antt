-- A table in which no input and no output is in two pairs.
use Rattle.std.specs.Prelude.{◌≡◌, ℕ, true}
use Rattle.pairs.specs.declared.table.Table.{Table}
use Rattle.pairs.specs.Tables.{holds}

-- each input is in a pair with one output at most
abbrev pub OneOutput : Table → Type 0
OneOutput t = (p : ℕ × ℕ × ℕ) → (holds t p.0 p.1 ≡ true) × (holds t p.0 p.2 ≡ true) → p.1 ≡ p.2

-- each output is in a pair with one input at most
abbrev pub OneInput : Table → Type 0
OneInput t = (p : ℕ × ℕ × ℕ) → (holds t p.0 p.2 ≡ true) × (holds t p.1 p.2 ≡ true) → p.0 ≡ p.1

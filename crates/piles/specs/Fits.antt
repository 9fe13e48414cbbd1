-- The ports and the periods that a pile can have.
use Rattle.std.specs.Prelude.{ℕ, Bool, ◌&&◌, nat_le}

-- 2 to 8 ports
abbrev pub ports_fit : ℕ → Bool
ports_fit n = nat_le 2 n && nat_le n 8

-- a period of 2 to 64 slots
abbrev pub period_fits : ℕ → Bool
period_fits k = nat_le 2 k && nat_le k 64

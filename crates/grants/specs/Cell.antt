-- The arbiter cell: a request comes in, and a line from north and one from west, each high while its port is free.
use Rattle.std.specs.Prelude.{Bool, not, ◌&&◌}

abbrev pub grant : Bool → Bool → Bool → Bool
grant request north west = request && (north && west)

abbrev pub south : Bool → Bool → Bool → Bool
south request north west = north && not (grant request north west)

abbrev pub east : Bool → Bool → Bool → Bool
east request north west = west && not (grant request north west)

-- The cells that a route fits.
use Rattle.std.specs.Prelude.{ℕ, Bool, ◌==◌}
use Rattle.routes.specs.declared.route.Route.{Route}

-- a route fits the cells with its VCI
abbrev pub fits : Route → ℕ → Bool
fits route v = route.vci == v

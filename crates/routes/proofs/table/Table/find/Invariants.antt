use Rattle.std.proofs.Common.{◌≡◌, ℕ, ◌<◌, false, get_or, take}
use Rattle.routes.specs.Fits.{fits}
use Rattle.routes.specs.Table.{no_route}
use Rattle.routes.proofs.table.Table.find.Given as goal

-- no route so far fits
abbrev pub invariant-loop-route : goal.invariant-loop-route
invariant-loop-route l = (j : ℕ) → j < l.route-index → fits (get_or (take l.self.count l.self.routes) j no_route) l.vci ≡ false

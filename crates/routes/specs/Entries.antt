-- What the table of one input means, a map from VCI, and what a change of routes does to it.
use Rattle.std.specs.Prelude.{ℕ, ◌+◌, ◌-◌, cond, is_some, Some, None, Ok, Err, Option, Result, nat_lt}
use Rattle.refusals.specs.declared.refusal.Refusal.{Refusal}
use Rattle.refusals.specs.declared.refusal.Refusal.TheVariants.{RoutesFull, NoSuchRoute}
use Rattle.routes.specs.declared.route.Route.{Route}
use Rattle.routes.specs.declared.table.Table.{Table}
use Rattle.routes.specs.Table.{entry, with_entry}

-- the route of each VCI, and how many routes there are
pub record Entries : Type 0 where
  pub route : ℕ → Option Route
  pub count : ℕ

-- what a table in memory means
abbrev pub entries_of : Table → Entries
entries_of t = record { route = entry t.routes t.count; count = t.count }

-- a table without a route
abbrev pub no_entries : Entries
no_entries = record { route = λ v. None; count = 0 }

-- setting a route. Refused: a new VCI where 32 routes are. Otherwise the route is that of its VCI, and a new one is counted.
abbrev pub setting_entry : Entries → Route → Result Entries Refusal
setting_entry t r =
    cond (is_some (t.route r.vci))
    (Ok (record { route = with_entry t.route r.vci (Some r); count = t.count }))
    (cond (nat_lt t.count 32)
    (Ok (record { route = with_entry t.route r.vci (Some r); count = t.count + 1 }))
    (Err RoutesFull))

-- removing the route of circuit v. Refused: a VCI without a route. Otherwise it has none, and one route less is counted.
abbrev pub removing_entry : Entries → ℕ → Result Entries Refusal
removing_entry t v =
    cond (is_some (t.route v))
    (Ok (record { route = with_entry t.route v None; count = t.count - 1 }))
    (Err NoSuchRoute)

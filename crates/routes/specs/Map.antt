-- What the tables mean, a map from VCI for each input, and what a change of routes does to it.
use Rattle.std.specs.Prelude.{◌≡◌, ℕ, ◌+◌, ◌-◌, ◌<◌, Bool, true, cond, ◌&&◌, is_some, Some, None, Ok, Err, Option, Result, ◌==◌, nat_lt}
use Rattle.std.specs.List.{slice_get}
use Rattle.refusals.specs.declared.refusal.Refusal.{Refusal}
use Rattle.refusals.specs.declared.refusal.Refusal.TheVariants.{PortBeyond, RoutesFull, NoSuchRoute}
use Rattle.routes.specs.declared.route.Route.{Route}
use Rattle.routes.specs.declared.table.Table.{Table}
use Rattle.routes.specs.declared.tables.Routes.{Routes}
use Rattle.routes.specs.Fits.{fits}
use Rattle.routes.specs.Table.{place, changed}
use Rattle.routes.specs.Entries.{Entries, entries_of, no_entries}

-- the route of each VCI at each input, and how many routes each input has
pub record Tables : Type 0 where
  pub route : ℕ → ℕ → Option Route
  pub count : ℕ → ℕ

-- the entries of an input; of an input that there is not, none
abbrev pub of_input : Option Table → Entries
of_input None = no_entries
of_input (Some t) = entries_of t

-- what the tables in memory mean
abbrev pub tables_of : Routes → Tables
tables_of t = record { route = λ i. (of_input (slice_get t.inputs i)).route; count = λ i. (of_input (slice_get t.inputs i)).count }

-- tables without a route
abbrev pub empty : Tables
empty = record { route = λ i v. None; count = λ i. 0 }

-- another count for input i, and every other as it was
abbrev pub recounted : (ℕ → ℕ) → ℕ → ℕ → ℕ → ℕ
recounted count i n j = cond (j == i) n (count j)

-- a port that a switch with this many ports has; no switch has more than eight
abbrev pub is_port : ℕ → ℕ → Bool
is_port ports p = nat_lt p ports && nat_lt p 8

-- setting a route at input i. Refused: an input or output that is no port; then a new VCI where 32 routes are.
-- Otherwise the route is that of its VCI at i, and a new one is counted.
abbrev pub setting : Tables → ℕ → ℕ → Route → Result Tables Refusal
setting t ports i r =
    cond (is_port ports i && is_port ports r.output)
    (cond (is_some (t.route i r.vci))
    (Ok (record { route = changed t.route i r.vci (Some r); count = t.count }))
    (cond (nat_lt (t.count i) 32)
    (Ok (record { route = changed t.route i r.vci (Some r); count = recounted t.count i (t.count i + 1) }))
    (Err RoutesFull)))
    (Err PortBeyond)

-- removing the route of circuit v at input i. Refused: an input that is no port; then a VCI without a route there.
-- Otherwise the VCI has no route at i, and one route less is counted.
abbrev pub removing : Tables → ℕ → ℕ → ℕ → Result Tables Refusal
removing t ports i v =
    cond (is_port ports i)
    (cond (is_some (t.route i v))
    (Ok (record { route = changed t.route i v None; count = recounted t.count i (t.count i - 1) }))
    (Err NoSuchRoute))
    (Err PortBeyond)

-- what a change answered: what the tables after it mean, or the refusal
abbrev pub told : {T V : Type 0} → (T → V) → Result (Unit {0}) Refusal → T → Result V Refusal
told view (Ok x) t = Ok (view t)
told view (Err e) t = Err e

-- a route that is found fits the VCI, and its output is one of eight
abbrev pub Fitting : ℕ → Option Route → Type 0
Fitting v None = Unit {0}
Fitting v (Some r) = (fits r v ≡ true) × (r.output < 8)

-- no two routes of a table fit one cell: two places with a fitting route are one place
abbrev pub AloneIn : Option Table → Type 0
AloneIn None = Unit {0}
AloneIn (Some t) = (v a b : ℕ) → (a < t.count) × (b < t.count) × (fits (place t.routes a) v ≡ true) × (fits (place t.routes b) v ≡ true) → a ≡ b

-- no two routes of an input fit one cell
abbrev pub Alone : Routes → Type 0
Alone t = (i : ℕ) → AloneIn (slice_get t.inputs i)

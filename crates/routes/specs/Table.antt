-- The table of one input as it lies in memory: places for 32 routes, of which the first are used.
use Rattle.std.specs.Prelude.{◌≡◌, ℕ, zero, suc, ◌+◌, ◌<◌, cond, ◌&&◌, List, is_some, Option, ◌==◌, slice_index_or, take}
use Rattle.std.specs.List.{find}
use Rattle.routes.specs.declared.route.Route.{Route}
use Rattle.routes.specs.Fits.{fits}

-- what stands at a place beyond the array
abbrev pub no_route : Route
no_route = record { vci = 0; output = 0; new_vci = 0 }

-- the route at place k
abbrev pub place : List Route → ℕ → Route
place routes k = slice_index_or routes k no_route

-- no two of the first n routes have the same VCI
abbrev pub Apart : (ℕ → Route) → ℕ → Type 0
Apart f n = (a b : ℕ) → (a < b) × (b < n) × ((f a).vci ≡ (f b).vci) → ⊥

-- the output of each of the first n routes is one of eight
abbrev pub Within : (ℕ → Route) → ℕ → Type 0
Within f n = (k : ℕ) → k < n → (f k).output < 8

-- of the first n routes, the one that fits circuit v
abbrev pub entry : List Route → ℕ → ℕ → Option Route
entry routes n v = find (λ r. fits r v) (take n routes)

-- how many VCIs below n have an entry
unfoldable pub held : (ℕ → Option Route) → ℕ → ℕ
held map zero = 0
held map (suc n) = held map n + cond (is_some (map n)) 1 0

-- the map of one input with another entry for circuit u, and every other entry as it was
abbrev pub with_entry : (ℕ → Option Route) → ℕ → Option Route → ℕ → Option Route
with_entry map u e v = cond (u == v) e (map v)

-- the map with another entry for circuit v of input i, and every other entry as it was
abbrev pub changed : (ℕ → ℕ → Option Route) → ℕ → ℕ → Option Route → ℕ → ℕ → Option Route
changed map i v entry j w = cond (j == i && v == w) entry (map j w)

-- What the calls of a run did, read off the calls and their answers alone. A history has the latest first; what is
-- gathered from it has the first first.
use Rattle.std.specs.Prelude.{ℕ, ◌+◌, Bool, true, false, cond, ◌&&◌, List, [], ◌∷◌, ◌++◌, map, length, Some, None, Ok, Err, Option, Result, ◌==◌, nat_lt}
use Rattle.cells.specs.Header.{vci_of}
use Rattle.pairs.specs.declared.table.Table.{Table}
use Rattle.pairs.specs.Tables.{table_of}
use Rattle.refusals.specs.declared.refusal.Refusal.{Refusal}
use Rattle.routes.specs.declared.route.Route.{Route}
use Rattle.law.specs.declared.answers.Arrival.{Arrival}
use Rattle.law.specs.declared.answers.Arrival.TheVariants.{Idle, Accepted}
use Rattle.law.specs.declared.memory.Block.{Block}
use Rattle.arbiters.specs.Meaning.{Meaning}
use Rattle.law.specs.View.{part}
use Rattle.law.specs.Runs.{Call, set_route, remove_route, open_slot, arrive, decide, depart, close, take_note, look, line, Answer, Event}

-- the route of an input for a VCI is set, or removed
pub record Routing : Type 0 where
  pub input : ℕ
  pub vci : ℕ
  pub route : Option Route

-- an arrive answers an output and how many stand ahead: the cell is accepted
pub record Acceptance : Type 0 where
  pub input : ℕ
  pub cell : List ℕ
  pub output : ℕ
  pub ahead : ℕ

-- a depart answers a pair, and these are the output's 53 bytes right after it
pub record Departure : Type 0 where
  pub input : ℕ
  pub output : ℕ
  pub bytes : List ℕ

-- what a call did, as far as the law speaks of it
pub record Effect : Type 0 where
  pub routing : Option Routing
  pub acceptance : Option Acceptance
  pub decided : Bool
  pub departure : Option Departure
  -- the number of grants that a close answers
  pub closing : Option ℕ

-- a call that only changes routes, or nothing at all, as every refused call
abbrev pub routes_only : Option Routing → Effect
routes_only r = record { routing = r; acceptance = None; decided = false; departure = None; closing = None }

abbrev pub accepting : Acceptance → Effect
accepting x = record { routing = None; acceptance = Some x; decided = false; departure = None; closing = None }

abbrev pub deciding : Effect
deciding = record { routing = None; acceptance = None; decided = true; departure = None; closing = None }

abbrev pub departing : Departure → Effect
departing d = record { routing = None; acceptance = None; decided = false; departure = Some d; closing = None }

abbrev pub closing : ℕ → Effect
closing g = record { routing = None; acceptance = None; decided = false; departure = None; closing = Some g }

-- an idle cell is not accepted
abbrev pub arrived : ℕ → List ℕ → Arrival → Effect
arrived p x Idle = routes_only None
arrived p x (Accepted o k) = accepting (record { input = p; cell = x; output = o; ahead = k })

-- the effect of a call, its answer or refusal, and the slot bytes after it
abbrev pub effect_of : (c : Call) → Result (Answer c) Refusal → List ℕ → Effect
effect_of c (Err k) bytes = routes_only None
effect_of (set_route p c o w) (Ok r) bytes = routes_only (Some (record { input = p; vci = c; route = Some (record { vci = c; output = o; new_vci = w }) }))
effect_of (remove_route p c) (Ok r) bytes = routes_only (Some (record { input = p; vci = c; route = None }))
effect_of open_slot (Ok r) bytes = routes_only None
effect_of (arrive t p x) (Ok r) bytes = arrived p x r
effect_of (decide t) (Ok r) bytes = deciding
effect_of (depart t) (Ok r) bytes = departing (record { input = r.input; output = r.output; bytes = part r.output bytes })
effect_of (close t) (Ok r) bytes = closing r.grants
effect_of (take_note o) (Ok r) bytes = routes_only None
effect_of (look i o x) (Ok r) bytes = routes_only None
effect_of (line o x) (Ok r) bytes = routes_only None

abbrev pub history : List Event → List Effect
history es = map (λ e. effect_of e.call e.reply e.bytes) es

-- all that `found` finds in the effects, each with what came before it
abbrev pub added : {X : Type 0} → Option X → List X → List X
added None xs = xs
added (Some x) xs = xs ++ (x ∷ [])

abbrev pub gathered : {X : Type 0} → (List Effect → Effect → Option X) → List Effect → List X
gathered found [] = []
gathered found (e ∷ past) = added (found past e) (gathered found past)

-- in how many effects
abbrev pub counted : (Effect → Bool) → List Effect → ℕ
counted test [] = 0
counted test (e ∷ past) = cond (test e) (1 + counted test past) (counted test past)

abbrev pub both : ℕ → ℕ → ℕ → ℕ → Bool
both a b x y = a == x && b == y

-- the route of input p for the VCI c: the last one set there and not removed since
abbrev pub rerouting : ℕ → ℕ → Option Routing → Option Route → Option Route
rerouting p c None r = r
rerouting p c (Some x) r = cond (p == x.input && x.vci == c) x.route r

abbrev pub route_of : ℕ → ℕ → List Effect → Option Route
route_of p c [] = None
route_of p c (e ∷ past) = rerouting p c e.routing (route_of p c past)

-- the cells accepted for the queue (i, o), each with the new VCI that its route had then
abbrev pub with_route : List ℕ → Option Route → Option Block
with_route x None = None
with_route x (Some r) = Some (record { cell = x; new_vci = r.new_vci })

abbrev pub accepted_for : ℕ → ℕ → List Effect → Option Acceptance → Option Block
accepted_for i o past None = None
accepted_for i o past (Some x) = cond (both i o x.input x.output) (with_route x.cell (route_of x.input (vci_of x.cell) past)) None

abbrev pub accepted : ℕ → ℕ → List Effect → List Block
accepted i o h = gathered (λ past e. accepted_for i o past e.acceptance) h

-- the cells sent from the queue (i, o)
abbrev pub sent_from : ℕ → ℕ → Option Departure → Option (List ℕ)
sent_from i o None = None
sent_from i o (Some d) = cond (both i o d.input d.output) (Some d.bytes) None

abbrev pub sent : ℕ → ℕ → List Effect → List (List ℕ)
sent i o h = gathered (λ _ e. sent_from i o e.departure) h

-- the pairs that departs answered
abbrev pub pair_of : Option Departure → Option (ℕ × ℕ)
pair_of None = None
pair_of (Some d) = Some (d.input, d.output)

abbrev pub served : List Effect → List (ℕ × ℕ)
served h = gathered (λ _ e. pair_of e.departure) h

abbrev pub is_some : {X : Type 0} → Option X → Bool
is_some None = false
is_some (Some x) = true

-- how many slots were closed, and how many decided
abbrev pub closings : List Effect → ℕ
closings h = counted (λ e. is_some e.closing) h

abbrev pub decisions : List Effect → ℕ
decisions h = counted (λ e. e.decided) h

-- a cell of the queue (i, o) waits: more were accepted for it than sent from it
abbrev pub waits : List Effect → ℕ → ℕ → Bool
waits h i o = nat_lt (length (sent i o h)) (length (accepted i o h))

-- the queues of n ports in which a cell waits
abbrev pub waiting : ℕ → List Effect → Table
waiting n h = table_of (λ i o. (nat_lt i n && nat_lt o n) && waits h i o)

-- the state that the decisions left the arbiter in, from s on, and its answer at a decision that follows h
abbrev pub state_after : {A : Type 0} → Meaning A → A → List Effect → A
state_after a s [] = s
state_after a s (e ∷ past) = cond e.decided (a.after (state_after a s past) (waiting (a.ports s) past)) (state_after a s past)

abbrev pub grants_at : {A : Type 0} → Meaning A → A → List Effect → Table
grants_at a s h = a.answer (state_after a s h) (waiting (a.ports s) h)

-- how many of some pairs have the input i, and the output o
abbrev pub with_input : ℕ → List (ℕ × ℕ) → ℕ
with_input i [] = 0
with_input i (x ∷ xs) = cond (i == x.0) 1 0 + with_input i xs

abbrev pub with_output : ℕ → List (ℕ × ℕ) → ℕ
with_output o [] = 0
with_output o (x ∷ xs) = cond (o == x.1) 1 0 + with_output o xs

-- When a cell has left a switch over a pile, by calls and answers alone: n is the port count, p the periods.
use Rattle.std.specs.Prelude.{◌≡◌, ℕ, ◌+◌, ◌<◌, ◌≤◌, Bool, false, List, ◌∷◌, ◌++◌, length, Some, None, Ok, Option}
use Rattle.law.specs.declared.answers.Arrival.TheVariants.{Accepted}
use Rattle.law.specs.View.{Memory, View}
use Rattle.law.specs.Calls.{Ticket}
use Rattle.law.specs.Runs.{Event, Run, arrive, made}
use Rattle.law.specs.History.{Acceptance, both, closings, counted, history, sent}
use Rattle.law.specs.Law.{Lawful}
use Rattle.delays.specs.declared.periods.Periods.{Periods}
use Rattle.delays.specs.Delays.{closings_until_left}
use Rattle.piles.specs.Three.{Pile}
use Rattle.delays.specs.Piles.{Stands, piled}

-- a cell was accepted for the queue (i, o)
abbrev pub is_for : ℕ → ℕ → Option Acceptance → Bool
is_for i o None = false
is_for i o (Some x) = both i o x.input x.output

-- how many of some calls are arrives at the input i that answered the output o
abbrev pub acceptances : ℕ → ℕ → List Event → ℕ
acceptances i o es = counted (λ e. is_for i o e.acceptance) (history es)

-- how many are departs that answered the pair (i, o)
abbrev pub departures : ℕ → ℕ → List Event → ℕ
departures i o es = length (sent i o (history es))

-- and how many closed a slot
abbrev pub closed : List Event → ℕ
closed es = closings (history es)

-- of a cell accepted for the queue (i, o) with k ahead: the calls are `es`, those ahead of its arrive `before` and those after it `since`
pub record Leaves (n : ℕ) (p : Periods) (es since before : List Event) (i o k : ℕ) : Type 0 where
  -- k cells waited in the queue: so many more had been accepted for it than sent from it
  pub ahead : departures i o before + k ≡ acceptances i o before
  -- once so many slots have closed since, it has left: more were sent from its queue than had been accepted ahead of it
  pub left : closings_until_left n p k ≤ closed since → acceptances i o before < departures i o es

-- after every run of a switch that stood at v, from any memory: of each arrive that answered the output o and k ahead
abbrev pub AllLeave : ℕ → Periods → View Pile → Type 0
AllLeave n p v =
    (m l : Memory) (es since before : List Event) (w : View Pile) (t : Ticket) (i o k : ℕ) (cell bytes : List ℕ)
    → Run piled v m es w l
    → es ≡ since ++ (record { call = arrive t i cell; reply = Ok (Accepted o k); bytes = bytes } ∷ before)
    → Leaves n p es since before i o k

-- a switch just made over a pile just made
pub record Starts (n : ℕ) (p : Periods) (mark first : ℕ) (v : View Pile) : Type 0 where
  pub pile : Stands n p v.arbiter
  pub new : v ≡ made piled v.arbiter mark first
  pub law : Lawful piled v.arbiter v
  pub leave : AllLeave n p v

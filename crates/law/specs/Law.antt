-- The law of a switch, over what its calls did.
use Rattle.std.specs.Prelude.{◌≡◌, ℕ, ◌+◌, ◌*◌, ◌≤◌, true, List, ◌∷◌, ◌++◌, map, length, take, drop, Some}
use Rattle.std.specs.List.{slice_get}
use Rattle.cells.specs.Header.{vci_of}
use Rattle.routes.specs.declared.route.Route.{Route}
use Rattle.law.specs.declared.memory.Block.{Block}
use Rattle.arbiters.specs.Meaning.{Meaning}
use Rattle.law.specs.View.{Memory, View, place, leaving, pairs}
use Rattle.law.specs.Runs.{Event, Run}
use Rattle.law.specs.History.{Effect, Acceptance, history, route_of, accepted, sent, served, closings, decisions, waits, grants_at, with_input, with_output}

-- of the cell x, accepted after `past` by a switch whose history is now h; `since` came after it, and w is the arbiter's bound
pub record Timely (w : ℕ) (h since past : List Effect) (x : Acceptance) : Type 0 where
  -- the number answered is that of the cells that waited in its queue
  pub ahead : length (sent x.input x.output past) + x.ahead ≡ length (accepted x.input x.output past)
  -- once so many slots have closed since, the cell has left
  pub left : (x.ahead + 1) * (w + 1) ≤ closings since → length (accepted x.input x.output past) + 1 ≤ length (sent x.input x.output h)

-- its output is that of its route
abbrev pub ByRoute : List Effect → Acceptance → Type 0
ByRoute past x = (r : Route) × (route_of x.input (vci_of x.cell) past ≡ Some r) × (r.output ≡ x.output)

-- of the cells accepted for the queue (i, o)
pub record InOrder (cells : List Block) (h : List Effect) (i o : ℕ) (queue : List ℕ) : Type 0 where
  -- the first were sent, in order, each rewritten to its new VCI
  pub gone : sent i o h ≡ map leaving (take (length (sent i o h)) (accepted i o h))
  -- the queue's blocks hold the rest, in order, each as it arrived and with its new VCI
  pub held : map (λ b. slice_get cells (place i b)) queue ≡ map Some (drop (length (sent i o h)) (accepted i o h))

-- of a slot that a close ended after `past`, answering g; the arbiter was s at first
pub record Matched {A : Type 0} (a : Meaning A) (s : A) (past : List Effect) (g : ℕ) : Type 0 where
  -- its decide came after `before`, and `slot` followed it
  pub before : List Effect
  pub decide : Effect
  pub slot : List Effect
  pub whole : past ≡ slot ++ (decide ∷ before)
  pub decided : decide.decided ≡ true
  pub one-decide : decisions slot ≡ 0
  pub no-close : closings slot ≡ 0
  -- exactly the arbiter's grants were sent, each once, by rising input, and close answered their number
  pub exact : served slot ≡ pairs (a.ports s) (grants_at a s before)
  pub number : g ≡ length (served slot)
  -- no input and no output was served twice
  pub input-once : (i : ℕ) → with_input i (served slot) ≤ 1
  pub output-once : (o : ℕ) → with_output o (served slot) ≤ 1
  -- every cell waiting at the decide had its input or its output served
  pub busy : (i o : ℕ) → waits before i o ≡ true → 1 ≤ with_input i (served slot) + with_output o (served slot)

-- of a switch made of the arbiter s whose history is h, which now stands at v with the memory m
pub record Law {A : Type 0} (a : Meaning A) (s : A) (h : List Effect) (v : View A) (m : Memory) : Type 0 where
  pub timely : (since past : List Effect) (e : Effect) (x : Acceptance) → h ≡ since ++ (e ∷ past) → e.acceptance ≡ Some x → Timely (a.bound s) h since past x
  pub by-route : (since past : List Effect) (e : Effect) (x : Acceptance) → h ≡ since ++ (e ∷ past) → e.acceptance ≡ Some x → ByRoute past x
  pub in_order : (i o : ℕ) → InOrder m.cells h i o ((v.cells i).queue o)
  pub matched : (since past : List Effect) (e : Effect) (g : ℕ) → h ≡ since ++ (e ∷ past) → e.closing ≡ Some g → Matched a s past g

-- a switch that stands at v, just made of the arbiter s: the law holds after every run, whatever memory it began with
abbrev pub Lawful : {A : Type 0} → Meaning A → A → View A → Type 0
Lawful {A} a s v = (m n : Memory) (es : List Event) (w : View A) → Run a v m es w n → Law a s (history es) w n

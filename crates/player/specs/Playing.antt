-- What the lines of a recording do, one by one.
use Rattle.std.specs.Prelude.{◌≡◌, ℕ, cond, List, [], ◌++◌, Some, None, Option, Ok, Err, Result}
use Rattle.arbiters.specs.Kinds.{Diagonal, Ripple, diagonals, ripples, counted}
use Rattle.arbiters.specs.Meaning.{Meaning}
use Rattle.arbiters.specs.Turning.{unturned}
use Rattle.grants.specs.declared.port_count.PortCount.{PortCount}
use Rattle.refusals.specs.declared.refusal.Refusal.{Refusal}
use Rattle.refusals.specs.declared.refusal.Refusal.TheVariants.{OutOfPlace}
use Rattle.lines.specs.declared.frame.ArbiterKind.{ArbiterKind}
use Rattle.lines.specs.declared.frame.ArbiterKind.TheVariants.{Diagonal as DiagonalKind, Ripple as RippleKind}
use Rattle.lines.specs.declared.frame.Frame.{Frame}
use Rattle.lines.specs.declared.frame.Frame.TheVariants.{Start, Route, Cell, Close}
use Rattle.lines.specs.declared.reader.SlotLine.{SlotLine}
use Rattle.machine.specs.Standing.{Standing, Told, Ended, routing, arriving, ending, is_open, starting}
use Rattle.player.specs.Written.{ended_lines, refusal_line, answer_lines, silent}

-- the machine that a recording names
pub data Stands : Type 0 where
  on_diagonal : Standing Diagonal → Stands
  on_ripple : Standing Ripple → Stands

-- what stands after a line, and what is written for it
pub record Played (S : Type 0) : Type 0 where
  pub stands : S
  pub written : List ℕ

-- it stands so, and that was written after what had been written before
pub record Does {S : Type 0} (p : Played S) (s : S) (before after : List ℕ) : Type 0 where
  pub stands : s ≡ p.stands
  pub written : after ≡ before ++ p.written

abbrev pub answered : {A T : Type 0} → (T → List ℕ) → ℕ → Told A T → Played (Standing A)
answered lines n t = record { stands = t.standing; written = answer_lines lines n t.reply }

-- a frame of the line n on a machine: a second start is out of place; a cell and a close open a slot first if none is open
abbrev pub on_machine : {A : Type 0} → Meaning A → Standing A → ℕ → Frame → Played (Standing A)
on_machine a s n (Start ports kind mark first) = record { stands = s; written = refusal_line n OutOfPlace }
on_machine a s n (Route i c o w) = answered silent n (routing s i c o w)
on_machine a s n (Cell i x) = answered silent n (arriving s i x)
on_machine a s n Close = answered ended_lines n (ending a s)

-- the machine that a start frame names: its port count from 2 to 8, its arbiter just made
abbrev pub named : ArbiterKind → PortCount → (mark first : ℕ) → Stands
named DiagonalKind c mark first = on_diagonal (starting diagonals (unturned c) mark first)
named RippleKind c mark first = on_ripple (starting ripples (unturned c) mark first)

abbrev pub with_ports : ArbiterKind → Result PortCount Refusal → (mark first : ℕ) → Result Stands Refusal
with_ports kind (Ok c) mark first = Ok (named kind c mark first)
with_ports kind (Err k) mark first = Err k

-- what a frame names that is carried out before a machine stands; it is out of place if it is no start
abbrev pub named_by : Frame → Result Stands Refusal
named_by (Start ports kind mark first) = with_ports kind (counted ports) mark first
named_by (Route i c o w) = Err OutOfPlace
named_by (Cell i x) = Err OutOfPlace
named_by Close = Err OutOfPlace

-- it stands once it is made; refused, nothing stands
abbrev pub begun : ℕ → Result Stands Refusal → Played (Option Stands)
begun n (Ok s) = record { stands = Some s; written = [] }
begun n (Err k) = record { stands = None; written = refusal_line n k }

abbrev pub wrapped : {S : Type 0} → (S → Stands) → Played S → Played (Option Stands)
wrapped f p = record { stands = Some (f p.stands); written = p.written }

-- the first frame that is carried out is a start
abbrev pub frame_played : Option Stands → ℕ → Frame → Played (Option Stands)
frame_played None n f = begun n (named_by f)
frame_played (Some (on_diagonal s)) n f = wrapped on_diagonal (on_machine diagonals s n f)
frame_played (Some (on_ripple s)) n f = wrapped on_ripple (on_machine ripples s n f)

-- a line that spells no frame is refused, and changes nothing
abbrev pub result_played : Option Stands → ℕ → Result Frame Refusal → Played (Option Stands)
result_played s n (Ok f) = frame_played s n f
result_played s n (Err k) = record { stands = s; written = refusal_line n k }

abbrev pub line_played : Option Stands → SlotLine → Played (Option Stands)
line_played s l = result_played s l.number l.frame

-- what is written at the end of the input: a slot that is open is ended, and that is never refused
abbrev pub last_answer : Result Ended Refusal → List ℕ
last_answer (Ok e) = ended_lines e
last_answer (Err k) = []

abbrev pub last_of : {A : Type 0} → Meaning A → Standing A → List ℕ
last_of a s = cond (is_open s) (last_answer (ending a s).reply) []

abbrev pub last_lines : Option Stands → List ℕ
last_lines None = []
last_lines (Some (on_diagonal s)) = last_of diagonals s
last_lines (Some (on_ripple s)) = last_of ripples s

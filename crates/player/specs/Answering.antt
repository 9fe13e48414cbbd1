-- What a call says that leaves the line of a refusal to be written.
use Rattle.std.specs.Prelude.{ℕ, List, ◌++◌, Ok, Err, Result, ⊤}
use Rattle.refusals.specs.declared.refusal.Refusal.{Refusal}
use Rattle.player.specs.declared.playing.unplayed.Unplayed.{Unplayed}
use Rattle.player.specs.declared.playing.unplayed.Unplayed.TheVariants.{Refused, NoMemory}
use Rattle.player.specs.Playing.{Played, Does}
use Rattle.player.specs.Written.{refusal_line}

-- nothing is said where there was no memory
abbrev pub IfRefused : Unplayed → (Refusal → Type 0) → Type 0
IfRefused (Refused k) P = P k
IfRefused (NoMemory e) P = ⊤

-- whatever the number of the line, it does that; refused, it does that once the line of the refusal is written
abbrev pub Answers : {T S : Type 0} → (ℕ → Played S) → Result T Unplayed → S → (before after : List ℕ) → Type 0
Answers played (Ok x) s before after = (n : ℕ) → Does (played n) s before after
Answers played (Err e) s before after = IfRefused e (λ k. (n : ℕ) → Does (played n) s before (after ++ refusal_line n k))

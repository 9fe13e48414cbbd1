-- However an input is cut into pieces, what is written for it is the same.
use Rattle.std.proofs.Common.{◌≡◌, ℕ, ◌-◌, List, [], ◌++◌, length, take, drop, Some, None, Option, sym, refl, ap, ◌∙◌, append_assoc, append-nil}
use Rattle.std.proofs.lemmas.List.{take_rest}
use Rattle.lines.specs.declared.reader.SlotLine.{SlotLine}
use Rattle.lines.specs.Reading.{fed, after, last, still, as_list}
use Rattle.lines.proofs.Cuts.{step, stop}
use Rattle.player.specs.Playing.{Stands, Does}
use Rattle.player.specs.Recording.{Held, Plays, ended, piece, AnyPieces, written, starts, maybe_played, piece_played, still_written}

-- a line that may be there, and then some lines
written-maybe : (s : Option Stands) (l : Option SlotLine) (more : List SlotLine) → written s (as_list l ++ more) ≡ (maybe_played s l).written ++ written (maybe_played s l).stands more
written-maybe s None more = refl
written-maybe s (Some l) more = refl

-- one call: what it writes, and then what is still to be written, is what was still to be written
still-piece : (h : Held) (p rest : List ℕ) → still_written h (p ++ rest) ≡ (piece_played h p).written ++ still_written (piece_played h p).stands (drop (fed h.reading p).used p ++ rest)
still-piece h p rest =
    ap (written h.stands) (step h.reading p rest)
    ∙ written-maybe h.stands (fed h.reading p).line (still (after h.reading p) (drop (fed h.reading p).used p ++ rest))

-- and so once the rest of the piece is cut off
pub rest-left : (h k : Held) (p more was between : List ℕ) (used : ℕ) → used ≡ (fed h.reading p).used → Does (piece_played h p) k was between
    → between ++ still_written k (take (length p - used) (drop used p) ++ more) ≡ was ++ still_written h (p ++ more)
rest-left h k p more was between used e does =
    rw (take_rest p used, e, does.stands, does.written) (append_assoc was (piece_played h p).written _ ∙ ap (λ (zs : List ℕ). was ++ zs) (sym (still-piece h p more)))

-- what a run of pieces writes is what was still to be written
plays-still : (h : Held) (input output : List ℕ) → Plays h input output → output ≡ still_written h input
plays-still h _ _ (ended _) =
    sym (written-maybe h.stands (last h.reading) [])
    ∙ ap (written h.stands) (append-nil (as_list (last h.reading)) ∙ stop h.reading)
plays-still h _ _ (piece _ p rest more r) =
    ap (λ (zs : List ℕ). (piece_played h p).written ++ zs) (plays-still (piece_played h p).stands (drop (fed h.reading p).used p ++ rest) more r)
    ∙ sym (still-piece h p rest)

pub any-pieces : AnyPieces starts
any-pieces input output r = plays-still starts input output r

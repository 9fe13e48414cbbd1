use Rattle.std.proofs.Common.{◌≡◌, ℕ, List, ◌++◌, length, ap, ◌∙◌, arith, rules}
use Rattle.lines.specs.Frames.{frame_of}
use Rattle.lines.specs.declared.reader.LineReader.{LineReader}
use Rattle.lines.specs.Lines.{up_to}
use Rattle.lines.specs.Reading.{reading, next}
use Rattle.lines.proofs.Ending.{at_feed, no_feed}
use Rattle.lines.proofs.Feeding.{fed-line, after_line, fed-none, after_none, said-first, said-later}
use Rattle.lines.proofs.Cuts.{stepped}
use Rattle.lines.proofs.reader.LineReader.feed.Goals as goal
use Rattle.lines.proofs.reader.LineReader.feed.Goals.{then-is_empty, else-is_empty}

pub returns-in_default : goal.returns-in_default
returns-in_default c =
    let v = reading c.args.self.now in
    let p : List ℕ = c.args.piece.now in
    let n : ℕ = length p in
    let e = no_feed p c.in_default.ensures in
    let a = fed-none v p n e (omega arith) in
    let b = after_none v p n c.keep.new.self.number c.keep.new.self.start.items e (omega arith) c.keep.ensures.same c.keep.ensures.kept in
    record { result = a; reader = b; answers = stepped v _ p _ a b; within = omega arith; forward = λ q. q }

pub returns : goal.returns
returns c =
    let v = reading c.args.self.now in
    let p : List ℕ = c.args.piece.now in
    let n : ℕ = c.in-Some.end in
    let f = at_feed p n c.in-Some.ensures in
    let said-and-number : (c.if-is_empty.self.number ≡ v.number) × (c.if-is_empty.frame ≡ frame_of (v.held ++ up_to p))
    = elim c.if-is_empty.branch [
      | then-is_empty w ↦
          (ap (λ (r : LineReader). r.number) w.self-is, w.frame-is ∙ w.frame_of-frame.ensures.answer ∙ said-first v.held p n f.0 (search rules))
      | else-is_empty w ↦
          let q = w.as_slice.ensures.value ∙ w.keep-else-is_empty.ensures.kept in
          (ap (λ (r : LineReader). r.number) w.self-is ∙ w.keep-else-is_empty.ensures.same, w.frame-is ∙ w.frame_of-frame-else-is_empty.ensures.answer ∙ said-later v.held _ p n f.0 q)
    ] in
    let k : c.saturating_add-self.result ≡ next v.number = c.saturating_add-self.ensures ∙ ap next said-and-number.0 in
    let a = fed-line v p n _ _ f.0 f.1 said-and-number.0 said-and-number.1 in
    let b = ap (λ (xs : List ℕ). record { number = c.saturating_add-self.result; held = xs }) c.clear.ensures ∙ after_line v p n _ f.0 f.1 k in
    record { result = a; reader = b; answers = stepped v _ p _ a b; within = omega arith; forward = λ q. omega arith }

use Rattle.std.proofs.Common.{◌≡◌, Some, None, sym, ap, ◌∙◌, rules}
use Rattle.lines.specs.Reading.{reading, last, as_list}
use Rattle.lines.proofs.Cuts.{stop}
use Rattle.lines.proofs.reader.LineReader.finish.Goals as goal

pub returns-then-is_empty : goal.returns-then-is_empty
returns-then-is_empty c =
    let v = reading c.args.self in
    let e : None ≡ last v = search rules in
    record { result = e; answers = sym (ap as_list e ∙ stop v) }

pub returns : goal.returns
returns c =
    let v = reading c.args.self in
    let e : Some (record { number = c.args.self.number; frame = c.frame_of.result }) ≡ last v = search rules in
    record { result = e; answers = sym (ap as_list e ∙ stop v) }

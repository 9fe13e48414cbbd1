use Rattle.std.proofs.Common.{◌≡◌, ◌++◌, length, take, min, ◌∙◌, arith, rules}
use Rattle.lines.proofs.Ending.{keeps}
use Rattle.lines.proofs.reader.LineReader.keep.Goals as goal

pub returns-clause-kept : goal.returns-clause-kept
returns-clause-kept c =
    let e : c.try_extend_from_slice.new.self.items ≡ c.args.self.now.start.items ++ take (min (length c.args.part.now) c.remaining_capacity.result) c.args.part.now = search rules in
    e ∙ keeps c.args.self.now.start.items c.args.part.now c.remaining_capacity.result (omega arith)

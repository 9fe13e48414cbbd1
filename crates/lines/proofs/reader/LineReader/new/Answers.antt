use Rattle.std.proofs.Common.{◌≡◌, List, ℕ, sym, ap, subst}
use Rattle.lines.specs.Reading.{Reading, AnyCut, fresh}
use Rattle.lines.proofs.Cuts.{any-cut}
use Rattle.lines.proofs.OneWay.{one_way}
use Rattle.lines.proofs.reader.LineReader.new.Goals as goal

pub returns : goal.returns
returns c =
    let e : ◌≡◌ {A = Reading} (record { number = 1; held = c.new.result.items }) fresh = ap (λ (xs : List ℕ). record { number = 1; held = xs }) c.new.ensures in
    record { starts = e; law = subst AnyCut (sym e) any-cut; lines = one_way }

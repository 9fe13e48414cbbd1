use Rattle.std.proofs.Common.{◌^◌, ◌<◌, sym, ◌∙◌, arith, rules}
use Rattle.pairs.proofs.Sizes.{none-held, some-bit}
use Rattle.pairs.proofs.Tables.{first-held, first-least}
use Rattle.pairs.proofs.table.Table.first.Goals as goal

pub returns-then-is_empty : goal.returns-then-is_empty
returns-then-is_empty c = none-held c.args.self (sym c.is_empty.ensures ∙ c.if-is_empty.true)

pub returns : goal.returns
returns c =
    let l : c.args.self.bits < 2 ^ 64 = search rules in
    let p : 0 < c.args.self.bits = some-bit c.args.self l (sym c.is_empty.ensures ∙ c.if-is_empty.false) in
    let pair = first-held c.args.self p l in
    (search rules, λ i o h. omega (arith, first-least c.args.self p l i o h))

use Rattle.std.proofs.Common.{ℕ, ◌*◌, ◌%◌, ◌^◌, ap, ◌∙◌, arith, rules}
use lib.Bits.{bit_or}
use Rattle.pairs.specs.Tables.{inside}
use Rattle.pairs.proofs.Tables.{made, filled_is, filled_none}
use Rattle.pairs.proofs.table.Table.with_outputs.Goals as goal

pub returns-then-input-ge-MOST : goal.returns-then-input-ge-MOST
returns-then-input-ge-MOST c =
    let fact =
    filled_none c.args.self c.args.input (search rules) (inside c.args.outputs) (omega arith) in
    search rules

pub returns : goal.returns
returns c =
    let fact =
    ap (λ (y : ℕ). made (bit_or c.args.self.bits ((y * 2 ^ (c.args.input * 8)) % 2 ^ 64))) c.byte.ensures
    ∙ filled_is c.args.self c.args.input (search rules) (inside c.args.outputs) (omega arith) in
    search rules

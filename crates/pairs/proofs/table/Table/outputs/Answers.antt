use Rattle.std.proofs.Common.{ℕ, ◌*◌, ◌/◌, ◌^◌, false, sym, ap, ◌∙◌, arith, rules}
use lib.Bits.{bit_and}
use Rattle.std.proofs.lemmas.Nat.{and_mask}
use Rattle.pairs.specs.Words.{bit}
use Rattle.pairs.specs.Tables.{holds}
use Rattle.pairs.proofs.Bits.{bit-mod, bit-shr}
use Rattle.pairs.proofs.PortSets.{ports_of-ext}
use Rattle.pairs.proofs.Tables.{holds-bit, not-held}
use Rattle.pairs.proofs.table.Table.outputs.Goals as goal

pub returns-then-input-ge-MOST : goal.returns-then-input-ge-MOST
returns-then-input-ge-MOST c =
    let fact =
    c.empty.ensures
    ∙ ports_of-ext (λ _. false) (holds c.args.self c.args.input) (λ o h. sym (not-held c.args.self c.args.input o (λ p q. omega arith))) in
    search rules

pub returns : goal.returns
returns c =
    let x : ℕ = c.args.self.bits / 2 ^ (c.args.input * 8) in
    let byte = c.from_byte.ensures in
    let fact =
    ports_of-ext (bit (bit_and x 255)) (holds c.args.self c.args.input)
    (λ o h. ap (λ (y : ℕ). bit y o) (and_mask x 8) ∙ bit-mod x 8 o h ∙ bit-shr c.args.self.bits (c.args.input * 8) o
    ∙ sym (holds-bit c.args.self c.args.input o (omega arith) h)) in
    search rules

use Rattle.std.proofs.Common.{ℕ, ◌-◌, ◌^◌, ltb, sym, ap, ◌∙◌, arith, rules}
use Rattle.std.proofs.lemmas.Nat.{one_shl, pow_below}
use Rattle.std.proofs.lemmas.Bool.{lt-ltb}
use Rattle.pairs.proofs.Bits.{bit_ones}
use Rattle.pairs.proofs.PortSets.{made, ports_of-is}
use Rattle.pairs.proofs.ports.Ports.below.Goals as goal

pub returns-then-count-lt-MOST : goal.returns-then-count-lt-MOST
returns-then-count-lt-MOST c =
    let n : ℕ = c.args.count in
    let fact =
    ap (λ (y : ℕ). made (y - 1)) (one_shl n 8 (omega arith))
    ∙ ports_of-is (λ x. ltb x n) (2 ^ n - 1) (omega (arith, pow_below n 8 (omega arith))) (λ k h. bit_ones n k) in
    search rules

pub returns-else-count-lt-MOST : goal.returns-else-count-lt-MOST
returns-else-count-lt-MOST c =
    ports_of-is (λ x. ltb x c.args.count) 0xff (omega arith)
    (λ k h. bit_ones 8 k ∙ lt-ltb k 8 h ∙ sym (lt-ltb k c.args.count (omega arith)))

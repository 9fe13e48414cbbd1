use Rattle.std.proofs.Common.{ℕ, ◌/◌, ◌^◌, eqb, sym, ap, ◌∙◌, arith, rules}
use Rattle.std.proofs.lemmas.Nat.{and_mask}
use Rattle.pairs.specs.Words.{bit}
use Rattle.pairs.proofs.PortSets.{inside-bit, not-inside}
use Rattle.pairs.proofs.ports.Ports.has.Goals as goal

pub returns : goal.returns
unfolding bit
returns c =
    let fact =
    ap (λ (y : ℕ). eqb y 1) (and_mask (c.args.self.bits / 2 ^ c.args.port) 1) ∙ sym (inside-bit c.args.self c.args.port (omega arith)) in
    search rules

pub returns-then-port-ge-MOST : goal.returns-then-port-ge-MOST
returns-then-port-ge-MOST c =
    let fact =
    sym (not-inside c.args.self c.args.port (omega arith)) in
    search rules

use Rattle.std.proofs.Common.{ℕ, ap, ◌∙◌, arith, rules}
use lib.Bits.{bit_or}
use Rattle.std.proofs.lemmas.Nat.{one_shl}
use Rattle.pairs.proofs.PortSets.{made, joined_is, joined-none}
use Rattle.pairs.proofs.ports.Ports.with.Goals as goal

pub returns-then-port-ge-MOST : goal.returns-then-port-ge-MOST
returns-then-port-ge-MOST c =
    let fact =
    joined-none c.args.self c.args.port (search rules) (omega arith) in
    search rules

pub returns : goal.returns
returns c =
    let fact =
    ap (λ (y : ℕ). made (bit_or c.args.self.bits y)) (one_shl c.args.port 8 (omega arith)) ∙ joined_is c.args.self c.args.port (search rules) (omega arith) in
    search rules

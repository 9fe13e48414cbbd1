use Rattle.std.proofs.Common.{ℕ, ◌-◌, ap, ◌∙◌, arith, rules}
use lib.Bits.{bit_and}
use Rattle.std.proofs.lemmas.Nat.{one_shl}
use Rattle.pairs.proofs.PortSets.{made, removed-is, removed-none}
use Rattle.pairs.proofs.ports.Ports.without.Goals as goal

pub returns-then-port-ge-MOST : goal.returns-then-port-ge-MOST
returns-then-port-ge-MOST c =
    let fact =
    removed-none c.args.self c.args.port (search rules) (omega arith) in
    search rules

pub returns : goal.returns
returns c =
    let fact =
    ap (λ (y : ℕ). made (bit_and c.args.self.bits (255 - y))) (one_shl c.args.port 8 (omega arith)) ∙ removed-is c.args.self c.args.port (search rules) (omega arith) in
    search rules

use Rattle.std.proofs.Common.{ℕ, ◌&&◌, ltb, ap, ◌∙◌, rules}
use Rattle.pairs.specs.Tables.{table_of}
use Rattle.arbiters.specs.SlotGrants.{slot-grants-is}
use Rattle.arbiters.proofs.reserved.Reserved.grants.Goals as goal

pub returns : goal.returns
returns c =
    let fact =
    slot-grants-is c.args.ports.number c.args.self.pairs c.args.requests
    c.and.result c.square-square.result c.and-kept.result c.crossing.result c.minus-free.result c.diagonal_grants.result c.or.result
    c.and.ensures (c.square-square.ensures ∙ ap (λ (n : ℕ). table_of (λ i o. ltb i n && ltb o n)) c.number.ensures) c.and-kept.ensures
    c.crossing.ensures c.minus-free.ensures c.diagonal_grants.ensures c.or.ensures in
    search rules

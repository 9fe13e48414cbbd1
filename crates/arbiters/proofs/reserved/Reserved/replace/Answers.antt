use Rattle.std.proofs.Common.{◌≡◌, rules}
use Rattle.arbiters.specs.Slots.{replaced}
use Rattle.arbiters.proofs.Reserving.{replaced-is, replaced-output, replaced-input}
use Rattle.arbiters.proofs.reserved.Reserved.replace.Goals as goal

pub invariant_of-self : goal.invariant_of-self
invariant_of-self c =
    let is : c.with-self.result ≡ replaced c.args.self.now.pairs c.args.input c.args.output =
    replaced-is c.args.self.now.pairs c.empty.result c.with_outputs-had.result c.minus.result c.with-self.result c.outputs.result c.args.input c.args.output
    c.empty.ensures c.outputs.ensures c.with_outputs-had.ensures c.minus.ensures c.with-self.ensures in record { inputs = replaced-output c.args.self.now.pairs c.with-self.result c.args.input c.args.output is c.requires c.args.self.now.inputs; outputs = replaced-input c.args.self.now.pairs c.with-self.result c.args.input c.args.output is c.requires c.args.self.now.outputs }

pub returns : goal.returns
returns c =
    let fact =
    replaced-is c.args.self.now.pairs c.empty.result c.with_outputs-had.result c.minus.result c.with-self.result c.outputs.result c.args.input c.args.output
    c.empty.ensures c.outputs.ensures c.with_outputs-had.ensures c.minus.ensures c.with-self.ensures in
    search rules

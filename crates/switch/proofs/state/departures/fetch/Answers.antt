use Rattle.std.proofs.Common.{◌≡◌, ℕ, Ok, Result, arith}
use Rattle.queues.specs.declared.refusal.QueueRefusal.{QueueRefusal}
use Rattle.law.specs.declared.memory.Block.{Block}
use Rattle.switch.proofs.Middle.{fetch-is}
use Rattle.switch.proofs.state.departures.fetch.Goals as goal

pub unreachable-requires : goal.unreachable-requires
unreachable-requires c =
    let f = (fetch-is c.args.links.now c.args.input c.index-links-input.result c.args.blocks.now c.args.queue c.requires.links c.requires.queue c.requires.blocks c.requires.waits _ c.take.new.self c.in_default.ensures).0 in
    let z : ◌≡◌ {A = ℕ} 0 1 = cc in
    omega arith

same_block : (x y : Block) → ◌≡◌ {A = Result Block QueueRefusal} (Ok x) (Ok y) → x ≡ y
same_block x y e = cc

pub returns : goal.returns
returns c =
    let f = fetch-is c.args.links.now c.args.input c.index-links-input.result c.args.blocks.now c.args.queue c.requires.links c.requires.queue c.requires.blocks c.requires.waits (Ok c.in-Ok.block) c.take.new.self c.in-Ok.ensures in
    record { block = same_block _ _ f.0; queues = f.1 }

use Rattle.std.proofs.Common.{◌≡◌, ◌<◌, ◌/◌, true, length, arith, rules}
use Rattle.law.specs.View.{part}
use Rattle.outgoing.specs.SlotBytes.{has_part}
use Rattle.outgoing.proofs.Places.{chunk_is_part, has_part_lem}
use Rattle.outgoing.proofs.line.line_of.Goals as goal
use Rattle.outgoing.proofs.line.line_of.Goals.{then-sent, else-sent}

pub returns : goal.returns
returns c =
    let found = rw c.in_ok-line.ensures.ok_part at c.get.ensures.lookup in
    let below : c.args.output < length c.args.slot_bytes.now / 53 = omega (arith, found.3.0) in
    let line : c.in_ok-line.line.now ≡ part c.args.output c.args.slot_bytes.now = chunk_is_part _ _ _ _ c.in_ok-line.line.now below (search (rules, found.1)) in
    let room : has_part c.args.output c.args.slot_bytes.now ≡ true = has_part_lem _ _ _ below (omega arith) in
    elim c.if-sent.branch [
      | then-sent w ↦ grind (arith, line, room)
      | else-sent w ↦ grind (arith, room)
    ]

use Rattle.std.proofs.Common.{◌≡◌, ◌/◌, true, length, refl, arith, rules}
use Rattle.law.specs.View.{leaving}
use Rattle.outgoing.specs.SlotBytes.{has_part}
use Rattle.outgoing.proofs.Places.{has_part_lem, overwritten}
use Rattle.outgoing.proofs.sending.send_into.Goals as goal

pub returns : goal.returns
returns c =
    let room : has_part c.args.output c.args.slot_bytes.now ≡ true = has_part_lem _ (length c.args.slot_bytes.now / 53) _ (omega arith) (omega arith) in
    let sent : c.copy_from_slice.new.self ≡ leaving c.args.block.now = search rules in
    simp room (record {
      answer = refl;
      bytes = search (rules, overwritten, sent);
    })

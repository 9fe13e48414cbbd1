use Rattle.std.proofs.Common.{◌≡◌, ◌+◌, ◌-◌, ◌≤◌, length, arith}
use Rattle.std.proofs.lemmas.Bool.Decides.{nat_tests}
use Rattle.std.proofs.lemmas.Slice.{take-put_mid_below, drop-put_mid}
use Rattle.queues_test.proofs.parts.join_part.Goals as goal

pub returns-clause-untouched : goal.returns-clause-untouched
returns-clause-untouched g c =
    let xs = c.args.memory.now in
    let at = c.args.start in
    let end = c.in_ok-end.end in
    let found = c.in_ok-end.ensures in
    let is : end ≡ at + g.row.B = grind (arith, nat_tests) in
    let fits : at + g.row.B ≤ length xs = grind (arith, nat_tests) in (
      take-put_mid_below at (end - at) xs c.join.new.blocks at (omega arith) (omega arith),
      drop-put_mid at (end - at) xs c.join.new.blocks (at + g.row.B) (omega arith) (omega arith) (omega arith),
    )

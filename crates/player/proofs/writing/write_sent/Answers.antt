use Rattle.std.proofs.Common.{vec_items, ◌∙◌, take}
use Rattle.std.proofs.lemmas.Slice.{pushed}
use Rattle.std.proofs.lemmas.List.{flat_map_more, take_more}
use Rattle.player.proofs.writing.write_sent.Goals as goal

pub loop-sent-preserved : goal.loop-sent-preserved
loop-sent-preserved c =
    let e = c.departure_line-line.ensures in
    let d = c.departure_of.ensures in
    let was = pushed c.departure_line-line.result c.loop-sent.invariant c.in_ok-extend_from_slice.was c.extend_from_slice.ensures.items in
    let t = take_more c.as_slice-all.result.now c.loop-sent.sent-index _ c.loop-sent-test.true in
    was ∙ rw (e, d, t) (flat_map_more _ (vec_items c.args.out.now) (take c.loop-sent.sent-index c.as_slice-all.result.now) _)

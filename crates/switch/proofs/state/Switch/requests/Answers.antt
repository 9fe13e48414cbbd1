use Rattle.std.proofs.Common.{◌≡◌, ◌<◌, length, get_or, is_ok, sym, ap, ◌∙◌, arith}
use Rattle.std.proofs.lemmas.Option.{slice_get-get_or}
use Rattle.queues.specs.Queues as Queued
use Rattle.switch.specs.Ready.{queues_of}
use Rattle.switch.specs.Seen.{view}
use Rattle.switch.proofs.Requests.{wants, seen-with, seen_same, wants-head}
use Rattle.switch.proofs.state.Switch.requests.Goals as goal
use Rattle.switch.proofs.state.Switch.requests.Goals.{then-is_ok, else-is_ok}

pub loop-o-preserved : goal.loop-o-preserved
loop-o-preserved g c =
    let s = c.args.self.now in
    let i = c.loop-i.i in
    let o = c.loop-o.o in
    let l = get_or s.cells i c.index-self-i.result in
    let size : i < length s.cells = omega (arith, s.ports.eight, s.sized, c.loop-i-test.true, c.number-ports.ensures) in
    let is : (view s).cells i ≡ Queued.view l = ap queues_of (slice_get-get_or s.cells i c.index-self-i.result size) in
    let wanted : wants (view s) i o ≡ c.is_ok.result =
    wants-head (view s) i o (Queued.view l) (omega (arith, c.loop-i-test.true, c.number-ports.ensures)) (omega (arith, c.loop-o-test.true, c.number-ports.ensures)) s.ports.eight is ∙ ap is_ok (sym c.head_block.ensures.number) ∙ sym c.is_ok.ensures.value in
    elim c.if-is_ok.branch [
      | then-is_ok w ↦ w.table-is ∙ w.with-table.ensures ∙ seen-with (wants (view s)) i o c.loop-o.table (wanted ∙ w.if-is_ok.true) c.loop-o.invariant
      | else-is_ok w ↦ w.table-is ∙ seen_same (wants (view s)) i o c.loop-o.table (wanted ∙ w.if-is_ok.false) c.loop-o.invariant
    ]

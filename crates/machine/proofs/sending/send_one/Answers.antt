use Rattle.std.proofs.Common.{◌≡◌, ◌+◌, ◌*◌, ◌≤◌, [], length, None, sym, ap, ◌∙◌, subst, arith}
use Rattle.law.specs.declared.answers.Departed.{Departed}
use Rattle.law.specs.View.{Slot, View, part}
use Rattle.law.specs.Calls.{Outcome}
use Rattle.law.proofs.Pairs.{outputs-pairs}
use Rattle.switch.specs.Seen.{grant_of, view}
use Rattle.machine.specs.Standing.{lent, departing}
use Rattle.machine.proofs.Parts.{part-written}
use Rattle.machine.proofs.Departing.{Sized, Departure, lent-sized, departs, gone-by, took_by, still-can}
use Rattle.machine.proofs.Telling.{resized, told-resized, sent-one, none-sent}
use Rattle.machine.proofs.sending.send_one.Goals as goal

pub cell_at-requires : goal.cell_at-requires
cell_at-requires g c =
    let n = c.number-ports.result in
    let v = view c.args.switch.now in
    let same : n ≡ v.ports = c.number-ports.ensures ∙ c.ports.ensures in
    let m = lent n c.args.blocks.now c.args.notes.now c.args.bytes.now in
    let sized : Sized v.ports m = lent-sized n v.ports c.args.blocks.now c.args.notes.now c.args.bytes.now same c.requires.eight c.told-blocks c.told-notes c.told-bytes in
    let bytes : n * 53 ≤ length c.args.bytes.now = omega (arith, same, c.requires.eight, c.told-bytes) in
    let gone = gone-by v (view c.depart.new.self) (grant_of c.args.grants.now) c.in-Ok.departed m _ sized c.requires (outputs-pairs c.args.switch.now.ports.number c.args.switch.now.grants) c.in-Ok.ensures in
    let whole = ap length (part-written (n * 53) c.args.bytes.now c.depart.new.bytes bytes c.depart.auto.bytes) in
    omega (arith, whole, sized.bytes, gone.output, c.depart.auto.bytes)

pub unreachable-requires : goal.unreachable-requires
unreachable-requires g c =
    let n = c.number-ports.result in
    let v = view c.args.switch.now in
    let same : n ≡ v.ports = c.number-ports.ensures ∙ c.ports.ensures in
    let w = view c.depart.new.self in
    let m = lent n c.args.blocks.now c.args.notes.now c.args.bytes.now in
    let sized : Sized v.ports m = lent-sized n v.ports c.args.blocks.now c.args.notes.now c.args.bytes.now same c.requires.eight c.told-blocks c.told-notes c.told-bytes in
    let gone = gone-by v w (grant_of c.args.grants.now) c.in-Ok.departed m _ sized c.requires (outputs-pairs c.args.switch.now.ports.number c.args.switch.now.grants) c.in-Ok.ensures in
    took_by w (view c.take_note.new.self) c.in-Ok.departed.output (record { cells = []; notes = c.depart.new.notes; bytes = [] }) _ (omega (arith, gone.output, gone.ports)) (c.depart.auto.notes ∙ c.told-notes) gone.waits (c.in-Err-take_note.ensures [] [])

pub returns-in-Ok-take_note : goal.returns-in-Ok-take_note
returns-in-Ok-take_note g c =
    let n = c.number-ports.result in
    let v = view c.args.switch.now in
    let same : n ≡ v.ports = c.number-ports.ensures ∙ c.ports.ensures in
    let w = view c.depart.new.self in
    let z = view c.take_note.new.self in
    let m = lent n c.args.blocks.now c.args.notes.now c.args.bytes.now in
    let sized : Sized v.ports m = lent-sized n v.ports c.args.blocks.now c.args.notes.now c.args.bytes.now same c.requires.eight c.told-blocks c.told-notes c.told-bytes in
    let bytes : n * 53 ≤ length c.args.bytes.now = omega (arith, same, c.requires.eight, c.told-bytes) in
    let d = c.in-Ok.departed in
    let gone = gone-by v w (grant_of c.args.grants.now) d m _ sized c.requires (outputs-pairs c.args.switch.now.ports.number c.args.switch.now.grants) c.in-Ok.ensures in
    let took = took_by w z d.output (record { cells = []; notes = c.depart.new.notes; bytes = [] }) _ (omega (arith, gone.output, gone.ports)) (c.depart.auto.notes ∙ c.told-notes) gone.waits (c.in-Ok-take_note.ensures [] []) in
    let written = part-written (n * 53) c.args.bytes.now c.depart.new.bytes bytes c.depart.auto.bytes in
    record {
      departed =
          ap (departing (grant_of c.args.grants.now)) (resized v v.ports n c.args.blocks.now c.args.notes.now c.args.bytes.now None (sym same))
          ∙ (sent-one (grant_of c.args.grants.now) (record { view = v; memory = m; ticket = None }) w z d c.in-Ok-take_note.note c.depart.new.notes c.depart.new.bytes _ c.cell_at.result
          c.in-Ok.ensures (c.in-Ok-take_note.ensures m.cells c.depart.new.bytes) written (c.cell_at.ensures ∙ ap (part d.output) written)
          ∙ told-resized _ z n z.ports c.args.blocks.now c.depart.new.notes _ None (same ∙ sym (took.1 ∙ gone.ports)));
      fewer = gone.fewer ∙ ap (λ (s : Slot). 1 + length s.grants) (sym took.3);
      can = still-can v w z (grant_of c.args.grants.now) d gone took;
    }

pub returns-in-Err : goal.returns-in-Err
returns-in-Err g c =
    let n = c.number-ports.result in
    let v = view c.args.switch.now in
    let same : n ≡ v.ports = c.number-ports.ensures ∙ c.ports.ensures in
    let m = lent n c.args.blocks.now c.args.notes.now c.args.bytes.now in
    let sized : Sized v.ports m = lent-sized n v.ports c.args.blocks.now c.args.notes.now c.args.bytes.now same c.requires.eight c.told-blocks c.told-notes c.told-bytes in
    let bytes : n * 53 ≤ length c.args.bytes.now = omega (arith, same, c.requires.eight, c.told-bytes) in
    let kept = subst (λ (o : Outcome _ Departed). Departure v m o.reply o.view o.memory) c.in-Err.ensures
    (departs v m (grant_of c.args.grants.now) sized c.requires (outputs-pairs c.args.switch.now.ports.number c.args.switch.now.grants)) in
    let w = view c.depart.new.self in (
      resized w w.ports n c.args.blocks.now c.depart.new.notes _ None (ap (λ (x : View _). x.ports) kept.0 ∙ sym same)
          ∙ (none-sent w v _ m _ kept.0 kept.1 (part-written (n * 53) c.args.bytes.now c.depart.new.bytes bytes c.depart.auto.bytes)
          ∙ resized v n v.ports c.args.blocks.now c.args.notes.now c.args.bytes.now None same),
      kept.2,
    )

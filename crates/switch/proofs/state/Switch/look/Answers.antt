use Rattle.std.proofs.Common.{◌<◌, Bool, cond, length, get_or, Err, Result, sym, refl, ap, arith}
use Rattle.outgoing.specs.Look.{look_at}
use Rattle.outgoing.specs.Results.{answered, written}
use Rattle.queues.specs.Queues as Queued
use Rattle.refusals.specs.declared.refusal.Refusal.{Refusal}
use Rattle.refusals.specs.declared.refusal.Refusal.TheVariants.{IdleOrLookLength, NoCell}
use Rattle.law.specs.View.{place}
use Rattle.law.specs.Calls.{not53}
use Rattle.switch.specs.Seen.{view}
use Rattle.switch.proofs.Inputs.{cells_at}
use Rattle.switch.proofs.Views.{looks-at, looks-in-vain, looked, right-length}
use Rattle.switch.proofs.state.Switch.look.Goals as goal

pub returns-in-Ok : goal.returns-in-Ok
returns-in-Ok g c =
    let s = c.args.self.now in
    let i = c.args.input in
    let x = c.args.bytes.now in
    let d = c.index-self-input.result in
    let li : i < length s.cells = omega (arith, s.ports.eight, s.sized, c.if-input-ports.false, c.number-ports.ensures) in
    looked s i c.args.output c.args.blocks.now x _ _ _ (look_at c.args.blocks.now (place i c.in-Ok.block) x)
    (λ notes bytes. looks-at (view s) (record { cells = c.args.blocks.now; notes = notes; bytes = bytes }) i c.args.output x (Queued.view (get_or s.cells i d)) (cells_at s.cells i d li)
    (omega (arith, c.if-input-ports.false, c.number-ports.ensures)) (omega (arith, c.if-output-ports.false, c.number-ports.ensures)) s.ports.eight (omega (arith, c.if-blocks-ports.false, c.number-ports.ensures)) c.in-Ok.block c.in-Ok.ensures.number c.in-Ok.ensures.inside)
    c.show_at.ensures.answer c.show_at.ensures.bytes c.show_at.ensures.kept

pub returns-in_ok-check_length-in-Err : goal.returns-in_ok-check_length-in-Err
returns-in_ok-check_length-in-Err g c =
    let s = c.args.self.now in
    let i = c.args.input in
    let x = c.args.bytes.now in
    let d = c.index-self-input.result in
    let li : i < length s.cells = omega (arith, s.ports.eight, s.sized, c.if-input-ports.false, c.number-ports.ensures) in
    let long = right-length x _ c.in_ok-check_length-in-Err.ensures in
    looked s i c.args.output c.args.blocks.now x _ _ _ (cond {A = Result _ Refusal} (not53 x) (Err IdleOrLookLength) (Err NoCell))
    (λ notes bytes. looks-in-vain (view s) (record { cells = c.args.blocks.now; notes = notes; bytes = bytes }) i c.args.output x (Queued.view (get_or s.cells i d)) (cells_at s.cells i d li)
    (omega (arith, c.if-input-ports.false, c.number-ports.ensures)) (omega (arith, c.if-output-ports.false, c.number-ports.ensures)) s.ports.eight (omega (arith, c.if-blocks-ports.false, c.number-ports.ensures)) c.in-Err.field-0 c.in-Err.ensures.number)
    (sym (ap (λ (b : Bool). answered (cond b (Err IdleOrLookLength) (Err NoCell))) long)) (sym (ap (λ (b : Bool). written (cond b (Err IdleOrLookLength) (Err NoCell)) x) long)) refl

use Rattle.std.proofs.Common.{ℕ, ◌<◌, get_or, drop, set, sym, refl, ap, ◌∙◌, arith, rules}
use Rattle.std.proofs.lemmas.Bool.{not-true}
use Rattle.pairs.specs.Tables.{holds, table_of, dropped, inside}
use Rattle.queues.specs.Queues as Queued
use Rattle.law.specs.declared.stage.Stage.TheVariants.{Sending}
use Rattle.law.specs.View.{Memory, pairs}
use Rattle.law.specs.Calls.{wrong}
use Rattle.switch.specs.Ready.{cells_of}
use Rattle.switch.specs.Seen.{view, grant_of}
use Rattle.switch.proofs.Firsts.{pairs_first, pairs-none, within-dropped}
use Rattle.switch.proofs.PortSets.{inside-with}
use Rattle.switch.proofs.Slots.{of-slot}
use Rattle.switch.proofs.Departures.{no-grant, notes-full, departs, notes-join, sent-bytes, ready-sent, nil-of, cons_of}
use Rattle.switch.proofs.state.Switch.depart.Goals as goal

pub returns-in_default : goal.returns-in_default
returns-in_default g c =
    let s = c.args.self.now in
    let v = view s in
    let t = grant_of c.args.ticket.now in
    let m : Memory = record { cells = c.args.blocks.now; notes = c.args.notes.now; bytes = c.args.bytes.now } in
    no-grant v m t (omega (arith, c.if-blocks-ports.false, c.number-ports.ensures)) c.if-notes-ne-NOTE_BLOCKS.false (omega (arith, c.if-bytes-ports.false, c.number-ports.ensures)) (not-true (wrong v Sending t) (sym c.fits.ensures ∙ c.if-not-fits.false))
    (pairs-none s.ports.number s.grants c.in_default.ensures)

pub returns-then-free_blocks-eq0 : goal.returns-then-free_blocks-eq0
returns-then-free_blocks-eq0 g c =
    let s = c.args.self.now in
    let v = view s in
    let t = grant_of c.args.ticket.now in
    let m : Memory = record { cells = c.args.blocks.now; notes = c.args.notes.now; bytes = c.args.bytes.now } in
    let x : ℕ × ℕ = (c.in-Some.input, c.in-Some.output) in
    let f = c.in-Some.ensures in
    let w = s.within x f.0 in
    let u = table_of (dropped (holds s.grants) x.0 x.1) in
    notes-full v m t (omega (arith, c.if-blocks-ports.false, c.number-ports.ensures)) c.if-notes-ne-NOTE_BLOCKS.false (omega (arith, c.if-bytes-ports.false, c.number-ports.ensures)) (not-true (wrong v Sending t) (sym c.fits.ensures ∙ c.if-not-fits.false))
    x (pairs s.ports.number u) (pairs_first s.ports.number s.grants u x s.ports.eight w.0 w.1 f refl) (nil-of (Queued.view s.notes).free (sym c.free_blocks.ensures ∙ c.if-free_blocks-eq0.true))

pub invariant_of-self : goal.invariant_of-self
invariant_of-self g c =
    let s = c.args.self.now in
    let x : ℕ × ℕ = (c.in-Some.input, c.in-Some.output) in
    let f = c.in-Some.ensures in record { numbered = s.numbered; sized = c.fetch-block.auto.links ∙ s.sized; within = within-dropped s.ports.number s.grants c.without-self.result x s.ports.eight c.without-self.ensures s.within; ready = ready-sent s.grants c.without-self.result x (cells_of s.cells) (cells_of c.fetch-block.new.links) c.without-self.ensures f.0 c.fetch-block.ensures.queues s.ready }

pub returns : goal.returns
returns g c =
    let s = c.args.self.now in
    let v = view s in
    let t = grant_of c.args.ticket.now in
    let m : Memory = record { cells = c.args.blocks.now; notes = c.args.notes.now; bytes = c.args.bytes.now } in
    let x : ℕ × ℕ = (c.in-Some.input, c.in-Some.output) in
    let f = c.in-Some.ensures in
    let w = s.within x f.0 in
    let lo : x.1 < 8 = omega (arith, w.1, s.ports.eight) in
    let fit = not-true (wrong v Sending t) (sym c.fits.ensures ∙ c.if-not-fits.false) in
    let free = (Queued.view s.notes).free in
    let some = cons_of free (λ e. c.if-free_blocks-eq0.false (c.free_blocks.ensures ∙ e)) in
    let b = c.fetch-block.result in
    let joins = notes-join s.notes c.args.notes.now c.join.new.blocks x.1 _ c.join.result (Queued.view c.join.new.self) (get_or free 0 0) (drop 1 free) lo c.if-notes-ne-NOTE_BLOCKS.false some c.join.ensures in
    departs v m t (omega (arith, c.if-blocks-ports.false, c.number-ports.ensures)) c.if-notes-ne-NOTE_BLOCKS.false (omega (arith, c.if-bytes-ports.false, c.number-ports.ensures)) fit
    x (pairs s.ports.number c.without-self.result) (pairs_first s.ports.number s.grants c.without-self.result x s.ports.eight w.0 w.1 f c.without-self.ensures)
    (get_or free 0 0) (drop 1 free) some b t.slot (inside c.with-self.result) (cells_of c.fetch-block.new.links) (Queued.view c.join.new.self) c.join.new.blocks c.send_into.new.slot_bytes
    c.fetch-block.ensures.block (of-slot v Sending t fit) (inside-with s.sent c.with-self.result x.1 lo c.with-self.ensures) c.fetch-block.ensures.queues joins.0
    (joins.1 ∙ ap (λ (n : ℕ). set c.args.notes.now (get_or free 0 0) (record { slot = t.slot; input = x.0; came = n; left = b.new_vci })) c.vci.ensures)
    (sent-bytes c.args.bytes.now c.send_into.new.slot_bytes x.1 s.ports.number b w.1 (omega (arith, c.if-bytes-ports.false, c.number-ports.ensures)) c.send_into.ensures.bytes)

pub fetch-block-requires : goal.fetch-block-requires
fetch-block-requires g c =
    let s = c.args.self.now in
    let x : ℕ × ℕ = (c.in-Some.input, c.in-Some.output) in
    let f = c.in-Some.ensures in
    let w = s.within x f.0 in
    record {
      queue = omega (arith, w.1, s.ports.eight);
      links = omega (arith, w.0, s.ports.eight, s.sized);
      blocks = omega (arith, w.0, c.if-blocks-ports.false, c.number-ports.ensures);
      waits = s.ready x f.0;
    }

pub overflow_cast-result-2 : goal.overflow_cast-result-2
overflow_cast-result-2 g c =
    let s = c.args.self.now in
    let w = s.within (c.in-Some.input, c.in-Some.output) c.in-Some.ensures.0 in
    let small : c.in-Some.output < 8 = omega (arith, w.1, s.ports.eight) in
    search rules

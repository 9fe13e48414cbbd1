use Rattle.std.proofs.Common.{◌≡◌, ◌*◌, ◌≤◌, [], length, Some, Ok, sym, ◌∙◌, subst, arith}
use Rattle.queues.specs.Queues.{Queues}
use Rattle.std.specs.List.{between}
use Rattle.law.specs.declared.stage.Stage.TheVariants.{Arriving}
use Rattle.switch.specs.Seen.{view, arrival_of}
use Rattle.machine.specs.Machines.{standing, ticket_of}
use Rattle.machine.specs.Standing.{Standing, lent}
use Rattle.machine.proofs.Keeping.{Steady, arrives}
use Rattle.machine.proofs.Parts.{part-written, length-written}
use Rattle.machine.proofs.Telling.{told-resized, arrived}
use Rattle.machine.proofs.machine.Machine.arrive.Goals as goal

pub invariant_of-self : goal.invariant_of-self
invariant_of-self g c =
    let s = c.take_up.new.self in
    let v = view s.switch in
    let t = arrival_of c.in_ok-ticket.ticket in
    let n = c.number.result in
    let few : n * 16 ≤ length s.blocks = omega (arith, c.number.ensures, c.ports.ensures, s.switch.ports.eight, s.cells) in
    let steady = subst (λ o. Steady v o) (c.arrive-answer.ensures [] []) (arrives v (record { cells = between 0 (n * 16) s.blocks; notes = []; bytes = [] }) t c.args.input c.args.cell.now) in
    record {
      fits = steady.fits Arriving t ∙ c.in_ok-ticket.ensures.fits;
      room = subst (λ (q : Queues). 1 ≤ length q.free) (sym steady.notes) s.room;
      cells = length-written (n * 16) s.blocks c.arrive-answer.new.blocks few c.arrive-answer.auto.blocks ∙ s.cells;
      kept = s.kept;
      sized = s.sized;
    }

pub returns : goal.returns
returns g c =
    let s = c.take_up.new.self in
    let t = arrival_of c.in_ok-ticket.ticket in
    let n = c.number.result in
    let few : n * 16 ≤ length s.blocks = omega (arith, c.number.ensures, c.ports.ensures, s.switch.ports.eight, s.cells) in
    let same : n ≡ (view s.switch).ports = c.number.ensures ∙ c.ports.ensures in
    let steady = subst (λ o. Steady (view s.switch) o) (c.arrive-answer.ensures [] []) (arrives (view s.switch) (record { cells = between 0 (n * 16) s.blocks; notes = []; bytes = [] }) t c.args.input c.args.cell.now) in
    let u : Standing _ = record { view = view s.switch; memory = lent n s.blocks s.notes s.bytes; ticket = ticket_of s.ticket } in
    told-resized c.arrive-answer.result (view c.arrive-answer.new.self) _ n _ s.notes s.bytes (Some t) (steady.ports ∙ sym same)
    ∙ arrived (standing c.args.self.now) u (view c.arrive-answer.new.self) t c.args.input c.args.cell.now c.arrive-answer.result c.arrive-answer.new.blocks _
    (told-resized (Ok t) (view s.switch) n _ s.blocks s.notes s.bytes (ticket_of s.ticket) same ∙ c.in_ok-ticket.ensures.answer) (c.arrive-answer.ensures s.notes (between 0 (n * 53) s.bytes))
    (part-written (n * 16) s.blocks c.arrive-answer.new.blocks few c.arrive-answer.auto.blocks)

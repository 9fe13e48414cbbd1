use Rattle.std.proofs.Common.{◌≡◌, ◌≤◌, length, None, sym, ap, ◌∙◌, subst, arith}
use Rattle.queues.specs.Queues.{Queues}
use Rattle.law.specs.Calls.{Outcome, Ticket, requests}
use Rattle.switch.specs.Seen.{arrival_of, grant_of, view}
use Rattle.machine.specs.Machines.{ended_of, memory_of, standing, ticket_of}
use Rattle.machine.specs.Standing.{Told, finishing}
use Rattle.machine.proofs.Keeping.{nothing, Holds, decides, unfit-none}
use Rattle.machine.proofs.Ending.{Deciding, Decided, decided}
use Rattle.machine.proofs.Telling.{resized, taken-up, ended, ends}
use Rattle.machine.proofs.machine.Machine.end_slot.Goals as goal

pub invariant_of-self : goal.invariant_of-self
invariant_of-self g c =
    let a = g.A.Arbiter.meaning in
    let s = c.take_up.new.self in
    let v = view s.switch in
    let u = standing c.args.self.now in
    let held : ticket_of s.ticket ≡ None = ap (λ (x : Told _ Ticket). x.standing.ticket) c.in_ok-ticket.ensures.answer ∙ taken-up u u.ticket in
    let holds = subst (λ (o : Outcome _ Ticket). Holds v o) (c.decide.ensures.done nothing) (decides v nothing a (arrival_of c.in_ok-ticket.ticket)) in
    record {
      fits = unfit-none (view c.decide.new.self) s.ticket held;
      room = subst (λ (q : Queues). 1 ≤ length q.free) (sym holds.notes) s.room;
      cells = s.cells;
      kept = s.kept;
      sized = s.sized;
    }

pub finish-requires : goal.finish-requires
finish-requires g c =
    let a = g.A.Arbiter.meaning in
    let s = c.take_up.new.self in
    let v = view s.switch in
    let w = view c.decide.new.self in
    let t = arrival_of c.in_ok-ticket.ticket in
    let u = standing c.args.self.now in
    let held : ticket_of s.ticket ≡ None = ap (λ (x : Told _ Ticket). x.standing.ticket) c.in_ok-ticket.ensures.answer ∙ taken-up u u.ticket in
    let holds = subst (λ (o : Outcome _ Ticket). Holds v o) (c.decide.ensures.done nothing) (decides v nothing a t) in
    let decision : Decided v.ports w (grant_of c.in-Ok.grants) =
    subst (λ (o : Outcome _ Ticket). Deciding v.ports o.reply o.view) (c.in-Ok.ensures.done nothing)
    (decided v nothing a t c.in_ok-ticket.ensures.fits (g.met.A.Arbiter.lawful.apart s.switch.arbiter (requests v))) in (
      record { fits = decision.fits; eight = omega (arith, holds.ports, s.switch.ports.eight); room = subst (λ (q : Queues). 1 ≤ length q.free) (sym holds.notes) s.room },
      record { held = held; counted = decision.counted; few = omega (arith, decision.few, s.switch.ports.eight) },
    )

pub unreachable-requires : goal.unreachable-requires
unreachable-requires g c =
    let a = g.A.Arbiter.meaning in
    let s = c.take_up.new.self in
    let v = view s.switch in
    subst (λ (o : Outcome _ Ticket). Deciding v.ports o.reply o.view) (c.in-Err.ensures.done nothing)
    (decided v nothing a (arrival_of c.in_ok-ticket.ticket) c.in_ok-ticket.ensures.fits (g.met.A.Arbiter.lawful.apart s.switch.arbiter (requests v)))

pub returns : goal.returns
returns g c =
    let a = g.A.Arbiter.meaning in
    let s = c.take_up.new.self in
    let v = view s.switch in
    let w = view c.decide.new.self in
    let u = standing c.args.self.now in
    let holds = subst (λ (o : Outcome _ Ticket). Holds v o) (c.decide.ensures.done nothing) (decides v nothing a (arrival_of c.in_ok-ticket.ticket)) in
    let held : ticket_of s.ticket ≡ None = ap (λ (x : Told _ Ticket). x.standing.ticket) c.in_ok-ticket.ensures.answer ∙ taken-up u u.ticket in
    record {
      answer = ended a u (standing s) w (arrival_of c.in_ok-ticket.ticket) (grant_of c.in-Ok.grants) _
          c.in_ok-ticket.ensures.answer held (c.in-Ok.ensures.done (memory_of s))
          (c.finish.ensures ∙ ap (finishing (grant_of c.in-Ok.grants)) (resized w w.ports v.ports s.blocks s.notes s.bytes (ticket_of s.ticket) holds.ports));
      ends = ends u.ticket (ended_of c.finish.result);
    }

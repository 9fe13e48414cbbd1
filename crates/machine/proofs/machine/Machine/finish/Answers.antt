use Rattle.std.proofs.Common.{◌≤◌, length, sym, subst}
use Rattle.queues.specs.Queues.{Queues}
use Rattle.law.specs.declared.answers.SlotClosed.{SlotClosed}
use Rattle.law.specs.Calls.{Outcome}
use Rattle.switch.specs.Seen.{grant_of, view}
use Rattle.machine.proofs.Keeping.{nothing, Holds, closes, unfit-none}
use Rattle.machine.proofs.Ending.{Closing, closed}
use Rattle.machine.proofs.machine.Machine.finish.Goals as goal

pub invariant_of-self : goal.invariant_of-self
invariant_of-self g c =
    let s = c.args.self.now in
    let sent = c.send_all-departures.ensures.sent in
    let can = sent.can c.requires.0 in
    let w = view c.send_all-departures.new.switch in
    let holds = subst (λ (o : Outcome _ SlotClosed). Holds w o) (c.close.ensures.done nothing) (closes w nothing (grant_of c.args.grants)) in
    record {
      fits = unfit-none (view c.close.new.self) s.ticket c.requires.1.held;
      room = subst (λ (q : Queues). 1 ≤ length q.free) (sym holds.notes) can.room;
      cells = s.cells;
      kept = c.send_all-departures.ensures.sized.0;
      sized = c.send_all-departures.ensures.sized.1;
    }

pub unreachable-requires : goal.unreachable-requires
unreachable-requires g c =
    let s = c.args.self.now in
    let sent = c.send_all-departures.ensures.sent in
    let can = sent.can c.requires.0 in
    let w = view c.send_all-departures.new.switch in
    subst (λ (o : Outcome _ SlotClosed). Closing o.reply) (c.in-Err.ensures.done nothing) (closed w nothing (grant_of c.args.grants) can.fits sent.none_left)

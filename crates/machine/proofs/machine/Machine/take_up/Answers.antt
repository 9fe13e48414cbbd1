use Rattle.std.proofs.Common.{◌≡◌, ◌≤◌, length, None, Option, sym, ap, ◌∙◌, subst}
use Rattle.queues.specs.Queues.{Queues}
use Rattle.law.specs.declared.stage.Stage.TheVariants.{Arriving}
use Rattle.law.specs.Calls.{Outcome, Ticket}
use Rattle.switch.specs.declared.tickets.ArrivalTicket.{ArrivalTicket}
use Rattle.switch.specs.Seen.{view}
use Rattle.machine.specs.Fitting.{Fits, unfit}
use Rattle.machine.specs.Machines.{memory_of, standing, ticket_of}
use Rattle.machine.proofs.Keeping.{nothing, Holds, opens, open-fits}
use Rattle.machine.proofs.Telling.{told-resized, opened}
use Rattle.machine.proofs.machine.Machine.take_up.Goals as goal

pub invariant_of-self-in-None : goal.invariant_of-self-in-None
invariant_of-self-in-None g c =
    let s = c.args.self.now in
    let v = view s.switch in
    let w = view c.open.new.self in
    let holds = subst (λ o. Holds v o) (c.open.ensures nothing) (opens v nothing) in
    record {
      fits = ap (λ (t : Option ArrivalTicket). unfit w t) c.take.ensures.after;
      room = subst (λ (q : Queues). 1 ≤ length q.free) (sym holds.notes) s.room;
      cells = s.cells;
      kept = s.kept;
      sized = s.sized;
    }

pub returns-in-None : goal.returns-in-None
returns-in-None g c =
    let s = c.args.self.now in
    let w = view c.open.new.self in
    let none : s.ticket ≡ None = sym c.take.ensures.value ∙ c.in-None.is in
    let v = view s.switch in
    let holds = subst (λ o. Holds v o) (c.open.ensures nothing) (opens v nothing) in
    record {
      answer = told-resized _ w w.ports v.ports s.blocks s.notes s.bytes _ holds.ports ∙ opened (standing s) w _ _ _ (c.open.ensures (memory_of s)) (ap ticket_of c.take.ensures.after) (ap ticket_of none);
      fits = subst (λ (o : Outcome _ Ticket). Fits Arriving o.view o.reply) (c.open.ensures nothing) (open-fits v nothing);
    }

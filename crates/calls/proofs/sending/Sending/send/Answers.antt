use Rattle.std.proofs.Common.{◌≡◌, ◌*◌, [], length, sym, ◌∙◌, subst, arith}
use Rattle.law.specs.declared.stage.Stage.TheVariants.{Sending}
use Rattle.law.specs.View.{Memory}
use Rattle.switch.specs.Seen.{view, grant_of}
use Rattle.law.proofs.Pairs.{outputs-pairs}
use Rattle.calls.proofs.Keeping.{Steady, Parting, departs, takes}
use Rattle.calls.proofs.Ending.{Nearer, depart-nearer, nearer-ok, nearer-err, room-nearer}
use Rattle.calls.proofs.sending.Sending.send.Goals as goal

pub invariant_of-self-else-is_err : goal.invariant_of-self-else-is_err
invariant_of-self-else-is_err c =
    let s = c.args.self.now in record {
      fits = (subst (λ o. Parting s.two.noted (view s.two.switch) o) c.depart.ensures
          (departs s.two.noted (view s.two.switch) s.two.kept (record { cells = c.args.memory.now.blocks; notes = c.args.memory.now.notes; bytes = c.args.memory.now.bytes }) (grant_of s.ticket) (outputs-pairs s.two.switch.ports.number s.two.switch.grants))
          ).fits Sending (grant_of s.ticket) ∙ s.fits;
    }

pub invariant_of-self : goal.invariant_of-self
invariant_of-self c =
    let s = c.args.self.now in
    let u = c.depart.new.self in record {
      fits = (subst (λ o. Steady u.noted (view u.switch) o) (c.make_room.ensures [] []) (takes u.noted (view u.switch) u.kept (record { cells = []; notes = c.depart.new.notes; bytes = [] }) u.noted)
          ).fits Sending (grant_of s.ticket)
          ∙ (subst (λ o. Parting s.two.noted (view s.two.switch) o) c.depart.ensures
          (departs s.two.noted (view s.two.switch) s.two.kept (record { cells = c.args.memory.now.blocks; notes = c.args.memory.now.notes; bytes = c.args.memory.now.bytes }) (grant_of s.ticket) (outputs-pairs s.two.switch.ports.number s.two.switch.grants))
          ).fits Sending (grant_of s.ticket) ∙ s.fits;
    }

pub returns-else-is_err : goal.returns-else-is_err
returns-else-is_err c =
    let s = c.args.self.now in
    let m : Memory = record { cells = c.args.memory.now.blocks; notes = c.args.memory.now.notes; bytes = c.args.memory.now.bytes } in
    let cells : length c.args.memory.now.blocks ≡ s.two.switch.ports.number * 16 = omega (arith, s.two.kept.0) in
    let notes : length c.args.memory.now.notes ≡ 64 = omega arith in
    let bytes : length c.args.memory.now.bytes ≡ s.two.switch.ports.number * 53 = omega (arith, s.two.kept.0) in
    nearer-ok (view s.two.switch) (view c.depart.new.self.switch) c.depart.result (sym c.if-is_err.ensures.value)
    (subst (λ o. Nearer (view s.two.switch) o.view o.reply) c.depart.ensures (depart-nearer (view s.two.switch) m (grant_of s.ticket) cells notes bytes s.fits c.requires))

pub returns-then-is_err : goal.returns-then-is_err
returns-then-is_err c =
    let s = c.args.self.now in
    let u = c.depart.new.self in
    let m : Memory = record { cells = c.args.memory.now.blocks; notes = c.args.memory.now.notes; bytes = c.args.memory.now.bytes } in
    let cells : length c.args.memory.now.blocks ≡ s.two.switch.ports.number * 16 = omega (arith, s.two.kept.0) in
    let notes : length c.args.memory.now.notes ≡ 64 = omega arith in
    let bytes : length c.args.memory.now.bytes ≡ s.two.switch.ports.number * 53 = omega (arith, s.two.kept.0) in
    let later : length c.depart.new.notes ≡ 64 = omega (arith, c.depart.auto.notes) in
    room-nearer (view s.two.switch) (view u.switch) (view c.make_room.new.self.switch) u.noted (record { cells = []; notes = c.depart.new.notes; bytes = [] }) c.make_room.result u.kept later
    (c.make_room.ensures [] [])
    (nearer-err (view s.two.switch) (view u.switch) c.depart.result (sym c.if-is_err.ensures.value)
    (subst (λ o. Nearer (view s.two.switch) o.view o.reply) c.depart.ensures (depart-nearer (view s.two.switch) m (grant_of s.ticket) cells notes bytes s.fits c.requires)))

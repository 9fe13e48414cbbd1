use Rattle.std.proofs.Common.{sym, refl, ◌∙◌, arith}
use Rattle.std.proofs.lemmas.Bool.{not-true}
use Rattle.pairs.specs.Tables.{inside}
use Rattle.pairs.proofs.Sizes.{size-most}
use Rattle.law.specs.declared.stage.Stage.TheVariants.{Arriving}
use Rattle.law.specs.Calls.{wrong}
use Rattle.switch.specs.Seen.{view, arrival_of}
use Rattle.switch.proofs.PortSets.{inside-none}
use Rattle.switch.proofs.Decisions.{within-granted, ready-granted, decides}
use Rattle.switch.proofs.Sizes.{size-pairs}
use Rattle.switch.proofs.state.Switch.decide.Goals as goal

pub overflow_cast-self : goal.overflow_cast-self
overflow_cast-self g c = omega (arith, size-most c.decide-grants.result, c.len.ensures)

pub invariant_of-self : goal.invariant_of-self
invariant_of-self g c =
    let s = c.args.self.now in
    let a = g.A.Arbiter.meaning in
    let law = g.met.A.Arbiter.lawful.requested s.arbiter c.requests-requests.result in record { numbered = s.numbered; sized = s.sized; within = within-granted a (view s) s.arbiter c.requests-requests.result c.decide-grants.result law c.requests-requests.ensures c.decide-grants.ensures.answer; ready = ready-granted a (view s) s.arbiter c.requests-requests.result c.decide-grants.result law c.requests-requests.ensures c.decide-grants.ensures.answer s.cells refl }

pub returns : goal.returns
returns g c =
    let s = c.args.self.now in
    let v = view s in
    let a = g.A.Arbiter.meaning in
    let t = arrival_of c.args.ticket in
    record {
      done = λ m. decides a v m t c.requests-requests.result c.decide-grants.result c.decide-grants.new.self c.len.result (inside c.empty-self.result)
          (not-true (wrong v Arriving t) (sym c.fits.ensures ∙ c.if-not-fits.false))
          c.requests-requests.ensures c.decide-grants.ensures.answer c.decide-grants.ensures.after (c.len.ensures ∙ size-pairs s.ports.number c.decide-grants.result s.ports.eight
          (within-granted a v s.arbiter c.requests-requests.result c.decide-grants.result (g.met.A.Arbiter.lawful.requested s.arbiter c.requests-requests.result) c.requests-requests.ensures c.decide-grants.ensures.answer)) (inside-none c.empty-self.result c.empty-self.ensures);
      back = tt;
      unspent = λ spent. cc;
    }

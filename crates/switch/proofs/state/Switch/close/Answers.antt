use Rattle.std.proofs.Common.{sym, refl, ◌∙◌}
use Rattle.std.proofs.lemmas.Bool.{not-true}
use Rattle.law.specs.declared.stage.Stage.TheVariants.{Sending}
use Rattle.law.specs.Calls.{wrong}
use Rattle.switch.specs.Seen.{view, grant_of}
use Rattle.switch.proofs.Sizes.{empty-pairs}
use Rattle.switch.proofs.Slots.{closes, closes-not}
use Rattle.switch.proofs.state.Switch.close.Goals as goal

pub returns-then-not-is_empty : goal.returns-then-not-is_empty
returns-then-not-is_empty g c =
    let s = c.args.self.now in
    let v = view s in
    let t = grant_of c.args.ticket in
    record {
      done = λ m. closes-not v m t (not-true (wrong v Sending t) (sym c.fits.ensures ∙ c.if-not-fits.false))
          (empty-pairs s.ports.number s.grants s.ports.eight s.within ∙ sym c.is_empty.ensures ∙ c.if-not-is_empty.true);
      back = refl;
    }

pub returns : goal.returns
returns g c =
    let s = c.args.self.now in
    let v = view s in
    let t = grant_of c.args.ticket in
    record {
      done = λ m. closes v m t (not-true (wrong v Sending t) (sym c.fits.ensures ∙ c.if-not-fits.false))
          (empty-pairs s.ports.number s.grants s.ports.eight s.within ∙ sym c.is_empty.ensures ∙ c.if-not-is_empty.false);
      back = tt;
    }

use Rattle.std.proofs.Common.{◌≡◌, ℕ, ◌<◌, Some, Option, sym, ap, ◌∙◌, arith}
use Rattle.cells.specs.Header.{vci_of}
use Rattle.pairs.specs.Tables.{inside}
use Rattle.routes.specs.declared.route.Route.{Route}
use Rattle.law.specs.View.{Memory}
use Rattle.law.specs.Calls.{routed}
use Rattle.switch.specs.Ready.{cells_of}
use Rattle.switch.specs.Seen.{view}
use Rattle.switch.proofs.PortSets.{inside-with}
use Rattle.switch.proofs.Arrivals.{stores, longer}
use Rattle.switch.proofs.state.Switch.accept.Goals as goal

pub invariant_of-self : goal.invariant_of-self
invariant_of-self g c =
    let s = c.args.self.now in record {
      numbered = s.numbered;
      sized = c.store.auto.links ∙ s.sized;
      within = s.within;
      ready = (λ x h.
          let more = longer (cells_of s.cells) (cells_of c.store.new.links) _ _ _ _ _ _ c.store.ensures x.0 x.1 in
          let was = s.ready x h in
          omega (arith, more, was));
    }

pub invariant_of-self-2 : goal.invariant_of-self-2
invariant_of-self-2 g c =
    let s = c.args.self.now in record {
      numbered = s.numbered;
      sized = c.store.auto.links ∙ s.sized;
      within = s.within;
      ready = (λ x h.
          let more = longer (cells_of s.cells) (cells_of c.store.new.links) _ _ _ _ _ _ c.store.ensures x.0 x.1 in
          let was = s.ready x h in
          omega (arith, more, was));
    }

pub returns : goal.returns
returns g c notes bytes =
    let s = c.args.self.now in
    let v = view s in
    let p = c.args.input in
    let x = c.args.cell.now in
    let r = c.in-Some.route in
    let m : Memory = record { cells = c.args.blocks.now; notes = notes; bytes = bytes } in
    let few : p < 8 = omega (arith, s.ports.eight, c.requires.port) in
    let known : v.tables.route p (vci_of x) ≡ Some r = sym (c.in-Some.ensures.entry ∙ ap (λ (n : ℕ). v.tables.route p n) (c.vci.ensures)) in
    ap (λ (o : Option Route). routed v m p x o) known
    ∙ stores v m p x r (cells_of c.store.new.links) c.store.new.blocks c.in_ok-ahead.ahead (inside c.with-self.result) (inside-with s.used c.with-self.result p few c.with-self.ensures) c.in_ok-ahead.ensures

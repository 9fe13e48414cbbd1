use Rattle.std.proofs.Common.{◌≡◌, ℕ, ◌*◌, ◌<◌, length, List, sym, ap, ◌∙◌, arith}
use Rattle.std.proofs.lemmas.Bool.{not-true}
use Rattle.cells.specs.Header.{is_idle, vci_of}
use Rattle.pairs.specs.Tables.{inside}
use Rattle.law.specs.declared.stage.Stage.TheVariants.{Arriving}
use Rattle.law.specs.View.{Memory}
use Rattle.law.specs.Calls.{routed, wrong}
use Rattle.switch.specs.Seen.{view, arrival_of}
use Rattle.switch.proofs.PortSets.{inside-with}
use Rattle.switch.proofs.Arrivals.{idles, looks_for_route}
use Rattle.switch.proofs.state.Switch.arrive.Goals as goal

pub returns-then-is_idle_cell : goal.returns-then-is_idle_cell
returns-then-is_idle_cell g c notes bytes =
    let s = c.args.self.now in
    let v = view s in
    let m : Memory = record { cells = c.args.blocks.now; notes = notes; bytes = bytes } in
    let p = c.args.input in
    let x = c.args.cell.now in
    let t = arrival_of c.args.ticket.now in
    let port : p < s.ports.number = omega (arith, c.if-input-ports.false, c.number-ports.ensures) in
    let blocks : length c.args.blocks.now ≡ s.ports.number * 16 = omega (arith, c.if-blocks-ports.false, c.number-ports.ensures) in
    let few : p < 8 = omega (arith, s.ports.eight, port) in
    let whole = c.in-Ok.ensures.1 in
    idles v m t p x port whole.long blocks (not-true (wrong v Arriving t) (sym c.fits.ensures ∙ c.if-not-fits.false)) (sym c.has.ensures ∙ c.if-has.false)
    (inside c.with-self.result) (ap is_idle (sym whole.same) ∙ sym c.is_idle_cell.ensures ∙ c.if-is_idle_cell.true) (inside-with s.used c.with-self.result p few c.with-self.ensures)

pub returns : goal.returns
returns g c notes bytes =
    let s = c.args.self.now in
    let v = view s in
    let m : Memory = record { cells = c.args.blocks.now; notes = notes; bytes = bytes } in
    let p = c.args.input in
    let x = c.args.cell.now in
    let t = arrival_of c.args.ticket.now in
    let port : p < s.ports.number = omega (arith, c.if-input-ports.false, c.number-ports.ensures) in
    let blocks : length c.args.blocks.now ≡ s.ports.number * 16 = omega (arith, c.if-blocks-ports.false, c.number-ports.ensures) in
    let whole = c.in-Ok.ensures.1 in
    looks_for_route v m t p x port whole.long blocks (not-true (wrong v Arriving t) (sym c.fits.ensures ∙ c.if-not-fits.false)) (sym c.has.ensures ∙ c.if-has.false)
    (ap is_idle (sym whole.same) ∙ sym c.is_idle_cell.ensures ∙ c.if-is_idle_cell.false)
    ∙ ap (λ (y : List ℕ). routed v m p y (v.tables.route p (vci_of y))) (sym whole.same) ∙ c.accept.ensures notes bytes

use Rattle.std.proofs.Common.{◌-◌, ◌+◌, ◌*◌, Result, ℕ, rules, set, subst, sym}
use borrow.Rule.Slice.PartMut.{put_mid}
use Rattle.refusals.specs.declared.refusal.Refusal.{Refusal}
use Rattle.refusals.specs.declared.refusal.Refusal.TheVariants.{InputFull}
use Rattle.switch.specs.Ready.{cells_of}
use Rattle.switch.specs.Seen.{Stores}
use Rattle.switch.proofs.Errors.{error-mapped}
use Rattle.switch.proofs.Middle.{store_is}
use Rattle.switch.proofs.state.arrivals.store.Goals as goal

pub returns : goal.returns
returns c =
    let i = c.args.input in
    let xs = c.args.blocks.now in
    subst (λ (r : Result ℕ Refusal). Stores (cells_of c.args.links.now) xs i c.args.queue c.args.block r (cells_of (set c.args.links.now i c.join.new.self)) (put_mid (i * 16) ((i * 16 + 16) - i * 16) xs c.join.new.blocks))
    (sym (error-mapped InputFull c.join.result c.map_err.result _ (λ e k gives. search rules) c.map_err.ensures.cases))
    (store_is c.args.links.now i c.index-links-input.result c.join.new.self xs c.join.new.blocks c.args.queue c.args.block c.join.result c.requires.links c.requires.queue c.requires.blocks c.join.ensures)

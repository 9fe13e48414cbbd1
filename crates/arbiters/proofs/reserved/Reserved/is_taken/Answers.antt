use Rattle.std.proofs.Common.{ℕ, Bool, not, ◌&&◌, eqb, refl, ◌∙◌, rules, tests}
use Rattle.std.proofs.lemmas.Iterator.{YieldsList-from_range}
use Rattle.std.proofs.lemmas.Iterator.Search.{any_from_yields_List}
use Rattle.pairs.specs.Tables.{holds}
use Rattle.arbiters.specs.Slots.{by_another}
use Rattle.arbiters.proofs.Ranges.{any-is-some}
use Rattle.arbiters.proofs.reserved.Reserved.is_taken.Goals as goal

pub returns : goal.returns
unfolding by_another
returns c =
    let taken : ℕ → Bool = λ j. not (eqb j c.args.input) && holds c.args.self.pairs j c.args.output in
    any_from_yields_List taken _ _ _ c.any.ensures.ran (YieldsList-from_range 0 8 8 refl refl) (λ x b q k. search (rules, tests)) ∙ any-is-some 8 taken

use Rattle.std.proofs.Common.{◌+◌, ◌/◌, ◌%◌, false, eqb, sym, refl, ap, ◌∙◌, arith}
use Rattle.std.proofs.lemmas.Bool.{ne_eqb}
use Rattle.pairs.specs.declared.table.TheConstants.{SUMS}
use Rattle.pairs.specs.Words.{word}
use Rattle.pairs.specs.Tables.{table_of}
use Rattle.pairs.proofs.Lists.{entry}
use Rattle.pairs.proofs.Tables.{made, table_of-ext}
use Rattle.pairs.proofs.table.Table.of_sum.Goals as goal

pub returns-in-Some : goal.returns-in-Some
unfolding table_of word
returns-in-Some c =
    let found = c.in-Some.ensures.lookup.3 in
    ap made (entry (λ n. word (λ k. eqb (k / 8 + k % 8) n) 64) SUMS refl found.0 (found.1 0))

pub returns-in-None : goal.returns-in-None
returns-in-None c =
    let past = c.in-None.ensures.lookup.3 in
    c.empty.ensures ∙ table_of-ext (λ _ _. false) (λ i o. eqb (i + o) c.args.total) (λ i o p q. sym (ne_eqb (i + o) c.args.total (omega arith)))

use Rattle.std.proofs.Common.{◌≡◌, ◌/◌, ◌%◌, true, ◌&&◌, ltb, sym, refl, ap, ◌∙◌, arith}
use Rattle.std.proofs.lemmas.Bool.{and_from, lt-ltb}
use Rattle.pairs.specs.declared.table.TheConstants.{SQUARES}
use Rattle.pairs.specs.Words.{word}
use Rattle.pairs.specs.Tables.{table_of}
use Rattle.pairs.proofs.Bits.{word-ext}
use Rattle.pairs.proofs.Lists.{entry}
use Rattle.pairs.proofs.Tables.{made}
use Rattle.pairs.proofs.table.Table.square.Goals as goal

all : 0xffffffffffffffff ≡ word (λ _. true) 64
unfolding word
all = refl

pub returns-in-Some : goal.returns-in-Some
unfolding table_of word
returns-in-Some c =
    let found = c.in-Some.ensures.lookup.3 in
    ap made (entry (λ n. word (λ k. ltb (k / 8) n && ltb (k % 8) n) 64) SQUARES refl found.0 (found.1 0))

pub returns-in-None : goal.returns-in-None
unfolding table_of
returns-in-None c =
    let past = c.in-None.ensures.lookup.3 in
    ap made
    (all ∙ word-ext (λ _. true) (λ k. ltb (k / 8) c.args.ports && ltb (k % 8) c.args.ports) 64
    (λ k h. sym (and_from _ _ (lt-ltb (k / 8) c.args.ports (omega arith)) (lt-ltb (k % 8) c.args.ports (omega arith)))))

use Rattle.std.proofs.Common.{◌≡◌, ℕ, ◌+◌, ◌%◌, ◌<◌, eqb, sym, ap, ◌∙◌, subst, arith}
use Rattle.std.proofs.lemmas.Nat.{mod_below}
use Rattle.pairs.specs.Tables.{holds, table_of, within}
use Rattle.pairs.proofs.Sizes.{none-held}
use Rattle.grants.specs.Diagonal.{diagonal_granted}
use Rattle.grants.proofs.Fronts.{Front, begin, finish, step, stop}
use Rattle.grants.proofs.decisions.diagonal_grants.Goals as goal

pub diagonals-init : goal.diagonals-init
diagonals-init c =
    begin (holds c.args.requests) c.number-n.result (c.args.turn % c.number-n.result) c.square-free.result c.empty-grants.result
    (omega arith) c.square-free.ensures c.empty-grants.ensures

pub diagonals-preserved : goal.diagonals-preserved
diagonals-preserved c =
    let n : ℕ = c.number-n.result in
    let turn : c.args.turn % n < n = mod_below c.args.turn n (omega arith) in
    step c.args.requests n (c.args.turn % n) (omega arith) turn c.diagonals.k (omega arith)
    c.diagonals.free c.diagonals.grants c.and-wanted.result c.of_sum.result c.of_sum-in-diagonals.result c.or-diagonal.result c.and-line.result
    c.crossing.result c.minus-free.result c.or-grants.result c.diagonals.invariant
    (c.of_sum.ensures ∙ ap (λ (s : ℕ). table_of (λ i o. eqb (i + o) s)) c.wrapped-sum.ensures)
    (c.of_sum-in-diagonals.ensures ∙ ap (λ (s : ℕ). table_of (λ i o. eqb (i + o) (s + n))) c.wrapped-sum.ensures)
    c.or-diagonal.ensures c.and-wanted.ensures c.and-line.ensures c.or-grants.ensures c.crossing.ensures c.minus-free.ensures

pub returns : goal.returns
returns c =
    let n : ℕ = c.number-n.result in
    let e : c.diagonals.k ≡ n = omega arith in
    subst (λ (m : ℕ). c.diagonals.grants ≡ table_of (within m (diagonal_granted (holds c.args.requests) m (c.args.turn % m)))) c.number-n.ensures
    (finish (holds c.args.requests) n (c.args.turn % n) c.diagonals.free c.diagonals.grants (mod_below c.args.turn n (omega arith))
    (subst (λ (m : ℕ). Front (holds c.args.requests) n (c.args.turn % n) m c.diagonals.free c.diagonals.grants) e c.diagonals.invariant))

pub returns-then-is_empty : goal.returns-then-is_empty
returns-then-is_empty c =
    let n : ℕ = c.number-n.result in
    subst (λ (m : ℕ). c.diagonals.grants ≡ table_of (within m (diagonal_granted (holds c.args.requests) m (c.args.turn % m)))) c.number-n.ensures
    (stop c.args.requests c.and-wanted.result n (c.args.turn % n) c.diagonals.k c.diagonals.free c.diagonals.grants (omega arith) c.diagonals.invariant
    c.and-wanted.ensures (none-held c.and-wanted.result (sym c.is_empty.ensures ∙ c.if-is_empty.true)))

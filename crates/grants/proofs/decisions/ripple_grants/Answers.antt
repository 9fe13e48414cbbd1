use Rattle.std.proofs.Common.{◌≡◌, ℕ, ◌+◌, ◌/◌, ◌%◌, ◌<◌, sym, ap, ◌∙◌, subst, subst₂, arith}
use Rattle.std.proofs.lemmas.Nat.{mod_below}
use Rattle.pairs.specs.declared.ports.Ports.{Ports}
use Rattle.pairs.specs.declared.table.Table.{Table}
use Rattle.pairs.specs.Tables.{added, holds, ports_of, table_of, within}
use Rattle.grants.specs.Ripple.{port, ripple_granted}
use Rattle.grants.proofs.Walks.{Walk, begin, finish, give, skip}
use Rattle.grants.proofs.decisions.ripple_grants.Goals as goal
use Rattle.grants.proofs.decisions.ripple_grants.Goals.{in-Some, in_default}

pub rows-init : goal.rows-init
rows-init c =
    let n : ℕ = c.number-n.result in
    begin (holds c.args.requests) n (c.args.turn / n % n) (c.args.turn % n) c.below-free.result c.empty-grants.result
    (omega arith) c.below-free.ensures c.empty-grants.ensures

pub rows-preserved : goal.rows-preserved
unfolding port
rows-preserved c =
    let n : ℕ = c.number-n.result in
    let a : ℕ = c.args.turn / n % n in
    let b : ℕ = c.args.turn % n in
    let row : a < n = mod_below (c.args.turn / n) n (omega arith) in
    let column : b < n = mod_below c.args.turn n (omega arith) in
    let input : c.wrapped-input.result ≡ (c.rows.u + a) % n = c.wrapped-input.ensures in
    let outputs : c.outputs.result ≡ ports_of (holds c.args.requests ((c.rows.u + a) % n)) =
    c.outputs.ensures ∙ ap (λ (i : ℕ). ports_of (holds c.args.requests i)) input in
    elim c.match-first_from.branch [
      | in-Some w ↦
          subst₂ (λ (f : Ports) (g : Table). Walk (holds c.args.requests) n a b (c.rows.u + 1) f g) (sym w.free-is) (sym w.grants-is)
          (give c.args.requests n a b (omega arith) row column c.rows.u (omega arith) c.and.result c.rows.free c.rows.grants c.rows.invariant
          c.outputs.result outputs c.and.ensures w.in-Some.output w.in-Some.ensures.0 w.in-Some.ensures.1
          w.without-free.result w.with-grants.result
          (w.with-grants.ensures ∙ ap (λ (i : ℕ). table_of (added (holds c.rows.grants) i w.in-Some.output)) input) w.without-free.ensures)
      | in_default w ↦
          subst₂ (λ (f : Ports) (g : Table). Walk (holds c.args.requests) n a b (c.rows.u + 1) f g) (sym w.free-is) (sym w.grants-is)
          (skip c.args.requests n a b (omega arith) row column c.rows.u (omega arith) c.and.result c.rows.free c.rows.grants c.rows.invariant
          c.outputs.result outputs c.and.ensures w.in_default.ensures)
    ]

pub returns : goal.returns
returns c =
    let n : ℕ = c.number-n.result in
    let e : c.rows.u ≡ n = omega arith in
    subst (λ (m : ℕ). c.rows.grants ≡ table_of (within m (ripple_granted (holds c.args.requests) m (c.args.turn / m % m) (c.args.turn % m)))) c.number-n.ensures
    (finish (holds c.args.requests) n (c.args.turn / n % n) (c.args.turn % n) c.rows.free c.rows.grants (mod_below (c.args.turn / n) n (omega arith))
    (subst (λ (m : ℕ). Walk (holds c.args.requests) n (c.args.turn / n % n) (c.args.turn % n) m c.rows.free c.rows.grants) e c.rows.invariant))

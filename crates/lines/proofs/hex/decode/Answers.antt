use Rattle.std.proofs.Common.{◌-◌, List, ℕ, length, subst, sym, ap, ◌∙◌, rules, Bor}
use Rattle.lines.specs.Frames.{decoded}
use Rattle.lines.proofs.Decoding.{Stage, AtPair, at-first, at-later, stage-next, stage-wrong}
use Rattle.lines.proofs.hex.decode.Goals as goal
use Rattle.lines.proofs.hex.decode.Goals.{then-is_empty, else-is_empty, Joined-is_empty}

at-pair : (c : Joined-is_empty) → AtPair (length c.loop-rest.bytes.items) (length c.args.line.now - length c.loop-rest.rest.now) c.loop-rest.rest.now c.if-is_empty.pair.now
at-pair c =
    let At : List ℕ → Type 0 = AtPair (length c.loop-rest.bytes.items) (length c.args.line.now - length c.loop-rest.rest.now) c.loop-rest.rest.now in
    elim c.if-is_empty.branch [
      | then-is_empty w ↦ subst At (sym (ap (λ (b : Bor (List ℕ)). b.now) w.pair-is)) (at-first _ _ _ (search rules) (search rules))
      | else-is_empty w ↦ subst At (sym (ap (λ (b : Bor (List ℕ)). b.now) w.pair-is ∙ w.past_space-pair.ensures)) (at-later _ _ _ (search rules) (search rules))
    ]

pub loop-rest-preserved : goal.loop-rest-preserved
loop-rest-preserved c =
    let p = at-pair (goal.at.loop-rest-preserved c).Joined-is_empty in
    subst (λ (xs : List ℕ). Stage c.args.line.now xs c.in-Ok.after.now) (sym c.push.ensures.items)
    (stage-next c.args.line.now c.loop-rest.bytes.items c.loop-rest.rest.now c.if-is_empty.pair.now c.in-Ok.byte c.in-Ok.after.now c.loop-rest.invariant p c.in-Ok.ensures.spelled)

pub returns-in-Err-clause-wrong : goal.returns-in-Err-clause-wrong
returns-in-Err-clause-wrong c =
    let p = at-pair (goal.at.returns-in-Err-clause-wrong c).Joined-is_empty in
    ap decoded (stage-wrong c.args.line.now c.loop-rest.bytes.items c.loop-rest.rest.now c.if-is_empty.pair.now c.in-Err.right c.loop-rest.invariant p c.in-Err.ensures.wrong)

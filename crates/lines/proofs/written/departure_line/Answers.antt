use Rattle.std.proofs.Common.{◌≡◌, ℕ, ◌*◌, length, drop, replicate, ap, ◌∙◌, arith}
use Rattle.lines.specs.Written.{written}
use Rattle.lines.proofs.Writing.{spelled-line}
use Rattle.lines.proofs.written.departure_line.Goals as goal

pub returns : goal.returns
returns c =
    let l : length c.departure_bytes.result ≡ 64 = omega arith in
    spelled-line c.departure_bytes.result (replicate 129 10) c.spell_into.new.line c.spell_into.result (omega arith) (ap (λ (k : ℕ). drop (2 * k) (replicate 129 10)) l) c.spell_into.ensures.used c.spell_into.ensures.line
    ∙ ap written c.departure_bytes.ensures

-- What `new` owes: the links are one list of all blocks, by rising number.
use Rattle.std.proofs.Common.{◌≡◌, ℕ, ◌+◌, ◌*◌, ◌^◌, ◌<◌, get_or, rules}
use Rattle.queues.proofs.Starting.{inside-start, apart-start, covered_start, ended-start, whole-start, view-start}
use Rattle.queues.proofs.links.Links.new.Goals as goal

pub invariant_of-result : goal.invariant_of-result
invariant_of-result g c =
    let n = c.from_fn.result in
    let last = c.saturating_sub.result in
    let up : (k : ℕ) → k < g.row.B → get_or n k 0 ≡ k + 1 = λ k l. let call = (c.from_fn.ensures.items.at k 0 l).2 in search rules in
    let f : g.row.B * 8 < 2 ^ 64 = search rules in
    record {
      addressed = f;
      inside = inside-start g.row.B last n up;
      apart = apart-start g.row.B last n up;
      covered = covered_start g.row.B last n up;
      ended = ended-start g.row.B last n up c.saturating_sub.ensures;
      whole = whole-start g.row.B last;
    }

pub returns : goal.returns
returns g c =
    let n = c.from_fn.result in
    let up : (k : ℕ) → k < g.row.B → get_or n k 0 ≡ k + 1 = λ k l. let call = (c.from_fn.ensures.items.at k 0 l).2 in search rules in
    view-start g.row.B c.saturating_sub.result n up

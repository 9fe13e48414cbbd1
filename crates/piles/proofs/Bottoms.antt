-- An arbiter with no reservation on it is a pile of depth 0.
use Rattle.std.proofs.Common.{◌≡◌, ℕ, ◌-◌, ◌≤◌, Bool, false, cond, leb, Some, None, Ok, Err, Result, sym, ap, ap₂, arith}
use Rattle.std.proofs.lemmas.Bool.{and_from, le-leb}
use Rattle.std.proofs.lemmas.Bool.Decides.{nat_tests}
use Rattle.refusals.specs.declared.refusal.Refusal.{Refusal}
use Rattle.refusals.specs.declared.refusal.Refusal.TheVariants.{PortCount}
use Rattle.grants.specs.declared.port_count.PortCount.{PortCount as Count}
use Rattle.arbiters.specs.declared.turning.Turning.{Turning}
use Rattle.arbiters.specs.Turning as turning
use Rattle.arbiters.specs.Wirings.{Wired}
use Rattle.piles.specs.Fits.{ports_fit}
use Rattle.piles.specs.Deep.{Made, deep_bound, refusal}

fit : (n : ℕ) (p : Count) (k : ℕ) → p.number ≡ n → refusal 0 n k ≡ None
fit n p k e =
    ap (λ (b : Bool). cond b None (Some PortCount)) (and_from (leb 2 n) (leb n 8) (le-leb 2 n (omega (arith, p.two))) (le-leb n 8 (omega (arith, p.eight))))

unfit : (n k : ℕ) (e : Refusal) → (2 ≤ n → n ≤ 8 → ⊥) → e ≡ PortCount → refusal 0 n k ≡ Some e
unfit n k e h w = ap₂ (λ (b : Bool) (x : Refusal). cond b None (Some x)) no-fit (sym w)
  where
    no-fit : ports_fit n ≡ false
    no-fit = grind (arith, nat_tests)

pub turning-made : {W : Type 0} (w : Wired) (n k : ℕ) (r : Result (Turning W) Refusal) → turning.Made n r
    → Made 0 n k (w.turns n - 1) (λ (s : Turning W). (s.ports.number ≡ n) × (s.turn ≡ 0)) (turning.turning {W = W} w).bound r
unfolding deep_bound
turning-made w n k (Ok s) m = (fit n s.ports k m.0, m, ap (λ (x : ℕ). w.turns x - 1) m.0)
turning-made w n k (Err e) m = unfit n k e m.0 m.1

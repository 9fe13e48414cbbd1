-- An arbiter that was just made is the one that the definition names.
use Rattle.std.proofs.Common.{◌≡◌, ℕ, ◌≤◌, Ok, refl, sym, subst}
use native.Mathlib.Bridge.{le_prop}
use native.Mathlib.Decide.{dec_le}
use Rattle.arbiters.specs.declared.turning.Turning.{Turning}
use Rattle.arbiters.specs.Kinds.{Diagonal, Ripple, diagonals, ripples, counted, counted_by}
use Rattle.arbiters.specs.Turning.{Made, unturned}
use Rattle.grants.specs.declared.port_count.PortCount.{PortCount}
use Rattle.lines.specs.declared.frame.ArbiterKind.TheVariants.{Diagonal as DiagonalKind, Ripple as RippleKind}
use Rattle.machine.specs.Standing.{Standing, starting}
use Rattle.player.specs.Playing.{on_diagonal, on_ripple, with_ports}

-- a port count is counted as it is
counted-by : (c : PortCount) (p : Dec (2 ≤ c.number)) (q : Dec (c.number ≤ 8)) → counted_by c.number p q ≡ Ok c
counted-by c (yes p) (yes q) = rw (le_prop p c.two, le_prop q c.eight)
counted-by c (yes p) (no q) = absurd (q c.eight)
counted-by c (no p) q = absurd (p c.two)

is-counted : (n : ℕ) (c : PortCount) → c.number ≡ n → counted n ≡ Ok c
is-counted n c e = subst (λ (k : ℕ). counted k ≡ Ok c) e (counted-by c (dec_le 2 c.number) (dec_le c.number 8))

as-made : {W : Type 0} (n : ℕ) (d : Turning W) → Made n (Ok d) → d ≡ unturned d.ports
as-made n d made = rw made.1 refl

module _ (n mark first : ℕ) where
  pub on-diagonal : (d : Diagonal) (s : Standing Diagonal) → Made n (Ok d) → s ≡ starting diagonals d mark first → with_ports DiagonalKind (counted n) mark first ≡ Ok (on_diagonal s)
  on-diagonal d s made e = rw (is-counted n d.ports made.0, e, sym (as-made n d made)) refl

  pub on-ripple : (d : Ripple) (s : Standing Ripple) → Made n (Ok d) → s ≡ starting ripples d mark first → with_ports RippleKind (counted n) mark first ≡ Ok (on_ripple s)
  on-ripple d s made e = rw (is-counted n d.ports made.0, e, sym (as-made n d made)) refl

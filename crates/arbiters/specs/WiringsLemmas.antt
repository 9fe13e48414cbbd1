-- The two wirings have what is asked.
use Rattle.std.specs.Prelude.{◌≡◌, ℕ, ◌+◌, ◌*◌, ◌/◌, ◌%◌, ◌<◌, ◌≤◌, Bool}
use Rattle.std.proofs.Common.{sym, ap, ◌∙◌, mul-le-mul, arith}
use Rattle.std.proofs.Math.Arith.{mod-mul}
use Rattle.std.proofs.Math.Nat.{mod-mod, mod-mod_of_dvd, dvd-mul_right}
use Rattle.std.proofs.lemmas.Nat.{div-mul-add, mod_below}
use Rattle.grants.specs.Diagonal.{diagonal_granted, diagonal_wait}
use Rattle.grants.specs.Ripple.{ripple_granted, ripple_wait}
use Rattle.grants.proofs.Decided.{Decided}
use Rattle.grants.proofs.Diagonals as diagonals
use Rattle.grants.proofs.Modulo as modulo
use Rattle.grants.proofs.Rows as rows
use Rattle.arbiters.specs.Wirings.{WellWired, next_turn, diagonal, ripple}

pub diagonal-well : WellWired diagonal
diagonal-well =
    record {
      some = λ n two. omega (arith, two);
      waits = λ n t i o two. modulo.wait-lt n (t % n) (mod_below t n (omega (arith, two))) i o;
      decided = decided;
    }
  where
    decided : (R : ℕ → ℕ → Bool) (n t : ℕ) → 2 ≤ n → Decided n R (diagonal_granted R n (t % n)) (diagonal_wait n (t % n)) (diagonal_wait n (next_turn diagonal n t % n))
    decided R n t two = rw (mod-mod (t % n + 1) n) (diagonals.decided R n (t % n) (mod_below t n (omega (arith, two))))

-- there is a pair
some_pair : (n : ℕ) → 2 ≤ n → 0 < n * n
some_pair n two = omega (arith, mul-le-mul two two)

-- the row and the column of a turn that is reduced to the number of the pairs
reduced-row : (n t : ℕ) → 2 ≤ n → t % (n * n) / n ≡ t / n % n
reduced-row n t two =
    ap (λ (x : ℕ). x / n) (mod-mul t (omega (arith, two)) (omega (arith, two))) ∙ div-mul-add (t / n % n) n (t % n) (mod_below t n (omega (arith, two)))

reduced-column : (n t : ℕ) → t % (n * n) % n ≡ t % n
reduced-column n t = mod-mod_of_dvd n t (dvd-mul_right n n)

pub ripple-well : WellWired ripple
ripple-well =
    record {
      some = some_pair;
      waits = λ n t i o two. rows.wait-lt n (t % (n * n)) (mod_below t (n * n) (some_pair n two)) i o;
      decided = decided;
    }
  where
    decided : (R : ℕ → ℕ → Bool) (n t : ℕ) → 2 ≤ n
        → Decided n R (ripple_granted R n (t / n % n) (t % n)) (ripple_wait n (t % (n * n))) (ripple_wait n (next_turn ripple n t % (n * n)))
    decided R n t two =
        rw (sym (reduced-row n t two), sym (reduced-column n t), mod-mod (t % (n * n) + 1) (n * n)) (rows.decided n (t % (n * n)) (mod_below t (n * n) (some_pair n two)) R)

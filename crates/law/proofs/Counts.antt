-- How often a pair and a block stand in a list.
use Rattle.std.proofs.Common.{◌≡◌, ℕ, zero, suc, ◌+◌, ◌<◌, ◌≤◌, Bool, cond, eqb, List, [], ◌∷◌, ◌++◌, map, refl, ap, ap₂, inl, inr, arith}
use Rattle.std.proofs.lemmas.Bool.{eq-eqb, ne_eqb, cases_eq}
use Rattle.std.proofs.lemmas.Bool.Decides.{nat_tests}
use Rattle.std.specs.List.{range_with_len}
use Rattle.law.specs.History.{both, with_input, with_output}

abbrev pub times : ℕ → ℕ → List (ℕ × ℕ) → ℕ
times i o [] = 0
times i o (x ∷ xs) = cond (both i o x.0 x.1) 1 0 + times i o xs

pub times-append : (i o : ℕ) (xs ys : List (ℕ × ℕ)) → times i o (xs ++ ys) ≡ times i o xs + times i o ys
times-append i o [] ys = omega arith
times-append i o (x ∷ xs) ys = omega (arith, times-append i o xs ys)

pub times-input : (i o : ℕ) (xs : List (ℕ × ℕ)) → times i o xs ≤ with_input i xs
times-input i o [] = omega arith
times-input i o (x ∷ xs) = let r = times-input i o xs in grind (arith, nat_tests)

pub times-output : (i o : ℕ) (xs : List (ℕ × ℕ)) → times i o xs ≤ with_output o xs
times-output i o [] = omega arith
times-output i o (x ∷ xs) = let r = times-output i o xs in grind (arith, nat_tests)

pub input-append : (i : ℕ) (xs ys : List (ℕ × ℕ)) → with_input i (xs ++ ys) ≡ with_input i xs + with_input i ys
input-append i [] ys = omega arith
input-append i (x ∷ xs) ys = omega (arith, input-append i xs ys)

pub output-append : (o : ℕ) (xs ys : List (ℕ × ℕ)) → with_output o (xs ++ ys) ≡ with_output o xs + with_output o ys
output-append o [] ys = omega arith
output-append o (x ∷ xs) ys = omega (arith, output-append o xs ys)

abbrev pub count : ℕ → List ℕ → ℕ
count b [] = 0
count b (x ∷ xs) = cond (eqb b x) 1 0 + count b xs

pub count-append : (b : ℕ) (xs ys : List ℕ) → count b (xs ++ ys) ≡ count b xs + count b ys
count-append b [] ys = omega arith
count-append b (x ∷ xs) ys = omega (arith, count-append b xs ys)

pub count-first : (b : ℕ) (xs : List ℕ) → 1 ≤ count b (b ∷ xs)
count-first b xs = omega (arith, ap (λ (f : Bool). cond {A = ℕ} f 1 0) (eq-eqb b b refl))

pub map_same : {Y : Type 0} (f g : ℕ → Y) (l : List ℕ) → ((b : ℕ) → 1 ≤ count b l → f b ≡ g b) → map f l ≡ map g l
map_same f g [] same = refl
map_same f g (x ∷ l) same =
    let one : ◌≡◌ {A = ℕ} (cond (eqb x x) 1 0) 1 = ap (λ (b : Bool). cond {A = ℕ} b 1 0) (eq-eqb x x refl) in
    ap₂ (λ y ys. y ∷ ys) (same x (omega arith)) (map_same f g l (λ b c. same b (omega arith)))

count_past : (a n b : ℕ) → b < a → count b (range_with_len a n) ≡ 0
count_past a zero b l = refl
count_past a (suc n) b l = omega (arith, count_past (a + 1) n b (omega arith), ap (λ (x : Bool). cond {A = ℕ} x 1 0) (ne_eqb b a (omega arith)))

pub count-counting : (a n b : ℕ) → (count b (range_with_len a n) ≤ 1) × (1 ≤ count b (range_with_len a n) → b < a + n)
count-counting a zero b = (omega arith, λ l. absurd (omega arith))
count-counting a (suc n) b = elim (cases_eq b a) [
  | inl e ↦
      let z = count_past (a + 1) n b (omega arith) in
      let o = ap (λ (x : Bool). cond {A = ℕ} x 1 0) (eq-eqb b a e) in
      (omega (arith, z, o), λ l. omega arith)
  | inr e ↦
      let r = count-counting (a + 1) n b in
      let o = ap (λ (x : Bool). cond {A = ℕ} x 1 0) (ne_eqb b a e) in
      (omega (arith, r.0, o), λ l. let z = r.1 (omega (arith, o)) in omega arith)
]

-- The search for the first 0A, and what is kept of a line.
use Rattle.std.proofs.Common.{◌≡◌, ℕ, zero, suc, ◌+◌, ◌<◌, ◌≤◌, true, false, eqb, List, [], ◌∷◌, ◌++◌, length, get_or, take, drop, min, Some, None, sym, refl, ap, ◌∙◌, inl, inr, arith}
use Rattle.std.proofs.lemmas.List.{drop_more, drop_all, take_all}
use Rattle.std.proofs.lemmas.Bool.{ne_eqb, eq-eqb, eqb-true, cases_lt}
use Rattle.std.proofs.Math.Seq.{take-append-add}
use Rattle.lines.specs.Lines.{up_to}
use Rattle.memchr.specs.Find.{IsFirstByte, is_byte}

pub up_to-other : (b : ℕ) (xs : List ℕ) → (b ≡ 10 → ⊥) → up_to (b ∷ xs) ≡ b ∷ up_to xs
unfolding up_to
up_to-other b xs h = let e : eqb b 10 ≡ false = ne_eqb b 10 h in rw e

pub up_to-end : (b : ℕ) (xs : List ℕ) → b ≡ 10 → up_to (b ∷ xs) ≡ []
unfolding up_to
up_to-end b xs h = let e : eqb b 10 ≡ true = eq-eqb b 10 h in rw e

pub up_to-none : up_to [] ≡ []
unfolding up_to
up_to-none = refl

-- none of the first k bytes is 0A
skipped : (xs : List ℕ) (k : ℕ) → k ≤ length xs → ((j : ℕ) → j < k → get_or xs j 0 ≡ 10 → ⊥) → length (up_to xs) ≡ k + length (up_to (drop k xs))
skipped xs zero h none = omega arith
skipped [] (suc k) h none = absurd (omega arith)
skipped (b ∷ xs) (suc k) h none =
    let e : length (up_to (b ∷ xs)) ≡ suc (length (up_to xs)) = ap length (up_to-other b xs (none 0 (omega arith))) in
    let r : length (up_to xs) ≡ k + length (up_to (drop k xs)) = skipped xs k (omega arith) (λ j l. none (suc j) (omega arith)) in
    omega arith

-- what the search for 0A finds
pub at_feed : (xs : List ℕ) (n : ℕ) → IsFirstByte (is_byte 10) xs (Some n) → (n ≡ length (up_to xs)) × (n < length xs)
at_feed xs n f =
    let l : n < length xs = f.0.high in
    let s = skipped xs n (omega arith) (λ j m e. f.0.before j (omega arith) m (eq-eqb _ 10 e)) in
    let e : length (up_to (drop n xs)) ≡ 0 = ap (λ (zs : List ℕ). length (up_to zs)) (drop_more xs n 0 l) ∙ ap length (up_to-end (get_or xs n 0) (drop (n + 1) xs) (eqb-true _ 10 f.1)) in
    (omega arith, l)

pub no_feed : (xs : List ℕ) → IsFirstByte (is_byte 10) xs None → length xs ≡ length (up_to xs)
no_feed xs f =
    let s = skipped xs (length xs) (omega arith) (λ j m e. f j (omega arith) m (eq-eqb _ 10 e)) in
    let e : length (up_to (drop (length xs) xs)) ≡ 0 = ap (λ (zs : List ℕ). length (up_to zs)) (drop_all (length xs) xs (omega arith)) ∙ ap length up_to-none in
    omega arith

-- the bytes up to the first 0A are the front of that length
pub up_to-take : (xs : List ℕ) → take (length (up_to xs)) xs ≡ up_to xs
unfolding up_to
up_to-take [] = refl
up_to-take (b ∷ xs) =
    elim (eqb b 10) as (λ v. take (length (mathlib.Core.Bool.cond v [] (b ∷ up_to xs))) (b ∷ xs) ≡ mathlib.Core.Bool.cond v [] (b ∷ up_to xs))
    [ true ↦ refl | false ↦ ap (λ (zs : List ℕ). b ∷ zs) (up_to-take xs) ]

-- what was cut off does not matter to a front
pub take-take-append : (n : ℕ) (xs ys : List ℕ) → take n (take n xs ++ ys) ≡ take n (xs ++ ys)
take-take-append zero xs ys = refl
take-take-append (suc n) [] ys = refl
take-take-append (suc n) (x ∷ xs) ys = ap (λ (zs : List ℕ). x ∷ zs) (take-take-append n xs ys)

-- what there is room for is what a front of 201 keeps
pub keeps : (held part : List ℕ) (room : ℕ) → room + length held ≡ 201 → held ++ take (min (length part) room) part ≡ take 201 (held ++ part)
keeps held part room h =
    let e : length held + room ≡ 201 = omega arith in
    let t : take (min (length part) room) part ≡ take room part
    = elim (cases_lt room (length part)) [
      | inl l ↦ ap (λ (k : ℕ). take k part) (omega arith)
      | inr l ↦ take_all (min (length part) room) part (omega arith) ∙ sym (take_all room part (omega arith))
    ] in
    ap (λ (zs : List ℕ). held ++ zs) t ∙ sym (take-append-add held part room) ∙ ap (λ (k : ℕ). take k (held ++ part)) e

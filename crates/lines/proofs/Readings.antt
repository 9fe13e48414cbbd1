-- A line is read just where it spells bytes.
use Rattle.std.proofs.Common.{◌≡◌, ℕ, ◌+◌, ◌*◌, ◌<◌, eqb, List, [], ◌∷◌, Ok, Err, Result, sym, refl, ap, ◌∙◌, subst, inl, inr, arith}
use Rattle.std.proofs.lemmas.Bool.{ltb-true, eqb-true, cases_Bool}
use Rattle.lines.specs.Hex.{digit, is_digit, front, pair, pairs, hex}
use Rattle.lines.specs.Spelled.{Pairs, one, next, spaced, Spelled, nothing, pairs_of, OneReading}
use Rattle.lines.proofs.Decoding.{one-pair, from-digit, from, is_dig}

from-pairs : (p : ℕ) (line xs : List ℕ) → Pairs line xs → from 1 p line ≡ pairs p line
from-pairs p line xs (one a b d e) = from-digit 1 p a (b ∷ []) (omega arith)
from-pairs p line xs (next a b rest ys d e r) = from-digit 1 p a (b ∷ rest) (omega arith)
from-pairs p line xs (spaced a b rest ys d e r) = from-digit 1 p a (b ∷ 32 ∷ rest) (omega arith)

read : (p : ℕ) (line xs : List ℕ) → Pairs line xs → pairs p line ≡ Ok xs
read p line xs (one a b d e) = one-pair 1 p a b [] (omega arith) (is_dig a (omega arith)) (is_dig b (omega arith))
read p line xs (next a b rest ys d e r) =
    one-pair 1 p a b rest (omega arith) (is_dig a (omega arith)) (is_dig b (omega arith))
    ∙ ap (front (16 * digit a + digit b)) (from-pairs (p + 2) rest ys r ∙ read (p + 2) rest ys r)
read p line xs (spaced a b rest ys d e r) =
    one-pair 1 p a b (32 ∷ rest) (omega arith) (is_dig a (omega arith)) (is_dig b (omega arith))
    ∙ ap (front (16 * digit a + digit b)) (read (p + 2 + 1) rest ys r)

pub never : (p : ℕ) (xs : List ℕ) → ◌≡◌ {A = Result (List ℕ) ℕ} (Err p) (Ok xs) → ⊥
never p xs e = let z : ◌≡◌ {A = ℕ} 0 1 = cc in omega arith

same : (xs ys : List ℕ) → ◌≡◌ {A = Result (List ℕ) ℕ} (Ok xs) (Ok ys) → xs ≡ ys
same xs ys e = cc

front-ok : (x : ℕ) (r : Result (List ℕ) ℕ) (xs : List ℕ) → front x r ≡ Ok xs → (ys : List ℕ) × ((r ≡ Ok ys) × (x ∷ ys ≡ xs))
front-ok x (Ok ys) xs e = (ys, (refl, same (x ∷ ys) xs e))
front-ok x (Err p) xs e = absurd (never p xs e)

pair_ok : (p a b : ℕ) (r : Result (List ℕ) ℕ) (xs : List ℕ) → pair p a b r ≡ Ok xs →
    ((digit a < 16) × (digit b < 16)) × ((ys : List ℕ) × ((r ≡ Ok ys) × ((16 * digit a + digit b) ∷ ys ≡ xs)))
pair_ok p a b r xs e =
    elim (cases_Bool (is_digit a)) [
      | inr h ↦ absurd (never p xs (rw h at e))
      | inl h ↦
          elim (cases_Bool (is_digit b)) [
            | inr k ↦ absurd (never (p + 1) xs (rw (h, k) at e))
            | inl k ↦ ((ltb-true (digit a) 16 h, ltb-true (digit b) 16 k), front-ok (16 * digit a + digit b) r xs (rw (h, k) at e))
          ]
    ]

unread : (p : ℕ) (line xs : List ℕ) → pairs p line ≡ Ok xs → Pairs line xs
unfolding pairs
unread p [] xs e = absurd (never p xs e)
unread p (a ∷ []) xs e =
    elim (cases_Bool (is_digit a)) [ inl h ↦ absurd (never (p + 1) xs (rw h at e)) | inr h ↦ absurd (never p xs (rw h at e)) ]
unread p (a ∷ b ∷ []) xs e =
    let q = pair_ok p a b (Ok []) xs e in
    let z : [] ≡ q.1.0 = same [] q.1.0 q.1.1.0 in
    subst (Pairs (a ∷ b ∷ [])) (ap (λ (ys : List ℕ). (16 * digit a + digit b) ∷ ys) z ∙ q.1.1.1) (one a b q.0.0 q.0.1)
unread p (a ∷ b ∷ c ∷ rest) xs e =
    elim (cases_Bool (eqb c 32)) [
      | inl s ↦
          let q = pair_ok p a b (pairs (p + 3) rest) xs (rw s at e) in
          subst (λ (k : ℕ). Pairs (a ∷ b ∷ k ∷ rest) xs) (sym (eqb-true c 32 s))
          (subst (Pairs (a ∷ b ∷ 32 ∷ rest)) q.1.1.1 (spaced a b rest q.1.0 q.0.0 q.0.1 (unread (p + 3) rest q.1.0 q.1.1.0)))
      | inr s ↦
          let q = pair_ok p a b (pairs (p + 2) (c ∷ rest)) xs (rw s at e) in
          subst (Pairs (a ∷ b ∷ c ∷ rest)) q.1.1.1 (next a b (c ∷ rest) q.1.0 q.0.0 q.0.1 (unread (p + 2) (c ∷ rest) q.1.0 q.1.1.0))
    ]

hex-pairs : (line xs : List ℕ) → Pairs line xs → hex line ≡ Ok xs
hex-pairs line xs (one a b d e) = read 0 (a ∷ b ∷ []) _ (one a b d e)
hex-pairs line xs (next a b rest ys d e r) = read 0 (a ∷ b ∷ rest) _ (next a b rest ys d e r)
hex-pairs line xs (spaced a b rest ys d e r) = read 0 (a ∷ b ∷ 32 ∷ rest) _ (spaced a b rest ys d e r)

there : (line xs : List ℕ) → Spelled line xs → hex line ≡ Ok xs
there line xs nothing = refl
there line xs (pairs_of l ys r) = hex-pairs l ys r

back : (line xs : List ℕ) → hex line ≡ Ok xs → Spelled line xs
back [] xs e = subst (Spelled []) (same [] xs e) nothing
back (a ∷ line) xs e = pairs_of (a ∷ line) xs (unread 0 (a ∷ line) xs e)

pub one_reading : OneReading
one_reading = (there, back)

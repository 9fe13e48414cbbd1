-- One turn of the decoder.
use Rattle.std.proofs.Common.{◌≡◌, ℕ, ◌+◌, ◌-◌, ◌*◌, ◌<◌, ◌≤◌, true, false, cond, ◌&&◌, eqb, ltb, List, [], ◌∷◌, ◌++◌, length, Some, None, Ok, Err, Result, sym, refl, ap, ◌∙◌, ap₂, inl, inr, append_assoc, append-nil, arith}
use Rattle.std.proofs.lemmas.List.{length-append}
use Rattle.std.proofs.lemmas.Bool.{lt-ltb, le-ltb, ne_eqb, cases_eq, cases_Bool, and_right}
use Rattle.lines.specs.Hex.{digit, is_digit, front, pairs, hex, value, past_space, first_pair}

pub not-both : {T E : Type 0} (x : T) (r : E) → ◌≡◌ {A = Result T E} (Ok x) (Err r) → ⊥
not-both x r e = let z : ◌≡◌ {A = ℕ} 0 1 = cc in omega arith

pub same-value : {T E : Type 0} (x y : T) → ◌≡◌ {A = Result T E} (Ok x) (Ok y) → x ≡ y
same-value x y e = cc

pub same-error : {T E : Type 0} (x y : E) → ◌≡◌ {A = Result T E} (Err x) (Err y) → x ≡ y
same-error x y e = cc

-- what was decoded before goes before what is left
abbrev pub before : List ℕ → Result (List ℕ) ℕ → Result (List ℕ) ℕ
before xs (Ok ys) = Ok (xs ++ ys)
before xs (Err p) = Err p

before-front : (xs : List ℕ) (y : ℕ) (r : Result (List ℕ) ℕ) → before xs (front y r) ≡ before (xs ++ y ∷ []) r
before-front xs y (Ok ys) = ap Ok (sym (append_assoc xs (y ∷ []) ys))
before-front xs y (Err p) = refl

before-none : (r : Result (List ℕ) ℕ) → before [] r ≡ r
before-none (Ok ys) = refl
before-none (Err p) = refl

-- what is left from the place p on, after n pairs: the end, or a pair, and after a pair one space before it
abbrev pub from : ℕ → ℕ → List ℕ → Result (List ℕ) ℕ
from n p [] = Ok []
from n p (c ∷ rest) = cond (ltb 0 n && eqb c 32) (pairs (p + 1) rest) (pairs p (c ∷ rest))

pub start : (xs : List ℕ) → before [] (from 0 0 xs) ≡ hex xs
start [] = refl
start (x ∷ xs) = before-none (pairs 0 (x ∷ xs))

pub wrong : (p a : ℕ) (rest : List ℕ) → is_digit a ≡ false → pairs p (a ∷ rest) ≡ Err p
unfolding pairs
wrong p a [] e = rw e
wrong p a (b ∷ []) e = rw e
wrong p a (b ∷ c ∷ rest) e = rw e

pub wrong-low : (p a b : ℕ) (rest : List ℕ) → is_digit a ≡ true → is_digit b ≡ false → pairs p (a ∷ b ∷ rest) ≡ Err (p + 1)
unfolding pairs
wrong-low p a b [] e f = rw (e, f)
wrong-low p a b (c ∷ rest) e f = rw (e, f)

no-low : (p a : ℕ) → is_digit a ≡ true → pairs p (a ∷ []) ≡ Err (p + 1)
unfolding pairs
no-low p a e = rw e

pub one-pair : (n p a b : ℕ) (rest : List ℕ) → 0 < n → is_digit a ≡ true → is_digit b ≡ true →
    pairs p (a ∷ b ∷ rest) ≡ front (16 * digit a + digit b) (from n (p + 2) rest)
unfolding pairs
one-pair n p a b [] h e f = rw (e, f)
one-pair n p a b (c ∷ rest) h e f =
    let z : ltb 0 n ≡ true = lt-ltb 0 n h in
    let q : p + 2 + 1 ≡ p + 3 = omega arith in
    rw (e, f, z, q)

none : (p : ℕ) → pairs p [] ≡ Err p
unfolding pairs
none p = refl

pub is_dig : (a : ℕ) → digit a ≤ 15 → is_digit a ≡ true
is_dig a h = lt-ltb (digit a) 16 (omega arith)

-- a space is no digit
space : (a : ℕ) → digit a ≤ 15 → eqb a 32 ≡ false
unfolding digit
space a h = elim (cases_eq a 32) [ inl e ↦ let z : digit a ≡ 16 = ap digit e in absurd (omega arith) | inr e ↦ ne_eqb a 32 e ]

pub from-digit : (n p a : ℕ) (rest : List ℕ) → digit a ≤ 15 → from n p (a ∷ rest) ≡ pairs p (a ∷ rest)
from-digit n p a rest d = let e : (ltb 0 n && eqb a 32) ≡ false = and_right (ltb 0 n) (eqb a 32) (space a d) in rw e

-- a digit by the value that the table has for it
pub some-value : (b v : ℕ) → v ≡ digit b → v < 16 → Some v ≡ value b
some-value b v e h = let d : is_digit b ≡ true = lt-ltb (digit b) 16 (omega arith) in rw d (ap Some e)

pub no-value : (b v : ℕ) → v ≡ digit b → 16 ≤ v → None ≡ value b
no-value b v e h = let d : is_digit b ≡ false = le-ltb (digit b) 16 (omega arith) in rw d refl

at-start : (p k : ℕ) → ◌≡◌ {A = Result (ℕ × List ℕ) ℕ} (Err 0) (Err k) → p ≡ p + k
at-start p k e = let z : 0 ≡ k = same-error 0 k e in omega arith

-- the first pair tells how the pairs go on
after-wrong : (p k : ℕ) (xs : List ℕ) → first_pair xs ≡ Err k → pairs p xs ≡ Err (p + k)
after-wrong p k [] e = none p ∙ ap Err (at-start p k e)
after-wrong p k (a ∷ []) e =
    elim (cases_Bool (is_digit a)) [
      | inl d ↦ no-low p a d ∙ ap (λ (j : ℕ). Err (p + j)) (same-error 1 k (rw d at e))
      | inr d ↦ wrong p a [] d ∙ ap Err (at-start p k (rw d at e))
    ]
after-wrong p k (a ∷ b ∷ rest) e =
    elim (cases_Bool (is_digit a)) [
      | inl d ↦
          elim (cases_Bool (is_digit b)) [
            | inl f ↦ absurd (not-both _ k (rw (d, f) at e))
            | inr f ↦ wrong-low p a b rest d f ∙ ap (λ (j : ℕ). Err (p + j)) (same-error 1 k (rw (d, f) at e))
          ]
      | inr d ↦ wrong p a (b ∷ rest) d ∙ ap Err (at-start p k (rw d at e))
    ]

record Begins (p n x : ℕ) (after xs : List ℕ) : Type 0 where
  pub two : length xs ≡ length after + 2
  pub pairs : pairs p xs ≡ front x (from (n + 1) (p + 2) after)

after-pair : (p n x : ℕ) (after xs : List ℕ) → first_pair xs ≡ Ok (x, after) → Begins p n x after xs
after-pair p n x after [] e = absurd (not-both _ 0 (sym e))
after-pair p n x after (a ∷ []) e =
    elim (cases_Bool (is_digit a)) [ inl d ↦ absurd (not-both _ 1 (sym (rw d at e))) | inr d ↦ absurd (not-both _ 0 (sym (rw d at e))) ]
after-pair p n x after (a ∷ b ∷ rest) e =
    elim (cases_Bool (is_digit a)) [
      | inl d ↦
          elim (cases_Bool (is_digit b)) [
            | inl f ↦
                let q : (16 * digit a + digit b, rest) ≡ (x, after) = same-value _ _ (rw (d, f) at e) in
                let r : rest ≡ after = ap (λ (y : ℕ × List ℕ). y.1) q in
                let l : length rest ≡ length after = ap length r in
                record {
                  two = omega arith;
                  pairs = one-pair (n + 1) p a b rest (omega arith) d f ∙ ap₂ (λ (y : ℕ) (ys : List ℕ). front y (from (n + 1) (p + 2) ys)) (ap (λ (y : ℕ × List ℕ). y.0) q) r;
                }
            | inr f ↦ absurd (not-both _ 1 (sym (rw (d, f) at e)))
          ]
      | inr d ↦ absurd (not-both _ 0 (sym (rw d at e)))
    ]

-- where a pair begins: past a space, if one pair or more came before
pub record AtPair (n p : ℕ) (rest pair : List ℕ) : Type 0 where
  pub short : length pair ≤ length rest
  pub left : from n p rest ≡ pairs (p + (length rest - length pair)) pair

pub at-first : (n p : ℕ) (rest : List ℕ) → n ≡ 0 → 0 < length rest → AtPair n p rest rest
at-first n p [] z h = absurd (omega arith)
at-first n p (c ∷ rest) z h =
    let l : ltb 0 n ≡ false = le-ltb 0 n (omega arith) in
    let q : p ≡ p + (length (c ∷ rest) - length (c ∷ rest)) = omega arith in
    record { short = omega arith; left = rw l (ap (λ (k : ℕ). pairs k (c ∷ rest)) q) }

pub at-later : (n p : ℕ) (rest : List ℕ) → 0 < n → 0 < length rest → AtPair n p rest (past_space rest)
at-later n p [] z h = absurd (omega arith)
at-later n p (c ∷ rest) z h =
    let l : ltb 0 n ≡ true = lt-ltb 0 n z in
    elim (cases_Bool (eqb c 32)) [
      | inl e ↦
          let q : p + 1 ≡ p + (length (c ∷ rest) - length rest) = omega arith in
          rw e record { short = omega arith; left = rw (l, e) (ap (λ (k : ℕ). pairs k rest) q) }
      | inr e ↦
          let q : p ≡ p + (length (c ∷ rest) - length (c ∷ rest)) = omega arith in
          rw e record { short = omega arith; left = rw (l, e) (ap (λ (k : ℕ). pairs k (c ∷ rest)) q) }
    ]

-- what was decoded, and what is left of the line
pub record Stage (line bytes rest : List ℕ) : Type 0 where
  pub room : 2 * length bytes + length rest ≤ length line
  pub left : before bytes (from (length bytes) (length line - length rest) rest) ≡ hex line

pub stage-first : (line : List ℕ) → Stage line [] line
stage-first line =
    let z : length line - length line ≡ 0 = omega arith in
    record { room = omega arith; left = ap (λ (k : ℕ). before [] (from 0 k line)) z ∙ start line }

pub stage-last : (line bytes rest : List ℕ) → length rest ≡ 0 → Stage line bytes rest → hex line ≡ Ok bytes
stage-last line bytes [] h s = sym s.left ∙ ap Ok (append-nil bytes)
stage-last line bytes (c ∷ rest) h s = absurd (omega arith)

module _ (line bytes rest pair : List ℕ) where
  pub stage-next : (x : ℕ) (after : List ℕ) → Stage line bytes rest → AtPair (length bytes) (length line - length rest) rest pair → first_pair pair ≡ Ok (x, after) → Stage line (bytes ++ x ∷ []) after
  stage-next x after s a e =
      let p : ℕ = length line - length rest + (length rest - length pair) in
      let b = after-pair p (length bytes) x after pair e in
      let n : length (bytes ++ x ∷ []) ≡ length bytes + 1 = length-append bytes (x ∷ []) in
      let q : length line - length after ≡ p + 2 = omega (arith, s.room, a.short, b.two) in
      record {
        room = omega (arith, s.room, a.short, b.two, n);
        left = ap₂ (λ (k i : ℕ). before (bytes ++ x ∷ []) (from k i after)) n q
            ∙ sym (before-front bytes x (from (length bytes + 1) (p + 2) after))
            ∙ ap (before bytes) (sym b.pairs ∙ sym a.left)
            ∙ s.left;
      }

  pub stage-wrong : (k : ℕ) → Stage line bytes rest → AtPair (length bytes) (length line - length rest) rest pair → first_pair pair ≡ Err k → hex line ≡ Err (length line - length pair + k)
  stage-wrong k s a e =
      let p : ℕ = length line - length rest + (length rest - length pair) in
      let q : p ≡ length line - length pair = omega (arith, s.room, a.short) in
      sym s.left ∙ ap (before bytes) (a.left ∙ after-wrong p k pair e) ∙ ap (λ (i : ℕ). Err (i + k)) q

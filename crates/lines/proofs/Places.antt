-- Where a line goes wrong.
use Rattle.std.proofs.Common.{◌≡◌, ℕ, suc, ◌+◌, ◌*◌, ◌<◌, true, false, eqb, ◌⊎◌, List, [], ◌∷◌, ◌++◌, length, take, Ok, Err, Result, sym, refl, ap, ◌∙◌, subst, inl, inr, arith}
use Rattle.std.proofs.lemmas.Bool.{ltb-true, eqb-true, cases_Bool}
use Rattle.lines.specs.Hex.{digit, is_digit, front, pair, pairs}
use Rattle.lines.specs.Spelled.{Pairs, one, next, spaced, pairs_of, Begins, FirstWrong}
use Rattle.lines.proofs.Decoding.{wrong, wrong-low}
use Rattle.lines.proofs.Readings.{never, one_reading}

record Place (q : ℕ) (line : List ℕ) (p : ℕ) : Type 0 where
  pub far : ℕ
  pub at : p ≡ q + far
  pub more : List ℕ
  pub bytes : List ℕ
  pub begins : Pairs (take far line ++ more) bytes
  pub stuck : (far ≡ length line) ⊎ ((far < length line) × ((rest : List ℕ) → pairs q (take (suc far) line ++ rest) ≡ Err p))

same_place : (x y : ℕ) → ◌≡◌ {A = Result (List ℕ) ℕ} (Err x) (Err y) → x ≡ y
same_place x y e = cc

zeros : Pairs (48 ∷ 48 ∷ []) (0 ∷ [])
unfolding digit
zeros = one 48 48 (omega arith) (omega arith)

zero-low : (a : ℕ) → is_digit a ≡ true → Pairs (a ∷ 48 ∷ []) ((16 * digit a + digit 48) ∷ [])
unfolding digit
zero-low a h = one a 48 (ltb-true (digit a) 16 h) (omega arith)

-- a byte that is no digit where a pair begins
at_first : (q a p : ℕ) (line : List ℕ) → is_digit a ≡ false → q ≡ p → Place q (a ∷ line) p
at_first q a p line h e =
    record {
      far = 0;
      at = omega arith;
      more = 48 ∷ 48 ∷ [];
      bytes = 0 ∷ [];
      begins = zeros;
      stuck = inr (omega arith, λ rest. wrong q a rest h ∙ ap Err e);
    }

-- and where its second digit is
at_second : (q a b p : ℕ) (line : List ℕ) → is_digit a ≡ true → is_digit b ≡ false → q + 1 ≡ p → Place q (a ∷ b ∷ line) p
at_second q a b p line h k e =
    record {
      far = 1;
      at = omega arith;
      more = 48 ∷ [];
      bytes = (16 * digit a + digit 48) ∷ [];
      begins = zero-low a h;
      stuck = inr (omega arith, λ rest. wrong-low q a b rest h k ∙ ap Err e);
    }

front-err : (x : ℕ) (r : Result (List ℕ) ℕ) (p : ℕ) → front x r ≡ Err p → r ≡ Err p
front-err x (Ok ys) p e = absurd (never p (x ∷ ys) (sym e))
front-err x (Err k) p e = e

pair-front : (p a b : ℕ) (r : Result (List ℕ) ℕ) → is_digit a ≡ true → is_digit b ≡ true → pair p a b r ≡ front (16 * digit a + digit b) r
pair-front p a b r h k = rw (h, k)

past-space : (q a b p : ℕ) (rest : List ℕ) → is_digit a ≡ true → is_digit b ≡ true → Place (q + 3) rest p → Place q (a ∷ b ∷ 32 ∷ rest) p
unfolding pairs
past-space q a b p rest h k w =
    record {
      far = suc (suc (suc w.far));
      at = omega arith;
      more = w.more;
      bytes = (16 * digit a + digit b) ∷ w.bytes;
      begins = spaced a b (take w.far rest ++ w.more) w.bytes (ltb-true (digit a) 16 h) (ltb-true (digit b) 16 k) w.begins;
      stuck = elim w.stuck [
        | inl e ↦ inl (omega arith)
        | inr e ↦ inr (omega arith, λ more. pair-front q a b (pairs (q + 3) (take (suc w.far) rest ++ more)) h k ∙ ap (front (16 * digit a + digit b)) (e.1 more))
      ];
    }

past-pair : (q a b c p : ℕ) (rest : List ℕ) → is_digit a ≡ true → is_digit b ≡ true → eqb c 32 ≡ false → Place (q + 2) (c ∷ rest) p → Place q (a ∷ b ∷ c ∷ rest) p
unfolding pairs
past-pair q a b c p rest h k s w =
    record {
      far = suc (suc w.far);
      at = omega arith;
      more = w.more;
      bytes = (16 * digit a + digit b) ∷ w.bytes;
      begins = next a b (take w.far (c ∷ rest) ++ w.more) w.bytes (ltb-true (digit a) 16 h) (ltb-true (digit b) 16 k) w.begins;
      stuck = elim w.stuck [
        | inl e ↦ inl (omega arith)
        | inr e ↦ inr (omega arith, λ more. rw s (pair-front q a b (pairs (q + 2) (c ∷ (take w.far rest ++ more))) h k ∙ ap (front (16 * digit a + digit b)) (e.1 more)))
      ];
    }

place : (q : ℕ) (line : List ℕ) (p : ℕ) → pairs q line ≡ Err p → Place q line p
unfolding pairs
place q [] p e =
    let z : q ≡ p = same_place q p e in
    record { far = 0; at = omega arith; more = 48 ∷ 48 ∷ []; bytes = 0 ∷ []; begins = zeros; stuck = inl refl }
place q (a ∷ []) p e =
    elim (cases_Bool (is_digit a)) [
      | inr h ↦ at_first q a p [] h (same_place q p (rw h at e))
      | inl h ↦
          let z : q + 1 ≡ p = same_place (q + 1) p (rw h at e) in
          record { far = 1; at = omega arith; more = 48 ∷ []; bytes = (16 * digit a + digit 48) ∷ []; begins = zero-low a h; stuck = inl refl }
    ]
place q (a ∷ b ∷ []) p e =
    elim (cases_Bool (is_digit a)) [
      | inr h ↦ at_first q a p (b ∷ []) h (same_place q p (rw h at e))
      | inl h ↦
          elim (cases_Bool (is_digit b)) [
            | inr k ↦ at_second q a b p [] h k (same_place (q + 1) p (rw (h, k) at e))
            | inl k ↦ absurd (never p ((16 * digit a + digit b) ∷ []) (sym (rw (h, k) at e)))
          ]
    ]
place q (a ∷ b ∷ c ∷ rest) p e =
    elim (cases_Bool (is_digit a)) [
      | inr h ↦ at_first q a p (b ∷ c ∷ rest) h (same_place q p (rw h at e))
      | inl h ↦
          elim (cases_Bool (is_digit b)) [
            | inr k ↦ at_second q a b p (c ∷ rest) h k (same_place (q + 1) p (rw (h, k) at e))
            | inl k ↦
                elim (cases_Bool (eqb c 32)) [
                  | inl s ↦
                      subst (λ (x : ℕ). Place q (a ∷ b ∷ x ∷ rest) p) (sym (eqb-true c 32 s))
                      (past-space q a b p rest h k (place (q + 3) rest p (front-err (16 * digit a + digit b) (pairs (q + 3) rest) p (rw (h, k, s) at e))))
                  | inr s ↦
                      past-pair q a b c p rest h k s (place (q + 2) (c ∷ rest) p (front-err (16 * digit a + digit b) (pairs (q + 2) (c ∷ rest)) p (rw (h, k, s) at e)))
                ]
          ]
    ]

pub first_wrong : FirstWrong
first_wrong [] p e = absurd (never p [] (sym e))
first_wrong (a ∷ line) p e =
    let w = place 0 (a ∷ line) p e in
    let z : w.far ≡ p = omega arith in
    let s : suc w.far ≡ p + 1 = omega arith in (
      subst (λ (k : ℕ). Begins (take k (a ∷ line))) z (w.more, (w.bytes, pairs_of (take w.far (a ∷ line) ++ w.more) w.bytes w.begins)),
      elim w.stuck [
        | inl h ↦ inl (omega arith)
        | inr h ↦ inr (
          omega arith,
          λ b.
              let b2 : Begins (take (suc w.far) (a ∷ line)) = subst (λ (k : ℕ). Begins (take k (a ∷ line))) (sym s) b in
              let r = one_reading.0 (take (suc w.far) (a ∷ line) ++ b2.0) b2.1.0 b2.1.1 in
              never p b2.1.0 (sym (h.1 b2.0) ∙ r),
        )
      ],
    )

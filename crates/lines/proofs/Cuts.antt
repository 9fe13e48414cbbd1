-- However an input is cut into pieces, a reader's answers are what its lines say.
use Rattle.std.proofs.Common.{◌≡◌, ℕ, suc, ◌+◌, ◌<◌, ◌≤◌, Bool, true, false, cond, eqb, ltb, List, [], ◌∷◌, ◌++◌, length, take, drop, sym, refl, ap, ◌∙◌, ap₂, inl, inr, append_assoc, append-nil, arith}
use lib.Dec.{eqb-suc-zero}
use Rattle.std.proofs.lemmas.List.{take_all, drop_all, length-take-le}
use Rattle.std.proofs.lemmas.Bool.{lt-ltb, ltb-true, ltb-false, cases_Bool, cases_lt, cases_eq, eq-eqb, ne_eqb}
use Rattle.lines.specs.Frames.{frame_of}
use Rattle.lines.specs.declared.reader.SlotLine.{SlotLine}
use Rattle.lines.specs.declared.reader.Fed.{Fed}
use Rattle.lines.specs.Lines.{lines_after, up_to, ends}
use Rattle.lines.specs.Reading.{Reading, Reads, ended, piece, after, fed, last, as_list, numbered, next, line_of, fresh, still, AnyCut}
use Rattle.lines.proofs.Ending.{up_to-other, up_to-end, up_to-none, take-take-append}

-- a line's meaning shows in its first 201 bytes
pub frame-front : (xs : List ℕ) → frame_of (take 201 xs) ≡ frame_of xs
unfolding frame_of
frame-front xs =
    elim (cases_lt 200 (length xs)) [
      | inl h ↦
          let l : length (take 201 xs) ≡ 201 = length-take-le 201 xs (omega arith) in
          let a : ltb 200 (length (take 201 xs)) ≡ true = lt-ltb 200 _ (omega arith) in
          let b : ltb 200 (length xs) ≡ true = lt-ltb 200 _ h in
          rw (a, b)
      | inr h ↦ ap frame_of (take_all 201 xs (omega arith))
    ]

-- what the answers still are, by the parts of a reading
abbrev by : ℕ → List ℕ → List ℕ → List SlotLine
by n held input = numbered n (lines_after held input)

still-nil : (n : ℕ) (held : List ℕ) → by n held [] ≡ cond (eqb (length held) 0) [] (line_of n held ∷ [])
unfolding lines_after numbered
still-nil n held = elim (eqb (length held) 0) as (λ v. numbered n (cond v [] (held ∷ [])) ≡ cond v [] (line_of n held ∷ [])) [ true ↦ refl | false ↦ refl ]

still-end : (n b : ℕ) (held rest : List ℕ) → eqb b 10 ≡ true → by n held (b ∷ rest) ≡ line_of n held ∷ by (next n) [] rest
unfolding lines_after numbered
still-end n b held rest e = rw e

still-more : (n b : ℕ) (held rest : List ℕ) → eqb b 10 ≡ false → by n held (b ∷ rest) ≡ by n (held ++ b ∷ []) rest
unfolding lines_after
still-more n b held rest e = rw e

line_of-front : (n : ℕ) (xs : List ℕ) → line_of n (take 201 xs) ≡ line_of n xs
line_of-front n xs = ap (λ f. record { number = n; frame = f }) (frame-front xs)

empty-front : (xs : List ℕ) → eqb (length (take 201 xs)) 0 ≡ eqb (length xs) 0
empty-front [] = refl
empty-front (x ∷ xs) = eqb-suc-zero (length (take 200 xs)) ∙ sym (eqb-suc-zero (length xs))

-- no more than the first 201 bytes need be held
pub still-front : (n : ℕ) (held input : List ℕ) → by n (take 201 held) input ≡ by n held input
still-front n held [] =
    still-nil n (take 201 held)
    ∙ ap₂ (λ (v : Bool) (l : SlotLine). cond v [] (l ∷ [])) (empty-front held) (line_of-front n held)
    ∙ sym (still-nil n held)
still-front n held (b ∷ rest) =
    elim (cases_Bool (eqb b 10)) [
      | inl e ↦ still-end n b (take 201 held) rest e ∙ ap (λ (l : SlotLine). l ∷ by (next n) [] rest) (line_of-front n held) ∙ sym (still-end n b held rest e)
      | inr e ↦
          still-more n b (take 201 held) rest e
          ∙ sym (still-front n (take 201 held ++ b ∷ []) rest)
          ∙ ap (λ (zs : List ℕ). by n zs rest) (take-take-append 201 held (b ∷ []))
          ∙ still-front n (held ++ b ∷ []) rest
          ∙ sym (still-more n b held rest e)
    ]

-- a piece without 0A
pub still-whole : (n : ℕ) (held p rest : List ℕ) → length p ≤ length (up_to p) → by n held (p ++ rest) ≡ by n (held ++ p) rest
still-whole n held [] rest h = ap (λ (zs : List ℕ). by n zs rest) (sym (append-nil held))
still-whole n held (b ∷ p) rest h =
    elim (cases_eq b 10) [
      | inl e ↦ let z : length (up_to (b ∷ p)) ≡ 0 = ap length (up_to-end b p e) in absurd (omega arith)
      | inr e ↦
          let z : length (up_to (b ∷ p)) ≡ suc (length (up_to p)) = ap length (up_to-other b p e) in
          still-more n b held (p ++ rest) (ne_eqb b 10 e)
          ∙ still-whole n (held ++ b ∷ []) p rest (omega arith)
          ∙ ap (λ (zs : List ℕ). by n zs rest) (append_assoc held (b ∷ []) p)
    ]

-- a piece with 0A
pub still-cut : (n : ℕ) (held p rest : List ℕ) → length (up_to p) < length p →
    by n held (p ++ rest) ≡ line_of n (held ++ up_to p) ∷ by (next n) [] (drop (length (up_to p) + 1) p ++ rest)
still-cut n held [] rest h = let z : length (up_to []) ≡ 0 = ap length up_to-none in absurd (omega arith)
still-cut n held (b ∷ p) rest h =
    elim (cases_eq b 10) [
      | inl e ↦
          let z : up_to (b ∷ p) ≡ [] = up_to-end b p e in
          still-end n b held (p ++ rest) (eq-eqb b 10 e)
          ∙ rw (z, append-nil held)
      | inr e ↦
          let z : up_to (b ∷ p) ≡ b ∷ up_to p = up_to-other b p e in
          let y : length (up_to (b ∷ p)) ≡ suc (length (up_to p)) = ap length z in
          let m : suc (length (up_to p) + 1) ≡ length (up_to (b ∷ p)) + 1 = omega arith in
          still-more n b held (p ++ rest) (ne_eqb b 10 e)
          ∙ still-cut n (held ++ b ∷ []) p rest (omega arith)
          ∙ ap₂ (λ (l : SlotLine) (zs : List ℕ). l ∷ by (next n) [] (zs ++ rest)) (ap (line_of n) (append_assoc held (b ∷ []) (up_to p) ∙ ap (λ (zs : List ℕ). held ++ zs) (sym z))) (ap (λ (k : ℕ). drop k (b ∷ p)) m)
    ]

-- one call: what it answers, and then what is still answered, is what was still to be answered
pub step : (v : Reading) (p rest : List ℕ) → still v (p ++ rest) ≡ as_list (fed v p).line ++ still (after v p) (drop (fed v p).used p ++ rest)
step v p rest =
    elim (cases_Bool (ends p)) [
      | inl e ↦ rw e (still-cut v.number v.held p rest (ltb-true _ _ e))
      | inr e ↦
          let d : drop (length p) p ≡ [] = drop_all (length p) p (omega arith) in
          rw (e, d) (still-whole v.number v.held p rest (ltb-false _ _ e) ∙ sym (still-front v.number (v.held ++ p) rest))
    ]

pub stepped : (v w : Reading) (p : List ℕ) (r : Fed) → r ≡ fed v p → w ≡ after v p → (rest : List ℕ) →
    still v (p ++ rest) ≡ as_list r.line ++ still w (drop r.used p ++ rest)
stepped v w p r e f rest = rw (e, f) (step v p rest)

pub stop : (v : Reading) → as_list (last v) ≡ still v []
stop v =
    elim (cases_Bool (eqb (length v.held) 0)) [
      | inl e ↦ rw e (sym (still-nil v.number v.held ∙ rw e))
      | inr e ↦ rw e (sym (still-nil v.number v.held ∙ rw e))
    ]

pub run-law : (v : Reading) (input : List ℕ) (answers : List SlotLine) → Reads v input answers → answers ≡ still v input
run-law v input answers (ended w) = stop v
run-law v input answers (piece w p rest more r) =
    ap (λ (ls : List SlotLine). as_list (fed v p).line ++ ls) (run-law (after v p) (drop (fed v p).used p ++ rest) more r) ∙ sym (step v p rest)

pub any-cut : AnyCut fresh
any-cut input answers r = run-law fresh input answers r

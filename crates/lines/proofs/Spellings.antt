-- A line is read as a frame exactly if it spells that frame, and each frame has one spelling in upper case without spaces.
use Rattle.std.proofs.Common.{◌≡◌, ℕ, zero, suc, ◌+◌, ◌-◌, ◌*◌, ◌/◌, ◌%◌, ◌<◌, ◌≤◌, true, false, cond, ◌&&◌, eqb, ltb, leb, List, [], ◌∷◌, ◌++◌, length, get_or, take, drop, Ok, Err, Result, sym, refl, ap, ◌∙◌, subst, ap₂, inl, inr, arith}
use Rattle.std.proofs.lemmas.List.{take_all, drop_more, drop_all, length-drop, get_or-drop}
use Rattle.std.proofs.lemmas.Bool.{lt-ltb, le-ltb, le-leb, lt-leb, and_from, and_right, eq-eqb, ne_eqb, eqb-true, cases_Bool, cases_lt}
use Rattle.std.specs.List.{between}
use Rattle.refusals.specs.declared.refusal.Refusal.{Refusal}
use Rattle.refusals.specs.declared.refusal.Refusal.TheVariants.{LineTooLong, WrongDigit, UnknownKind, FrameLength, UnknownArbiter}
use Rattle.lines.specs.declared.frame.Frame.{Frame}
use Rattle.lines.specs.declared.frame.Frame.TheVariants.{Start, Route, Cell, Close}
use Rattle.lines.specs.declared.frame.ArbiterKind.{ArbiterKind}
use Rattle.lines.specs.declared.frame.ArbiterKind.TheVariants.{Diagonal, Ripple}
use Rattle.lines.specs.Hex.{digit, hex}
use Rattle.lines.specs.Frames.{frame_of, frame_in, spelled, decoded, kind_of, code_of, with_kind, two, four}
use Rattle.lines.specs.Spelled.{Pairs, one, next, spaced, Spelled, nothing, pairs_of}
use Rattle.lines.specs.Spelling.{upper, spell, bytes_of, canonical, high-two, high-four, Sound, Spells, UpperDigit, AllUpper, FramesSpelled}
use Rattle.lines.proofs.Decoding.{not-both, same-value, same-error}
use Rattle.lines.proofs.Back.{Bytes, bytes-by-place, hex-spell, length-spell, four-back, two_back, two-split, four-split}
use Rattle.lines.proofs.Readings.{one_reading}

false-not-true : false ≡ true → ⊥
false-not-true e = let z : ◌≡◌ {A = ℕ} 1 0 = ap (λ b. cond b 0 1) e in omega arith

known_small : (kind : ArbiterKind) → code_of kind < 256
known_small Diagonal = omega arith
known_small Ripple = omega arith

known-kind : (kind : ArbiterKind) → kind_of (code_of kind) ≡ Ok kind
known-kind Diagonal = refl
known-kind Ripple = refl

low : (n : ℕ) → n % 256 < 256
low n = omega arith

-- the bytes of a frame are bytes, few, and read as that frame
frame-bytes : (f : Frame) → Sound f → Bytes (bytes_of f)
frame-bytes (Start ports arbiter mark first) s =
    (omega arith, (s.0, (known_small arbiter, (low _, (low _, (low _, (low _, (low _, (low _, (low _, (low _, tt)))))))))))
frame-bytes (Route input vci output new) s = (omega arith, (s.0, (low _, (low _, (s.2, (low _, (low _, tt)))))))
frame-bytes (Cell input cell) s = (omega arith, (s.0, bytes-by-place cell s.2))
frame-bytes Close s = (omega arith, tt)

few_bytes : (f : Frame) → Sound f → length (bytes_of f) ≤ 55
few_bytes (Start ports arbiter mark first) s = omega arith
few_bytes (Route input vci output new) s = omega arith
few_bytes (Cell input cell) s = omega arith
few_bytes Close s = omega arith

bytes_read : (f : Frame) → Sound f → frame_in (bytes_of f) ≡ Ok f
bytes_read (Start ports arbiter mark first) s =
    ap (λ (k : Result ArbiterKind Refusal). with_kind k (λ kind. Start ports kind (four (bytes_of (Start ports arbiter mark first)) 3) (four (bytes_of (Start ports arbiter mark first)) 7))) (known-kind arbiter)
    ∙ ap₂ (λ (m f : ℕ). Ok (Start ports arbiter m f)) (four-back mark s.1) (four-back first s.2)
bytes_read (Route input vci output new) s =
    ap₂ (λ (v w : ℕ). Ok (Route input v output w)) (two_back vci s.1) (two_back new s.3)
bytes_read (Cell input cell) s =
    let e : eqb (suc (suc (length cell))) 55 ≡ true = eq-eqb _ 55 (omega arith) in
    let z : eqb (suc (suc (length cell))) 0 ≡ false = ne_eqb _ 0 (λ q. omega arith) in
    rw (z, e) (ap (λ (xs : List ℕ). Ok (Cell input xs)) (take_all 53 cell (omega arith)))
bytes_read Close s = refl

pub long_refused : (line : List ℕ) → 200 < length line → frame_of line ≡ Err LineTooLong
unfolding frame_of
long_refused line l = let s : ltb 200 (length line) ≡ true = lt-ltb 200 _ l in rw s

pub short_spelled : (line : List ℕ) → length line ≤ 200 → frame_of line ≡ spelled (hex line)
unfolding frame_of
short_spelled line l = let s : ltb 200 (length line) ≡ false = le-ltb 200 _ l in rw s

pub decoded-bytes : (r : Result (List ℕ) ℕ) (xs : List ℕ) → decoded r ≡ Ok xs → spelled r ≡ frame_in xs
decoded-bytes (Ok ys) xs e = ap frame_in (same-value ys xs e)
decoded-bytes (Err p) xs e = absurd (not-both xs (WrongDigit p) (sym e))

pub decoded-wrong : (r : Result (List ℕ) ℕ) (k : Refusal) → decoded r ≡ Err k → spelled r ≡ Err k
decoded-wrong (Ok ys) k e = absurd (not-both ys k e)
decoded-wrong (Err p) k e = ap Err (same-error (WrongDigit p) k e)

reads : (line : List ℕ) (f : Frame) → Spells line f → frame_of line ≡ Ok f
reads line f s = short_spelled line s.2 ∙ ap spelled (one_reading.0 line (bytes_of f) s.0) ∙ bytes_read f s.1

-- what pairs of digits spell are bytes
pairs-bytes : (line xs : List ℕ) → Pairs line xs → Bytes xs
pairs-bytes line xs (one a b d e) = (omega arith, tt)
pairs-bytes line xs (next a b rest ys d e r) = (omega arith, pairs-bytes rest ys r)
pairs-bytes line xs (spaced a b rest ys d e r) = (omega arith, pairs-bytes rest ys r)

spelled-bytes : (line xs : List ℕ) → Spelled line xs → Bytes xs
spelled-bytes line xs nothing = tt
spelled-bytes line xs (pairs_of l ys r) = pairs-bytes l ys r

byte_at : (xs : List ℕ) → Bytes xs → (i : ℕ) → get_or xs i 0 < 256
byte_at [] h i = omega arith
byte_at (x ∷ xs) h zero = h.0
byte_at (x ∷ xs) h (suc i) = byte_at xs h.1 i

-- the elements from the place i on, one by one
abbrev listed : List ℕ → ℕ → ℕ → List ℕ
listed xs i zero = []
listed xs i (suc k) = get_or xs i 0 ∷ listed xs (i + 1) k

all_listed : (xs : List ℕ) (k i : ℕ) → length xs ≡ i + k → drop i xs ≡ listed xs i k
all_listed xs zero i h = drop_all i xs (omega arith)
all_listed xs (suc k) i h =
    drop_more xs i 0 (omega arith) ∙ ap (λ (zs : List ℕ). get_or xs i 0 ∷ zs) (all_listed xs k (i + 1) (omega arith))

two-of : (a b : ℕ) → a < 256 → b < 256 → high-two (a * 256 + b) ≡ a ∷ b ∷ []
two-of a b h k = let q = two-split a b h k in ap₂ (λ (x y : ℕ). x ∷ y ∷ []) q.0 q.1

four-of : (a b c d : ℕ) → a < 256 → b < 256 → c < 256 → d < 256 → high-four (a * 16777216 + b * 65536 + c * 256 + d) ≡ a ∷ b ∷ c ∷ d ∷ []
four-of a b c d h k l m =
    let q = four-split a b c d h k l m in
    let n : ℕ = a * 16777216 + b * 65536 + c * 256 + d in
    ap₂ (λ (x y : ℕ). x ∷ y ∷ n / 256 % 256 ∷ n % 256 ∷ []) q.0 q.1 ∙ ap₂ (λ (x y : ℕ). a ∷ b ∷ x ∷ y ∷ []) q.2 q.3

-- the frame that bytes are read as has these bytes
record HasBytes (xs : List ℕ) (f : Frame) : Type 0 where
  pub bytes : xs ≡ bytes_of f
  pub sound : Sound f

-- the arbiter of a frame is the one that its code stands for
record HasKind (code : ℕ) (g : ArbiterKind → Frame) (f : Frame) : Type 0 where
  pub kind : ArbiterKind
  pub code_is : code_of kind ≡ code
  pub frame : g kind ≡ f

code-back : (code : ℕ) (kind : ArbiterKind) → kind_of code ≡ Ok kind → code_of kind ≡ code
code-back code kind e =
    elim (cases_Bool (eqb code 1)) [
      | inl a ↦ let q : Diagonal ≡ kind = same-value _ _ (rw a at e) in ap code_of (sym q) ∙ sym (eqb-true code 1 a)
      | inr a ↦
          elim (cases_Bool (eqb code 2)) [
            | inl b ↦ let q : Ripple ≡ kind = same-value _ _ (rw (a, b) at e) in ap code_of (sym q) ∙ sym (eqb-true code 2 b)
            | inr b ↦ absurd (not-both kind UnknownArbiter (sym (rw (a, b) at e)))
          ]
    ]

has-kind : (code : ℕ) (k : Result ArbiterKind Refusal) (g : ArbiterKind → Frame) (f : Frame) → kind_of code ≡ k → with_kind k g ≡ Ok f → HasKind code g f
has-kind code (Ok kind) g f h e = record { kind = kind; code_is = code-back code kind h; frame = same-value (g kind) f e }
has-kind code (Err r) g f h e = absurd (not-both f r (sym e))

start-bytes : (xs : List ℕ) → Bytes xs → get_or xs 0 0 ≡ 0 → length xs ≡ 11 → (kind : ArbiterKind) → code_of kind ≡ get_or xs 2 0 →
    HasBytes xs (Start (get_or xs 1 0) kind (four xs 3) (four xs 7))
start-bytes xs h z l kind k =
    let at : (i : ℕ) → get_or xs i 0 < 256 = byte_at xs h in
    let m = four-of (get_or xs 3 0) (get_or xs 4 0) (get_or xs 5 0) (get_or xs 6 0) (at 3) (at 4) (at 5) (at 6) in
    let s = four-of (get_or xs 7 0) (get_or xs 8 0) (get_or xs 9 0) (get_or xs 10 0) (at 7) (at 8) (at 9) (at 10) in
    record {
      bytes = all_listed xs 11 0 l
          ∙ ap (λ (x : ℕ). x ∷ listed xs 1 10) z
          ∙ sym (ap₂ (λ (ys zs : List ℕ). 0 ∷ get_or xs 1 0 ∷ get_or xs 2 0 ∷ (ys ++ zs)) m s)
          ∙ sym (ap (λ (x : ℕ). 0 ∷ get_or xs 1 0 ∷ x ∷ (high-four (four xs 3) ++ high-four (four xs 7))) k);
      sound = (at 1, omega (arith, at 3, at 4, at 5, at 6), omega (arith, at 7, at 8, at 9, at 10));
    }

route-bytes : (xs : List ℕ) → Bytes xs → get_or xs 0 0 ≡ 1 → length xs ≡ 7 → HasBytes xs (Route (get_or xs 1 0) (two xs 2) (get_or xs 4 0) (two xs 5))
route-bytes xs h z l =
    let at : (i : ℕ) → get_or xs i 0 < 256 = byte_at xs h in
    let v = two-of (get_or xs 2 0) (get_or xs 3 0) (at 2) (at 3) in
    let w = two-of (get_or xs 5 0) (get_or xs 6 0) (at 5) (at 6) in
    record {
      bytes = all_listed xs 7 0 l
          ∙ ap (λ (x : ℕ). x ∷ listed xs 1 6) z
          ∙ sym (ap₂ (λ (ys zs : List ℕ). 1 ∷ get_or xs 1 0 ∷ (ys ++ (get_or xs 4 0 ∷ zs))) v w);
      sound = (at 1, omega (arith, at 2, at 3), at 4, omega (arith, at 5, at 6));
    }

cell-bytes : (xs : List ℕ) → Bytes xs → get_or xs 0 0 ≡ 2 → length xs ≡ 55 → HasBytes xs (Cell (get_or xs 1 0) (between 2 55 xs))
cell-bytes xs h z l =
    let at : (i : ℕ) → get_or xs i 0 < 256 = byte_at xs h in
    let d : drop 0 xs ≡ get_or xs 0 0 ∷ get_or xs 1 0 ∷ drop 2 xs
    = drop_more xs 0 0 (omega arith) ∙ ap (λ (zs : List ℕ). get_or xs 0 0 ∷ zs) (drop_more xs 1 0 (omega arith)) in
    let n : length (drop 2 xs) ≡ 53 = length-drop 2 xs ∙ omega arith in
    let t : take 53 (drop 2 xs) ≡ drop 2 xs = take_all 53 (drop 2 xs) (omega arith) in
    record {
      bytes = d ∙ ap₂ (λ (x : ℕ) (zs : List ℕ). x ∷ get_or xs 1 0 ∷ zs) z (sym t);
      sound = (at 1, ap length t ∙ n, λ i. rw t (subst (λ (k : ℕ). k < 256) (sym (get_or-drop 2 xs i 0)) (at (2 + i))));
    }

close-bytes : (xs : List ℕ) → get_or xs 0 0 ≡ 3 → length xs ≡ 1 → HasBytes xs Close
close-bytes xs z l = record { bytes = all_listed xs 1 0 l ∙ ap (λ (x : ℕ). x ∷ []) z; sound = tt }

moved : (xs : List ℕ) (f g : Frame) → f ≡ g → HasBytes xs f → HasBytes xs g
moved xs f g e h = subst (HasBytes xs) e h

has-bytes : (xs : List ℕ) (f : Frame) → Bytes xs → frame_in xs ≡ Ok f → HasBytes xs f
has-bytes xs f h e =
    elim (cases_Bool (eqb (length xs) 0)) [
      | inl z ↦ absurd (not-both f FrameLength (sym (rw z at e)))
      | inr z ↦
          elim (cases_Bool (eqb (get_or xs 0 0) 0)) [
            | inl a ↦
                elim (cases_Bool (eqb (length xs) 11)) [
                  | inr l ↦ absurd (not-both f FrameLength (sym (rw (z, a, l) at e)))
                  | inl l ↦
                      let q = has-kind (get_or xs 2 0) (kind_of (get_or xs 2 0)) (λ kind. Start (get_or xs 1 0) kind (four xs 3) (four xs 7)) f refl (rw (z, a, l) at e) in
                      moved xs _ f q.frame (start-bytes xs h (eqb-true _ 0 a) (eqb-true _ 11 l) q.kind q.code_is)
                ]
            | inr a ↦
                elim (cases_Bool (eqb (get_or xs 0 0) 1)) [
                  | inl b ↦
                      elim (cases_Bool (eqb (length xs) 7)) [
                        | inr l ↦ absurd (not-both f FrameLength (sym (rw (z, a, b, l) at e)))
                        | inl l ↦ moved xs _ f (same-value _ f (rw (z, a, b, l) at e)) (route-bytes xs h (eqb-true _ 1 b) (eqb-true _ 7 l))
                      ]
                  | inr b ↦
                      elim (cases_Bool (eqb (get_or xs 0 0) 2)) [
                        | inl c ↦
                            elim (cases_Bool (eqb (length xs) 55)) [
                              | inr l ↦ absurd (not-both f FrameLength (sym (rw (z, a, b, c, l) at e)))
                              | inl l ↦ moved xs _ f (same-value _ f (rw (z, a, b, c, l) at e)) (cell-bytes xs h (eqb-true _ 2 c) (eqb-true _ 55 l))
                            ]
                        | inr c ↦
                            elim (cases_Bool (eqb (get_or xs 0 0) 3)) [
                              | inl d ↦
                                  elim (cases_Bool (eqb (length xs) 1)) [
                                    | inr l ↦ absurd (not-both f FrameLength (sym (rw (z, a, b, c, d, l) at e)))
                                    | inl l ↦ moved xs _ f (same-value _ f (rw (z, a, b, c, d, l) at e)) (close-bytes xs (eqb-true _ 3 d) (eqb-true _ 1 l))
                                  ]
                              | inr d ↦ absurd (not-both f UnknownKind (sym (rw (z, a, b, c, d) at e)))
                            ]
                      ]
                ]
          ]
    ]

spelled-ok : (line : List ℕ) (f : Frame) (r : Result (List ℕ) ℕ) → hex line ≡ r → spelled r ≡ Ok f → (xs : List ℕ) × ((hex line ≡ Ok xs) × (frame_in xs ≡ Ok f))
spelled-ok line f (Ok xs) h e = (xs, (h, e))
spelled-ok line f (Err p) h e = absurd (not-both f (WrongDigit p) (sym e))

read_only : (line : List ℕ) (f : Frame) → frame_of line ≡ Ok f → Spells line f
read_only line f e =
    elim (cases_lt 200 (length line)) [
      | inl l ↦ absurd (not-both f LineTooLong (sym e ∙ long_refused line l))
      | inr l ↦
          let q = spelled-ok line f (hex line) refl (sym (short_spelled line l) ∙ e) in
          let s : Spelled line q.0 = one_reading.1 line q.0 q.1.0 in
          let h = has-bytes q.0 f (spelled-bytes line q.0 s) q.1.1 in
          (subst (Spelled line) h.bytes s, h.sound, l)
    ]

-- digits in upper case
upper-digit : (d : ℕ) → d < 16 → UpperDigit (upper d)
unfolding upper
upper-digit d h =
    elim (cases_lt d 10) [
      | inl l ↦ let t : ltb d 10 ≡ true = lt-ltb d 10 l in rw t (inl (omega arith, omega arith))
      | inr l ↦ let t : ltb d 10 ≡ false = le-ltb d 10 l in rw t (inr (omega arith, omega arith))
    ]

all_upper : (xs : List ℕ) → Bytes xs → AllUpper (spell xs)
unfolding spell
all_upper [] h = tt
all_upper (x ∷ xs) h = (upper-digit (x / 16) (omega arith), (upper-digit (x % 16) (omega arith), all_upper xs h.1))

has-spelling : (f : Frame) → Sound f → AllUpper (canonical f) × Spells (canonical f) f
has-spelling f s =
    let h = frame-bytes f s in
    let n = few_bytes f s in
    let l = length-spell (bytes_of f) in
    (all_upper (bytes_of f) h, (one_reading.1 (canonical f) (bytes_of f) (hex-spell (bytes_of f) h), s, omega arith))

upper-of-digit : (b : ℕ) → UpperDigit b → upper (digit b) ≡ b
unfolding upper digit
upper-of-digit b (inl h) =
    let a : (leb 48 b && leb b 57) ≡ true = and_from _ _ (le-leb 48 b h.0) (le-leb b 57 h.1) in
    let t : ltb (b - 48) 10 ≡ true = lt-ltb (b - 48) 10 (omega arith) in
    let q : 48 + (b - 48) ≡ b = omega arith in
    rw (a, t, q)
upper-of-digit b (inr h) =
    let a : (leb 48 b && leb b 57) ≡ false = and_right _ _ (lt-leb b 57 (omega arith)) in
    let d : (leb 65 b && leb b 70) ≡ true = and_from _ _ (le-leb 65 b h.0) (le-leb b 70 h.1) in
    let t : ltb (b - 55) 10 ≡ false = le-ltb (b - 55) 10 (omega arith) in
    let q : 55 + (b - 55) ≡ b = omega arith in
    rw (a, d, t, q)

pair-spelled : (a b : ℕ) → UpperDigit a → UpperDigit b → digit a < 16 → digit b < 16 →
    (upper ((16 * digit a + digit b) / 16) ≡ a) × (upper ((16 * digit a + digit b) % 16) ≡ b)
pair-spelled a b u v h k =
    let p : (16 * digit a + digit b) / 16 ≡ digit a = omega arith in
    let q : (16 * digit a + digit b) % 16 ≡ digit b = omega arith in
    (ap upper p ∙ upper-of-digit a u, ap upper q ∙ upper-of-digit b v)

no-space : UpperDigit 32 → ⊥
no-space (inl h) = omega (arith, h.0)
no-space (inr h) = omega (arith, h.0)

one-upper : (line xs : List ℕ) → AllUpper line → Pairs line xs → line ≡ spell xs
unfolding spell
one-upper line xs u (one a b d e) =
    let q = pair-spelled a b u.0 u.1.0 d e in
    sym (ap₂ (λ (x y : ℕ). x ∷ y ∷ []) q.0 q.1)
one-upper line xs u (next a b rest ys d e r) =
    let q = pair-spelled a b u.0 u.1.0 d e in
    ap (λ (zs : List ℕ). a ∷ b ∷ zs) (one-upper rest ys u.1.1 r) ∙ sym (ap₂ (λ (x y : ℕ). x ∷ y ∷ spell ys) q.0 q.1)
one-upper line xs u (spaced a b rest ys d e r) = absurd (no-space u.1.1.0)

one-spelled : (line xs : List ℕ) → AllUpper line → Spelled line xs → line ≡ spell xs
unfolding spell
one-spelled line xs u nothing = refl
one-spelled line xs u (pairs_of l ys r) = one-upper l ys u r

pub frames_spelled : FramesSpelled
frames_spelled =
    record {
      reads = reads;
      read_only = read_only;
      not-refused = λ line f r s e. not-both f r (sym (reads line f s) ∙ e);
      has-spelling = has-spelling;
      one-spelling = λ line f u s. one-spelled line (bytes_of f) u s.0;
    }

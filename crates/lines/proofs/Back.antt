-- Bytes spelled in upper case read back, and wide numbers come back from their bytes.
use Rattle.std.proofs.Common.{◌≡◌, ℕ, suc, ◌+◌, ◌-◌, ◌*◌, ◌/◌, ◌%◌, ◌<◌, true, false, ◌&&◌, ltb, leb, List, [], ◌∷◌, length, get_or, Ok, sym, refl, ◌∙◌, ap₂, inl, inr, mod-eq_of_lt, arith}
use native.Mathlib.Nat.{div-div-eq-div-mul}
use Rattle.std.proofs.lemmas.Bool.{lt-ltb, le-ltb, le-leb, lt-leb, cases_lt, and_from, and_right}
use Rattle.lines.specs.Hex.{digit, front, hex}
use Rattle.lines.specs.Spelling.{upper, spell}
use Rattle.lines.proofs.Decoding.{from, one-pair, from-digit, is_dig}

digit-upper : (d : ℕ) → d < 16 → digit (upper d) ≡ d
unfolding digit upper
digit-upper d h =
    elim (cases_lt d 10) [
      | inl l ↦
          let t : ltb d 10 ≡ true = lt-ltb d 10 l in
          let a : (leb 48 (48 + d) && leb (48 + d) 57) ≡ true = and_from _ _ (le-leb 48 (48 + d) (omega arith)) (le-leb (48 + d) 57 (omega arith)) in
          let q : 48 + d - 48 ≡ d = omega arith in
          rw (t, a, q)
      | inr l ↦
          let t : ltb d 10 ≡ false = le-ltb d 10 l in
          let a : (leb 48 (55 + d) && leb (55 + d) 57) ≡ false = and_right _ _ (lt-leb (55 + d) 57 (omega arith)) in
          let b : (leb 65 (55 + d) && leb (55 + d) 70) ≡ true = and_from _ _ (le-leb 65 (55 + d) (omega arith)) (le-leb (55 + d) 70 (omega arith)) in
          let q : 55 + d - 55 ≡ d = omega arith in
          rw (t, a, b, q)
    ]

-- every element is a byte
abbrev pub Bytes : List ℕ → Type 0
Bytes [] = Unit {0}
Bytes (x ∷ xs) = (x < 256) × Bytes xs

pub bytes-by-place : (xs : List ℕ) → ((i : ℕ) → get_or xs i 0 < 256) → Bytes xs
bytes-by-place [] h = tt
bytes-by-place (x ∷ xs) h = (h 0, bytes-by-place xs (λ i. h (suc i)))

from-spell : (p : ℕ) (xs : List ℕ) → Bytes xs → from 1 p (spell xs) ≡ Ok xs
unfolding spell
from-spell p [] h = refl
from-spell p (x ∷ xs) h =
    let hi : digit (upper (x / 16)) ≡ x / 16 = digit-upper (x / 16) (omega arith) in
    let lo : digit (upper (x % 16)) ≡ x % 16 = digit-upper (x % 16) (omega arith) in
    let q : 16 * digit (upper (x / 16)) + digit (upper (x % 16)) ≡ x = omega arith in
    from-digit 1 p (upper (x / 16)) (upper (x % 16) ∷ spell xs) (omega arith)
    ∙ one-pair 1 p (upper (x / 16)) (upper (x % 16)) (spell xs) (omega arith) (is_dig _ (omega arith)) (is_dig _ (omega arith))
    ∙ ap₂ front q (from-spell (p + 2) xs h.1)

pub hex-spell : (xs : List ℕ) → Bytes xs → hex (spell xs) ≡ Ok xs
unfolding spell
hex-spell [] h = refl
hex-spell (x ∷ xs) h =
    let hi : digit (upper (x / 16)) ≡ x / 16 = digit-upper (x / 16) (omega arith) in
    sym (from-digit 1 0 (upper (x / 16)) (upper (x % 16) ∷ spell xs) (omega arith)) ∙ from-spell 0 (x ∷ xs) h

pub length-spell : (xs : List ℕ) → length (spell xs) ≡ 2 * length xs
unfolding spell
length-spell [] = refl
length-spell (x ∷ xs) = let r = length-spell xs in omega arith

-- a wide number is the sum of its bytes
four-sum : (n x y z a b c : ℕ) → n ≡ x * 256 + a → x ≡ y * 256 + b → y ≡ z * 256 + c → z * 16777216 + c * 65536 + b * 256 + a ≡ n
four-sum n x y z a b c e f g = omega arith

parts : (n : ℕ) → n ≡ n / 256 * 256 + n % 256
parts n = omega arith

less : (n k : ℕ) → n < 256 * k → n / 256 < k
less n k h = omega arith

pub four-back : (n : ℕ) → n < 4294967296 → n / 16777216 % 256 * 16777216 + n / 65536 % 256 * 65536 + n / 256 % 256 * 256 + n % 256 ≡ n
four-back n h =
    let a : n / 65536 ≡ n / 256 / 256 = sym (div-div-eq-div-mul n 256 256) in
    let b : n / 16777216 ≡ n / 256 / 256 / 256 = sym (div-div-eq-div-mul n 256 65536) ∙ sym (div-div-eq-div-mul (n / 256) 256 256) in
    let t : n / 256 / 256 / 256 < 256 = less (n / 256 / 256) 256 (less (n / 256) 65536 (less n 16777216 h)) in
    let m : n / 256 / 256 / 256 % 256 ≡ n / 256 / 256 / 256 = mod-eq_of_lt t in
    rw (b, a, m) (four-sum n (n / 256) (n / 256 / 256) (n / 256 / 256 / 256) (n % 256) (n / 256 % 256) (n / 256 / 256 % 256) (parts n) (parts (n / 256)) (parts (n / 256 / 256)))

pub two_back : (n : ℕ) → n < 65536 → n / 256 % 256 * 256 + n % 256 ≡ n
two_back n h = omega arith

-- and the bytes come back from the sum
pub two-split : (a b : ℕ) → a < 256 → b < 256 → ((a * 256 + b) / 256 % 256 ≡ a) × ((a * 256 + b) % 256 ≡ b)
two-split a b h k = (omega arith, omega arith)

pub four-split : (a b c d : ℕ) → a < 256 → b < 256 → c < 256 → d < 256 →
    let n : ℕ = a * 16777216 + b * 65536 + c * 256 + d in
    (n / 16777216 % 256 ≡ a) × (n / 65536 % 256 ≡ b) × (n / 256 % 256 ≡ c) × (n % 256 ≡ d)
four-split a b c d h k l m =
    let n : ℕ = a * 16777216 + b * 65536 + c * 256 + d in
    let x : n / 16777216 ≡ a = omega arith in
    let y : n / 65536 ≡ a * 256 + b = omega arith in
    let z : n / 256 ≡ (a * 256 + b) * 256 + c = omega arith in
    (omega (arith, x), omega (arith, y), omega (arith, z), omega arith)

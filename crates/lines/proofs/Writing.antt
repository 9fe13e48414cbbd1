-- One turn of the speller.
use Rattle.std.proofs.Common.{◌≡◌, ℕ, zero, suc, ◌+◌, ◌*◌, ◌/◌, ◌%◌, ◌<◌, min, List, [], ◌∷◌, ◌++◌, length, get_or, take, drop, set, sym, refl, ap, ◌∙◌, ap₂, append_assoc, arith}
use Rattle.std.proofs.lemmas.List.{drop_more, take_more, take_all, set_at, length-append, length-take-le}
use Rattle.lines.specs.Spelling.{upper, spell}
use Rattle.lines.specs.Written.{written}
use Rattle.lines.proofs.Back.{length-spell}

-- the sixteen digits
abbrev pub uppers : ℕ → ℕ → List ℕ
uppers p zero = []
uppers p (suc k) = upper p ∷ uppers (suc p) k

pub get_or-uppers : (p k i : ℕ) → i < k → get_or (uppers p k) i 0 ≡ upper (p + i)
get_or-uppers p zero i h = absurd (omega arith)
get_or-uppers p (suc k) zero h = ap upper (omega arith)
get_or-uppers p (suc k) (suc i) h =
    let e : suc p + i ≡ p + suc i = omega arith in
    get_or-uppers (suc p) k i (omega arith) ∙ ap upper e

spell-push : (xs : List ℕ) (x : ℕ) → spell (xs ++ x ∷ []) ≡ spell xs ++ upper (x / 16) ∷ upper (x % 16) ∷ []
unfolding spell
spell-push [] x = refl
spell-push (y ∷ xs) x = ap (λ (zs : List ℕ). upper (y / 16) ∷ upper (y % 16) ∷ zs) (spell-push xs x)

pub spell-turn : (bytes was line : List ℕ) (i h l : ℕ) → i < length bytes → 2 * i + 1 < length was →
    h ≡ upper (get_or bytes i 0 / 16) → l ≡ upper (get_or bytes i 0 % 16) →
    line ≡ spell (take i bytes) ++ drop (2 * i) was →
    set (set line (2 * i) h) (2 * i + 1) l ≡ spell (take (i + 1) bytes) ++ drop (2 * (i + 1)) was
spell-turn bytes was line i h l m r eh el e =
    let S : List ℕ = spell (take i bytes) in
    let s : length S ≡ 2 * i = length-spell (take i bytes) ∙ ap (λ (k : ℕ). 2 * k) (length-take-le i bytes (omega arith)) in
    let q : 2 * (i + 1) ≡ 2 * i + 1 + 1 = omega arith in
    let D : List ℕ = drop (2 * (i + 1)) was in
    let d0 : drop (2 * i) was ≡ get_or was (2 * i) 0 ∷ get_or was (2 * i + 1) 0 ∷ D
    = drop_more was (2 * i) 0 (omega arith) ∙ ap (λ (zs : List ℕ). get_or was (2 * i) 0 ∷ zs) (drop_more was (2 * i + 1) 0 r ∙ ap (λ (k : ℕ). get_or was (2 * i + 1) 0 ∷ drop k was) (sym q)) in
    let a : set line (2 * i) h ≡ S ++ h ∷ get_or was (2 * i + 1) 0 ∷ D
    = ap (λ (zs : List ℕ). set zs (2 * i) h) (e ∙ ap (λ (zs : List ℕ). S ++ zs) d0) ∙ set_at S (get_or was (2 * i) 0) (get_or was (2 * i + 1) 0 ∷ D) h (2 * i) s in
    let t : length (S ++ h ∷ []) ≡ 2 * i + 1 = length-append S (h ∷ []) ∙ ap (λ (k : ℕ). k + 1) s in
    let b : set (S ++ h ∷ get_or was (2 * i + 1) 0 ∷ D) (2 * i + 1) l ≡ (S ++ h ∷ []) ++ l ∷ D
    = ap (λ (zs : List ℕ). set zs (2 * i + 1) l) (sym (append_assoc S (h ∷ []) (get_or was (2 * i + 1) 0 ∷ D))) ∙ set_at (S ++ h ∷ []) (get_or was (2 * i + 1) 0) D l (2 * i + 1) t in
    let p : spell (take (i + 1) bytes) ≡ S ++ h ∷ l ∷ []
    = ap spell (take_more bytes i 0 m) ∙ spell-push (take i bytes) (get_or bytes i 0) ∙ ap₂ (λ (x y : ℕ). S ++ x ∷ y ∷ []) (sym eh) (sym el) in
    ap (λ (zs : List ℕ). set zs (2 * i + 1) l) a ∙ b ∙ append_assoc S (h ∷ []) (l ∷ D) ∙ sym (ap (λ (zs : List ℕ). zs ++ D) p ∙ append_assoc S (h ∷ l ∷ []) D)

-- a line that is 0A throughout, spelled into up to its last byte
pub spelled-line : (bytes was out : List ℕ) (r : ℕ) → length was ≡ 2 * length bytes + 1 → drop (2 * length bytes) was ≡ 10 ∷ [] →
    r ≡ 2 * min (length bytes) (length was / 2) → out ≡ spell (take (r / 2) bytes) ++ drop r was → out ≡ written bytes
spelled-line bytes was out r l d e f =
    let m : min (length bytes) (length was / 2) ≡ length bytes = omega arith in
    let q : r / 2 ≡ length bytes = omega arith in
    let k : r ≡ 2 * length bytes = omega arith in
    let t : take (r / 2) bytes ≡ bytes = take_all (r / 2) bytes (omega arith) in
    f ∙ ap₂ (λ (xs ys : List ℕ). spell xs ++ ys) t (ap (λ (i : ℕ). drop i was) k ∙ d)

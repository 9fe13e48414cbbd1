-- What a call gives where its piece has a 0A.
use Rattle.std.proofs.Common.{◌≡◌, ℕ, ◌+◌, ◌<◌, true, false, List, [], ◌∷◌, ◌++◌, length, take, Some, None, Result, ap, ◌∙◌, arith}
use Rattle.std.proofs.lemmas.Bool.{lt-ltb, le-ltb}
use Rattle.lines.specs.declared.frame.Frame.{Frame}
use Rattle.refusals.specs.declared.refusal.Refusal.{Refusal}
use Rattle.lines.specs.Frames.{frame_of}
use Rattle.lines.specs.declared.reader.Fed.{Fed}
use Rattle.lines.specs.Lines.{up_to, ends}
use Rattle.lines.specs.Reading.{Reading, after, fed, next}
use Rattle.lines.proofs.Ending.{up_to-take}
use Rattle.lines.proofs.Cuts.{frame-front}

pub part-is : (p : List ℕ) (n : ℕ) → n ≡ length (up_to p) → take n p ≡ up_to p
part-is p n e = ap (λ (k : ℕ). take k p) e ∙ up_to-take p

pub ends-since : (p : List ℕ) (n : ℕ) → n ≡ length (up_to p) → n < length p → ends p ≡ true
ends-since p n e h = lt-ltb (length (up_to p)) (length p) (omega arith)

pub no-end-since : (p : List ℕ) (n : ℕ) → n ≡ length (up_to p) → n ≡ length p → ends p ≡ false
no-end-since p n e h = le-ltb (length (up_to p)) (length p) (omega arith)

pub fed-line : (v : Reading) (p : List ℕ) (n m : ℕ) (f : Result Frame Refusal) → n ≡ length (up_to p) → n < length p → m ≡ v.number → f ≡ frame_of (v.held ++ up_to p) →
    ◌≡◌ {A = Fed} (record { used = n + 1; line = Some (record { number = m; frame = f }) }) (fed v p)
fed-line v p n m f e h w g =
    let t : ends p ≡ true = ends-since p n e h in
    rw (t, e, w, g)

pub after_line : (v : Reading) (p : List ℕ) (n k : ℕ) → n ≡ length (up_to p) → n < length p → k ≡ next v.number →
    ◌≡◌ {A = Reading} (record { number = k; held = [] }) (after v p)
after_line v p n k e h w =
    let t : ends p ≡ true = ends-since p n e h in
    rw (t, w)

pub said-first : (held p : List ℕ) (n : ℕ) → n ≡ length (up_to p) → length held ≡ 0 → frame_of (take n p) ≡ frame_of (held ++ up_to p)
said-first [] p n e z = ap frame_of (part-is p n e)
said-first (b ∷ held) p n e z = absurd (omega arith)

pub said-later : (held kept p : List ℕ) (n : ℕ) → n ≡ length (up_to p) → kept ≡ take 201 (held ++ take n p) → frame_of kept ≡ frame_of (held ++ up_to p)
said-later held kept p n e k =
    ap frame_of (k ∙ ap (λ (zs : List ℕ). take 201 (held ++ zs)) (part-is p n e)) ∙ frame-front (held ++ up_to p)

pub fed-none : (v : Reading) (p : List ℕ) (n : ℕ) → n ≡ length (up_to p) → n ≡ length p → ◌≡◌ {A = Fed} (record { used = n; line = None }) (fed v p)
fed-none v p n e h =
    let t : ends p ≡ false = no-end-since p n e h in
    rw (t, h)

pub after_none : (v : Reading) (p : List ℕ) (n k : ℕ) (held : List ℕ) → n ≡ length (up_to p) → n ≡ length p → k ≡ v.number → held ≡ take 201 (v.held ++ p) →
    ◌≡◌ {A = Reading} (record { number = k; held = held }) (after v p)
after_none v p n k held e h w z =
    let t : ends p ≡ false = no-end-since p n e h in
    rw (t, w, z)

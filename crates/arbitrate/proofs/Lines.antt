-- What a line keeps of its bytes.
use Rattle.std.proofs.Common.{◌≡◌, ℕ, ◌<◌, [], ◌∷◌, ◌++◌, length, take, Ok, Err, Result, refl, ap, sym, ◌∙◌, arith, length-append}
use Rattle.std.proofs.lemmas.List.{take_all, take_at}
use Rattle.std.specs.Result.{IsOk, OnErr, OnOk}
use Rattle.arrayvec.specs.ArrayVec.{ArrayVec}

-- a byte was added, or there was no room for it
pub kept : {E : Type 0} (old new : ArrayVec ℕ) (byte : ℕ) (r : Result (Unit {0}) E)
    → (IsOk r → length old.items < 65) → OnOk r (new.items ≡ old.items ++ byte ∷ []) → OnErr r (new ≡ old) → OnErr r (length old.items ≡ 65)
    → new.items ≡ take 65 (old.items ++ byte ∷ [])
kept old new byte (Ok _) room added same full =
    let l : length old.items < 65 = room refl in
    added ∙ sym (take_all 65 (old.items ++ byte ∷ []) (omega (arith, length-append old.items (byte ∷ []))))
kept old new byte (Err _) room added same full = ap (λ (v : ArrayVec ℕ). v.items) same ∙ sym (take_at old.items (byte ∷ []) 65 full)

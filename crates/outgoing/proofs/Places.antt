-- Where the bytes of an output lie among the slot bytes.
use Rattle.std.proofs.Common.{◌≡◌, ℕ, zero, suc, ◌+◌, ◌-◌, ◌*◌, ◌<◌, ◌≤◌, true, List, ◌++◌, length, get_or, take, drop, refl, ap, ◌∙◌, arith, le-leb}
use borrow.Rule.Slice.PartMut.{put_mid}
use Rattle.std.proofs.lemmas.List.{drop-drop}
use Rattle.std.specs.Simd.{first_chunks}
use Rattle.law.specs.View.{part, parted}
use Rattle.outgoing.specs.SlotBytes.{has_part}

-- each of n outputs has its bytes among n times 53
pub has_part_lem : (o n : ℕ) (bytes : List ℕ) → o < n → n * 53 ≤ length bytes → has_part o bytes ≡ true
has_part_lem o n bytes below long = le-leb (o * 53 + 53) (length bytes) (omega arith)

-- chunk o of the first k chunks of n bytes
pub chunk_at : (n k o : ℕ) (bytes : List ℕ) (d : List ℕ) → o < k → get_or (first_chunks n k bytes) o d ≡ take n (drop (o * n) bytes)
chunk_at n zero o bytes d below = absurd (omega arith)
chunk_at n (suc k) zero bytes d below = let e : 0 * n ≡ 0 = omega arith in rw e refl
chunk_at n (suc k) (suc o) bytes d below = chunk_at n k o (drop n bytes) d (omega arith) ∙ ap (take n) (drop-drop (o * n) n bytes ∙ ap (λ (i : ℕ). drop i bytes) (omega arith))

-- the chunk of an output among the chunks of 53 bytes is its part
pub chunk_is_part : (o n : ℕ) (bytes line d : List ℕ) → o < n → line ≡ get_or (first_chunks 53 n bytes) o d → line ≡ part o bytes
chunk_is_part o n bytes line d below same =
    let long : (o * 53 + 53) - o * 53 ≡ 53 = omega arith in
    rw (long, same) (chunk_at 53 n o bytes d below)

-- the 53 bytes from `at` on, overwritten with the cell y, where `at` is the place of output o
pub overwritten : (at o : ℕ) (bytes x y : List ℕ) → at ≡ o * 53 → x ≡ y → put_mid at ((at + 53) - at) bytes x ≡ parted o y bytes
overwritten at o bytes x y place same =
    let long : (at + 53) - at ≡ 53 = omega arith in
    rw (long, same, place) (ap (λ (t : List ℕ). take (o * 53) bytes ++ (y ++ t)) (drop-drop 53 (o * 53) bytes))

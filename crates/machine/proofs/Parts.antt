-- What memory is after a call wrote to the part of it that the ports need.
use Rattle.std.proofs.Common.{◌≡◌, ℕ, ◌-◌, ◌≤◌, List, length, arith, length-append, length-drop, length-take}
use borrow.Rule.Slice.PartMut.{put_mid}
use Rattle.std.specs.List.{between}
use Rattle.std.proofs.lemmas.Slice.{between-put_mid}

pub length_part : {X : Type 0} (k : ℕ) (xs : List X) → k ≤ length xs → length (between 0 k xs) ≡ k
length_part k xs h = simp length-take (omega arith)

module _ {X : Type 0} (k : ℕ) (xs ys : List X) (h : k ≤ length xs) (e : length ys ≡ length (between 0 k xs)) where
  pub part-written : between 0 k (put_mid 0 (k - 0) xs ys) ≡ ys
  part-written = between-put_mid 0 (k - 0) xs ys k (omega arith) (omega (arith, length_part k xs h))

  pub length-written : length (put_mid 0 (k - 0) xs ys) ≡ length xs
  length-written = simp (length-append, length-drop) (omega (arith, length_part k xs h))

-- The links at the start: each block is free, and block i + 1 stands behind block i.
use Rattle.std.proofs.Common.{◌≡◌, ℕ, zero, suc, ◌+◌, ◌-◌, ◌<◌, cond, ltb, List, [], get_or, replicate, sym, refl, ap, ◌∙◌, ap₂, inl, inr, add-one, arith}
use mathlib.Core.Path.{fun_ext}
use Rattle.std.specs.List.{range_with_len}
use Rattle.std.proofs.lemmas.List.{get_or-replicate, ext_get_or}
use Rattle.std.proofs.lemmas.List.FromFn.{length-range_with_len, get_or-range_with_len}
use Rattle.std.proofs.lemmas.Bool.{cases_eq, cond_both, ltb-true, ne_eqb}
use Rattle.queues.specs.declared.block_list.BlockList.{BlockList}
use Rattle.queues.specs.Queues.{unused}
use Rattle.queues.specs.Linked.{behind, blocks_from, blocks_in, list_at, place, Inside, Apart, Covered, Ended, sum_of_counts}
use Rattle.queues.proofs.Views.{queues_in, queues_of}
use Rattle.queues.proofs.Following.{behind-zero, behind-suc, length-blocks, get_or-blocks, blocks-none}

-- the lists where the free list has B blocks, from the block 0 to the block `last`, and the queues none
abbrev pub lists-start : ℕ → ℕ → ℕ → BlockList
lists-start last B = list_at (replicate 8 (record { head = 0; tail = 0; count = 0 })) (record { head = 0; tail = last; count = B })

lists-start-queue : (last B q : ℕ) → q < 8 → lists-start last B q ≡ record { head = 0; tail = 0; count = 0 }
lists-start-queue last B q lq =
    ap (λ t. cond t (record { head = 0; tail = last; count = B }) (get_or (replicate 8 (record { head = 0; tail = 0; count = 0 })) q (record { head = 0; tail = 0; count = 0 }))) (ne_eqb q 8 (omega arith))
    ∙ get_or-replicate 8 q _ _ lq

module _ (B last : ℕ) (next : List ℕ) (up : (k : ℕ) → k < B → get_or next k 0 ≡ k + 1) where
  behind-start : (i : ℕ) → i < B → behind next 0 i ≡ i
  behind-start zero li = behind-zero next 0
  behind-start (suc i) li =
      let l : i < B = omega arith in
      behind-suc next 0 i ∙ ap (λ k. get_or next k 0) (behind-start i l) ∙ up i l ∙ add-one i

  place-start : (q i : ℕ) → q < 9 → i < (lists-start last B q).count → (q ≡ 8) × (i < B) × (place next (lists-start last B) q i ≡ i)
  place-start q i lq li =
      elim (cases_eq q 8) [
        | inl e ↦
            let s : (lists-start last B q).count ≡ B = ap (λ k. (lists-start last B k).count) e in
            let l : i < B = omega arith in
            (e, l, ap (λ k. behind next (lists-start last B k).head i) e ∙ behind-start i l)
        | inr ne ↦ absurd (omega (arith, ap (λ l. l.count) (lists-start-queue last B q (omega arith))))
      ]

  pub inside-start : Inside B next (lists-start last B)
  inside-start q i lq li = let f = place-start q i lq li in omega arith

  pub apart-start : Apart next (lists-start last B)
  apart-start x h =
      let f = place-start x.0 x.1 h.0 h.2 in
      let g = place-start x.2 x.3 h.1 h.3 in
      (f.0 ∙ sym g.0, sym f.2 ∙ h.4 ∙ g.2)

  pub covered_start : Covered B next (lists-start last B)
  covered_start b lb = ∣ ((8, b), (omega arith, lb, behind-start b lb)) ∣₁

  pub ended-start : last ≡ B - 1 → Ended next (lists-start last B)
  ended-start e q lq p =
      let f = place-start q ((lists-start last B q).count - 1) lq (omega arith) in
      let s : (lists-start last B q).count ≡ B = ap (λ k. (lists-start last B k).count) f.0 in
      ap (λ k. (lists-start last B k).tail) f.0 ∙ e ∙ ap (λ n. n - 1) (sym s) ∙ sym f.2

  free-start : blocks_from next 0 B ≡ range_with_len 0 B
  free-start =
      ext_get_or 0 _ _ (length-blocks next 0 B ∙ sym (length-range_with_len 0 B))
      (λ i li. let l : i < B = omega (arith, length-blocks next 0 B) in
      get_or-blocks next 0 B i 0 l ∙ behind-start i l ∙ omega (arith, get_or-range_with_len 0 B i 0 l))

  queues-start : (q : ℕ) → q < 8 → blocks_in next (lists-start last B q) ≡ []
  queues-start q lq = ap (blocks_in next) (lists-start-queue last B q lq) ∙ blocks-none next 0

  pub view-start : queues_in next (lists-start last B) ≡ unused B
  view-start =
      ap₂ queues_of
      (fun_ext (λ q. cond_both (ltb q 8) (blocks_in next (lists-start last B q)) [] (λ l. l ≡ []) (λ t. queues-start q (ltb-true q 8 t)) (λ f. refl)))
      free-start

pub whole-start : (B last : ℕ) → sum_of_counts (replicate 8 (record { head = 0; tail = 0; count = 0 })) (record { head = 0; tail = last; count = B }) ≡ B
whole-start B last = omega arith

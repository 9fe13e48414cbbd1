-- What moving the head of the list a to the tail of the list b does to the lists.
use Rattle.std.proofs.Common.{◌≡◌, ℕ, zero, suc, ◌+◌, ◌-◌, ◌<◌, eqb, ◌⊎◌, List, [], ◌∷◌, ◌++◌, length, get_or, set, sym, refl, ap, ◌∙◌, subst, inl, inr, add-one, arith}
use mathlib.Core.Logic.{∥∥₁_map}
use Rattle.std.proofs.lemmas.List.{get_or-set_same, get_or-set_other}
use Rattle.std.proofs.lemmas.Bool.{cases_eq, cond-true, cond-false, eq-eqb, ne_eqb}
use Rattle.queues.specs.declared.block_list.BlockList.{BlockList}
use Rattle.queues.specs.BlockList.{popped, pushed, linked}
use Rattle.queues.specs.Linked.{behind, blocks_from, blocks_in, place, Inside, Apart, Covered, Ended}
use Rattle.queues.proofs.Following.{behind-next, behind-zero, behind-suc, walk, blocks-same, blocks-first, blocks_more}

-- the block at the head of the list a goes to the tail of the list b
pub record Relinked (a b : ℕ) (next : List ℕ) (lists : ℕ → BlockList) (next' : List ℕ) (lists' : ℕ → BlockList) : Type 0 where
  pub from : lists' a ≡ popped next (lists a)
  pub to : lists' b ≡ pushed (lists b) (lists a).head
  pub rest : (q : ℕ) → (q ≡ a → ⊥) → (q ≡ b → ⊥) → lists' q ≡ lists q
  pub links : next' ≡ linked (lists b) next (lists a).head

-- what stands in the lists then, and what the invariant says of them
pub record Moved (B a b : ℕ) (next : List ℕ) (lists : ℕ → BlockList) (next' : List ℕ) (lists' : ℕ → BlockList) : Type 0 where
  pub block : (lists a).head < B
  pub out : blocks_in next (lists a) ≡ (lists a).head ∷ blocks_in next' (lists' a)
  pub into : blocks_in next' (lists' b) ≡ blocks_in next (lists b) ++ ((lists a).head ∷ [])
  pub others : (q : ℕ) → q < 9 → (q ≡ a → ⊥) → (q ≡ b → ⊥) → blocks_in next' (lists' q) ≡ blocks_in next (lists q)
  pub inside : Inside B next' lists'
  pub apart : Apart next' lists'
  pub covered : Covered B next' lists'
  pub ended : Ended next' lists'

module _
    (B a b : ℕ) (next : List ℕ) (lists : ℕ → BlockList) (next' : List ℕ) (lists' : ℕ → BlockList)
    (la : a < 9) (lb : b < 9) (ne : a ≡ b → ⊥) (pos : 0 < (lists a).count) (long : length next ≡ B)
    (inside : Inside B next lists) (apart : Apart next lists) (ended : Ended next lists)
    (P : Relinked a b next lists next' lists') where
  head-a : (lists' a).head ≡ get_or next (lists a).head 0
  head-a = ap (λ l. l.head) P.from

  head-b : 0 < (lists b).count → (lists' b).head ≡ (lists b).head
  head-b p = ap (λ l. l.head) P.to ∙ cond-false (eqb (lists b).count 0) (lists a).head (lists b).head (ne_eqb (lists b).count 0 (omega arith))

  head-new : (lists b).count ≡ 0 → (lists' b).head ≡ (lists a).head
  head-new e = ap (λ l. l.head) P.to ∙ cond-true (eqb (lists b).count 0) (lists a).head (lists b).head (eq-eqb (lists b).count 0 e)

  head-q : (q : ℕ) → (q ≡ a → ⊥) → (q ≡ b → ⊥) → (lists' q).head ≡ (lists q).head
  head-q q na nb = ap (λ l. l.head) (P.rest q na nb)

  count-a : (lists' a).count + 1 ≡ (lists a).count
  count-a = omega (arith, ap (λ l. l.count) P.from)

  count-b : (lists' b).count ≡ (lists b).count + 1
  count-b = ap (λ l. l.count) P.to

  count-q : (q : ℕ) → (q ≡ a → ⊥) → (q ≡ b → ⊥) → (lists' q).count ≡ (lists q).count
  count-q q na nb = ap (λ l. l.count) (P.rest q na nb)

  no-link : (lists b).count ≡ 0 → next' ≡ next
  no-link e = P.links ∙ cond-true (eqb (lists b).count 0) next (set next (lists b).tail (lists a).head) (eq-eqb (lists b).count 0 e)

  linked-behind : 0 < (lists b).count → next' ≡ set next (place next lists b ((lists b).count - 1)) (lists a).head
  linked-behind p =
      P.links ∙ cond-false (eqb (lists b).count 0) next (set next (lists b).tail (lists a).head) (ne_eqb (lists b).count 0 (omega arith))
      ∙ ap (λ k. set next k (lists a).head) (ended b lb p)

  link : 0 < (lists b).count → get_or next' (place next lists b ((lists b).count - 1)) 0 ≡ (lists a).head
  link p =
      ap (λ l. get_or l (place next lists b ((lists b).count - 1)) 0) (linked-behind p)
      ∙ get_or-set_same next _ _ 0 (omega (arith, inside b ((lists b).count - 1) lb (omega arith)))

  keep : (k : ℕ) → (0 < (lists b).count → k ≡ place next lists b ((lists b).count - 1) → ⊥) → get_or next' k 0 ≡ get_or next k 0
  keep k off =
      elim (cases_eq (lists b).count 0) [
        | inl e ↦ ap (λ l. get_or l k 0) (no-link e)
        | inr n ↦ ap (λ l. get_or l k 0) (linked-behind (omega arith)) ∙ get_or-set_other next _ k _ 0 (off (omega arith))
      ]

  keep_at :
      (q i : ℕ) → q < 9 → i < (lists q).count → (q ≡ b → i + 1 < (lists q).count)
      → get_or next' (place next lists q i) 0 ≡ get_or next (place next lists q i) 0
  keep_at q i lq li off =
      keep _ (λ pos e.
      let x = apart (q, i, b, (lists b).count - 1) (lq, lb, li, omega arith, e) in
      let o : i + 1 < (lists q).count = off x.0 in
      let s : (lists q).count ≡ (lists b).count = ap (λ k. (lists k).count) x.0 in
      omega (arith, x.1))

  other :
      (q : ℕ) → q < 9 → (q ≡ a → ⊥) → (q ≡ b → ⊥) → (i : ℕ) → i < (lists q).count
      → place next' lists' q i ≡ place next lists q i
  other q lq na nb i li =
      ap (λ h. behind next' h i) (head-q q na nb)
      ∙ walk next next' (lists q).head (lists q).count
      (λ k lk. keep_at q k lq (omega arith) (λ e. absurd (nb e))) i li

  stay : (i : ℕ) → i < (lists b).count → place next' lists' b i ≡ place next lists b i
  stay i li =
      ap (λ h. behind next' h i) (head-b (omega arith))
      ∙ walk next next' (lists b).head (lists b).count
      (λ k lk. keep_at b k lb (omega arith) (λ e. lk)) i li

  up : (i : ℕ) → suc i < (lists a).count → place next' lists' a i ≡ place next lists a (suc i)
  up i li =
      ap (λ h. behind next' h i) head-a
      ∙ walk next next' (get_or next (lists a).head 0) ((lists a).count - 1)
      (λ k lk. subst (λ n. get_or next' n 0 ≡ get_or next n 0) (sym (behind-next next (lists a).head k))
      (keep_at a (suc k) la (omega arith) (λ e. absurd (ne e)))) i (omega arith)
      ∙ behind-next next (lists a).head i

  end-at : (m : ℕ) → (lists b).count ≡ m → place next' lists' b m ≡ (lists a).head
  end-at zero e = behind-zero next' (lists' b).head ∙ head-new e
  end-at (suc m) e =
      behind-suc next' (lists' b).head m
      ∙ ap (λ k. get_or next' k 0) (stay m (omega arith))
      ∙ (let i : m ≡ (lists b).count - 1 = omega arith in
      subst (λ n. get_or next' (place next lists b n) 0 ≡ (lists a).head) (sym i) (link (omega arith)))

  end : place next' lists' b (lists b).count ≡ place next lists a 0
  end = end-at (lists b).count refl ∙ sym (behind-zero next (lists a).head)

  -- the place p, j from which the block at the place q, i came
  record Came (q i : ℕ) : Type 0 where
    p : ℕ
    j : ℕ
    lp : p < 9
    lj : j < (lists p).count
    same : place next' lists' q i ≡ place next lists p j
    how : ((p ≡ a) × (j ≡ 0) × (q ≡ b) × (i ≡ (lists b).count)) ⊎ (((p ≡ a) × (j ≡ i + 1) × (q ≡ a)) ⊎ ((p ≡ a → ⊥) × (q ≡ p) × (i ≡ j)))

  came : (q i : ℕ) → q < 9 → i < (lists' q).count → Came q i
  came q i lq li =
      elim (cases_eq q a) [
        | inl e ↦ let s : (lists' q).count ≡ (lists' a).count = ap (λ k. (lists' k).count) e in
            record {
              p = a;
              j = suc i;
              lp = la;
              lj = omega (arith, count-a);
              same = ap (λ k. place next' lists' k i) e ∙ up i (omega (arith, count-a));
              how = inr (inl (refl, sym (add-one i), e));
            }
        | inr na ↦ elim (cases_eq q b) [
          | inl e ↦ let s : (lists' q).count ≡ (lists' b).count = ap (λ k. (lists' k).count) e in
              elim (cases_eq i (lists b).count) [
                | inl f ↦ record {
                  p = a;
                  j = 0;
                  lp = la;
                  lj = omega (arith, count-a);
                  same = ap (λ k. place next' lists' k i) e ∙ ap (λ k. place next' lists' b k) f ∙ end;
                  how = inl (refl, refl, e, f);
                }
                | inr f ↦ record {
                  p = b;
                  j = i;
                  lp = lb;
                  lj = omega (arith, count-b);
                  same = ap (λ k. place next' lists' k i) e ∙ stay i (omega (arith, count-b));
                  how = inr (inr (λ x. ne (sym x), e, refl));
                }
              ]
          | inr nb ↦ record {
            p = q;
            j = i;
            lp = lq;
            lj = omega (arith, count-q q na nb);
            same = other q lq na nb i (omega (arith, count-q q na nb));
            how = inr (inr (na, refl, refl));
          }
        ]
      ]

  inside-after : Inside B next' lists'
  inside-after q i lq li =
      let o = came q i lq li in
      let h : place next lists o.p o.j < B = inside o.p o.j o.lp o.lj in
      subst (λ x. x < B) (sym o.same) h

  apart-how : (p q i j : ℕ) (x : Came p i) (y : Came q j) → x.p ≡ y.p → x.j ≡ y.j → (p ≡ q) × (i ≡ j)
  apart-how p q i j x y e f =
      let h = x.how in let k = y.how in omega arith

  apart-after : Apart next' lists'
  apart-after z h =
      let x = came z.0 z.1 h.0 h.2 in
      let y = came z.2 z.3 h.1 h.3 in
      let r = apart (x.p, x.j, y.p, y.j) (x.lp, y.lp, x.lj, y.lj, sym x.same ∙ h.4 ∙ y.same) in
      apart-how z.0 z.2 z.1 z.3 x y r.0 r.1

  goes-else :
      (d p j : ℕ) → (p ≡ a → ⊥) → (p < 9) × (j < (lists p).count) × (place next lists p j ≡ d)
      → (y : ℕ × ℕ) × ((y.0 < 9) × (y.1 < (lists' y.0).count) × (place next' lists' y.0 y.1 ≡ d))
  goes-else d p j na h =
      elim (cases_eq p b) [
        | inl e ↦
            let s : (lists p).count ≡ (lists b).count = ap (λ k. (lists k).count) e in
            ((b, j), (lb, omega (arith, count-b), stay j (omega arith) ∙ ap (λ k. place next lists k j) (sym e) ∙ h.2))
        | inr nb ↦ ((p, j), (h.0, omega (arith, count-q p na nb), other p h.0 na nb j h.1 ∙ h.2))
      ]

  -- where the block at the place x goes
  goes :
      (d : ℕ) (x : ℕ × ℕ) → (x.0 < 9) × (x.1 < (lists x.0).count) × (place next lists x.0 x.1 ≡ d)
      → (y : ℕ × ℕ) × ((y.0 < 9) × (y.1 < (lists' y.0).count) × (place next' lists' y.0 y.1 ≡ d))
  goes d (p, zero) h =
      elim (cases_eq p a) [
        | inl e ↦ ((b, (lists b).count), (lb, omega (arith, count-b), end ∙ ap (λ k. place next lists k 0) (sym e) ∙ h.2))
        | inr na ↦ goes-else d p zero na h
      ]
  goes d (p, suc j) h =
      elim (cases_eq p a) [
        | inl e ↦
            let s : (lists p).count ≡ (lists a).count = ap (λ k. (lists k).count) e in
            ((a, j), (la, omega (arith, count-a), up j (omega arith) ∙ ap (λ k. place next lists k (suc j)) (sym e) ∙ h.2))
        | inr na ↦ goes-else d p (suc j) na h
      ]

  covered-after : Covered B next lists → Covered B next' lists'
  covered-after all d ld = ∥∥₁_map (all d ld) (λ x. goes d x.0 x.1)

  ended-after : Ended next' lists'
  ended-after q lq p =
      elim (cases_eq q b) [
        | inl e ↦
            let n : (lists b).count ≡ (lists' q).count - 1 = omega (arith, count-b, ap (λ k. (lists' k).count) e) in
            ap (λ k. (lists' k).tail) e ∙ ap (λ l. l.tail) P.to ∙ sym (end-at (lists b).count refl)
            ∙ ap (λ k. place next' lists' k (lists b).count) (sym e) ∙ ap (λ k. place next' lists' q k) n
        | inr nb ↦ elim (cases_eq q a) [
          | inl e ↦
              let s : (lists' q).count ≡ (lists' a).count = ap (λ k. (lists' k).count) e in
              let n : (lists a).count - 1 ≡ suc ((lists' q).count - 1) = omega (arith, count-a) in
              ap (λ k. (lists' k).tail) e ∙ ap (λ l. l.tail) P.from ∙ ended a la pos
              ∙ ap (λ k. place next lists a k) n ∙ sym (up ((lists' q).count - 1) (omega (arith, count-a)))
              ∙ ap (λ k. place next' lists' k ((lists' q).count - 1)) (sym e)
          | inr na ↦
              let s : (lists' q).count ≡ (lists q).count = count-q q na nb in
              ap (λ l. l.tail) (P.rest q na nb) ∙ ended q lq (omega arith) ∙ sym (other q lq na nb ((lists q).count - 1) (omega arith))
              ∙ ap (λ k. place next' lists' q (k - 1)) (sym s)
        ]
      ]

  out-after :
      blocks_from next (lists a).head (lists a).count ≡ (lists a).head ∷ blocks_from next' (lists' a).head (lists' a).count
  out-after =
      let n : (lists a).count ≡ suc (lists' a).count = omega (arith, count-a) in
      ap (λ k. blocks_from next (lists a).head k) n ∙ blocks-first next (lists a).head (lists' a).count
      ∙ ap (λ l. (lists a).head ∷ l)
      (blocks-same next' next (lists' a).head (get_or next (lists a).head 0) (lists' a).count
      (λ i li. behind-next next (lists a).head i ∙ sym (up i (omega arith))))

  into-after :
      blocks_from next' (lists' b).head (lists' b).count ≡ blocks_from next (lists b).head (lists b).count ++ ((lists a).head ∷ [])
  into-after =
      let n : (lists' b).count ≡ suc (lists b).count = omega (arith, count-b) in
      ap (λ k. blocks_from next' (lists' b).head k) n ∙ blocks_more next' (lists' b).head (lists b).count
      ∙ ap (λ l. l ++ (behind next' (lists' b).head (lists b).count ∷ []))
      (blocks-same next next' (lists b).head (lists' b).head (lists b).count stay)
      ∙ ap (λ x. blocks_from next (lists b).head (lists b).count ++ (x ∷ [])) (end-at (lists b).count refl)

  others-after : (q : ℕ) → q < 9 → (q ≡ a → ⊥) → (q ≡ b → ⊥) → blocks_in next' (lists' q) ≡ blocks_in next (lists q)
  others-after q lq na nb =
      ap (λ n. blocks_from next' (lists' q).head n) (count-q q na nb)
      ∙ blocks-same next next' (lists q).head (lists' q).head (lists q).count (other q lq na nb)

  pub moved : Covered B next lists → Moved B a b next lists next' lists'
  moved covered = record {
    block = omega (arith, inside a 0 la pos, behind-zero next (lists a).head);
    out = out-after;
    into = into-after;
    others = others-after;
    inside = inside-after;
    apart = apart-after;
    covered = covered-after covered;
    ended = ended-after;
  }

-- the head of a list that has one is a block
pub head-inside : {B : ℕ} (next : List ℕ) (lists : ℕ → BlockList) (q : ℕ) → Inside B next lists → q < 9 → 0 < (lists q).count → (lists q).head < B
head-inside next lists q inside lq p = omega (arith, inside q 0 lq p, behind-zero next (lists q).head)

-- and so is the last of it
pub tail-inside :
    {B : ℕ} (next : List ℕ) (lists : ℕ → BlockList) (q : ℕ) → Inside B next lists → Ended next lists → q < 9 → 0 < (lists q).count → (lists q).tail < B
tail-inside next lists q inside ended lq p = omega (arith, ended q lq p, inside q ((lists q).count - 1) lq (omega arith))

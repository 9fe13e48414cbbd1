-- The view of the links: how it reads, and how it changes where the head of one list moves to another.
use Rattle.std.proofs.Common.{◌≡◌, ℕ, ◌<◌, ◌≤◌, cond, eqb, ltb, List, [], ◌∷◌, ◌++◌, Some, None, drop, sym, refl, ap, ◌∙◌, subst, ap₂, inl, inr, arith}
use mathlib.Core.Path.{fun_ext}
use Rattle.std.proofs.lemmas.Bool.{cases_eq, cases_lt, lt-ltb, le-ltb, eq-eqb, ne_eqb, cond-true, cond-false}
use Rattle.queues.specs.declared.block_list.BlockList.{BlockList}
use Rattle.queues.specs.BlockList.{first_of}
use Rattle.queues.specs.Linked.{blocks_from, blocks_in, Inside}
use Rattle.queues.specs.Queues.{Queues, put, joined, joined_by, taken, taken_by}
use Rattle.queues.specs.Moves.{Heads, Appends, Releases}
use Rattle.queues.proofs.Moving.{Moved, head-inside}
use Rattle.queues.proofs.Following.{blocks-none, blocks-heads}

abbrev pub queues_of : (ℕ → List ℕ) → List ℕ → Queues
queues_of f b = record { queue = f; free = b }

pub put_same : {X : Type 0} (f : ℕ → X) (k : ℕ) (x : X) (j : ℕ) → j ≡ k → put f k x j ≡ x
put_same f k x j e = ap (λ b. cond b x (f j)) (eq-eqb j k e)

pub put_other : {X : Type 0} (f : ℕ → X) (k : ℕ) (x : X) (j : ℕ) → (j ≡ k → ⊥) → put f k x j ≡ f j
put_other f k x j ne = ap (λ b. cond b x (f j)) (ne_eqb j k ne)

-- the queues and the free blocks of the lists: what `view` is of the links
abbrev pub queues_in : List ℕ → (ℕ → BlockList) → Queues
queues_in next lists = queues_of (λ q. cond (ltb q 8) (blocks_in next (lists q)) []) (blocks_in next (lists 8))

pub queue_in : (next : List ℕ) (lists : ℕ → BlockList) (q : ℕ) → q < 8 → (queues_in next lists).queue q ≡ blocks_in next (lists q)
queue_in next lists q lt = ap (λ b. cond b (blocks_in next (lists q)) []) (lt-ltb q 8 lt)

queue_in-none : (next : List ℕ) (lists : ℕ → BlockList) (q : ℕ) → 8 ≤ q → (queues_in next lists).queue q ≡ []
queue_in-none next lists q ge = ap (λ b. cond b (blocks_in next (lists q)) []) (le-ltb q 8 ge)

pub heads :
    {B : ℕ} (next : List ℕ) (lists : ℕ → BlockList) (q : ℕ) → q < 8 → Inside B next lists → Heads B (queues_in next lists) q (first_of (lists q))
heads {B} next lists q lq inside =
    let l = lists q in
    let e = queue_in next lists q lq in
    elim (cases_eq l.count 0) [
      | inl z ↦ subst (Heads B (queues_in next lists) q) (sym (cond-true (eqb l.count 0) None (Some l.head) (eq-eqb l.count 0 z)))
          (e ∙ ap (λ n. blocks_from next l.head n) z ∙ blocks-none next l.head)
      | inr n ↦ subst (Heads B (queues_in next lists) q) (sym (cond-false (eqb l.count 0) None (Some l.head) (ne_eqb l.count 0 n)))
          (head-inside next lists q inside (omega arith) (omega arith), e ∙ blocks-heads next l.head l.count (omega arith) ∙ ap (λ r. l.head ∷ drop 1 r) (sym e))
    ]

module _ (next : List ℕ) (lists : ℕ → BlockList) (next' : List ℕ) (lists' : ℕ → BlockList) (q : ℕ) (lq : q < 8) where
  -- only the queue q has changed
  queue-changed :
      (rest : List ℕ) → blocks_in next' (lists' q) ≡ rest
      → ((p : ℕ) → p < 8 → (p ≡ q → ⊥) → blocks_in next' (lists' p) ≡ blocks_in next (lists p))
      → (queues_in next' lists').queue ≡ put (queues_in next lists).queue q rest
  queue-changed rest now-is others = fun_ext (λ p.
      elim (cases_eq p q) [
        | inl e ↦ ap (queues_in next' lists').queue e ∙ queue_in next' lists' q lq ∙ now-is ∙ sym (put_same (queues_in next lists).queue q rest p e)
        | inr ne ↦ elim (cases_lt p 8) [
          | inl lt ↦ queue_in next' lists' p lt ∙ others p lt ne ∙ sym (queue_in next lists p lt)
          | inr ge ↦ queue_in-none next' lists' p ge ∙ sym (queue_in-none next lists p ge)
        ] ∙ sym (put_other (queues_in next lists).queue q rest p ne)
      ])

  queues_in-joined : {B : ℕ} → Moved B 8 q next lists next' lists' → queues_in next' lists' ≡ joined (queues_in next lists) q
  queues_in-joined m =
      ap (λ f. queues_of f (blocks_in next' (lists' 8)))
      (queue-changed ((queues_in next lists).queue q ++ ((lists 8).head ∷ []))
      (m.into ∙ ap (λ l. l ++ ((lists 8).head ∷ [])) (sym (queue_in next lists q lq)))
      (λ p lp ne. m.others p (omega arith) (omega arith) ne))
      ∙ ap (joined_by (queues_in next lists) q) (sym m.out)

  queues_in-taken : {B : ℕ} → Moved B q 8 next lists next' lists' → queues_in next' lists' ≡ taken (queues_in next lists) q
  queues_in-taken m =
      ap₂ queues_of (queue-changed (blocks_in next' (lists' q)) refl (λ p lp ne. m.others p (omega arith) ne (omega arith))) m.into
      ∙ ap (taken_by (queues_in next lists) q) (sym (queue_in next lists q lq ∙ m.out))

  pub appends : {B : ℕ} (b : ℕ) → b ≡ (lists 8).head → Moved B 8 q next lists next' lists' → Appends B (queues_in next lists) (queues_in next' lists') q (Some b)
  appends b e m = (omega (arith, m.block), m.out ∙ ap (λ x. x ∷ blocks_in next' (lists' 8)) (sym e), queues_in-joined m)

  pub releases :
      {B : ℕ} (b : ℕ) → b ≡ (lists q).head → Moved B q 8 next lists next' lists' → Releases B (queues_in next lists) (queues_in next' lists') q (Some b)
  releases b e m = (
    omega (arith, m.block),
    queue_in next lists q lq ∙ m.out ∙ ap₂ (λ x l. x ∷ l) (sym e) (sym (queue_in next' lists' q lq)),
    queues_in-taken m,
  )

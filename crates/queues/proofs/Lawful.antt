-- The law holds after every run: it holds at the start, and each call keeps it.
use Rattle.std.proofs.Common.{◌≡◌, ℕ, zero, suc, ◌+◌, ◌<◌, ◌≤◌, cond, eqb, List, [], ◌∷◌, ◌++◌, map, length, set, Some, Ok, Err, Option, Result, sym, refl, ap, ◌∙◌, subst, ap₂, inl, inr, append_assoc, append-nil, arith}
use Rattle.std.specs.List.{slice_get}
use Rattle.std.proofs.lemmas.List.{map-append}
use Rattle.std.proofs.lemmas.Bool.{cases_eq, cases_lt, eq-eqb, ne_eqb, lt-ltb}
use Rattle.queues.specs.declared.refusal.QueueRefusal.{QueueRefusal}
use Rattle.queues.specs.declared.refusal.QueueRefusal.TheVariants.{NoSuchQueue, BlockCount, NoFreeBlock}
use Rattle.queues.specs.Queues.{Queues, put, unused}
use Rattle.queues.specs.Calls.{Outcome, then, unless, join_by, join_call}
use Rattle.queues.specs.Runs.{Event, Join, Take, Run, start, join, take, join-refused, take-refused, entered, left, joined_to, taken_from, times, in_queues, FirstTaken, AllHold, Law, FirstInFirstOut}
use Rattle.queues.proofs.Views.{queues_of, put_same, put_other}
use Rattle.queues.proofs.Counting.{times-same, times-other, sum-above, times-joined, times-taken, times-counting, times-beyond}
use Rattle.queues.proofs.Cases.{Joins, Takes, join-cases, take_cases}

nth-set-other : {E : Type 0} (xs : List E) (b k : ℕ) (v : E) → (b ≡ k → ⊥) → slice_get (set xs b v) k ≡ slice_get xs k
nth-set-other [] b k v ne = refl
nth-set-other (x ∷ xs) zero zero v ne = absurd (ne refl)
nth-set-other (x ∷ xs) zero (suc k) v ne = refl
nth-set-other (x ∷ xs) (suc b) zero v ne = refl
nth-set-other (x ∷ xs) (suc b) (suc k) v ne = nth-set-other xs b k v (λ e. ne (ap suc e))

nth-set-same : {E : Type 0} (xs : List E) (b : ℕ) (v : E) → b < length xs → slice_get (set xs b v) b ≡ Some v
nth-set-same [] b v l = absurd (omega arith)
nth-set-same (x ∷ xs) zero v l = refl
nth-set-same (x ∷ xs) (suc b) v l = nth-set-same xs b v (omega arith)

-- a write to the block b leaves what a list of other blocks holds
held-apart : {E : Type 0} (xs : List E) (b : ℕ) (v : E) (l : List ℕ) → times b l ≡ 0 → map (slice_get (set xs b v)) l ≡ map (slice_get xs) l
held-apart xs b v [] z = refl
held-apart xs b v (k ∷ l) z =
    elim (cases_eq b k) [
      | inl e ↦ absurd (omega (arith, times-same b k l e))
      | inr ne ↦
          ap₂ (λ x r. x ∷ r) (nth-set-other xs b k v ne) (held-apart xs b v l (omega (arith, times-other b k l ne)))
    ]

-- what the law says but for the refusal of a join, which follows from it
record Kept {E : Type 0} (B : ℕ) (es : List (Event E)) (s : Queues) (xs : List E) : Type 0 where
  in_order : (q : ℕ) → q < 8 → FirstTaken (joined_to q es) (taken_from q es) (map (slice_get xs) (s.queue q))
  once : (b : ℕ) → b < B → times b s.free + in_queues b s ≡ 1
  no_other : (b : ℕ) → B ≤ b → times b s.free + in_queues b s ≡ 0

-- nothing joined and nothing was taken
same_taken : {E : Type 0} (joins takes : List E) (held : List (Option E)) → FirstTaken joins takes held → FirstTaken (joins ++ []) (takes ++ []) held
same_taken joins takes held f = record {
  rest = f.rest;
  first = append-nil joins ∙ f.first ∙ ap (λ l. l ++ f.rest) (sym (append-nil takes));
  holds = f.holds;
}

kept-start : {E : Type 0} (B : ℕ) (xs : List E) → Kept B [] (unused B) xs
kept-start B xs = record {
  in_order = λ q lq. record { rest = []; first = refl; holds = refl };
  once = λ b lb. omega (arith, times-counting 0 B b (omega arith) (omega arith));
  no_other = λ b lb. omega (arith, times-beyond 0 B b (omega arith));
}

-- an event by which nothing joined and nothing was taken
kept-refused :
    {E : Type 0} (B : ℕ) (es : List (Event E)) (s : Queues) (xs : List E) (e : Event E)
    → ((q : ℕ) → entered q e ≡ []) → ((q : ℕ) → left q e ≡ []) → Kept B es s xs → Kept B (e ∷ es) s xs
kept-refused B es s xs e none_in none_out k = record {
  in_order = λ q lq.
      subst (λ x. FirstTaken (joined_to q es ++ x) (taken_from q es ++ left q e) (map (slice_get xs) (s.queue q))) (sym (none_in q))
      (subst (λ y. FirstTaken (joined_to q es ++ []) (taken_from q es ++ y) (map (slice_get xs) (s.queue q))) (sym (none_out q))
      (same_taken (joined_to q es) (taken_from q es) (map (slice_get xs) (s.queue q)) (k.in_order q lq)));
  once = k.once;
  no_other = k.no_other;
}

module _ {E : Type 0} (B : ℕ) (es : List (Event E)) (s : Queues) (xs : List E) (q : ℕ) (k : Kept B es s xs) where
  -- the first free block is one of the B, and stands in no queue
  free-inside : (b : ℕ) (rest : List ℕ) → s.free ≡ b ∷ rest → b < B
  free-inside b rest e =
      elim (cases_lt b B) [
        | inl lt ↦ lt
        | inr ge ↦ absurd (omega (arith, k.no_other b ge, ap (times b) e, times-same b b rest refl))
      ]

  free-apart : (b : ℕ) (rest : List ℕ) → s.free ≡ b ∷ rest → (p : ℕ) → p < 8 → times b (s.queue p) ≡ 0
  free-apart b rest e p lp =
      omega (arith, k.once b (free-inside b rest e), ap (times b) e, times-same b b rest refl, sum-above (λ p. times b (s.queue p)) 8 p lp)

  kept-joined :
      (v : E) (ahead : ℕ) (j : Joins B s xs q v)
      → Kept B (Join q v (Ok ahead) ∷ es) (queues_of (put s.queue q (s.queue q ++ (j.block ∷ []))) j.rest) (set xs j.block v)
  kept-joined v ahead j =
      let b = j.block in
      let ys = set xs b v in
      let full = s.queue q ++ (b ∷ []) in
      let apart = free-apart b j.rest j.first in
      record {
        in_order = λ p lp.
            let f = k.in_order p lp in
            elim (cases_eq p q) [
              | inl e ↦ record {
                rest = f.rest ++ (v ∷ []);
                first = ap (λ t. joined_to p es ++ cond t (v ∷ []) []) (eq-eqb p q e) ∙ ap (λ l. l ++ (v ∷ [])) f.first
                    ∙ append_assoc (taken_from p es) f.rest (v ∷ [])
                    ∙ ap (λ l. l ++ (f.rest ++ (v ∷ []))) (sym (append-nil (taken_from p es)));
                holds = ap (map (slice_get ys)) (put_same s.queue q full p e ∙ ap (λ i. s.queue i ++ (b ∷ [])) (sym e))
                    ∙ map-append (slice_get ys) (s.queue p) (b ∷ [])
                    ∙ ap₂ (λ l x. l ++ (x ∷ [])) (held-apart xs b v (s.queue p) (apart p lp))
                    (nth-set-same xs b v (omega (arith, free-inside b j.rest j.first, j.blocks)))
                    ∙ ap (λ l. l ++ (Some v ∷ [])) f.holds ∙ sym (map-append Some f.rest (v ∷ []));
              }
              | inr ne ↦ record {
                rest = f.rest;
                first = ap (λ t. joined_to p es ++ cond t (v ∷ []) []) (ne_eqb p q ne) ∙ append-nil (joined_to p es) ∙ f.first
                    ∙ ap (λ l. l ++ f.rest) (sym (append-nil (taken_from p es)));
                holds = ap (map (slice_get ys)) (put_other s.queue q full p ne) ∙ held-apart xs b v (s.queue p) (apart p lp) ∙ f.holds;
              }
            ];
        once = λ c lc. omega (arith, times-joined s.queue b j.rest q c j.queue, ap (times c) j.first, k.once c lc);
        no_other = λ c lc. omega (arith, times-joined s.queue b j.rest q c j.queue, ap (times c) j.first, k.no_other c lc);
      }

  -- the first of what the blocks hold is the first of the rest
  first-held :
      (v : E) (hs : List (Option E)) (l : List E) → Some v ∷ hs ≡ map Some l
      → (more : List E) × (l ≡ v ∷ more) × (hs ≡ map Some more)
  first-held v hs [] e = absurd cc
  first-held v hs (x ∷ l) e = (l, cc, cc)

  kept-taken :
      (t : Takes B s xs q)
      → Kept B (Take q (Ok t.element) ∷ es) (queues_of (put s.queue q t.rest) (s.free ++ (t.block ∷ []))) xs
  kept-taken t =
      let v = t.element in
      record {
        in_order = λ p lp.
            let f = k.in_order p lp in
            elim (cases_eq p q) [
              | inl e ↦
                  let m = first-held v (map (slice_get xs) t.rest) f.rest
                  (ap (λ x. x ∷ map (slice_get xs) t.rest) (sym t.holds) ∙ ap (map (slice_get xs)) (sym (ap s.queue e ∙ t.first)) ∙ f.holds) in
                  record {
                    rest = m.0;
                    first = append-nil (joined_to p es) ∙ f.first ∙ ap (λ l. taken_from p es ++ l) m.1
                        ∙ sym (append_assoc (taken_from p es) (v ∷ []) m.0)
                        ∙ ap (λ b. (taken_from p es ++ cond b (v ∷ []) []) ++ m.0) (sym (eq-eqb p q e));
                    holds = ap (map (slice_get xs)) (put_same s.queue q t.rest p e) ∙ m.2;
                  }
              | inr ne ↦ record {
                rest = f.rest;
                first = append-nil (joined_to p es) ∙ f.first
                    ∙ ap (λ l. l ++ f.rest) (sym (ap (λ b. taken_from p es ++ cond b (v ∷ []) []) (ne_eqb p q ne) ∙ append-nil (taken_from p es)));
                holds = ap (map (slice_get xs)) (put_other s.queue q t.rest p ne) ∙ f.holds;
              }
            ];
        once = λ c lc. omega (arith, times-taken s.queue s.free t.block t.rest q c t.queue t.first, k.once c lc);
        no_other = λ c lc. omega (arith, times-taken s.queue s.free t.block t.rest q c t.queue t.first, k.no_other c lc);
      }

  -- a join that is not refused for what is handed in is one by the free blocks
  join_free : (v : E) → q < 8 → length xs ≡ B → join_call B s xs q v ≡ join_by s xs q v s.free
  join_free v lq n =
      ap (λ r. unless r s xs (join_by s xs q v s.free))
      (ap (λ b. then (cond b (Ok tt) (Err NoSuchQueue)) (cond (eqb (length xs) B) (Ok tt) (Err BlockCount))) (lt-ltb q 8 lq)
      ∙ ap (λ b. cond b (Ok tt) (Err BlockCount)) (eq-eqb (length xs) B n))

  none_free : (v : E) (l : List ℕ) → (join_by s xs q v l).answer ≡ Err NoFreeBlock → l ≡ []
  none_free v [] e = refl
  none_free v (b ∷ l) e = absurd cc

  all_hold : AllHold B s → (l : List ℕ) → s.free ≡ l → l ≡ []
  all_hold all [] e = refl
  all_hold all (b ∷ l) e =
      let lt = free-inside b l e in
      absurd (omega (arith, k.once b lt, all b lt, ap (times b) e, times-same b b l refl))

kept-law : {E : Type 0} (B : ℕ) (es : List (Event E)) (s : Queues) (xs : List E) → Kept B es s xs → Law B es s xs
kept-law B es s xs k = record {
  in_order = k.in_order;
  once = k.once;
  no_other = k.no_other;
  refused_full = λ q v lq n e b lb.
      let none : s.free ≡ [] = none_free B es s xs q k v s.free (sym (ap (λ o. o.answer) (join_free B es s xs q k v lq n)) ∙ e) in
      omega (arith, k.once b lb, ap (times b) none);
  full-refused = λ q v lq n all.
      ap (λ o. o.answer) (join_free B es s xs q k v lq n ∙ ap (join_by s xs q v) (all_hold B es s xs q k all s.free refl));
}

ok-not-err : {A : Type 0} (x : A) (e : QueueRefusal) → ◌≡◌ {A = Result A QueueRefusal} (Ok x) (Err e) → ⊥
ok-not-err x e h = cc

kept : {E : Type 0} (B : ℕ) {es : List (Event E)} {s : Queues} {xs : List E} → Run B es s xs → Kept B es s xs
kept B (start xs) = kept-start B xs
kept B (join {es} {s} {xs} r q v) =
    let P : Outcome ℕ _ → Type 0 = λ o. Kept B (Join q v o.answer ∷ es) o.queues o.blocks in
    elim (join-cases B s xs q v) [
      | inl c ↦ subst P (sym c.1) (kept-refused B es s xs (Join q v (Err c.0)) (λ _. refl) (λ _. refl) (kept B r))
      | inr j ↦ subst P (sym j.comes) (kept-joined B es s xs q (kept B r) v (length (s.queue q)) j)
    ]
kept B (take {es} {s} {xs} r q) =
    let P : Outcome _ _ → Type 0 = λ o. Kept B (Take q o.answer ∷ es) o.queues o.blocks in
    elim (take_cases B s xs q) [
      | inl c ↦ subst P (sym c.1) (kept-refused B es s xs (Take q (Err c.0)) (λ _. refl) (λ _. refl) (kept B r))
      | inr t ↦ subst P (sym t.comes) (kept-taken B es s xs q (kept B r) t)
    ]
kept B (join-refused {es} {s} {xs} r ys q v e refused) =
    elim (join-cases B s ys q v) [
      | inl c ↦ subst (λ o. Kept B (Join q v (Err e) ∷ es) o.queues xs) (sym c.1)
          (kept-refused B es s xs (Join q v (Err e)) (λ _. refl) (λ _. refl) (kept B r))
      | inr j ↦ absurd (ok-not-err _ e (sym (ap (λ o. o.answer) j.comes) ∙ refused))
    ]
kept B (take-refused {es} {s} {xs} r ys q e refused) =
    elim (take_cases B s ys q) [
      | inl c ↦ subst (λ o. Kept B (Take q (Err e) ∷ es) o.queues xs) (sym c.1)
          (kept-refused B es s xs (Take q (Err e)) (λ _. refl) (λ _. refl) (kept B r))
      | inr t ↦ absurd (ok-not-err _ e (sym (ap (λ o. o.answer) t.comes) ∙ refused))
    ]

pub lawful : {E : Type 0} (B : ℕ) → FirstInFirstOut B E
lawful B es s xs r = kept-law B es s xs (kept B r)

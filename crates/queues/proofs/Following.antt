-- How a blocks_from of links reads, and what a write to the links leaves of it.
use Rattle.std.proofs.Common.{◌≡◌, ℕ, zero, suc, ◌+◌, ◌<◌, List, [], ◌∷◌, ◌++◌, length, get_or, drop, sym, refl, ap, ◌∙◌, arith}
use Rattle.std.proofs.lemmas.List.{ext_get_or}
use Rattle.queues.specs.Linked.{behind, blocks_from}

pub behind-next : (next : List ℕ) (h i : ℕ) → behind next (get_or next h 0) i ≡ behind next h (suc i)
unfolding behind
behind-next next h zero = refl
behind-next next h (suc i) = ap (λ k. get_or next k 0) (behind-next next h i)

pub behind-zero : (next : List ℕ) (h : ℕ) → behind next h 0 ≡ h
unfolding behind
behind-zero next h = refl

pub behind-suc : (next : List ℕ) (h i : ℕ) → behind next h (suc i) ≡ get_or next (behind next h i) 0
unfolding behind
behind-suc next h i = refl

-- where the links on the way are kept, so is the way
pub walk :
    (next new : List ℕ) (h n : ℕ)
    → ((i : ℕ) → i + 1 < n → get_or new (behind next h i) 0 ≡ get_or next (behind next h i) 0)
    → (i : ℕ) → i < n → behind new h i ≡ behind next h i
unfolding behind
walk next new h n keep zero lt = refl
walk next new h n keep (suc i) lt =
    ap (λ k. get_or new k 0) (walk next new h n keep i (omega arith)) ∙ keep i (omega arith)

pub length-blocks : (next : List ℕ) (h n : ℕ) → length (blocks_from next h n) ≡ n
unfolding blocks_from
length-blocks next h zero = refl
length-blocks next h (suc n) = ap suc (length-blocks next (get_or next h 0) n)

pub get_or-blocks : (next : List ℕ) (h n i d : ℕ) → i < n → get_or (blocks_from next h n) i d ≡ behind next h i
unfolding blocks_from behind
get_or-blocks next h zero i d lt = absurd (omega arith)
get_or-blocks next h (suc n) zero d lt = refl
get_or-blocks next h (suc n) (suc i) d lt = get_or-blocks next (get_or next h 0) n i d (omega arith) ∙ behind-next next h i

pub blocks-same :
    (next new : List ℕ) (h k n : ℕ) → ((i : ℕ) → i < n → behind new k i ≡ behind next h i) → blocks_from new k n ≡ blocks_from next h n
blocks-same next new h k n same =
    ext_get_or 0 _ _ (length-blocks new k n ∙ sym (length-blocks next h n))
    (λ i lt. let l : i < n = omega (arith, length-blocks new k n) in
    get_or-blocks new k n i 0 l ∙ same i l ∙ sym (get_or-blocks next h n i 0 l))

pub blocks-first : (next : List ℕ) (h n : ℕ) → blocks_from next h (suc n) ≡ h ∷ blocks_from next (get_or next h 0) n
unfolding blocks_from
blocks-first next h n = refl

pub blocks_more : (next : List ℕ) (h n : ℕ) → blocks_from next h (suc n) ≡ blocks_from next h n ++ (behind next h n ∷ [])
unfolding blocks_from behind
blocks_more next h zero = refl
blocks_more next h (suc n) =
    ap (λ l. h ∷ l) (blocks_more next (get_or next h 0) n ∙ ap (λ x. blocks_from next (get_or next h 0) n ++ (x ∷ [])) (behind-next next h n))

pub blocks-none : (next : List ℕ) (h : ℕ) → blocks_from next h 0 ≡ []
unfolding blocks_from
blocks-none next h = refl

pub blocks-heads : (next : List ℕ) (h n : ℕ) → 0 < n → blocks_from next h n ≡ h ∷ drop 1 (blocks_from next h n)
unfolding blocks_from
blocks-heads next h zero pos = absurd (omega arith)
blocks-heads next h (suc n) pos = refl

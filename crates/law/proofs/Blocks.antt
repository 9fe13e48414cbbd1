-- One queue of an input and its blocks: what joining and taking do to them.
use Rattle.std.proofs.Common.{◌≡◌, ℕ, zero, suc, ◌+◌, ◌-◌, ◌*◌, ◌<◌, ◌≤◌, Bool, true, false, cond, ◌&&◌, eqb, ◌⊎◌, List, [], ◌∷◌, ◌++◌, map, length, get_or, take, drop, set, Some, Option, sym, refl, ap, ◌∙◌, ap₂, inl, inr, arith}
use Rattle.std.proofs.lemmas.Bool.{eqb-true, eq-eqb, ne_eqb, cases_eq, cases_lt, and_parts, and_from}
use Rattle.std.proofs.lemmas.List.{append_assoc, map-append, length-set, take_at, drop_at, length-take-le}
use Rattle.std.specs.List.{slice_get, AllByRecursion as All}
use Rattle.queues.specs.Queues.{Queues, put, joined, joined_by, taken, taken_by, unused}
use Rattle.law.specs.declared.memory.Block.{Block}
use Rattle.law.specs.View.{place, leaving, part, parted}
use Rattle.law.specs.History.{both}
use Rattle.law.proofs.Counts.{count, count-append, count-counting, map_same}
use Rattle.law.proofs.Invariant.{Held, Distinct}

-- the free block b joins the queue o
pub record Joins (old new : Queues) (o b : ℕ) : Type 0 where
  pub was : old.free ≡ b ∷ new.free
  pub queue : (u : ℕ) → new.queue u ≡ cond (eqb u o) (old.queue o ++ (b ∷ [])) (old.queue u)

-- the head b of the queue o becomes the last free block
pub record Takes (old new : Queues) (o b : ℕ) (rest : List ℕ) : Type 0 where
  pub was : old.queue o ≡ b ∷ rest
  pub queue : (u : ℕ) → new.queue u ≡ cond (eqb u o) rest (old.queue u)
  pub free : new.free ≡ old.free ++ (b ∷ [])

pub joins : (q : Queues) (o b : ℕ) (free : List ℕ) → q.free ≡ b ∷ free → Joins q (joined q o) o b
joins q o b free e = record {
  was = e ∙ ap (λ (l : List ℕ). b ∷ l) (sym (ap (λ (l : List ℕ). (joined_by q o l).free) e));
  queue = λ u. ap (λ (l : List ℕ). (joined_by q o l).queue u) e;
}

pub takes : (q : Queues) (o b : ℕ) (rest : List ℕ) → q.queue o ≡ b ∷ rest → Takes q (taken q o) o b rest
takes q o b rest e = record {
  was = e;
  queue = λ u. ap (λ (l : List ℕ). (taken_by q o l).queue u) e;
  free = ap (λ (l : List ℕ). (taken_by q o l).free) e;
}

pub distinct-unused : Distinct (unused 16)
distinct-unused = record {
  once = λ o b. omega (arith, (count-counting 0 16 b).0);
  apart = λ o u b _. omega (arith, (count-counting 0 16 b).0);
  few = λ o b l. let r = (count-counting 0 16 b).1 (omega arith) in omega arith;
}

pub nth-set-other : {T : Type 0} (xs : List T) (b k : ℕ) (v : T) → (k ≡ b → ⊥) → slice_get (set xs b v) k ≡ slice_get xs k
nth-set-other [] b k v ne = refl
nth-set-other (x ∷ xs) zero zero v ne = absurd (ne refl)
nth-set-other (x ∷ xs) zero (suc k) v ne = refl
nth-set-other (x ∷ xs) (suc b) zero v ne = refl
nth-set-other (x ∷ xs) (suc b) (suc k) v ne = nth-set-other xs b k v (λ e. ne (ap suc e))

pub nth-set-same : {T : Type 0} (xs : List T) (b : ℕ) (v : T) → b < length xs → slice_get (set xs b v) b ≡ Some v
nth-set-same [] b v l = absurd (omega arith)
nth-set-same (x ∷ xs) zero v l = refl
nth-set-same (x ∷ xs) (suc b) v l = nth-set-same xs b v (omega arith)

pub get_or-of-nth : {T : Type 0} (xs : List T) (k : ℕ) (d v : T) → slice_get xs k ≡ Some v → get_or xs k d ≡ v
get_or-of-nth [] k d v e = let z : ◌≡◌ {A = ℕ} 0 1 = cc in absurd (omega arith)
get_or-of-nth (x ∷ xs) zero d v e = cc
get_or-of-nth (x ∷ xs) (suc k) d v e = get_or-of-nth xs k d v e

all_append : {T : Type 0} (P : T → Type 0) (xs : List T) (x : T) → All P xs → P x → All P (xs ++ (x ∷ []))
all_append P [] x h p = (p, tt)
all_append P (y ∷ xs) x h p = (h.0, all_append P xs x h.1 p)

-- a queue whose own blocks were not written, and one that a cell joined
module _ (cells' : List Block) {cells : List Block} {i : ℕ} {ins : List Block} {outs : List (List ℕ)} {queue : List ℕ} (h : Held cells i ins outs queue)
    (same : (b : ℕ) → 1 ≤ count b queue → slice_get cells' (place i b) ≡ slice_get cells (place i b)) where
  still : map (λ b. slice_get cells' (place i b)) queue ≡ map Some h.rest
  still = map_same (λ b. slice_get cells' (place i b)) (λ b. slice_get cells (place i b)) queue same ∙ h.held

  pub held-other : Held cells' i ins outs queue
  held-other = record { gone = h.gone; rest = h.rest; all = h.all; sent = h.sent; long = h.long; held = still }

  pub held-joined : (b : ℕ) (x : Block) → slice_get cells' (place i b) ≡ Some x → length x.cell ≡ 53 → Held cells' i (ins ++ (x ∷ [])) outs (queue ++ (b ∷ []))
  held-joined b x e l = record {
    gone = h.gone;
    rest = h.rest ++ (x ∷ []);
    all = ap (λ (r : List Block). r ++ (x ∷ [])) h.all ∙ append_assoc h.gone h.rest (x ∷ []);
    sent = h.sent;
    long = all_append (λ (b : Block). length b.cell ≡ 53) h.rest x h.long l;
    held = map-append (λ b. slice_get cells' (place i b)) queue (b ∷ [])
        ∙ ap₂ (λ (r : List (Option Block)) (y : Option Block). r ++ (y ∷ [])) still e ∙ sym (map-append Some h.rest (x ∷ []));
  }

-- the block at the head of a queue, and the queue without it
pub record Headed (cells : List Block) (i : ℕ) (ins : List Block) (outs : List (List ℕ)) (b : ℕ) (rest : List ℕ) : Type 0 where
  pub block : Block
  pub is : slice_get cells (place i b) ≡ Some block
  pub long : length block.cell ≡ 53
  pub after : Held cells i ins (outs ++ (leaving block ∷ [])) rest

pub headed : {cells : List Block} {i : ℕ} {ins : List Block} {outs : List (List ℕ)} {queue : List ℕ} (h : Held cells i ins outs queue) (b : ℕ) (rest : List ℕ)
    → queue ≡ b ∷ rest → Headed cells i ins outs b rest
headed {cells} {i} {ins} {outs} {queue} h b rest e = go h.rest h.all (ap (map (λ b. slice_get cells (place i b))) (sym e) ∙ h.held) h.long
  where
    go : (left : List Block) → ins ≡ h.gone ++ left → slice_get cells (place i b) ∷ map (λ b. slice_get cells (place i b)) rest ≡ map Some left
        → All (λ (b : Block). length b.cell ≡ 53) left → Headed cells i ins outs b rest
    go [] e f g = let z : ◌≡◌ {A = ℕ} 0 1 = cc in absurd (omega arith)
    go (x ∷ left) e f g = record {
      block = x;
      is = cc;
      long = g.0;
      after = record {
        gone = h.gone ++ (x ∷ []);
        rest = left;
        all = e ∙ sym (append_assoc h.gone (x ∷ []) left);
        sent = ap (λ (r : List (List ℕ)). r ++ (leaving x ∷ [])) h.sent ∙ sym (map-append leaving h.gone (x ∷ []));
        held = cc;
        long = g.1;
      };
    }

abbrev one : Bool → ℕ
one b = cond b 1 0

one-most : (b : Bool) → one b ≤ 1
one-most true = omega arith
one-most false = omega arith

-- a queue is the one that changed or another
at-queue : (old new : ℕ → List ℕ) (o u : ℕ) (l : List ℕ) → ((u : ℕ) → new u ≡ cond (eqb u o) l (old u)) → ((u ≡ o) × (new u ≡ l)) ⊎ ((u ≡ o → ⊥) × (new u ≡ old u))
at-queue old new o u l e = elim (cases_eq u o) [
  | inl f ↦ inl (f, e u ∙ ap (λ (b : Bool). cond b l (old u)) (eq-eqb u o f))
  | inr f ↦ inr (f, e u ∙ ap (λ (b : Bool). cond b l (old u)) (ne_eqb u o f))
]

-- both keep the blocks distinct
module _ (old new : Queues) (o b : ℕ) (d : Distinct old) where
  pub distinct-joined : Joins old new o b → Distinct new
  distinct-joined j = record {
    once = λ u c. elim (cases c u) [
      | inl y ↦ omega (arith, y.1, d.once o c, free c)
      | inr y ↦ omega (arith, y.1, d.once u c, free c)
    ];
    apart = λ u v c ne. elim (cases c u) [
      | inl y ↦ elim (cases c v) [
        | inl w ↦ absurd (ne (y.0 ∙ sym w.0))
        | inr w ↦ omega (arith, y.1, w.1, d.apart o v c (λ e. ne (y.0 ∙ e)), free c)
      ]
      | inr y ↦ elim (cases c v) [
        | inl w ↦ omega (arith, y.1, w.1, d.apart u o c (λ e. ne (e ∙ sym w.0)), free c)
        | inr w ↦ omega (arith, y.1, w.1, d.apart u v c ne, free c)
      ]
    ];
    few = λ u c m. elim (cases c u) [
      | inl y ↦ d.few o c (omega (arith, y.1, free c))
      | inr y ↦ d.few u c (omega (arith, y.1, free c))
    ];
  }
    where
      free : (c : ℕ) → count c old.free ≡ one (eqb c b) + count c new.free
      free c = ap (count c) j.was

      cases : (c u : ℕ) → ((u ≡ o) × (count c (new.queue u) ≡ count c (old.queue o) + one (eqb c b))) ⊎ ((u ≡ o → ⊥) × (count c (new.queue u) ≡ count c (old.queue u)))
      cases c u = elim (at-queue old.queue new.queue o u (old.queue o ++ (b ∷ [])) j.queue) [
        | inl y ↦ inl (y.0, ap (count c) y.1 ∙ omega (arith, count-append c (old.queue o) (b ∷ [])))
        | inr y ↦ inr (y.0, ap (count c) y.1)
      ]

  pub distinct-taken : (rest : List ℕ) → Takes old new o b rest → Distinct new
  distinct-taken rest t = record {
    once = λ u c. elim (cases c u) [
      | inl y ↦ omega (arith, y.1, d.once o c, free c)
      | inr y ↦ omega (arith, y.1, d.apart u o c y.0, free c, head c)
    ];
    apart = λ u v c ne. elim (cases c u) [
      | inl y ↦ elim (cases c v) [
        | inl w ↦ absurd (ne (y.0 ∙ sym w.0))
        | inr w ↦ omega (arith, y.1, w.1, d.apart o v c (λ e. ne (y.0 ∙ e)), free c)
      ]
      | inr y ↦ elim (cases c v) [
        | inl w ↦ omega (arith, y.1, w.1, d.apart u o c (λ e. ne (e ∙ sym w.0)), free c)
        | inr w ↦ elim (cases_lt 0 (one (eqb c b))) [
          | inl m ↦ omega (arith, y.1, w.1, d.apart u o c y.0, d.apart v o c w.0, free c, head c, one-most (eqb c b))
          | inr m ↦ omega (arith, y.1, w.1, d.apart u v c ne, free c)
        ]
      ]
    ];
    few = λ u c m. elim (cases c u) [
      | inl y ↦ d.few o c (omega (arith, y.1, free c))
      | inr y ↦ elim (cases_lt 0 (one (eqb c b))) [
        | inl n ↦ d.few o c (omega (arith, head c))
        | inr n ↦ d.few u c (omega (arith, y.1, free c))
      ]
    ];
  }
    where
      head : (c : ℕ) → count c (old.queue o) ≡ one (eqb c b) + count c rest
      head c = ap (count c) t.was

      free : (c : ℕ) → count c new.free ≡ count c old.free + one (eqb c b)
      free c = ap (count c) t.free ∙ omega (arith, count-append c old.free (b ∷ []))

      cases : (c u : ℕ) → ((u ≡ o) × (count c (new.queue u) + one (eqb c b) ≡ count c (old.queue o))) ⊎ ((u ≡ o → ⊥) × (count c (new.queue u) ≡ count c (old.queue u)))
      cases c u = elim (at-queue old.queue new.queue o u rest t.queue) [
        | inl y ↦ inl (y.0, omega (arith, ap (count c) y.1, head c))
        | inr y ↦ inr (y.0, ap (count c) y.1)
      ]

-- one queue of all inputs' changed
pub queue-put : (cells : ℕ → Queues) (new : Queues) (p o : ℕ) (l : List ℕ) (i u : ℕ) → ((u : ℕ) → new.queue u ≡ cond (eqb u o) l ((cells p).queue u))
    → (put cells p new i).queue u ≡ cond (both i u p o) l ((cells i).queue u)
queue-put cells new p o l i u e = go (eqb i p) refl
  where
    go : (b : Bool) → eqb i p ≡ b → (cond b new (cells i)).queue u ≡ cond (b && eqb u o) l ((cells i).queue u)
    go true f = e u ∙ ap (λ (q : ℕ). cond (eqb u o) l ((cells q).queue u)) (sym (eqb-true i p f))
    go false f = refl

pub both-same : (i u p o : ℕ) → both i u p o ≡ true → (i ≡ p) × (u ≡ o)
both-same i u p o e = let y = and_parts (eqb i p) (eqb u o) e in (eqb-true i p y.0, eqb-true u o y.1)

pub same-both : (p o : ℕ) → both p o p o ≡ true
same-both p o = and_from (eqb p p) (eqb o o) (eq-eqb p p refl) (eq-eqb o o refl)

pub length-leaving : (b : Block) → length (leaving b) ≡ length b.cell
length-leaving b = simp length-set

-- the bytes of an output, just written
pub part-parted : (o n : ℕ) (x bytes : List ℕ) → length x ≡ 53 → length bytes ≡ n * 53 → o < n → part o (parted o x bytes) ≡ x
part-parted o n x bytes lx lb l =
    let fits : o * 53 ≤ length bytes = omega arith in
    let fifty : (o * 53 + 53) - o * 53 ≡ 53 = omega arith in
    ap₂ take fifty (drop_at (take (o * 53) bytes) (x ++ drop (o * 53 + 53) bytes) (o * 53) (length-take-le (o * 53) bytes fits)) ∙ take_at x (drop (o * 53 + 53) bytes) 53 lx

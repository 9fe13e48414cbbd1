-- What a look-up among the routes of a table finds.
use Rattle.std.proofs.Common.{◌≡◌, ℕ, ◌<◌, ◌≤◌, Bool, true, false, ltb, List, length, get_or, take, is_some, Some, None, position, sym, refl, ap, ◌∙◌, inl, inr, arith}
use Rattle.std.specs.List.{find, position_or_len, slice_get}
use Rattle.std.proofs.lemmas.Bool.{both_ways, cases_lt, lt-ltb}
use Rattle.std.proofs.lemmas.List.{get_or-take, length-take-le}
use Rattle.std.proofs.lemmas.List.Folds.{find_at}
use Rattle.std.proofs.lemmas.List.Quantifiers.{position-Some}
use Rattle.std.proofs.lemmas.List.Sums.{fails_before_first, passes_at_first, position_or_len_is}
use Rattle.std.proofs.lemmas.Option.{slice_get-get_or, slice_get_past}
use Rattle.routes.specs.declared.route.Route.{Route}
use Rattle.routes.specs.Fits.{fits}
use Rattle.routes.specs.Table.{no_route, place, Apart, entry}
use Rattle.routes.proofs.Among.{among, among-at, among_none}

-- of the first n routes, the place of the first that fits circuit v
abbrev first : List Route → ℕ → ℕ → ℕ
first rs n v = position_or_len (λ r. fits r v) (take n rs)

-- no route of the first n fits circuit v
abbrev pub NoneFits : List Route → ℕ → ℕ → Type 0
NoneFits rs n v = (k : ℕ) → k < n → fits (place rs k) v ≡ true → ⊥

-- a search that is over: the first that passes stands at place k, or none does
module _ (p : Route → Bool) (xs : List Route) where
  pub find-first : (k : ℕ) → k < length xs → ((j : ℕ) → j < k → p (get_or xs j no_route) ≡ false) → p (get_or xs k no_route) ≡ true → find p xs ≡ Some (get_or xs k no_route)
  find-first k l before here =
      find_at p xs ∙ (ap (slice_get xs) (position_or_len_is p xs k no_route (omega (arith, l)) before (λ _. here)) ∙ slice_get-get_or xs k no_route l)

  pub find_none : ((j : ℕ) → j < length xs → p (get_or xs j no_route) ≡ false) → find p xs ≡ None
  find_none none =
      find_at p xs ∙ slice_get_past xs (position_or_len p xs) (let e = position_or_len_is p xs (length xs) no_route (omega arith) none (λ l. absurd (omega (arith, l))) in omega (arith, e))

module _ (rs : List Route) (n v : ℕ) (l : n ≤ length rs) where
  abbrev p : Route → Bool
  p r = fits r v

  long : length (take n rs) ≡ n
  long = length-take-le n rs l

  none-before : (k : ℕ) → k < first rs n v → k < n → fits (place rs k) v ≡ true → ⊥
  none-before k lk ln e = both_ways (fits (place rs k) v) (ap p (sym (get_or-take n rs k no_route ln)) ∙ fails_before_first p (take n rs) k no_route lk) e

  none-fits : n ≤ first rs n v → NoneFits rs n v
  none-fits h k lk = none-before k (omega arith) lk

  -- a route that is found stands at its place, and fits
  pub found : (k : ℕ) → position p (take n rs) ≡ Some k → (k < n) × (fits (place rs k) v ≡ true)
  found k e =
      let h = position-Some p (take n rs) k no_route e in
      let lk : k < n = omega (arith, h.0, long) in (lk, ap p (sym (get_or-take n rs k no_route lk)) ∙ h.1)

  -- where none is found, none fits
  pub missing : position p (take n rs) ≡ None → NoneFits rs n v
  missing e =
      elim (cases_lt (first rs n v) n) [
        | inl q ↦
            let t : ltb (first rs n v) (length (take n rs)) ≡ true = lt-ltb _ _ (omega (arith, q, long)) in
            let some : position p (take n rs) ≡ Some (first rs n v) = rw t refl in
            absurd (both_ways true (ap is_some (sym some ∙ e)) refl)
        | inr q ↦ none-fits q
      ]

  -- the entry of a circuit is that of the last route that fits, since no two do
  pub entry-among : Apart (place rs) n → entry rs n v ≡ among (place rs) n v
  entry-among d =
      find_at p (take n rs) ∙ elim (cases_lt (first rs n v) n) [
        | inl q ↦
            let k = first rs n v in
            let lk : k < length (take n rs) = omega (arith, q, long) in
            let same : get_or (take n rs) k no_route ≡ place rs k = get_or-take n rs k no_route q in
            let e : fits (place rs k) v ≡ true = ap p (sym same) ∙ passes_at_first p (take n rs) no_route lk in
            slice_get-get_or (take n rs) k no_route lk ∙ (ap (λ (r : Route). Some r) same ∙ sym (among-at (place rs) n v k d q e))
        | inr q ↦ slice_get_past (take n rs) (first rs n v) (omega (arith, q, long)) ∙ sym (among_none (place rs) n v (none-fits q))
      ]

  pub entry-at : Apart (place rs) n → (k : ℕ) → k < n → fits (place rs k) v ≡ true → entry rs n v ≡ Some (place rs k)
  entry-at d k lk e = entry-among d ∙ among-at (place rs) n v k d lk e

  pub entry_none : Apart (place rs) n → NoneFits rs n v → entry rs n v ≡ None
  entry_none d h = entry-among d ∙ among_none (place rs) n v h

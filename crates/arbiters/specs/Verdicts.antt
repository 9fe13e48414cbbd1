-- The table of a choice keeps the rules of an arbiter, where the choice has what is asked of a decision.
use Rattle.std.specs.Prelude.{◌≡◌, ℕ, ◌<◌, ◌≤◌, Bool, true, ◌⊎◌}
use Rattle.std.proofs.Common.{inl, inr, sym, ◌∙◌, arith}
use Rattle.pairs.specs.declared.table.Table.{Table}
use Rattle.pairs.specs.Tables.{holds, table_of, within}
use Rattle.pairs.proofs.Tables.{held, held_below}
use Rattle.pairs.proofs.Within.{within-is, within-parts}
use Rattle.grants.proofs.Decided.{Decided}
use Rattle.arbiters.specs.Meaning.{Lawful, Meaning}
use Rattle.arbiters.specs.Rules.{Apart, Maximal, Nearer, Requested, Shares, Within}

-- the rules that speak of one decision alone
pub record Kept (n : ℕ) (r g : Table) : Type 0 where
  pub requested : Requested n r g
  pub apart : Apart g
  pub maximal : Maximal n r g

module _ {n : ℕ} {F : ℕ → ℕ → Bool} {wait next : ℕ → ℕ → ℕ} (r g : Table) (small : n ≤ 8) (is : g ≡ table_of (within n F)) (d : Decided n (holds r) F wait next) where
  chosen : (i o : ℕ) → holds g i o ≡ true → (i < n) × (o < n) × (F i o ≡ true)
  chosen i o h = let b = held_below g i o h in within-parts n F i o (sym (held g (within n F) is i o b.0 b.1) ∙ h)

  means : (i o : ℕ) → i < n → o < n → holds g i o ≡ F i o
  means i o p q = held g (within n F) is i o (omega arith) (omega arith) ∙ within-is n F i o p q

  pub requested : Requested n r g
  requested i o h = let b = chosen i o h in (d.asked i o b.0 b.1 b.2, b.0, b.1)

  pub apart : Apart g
  apart =
      record {
        inputs = λ i o u a b. let x = chosen i o a in let y = chosen i u b in d.input-once i o u x.0 x.1 y.1 x.2 y.2;
        outputs = λ i j o a b. let x = chosen i o a in let y = chosen j o b in d.output-once i j o x.0 y.0 x.1 x.2 y.2;
      }

  pub maximal : Maximal n r g
  maximal i o p q a h = go (d.blocked i o p q a (sym (means i o p q) ∙ h))
    where
      go : ((j : ℕ) × (j < n) × (F j o ≡ true)) ⊎ ((u : ℕ) × (u < n) × (F i u ≡ true)) → Shares g i o
      go (inl s) = inl (s.0, means s.0 o s.1 q ∙ s.2)
      go (inr s) = inr (s.0, means i s.0 p s.1 ∙ s.2)

  pub kept : Kept n r g
  kept = record { requested = requested; apart = apart; maximal = maximal }

  pub nearer : Nearer n r g wait next
  nearer i o p q a h = d.nearer i o p q a (sym (means i o p q) ∙ h)

-- an arbiter whose every decision is such a choice
module _ {S : Type 0} (m : Meaning S) (choice : S → Table → ℕ → ℕ → Bool)
    (is : (s : S) (r : Table) → m.answer s r ≡ table_of (within (m.ports s) (choice s r)))
    (decided : (s : S) (r : Table) → Decided (m.ports s) (holds r) (choice s r) (m.wait s) (m.wait (m.after s r)))
    (bounds : (s : S) → Within m.ports m.bound m.wait m.after s) where
  each : (s : S) (r : Table) → Kept (m.ports s) r (m.answer s r)
  each s r = kept r (m.answer s r) (bounds s).eight (is s r) (decided s r)

  pub lawful : Lawful m
  lawful =
      record {
        requested = λ s r. (each s r).requested;
        apart = λ s r. (each s r).apart;
        maximal = λ s r. (each s r).maximal;
        nearer = λ s r. nearer r (m.answer s r) (bounds s).eight (is s r) (decided s r);
        within = bounds;
      }

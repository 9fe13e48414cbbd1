-- A switch just made.
use Rattle.std.proofs.Common.{◌≡◌, ℕ, zero, suc, Bool, true, false, List, [], ◌∷◌, None, refl, ap, ◌∙◌, ap₂}
use mathlib.Core.Path.{fun_ext}
use Rattle.std.proofs.lemmas.Bool.{both_ways}
use Rattle.arbiters.specs.Meaning.{Meaning}
use Rattle.pairs.specs.declared.ports.Ports.{Ports}
use Rattle.pairs.specs.declared.table.Table.{Table}
use Rattle.pairs.specs.Tables.{holds, table_of, inside, ports_of, First}
use Rattle.pairs.proofs.Tables.{held, held_below}
use Rattle.queues.specs.declared.links.Links.{Links}
use Rattle.queues.specs.Queues.{Queues, unused}
use Rattle.queues.specs.Queues as Queued
use Rattle.routes.specs.Map.{Tables, empty}
use Rattle.law.specs.declared.stage.Stage.TheVariants.{Closed}
use Rattle.law.specs.View.{View, pairs}
use Rattle.law.specs.Runs.{made}
use Rattle.switch.specs.Ready.{cells_of, Within, Ready}
use Rattle.switch.proofs.Firsts.{pairs-none, false-if}
use Rattle.switch.proofs.PortSets.{inside-none}

-- a table of no pairs
module _ (t : Table) (e : t ≡ table_of (λ _ _. false)) where
  never : (i o : ℕ) → holds t i o ≡ true → ⊥
  never i o h = let l = held_below t i o h in both_ways (holds t i o) (held t (λ _ _. false) e i o l.0 l.1) h

  no-first : First t None
  no-first i o = false-if (holds t i o) (never i o)

  pub within_none : (n : ℕ) → Within n t
  within_none n x h = absurd (never x.0 x.1 h)

  pub ready-none : (ls : List (Links 16)) → Ready t ls
  ready-none ls x h = absurd (never x.0 x.1 h)

eight : (l : Links 16) → Queued.view l ≡ unused 16 → (p : ℕ) → cells_of (l ∷ l ∷ l ∷ l ∷ l ∷ l ∷ l ∷ l ∷ []) p ≡ unused 16
eight l e zero = e
eight l e (suc zero) = e
eight l e (suc (suc zero)) = e
eight l e (suc (suc (suc zero))) = e
eight l e (suc (suc (suc (suc zero)))) = e
eight l e (suc (suc (suc (suc (suc zero))))) = e
eight l e (suc (suc (suc (suc (suc (suc zero)))))) = e
eight l e (suc (suc (suc (suc (suc (suc (suc zero))))))) = e
eight l e (suc (suc (suc (suc (suc (suc (suc (suc p)))))))) = refl

pub starts : {A : Type 0} (a : Meaning A) (s : A) (mark first n : ℕ) (used sent : Ports) (t : Table) (r : Tables) (l : Links 16) (k : Links 64)
    → n ≡ a.ports s → used ≡ ports_of (λ _. false) → sent ≡ ports_of (λ _. false) → t ≡ table_of (λ _ _. false) → r ≡ empty → Queued.view l ≡ unused 16 → Queued.view k ≡ unused 64
    → ◌≡◌ {A = View A} (record {
      ports = n;
      mark = mark;
      arbiter = s;
      slot = record { next = first; stage = Closed; used = inside used; grants = pairs n t; granted = 0; sent = inside sent };
      tables = r;
      cells = cells_of (l ∷ l ∷ l ∷ l ∷ l ∷ l ∷ l ∷ l ∷ []);
      notes = Queued.view k;
    }) (made a s mark first)
starts {A} a s mark first n used sent t r l k e u w f g x y =
    ap₂ (λ (n : ℕ) (g : List (ℕ × ℕ)). out n g r (inside used) (inside sent) (cells_of (l ∷ l ∷ l ∷ l ∷ l ∷ l ∷ l ∷ l ∷ [])) (Queued.view k)) e (pairs-none n t (no-first t f))
    ∙ ap₂ (λ (f h : ℕ → Bool). out (a.ports s) [] r f h (cells_of (l ∷ l ∷ l ∷ l ∷ l ∷ l ∷ l ∷ l ∷ [])) (Queued.view k)) (inside-none used u) (inside-none sent w)
    ∙ ap₂ (λ (c : ℕ → Queues) (q : Queues). out (a.ports s) [] r (λ _. false) (λ _. false) c q) (fun_ext (eight l x)) y
    ∙ ap (λ (r : Tables). out (a.ports s) [] r (λ _. false) (λ _. false) (λ _. unused 16) (unused 64)) g
  where
    out : ℕ → List (ℕ × ℕ) → Tables → (ℕ → Bool) → (ℕ → Bool) → (ℕ → Queues) → Queues → View A
    out n g r f h c q = record {
      ports = n;
      mark = mark;
      arbiter = s;
      slot = record { next = first; stage = Closed; used = f; grants = g; granted = 0; sent = h };
      tables = r;
      cells = c;
      notes = q;
    }

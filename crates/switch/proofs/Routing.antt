-- What a change of routes answers, and the switch after it.
use Rattle.std.proofs.Common.{◌≡◌, Ok, Err, OnErr, Result, sym, refl, ap, ◌∙◌}
use Rattle.refusals.specs.declared.refusal.Refusal.{Refusal}
use Rattle.routes.specs.declared.tables.Routes.{Routes}
use Rattle.routes.specs.Map.{Tables, tables_of, told}
use Rattle.law.specs.View.{Memory, View}
use Rattle.law.specs.Calls.{Outcome, refused, rerouted, with_tables}

-- the tables t of the view have become u, and are as they were if the change was refused
pub rerouted-told : {A : Type 0} (v : View A) (m : Memory) (k : Result (Unit {0}) Refusal) (t u : Routes) → v.tables ≡ tables_of t → OnErr k (u ≡ t)
    → ◌≡◌ {A = Outcome A (Unit {0})} (rerouted v m (told tables_of k u)) (record { reply = k; view = with_tables v (tables_of u); memory = m })
rerouted-told v m (Ok x) t u was kept = refl
rerouted-told v m (Err e) t u was kept = ap (λ (x : Tables). refused e (with_tables v x) m) (was ∙ ap tables_of (sym kept))

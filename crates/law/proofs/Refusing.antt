-- What the order of a call's refusals gives.
use Rattle.std.proofs.Common.{◌≡◌, Bool, true, false, cond, List, [], ◌∷◌, ◌++◌, refl, ap, ◌∙◌}
use Rattle.refusals.specs.declared.refusal.Refusal.{Refusal}
use Rattle.law.specs.View.{Memory, View}
use Rattle.law.specs.Calls.{Outcome, unless, refused}

-- none of the reasons holds
abbrev pub Clear : List (Refusal × Bool) → Type 0
Clear [] = Unit {0}
Clear (c ∷ cs) = (c.1 ≡ false) × Clear cs

-- what holds of every refusal, and of the call carried out if no reason holds
pub by-unless : {A T : Type 0} (P : Outcome A T → Type 0) (cs : List (Refusal × Bool)) (v : View A) (m : Memory) (r : Outcome A T)
    → ((k : Refusal) → P (refused k v m)) → (Clear cs → P r) → P (unless cs v m r)
by-unless P [] v m r nay yea = yea tt
by-unless {A} {T} P (c ∷ cs) v m r nay yea =
    (elim c.1 as (λ b. c.1 ≡ b → P (cond b (refused c.0 v m) (unless cs v m r))) [
      | true ↦ λ e. nay c.0
      | false ↦ λ e. by-unless P cs v m r nay (λ rest. yea (e, rest))
    ]) refl

-- a call is carried out if no reason holds
pub passes : {A T : Type 0} (cs : List (Refusal × Bool)) (v : View A) (m : Memory) (r : Outcome A T) → Clear cs → unless cs v m r ≡ r
passes [] v m r clear = refl
passes {A} {T} (c ∷ cs) v m r clear = ap (λ (b : Bool). cond b (refused c.0 v m) (unless cs v m r)) clear.0 ∙ passes cs v m r clear.1

-- and is refused for the first that does
pub stops : {A T : Type 0} (cs ds : List (Refusal × Bool)) (k : Refusal) (b : Bool) (v : View A) (m : Memory) (r : Outcome A T) → Clear cs → b ≡ true
    → unless (cs ++ ((k, b) ∷ ds)) v m r ≡ refused k v m
stops {A} {T} [] ds k b v m r clear e = ap (λ (x : Bool). cond {A = Outcome A T} x (refused k v m) (unless ds v m r)) e
stops {A} {T} (c ∷ cs) ds k b v m r clear e =
    ap (λ (x : Bool). cond {A = Outcome A T} x (refused c.0 v m) (unless (cs ++ ((k, b) ∷ ds)) v m r)) clear.0 ∙ stops cs ds k b v m r clear.1 e

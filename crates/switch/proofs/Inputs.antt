-- The links of all inputs, one of them replaced.
use Rattle.std.proofs.Common.{◌≡◌, ℕ, ◌<◌, Bool, cond, List, length, get_or, set, sym, ap, ◌∙◌, inl, inr}
use mathlib.Core.Path.{fun_ext}
use Rattle.std.proofs.lemmas.Option.{slice_get-get_or}
use Rattle.std.proofs.lemmas.Bool.{eq-eqb, ne_eqb, cases_eq}
use Rattle.std.specs.List.{slice_get}
use Rattle.queues.specs.declared.links.Links.{Links}
use Rattle.queues.specs.Queues.{put}
use Rattle.queues.specs.Queues as Queued
use Rattle.law.proofs.Blocks.{nth-set-other, nth-set-same}
use Rattle.switch.specs.Ready.{queues_of, cells_of}

pub cells_at : (ls : List (Links 16)) (p : ℕ) (d : Links 16) → p < length ls → cells_of ls p ≡ Queued.view (get_or ls p d)
cells_at ls p d l = ap queues_of (slice_get-get_or ls p d l)

pub cells-put : (ls : List (Links 16)) (p : ℕ) (new : Links 16) → p < length ls → cells_of (set ls p new) ≡ put (cells_of ls) p (Queued.view new)
cells-put ls p new l = fun_ext (λ x. elim (cases_eq x p) [
  | inl f ↦ ap (λ (y : ℕ). queues_of (slice_get (set ls p new) y)) f ∙ ap queues_of (nth-set-same ls p new l) ∙ sym (ap (λ (c : Bool). cond c (Queued.view new) (cells_of ls x)) (eq-eqb x p f))
  | inr f ↦ ap queues_of (nth-set-other ls p x new f) ∙ sym (ap (λ (c : Bool). cond c (Queued.view new) (cells_of ls x)) (ne_eqb x p f))
])

-- Every input is cut into lines in one way.
use Rattle.std.proofs.Common.{◌≡◌, ℕ, suc, ◌<◌, false, eqb, List, [], ◌∷◌, ◌++◌, length, sym, refl, ap, ◌∙◌, subst, inl, inr, append_assoc, append-nil, arith}
use lib.Dec.{eqb-suc-zero}
use Rattle.std.proofs.lemmas.Bool.{ne_eqb, cases_eq}
use Rattle.lines.specs.Lines.{lines_after, lines}
use Rattle.lines.specs.Lined.{Plain, Lined, none, last, line, OneWay}

at-end : (x : ℕ) (held : List ℕ) → lines_after (x ∷ held) [] ≡ (x ∷ held) ∷ []
unfolding lines_after
at-end x held = let e : eqb (suc (length held)) 0 ≡ false = eqb-suc-zero (length held) in rw e

at-nothing : lines_after [] [] ≡ []
unfolding lines_after
at-nothing = refl

at-feed : (held rest : List ℕ) → lines_after held (10 ∷ rest) ≡ held ∷ lines_after [] rest
unfolding lines_after
at-feed held rest = refl

at_other : (b : ℕ) (held rest : List ℕ) → (b ≡ 10 → ⊥) → lines_after held (b ∷ rest) ≡ lines_after (held ++ b ∷ []) rest
unfolding lines_after
at_other b held rest n = let e : eqb b 10 ≡ false = ne_eqb b 10 n in rw e

plain_push : (held : List ℕ) (b : ℕ) → Plain held → (b ≡ 10 → ⊥) → Plain (held ++ b ∷ [])
plain_push [] b h n = (n, tt)
plain_push (x ∷ held) b h n = (h.0, plain_push held b h.1 n)

is_cut : (held input : List ℕ) → Plain held → Lined (held ++ input) (lines_after held input)
is_cut [] [] h = subst (Lined []) (sym at-nothing) none
is_cut (x ∷ held) [] h =
    subst (Lined ((x ∷ held) ++ [])) (sym (at-end x held)) (subst (λ (l : List ℕ). Lined l ((x ∷ held) ∷ [])) (sym (append-nil (x ∷ held))) (last (x ∷ held) h (omega arith)))
is_cut held (b ∷ input) h =
    elim (cases_eq b 10) [
      | inl e ↦
          subst (λ (c : ℕ). Lined (held ++ c ∷ input) (lines_after held (c ∷ input))) (sym e)
          (subst (Lined (held ++ 10 ∷ input)) (sym (at-feed held input)) (line held input (lines_after [] input) h (is_cut [] input tt)))
      | inr n ↦
          subst (Lined (held ++ b ∷ input)) (sym (at_other b held input n))
          (subst (λ (l : List ℕ). Lined l (lines_after (held ++ b ∷ []) input)) (append_assoc held (b ∷ []) input) (is_cut (held ++ b ∷ []) input (plain_push held b h n)))
    ]

passes : (held l rest : List ℕ) → Plain l → lines_after held (l ++ rest) ≡ lines_after (held ++ l) rest
passes held [] rest h = ap (λ (zs : List ℕ). lines_after zs rest) (sym (append-nil held))
passes held (b ∷ l) rest h =
    at_other b held (l ++ rest) h.0 ∙ passes (held ++ b ∷ []) l rest h.1 ∙ ap (λ (zs : List ℕ). lines_after zs rest) (append_assoc held (b ∷ []) l)

whole-last : (l : List ℕ) → Plain l → 0 < length l → l ∷ [] ≡ lines_after [] l
whole-last [] h p = absurd (omega arith)
whole-last (x ∷ l) h p = sym (ap (lines_after []) (sym (append-nil (x ∷ l))) ∙ passes [] (x ∷ l) [] h ∙ at-end x l)

only : (input : List ℕ) (found : List (List ℕ)) → Lined input found → found ≡ lines input
only input found none = sym at-nothing
only input found (last l h p) = whole-last l h p
only input found (line l rest more h r) =
    ap (λ (ls : List (List ℕ)). l ∷ ls) (only rest more r) ∙ sym (passes [] l (10 ∷ rest) h ∙ at-feed l rest)

pub one_way : OneWay
one_way = (λ input. is_cut [] input tt, only)

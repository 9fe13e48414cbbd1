-- A decision, by the facts of the code.
use Rattle.std.proofs.Common.{◌≡◌, ℕ, ◌≤◌, Bool, true, false, not, ◌&&◌, ltb, List, [], ◌∷◌, length, sym, ap, ◌∙◌, ap₂, arith}
use Rattle.std.proofs.lemmas.Bool.{ltb-true, and_parts}
use Rattle.arbiters.specs.Rules.{Requested}
use Rattle.pairs.specs.declared.table.Table.{Table}
use Rattle.pairs.specs.Tables.{holds}
use Rattle.pairs.proofs.Tables.{held, held_below}
use Rattle.queues.specs.declared.links.Links.{Links}
use Rattle.refusals.specs.declared.refusal.Refusal.TheVariants.{WrongTicket}
use Rattle.law.specs.declared.stage.Stage.TheVariants.{Arriving, Sending}
use Rattle.arbiters.specs.Meaning.{Meaning}
use Rattle.law.specs.View.{Memory, View, pairs}
use Rattle.law.specs.Calls.{Outcome, Ticket, done, is_empty, requests, wrong, decide_call}
use Rattle.law.proofs.Refusing.{passes}
use Rattle.switch.specs.Ready.{cells_of, Within, Ready}
use Rattle.switch.proofs.Requests.{wants}

filled : (queue : List ℕ) → not (is_empty queue) ≡ true → 1 ≤ length queue
filled [] e = let z : ◌≡◌ {A = ℕ} 0 1 = cc in absurd (omega arith)
filled (b ∷ queue) e = omega arith

-- what is granted was requested, so its queue is not empty
module _ {A : Type 0} (a : Meaning A) (v : View A) (x : A) (asked granted : Table) (requested : Requested (a.ports x) asked (a.answer x asked))
    (e : asked ≡ requests v) (f : granted ≡ a.answer x asked) where
  wanted : (y : ℕ × ℕ) → holds granted y.0 y.1 ≡ true → wants v y.0 y.1 ≡ true
  wanted y h =
      let l = held_below granted y.0 y.1 h in
      let r = requested y.0 y.1 (ap (λ (t : Table). holds t y.0 y.1) (sym f) ∙ h) in
      sym (held asked (wants v) e y.0 y.1 l.0 l.1) ∙ r.0

  pub within-granted : Within v.ports granted
  within-granted y h =
      let w = and_parts (ltb y.0 v.ports && ltb y.1 v.ports) (not (is_empty ((v.cells y.0).queue y.1))) (wanted y h) in
      let p = and_parts (ltb y.0 v.ports) (ltb y.1 v.ports) w.0 in
      (ltb-true y.0 v.ports p.0, ltb-true y.1 v.ports p.1)

  pub ready-granted : (ls : List (Links 16)) → v.cells ≡ cells_of ls → Ready granted ls
  ready-granted ls c y h =
      filled ((cells_of ls y.0).queue y.1) (ap (λ k. not (is_empty ((k y.0).queue y.1))) (sym c)
      ∙ (and_parts (ltb y.0 v.ports && ltb y.1 v.ports) (not (is_empty ((v.cells y.0).queue y.1))) (wanted y h)).1)

-- carried out
module _ {A : Type 0} (a : Meaning A) (v : View A) (m : Memory) (t : Ticket) where
  abbrev out : A → List (ℕ × ℕ) → ℕ → (ℕ → Bool) → Outcome A Ticket
  out x grants n sent = done t (record {
    ports = v.ports;
    mark = v.mark;
    arbiter = x;
    slot = record { next = v.slot.next; stage = Sending; used = v.slot.used; grants = grants; granted = n; sent = sent };
    tables = v.tables;
    cells = v.cells;
    notes = v.notes;
  }) m

  pub decides : (asked granted : Table) (x : A) (n : ℕ) (sent : ℕ → Bool) → wrong v Arriving t ≡ false → asked ≡ requests v → granted ≡ a.answer v.arbiter asked
      → x ≡ a.after v.arbiter asked → n ≡ length (pairs v.ports granted) → sent ≡ (λ _. false) → decide_call a v m t ≡ out x (pairs v.ports granted) n sent
  decides asked granted x n sent fits e f g h k =
      passes ((WrongTicket, wrong v Arriving t) ∷ []) v m (out (a.after v.arbiter (requests v)) (pairs v.ports (a.answer v.arbiter (requests v))) (length (pairs v.ports (a.answer v.arbiter (requests v)))) (λ _. false)) (fits, tt)
      ∙ ap₂ (λ (y : A) (z : ℕ → Bool). out y (pairs v.ports (a.answer v.arbiter (requests v))) (length (pairs v.ports (a.answer v.arbiter (requests v)))) z) (sym (g ∙ ap (a.after v.arbiter) e)) (sym k)
      ∙ ap (λ (u : Table). out x (pairs v.ports u) (length (pairs v.ports u)) sent) (sym (f ∙ ap (a.answer v.arbiter) e))
      ∙ ap (λ (y : ℕ). out x (pairs v.ports granted) y sent) (sym h)

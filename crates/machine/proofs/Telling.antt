-- From what the calls of the switch answer to what a machine tells.
use Rattle.std.proofs.Common.{◌≡◌, ℕ, List, replicate, Some, None, Ok, Option, Result, sym, refl, ap, ◌∙◌}
use Rattle.arbiters.specs.Meaning.{Meaning}
use Rattle.refusals.specs.declared.refusal.Refusal.{Refusal}
use Rattle.law.specs.declared.answers.Arrival.{Arrival}
use Rattle.law.specs.declared.answers.Departed.{Departed}
use Rattle.law.specs.declared.memory.Block.{Block}
use Rattle.law.specs.declared.memory.Note.{Note}
use Rattle.law.specs.View.{Memory, View, part}
use Rattle.law.specs.Calls.{Outcome, Ticket, open_call, arrive_call, decide_call, depart_call, take_note_call}
use Rattle.law.specs.Runs.{made}
use Rattle.machine.specs.declared.departures.Sent.{Sent}
use Rattle.machine.specs.Sending.{OpenEnds}
use Rattle.machine.specs.Standing.{Standing, Told, Ended, empty_block, empty_note, lent, starting, handed_back, calling, and_then, answering, taking_up, arriving, departing, deciding, finishing, ending}

module _ {A : Type 0} where
  -- as much memory as n ports need is as much as k need, where n is k
  pub resized : (v : View A) (n k : ℕ) (blocks : List Block) (notes : List Note) (bytes : List ℕ) (t : Option Ticket) → n ≡ k
      → ◌≡◌ {A = Standing A} (record { view = v; memory = lent n blocks notes bytes; ticket = t }) (record { view = v; memory = lent k blocks notes bytes; ticket = t })
  resized v n k blocks notes bytes t e = ap (λ (p : ℕ). record { view = v; memory = lent p blocks notes bytes; ticket = t }) e

  pub told-resized : {T : Type 0} (r : Result T Refusal) (v : View A) (n k : ℕ) (blocks : List Block) (notes : List Note) (bytes : List ℕ) (t : Option Ticket) → n ≡ k
      → ◌≡◌ {A = Told A T} (record { reply = r; standing = record { view = v; memory = lent n blocks notes bytes; ticket = t } }) (record { reply = r; standing = record { view = v; memory = lent k blocks notes bytes; ticket = t } })
  told-resized r v n k blocks notes bytes t e = ap (λ (s : Standing A). record { reply = r; standing = s }) (resized v n k blocks notes bytes t e)

  -- no slot was open, and one was opened or refused
  pub opened : (s : Standing A) (w : View A) (r : Result Ticket Refusal) (held entry : Option Ticket)
      → open_call s.view s.memory ≡ record { reply = r; view = w; memory = s.memory }
      → held ≡ None → entry ≡ None
      → ◌≡◌ {A = Told A Ticket} (record { reply = r; standing = record { view = w; memory = s.memory; ticket = held } }) (taking_up s entry)
  opened s w r held entry opening none was =
      ap (λ (t : Option Ticket). calling (record { reply = r; view = w; memory = s.memory }) t) none
      ∙ (sym (ap (λ (o : Outcome A Ticket). calling o None) opening) ∙ sym (ap (λ (t : Option Ticket). taking_up s t) was))

  -- a cell arrived under the ticket that was taken up
  pub arrived : (s u : Standing A) (w : View A) (t : Ticket) (p : ℕ) (c : List ℕ) (r : Result Arrival Refusal) (cells held : List Block)
      → ◌≡◌ {A = Told A Ticket} (record { reply = Ok t; standing = u }) (taking_up s s.ticket)
      → arrive_call u.view u.memory t p c ≡ record { reply = r; view = w; memory = record { cells = cells; notes = u.memory.notes; bytes = u.memory.bytes } }
      → held ≡ cells
      → ◌≡◌ {A = Told A Arrival} (record { reply = r; standing = record { view = w; memory = record { cells = held; notes = u.memory.notes; bytes = u.memory.bytes }; ticket = Some t } }) (arriving s p c)
  arrived s u w t p c r cells held taken arriving-is same =
      ap (λ (x : List Block). calling (record { reply = r; view = w; memory = record { cells = x; notes = u.memory.notes; bytes = u.memory.bytes } }) (Some t)) same
      ∙ (sym (ap (λ (o : Outcome A Arrival). calling o (Some t)) arriving-is)
      ∙ ap (λ (x : Told A Ticket). and_then x (λ t u. calling (arrive_call u.view u.memory t p c) (Some t))) taken)

  -- a cell departed, and its note was taken
  pub sent-one : (g : Ticket) (s : Standing A) (w z : View A) (d : Departed) (n : Note) (notes : List Note) (bytes held cell : List ℕ)
      → depart_call s.view s.memory g ≡ record { reply = Ok d; view = w; memory = record { cells = s.memory.cells; notes = notes; bytes = bytes } }
      → take_note_call w (record { cells = s.memory.cells; notes = notes; bytes = bytes }) d.output ≡ record { reply = Ok n; view = z; memory = record { cells = s.memory.cells; notes = notes; bytes = bytes } }
      → held ≡ bytes → cell ≡ part d.output bytes
      → departing g s ≡ answering (record { output = d.output; note = n; cell = cell }) (record { view = z; memory = record { cells = s.memory.cells; notes = notes; bytes = held }; ticket = None })
  sent-one g s w z d n notes bytes held cell departure taking same shown =
      ap (λ (o : Outcome A Departed). and_then (calling o None)
      (λ d u. and_then (calling (take_note_call u.view u.memory d.output) None)
      (λ n w. answering (record { output = d.output; note = n; cell = part d.output w.memory.bytes }) w))) departure
      ∙ (ap (λ (o : Outcome A Note). and_then (calling o None) (λ n w. answering {T = Sent} (record { output = d.output; note = n; cell = part d.output w.memory.bytes }) w)) taking
      ∙ (ap (λ (x : List ℕ). answering {T = Sent} (record { output = d.output; note = n; cell = x }) (record { view = z; memory = record { cells = s.memory.cells; notes = notes; bytes = bytes }; ticket = None })) (sym shown)
      ∙ ap (λ (x : List ℕ). answering {T = Sent} (record { output = d.output; note = n; cell = cell }) (record { view = z; memory = record { cells = s.memory.cells; notes = notes; bytes = x }; ticket = None })) (sym same)))

  -- nothing departed
  pub none-sent : (w v : View A) (x m : Memory) (held : List ℕ) → w ≡ v → x ≡ m → held ≡ x.bytes
      → ◌≡◌ {A = Standing A} (record { view = w; memory = record { cells = x.cells; notes = x.notes; bytes = held }; ticket = None }) (record { view = v; memory = m; ticket = None })
  none-sent w v x m held e f same =
      ap (λ (y : List ℕ). record { view = w; memory = record { cells = x.cells; notes = x.notes; bytes = y }; ticket = None }) same
      ∙ (ap (λ (y : Memory). record { view = w; memory = y; ticket = None }) f ∙ ap (λ (y : View A). record { view = y; memory = m; ticket = None }) e)

  -- whoever has taken up the ticket holds it no more
  pub taken-up : (s : Standing A) (t : Option Ticket) → (taking_up s t).standing.ticket ≡ None
  taken-up s (Some t) = refl
  taken-up s None = refl

  -- the slot was decided, sent and closed
  pub ended : (a : Meaning A) (s u : Standing A) (w : View A) (t g : Ticket) (r : Told A Ended) → answering t u ≡ taking_up s s.ticket → u.ticket ≡ None
      → decide_call a u.view u.memory t ≡ record { reply = Ok g; view = w; memory = u.memory }
      → r ≡ finishing g (record { view = w; memory = u.memory; ticket = u.ticket }) → r ≡ ending a s
  ended a s u w t g r taken held decision finished =
      finished
      ∙ (ap (λ (k : Option Ticket). finishing g (record { view = w; memory = u.memory; ticket = k })) held
      ∙ (sym (ap (λ (o : Outcome A Ticket). and_then (calling o (handed_back o.reply t)) finishing) decision)
      ∙ ap (λ (x : Told A Ticket). and_then x (λ t u. and_then (deciding a t u) finishing)) taken))

  -- a switch was just made
  pub started : (a : Meaning A) (x : A) (mark first n : ℕ) (v : View A) (blocks : List Block) (notes : List Note) (bytes : List ℕ)
      → v ≡ made a x mark first → n ≡ a.ports x → blocks ≡ replicate 128 empty_block → notes ≡ replicate 64 empty_note → bytes ≡ replicate 424 0
      → ◌≡◌ {A = Standing A} (record { view = v; memory = lent n blocks notes bytes; ticket = None }) (starting a x mark first)
  started a x mark first n v blocks notes bytes e f b c d =
      ap (λ (w : View A). record { view = w; memory = lent n blocks notes bytes; ticket = None }) e
      ∙ (ap (λ (k : ℕ). record { view = made a x mark first; memory = lent k blocks notes bytes; ticket = None }) f
      ∙ (ap (λ (xs : List Block). record { view = made a x mark first; memory = lent (a.ports x) xs notes bytes; ticket = None }) b
      ∙ (ap (λ (xs : List Note). record { view = made a x mark first; memory = lent (a.ports x) (replicate 128 empty_block) xs bytes; ticket = None }) c
      ∙ ap (λ (xs : List ℕ). record { view = made a x mark first; memory = lent (a.ports x) (replicate 128 empty_block) (replicate 64 empty_note) xs; ticket = None }) d)))

-- what was ended was ended, whether a slot was open or not
pub ends : {T : Type 0} (t : Option Ticket) (x : T) → OpenEnds t (Ok x)
ends None x = tt
ends (Some t) x = tt

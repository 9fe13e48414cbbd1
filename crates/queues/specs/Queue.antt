-- The number of a queue, checked.
use Rattle.std.specs.Prelude.{◌≡◌, ℕ, Ok, Err, Result}
use Rattle.queues.specs.declared.queue.Queue.{Queue}
use Rattle.queues.specs.declared.refusal.QueueRefusal.{QueueRefusal}
use Rattle.queues.specs.Calls.{queue_fits}

-- what a check of the queue q gives: the refusal that is its answer, or else the queue
abbrev pub Checks : Result (Unit {0}) QueueRefusal → ℕ → Result Queue QueueRefusal → Type 0
Checks answer q (Ok queue) = (answer ≡ Ok tt) × (queue.number ≡ q)
Checks answer q (Err e) = answer ≡ Err e

-- the queue with a number, which is refused where there is none
abbrev pub Finds : ℕ → Result Queue QueueRefusal → Type 0
Finds q r = Checks (queue_fits q) q r

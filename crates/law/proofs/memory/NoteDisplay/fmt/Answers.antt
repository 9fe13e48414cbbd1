use Rattle.law.proofs.memory.NoteDisplay.fmt.Goals as goal

pub returns-clause-writes : goal.returns-clause-writes
returns-clause-writes g c = rw c.in_radix.ensures at rw c.in_radix-2.ensures at rw c.laid_out.ensures at rw c.laid_out-2.ensures at c.write.ensures.writes

-- A flush leaves the flushed array, and a fill the filled one.
use Rattle.flat_array.proofs.disk.FlatDisk.apply.Goals as goal

pub returns-in-Flush-clause-becomes : goal.returns-in-Flush-clause-becomes
returns-in-Flush-clause-becomes c = λ a holds. rw c.in-Flush.is (c.flush.ensures a holds)

pub returns-in-Fill-clause-becomes : goal.returns-in-Fill-clause-becomes
returns-in-Fill-clause-becomes c = rw c.in-Fill.is c.fill.ensures.done

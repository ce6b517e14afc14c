use Rattle.std.proofs.lemmas.List.{drop-drop}
use Rattle.io_ends.proofs.memory.MemSourceSource.take.Goals as goal

pub returns-clause-taken : goal.returns-clause-taken
returns-clause-taken c =
    let bytes = c.self.inside.bytes.items in
    rw (← c.self.view_is, ← drop-drop c.copy_front-count.result c.self.inside.at bytes)
    (rw (c.split_at.ensures.back, c.as_slice.ensures.value) at c.copy_front-count.ensures.taken)

-- The first sectors were copied.
use Rattle.buffer_tests.specs.OneFile.{Copies}
use Rattle.buffer_tests.proofs.one_file.copy.Given as goal

abbrev pub invariant-loop-step : goal.invariant-loop-step
invariant-loop-step l = Copies l.from l.first l.fn.into l.into l.place l.step

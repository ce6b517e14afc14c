use Rattle.std.proofs.Common.{append_assoc, refl, arith}
use Rattle.std.proofs.Math.Seq.{take-add}
use Rattle.std.proofs.lemmas.List.{take_rest}
use Rattle.io_ends.proofs.standard.StdSinkSink.put.Goals as goal

pub loop-done-preserved : goal.loop-done-preserved
loop-done-preserved g c =
    let e = c.in_ok-done.ensures in (
      omega (arith, e.bounded),
      omega (arith, e.no_fault),
      λ known.
          let before = c.loop-done.invariant.2 known in
          (e.told before.0, rw (e.written before.0, before.1, take_rest, append_assoc, take-add) refl),
    )

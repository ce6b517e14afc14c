-- Each sector has its last value taken away.
use Rattle.std.proofs.Common.{◌≡◌, ◌+◌, ◌-◌, ◌≤◌, sym, subst, ◌∙◌, ap, arith}
use Rattle.flat_array.specs.Array.{filled}
use Rattle.flat_array.specs.Disk.{DiskIs}
use Rattle.flat_array.proofs.Filling.{filled_next, filled_none}
use Rattle.flat_array.proofs.disk.FlatDisk.unfill.Goals as goal

pub loop-at-preserved : goal.loop-at-preserved
loop-at-preserved c =
    let at = c.loop-at.at in
    let more = c.loop-at-test.true in
    record {
      from = omega arith;
      filled =
          λ a v holds.
          let one : (at - 1) + 1 ≡ at = omega arith in
          let from : c.args.sector ≤ at - 1 = omega arith in
          c.unwrite.ensures (filled a c.args.sector (at - 1 - c.args.sector) v) v
          (subst (λ b. DiskIs c.loop-at.self b)
          (sym
          (filled_next a c.args.sector (at - 1) v from ∙ ap (λ n. filled a c.args.sector (n - c.args.sector) v) one))
          (c.loop-at.invariant.filled a v holds));
    }

pub returns : goal.returns
returns c =
    λ a v holds.
    let from = c.loop-at.invariant.from in
    let none : c.loop-at.at - c.args.sector ≡ 0 = omega arith in
    subst (λ b. DiskIs c.loop-at.self b)
    (ap (λ n. filled a c.args.sector n v) none ∙ filled_none a c.args.sector v)
    (c.loop-at.invariant.filled a v holds)

use Rattle.std.proofs.Common.{arith, ◌∙◌}
use Rattle.raid_rack.proofs.LayingDrive.{joining_all, joining_next}
use Rattle.raid_rack.proofs.Steps.{length_set}
use Rattle.raid_rack.proofs.new_drive.joining.Goals as goal

pub loop-number-preserved : goal.loop-number-preserved
loop-number-preserved c =
    let count = c.loop-number.invariant.count in
    let few = c.requires.few in
    record {
      count = length_set c.loop-number.joining c.loop-number.number c.joins.result ∙ count;
      flags = joining_next c.args.arrays.now c.args.place c.args.sectors c.loop-number.number c.loop-number.joining c.joins.result (omega (arith, count, few, c.loop-number-test.true))
          c.joins.ensures c.loop-number.invariant.flags;
    }

pub returns : goal.returns
returns c =
    joining_all c.args.arrays.now c.args.place c.args.sectors c.loop-number.number c.loop-number.joining (omega (arith, c.loop-number-test.false)) c.loop-number.invariant.flags

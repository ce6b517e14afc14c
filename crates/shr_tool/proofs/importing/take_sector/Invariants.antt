-- The first bytes of the sector are those that were taken.
use Rattle.std.proofs.Common.{◌-◌, ◌≡◌, ◌≤◌, ◌++◌, length, take}
use Rattle.shr_tool.proofs.importing.take_sector.Given as goal

abbrev pub invariant-loop-filled : goal.invariant-loop-filled
invariant-loop-filled g l =
    let left = g.I.Source.left in
    record {
      few : l.filled ≤ 512;
      long : length l.into ≡ 512;
      faults : g.I.Source.faults l.fn.input ≤ g.I.Source.faults l.input;
      told : g.I.Source.told l.fn.input → g.I.Source.told l.input;
      taken : g.I.Source.told l.fn.input → left l.fn.input ≡ take l.filled l.into ++ left l.input;
    }

abbrev pub decreases-loop-filled : goal.decreases-loop-filled
decreases-loop-filled g l = 512 - l.filled

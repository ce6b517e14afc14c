use Rattle.std.proofs.Common.{◌*◌, nat_lt}
use Rattle.raid_laws.specs.Cleaning.{Cleans}
use Rattle.raid_laws.specs.Moves.{RaisesBy}
use Rattle.raid_rack.specs.RaidRack.{IsRunning, raid_by}
use Rattle.raid_laws.specs.Truths.{KeepsTruths}
use Rattle.raid_laws.specs.Unlost.{KeepsUnlost}
use Rattle.raid_rack.proofs.arrays.Arrays.clean_all.Given as goal

abbrev pub invariant-loop-number : goal.invariant-loop-number
invariant-loop-number g l = record {
  cleans : Cleans (λ n. nat_lt n l.number) (raid_by l.fn.self) (raid_by l.self) (g.S.Rack.seen l.fn.rack) (g.S.Rack.seen l.rack);
  raises : RaisesBy (l.number * 18) (raid_by l.fn.self) (raid_by l.self);
  running : IsRunning l.self (g.S.Rack.seen l.rack);
  truths : KeepsTruths (raid_by l.fn.self) (raid_by l.self) (g.S.Rack.seen l.fn.rack) (g.S.Rack.seen l.rack);
  unlost : KeepsUnlost l.fn.self.state l.self.state (g.S.Rack.seen l.fn.rack) (g.S.Rack.seen l.rack);
  runs : g.S.Rack.runs l.fn.rack l.rack;
}

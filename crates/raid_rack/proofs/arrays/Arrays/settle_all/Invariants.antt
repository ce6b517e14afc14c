use Rattle.std.proofs.Common.{◌≡◌, length}
use Rattle.raid_laws.specs.Settling.{SettlesTo}
use Rattle.raid_rack.specs.RaidRack.{raid_by}
use Rattle.transition_laws.specs.Losses.{SettlesBook}
use Rattle.raid_rack.proofs.arrays.Arrays.settle_all.Given as goal

abbrev pub invariant-loop-n : goal.invariant-loop-n
invariant-loop-n g l = record {
  settles : SettlesTo (raid_by l.fn.self) (raid_by l.self) (g.S.Rack.seen l.fn.rack) (g.S.Rack.seen l.rack) l.n l.self.log.added;
  book : SettlesBook (raid_by l.fn.self) (raid_by l.self) l.n (g.S.Rack.seen l.fn.rack) (g.S.Rack.seen l.rack);
  count : length l.self.all.items ≡ l.fn.self.state.made;
  same : l.self ≡ record l.fn.self { all = l.self.all; log = l.self.log };
  log : l.self.log ≡ record l.fn.self.log { added = l.self.log.added };
  runs : g.S.Rack.runs l.fn.rack l.rack;
}

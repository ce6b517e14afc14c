use Rattle.std.proofs.Common.{◌≡◌}
use Rattle.raid_laws.specs.Settling.{HasStaged}
use Rattle.raid_rack.specs.RaidRack.{raid_by}
use Rattle.raid_rack.proofs.arrays.Arrays.stage_all.Given as goal

abbrev pub invariant-loop-number : goal.invariant-loop-number
invariant-loop-number l = record {
  staged : HasStaged (raid_by l.fn.self) l.number l.self.log.added;
  rest : l.self ≡ record l.fn.self { log = record l.fn.self.log { added = l.self.log.added } };
}

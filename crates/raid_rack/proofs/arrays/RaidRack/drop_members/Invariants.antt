use Rattle.std.proofs.Common.{◌+◌}
use Rattle.raid_rack.proofs.LaidMembers.{LaysOnly}
use Rattle.raid_rack.proofs.arrays.RaidRack.drop_members.Given as goal

abbrev pub invariant-loop-place : goal.invariant-loop-place
invariant-loop-place g l = LaysOnly g.R.Rack.seen (l.number + 1) l.fn.self l.self

use Rattle.std.proofs.Common.{◌≡◌, ◌≤◌, ◌+◌, filter}
use Rattle.std.specs.List.{range_with_len}
use Rattle.arrayvec.specs.ArrayVec.{array_vec_len}
use Rattle.growth_laws.specs.NewArrays.{reaches}
use Rattle.raid_rack.proofs.arrays.Arrays.reaching.Given as goal

-- those of the places up to here
abbrev pub invariant-loop-place : goal.invariant-loop-place
invariant-loop-place l = record {
  places : l.places.items ≡ filter (reaches l.self.state (l.top + l.height)) (range_with_len 0 l.place);
  few : array_vec_len l.places ≤ l.place;
}

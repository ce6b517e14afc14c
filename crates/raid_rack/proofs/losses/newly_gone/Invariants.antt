use Rattle.std.proofs.Common.{◌≡◌, ◌≤◌, filter, take, length}
use Rattle.raid_laws.specs.Losses.{has_gone}
use Rattle.raid_rack.proofs.losses.newly_gone.Given as goal

abbrev pub invariant-loop-place : goal.invariant-loop-place
invariant-loop-place l = record {
  made : l.places.items ≡ filter (has_gone l.arrays) (take l.place-index l.place-items);
  few : length l.places.items ≤ l.place-index;
}

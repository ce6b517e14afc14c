use Rattle.std.proofs.Common.{◌≡◌, true, map, length}
use Rattle.std.specs.Option.{option_map_or}
use Rattle.std.specs.List.{list_all, range_with_len}
use Rattle.rack.specs.Sequences.{OnlyReads}
use Rattle.pool_check.specs.Drives.{AreDrivesOf, Drives, found_with, seats_by}
use Rattle.pool_check.specs.Founded.{HasContents}
use Rattle.pool_check.specs.Layers.{found_on, is_usable}
use Rattle.pool_check.proofs.superblocks.read_supers.Given as goal

abbrev pub invariant-loop-place : goal.invariant-loop-place
invariant-loop-place g l = record {
  only : OnlyReads (g.R.Rack.seen l.initial.rack) (g.R.Rack.seen l.rack);
  count : length l.found.items ≡ l.place;
  found :
      (o : Drives) → AreDrivesOf (g.R.Rack.seen l.initial.rack) (seats_by l.seats) o
      → l.found.items ≡ map (found_on (found_with l.state (seats_by l.seats) o) l.array l.first) (range_with_len 0 l.place);
  contents : HasContents l.state (seats_by l.seats) l.array l.place l.found.items;
  usable : list_all (λ f. option_map_or is_usable f.seen true) l.found.items ≡ true;
  runs : g.R.Rack.runs l.initial.rack l.rack;
}

use Rattle.std.proofs.Common.{◌≡◌, filter}
use Rattle.std.specs.List.{range_with_len}
use Rattle.array_image.specs.Supers.{is_named}
use Rattle.pool.proofs.standing.members.Given as goal

abbrev pub invariant-loop-place : goal.invariant-loop-place
invariant-loop-place l = l.members.items ≡ filter (is_named l.truth) (range_with_len 0 l.place)

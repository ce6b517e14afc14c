use Rattle.std.proofs.Common.{◌≡◌, true}
use Rattle.std.specs.List.{list_all}
use Rattle.std.specs.Option.{option_map_or}
use Rattle.array_core.specs.Model.{is_truth}
use Rattle.array_tests.proofs.geometries.Geometry.open.Given as goal

abbrev pub invariant-loop-place : goal.invariant-loop-place
invariant-loop-place l = list_all (λ f. option_map_or is_truth f.seen true) l.found.items ≡ true

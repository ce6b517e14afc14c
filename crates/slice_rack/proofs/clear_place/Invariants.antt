use Rattle.std.proofs.Common.{◌≡◌, ◌≢◌, ◌<◌, ℕ}
use Rattle.std.specs.Prelude.{slice_get}
use Rattle.std.specs.Option.{option_map_or}
use Rattle.slice_rack.specs.Slices.{place_of}
use Rattle.slice_rack.proofs.clear_place.Given as goal

abbrev pub invariant-loop-d : goal.invariant-loop-d
invariant-loop-d l =
    ((e : ℕ) → e < l.d → place_of e ≡ l.place → option_map_or (λ slice. slice.sectors) (slice_get l.slices e) 0 ≡ 0)
    × ((e : ℕ) → place_of e ≢ l.place → slice_get l.slices e ≡ slice_get l.fn.slices e)

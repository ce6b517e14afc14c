use Rattle.std.proofs.Common.{◌≢◌, ◌<◌, ℕ, Some}
use Rattle.slice_rack.specs.Slices.{seat_of}
use Rattle.slice_rack.specs.SliceRack.{tables}
use Rattle.slice_rack.proofs.SliceRack.seated.Given as goal

abbrev pub invariant-loop-place : goal.invariant-loop-place
invariant-loop-place g l = (p : ℕ) → p < l.place → seat_of (tables l.self) p ≢ Some l.disk

use Rattle.std.proofs.Common.{◌≡◌, ◌≢◌, ◌+◌, ◌*◌, ◌<◌, ℕ}
use Rattle.slice_rack.specs.Slices.{place_of}
use Rattle.slice_rack.specs.Changes.{Shares}
use Rattle.slice_rack.specs.SliceRack.{tables}
use Rattle.slice_rack.proofs.SliceRack.overlaps.Given as goal

abbrev pub invariant-loop-other : goal.invariant-loop-other
invariant-loop-other g l =
    (d : ℕ) → place_of d ≡ l.place → d < 17 * l.place + l.other → d ≢ 17 * l.place + l.slice → Shares (tables l.self) d l.first l.sectors → ⊥

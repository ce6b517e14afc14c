-- Which rows of an array agree.
use Rattle.std.specs.Prelude.{ℕ, ◌<◌, take}
use Rattle.rack.specs.Seen.{Image}
use Rattle.raid_map.specs.LeftSymmetric.{row_at}
use Rattle.array_image.specs.Stripes.{Layout, width, sector_in, there, AgreeIn}
use Rattle.array_image.specs.Arrays.{Member, Shape, layout_at, stripe_in}
use Rattle.array_image.specs.Held.{Among}

-- all members count at a sector of their data
abbrev pub AllCount : Layout → Shape → ℕ → Type 0
AllCount layout shape sector = (m : Member) → Among m (take (width layout) shape.members) → sector < m.reach

-- The members agree in each stripe that has a sector of the array and isn't left to resync, where all of them count. In a
-- reshape that is each new row that it has moved, and each old row with a sector that it hasn't.
abbrev pub AreEven : Shape → ℕ → ℕ → Image → Type 0
AreEven shape array resync c =
    (x : ℕ) → sector_in (layout_at shape x) x < shape.size
    → row_at (sector_in (layout_at shape x) x) < resync
    → AllCount (layout_at shape x) shape (sector_in (layout_at shape x) x)
    → AgreeIn (layout_at shape x) (there (stripe_in c array shape (layout_at shape x) (sector_in (layout_at shape x) x)))

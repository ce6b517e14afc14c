-- Which sectors of an array can't be had any more.
use Rattle.std.specs.Prelude.{ℕ, suc, Bool, ◌&&◌, ◌||◌, not, nat_lt, if◌then◌else◌, List, [], ◌∷◌}
use Rattle.raid_map.specs.LeftSymmetric.{row_at}
use Rattle.array_image.specs.Stripes.{sector_in}
use Rattle.array_image.specs.Arrays.{Member, Shape, layout_at}

-- how many members don't count at a sector of their data: they are missing, or not rebuilt so far
abbrev pub wanting : ℕ → List Member → ℕ
wanting sector [] = 0
wanting sector (m ∷ others) = if nat_lt sector m.reach then wanting sector others else suc (wanting sector others)

-- two members are wanting, or one where the row is left to resync
abbrev pub spent_with : ℕ → Bool → Bool
spent_with lacking synced = nat_lt 1 lacking || (nat_lt 0 lacking && not synced)

-- whether a sector of an array is spent, where its rows from `resync` on are left to resync
abbrev pub spent_by : Shape → ℕ → ℕ → Bool
spent_by shape resync x =
    spent_with (wanting (sector_in (layout_at shape x) x) shape.members) (nat_lt (row_at (sector_in (layout_at shape x) x)) resync)

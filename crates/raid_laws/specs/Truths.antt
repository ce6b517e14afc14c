-- Superblocks of arrays that say their truths.
use Rattle.std.specs.Prelude.{◌≢◌, ℕ, ◌<◌, slice_get, Some}
use Rattle.rack.specs.Seen.{RackView, IsLive}
use Rattle.array_image.specs.Places.{super_sector}
use Rattle.array_model.specs.declared.Seat.TheVariants.{Missing}
use Rattle.array_model.specs.Members.{slice_on}
use Rattle.array_model.specs.View.{View}
use Rattle.array_core.specs.TruthHeld.{HoldTruth, TellSupers}
use Rattle.raid_laws.specs.Raid.{Raid}

-- A part of a call keeps them: superblocks that said an array's truth before it do so after it.
abbrev pub KeepsTruths : Raid → Raid → RackView → RackView → Type 0
KeepsTruths v w a b = (n : ℕ) → n < v.state.made → HoldTruth (v.arrays n) a → HoldTruth (w.arrays n) b

-- A part of a call writes them all: superblocks whose sectors were told before it say the array's truth after it.
abbrev pub MakesTruths : Raid → Raid → RackView → RackView → Type 0
MakesTruths v w a b = (n : ℕ) → n < v.state.made → TellSupers (v.arrays n) a → HoldTruth (w.arrays n) b

-- the sectors of an array's superblocks are told, each that its slice has
abbrev pub TellsThere : View → RackView → Type 0
TellsThere v x =
    (k : ℕ) → k < v.truth.raid_disks → slice_get v.seats k ≢ Some Missing → super_sector < x.sectors (slice_on v k) → IsLive x x (slice_on v k) super_sector

-- The commit that takes a drive in writes them all, those of the new members too; `v` are the arrays with these.
abbrev pub JoinsTruths : Raid → Raid → RackView → RackView → Type 0
JoinsTruths v w a b = (n : ℕ) → n < v.state.made → TellsThere (v.arrays n) a → HoldTruth (w.arrays n) b

-- A clean end: arrays whose members are synced, and whose superblocks leave no rows to resync but those that are left in them.
use Rattle.std.specs.Prelude.{◌≡◌, ◌≢◌, ◌+◌, ◌<◌, ℕ, Bool, true, false, nat_lt, List, slice_get, Some}
use Rattle.rack.specs.Values.{Values, MayLeave, Keeps}
use Rattle.rack.specs.Seen.{Image, RackView, IsLive}
use Rattle.md_super.specs.declared.superblock.Super.{Super}
use Rattle.array_image.specs.Left.{IsLeft}
use Rattle.array_image.specs.Supers.{truth_in}
use Rattle.array_image.specs.Places.{slice_of, super_sector}
use Rattle.array_image.specs.Held.{IsSynced}
use Rattle.array_model.specs.declared.Seat.TheVariants.{Missing}
use Rattle.array_model.specs.View.{View, HasFault, shape_of}
use Rattle.array_model.specs.Members.{IsSameButSeats, slice_on}
use Rattle.array_model.specs.ArrayCalls.{IncludesSpent}
use Rattle.array_core.specs.Superblocks.{is_settled, left_offset, settled}
use Rattle.array_core.specs.Settling.{IsOwnSector}
use Rattle.array_core.specs.Seats.{heeded}
use Rattle.raid_laws.specs.Raid.{Raid, IsTracked, is_failed}
use Rattle.raid_laws.specs.Moves.{IsTrackedInCall, IsHeeded, ChangesNoData}

-- no drive refuses a call
abbrev pub NoneFails : RackView → RackView → Type 0
NoneFails a b = (place : ℕ) → HasFault a b place → ⊥

-- each member that is left has the array's superblock durably
abbrev pub HasSupersOn : View → RackView → RackView → Type 0
HasSupersOn u a b =
    (n : ℕ) → n < u.truth.raid_disks → slice_get u.seats n ≢ Some Missing → IsLive a b (slice_on u n) super_sector
    → (x : List ℕ) → MayLeave (b.held (slice_on u n) super_sector) x → IsOwnSector u n x

-- The superblocks of an array leave the rows to resync that are left in it, or in a young array to zero, and no others. Where they
-- did so before, it is as it was. Else they have one more event, each durably on each member that is left.
pub data IsEnded (u w : View) (a b : RackView) : Type 0 where
  as_it_was : is_settled u ≡ true → IsSameButSeats u w → IsEnded u w a b
  restated : is_settled u ≡ false → IsSameButSeats (settled u) w → HasSupersOn w a b → IsEnded u w a b

-- Some arrays were ended, where no drive refused a call: nothing else is written than the superblocks of those that weren't settled.
pub record Ends (on : ℕ → Bool) (v w : Raid) (a b : RackView) : Type 0 where
  pub state : w.state ≡ v.state
  pub ended : (n : ℕ) → n < v.state.made → on n ≡ true → IsEnded (v.arrays n) (w.arrays n) a b
  pub others : (n : ℕ) → n < v.state.made → on n ≡ false → w.arrays n ≡ v.arrays n
  pub kept :
      (d t : ℕ) → IsLive a b d t
      → ((n : ℕ) → n < v.state.made → on n ≡ true → is_settled (v.arrays n) ≡ false → slice_of d ≢ n + 1)
      → Keeps (a.held d t) (b.held d t)

-- Some arrays were cleaned. Losses are mended, and each of these arrays has one value in each sector of its members that are left.
pub record Cleans (on : ℕ → Bool) (v w : Raid) (a b : RackView) : Type 0 where
  pub moves : ChangesNoData v w a b
  pub heeded : IsHeeded w
  pub settled :
      (n : ℕ) (vals : ℕ → Values) (spent : ℕ → Bool) → on n ≡ true → n < v.state.joined → n < v.state.made → is_failed w n ≡ false
      → IncludesSpent (w.arrays n) spent → IsTrackedInCall v a n vals spent → IsSynced (shape_of (w.arrays n)) n b.held
  pub ends : NoneFails a b → Ends on v w a b

-- all of them
abbrev pub CleansAll : Raid → Raid → RackView → RackView → Type 0
CleansAll v w a b = Cleans (λ n. nat_lt n v.state.made) v w a b

-- Where no drive refused a call, an array whose superblocks were written leaves in each image the rows to resync that were left in it,
-- and no others.
abbrev pub LeavesItsRows : Raid → Raid → RackView → RackView → Type 0
LeavesItsRows v w a b =
    NoneFails a b
    → (n : ℕ) → IsTracked v a n → is_failed w n ≡ false → is_settled (v.arrays n) ≡ false
    → (r : Image) → IsLeft b r → (t : Super) → truth_in w.state r n ≡ Some t → t.resync_offset ≡ left_offset (v.arrays n)

-- Where whoever went is marked, a mending calls nothing: what went in each array is heeded.
pub record IsIdle (v w : Raid) : Type 0 where
  pub state : w.state ≡ v.state
  pub arrays : (n : ℕ) → n < v.state.made → w.arrays n ≡ heeded (v.arrays n)

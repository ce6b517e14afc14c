-- Calls of an array's members: what is noted of those that go, what they read and what they write.
use Rattle.std.specs.Prelude.{take, not, nat_lt, if◌then◌else◌, ◌≡◌, ◌≢◌, ℕ, ◌+◌, ◌<◌, ◌≤◌, Bool, true, ◌==◌, ◌&&◌, List, map, slice_get, Option, Some, None, ◌*◌, false, ◌⊎◌}
use Rattle.std.specs.List.{range_with_len}
use Rattle.rack.specs.Values.{IsSingle}
use Rattle.rack.specs.Seen.{Image, RackView, IsLive}
use Rattle.rack.specs.Targets.{Target, look}
use Rattle.rack.specs.Sequences.{IsPayload, WritesOnly}
use Rattle.parity.specs.Xor.{xor, xor_all}
use Rattle.array_image.specs.Places.{slice_of, place_of, member_slice, data_sector}
use Rattle.std.specs.Option.{option_map_or}
use Rattle.raid_map.specs.LeftSymmetric.{row_at}
use Rattle.array_image.specs.Stripes.{Layout, Stripe, width, capacity, there, at_position, given}
use Rattle.array_image.specs.Supers.{is_reshaping, new_row}
use Rattle.array_image.specs.Spent.{wanting, spent_with}
use Rattle.array_image.specs.Arrays.{Member, column, final_layout, first_layout}
use Rattle.array_model.specs.declared.Seat.TheVariants.{Missing, Whole}
use Rattle.array_model.specs.View.{View, LosesPlaces, HasFault, has_gone, place_at, member_on}

-- the members, by position
abbrev pub members_of : View → List Member
members_of v = map (member_on v) (range_with_len 0 v.truth.raid_disks)

-- a member's slice
abbrev pub slice_on : View → ℕ → ℕ
slice_on v n = member_slice (place_at v n) v.number

-- A rack that an array can call: it takes no sector away for good, and has the slice of each member that isn't missing.
pub record HasSlices (v : View) (a : RackView) : Type 0 where
  pub fit : a.fit
  pub lasting : a.lasting
  pub disks : (n : ℕ) → n < v.truth.raid_disks → slice_get v.seats n ≢ Some Missing → slice_on v n < a.disks
  pub sectors : (n : ℕ) → n < v.truth.raid_disks → slice_get v.seats n ≢ Some Missing → data_sector + v.truth.size ≤ a.sectors (slice_on v n)

-- all but the seats and the places that went is as before
pub record IsSameButSeats (v w : View) : Type 0 where
  pub number : w.number ≡ v.number
  pub truth : w.truth ≡ v.truth
  pub devices : w.devices ≡ v.devices
  pub resync : w.resync ≡ v.resync
  pub young : w.young ≡ v.young
  pub marked : w.marked ≡ v.marked

-- Calls between a and b in which places went: they are noted, and nothing else of the array has changed.
pub record Notes (v w : View) (a b : RackView) : Type 0 where
  pub same : IsSameButSeats v w
  pub lost : ℕ → Bool
  pub loses : LosesPlaces v w lost
  pub cause : (place : ℕ) → lost place ≡ true → HasFault a b place

-- the slices of the members that went
abbrev pub gone_slices : View → ℕ → Bool
gone_slices v d = (slice_of d == v.number + 1) && has_gone v (place_of d)

-- calls that wrote these targets, on all disks but those that have gone
pub record Puts (a b : RackView) (xs : List Target) (gone : ℕ → Bool) : Type 0 where
  pub only : WritesOnly a b (IsPayload xs)
  pub last : (d s : ℕ) (x : List ℕ) → IsLive a b d s → gone d ≡ false → look xs d s ≡ Some x → (b.held d s).current ≡ x

-- calls of members' slices that wrote these targets, but on those that went
pub record Works (v w : View) (a b : RackView) (xs : List Target) : Type 0 where
  pub notes : Notes v w a b
  pub puts : Puts a b xs (gone_slices w)

-- a member of an array that was whole: it is so still, or it and its place have gone
abbrev pub IsKept : View → ℕ → Type 0
IsKept v n =
    ((slice_get v.seats n ≡ Some Whole) × (has_gone v (place_at v n) ≡ false))
    ⊎ ((slice_get v.seats n ≡ Some Missing) × (has_gone v (place_at v n) ≡ true))

-- what the members of a list that count at a sector give together
abbrev pub gathered : Image → ℕ → ℕ → List Member → List ℕ
gathered c array sector members = xor_all 512 (there (map (column c array sector) members))

-- a sum, with a sector that is there
abbrev pub added : Option (List ℕ) → List ℕ → List ℕ
added None sum = sum
added (Some v) sum = xor sum v

-- the sectors of a member that count have one value each
abbrev pub IsSingleOn : View → RackView → ℕ → Type 0
IsSingleOn v x n = (sector : ℕ) → sector < (member_on v n).reach → IsSingle (x.held (slice_on v n) (data_sector + sector))

-- ---- rows of the members' data

-- the layout of a row: a reshape has moved those that begin below its position
abbrev pub row_layout : View → ℕ → Layout
row_layout v sector =
    if is_reshaping v.truth && nat_lt (row_at sector * new_row v.truth) v.truth.reshape_position then final_layout v.truth
    else first_layout v.truth

-- the first sector of the array in a row
abbrev pub first_of_row : Layout → ℕ → ℕ
first_of_row layout sector = row_at sector * capacity layout 128

-- one sector of each member of a row
abbrev pub row_of : View → Image → ℕ → Stripe
row_of v c sector = map (column c v.number sector) (take (width (row_layout v sector)) (members_of v))

-- what a member has to hold: its own sector, or what the others give where that doesn't count
abbrev pub restored : Layout → Stripe → ℕ → List ℕ
restored layout stripe position = option_map_or (λ x. x) (at_position position stripe) (given layout stripe position)

-- whether a member's sector can't be had any more: neither its own nor from the others
abbrev pub member_spent : View → ℕ → ℕ → Bool
member_spent v position sector =
    not (nat_lt sector (member_on v position).reach) && spent_with (wanting sector (members_of v)) (nat_lt (row_at sector) v.resync)

-- The targets of a row that is changed by one commit.
use Rattle.std.specs.Prelude.{◌≡◌, ◌⊎◌, ℕ, zero, suc, ◌+◌, ◌<◌, ◌≤◌, Bool, true, false, ◌||◌, nat_lt, if◌then◌else◌, List, [], ◌∷◌, ◌++◌, length}
use Rattle.rack.specs.Seen.{RackView}
use Rattle.rack.specs.Targets.{Target, target}
use Rattle.rack.specs.Sequences.{OnlyReads}
use Rattle.parity.specs.Xor.{xor}
use Rattle.raid_map.specs.LeftSymmetric.{row_at, parity_at}
use Rattle.array_image.specs.Places.{data_sector}
use Rattle.array_image.specs.Stripes.{mirror, parity, position_in, sector_in}
use Rattle.array_image.specs.Arrays.{layout_at}
use Rattle.array_image.specs.Held.{current_in}
use Rattle.array_image.specs.Spent.{wanting, spent_with}
use Rattle.array_model.specs.View.{View, LosesPlaces, member_on, shape_of, spent_in}
use Rattle.array_model.specs.Says.{IsOpen}
use Rattle.array_model.specs.Members.{IsSameButSeats, Notes, members_of, slice_on}
use Rattle.array_core.specs.declared.members.Stand.{Stand}
use Rattle.array_core.specs.Stands.{IsStand, given_at, layout_of}

-- A member's sector is due: it counts there, or did when the call began, as each of a whole array does.
abbrev pub is_due : Bool → View → ℕ → ℕ → Bool
is_due all v n sector = all || nat_lt sector (member_on v n).reach

-- the slices of all members are there, those of members that went as well
abbrev pub HasAll : View → RackView → Type 0
HasAll v a = (n : ℕ) → n < v.truth.raid_disks → (slice_on v n < a.disks) × (data_sector + v.truth.size ≤ a.sectors (slice_on v n))

abbrev pub sector_target : View → ℕ → ℕ → List ℕ → Target
sector_target v n sector bytes = target (slice_on v n) (data_sector + sector) bytes

abbrev pub one_if : Bool → Target → List Target
one_if due x = if due then x ∷ [] else []

-- a sector for each of the first members that is due
unfoldable pub due_copies : Bool → View → ℕ → List ℕ → ℕ → List Target
due_copies all v sector from zero = []
due_copies all v sector from (suc n) = due_copies all v sector from n ++ one_if (is_due all v n sector) (sector_target v n sector from)

-- the old value of a sector and the old parity, as the members that were left then gave them, make the new parity
pub record MakesParity (v w : View) (a : RackView) (at side : Stand) (from new : List ℕ) : Type 0 where
  pub found : View
  pub same : IsSameButSeats v found
  pub lost : ℕ → Bool
  pub loses : LosesPlaces v found lost
  pub unspent : spent_with (wanting at.sector (members_of found)) (nat_lt (row_at at.sector) found.resync) ≡ false
  pub still : spent_with (wanting side.sector (members_of w)) (nat_lt (row_at side.sector) w.resync) ≡ false
  pub old : List ℕ
  pub side_old : List ℕ
  pub old_is : IsOpen (shape_of v) v.number a → old ≡ given_at found at (current_in a.held)
  pub side_is : IsOpen (shape_of v) v.number a → side_old ≡ given_at w side (current_in a.held)
  pub new_is : new ≡ xor (xor side_old old) from

-- the targets of a row's change
pub data IsChange (all : Bool) (v w : View) (a : RackView) (at side : Stand) (from : List ℕ) : List Target → Type 0 where
  data_alone :
      is_due all v side.position at.sector ≡ false
      → IsChange all v w a at side from (one_if (is_due all v at.position at.sector) (sector_target v at.position at.sector from))
  with_parity :
      (new : List ℕ) → is_due all v side.position at.sector ≡ true → length new ≡ 512 → MakesParity v w a at side from new
      → IsChange all v w a at side from
      (one_if (is_due all v at.position at.sector) (sector_target v at.position at.sector from) ++ sector_target v side.position at.sector new ∷ [])

-- where a sector stands, and the parity of its row
pub record IsRowAt (v : View) (x : ℕ) (k : ℕ) (at side : Stand) : Type 0 where
  pub layout : layout_at (shape_of v) x ≡ parity k
  pub spread : layout_of at.spread ≡ parity k
  pub position : at.position ≡ position_in (layout_at (shape_of v) x) x
  pub sector : at.sector ≡ sector_in (layout_at (shape_of v) x) x
  pub stand : IsStand v at
  pub side_spread : layout_of side.spread ≡ parity k
  pub side_position : side.position ≡ parity_at k side.sector
  pub side_sector : side.sector ≡ at.sector
  pub side_stand : IsStand v side

-- The targets of a write of sector x: copies on the members that are due, or a row's change.
pub data StagedRow (all : Bool) (v w : View) (a : RackView) (x : ℕ) (from : List ℕ) : List Target → Type 0 where
  staged_copies : (n : ℕ) → layout_at (shape_of v) x ≡ mirror n → StagedRow all v w a x from (due_copies all v x from n)
  staged_change :
      (k : ℕ) (at side : Stand) (targets : List Target) → IsRowAt v x k at side → IsChange all v w a at side from targets → StagedRow all v w a x from targets

-- Nothing was written, and places that went are noted. The sector and its parity are added, or the row is spent.
pub record StagesChange (all : Bool) (v w : View) (a b : RackView) (at side : Stand) (from : List ℕ) (staged : Bool) (added : List Target) : Type 0 where
  pub reads : OnlyReads a b
  pub notes : Notes v w a b
  pub either :
      ((staged ≡ false) × (spent_with (wanting at.sector (members_of w)) (nat_lt (row_at at.sector) w.resync) ≡ true) × (added ≡ []))
      ⊎ ((staged ≡ true) × IsChange all v w a at side from added)

-- Nothing was written, and places that went are noted. The targets are those of the row, or the sector is spent.
pub record Stages (all : Bool) (v w : View) (a b : RackView) (x : ℕ) (from : List ℕ) (staged : Bool) (added : List Target) : Type 0 where
  pub reads : OnlyReads a b
  pub notes : Notes v w a b
  pub either : ((staged ≡ false) × (spent_in w x ≡ true) × (added ≡ [])) ⊎ ((staged ≡ true) × StagedRow all v w a x from added)

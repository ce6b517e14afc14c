-- Where slices are laid, by what was read: one behind the other, and on each member's disk before its end, whatever disks tell.
use Rattle.std.specs.Prelude.{◌≡◌, ℕ, ◌+◌, ◌<◌, ◌≤◌, ◌^◌, true, List, length, slice_get, Some}
use Rattle.std.specs.List.{list_all}
use Rattle.array_image.specs.Places.{arrays_first, data_sector}
use Rattle.array_image.specs.Supers.{is_named}
use Rattle.array_model.specs.View.{View}
use Rattle.pool_image.specs.Disks.{Seats}
use Rattle.pool_check.specs.declared.Extent.{Extent}
use Rattle.pool_check.specs.declared.Layer.{Layer}
use Rattle.pool_check.specs.declared.ArraysRead.{ArraysRead}
use Rattle.pool_check.specs.Layers.{is_member_of, is_sound_on}

-- the sector behind a slice
abbrev pub behind : Extent → ℕ
behind e = e.first + e.sectors

-- extents one behind the other, all behind the log slice
pub record AreOrdered (extents : List Extent) : Type 0 where
  pub least : (n : ℕ) (e : Extent) → slice_get extents n ≡ Some e → arrays_first ≤ e.first
  pub follow : (m n : ℕ) (e g : Extent) → m < n → slice_get extents m ≡ Some e → slice_get extents n ≡ Some g → behind e ≤ g.first

-- a sector behind all of them
pub record IsBehind (extents : List Extent) (first : ℕ) : Type 0 where
  pub least : arrays_first ≤ first
  pub past : (n : ℕ) (e : Extent) → slice_get extents n ≡ Some e → behind e ≤ first

-- a layer says that a place is a member, and where its slice lies
pub record SaysMember (layers : List Layer) (place : ℕ) (e : Extent) : Type 0 where
  pub at : ℕ
  pub layer : Layer
  pub is : slice_get layers at ≡ Some layer
  pub member : is_member_of layer place ≡ true
  pub lies : layer.extent ≡ Some e

-- each array that was opened has its layer
pub record AreMatched (layers : List Layer) (arrays : List View) (extents : List Extent) : Type 0 where
  pub members :
      (n : ℕ) (v : View) (e : Extent) (place : ℕ) → slice_get arrays n ≡ Some v → slice_get extents n ≡ Some e
      → place < 16 → is_named v.truth place ≡ true → SaysMember layers place e
  pub sizes :
      (n : ℕ) (v : View) (e : Extent) → slice_get arrays n ≡ Some v → slice_get extents n ≡ Some e → e.sectors ≡ data_sector + v.truth.size

-- As many layers, and no more arrays than these, each with its extent and its layer; extents lie one behind the other, before the
-- next one.
pub record AreKept (many : ℕ) (layers : ArraysRead) : Type 0 where
  pub count : length layers.all.items ≡ many
  pub lengths : length layers.opened.extents.items ≡ length layers.opened.arrays.items
  pub flags : length layers.opened.stale.items ≡ length layers.opened.arrays.items
  pub fewer : length layers.opened.arrays.items ≤ many
  pub near : (first : ℕ) → layers.next ≡ Some first → first < 2 ^ 48
  pub ordered : AreOrdered layers.opened.extents.items
  pub behind_all : (first : ℕ) → layers.next ≡ Some first → IsBehind layers.opened.extents.items first
  pub matched : AreMatched layers.all.items layers.opened.arrays.items layers.opened.extents.items

-- the slice of each array that a place is a member of ends before the end of its disk
abbrev pub FitsOn : List Layer → ℕ → ℕ → Type 0
FitsOn layers place sectors =
    (k : ℕ) (layer : Layer) (e : Extent) → slice_get layers k ≡ Some layer → is_member_of layer place ≡ true → layer.extent ≡ Some e
    → behind e + 32 < sectors

-- The drive of a place is sound: by its table, its log slice and the slices of the arrays that it is a member of end before the end of
-- the disk, and it has a valid superblock of each of these.
pub record IsSoundDrive (layers : List Layer) (place sectors : ℕ) : Type 0 where
  pub room : arrays_first + 32 < sectors
  pub fits : FitsOn layers place sectors
  pub supers : list_all (is_sound_on place) layers ≡ true

-- Slices for the members of arrays, one behind the other, that lie on the disks of their places.
pub record AreSlots (sectors : ℕ → ℕ) (seats : Seats) (arrays : List View) (extents : List Extent) : Type 0 where
  pub lengths : length extents ≡ length arrays
  pub ordered : AreOrdered extents
  pub sizes :
      (n : ℕ) (v : View) (e : Extent) → slice_get arrays n ≡ Some v → slice_get extents n ≡ Some e → e.sectors ≡ data_sector + v.truth.size
  pub fits :
      (n : ℕ) (v : View) (e : Extent) (place d : ℕ) → slice_get arrays n ≡ Some v → slice_get extents n ≡ Some e
      → is_named v.truth place ≡ true → seats place ≡ Some d → behind e + 32 < sectors d

-- The buffer of each disk, and what it has that the file may not have yet.
use Rattle.std.specs.Prelude.{◌≡◌, ◌⊎◌, ℕ, ◌+◌, ◌<◌, ◌≤◌, List, true, false, length, slice_get, Some, Result}
use Rattle.rack.specs.declared.Gone.{Gone}
use Rattle.rack.specs.Values.{IsSingle}
use Rattle.rack.specs.Sequences.{OnlyReads}
use Rattle.rack.specs.Shelf.{Shelf, KeepsShelf}
use Rattle.buffered_bay.specs.View.{View}
use Rattle.buffered_bay.specs.StoreCalls.{HasFault}
use Rattle.buffered_bay.specs.declared.windows.Window.{Window}

-- The invariant of a disk's window, of files that tell or don't.
pub record IsWindow (tells : Type 0) (x : View) (d : ℕ) (w : Window) : Type 0 where
  -- it lies in the disk
  pub inside : w.first + w.count ≤ x.seen.sectors d
  -- the buffer has the current values of the window's sectors
  pub current : tells → (p : ℕ) → p < w.count → x.buffer d p ≡ (x.seen.held d (w.first + p)).current
  -- the file has the current value of each sector that isn't dirty
  pub clean :
      tells → (s : ℕ) → s < x.seen.sectors d → (s < w.first + w.dirty_from) ⊎ (w.first + w.dirty_to ≤ s)
      → x.stored d s ≡ (x.seen.held d s).current
  -- each sector of a disk that needs no sync holds one value
  pub synced : tells → w.unsynced ≡ false → (s : ℕ) → s < x.seen.sectors d → IsSingle (x.seen.held d s)

-- each disk has its window
pub record AreWindows (tells : Type 0) (x : View) (windows : List Window) : Type 0 where
  pub count : length windows ≡ x.seen.disks
  pub each : (d : ℕ) (w : Window) → slice_get windows d ≡ Some w → IsWindow tells x d w

-- A sector's new value can go into the window: the sector is in it or right behind it, there is a place, and the dirty places
-- stay in a row.
pub record Takes (w : Window) (sector : ℕ) : Type 0 where
  pub above : w.first ≤ sector
  pub behind : sector ≤ w.first + w.count
  pub place : sector < w.first + 128
  pub joins : (w.dirty_from ≡ w.dirty_to) ⊎ ((w.first + w.dirty_from ≤ sector) × (sector ≤ w.first + w.dirty_to))

-- a place has become dirty
pub record Marks (v w : Window) (place : ℕ) : Type 0 where
  pub first : w.first ≡ v.first
  pub count : (p : ℕ) → p < w.count → (p < v.count) ⊎ (p ≡ place)
  pub most : (w.count ≤ v.count) ⊎ (w.count ≡ place + 1)
  pub old : (v.dirty_from ≡ v.dirty_to) ⊎ ((w.dirty_from ≤ v.dirty_from) × (v.dirty_to ≤ w.dirty_to))
  pub new : (w.dirty_from ≤ place) × (place < w.dirty_to)
  pub unsynced : w.unsynced ≡ true

-- a call that brings no value, or a refusal of it
pub record Quiet (a b : View) (s t : Shelf) (disk : ℕ) {X : Type 0} (result : Result X Gone) : Type 0 where
  pub reads : OnlyReads a.seen b.seen
  pub fault : HasFault a.seen b.seen disk result
  pub shelf : KeepsShelf s t

-- nothing of the window is dirty
abbrev pub HasClean : List Window → ℕ → Type 0
HasClean windows disk = (w : Window) → slice_get windows disk ≡ Some w → w.dirty_from ≡ w.dirty_to

-- the window begins at a sector and has none yet
abbrev pub IsEmptyAt : Window → ℕ → Type 0
IsEmptyAt w sector = (w.first ≡ sector) × (w.count ≡ 0)

abbrev pub HasEmpty : List Window → ℕ → ℕ → Type 0
HasEmpty windows disk sector = (w : Window) → slice_get windows disk ≡ Some w → IsEmptyAt w sector

-- the window takes a sector
abbrev pub HasTaking : List Window → ℕ → ℕ → Type 0
HasTaking windows disk sector = (w : Window) → slice_get windows disk ≡ Some w → Takes w sector

-- Attaching the names of the words, in their order.
use Rattle.std.specs.Prelude.{◌≡◌, ◌≢◌, ℕ, ◌<◌, ◌≤◌, List, length, slice_get, take, Some}
use Rattle.rack.specs.declared.AttachFault.{AttachFault}
use Rattle.rack.specs.declared.AttachFault.TheVariants.{Failed, Twice, Memory}
use Rattle.rack.specs.Seen.{Image, RackView, Rose}
use Rattle.rack.specs.Shelf.{Differ, Shelf}
use Rattle.shr_tool.specs.Entry.{waiting_at, IsEntryImage, IsWaiting}

-- all names were attached: disk d is what waited under name d, and up to now each stop left what waited
pub record AreAttached (x y : RackView) (s t : Shelf) (names : List (List ℕ)) : Type 0 where
  pub disks : y.disks ≡ length names
  pub clock : y.clock ≡ x.clock
  pub attached : t.names ≡ names
  pub differ : Differ names
  pub faults : s.faults ≤ t.faults
  pub unfaulted : (d : ℕ) → d < length names → y.faults d ≡ 0
  pub traced : x.traced → s.told → y.traced
  pub told : s.told → t.told
  pub others : (n : List ℕ) → ((d : ℕ) → slice_get names d ≢ Some n) → t.ready n ≡ s.ready n
  pub waited : s.told → (d : ℕ) → d < length names → IsWaiting y d (waiting_at s.ready names d)
  pub past :
      s.told → x.traced → (k : ℕ) (image : Image) → k ≤ x.clock → y.stops k image → IsEntryImage s.ready names image

-- two of the names before this number and at it are equal
pub record IsTwice (names : List (List ℕ)) (first second : ℕ) : Type 0 where
  pub name : List ℕ
  pub before : first < second
  pub on_first : slice_get names first ≡ Some name
  pub on_second : slice_get names second ≡ Some name

-- the cause of a fault at a name
abbrev pub HasAttachCause : AttachFault → Shelf → Shelf → List (List ℕ) → ℕ → Type 0
HasAttachCause Failed s t names number = Rose s.faults t.faults
HasAttachCause (Twice d) s t names number = IsTwice names d number
HasAttachCause Memory s t names number = Unit {0}

-- attaching stopped at a name
pub record IsUnattached (x y : RackView) (s t : Shelf) (names : List (List ℕ)) (number : ℕ) (fault : AttachFault) : Type 0 where
  pub inside : number < length names
  pub cause : HasAttachCause fault s t names number
  -- those before it are, and their disks hold what waited
  pub before : AreAttached x y s t (take number names)

-- How a pool stands at a moment: the part of what it shows of which later moments are told.
use Rattle.std.specs.Prelude.{◌≡◌, ◌⊎◌, ℕ, ◌<◌, ◌≤◌, true, false, List, map, slice_get, Option, Some, None}
use Rattle.std.specs.List.{range_with_len}
use Rattle.rack.specs.Seen.{Held, Rose}
use Rattle.rack.specs.Shelf.{Waiting}
use Rattle.rack.specs.Values.{Values, only}
use Rattle.array_image.specs.Places.{log_slice}
use Rattle.array_image.specs.States.{is_current}
use Rattle.array_model.specs.View.{View as ArrayView}
use Rattle.slice_rack.specs.Slices.{Slices, disk_of}
use Rattle.lvm_group.specs.Runs.{Linear}
use Rattle.raid_laws.specs.Raid.{Raid}
use Rattle.pool.specs.View.{View, book}

-- The clock, the disks of the bay with what they hold, their counts of faults and their names, what waits to be attached, the bay's own count of
-- faults, the pool's state and arrays, where the slices of its drives lie, and where its volume lies on the arrays.
pub record Moment : Type 0 where
  pub clock : ℕ
  pub disks : ℕ
  pub sectors : ℕ → ℕ
  pub held : Held
  pub faults : ℕ → ℕ
  pub names : List (List ℕ)
  pub ready : List ℕ → Option Waiting
  pub unattached : ℕ
  pub book : Raid
  pub slices : Slices
  pub linear : Linear

abbrev pub moment_of : View → Moment
moment_of x = record {
  clock = x.bay.clock;
  disks = x.bay.disks;
  sectors = x.bay.sectors;
  held = x.bay.held;
  faults = x.bay.faults;
  names = x.shelf.names;
  ready = x.shelf.ready;
  unattached = x.shelf.faults;
  book = book x;
  slices = x.slices;
  linear = x.linear;
}

-- the disk of a name
abbrev pub IsNamed : Moment → List ℕ → ℕ → Type 0
IsNamed p name d = slice_get p.names d ≡ Some name

-- The image of a name: how many sectors it has, and the values of each. It is what the disk of the name holds, and where no disk has the name, what
-- waits under it.
abbrev pub IsImage : Moment → List ℕ → ℕ → (ℕ → Values) → Type 0
IsImage p name sectors held =
    ((d : ℕ) × (d < p.disks) × IsNamed p name d × (sectors ≡ p.sectors d) × (held ≡ p.held d))
    ⊎ (((d : ℕ) → IsNamed p name d → ⊥)
    × ((w : Waiting) × (p.ready name ≡ Some w) × (sectors ≡ w.sectors) × (held ≡ (λ s. only (w.contents s)))))

-- the arrays of a book, by number
abbrev pub views_of : Raid → List ArrayView
views_of v = map v.arrays (range_with_len 0 v.state.made)

-- ---- what calls keep

-- The bay has the disks that it had, under their names, and their counts of faults never fall. What waits under a name stays, but for what was
-- attached.
pub record KeepsDisks (p q : Moment) : Type 0 where
  pub disks : p.disks ≤ q.disks
  pub sectors : (d : ℕ) → d < p.disks → q.sectors d ≡ p.sectors d
  pub faults : (d : ℕ) → d < p.disks → p.faults d ≤ q.faults d
  pub names : (d : ℕ) (name : List ℕ) → IsNamed p name d → IsNamed q name d
  pub waits :
      (name : List ℕ)
      → (q.ready name ≡ p.ready name) ⊎ ((q.ready name ≡ None) × ((d : ℕ) × (p.disks ≤ d) × IsNamed q name d))

-- the faults of a place's drive rose, by where its slices lay before
abbrev pub DriveWentFrom : Moment → Moment → ℕ → Type 0
DriveWentFrom p q place = Rose (p.faults (disk_of p.slices (log_slice place))) (q.faults (disk_of p.slices (log_slice place)))

-- drives come to be marked lost only where their faults rose, but for these places
abbrev pub MarksBut : (ℕ → Type 0) → Moment → Moment → Type 0
MarksBut lost p q = (place : ℕ) → is_current p.book.state place ≡ true → is_current q.book.state place ≡ false → DriveWentFrom p q place ⊎ lost place

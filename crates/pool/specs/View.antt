-- What a pool shows to contracts.
use Rattle.std.specs.Prelude.{ℕ, Bool, List}
use Rattle.rack.specs.Seen.{Image, RackView}
use Rattle.rack.specs.Shelf.{Shelf}
use Rattle.slice_rack.specs.Slices.{Slices, sectors_of}
use Rattle.slice_rack.specs.Sliced.{sliced, slices_of}
use Rattle.slice_rack.specs.SliceRack.{tables, below_of as rack_of}
use Rattle.array_image.specs.Arrays.{arrays_in as arrays_held, replayed}
use Rattle.lvm_group.specs.Runs.{Linear, array_of, sector_of}
use Rattle.lvm_group.specs.Shown.{contents_of, volume_of}
use Rattle.lvm_group.specs.Volume.{below_of, linear as linear_of}
use Rattle.raid_rack.specs.declared.arrays.Arrays.{Arrays}
use Rattle.raid_rack.specs.declared.arrays.RaidRack.{RaidRack}
use Rattle.raid_laws.specs.Raid.{Raid, raid_of, spent_of}
use Rattle.raid_rack.specs.RaidRack.{IsFit, arrays_in, raid_by, refused_in, slices_in}
use Rattle.pool.specs.declared.Pool.{Pool}

-- the bays on which a pool may stand, and what each shows
pub record Bays : Type 1 where
  pub one : Type 0
  pub seen : one → RackView
  pub shelf : one → Shelf

pub record View : Type 1 where
  pub bays : Bays
  -- the disks of its bay
  pub bay : RackView
  -- their names, and what waits
  pub shelf : Shelf
  -- where the slices of its drives lie on them
  pub slices : Slices
  -- its arrays, with its state and the number of its log
  pub arrays : Arrays
  -- the spent answers of each array so far
  pub refused : ℕ → ℕ
  -- the extents of its volume on the arrays
  pub linear : Linear

-- the same over another bay
abbrev pub over : (x : View) → x.bays.one → View
over x r = record x { bay = x.bays.seen r; shelf = x.bays.shelf r }

-- its state and its arrays
abbrev pub book : View → Raid
book x = raid_by x.arrays

-- its slices, as a rack
abbrev pub slices_shown : View → RackView
slices_shown x = slices_of x.slices x.bay

-- its arrays, as a rack
abbrev pub arrays_shown : View → RackView
arrays_shown x = raid_of (IsFit x.arrays (slices_shown x)) x.refused (book x) (slices_shown x)

-- its volume, as a rack of one disk
abbrev pub volume : View → RackView
volume x = volume_of x.linear (arrays_shown x)

-- a sector of a volume can't be had by a book
abbrev pub spent_by : Linear → Raid → ℕ → Bool
spent_by l v s = spent_of v (array_of l s) (sector_of l s)

-- The contents of a volume in contents of the bay's disks: those that its arrays give once the pending record is replayed.
abbrev pub contents_in : Slices → Linear → Image → ℕ → List ℕ
contents_in t l disks s = contents_of l (arrays_held (replayed (sectors_of t) (sliced t disks))) 0 s

-- ---- a pool

-- its rack of arrays
abbrev pub arrays_of : {R : Type 0} → Pool R → RaidRack R
arrays_of pool = below_of pool.volume

-- its bay
abbrev pub bay_in : {R : Type 0} → Pool R → R
bay_in pool = rack_of (slices_in (arrays_of pool))

-- what it shows
abbrev pub view : {R : Type 0} → (R → RackView) → (R → Shelf) → Pool R → View
view {R} seen shelf pool = record {
  bays = record { one = R; seen = seen; shelf = shelf };
  bay = seen (bay_in pool);
  shelf = shelf (bay_in pool);
  slices = tables (slices_in (arrays_of pool));
  arrays = arrays_in (arrays_of pool);
  refused = refused_in (arrays_of pool);
  linear = linear_of pool.volume;
}

-- the same over another bay
abbrev pub with_bay : {R : Type 0} → Pool R → R → Pool R
with_bay pool bay =
    let raid = arrays_of pool in
    record { volume = record pool.volume { rack = record raid { slices = record (slices_in raid) { rack = bay } } } }

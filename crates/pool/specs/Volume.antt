-- The volume of a pool as a flat array, in its sectors that aren't spent.
use Rattle.std.specs.Prelude.{◌≡◌, ℕ, ◌<◌, Bool, false, List}
use Rattle.rack.specs.Values.{MayLeave, Keeps}
use Rattle.rack.specs.Seen.{Image}
use Rattle.rack.specs.Moments.{Leaves}
use Rattle.flat_array.specs.Array.{FlatArray}
use Rattle.pool.specs.View.{View, book, contents_in, spent_by, volume}

-- a sector of the volume can't be had any more
abbrev pub is_spent : View → ℕ → Bool
is_spent x = spent_by x.linear (book x)

-- the sectors of the volume
abbrev pub size_of : View → ℕ
size_of x = (volume x).sectors 0

-- The volume holds an array, of which older values may have been dropped. So the bay's disks and names are told.
pub record VolumeIs (x : View) (a : FlatArray) : Type 0 where
  -- where every sector is spent, nothing need be told of its arrays
  pub told : (s : ℕ) → s < a.size → is_spent x s ≡ false → (volume x).told 0
  pub shelf : x.shelf.told
  pub disks : (d : ℕ) → d < x.bay.disks → x.bay.told d
  pub size : a.size ≡ size_of x
  pub values : (s : ℕ) → s < a.size → is_spent x s ≡ false → Keeps (a.values s) ((volume x).held 0 s)

-- contents take one of an array's values in each sector that isn't spent
abbrev pub PicksLive : (ℕ → Bool) → FlatArray → (ℕ → List ℕ) → Type 0
PicksLive spent a contents = (s : ℕ) → s < a.size → spent s ≡ false → MayLeave (a.values s) (contents s)

-- contents of the bay's disks mean an array, by what a pool shows
abbrev pub Means : View → FlatArray → Image → Type 0
Means y a disks = PicksLive (is_spent y) a (contents_in y.slices y.linear disks)

-- A call: what a stop inside it leaves means one array, `during`, and what one at its return leaves another, `after`, which the volume
-- holds then; both by the array before the call, and in the sectors that aren't spent when it returns.
pub record Refines (x y : View) (during after : FlatArray → FlatArray) : Type 0 where
  pub becomes : (a : FlatArray) → VolumeIs x a → VolumeIs y (after a)
  pub leaves : x.bay.traced → (a : FlatArray) → VolumeIs x a → Leaves x.bay y.bay (Means y (during a))
  pub ends : x.bay.traced → (a : FlatArray) → VolumeIs x a → (i : Image) → y.bay.stops y.bay.clock i → Means y (after a) i

-- no sector changes
abbrev pub unchanged : FlatArray → FlatArray
unchanged a = a

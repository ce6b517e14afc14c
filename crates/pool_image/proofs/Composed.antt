-- The meaning goes layer by layer: what a run's tables of slices show of drives is what the drives say themselves, and the values of
-- the arrays follow.
use Rattle.std.proofs.Common.{◌≡◌, ℕ, ◌+◌, ◌<◌, ◌≤◌, Bool, true, false, nat_lt, if◌then◌else◌, List, [], Option, Some, None, refl, sym, ap, ◌∙◌, le-ltb, lt-ltb, ltb-true, arith}
use Rattle.std.specs.Option.{option_map_or}
use Rattle.rack.specs.Seen.{Image}
use Rattle.slice_rack.specs.Slices.{Slices, disk_of, first_of, sectors_of}
use Rattle.array_image.specs.Places.{place_of, slice_of, data_sector, member_slice}
use Rattle.array_image.specs.States.{state_in}
use Rattle.array_image.specs.Stripes.{sector_in}
use Rattle.array_image.specs.Held.{Among}
use Rattle.array_image.specs.Arrays.{Member, Shape, shape_in, layout_at, value_by, array_in, arrays_in}
use Rattle.array_image.proofs.Frames.{SameSupers, shape_by_supers, value_by_data}
use Rattle.pool_image.specs.Replay.{Extent}
use Rattle.pool_image.specs.Drives.{Found, extent_of, slices_from, slices_of}
use Rattle.pool_image.specs.Meaning.{arrays_held}

-- what a run's tables show of disks' contents: nothing outside the slices
abbrev pub shown : Slices → Image → Image
shown t c k s = if nat_lt s (sectors_of t k) then c (disk_of t k) (first_of t k + s) else []

-- a run's tables have the slice of this number where the drives say it, or nobody has it
pub data IsPlaced (f : Found) (t : Slices) (k : ℕ) : Type 0 where
  seated :
      f.seats (place_of k) ≡ Some (disk_of t k)
      → extent_of f (slice_of k) ≡ Some (record { first = first_of t k; sectors = sectors_of t k })
      → first_of t k + sectors_of t k ≤ f.disks.sectors (disk_of t k)
      → IsPlaced f t k
  empty : sectors_of t k ≡ 0 → f.seats (place_of k) ≡ None → IsPlaced f t k
  absent : sectors_of t k ≡ 0 → extent_of f (slice_of k) ≡ None → IsPlaced f t k

none_there : (t : Slices) (c : Image) (k s : ℕ) → sectors_of t k ≡ 0 → shown t c k s ≡ []
none_there t c k s none =
    ap (λ n. if nat_lt s n then c (disk_of t k) (first_of t k + s) else []) none
    ∙ ap (λ b. if b then c (disk_of t k) (first_of t k + s) else []) (le-ltb s 0 (omega arith))

same_if : (b : Bool) (v : List ℕ) → (if b then v else v) ≡ v
same_if true v = refl
same_if false v = refl

-- a place without a disk has nothing, wherever its slices would lie
none_seated : (f : Found) (k s : ℕ) → f.seats (place_of k) ≡ None → (o : Option Extent)
    → option_map_or (λ e. if nat_lt s e.sectors then slices_from f e.first k s else []) o [] ≡ []
none_seated f k s seat None = refl
none_seated f k s seat (Some e) =
    ap (λ o. if nat_lt s e.sectors then option_map_or (λ d. if nat_lt (e.first + s) (f.disks.sectors d) then f.contents d (e.first + s) else []) o [] else []) seat
    ∙ same_if (nat_lt s e.sectors) []

-- the drives' own slices are the run's
pub same_slices : (f : Found) (t : Slices) (k s : ℕ) → IsPlaced f t k → slices_of f k s ≡ shown t f.contents k s
unfolding slices_of
same_slices f t k s (seated seat lies room) =
    ap (λ o. option_map_or (λ (e : Extent). if nat_lt s e.sectors then slices_from f e.first k s else []) o []) lies
    ∙ both (nat_lt s (sectors_of t k)) refl
  where
    both : (b : Bool) → nat_lt s (sectors_of t k) ≡ b
        → (if b then slices_from f (first_of t k) k s else []) ≡ (if b then f.contents (disk_of t k) (first_of t k + s) else [])
    both true inside =
        ap (λ o. option_map_or (λ d. if nat_lt (first_of t k + s) (f.disks.sectors d) then f.contents d (first_of t k + s) else []) o []) seat
        ∙ ap (λ (b : Bool). if b then f.contents (disk_of t k) (first_of t k + s) else [])
        (lt-ltb (first_of t k + s) (f.disks.sectors (disk_of t k)) (let within = ltb-true s (sectors_of t k) inside in omega (arith, within, room)))
    both false outside = refl
same_slices f t k s (empty none seat) = none_seated f k s seat (extent_of f (slice_of k)) ∙ sym (none_there t f.contents k s none)
same_slices f t k s (absent none lies) =
    ap (λ o. option_map_or (λ (e : Extent). if nat_lt s e.sectors then slices_from f e.first k s else []) o []) lies
    ∙ sym (none_there t f.contents k s none)

option_map_or_same : {g h : Shape → List ℕ} (o : Option Shape) → ((shape : Shape) → o ≡ Some shape → g shape ≡ h shape) → option_map_or g o [] ≡ option_map_or h o []
option_map_or_same None same = refl
option_map_or_same (Some shape) same = same shape refl

-- the arrays of slices that have the drives' superblocks, and their data where members count, have the drives' values
pub same_arrays : (f : Found) (r : Image) (n x : ℕ)
    → state_in r ≡ Some f.state
    → SameSupers f.state n r (slices_of f)
    → ((shape : Shape) → shape_in f.state (slices_of f) n ≡ Some shape → (m : Member) → Among m shape.members
    → sector_in (layout_at shape x) x < m.reach
    → r (member_slice m.place n) (data_sector + sector_in (layout_at shape x) x) ≡ slices_of f (member_slice m.place n) (data_sector + sector_in (layout_at shape x) x))
    → arrays_in r n x ≡ arrays_held f n x
unfolding arrays_in
same_arrays f r n x state supers data_same =
    ap (λ o. option_map_or (λ s. array_in s r n x) o []) state
    ∙ ap (λ o. option_map_or (λ shape. value_by shape r n x) o []) (shape_by_supers f.state r (slices_of f) n supers)
    ∙ option_map_or_same (shape_in f.state (slices_of f) n) (λ shape is. value_by_data shape r (slices_of f) n x (data_same shape is))

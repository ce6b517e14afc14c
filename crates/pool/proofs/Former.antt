-- What stops leave of a pool by its slices before a place gets another disk, seen from an earlier pool or a later one.
use Rattle.std.proofs.Common.{◌≡◌, ◌⊎◌, ℕ, true, false, None, sym, subst, inl, inr}
use Rattle.rack.specs.Seen.{Image}
use Rattle.rack.specs.Values.{MayLeave}
use Rattle.flat_array.specs.Array.{FlatArray}
use Rattle.array_image.specs.States.{is_current}
use Rattle.lvm_group.specs.Runs.{Linear}
use Rattle.slice_rack.specs.Changes.{Seats}
use Rattle.slice_rack.specs.Slices.{Slices}
use Rattle.pool.specs.Calls.{DriveWent}
use Rattle.pool.specs.Moment.{moment_of}
use Rattle.pool.specs.Replaced.{MeansBy, MeansFormer}
use Rattle.pool.specs.View.{View, book, contents_in}
use Rattle.pool.specs.Volume.{is_spent}

-- why the place's disk isn't read: its drive was missing, or was found gone
abbrev pub IsUnread : View → View → ℕ → Type 0
IsUnread x y place = (is_current (book x).state place ≡ false) ⊎ DriveWent x y place

-- contents in sectors that aren't spent later either
pub fewer_spent : (x m y : View) (place : ℕ) (a : FlatArray) (i : Image) → y.linear ≡ m.linear → ((s : ℕ) → is_spent y s ≡ false → is_spent m s ≡ false)
    → (IsUnread x m place → IsUnread x y place) → MeansFormer (moment_of x) (moment_of m) place a i → MeansFormer (moment_of x) (moment_of y) place a i
fewer_spent x m y place a i linear fewer why former = elim former [
  | inl was ↦ inl (was.0, by x.slices was.1)
  | inr without ↦ inr (why without.0, (without.1.0, without.1.1, by without.1.0 without.1.2))
]
  where
    by : (t : Slices) → MeansBy t (moment_of m) a i → MeansBy t (moment_of y) a i
    by t means s low alive = subst (λ (l : Linear). MayLeave (a.values s) (contents_in t l i s)) (sym linear) (means s low (fewer s alive))

-- by slices that lie where they lay
pub former_from : (x m y : View) (place : ℕ) (a : FlatArray) (i : Image) → m.slices ≡ x.slices → is_current (book x).state place ≡ true
    → (IsUnread m y place → DriveWent x y place) → MeansFormer (moment_of m) (moment_of y) place a i → MeansFormer (moment_of x) (moment_of y) place a i
former_from x m y place a i same was why (inl means) = inl (was, subst (λ t. MeansBy t (moment_of y) a i) same means.1)
former_from x m y place a i same was why (inr without) = inr (inr (why without.0), (without.1.0, subst (λ t. Seats t without.1.0 place None) same without.1.1, without.1.2))

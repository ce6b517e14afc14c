-- What calls of a pool in a row do to the array that its volume holds.
use Rattle.std.proofs.Common.{◌≡◌, ◌<◌, ◌^◌, sym, subst, arith}
use Rattle.rack.specs.Seen.{Image, RackView}
use Rattle.rack.specs.Shelf.{Shelf}
use Rattle.rack.specs.Shelf.{Shelf}
use Rattle.rack.specs.Moments.{Leaves}
use Rattle.rack.specs.Joins.{leaves_then, leaves_weaker}
use Rattle.rack.specs.Values.{MayLeave}
use Rattle.flat_array.specs.Array.{FlatArray}
use Rattle.slice_rack.specs.Slices.{Slices}
use Rattle.lvm_group.specs.Volume.{linear}
use Rattle.lvm_group.proofs.Counted.{no_more_sectors}
use Rattle.raid_rack.specs.RaidRack.{raid_seen}
use Rattle.pool.specs.declared.Pool.{Pool}
use Rattle.lvm_group.specs.Runs.{Linear}
use Rattle.pool.specs.View.{View, arrays_of, contents_in, view, volume}
use Rattle.pool.specs.Volume.{Refines, VolumeIs, Means, size_of}
use Rattle.pool.specs.Calls.{CallFrame}

-- a volume has fewer sectors than a number of 52 bits says
pub size_small : {R : Type 0} (seen : R → RackView) (shelf : R → Shelf) (pool : Pool R) → (volume (view seen shelf pool)).fit → size_of (view seen shelf pool) < 2 ^ 52
size_small seen shelf pool fit =
    let most = no_more_sectors (linear pool.volume) (raid_seen seen (arrays_of pool)) pool.volume.orderly fit.1 in
    let small = fit.1.small in
    omega arith

-- ---- calls in a row

-- what means an array by an earlier view means it by a later one, by which no fewer sectors are spent
pub means_later : (x y : View) (a : FlatArray) (i : Image) → CallFrame x y → Means x a i → Means y a i
means_later x y a i passes means s inside unspent =
    subst (λ (t : Slices). MayLeave (a.values s) (contents_in t y.linear i s)) (sym passes.slices)
    (subst (λ (l : Linear). MayLeave (a.values s) (contents_in x.slices l i s)) (sym passes.linear)
    (means s inside (passes.stays.spent 0 s unspent)))

-- Both calls together do what `both` says, of which what the first one leaves is a part.
pub does_then :
    (x y z : View) (first second both : FlatArray → FlatArray)
    → CallFrame x y
    → CallFrame y z
    → ((a : FlatArray) → second (first a) ≡ both a)
    → ((a : FlatArray) (i : Image) → Means z (first a) i → Means z (both a) i)
    → Refines x y first first
    → Refines y z second second
    → Refines x z both both
does_then x y z first second both before passes same within one two = record {
  becomes = λ a holds. subst (λ b. VolumeIs z b) (same a) (two.becomes (first a) (one.becomes a holds));
  leaves = λ traced a holds.
      leaves_then (Means z (both a))
      (leaves_weaker (Means y (first a)) (Means z (both a)) (λ i means. within a i (means_later y z (first a) i passes means))
      (one.leaves traced a holds))
      (subst (λ b. Leaves y.bay z.bay (Means z b)) (same a) (two.leaves (before.stays.traced traced) (first a) (one.becomes a holds)));
  ends = λ traced a holds i stopped.
      subst (λ b. Means z b i) (same a) (two.ends (before.stays.traced traced) (first a) (one.becomes a holds) i stopped);
}

-- What stops leave, of two properties of contents at a time.
use Rattle.std.proofs.Common.{◌+◌, [], if◌then◌else◌, refl, ap, le-ltb}
use Rattle.rack.specs.Seen.{Image, RackView}
use Rattle.rack.specs.Moments.{Leaves}
use Rattle.slice_rack.specs.Slices.{Slices, disk_of, first_of, sectors_of}
use Rattle.slice_rack.specs.Sliced.{sliced, slices_of}
use Rattle.array_image.specs.Left.{IsInside}

-- what is said where something holds
pub leaves_where : {a b : RackView} (P Q : Image → Type 0) (R : Type 0) → Leaves a b P → (R → Leaves a b Q) → Leaves a b (λ c. P c × (R → Q c))
leaves_where P Q R all some = record {
  later = all.later;
  kept = all.kept;
  past = all.past;
  new = λ k c after until left. (all.new k c after until left, λ holds. (some holds).new k c after until left);
}

-- and of both
pub leaves_both : {a b : RackView} (P Q : Image → Type 0) → Leaves a b P → Leaves a b Q → Leaves a b (λ c. P c × Q c)
leaves_both P Q one two = record {
  later = one.later;
  kept = one.kept;
  past = one.past;
  new = λ k c after until left. (one.new k c after until left, two.new k c after until left);
}

-- what is said of each stop of the slices is said of the disks', beside what is said of these
pub leaves_below : (t : Slices) (a b : RackView) (P Q : Image → Type 0) → Leaves a b Q → Leaves (slices_of t a) (slices_of t b) P → Leaves a b (λ c. Q c × P (sliced t c))
leaves_below t a b P Q below above = record {
  later = below.later;
  kept = below.kept;
  past = below.past;
  new = λ k c after until left. (below.new k c after until left, above.new k (sliced t c) after until (c, left, λ d s. refl));
}

-- contents of slices have nothing where there is no sector
pub sliced_inside : (t : Slices) (c : Image) → IsInside (sectors_of t) (sliced t c)
sliced_inside t c d s past = ap (λ b. if b then c (disk_of t d) (first_of t d + s) else []) (le-ltb s (sectors_of t d) past)

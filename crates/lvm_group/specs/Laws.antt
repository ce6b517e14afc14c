-- What holds of a linear volume at any moment.
use Rattle.std.specs.Prelude.{◌≡◌, ℕ, ◌/◌, ◌<◌, if◌then◌else◌, [], refl}
use Rattle.std.proofs.Common.{sym, ap, subst, ◌∙◌, arith}
use Rattle.std.proofs.lemmas.Bool.{lt-ltb}
use Rattle.std.proofs.lemmas.Nat.{div_below, mod_below}
use Rattle.rack.specs.Values.{MayLeave}
use Rattle.rack.specs.Seen.{Image, RackView, IsLive}
use Rattle.rack.specs.Moments.{IsSound}
use Rattle.lvm_group.specs.Runs.{Linear, IsOrderly, extents_of, sectors_in, array_of, sector_of}
use Rattle.lvm_group.specs.Shown.{IsInside, contents_of, volume_of}

-- a sector lies in an extent of the volume
pub extent_below : (l : Linear) (s : ℕ) → IsOrderly l → s < sectors_in l → s / l.extent < extents_of l.runs
extent_below l s orderly within = div_below s l.extent (extents_of l.runs) orderly.sized within

-- it stands on an array of the volume
pub array_below : (l : Linear) (a : RackView) (s : ℕ) → IsOrderly l → IsInside l a → s < sectors_in l → array_of l s < l.arrays
array_below l a s orderly inside within = inside.placed (s / l.extent) (extent_below l s orderly within)

-- and inside it
pub sector_below : (l : Linear) (a : RackView) (s : ℕ) → IsOrderly l → IsInside l a → s < sectors_in l → sector_of l s < a.sectors (array_of l s)
sector_below l a s orderly inside within =
    let held = inside.held (s / l.extent) (extent_below l s orderly within) in
    let rest = mod_below s l.extent orderly.sized in
    omega arith

-- a sector of the volume is live where its sector below is
pub live_below : {l : Linear} {a b : RackView} {d s : ℕ} → IsOrderly l → IsInside l b → IsLive (volume_of l a) (volume_of l b) d s
    → IsLive a b (array_of l s) (sector_of l s)
live_below {l} {a} {b} {d} {s} orderly inside live =
    let array = array_below l b s orderly inside live.sector in
    let arrays = inside.arrays in
    record {
      disk = omega arith;
      sector = sector_below l b s orderly inside live.sector;
      is_told = live.is_told (array_of l s) array;
      unspent = live.unspent;
    }

-- a sector of the volume has the contents of its sector below
pub shows : (l : Linear) (below : Image) (d s : ℕ) → s < sectors_in l → contents_of l below d s ≡ below (array_of l s) (sector_of l s)
shows l below d s within = ap (λ test. if test then below (array_of l s) (sector_of l s) else []) (lt-ltb s (sectors_in l) within)

-- a stop now leaves held values, and may leave the contents as they read
pub is_sound : (l : Linear) (a : RackView) → IsOrderly l → IsInside l a → IsSound a → IsSound (volume_of l a)
is_sound l a orderly inside sound = record {
  only_held = λ c left d s live.
      subst (MayLeave (a.held (array_of l s) (sector_of l s))) (sym (left.2 d s ∙ shows l left.0 d s live.sector))
      (sound.only_held left.0 left.1 (array_of l s) (sector_of l s) (live_below orderly inside live));
  now = (
    contents_of l sound.now.0,
    (sound.now.0, sound.now.1, λ d s. refl),
    λ d s live. shows l sound.now.0 d s live.sector ∙ sound.now.2 (array_of l s) (sector_of l s) (live_below orderly inside live),
  );
}

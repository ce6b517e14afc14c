-- Arrays of which nothing has changed but whom they lost, their events and their marks, also by calls in a row.
use Rattle.std.proofs.Common.{◌≡◌, ◌<◌, refl, sym, subst, ◌∙◌, inl, inr}
use Rattle.md_super.specs.declared.superblock.Super.{Super}
use Rattle.array_model.specs.View.{View, HasGeometry}
use Rattle.array_model.proofs.Views.{same_array}
use Rattle.raid_laws.specs.Moves.{KeepsArrays, OnlyFailures}
use Rattle.raid_laws.specs.Raid.{Raid}

pub only_same : (u w : View) → w ≡ u → OnlyFailures u w
only_same u w same = subst (OnlyFailures u) (sym same) (record { same = same_array u; seats = λ k. inl refl })

pub geometry_then : (t u v : Super) → HasGeometry t u → HasGeometry u v → HasGeometry t v
geometry_then t u v one two = record {
  set = two.set ∙ one.set;
  level = two.level ∙ one.level;
  size = two.size ∙ one.size;
  disks = two.disks ∙ one.disks;
  roles = two.roles ∙ one.roles;
  features = two.features ∙ one.features;
  position = two.position ∙ one.position;
}

pub only_then : (u v w : View) → OnlyFailures u v → OnlyFailures v w → OnlyFailures u w
only_then u v w one two = record {
  same = record {
    number = two.same.number ∙ one.same.number;
    geometry = geometry_then u.truth v.truth w.truth one.same.geometry two.same.geometry;
    devices = two.same.devices ∙ one.same.devices;
    resync = two.same.resync ∙ one.same.resync;
    young = two.same.young ∙ one.same.young;
  };
  seats = λ k. elim (two.seats k) [
    | inl same ↦ elim (one.seats k) [ inl before ↦ inl (same ∙ before) | inr lost ↦ inr (same ∙ lost) ]
    | inr lost ↦ inr lost
  ];
}

pub arrays_same : (v : Raid) → KeepsArrays v v
arrays_same v n low = only_same (v.arrays n) (v.arrays n) refl

pub arrays_then : (v w z : Raid) → w.state.made ≡ v.state.made → KeepsArrays v w → KeepsArrays w z → KeepsArrays v z
arrays_then v w z made one two n low = only_then (v.arrays n) (w.arrays n) (z.arrays n) (one n low) (two n (subst (λ k. n < k) (sym made) low))

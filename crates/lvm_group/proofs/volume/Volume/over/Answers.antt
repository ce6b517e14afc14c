use Rattle.std.proofs.Common.{◌≡◌, ◌+◌, ◌*◌, ◌≤◌, true, List, ℕ, refl, ap, sym, subst, ◌∙◌, length, slice_index, arith}
use Rattle.std.proofs.lemmas.Option.{slice_get_within}
use Rattle.lvm_group.specs.declared.runs.Run.{Run}
use Rattle.lvm_group.specs.Runs.{IsOrderly, Linear, data_start, extents_of}
use Rattle.lvm_group.specs.Group.{all_apart}
use Rattle.lvm_group.specs.Own.{HoldAll, in_row}
use Rattle.lvm_group.specs.Shown.{IsInside}
use Rattle.lvm_group.proofs.NewVolume.{new_inside, new_orderly, new_short, new_writable, volume_is}
use Rattle.lvm_group.proofs.volume.Volume.over.Goals as goal

pub extents_in-count-requires : goal.extents_in-count-requires
extents_in-count-requires g c =
    let counted = c.args.group.counted in
    let same = ap extents_of c.as_slice.ensures.value in
    omega (arith, counted, same)

pub invariant_of-result : goal.invariant_of-result
invariant_of-result g c =
    let group = c.args.group in
    let numbers : List ℕ = group.numbers.items in
    let sectors : ℕ → ℕ = slice_index group.sectors.items in
    let few : length numbers ≤ 16 = let fits = c.len-arrays.ensures.fits in let many = c.len-arrays.ensures.value in omega (arith, fits, many) in
    let arrays = c.len-arrays.ensures.value in
    let writable = new_writable group.extent sectors numbers few group.holds in
    record {
      orderly = subst (λ n. IsOrderly (record { extent = group.extent; arrays = n; runs = group.room.runs.items })) (sym arrays)
          (subst IsOrderly (volume_is group.extent group.extent numbers group.room.runs.items refl group.runs_are) (new_orderly group.pool.0 group.extent sectors numbers group.sized few group.holds));
      row = subst (λ (runs : List Run). in_row 0 runs ≡ true) (sym group.runs_are) writable.row;
      apart = subst (λ (runs : List Run). all_apart runs ≡ true) (sym group.runs_are) writable.apart;
      counted = c.extents_in-count.ensures ∙ ap extents_of c.as_slice.ensures.value;
      few = subst (λ (runs : List Run). length runs ≤ 1024) (sym group.runs_are) (new_short numbers few);
      numbered = omega arith;
      runs_room = group.runs_room;
      spare_room = group.spare_room;
      text_room = group.text_room;
    }

pub returns-clause-fit : goal.returns-clause-fit
returns-clause-fit g c =
    let group = c.args.group in
    let numbers : List ℕ = group.numbers.items in
    let a = g.R.Rack.seen c.args.rack in
    let few : length numbers ≤ 16 = let fits = c.len-arrays.ensures.fits in let many = c.len-arrays.ensures.value in omega (arith, fits, many) in
    let holds : HoldAll group.extent a.sectors 0 numbers = λ place number at.
    let within = slice_get_within numbers place number at in
    subst (λ n. data_start + number * group.extent ≤ n) (sym (c.requires.sizes (0 + place) (omega (arith, within)))) (group.holds place number at) in (
      c.requires.fit,
      subst (λ n. IsInside (record { extent = group.extent; arrays = n; runs = group.room.runs.items }) a) (sym c.len-arrays.ensures.value)
          (subst (λ (l : Linear). IsInside l a) (volume_is group.extent group.extent numbers group.room.runs.items refl group.runs_are)
          (new_inside group.pool.0 group.extent a numbers few holds c.requires.arrays c.requires.small)),
    )

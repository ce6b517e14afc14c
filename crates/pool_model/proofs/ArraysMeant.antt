-- Contents that have a pool mean the volume whose group is that of arrays which are as the pool's.
use Rattle.std.proofs.Common.{◌≡◌, ℕ, ◌<◌, ◌≤◌, Bool, if◌then◌else◌, [], ◌∷◌, Option, Some, None, option_map, refl, sym, ap, ap₂, subst, ◌∙◌, lt-ltb, arith}
use Rattle.std.specs.Option.{option_map_or}
use Rattle.rack.specs.Seen.{Image}
use Rattle.lvm_text.specs.declared.group.Group.{Group}
use Rattle.lvm_group.specs.Group.{first_bad as bad_in, linear_in}
use Rattle.lvm_group.specs.Images.{IsVolume}
use Rattle.lvm_group.specs.Runs.{Linear, data_start, sectors_in as sectors_along}
use Rattle.lvm_group.specs.Shown.{contents_of}
use Rattle.lvm_group.proofs.SameParts.{area_below}
use Rattle.pool_image.specs.Drives.{Found, found}
use Rattle.pool_image.specs.Meaning.{Refusal, arrays_held, joined_arrays, meaning, refusal_of, volume_by, volumes_of}
use Rattle.pool_image.specs.Sound.{AreSame}
use Rattle.pool_image.specs.Volumes.{Arrays, linear_of}
use Rattle.pool_image.specs.Volumes as meant
use Rattle.pool_image.proofs.Groups.{AreWholeArrays, bad_alike, group_alike}
use Rattle.pool_image.proofs.Joined.{AreAlike, bad_kept, group_kept, volumes_kept}
use Rattle.pool_image.proofs.Parts.{held_in}
use Rattle.pool_scan.proofs.Valid.{valid_arrays}
use Rattle.pool_model.specs.Grouped.{IsVolumeOf}
use Rattle.pool_model.specs.Reopening.{HoldVolumeBy}
use Rattle.pool_model.proofs.Found.{found_is, valid}

module _ (f : Found) (i : Image) (h : Found) (at : found f.disks i ≡ Some h) (b : Arrays) (alike : AreAlike (joined_arrays h) b) (are : AreWholeArrays b)
    (room : (n : ℕ) → n < b.joined → data_start ≤ b.sectors n) (l : Linear) (extent : l.extent ≡ b.extent) (arrays : l.arrays ≡ b.joined)
    (lies : (seqno : ℕ) × IsVolume b.pool b.joined l seqno b.sectors (held_in b)) where
  abbrev a : Arrays
  a = joined_arrays h

  some : 0 < b.joined
  some =
      let good = valid h (found_is f.disks i h at).0 in
      let one = (valid_arrays h.state good.0 good.1).2 in
      let same = alike.joined in
      omega (arith, one, same)

  abbrev group : Group
  group = lies.1.means.group

  group_there : meant.group_in b ≡ Some group
  group_there = sym (group_alike b are) ∙ lies.1.means.found

  bad_there : meant.first_bad b ≡ None
  bad_there = sym (bad_alike b are) ∙ ap (λ k. bad_in b.pool k b.sectors b.joined (held_in b)) (sym extent) ∙ lies.1.means.sound

  linear_there : l ≡ linear_of b group
  linear_there = ap (λ k. record { extent = l.extent; arrays = k; runs = l.runs }) arrays ∙ lies.1.means.volume

  pub volume_is : IsVolumeOf h l
  volume_is = record {
    group = group;
    group_is = group_kept a b alike are ∙ group_there;
    sound = bad_kept a b alike are ∙ bad_there;
    linear = linear_there ∙ ap (λ k. linear_in k group) (sym alike.joined);
  }

  volumes_now : volumes_of h ≡ volume_by l (arrays_held h) ∷ []
  volumes_now =
      ap (λ o. option_map_or (λ k. volume_by (linear_of a k) (arrays_held h) ∷ []) o []) volume_is.group_is
      ∙ ap (λ k. volume_by k (arrays_held h) ∷ []) (sym volume_is.linear)

  -- each of its sectors is on an array that is ready for it
  pub values_now : (x : ℕ) → x < sectors_along l → contents_of l (arrays_held h) 0 x ≡ contents_of l b.contents 0 x
  values_now x within =
      let volumes_there : option_map_or (λ k. volume_by (linear_of b k) b.contents ∷ []) (meant.group_in b) [] ≡ volume_by l b.contents ∷ [] =
      ap (λ o. option_map_or (λ k. volume_by (linear_of b k) b.contents ∷ []) o []) group_there ∙ ap (λ k. volume_by k b.contents ∷ []) (sym linear_there) in
      let both : AreSame (volume_by l b.contents ∷ []) (volume_by l (arrays_held h) ∷ []) =
      subst (AreSame (volume_by l b.contents ∷ [])) volumes_now
      (subst (λ k. AreSame k (volumes_of h)) volumes_there (volumes_kept a b alike are some bad_there)) in
      sym (both.0.1 x within)

  pub meaning_now : refusal_of f.disks i ≡ None → meaning f.disks i ≡ Some (volume_by l (arrays_held h) ∷ [])
  unfolding meaning
  meaning_now none =
      ap₂ (λ (why : Option Refusal) o. option_map_or (λ r. None) why (option_map volumes_of o)) none at ∙ ap Some volumes_now

  unfoldable pub arrays_volume : HoldVolumeBy f b.contents l i
  arrays_volume = record {
    now = h;
    found_is = at;
    lies = volume_is;
    areas = λ n low.
        let less : n < b.joined = (let same = alike.joined in omega (arith, low, same)) in
        area_below (held_in b n) (arrays_held h n) (b.sectors n) (lies.1.areas n less)
        (λ x first.
        let inside : x < b.sectors n = (let enough = room n less in omega (arith, first, enough)) in
        alike.contents n x less inside ∙ sym (ap (λ (k : Bool). if k then b.contents n x else []) (lt-ltb x (b.sectors n) inside)));
    means = λ none. (volume_by l (arrays_held h), meaning_now none, refl, values_now);
  }

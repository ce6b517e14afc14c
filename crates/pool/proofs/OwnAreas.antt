-- The arrays of a new pool have its metadata areas.
use Rattle.std.proofs.Common.{◌≡◌, ℕ, zero, suc, ◌-◌, ◌/◌, ◌%◌, ◌<◌, ◌≤◌, ◌^◌, true, false, List, [], ◌∷◌, length, slice_get, Some, refl, sym, ap, ◌∙◌, ltb-true, arith}
use Rattle.std.specs.Prelude.{nat_eq, nat_lt, slice_index}
use Rattle.std.specs.List.{list_all, starts_with}
use Rattle.std.specs.Result.{result_ok}
use Rattle.std.proofs.lemmas.Bool.{and_parts}
use Rattle.std.proofs.Math.Nat.{mul-le-mul_right}
use Rattle.rack.specs.Seen.{Image}
use Rattle.hex.specs.Hex.{encode_with, lower_digits}
use Rattle.sha1.specs.Sha1.{digest_bytes, sha1}
use Rattle.lvm_label.specs.declared.label.Label.{Label}
use Rattle.lvm_label.specs.Fields.{AreBytes}
use Rattle.lvm_label.specs.Label.{IsLabel, label_bytes, label_in, label_word}
use Rattle.lvm_label.proofs.LabelLaw.{labels_decode}
use Rattle.lvm_group.specs.Ids.{label_id, pv_id}
use Rattle.lvm_group.specs.Images.{HasOwnArea}
use Rattle.lvm_group.specs.Parts.{Array, label_on}
use Rattle.lvm_group.specs.Writing.{own_label}
use Rattle.pool_image.specs.Disks.{Disks}
use Rattle.pool_image.specs.Drives.{Found}
use Rattle.pool_image.specs.Meaning.{arrays_held}
use Rattle.pool_format.specs.declared.Birth.{Birth}
use Rattle.pool_format.specs.declared.planning.NewPool.{NewPool}
use Rattle.pool_format.specs.Data.{array_sector, sizes_of}
use Rattle.pool_format.proofs.Lists.{got}
use Rattle.pool_format.proofs.Making.{sizes_small}
use Rattle.assembler.specs.Sound.{HaveOwnAreas}
use Rattle.new_pool.specs.Contents.{IsNewPool}
use Rattle.new_pool.proofs.Founds.{shown}
use Rattle.new_pool.proofs.Values.{value_now}

-- ---- the label of an array

small_at : (xs : List ℕ) → list_all (λ x. nat_lt x 256) xs ≡ true → (i : ℕ) → slice_index xs i < 256
small_at [] all i = omega arith
small_at (x ∷ xs) all zero = ltb-true x 256 (and_parts (nat_lt x 256) (list_all (λ y. nat_lt y 256) xs) all).0
small_at (x ∷ xs) all (suc i) = small_at xs (and_parts (nat_lt x 256) (list_all (λ y. nat_lt y 256) xs) all).1 i

-- hex digits are bytes
encoded_small : (bytes : List ℕ) → AreBytes (encode_with lower_digits bytes)
unfolding encode_with
encoded_small [] = tt
encoded_small (byte ∷ bytes) = (small_at lower_digits refl (byte / 16), (small_at lower_digits refl (byte % 16), encoded_small bytes))

-- an id has 32 of them
id_long : (pool : List ℕ) (array : ℕ) → length (label_id (pv_id pool array)) ≡ 32
unfolding encode_with sha1 digest_bytes
id_long pool array = refl

-- the fields of an array's label fit
own_label_fits : (pool : List ℕ) (array sectors : ℕ) → sectors < 2 ^ 52 → IsLabel (own_label pool array sectors)
own_label_fits pool array sectors small = record {
  id_length = id_long pool array;
  id_bytes = encoded_small (pv_id pool array);
  device_size = omega (arith, small);
  few_areas = omega arith;
  areas = (record { offset = omega arith; size = omega arith; real = refl }, tt);
  few_metadata = omega arith;
  metadata = (record { offset = omega arith; size = omega arith; real = refl }, tt);
}

-- an array with that label, behind a sector without one, has the pool's metadata area
area_labelled : (pool : List ℕ) (array sectors : ℕ) (a : Array) → sectors < 2 ^ 52 → starts_with nat_eq (a 0) label_word ≡ false → a 1 ≡ label_bytes (own_label pool array sectors) → HasOwnArea a
area_labelled pool array sectors a small free put = record {
  free = free;
  area = λ label at.
      let found : label_on a ≡ Some (own_label pool array sectors) =
      ap (λ v. result_ok (label_in 0 (a 0 ∷ v ∷ a 2 ∷ a 3 ∷ []))) put
      ∙ ap result_ok (labels_decode (own_label pool array sectors) (a 0) (a 2 ∷ a 3 ∷ []) (own_label_fits pool array sectors small) free) in
      let same : Some label ≡ Some (own_label pool array sectors) = sym at ∙ found in
      let one : label ≡ own_label pool array sectors = cc in
      ap (λ (l : Label). slice_get l.metadata.items 0) one;
}

-- ---- the arrays of a new pool

module _ (plan : NewPool) (birth : Birth) (disks : Disks) (c : Image) (is : IsNewPool plan birth disks c) where
  abbrev f : Found
  f = shown plan birth disks c is

  pub areas_now : HaveOwnAreas f
  areas_now n low =
      let a = got plan.arrays.items n low in
      let array = is.is_plan.each n a.0 a.1 in
      let least = array.least in
      let size = array.size_is in
      let more : 1 ≤ length a.0.members.items - 1 = omega (arith, least) in
      let most = mul-le-mul_right a.0.size more in
      let held : (s : ℕ) → s < 2 → arrays_held f n s ≡ array_sector plan birth n s =
      λ s first. value_now plan birth disks c is n a.0 a.1 s (omega (arith, first, most, size)) in
      area_labelled birth.pool n (slice_index (sizes_of plan) n) (arrays_held f n) (sizes_small plan is.is_plan n low)
      (ap (λ v. starts_with nat_eq v label_word) (held 0 (omega arith)) ∙ refl) (held 1 (omega arith))

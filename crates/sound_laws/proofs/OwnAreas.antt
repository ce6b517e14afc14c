-- What the rule on the volume gives: a label that the pool wrote has the pool's metadata area.
use Rattle.std.proofs.Common.{rules, ◌≡◌, ℕ, zero, suc, ◌/◌, ◌%◌, ◌^◌, ◌<◌, List, [], ◌∷◌, ◌++◌, length, slice_get, slice_index, Some, refl, ap, ◌∙◌, arith}
use Rattle.std.specs.Int.{byte_at}
use Rattle.byteorder.specs.Endian.{little_bytes}
use Rattle.hex.specs.Hex.{encode_lower, encode_with, lower_digits}
use Rattle.sha1.specs.Sha1.{sha1, digest_bytes}
use Rattle.shr_base.specs.Crc.{lvm_crc_of}
use Rattle.shr_base.specs.Ids.{name_based}
use Rattle.array_image.specs.Places.{pv_id}
use Rattle.lvm_label.specs.Fields.{AreBytes, padded}
use Rattle.lvm_label.specs.declared.label.Label.{Label}
use Rattle.lvm_label.specs.Label.{IsLabel, area_list_bytes, body_bytes, label_bytes, label_type, label_word}
use Rattle.lvm_label.proofs.LabelLaw.{labels_decode}
use Rattle.lvm_group.specs.Images.{HasOwnArea}
use Rattle.lvm_group.specs.Parts.{label_on}
use Rattle.pool_image.specs.Drives.{Found}
use Rattle.pool_image.specs.Meaning.{arrays_held}
use Rattle.pool_image.specs.Sound.{Growth, HasSoundHead, IsSoundButNumbers, written_label}
use Rattle.pool_model.specs.Grouped.{HaveOwnAreas}

-- ---- a label's size is kept in eight bytes

kept_bytes : (size : ℕ) → little_bytes 8 size ≡ little_bytes 8 (size % 2 ^ 64)
kept_bytes size =
    let b0 : byte_at 0 size ≡ byte_at 0 (size % 2 ^ 64) = omega arith in
    let b1 : byte_at 1 size ≡ byte_at 1 (size % 2 ^ 64) = omega arith in
    let b2 : byte_at 2 size ≡ byte_at 2 (size % 2 ^ 64) = omega arith in
    let b3 : byte_at 3 size ≡ byte_at 3 (size % 2 ^ 64) = omega arith in
    let b4 : byte_at 4 size ≡ byte_at 4 (size % 2 ^ 64) = omega arith in
    let b5 : byte_at 5 size ≡ byte_at 5 (size % 2 ^ 64) = omega arith in
    let b6 : byte_at 6 size ≡ byte_at 6 (size % 2 ^ 64) = omega arith in
    let b7 : byte_at 7 size ≡ byte_at 7 (size % 2 ^ 64) = omega arith in
    cc (b0, b1, b2, b3, b4, b5, b6, b7)

kept_label : (f : Found) (n size : ℕ) → label_bytes (written_label f n size) ≡ label_bytes (written_label f n (size % 2 ^ 64))
unfolding label_bytes body_bytes
kept_label f n size =
    let l = written_label f n size in
    ap
    (λ (bytes : List ℕ).
    let body = padded 492 (little_bytes 4 32 ++ label_type ++ l.pv_id ++ bytes ++ area_list_bytes l.areas.items ++ area_list_bytes l.metadata.items) in
    label_word ++ little_bytes 8 1 ++ little_bytes 4 (lvm_crc_of body) ++ body)
    (kept_bytes size)

-- ---- its id is 32 digits

digit_small : (digits : List ℕ) (i : ℕ) → AreBytes digits → slice_index digits i < 256
digit_small [] i small = omega arith
digit_small (d ∷ digits) zero small = small.0
digit_small (d ∷ digits) (suc i) small = digit_small digits i small.1

digits_small : (bytes : List ℕ) → AreBytes (encode_lower bytes)
unfolding encode_with
digits_small [] = tt
digits_small (b ∷ bytes) =
    let small : AreBytes lower_digits = search rules in (
      digit_small lower_digits (b / 16) small,
      (digit_small lower_digits (b % 16) small, digits_small bytes),
    )

id_length : (pool name : List ℕ) → length (encode_lower (name_based pool name)) ≡ 32
unfolding encode_with sha1 digest_bytes
id_length pool name = refl

is_label : (f : Found) (n size : ℕ) → size < 2 ^ 64 → IsLabel (written_label f n size)
is_label f n size small = record {
  id_length = id_length f.state.pool.0 _;
  id_bytes = digits_small (pv_id f.state.pool.0 n);
  device_size = small;
  few_areas = omega arith;
  areas = (record { offset = omega arith; size = omega arith; real = refl }, tt);
  few_metadata = omega arith;
  metadata = (record { offset = omega arith; size = omega arith; real = refl }, tt);
}

-- ---- so the area is that of the pool

own_area_of : (f : Found) (n : ℕ) → HasSoundHead f n → HasOwnArea (arrays_held f n)
own_area_of f n head = record {
  free = head.no_label_first;
  area = λ label at.
      let a = arrays_held f n in
      let wrote = head.label label at in
      let size = wrote.0 % 2 ^ 64 in
      let bytes : a 1 ≡ label_bytes (written_label f n size) = wrote.1 ∙ kept_label f n wrote.0 in
      let read = labels_decode (written_label f n size) (a 0) (a 2 ∷ a 3 ∷ []) (is_label f n size (omega arith)) head.no_label_first in
      let is : label_on a ≡ Some (written_label f n size) = rw (bytes, read) refl in
      let same : label ≡ written_label f n size = cc (at, is) in
      ap (λ (l : Label). slice_get l.metadata.items 0) same;
}

-- The arrays that are ready for the volume have the pool's metadata areas.
pub own_areas : (growth : Growth) (f : Found) → IsSoundButNumbers growth f → HaveOwnAreas f
own_areas growth f rules = λ n ready. own_area_of f n (rules.volume.heads n ready)

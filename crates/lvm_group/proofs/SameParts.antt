-- An array's part of the group goes by the sectors before its first extent, where its label has the pool's metadata area.
use Rattle.std.proofs.Common.{◌≡◌, ℕ, ◌<◌, List, [], ◌∷◌, Option, Some, None, refl, sym, ap, ◌∙◌, arith}
use Rattle.std.specs.Prelude.{nat_eq, option_map}
use Rattle.std.specs.List.{starts_with}
use Rattle.std.specs.Option.{option_and_then}
use Rattle.std.specs.Result.{result_ok}
use Rattle.lvm_label.specs.declared.label.Area.{Area}
use Rattle.lvm_label.specs.declared.label.Label.{Label}
use Rattle.lvm_label.specs.declared.header.Location.{Location}
use Rattle.lvm_label.specs.declared.header.Header.{Header}
use Rattle.lvm_label.specs.Label.{label_in, label_word}
use Rattle.lvm_label.specs.Header.{header_of}
use Rattle.lvm_group.specs.declared.parts.Part.{Part}
use Rattle.lvm_group.specs.Images.{HasOwnArea}
use Rattle.lvm_group.specs.Parts.{Array, group_at, group_in_area, header_at, label_on, location_in, part_by, part_of, whole_area}
use Rattle.lvm_group.specs.Runs.{data_start}
use Rattle.lvm_group.specs.Writing.{own_area}
use Rattle.lvm_group.proofs.KeptText.{group_kept}

module _ (a i : Array) (sectors : ℕ) (own : HasOwnArea a) (same : (s : ℕ) → s < data_start → i s ≡ a s) where
  header_same : result_ok (header_of (i 8)) ≡ result_ok (header_of (a 8))
  header_same = ap (λ (bytes : List ℕ). result_ok (header_of bytes)) (same 8 (omega arith))

  label_same : label_on i ≡ label_on a
  label_same =
      let zero = same 0 (omega arith) in
      let one = same 1 (omega arith) in
      let two = same 2 (omega arith) in
      let three = same 3 (omega arith) in
      λ j. result_ok (label_in 0 (zero j ∷ one j ∷ two j ∷ three j ∷ []))

  pub area_below : HasOwnArea i
  area_below = record {
    free = ap (λ (bytes : List ℕ). starts_with nat_eq bytes label_word) (same 0 (omega arith)) ∙ own.free;
    area = λ label is. own.area label (sym label_same ∙ is);
  }

  text_same : (l : Location) → group_at i own_area l ≡ group_at a own_area l
  text_same l = group_kept a i l [] (omega arith) (λ inside s least most free. same s most)

  said_same : (header : Option Header) → group_in_area i (Some own_area) header ≡ group_in_area a (Some own_area) header
  said_same None = refl
  said_same (Some header) = of (location_in header)
    where
      of : (o : Option Location) → option_and_then (group_at i own_area) o ≡ option_and_then (group_at a own_area) o
      of None = refl
      of (Some l) = text_same l

  by_label : (o : Option Label) → label_on a ≡ o → part_by i i sectors o ≡ part_by a a sectors o
  unfolding part_by
  by_label None is = ap (λ header. record { label = None; header = header; group = None }) header_same
  by_label (Some label) is = ap (by_area label i) (own.area label is) ∙ own_same label ∙ sym (ap (by_area label a) (own.area label is))
    where
      by_area : Label → Array → Option Area → Part
      by_area label x first =
          let area = option_map (whole_area sectors) first in
          let header = option_and_then (header_at x) area in
          record { label = Some label; header = header; group = group_in_area x area header }

      own_same : (label : Label) → by_area label i (Some own_area) ≡ by_area label a (Some own_area)
      own_same label =
          ap (λ header. record { label = Some label; header = header; group = group_in_area i (Some own_area) header }) header_same
          ∙ ap (λ group. record { label = Some label; header = result_ok (header_of (a 8)); group = group }) (said_same (result_ok (header_of (a 8))))

  pub part_below : part_of i sectors ≡ part_of a sectors
  part_below = ap (part_by i i sectors) label_same ∙ by_label (label_on a) refl

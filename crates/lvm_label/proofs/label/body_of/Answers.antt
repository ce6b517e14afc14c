use Rattle.std.proofs.Common.{◌≡◌, ℕ, ◌++◌, ◌∙◌, [], List, refl, arith}
use Rattle.std.proofs.lemmas.List.{length-append}
use Rattle.byteorder.specs.Endian.{little_bytes}
use Rattle.lvm_label.specs.Fields.{padded}
use Rattle.lvm_label.specs.Label.{area_list_bytes, label_type}
use Rattle.lvm_label.proofs.Areas.{length-area_list_bytes}
use Rattle.lvm_label.proofs.Bodies.{body_bytes-parts}
use Rattle.lvm_label.proofs.label.body_of.Goals as goal

pub returns : goal.returns
unfolding padded
returns c =
    let offset : List ℕ = c.to_le_bytes.result in
    let offset-is : offset ≡ little_bytes 4 32 = c.to_le_bytes.ensures in
    let size : List ℕ = c.to_le_bytes-2.result in
    let size-is : size ≡ little_bytes 8 c.args.label.now.device_size = c.to_le_bytes-2.ensures in
    let id : List ℕ = c.args.label.now.pv_id in
    let one : c.put-at.new.buffer ≡ padded 492 offset = c.put-at.ensures.appended 492 [] refl refl refl in
    let two : c.put-at-2.new.buffer ≡ padded 492 (offset ++ label_type) = c.put-at-2.ensures.appended 492 offset (omega arith) (omega arith) one in
    let three : c.put-at-3.new.buffer ≡ padded 492 (offset ++ label_type ++ id) = c.put-at-3.ensures.appended 492 (offset ++ label_type) (omega arith) (omega (arith, length-append offset label_type)) two in
    let four : c.put-at-4.new.buffer ≡ padded 492 (offset ++ label_type ++ id ++ size) =
    c.put-at-4.ensures.appended 492 (offset ++ label_type ++ id) (omega arith) (omega (arith, length-append offset label_type, length-append (offset ++ label_type) id)) three in
    let five = c.put_areas-at.ensures.appended (offset ++ label_type ++ id ++ size) (omega (arith, length-append offset label_type, length-append (offset ++ label_type) id, length-append (offset ++ label_type ++ id) size)) four in
    let front : List ℕ = offset ++ label_type ++ id ++ size in
    let six = c.put_areas.ensures.appended (front ++ area_list_bytes c.as_slice.result.now) (omega (arith, length-append offset label_type, length-append (offset ++ label_type) id, length-append (offset ++ label_type ++ id) size, length-append front (area_list_bytes c.as_slice.result.now), length-area_list_bytes c.as_slice.result.now)) five in
    six ∙ body_bytes-parts c.args.label.now offset size c.as_slice.result.now c.as_slice-2.result.now offset-is size-is c.as_slice.ensures.value c.as_slice-2.ensures.value

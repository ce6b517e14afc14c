use Rattle.std.proofs.Common.{◌≡◌, ℕ, ◌++◌, ◌∙◌, [], List, refl, arith}
use Rattle.std.proofs.lemmas.List.{length-append}
use Rattle.lvm_label.specs.Fields.{padded}
use Rattle.lvm_label.specs.Header.{header_magic}
use Rattle.lvm_label.proofs.Bodies.{header_body-parts}
use Rattle.lvm_label.proofs.header.body_of.Goals as goal

pub returns : goal.returns
unfolding padded
returns c =
    let version : List ℕ = c.to_le_bytes.result in
    let start : List ℕ = c.to_le_bytes-2.result in
    let size : List ℕ = c.to_le_bytes-3.result in
    let one : c.put-at.new.buffer ≡ padded 508 header_magic = c.put-at.ensures.appended 508 [] refl refl refl in
    let two : c.put-at-2.new.buffer ≡ padded 508 (header_magic ++ version) = c.put-at-2.ensures.appended 508 header_magic (omega arith) (omega arith) one in
    let three : c.put-at-3.new.buffer ≡ padded 508 (header_magic ++ version ++ start) = c.put-at-3.ensures.appended 508 (header_magic ++ version) (omega arith) (omega (arith, length-append header_magic version)) two in
    let four : c.put-at-4.new.buffer ≡ padded 508 (header_magic ++ version ++ start ++ size) =
    c.put-at-4.ensures.appended 508 (header_magic ++ version ++ start) (omega arith) (omega (arith, length-append header_magic version, length-append (header_magic ++ version) start)) three in
    let five = c.put_locations.ensures (header_magic ++ version ++ start ++ size) (omega (arith, length-append header_magic version, length-append (header_magic ++ version) start, length-append (header_magic ++ version ++ start) size)) four in
    five ∙ header_body-parts c.args.header.now version start size c.as_slice.result.now c.to_le_bytes.ensures c.to_le_bytes-2.ensures c.to_le_bytes-3.ensures c.as_slice.ensures.value

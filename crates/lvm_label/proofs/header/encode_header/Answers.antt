use Rattle.std.proofs.Common.{◌≡◌, ℕ, ◌++◌, ◌∙◌, [], List, length, refl, arith}
use Rattle.lvm_label.specs.Fields.{padded}
use Rattle.lvm_label.proofs.Bodies.{header_bytes-parts}
use Rattle.lvm_label.proofs.header.encode_header.Goals as goal

pub returns : goal.returns
unfolding padded
returns c =
    let crc : List ℕ = c.to_le_bytes.result in
    let body : List ℕ = c.body_of-body.result in
    let wide : length body ≡ 508 = omega arith in
    let one : c.put-at.new.buffer ≡ padded 512 crc = c.put-at.ensures.appended 512 [] refl refl refl in
    let two : c.put.new.buffer ≡ padded 512 (crc ++ body) = c.put.ensures.appended 512 crc (omega arith) (omega arith) one in
    two ∙ header_bytes-parts c.args.header.now crc body c.lvm_crc.result c.to_le_bytes.ensures c.body_of-body.ensures c.lvm_crc.ensures wide

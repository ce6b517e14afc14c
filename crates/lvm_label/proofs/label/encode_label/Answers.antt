use Rattle.std.proofs.Common.{◌≡◌, ℕ, ◌++◌, ◌∙◌, [], List, length, refl, arith}
use Rattle.std.proofs.lemmas.List.{length-append}
use Rattle.lvm_label.specs.Fields.{padded}
use Rattle.lvm_label.specs.Label.{label_word}
use Rattle.lvm_label.proofs.Bodies.{label_bytes-parts}
use Rattle.lvm_label.proofs.label.encode_label.Goals as goal

pub returns : goal.returns
unfolding padded
returns c =
    let number : List ℕ = c.to_le_bytes.result in
    let crc : List ℕ = c.to_le_bytes-2.result in
    let body : List ℕ = c.body_of-body.result in
    let wide : length body ≡ 492 = omega arith in
    let one : c.put-at.new.buffer ≡ padded 512 label_word = c.put-at.ensures.appended 512 [] refl refl refl in
    let two : c.put-at-2.new.buffer ≡ padded 512 (label_word ++ number) = c.put-at-2.ensures.appended 512 label_word (omega arith) (omega arith) one in
    let three : c.put-at-3.new.buffer ≡ padded 512 (label_word ++ number ++ crc) = c.put-at-3.ensures.appended 512 (label_word ++ number) (omega arith) (omega (arith, length-append label_word number)) two in
    let four : c.put.new.buffer ≡ padded 512 (label_word ++ number ++ crc ++ body) =
    c.put.ensures.appended 512 (label_word ++ number ++ crc) (omega arith) (omega (arith, length-append label_word number, length-append (label_word ++ number) crc)) three in
    four ∙ label_bytes-parts c.args.label.now number crc body c.lvm_crc.result c.to_le_bytes.ensures c.to_le_bytes-2.ensures c.body_of-body.ensures c.lvm_crc.ensures wide

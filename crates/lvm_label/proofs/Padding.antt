-- Fields one behind the other in a buffer of zeros.
use Rattle.std.proofs.Common.{◌≡◌, ℕ, ◌-◌, ◌+◌, ◌≤◌, List, ◌++◌, length, take, drop, replicate, sym, ap, ◌∙◌, append_assoc, arith}
use Rattle.std.proofs.lemmas.List.{take_at, drop_at, drop-replicate, length-append}
use borrow.Rule.Slice.PartMut.{put_mid}
use Rattle.lvm_label.specs.Fields.{padded}

pub put-padded : (size at : ℕ) (text bytes : List ℕ) → length text ≡ at → at + length bytes ≤ size → put_mid at (at + length bytes - at) (padded size text) bytes ≡ padded size (text ++ bytes)
unfolding padded
put-padded size at text bytes long room =
    let rest : List ℕ = replicate (size - length text) 0 in
    let front : take at (text ++ rest) ≡ text = take_at text rest at long in
    let back : drop at (text ++ rest) ≡ rest = drop_at text rest at long in
    let width : at + length bytes - at ≡ length bytes = omega arith in
    let left : size - length text - length bytes ≡ size - length (text ++ bytes) = omega (arith, length-append text bytes) in
    rw (width, front, back) (
    ap (λ (t : List ℕ). text ++ (bytes ++ t)) (drop-replicate (length bytes) (size - length text) 0 ∙ ap (λ (n : ℕ). replicate n 0) left)
    ∙ sym (append_assoc text bytes (replicate (size - length (text ++ bytes)) 0)))

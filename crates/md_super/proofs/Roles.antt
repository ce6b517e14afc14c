-- Roles read one after the other.
use Rattle.std.proofs.Common.{◌≡◌, ℕ, ◌+◌, ◌*◌, ◌<◌, ◌≤◌, List, length, take, drop, sym, ap, ◌∙◌, arith, zero-add, length-take-le}
use Rattle.std.proofs.lemmas.List.{ext_get_or, get_or-take, drop-drop}
use Rattle.std.proofs.lemmas.List.FromFn.{length-map-range_with_len, get_or-map-range_with_len}
use Rattle.byteorder.specs.Endian.{IsRead, little_number}
use Rattle.byteorder.specs.Numbers.{little_from-take}
use Rattle.shr_base.specs.Blocks.{bytes_at, number_at, numbers_at}

-- numbers of two bytes that stand in the block from an offset on
pub take-IsRead : (offset count : ℕ) (block source numbers : List ℕ) → count ≤ length numbers → source ≡ drop offset block → IsRead little_number 2 source numbers
    → take count numbers ≡ numbers_at offset 2 count block
unfolding number_at bytes_at
take-IsRead offset count block source numbers fits is_tail read =
    let at : ℕ → ℕ = λ k. number_at (offset + 2 * k) 2 block in
    ext_get_or 0 (take count numbers) (numbers_at offset 2 count block)
    (length-take-le count numbers fits ∙ sym (length-map-range_with_len at 0 count))
    (λ k below.
    let small : k < count = omega (arith, length-take-le count numbers fits) in
    get_or-take count numbers k 0 small
    ∙ read k (omega arith)
    ∙ ap (λ (xs : List ℕ). little_number 2 (drop (2 * k) xs)) is_tail
    ∙ ap (little_number 2) (drop-drop (2 * k) offset block)
    ∙ sym (little_from-take 0 2 2 (drop (offset + 2 * k) block) (omega arith))
    ∙ sym (get_or-map-range_with_len at 0 count k k 0 small (zero-add k)))

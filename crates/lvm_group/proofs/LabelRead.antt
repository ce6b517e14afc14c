-- A label that was read sector by sector.
use Rattle.std.proofs.Common.{◌≡◌, ℕ, ◌+◌, List, [], ◌∷◌, Option, Some, None, refl, ap, ◌∙◌}
use Rattle.std.specs.Prelude.{unwrap_or, replicate}
use Rattle.std.specs.Result.{result_ok}
use Rattle.rack.specs.Seen.{RackView}
use Rattle.lvm_label.specs.Label.{label_in}
use Rattle.lvm_group.specs.Parts.{Array, label_on}
use Rattle.rack.specs.Sequences.{OnlyReads}
use Rattle.lvm_group.specs.Reading.{IsRead, AreRead, held_on}
use Rattle.lvm_group.proofs.Looking.{looks_same, looks_then, read_longer, held_read, with_sector, sector_read}

abbrev zeros : List ℕ
zeros = replicate 512 0

-- a sector that isn't there is no label, and zeros are none
no_label : (o : Option (List ℕ)) (number : ℕ) (others : List (List ℕ)) → label_in number (unwrap_or o zeros ∷ others) ≡ label_in number (unwrap_or o [] ∷ others)
unfolding label_in
no_label (Some bytes) number others = refl
no_label None number others = refl

-- the same before the other sectors
then_same : (sector : List ℕ) (number : ℕ) (others same : List (List ℕ)) → label_in (number + 1) others ≡ label_in (number + 1) same → label_in number (sector ∷ others) ≡ label_in number (sector ∷ same)
unfolding label_in
then_same sector number others same is = rw is refl

four_sectors : (o p q r : Option (List ℕ))
    → label_in 0 (unwrap_or o zeros ∷ unwrap_or p zeros ∷ unwrap_or q zeros ∷ unwrap_or r zeros ∷ [])
    ≡ label_in 0 (unwrap_or o [] ∷ unwrap_or p [] ∷ unwrap_or q [] ∷ unwrap_or r [] ∷ [])
four_sectors o p q r =
    no_label o 0 (unwrap_or p zeros ∷ unwrap_or q zeros ∷ unwrap_or r zeros ∷ [])
    ∙ then_same (unwrap_or o []) 0 _ _ (no_label p 1 (unwrap_or q zeros ∷ unwrap_or r zeros ∷ [])
    ∙ then_same (unwrap_or p []) 1 _ _ (no_label q 2 (unwrap_or r zeros ∷ []) ∙ then_same (unwrap_or q []) 2 _ _ (no_label r 3 [])))

pub label_read : {a b c d e : RackView} (array : ℕ) (now : Array) (o p q r : Option (List ℕ)) → a.fit → OnlyReads a b → OnlyReads b c → OnlyReads c d → OnlyReads d e
    → IsRead a b array now 0 (unwrap_or o []) → IsRead b c array now 1 (unwrap_or p []) → IsRead c d array now 2 (unwrap_or q []) → IsRead d e array now 3 (unwrap_or r [])
    → (whole : Array) × AreRead a e array now whole
    × (result_ok (label_in 0 (unwrap_or o zeros ∷ unwrap_or p zeros ∷ unwrap_or q zeros ∷ unwrap_or r zeros ∷ [])) ≡ label_on whole)
label_read {a} {b} {c} {d} {e} array now o p q r fit first second third fourth zero one two three =
    let to_c = looks_then first second in
    let to_d = looks_then to_c third in
    let from_c = looks_then third fourth in
    let from_b = looks_then second from_c in
    let end = looks_same e (looks_then to_d fourth).stays.fit in (
      with_sector (with_sector (with_sector (with_sector (held_on a array now) 0 (unwrap_or o [])) 1 (unwrap_or p [])) 2 (unwrap_or q [])) 3 (unwrap_or r []),
      sector_read array now _ 3 (unwrap_or r [])
          (sector_read array now _ 2 (unwrap_or q [])
          (sector_read array now _ 1 (unwrap_or p [])
          (sector_read array now (held_on a array now) 0 (unwrap_or o []) (held_read a e array now) (read_longer array now 0 (unwrap_or o []) (looks_same a fit) from_b zero))
          (read_longer array now 1 (unwrap_or p []) first from_c one))
          (read_longer array now 2 (unwrap_or q []) to_c fourth two))
          (read_longer array now 3 (unwrap_or r []) to_d end three),
      ap result_ok (four_sectors o p q r),
    )

use Rattle.std.proofs.Common.{◌≡◌, ℕ, ◌+◌, ◌*◌, ◌++◌, List, length, take}
use Rattle.std.specs.List.{flat_map}
use Rattle.lvm_label.specs.Label.{area_bytes}
use Rattle.lvm_label.specs.Fields.{padded}
use Rattle.lvm_label.proofs.label.put_areas.Given as goal

abbrev pub invariant-loop-area : goal.invariant-loop-area
invariant-loop-area l =
    (l.end ≡ l.at + 16 * l.area-index)
    × ((text : List ℕ) → length text ≡ l.at → l.fn.body ≡ padded 492 text → l.body ≡ padded 492 (text ++ flat_map area_bytes (take l.area-index l.areas)))

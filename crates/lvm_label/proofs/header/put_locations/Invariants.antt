use Rattle.std.proofs.Common.{◌≡◌, ℕ, ◌+◌, ◌*◌, ◌++◌, List, length, take}
use Rattle.std.specs.List.{flat_map}
use Rattle.lvm_label.specs.Header.{location_bytes}
use Rattle.lvm_label.specs.Fields.{padded}
use Rattle.lvm_label.proofs.header.put_locations.Given as goal

abbrev pub invariant-loop-location : goal.invariant-loop-location
invariant-loop-location l =
    (l.end ≡ l.at + 24 * l.location-index)
    × ((text : List ℕ) → length text ≡ l.at → l.fn.body ≡ padded 508 text → l.body ≡ padded 508 (text ++ flat_map location_bytes (take l.location-index l.locations)))

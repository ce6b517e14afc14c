-- A header that was read.
use Rattle.std.proofs.Common.{◌≡◌, ℕ, List, [], None, refl, sym, ap}
use Rattle.std.specs.Prelude.{if◌then◌else◌}
use Rattle.std.specs.Result.{result_ok}
use Rattle.std.proofs.lemmas.Bool.{eq-eqb}
use Rattle.rack.specs.Seen.{RackView}
use Rattle.lvm_label.specs.Header.{header_of}
use Rattle.lvm_group.specs.Parts.{Array}
use Rattle.lvm_group.specs.Reading.{IsRead, AreRead, held_on}
use Rattle.lvm_group.proofs.Looking.{held_read, with_sector, sector_read}

-- the contents with a sector have it
pub has_sector : (c : Array) (sector : ℕ) (bytes : List ℕ) → with_sector c sector bytes sector ≡ bytes
has_sector c sector bytes = ap (λ test. if test then bytes else c sector) (eq-eqb sector sector refl)

pub header_read : {a b : RackView} (array : ℕ) (now : Array) (sector : ℕ) (bytes : List ℕ) → IsRead a b array now sector bytes
    → (c : Array) × AreRead a b array now c × (result_ok (header_of bytes) ≡ result_ok (header_of (c sector)))
header_read {a} {b} array now sector bytes is = (
  with_sector (held_on a array now) sector bytes,
  sector_read array now (held_on a array now) sector bytes (held_read a b array now) is,
  ap (λ (v : List ℕ). result_ok (header_of v)) (sym (has_sector (held_on a array now) sector bytes)),
)

-- no bytes are no header
pub no_header : result_ok (header_of []) ≡ None
unfolding header_of
no_header = refl

-- The tables of remainders hold what their rule says, each entry of them.
use Rattle.std.proofs.Common.{◌≡◌, ℕ, ◌+◌, ◌*◌, ◌<◌, List, [], map, get_or, refl, ap, ◌∙◌, zero-add}
use Rattle.std.specs.List.{range_with_len}
use Rattle.std.proofs.lemmas.List.FromFn.{get_or-map-range_with_len}
use Rattle.shr_base.specs.Crc.{times_x, times_x_to}
use Rattle.shr_base.specs.declared.remainders.TheConstants.{REMAINDERS}

-- table k: each byte with k + 1 zero bytes behind it
abbrev table_of : ℕ → List ℕ
table_of k = map (times_x_to (8 * (k + 1))) (range_with_len 0 256)

tables_are : REMAINDERS ≡ map table_of (range_with_len 0 8)
unfolding times_x_to times_x
tables_are = refl

pub entry_is : (table byte : ℕ) → table < 8 → byte < 256 → get_or (get_or REMAINDERS table []) byte 0 ≡ times_x_to (8 * (table + 1)) byte
entry_is table byte in_tables is_byte =
    ap (λ (tables : List (List ℕ)). get_or (get_or tables table []) byte 0) tables_are
    ∙ ap (λ (row : List ℕ). get_or row byte 0) (get_or-map-range_with_len table_of 0 8 table table [] in_tables (zero-add table))
    ∙ get_or-map-range_with_len (times_x_to (8 * (table + 1))) 0 256 byte byte 0 is_byte (zero-add byte)

-- The table of drives, and that its drives read back.
use Rattle.std.proofs.Common.{◌≡◌, ℕ, zero, suc, ◌+◌, ◌-◌, ◌*◌, ◌^◌, ◌<◌, ◌≤◌, Bool, true, false, List, [], ◌∷◌, ◌++◌, length, take, drop, get_or, map, replicate, refl, sym, ap, ◌∙◌, arith, zero-add, append_assoc, append-nil, length-append, length-take-le, subst, lit≤, lit<, add-zero, add-one, ◌==◌}
use Rattle.std.specs.List.{flat_map, range_with_len}
use Rattle.std.proofs.lemmas.List.{take_at, drop_at, drop-drop, drop-take, take-take, drop-replicate, take-replicate, drop_more, take_more, flat_map_more, same_lists}
use Rattle.std.proofs.lemmas.List.FromFn.{get_or-map-range_with_len, length-map-range_with_len}
use Rattle.byteorder.specs.Endian.{little_bytes, little_number}
use Rattle.byteorder.specs.Numbers.{little_number-reads_back}
use Rattle.shr_base.specs.Blocks.{bytes_at, number_at, put_at}
use Rattle.pool_state.specs.declared.contents.Drive.{Drive}
use Rattle.pool_state.specs.Sector.{drive_at, drive_offset, flags_at, has_flags, is_zero}
use Rattle.pool_state.specs.Written.{drive_bytes, flags_of, table_of, HaveIds}
use Rattle.pool_state.proofs.Places.{has_flags-more}

-- bytes written right behind the front, into zeros
pub put_at-zeros : (front bytes : List ℕ) (offset width room rest : ℕ) → length front ≡ offset → length bytes ≡ width → width + rest ≡ room
    → put_at offset width bytes (front ++ replicate room 0) ≡ (front ++ bytes) ++ replicate rest 0
unfolding put_at
put_at-zeros front bytes offset width room rest long wide fits =
    let zeros : List ℕ = replicate room 0 in
    ap (λ (xs : List ℕ). xs ++ (bytes ++ drop (offset + width) (front ++ zeros))) (take_at front zeros offset long)
    ∙ ap (λ (xs : List ℕ). front ++ (bytes ++ xs))
    (sym (drop-drop width offset (front ++ zeros)) ∙ ap (drop width) (drop_at front zeros offset long) ∙ drop-replicate width room 0
    ∙ ap (λ (n : ℕ). replicate n 0) (let left : room - width ≡ rest = omega arith in left))
    ∙ sym (append_assoc front bytes (replicate rest 0))

-- a part of a field
pub bytes_at-part : (offset width at size : ℕ) (block field : List ℕ) → bytes_at offset width block ≡ field → at + size ≤ width
    → bytes_at (offset + at) size block ≡ bytes_at at size field
unfolding bytes_at
bytes_at-part offset width at size block field is_field within =
    let tail : List ℕ = drop offset block in
    ap (take size) (sym (drop-drop at offset block))
    ∙ sym (drop-take at size tail) ∙ ap (drop at) (sym (take-take (at + size) width tail within)) ∙ drop-take at size (take width tail)
    ∙ ap (λ (xs : List ℕ). take size (drop at xs)) is_field

length-drive_bytes : (d : Drive) → length d.id.0 ≡ 16 → length (drive_bytes d) ≡ 28
length-drive_bytes d long = omega (arith, length-append d.id.0 (little_bytes 8 d.units ++ little_bytes 4 (flags_of d.missing)))

pub length-drives : (drives : List Drive) → HaveIds drives → length (flat_map drive_bytes drives) ≡ 28 * length drives
length-drives [] ids = refl
length-drives (d ∷ drives) ids =
    omega (arith, length-append (drive_bytes d) (flat_map drive_bytes drives), length-drive_bytes d ids.0, length-drives drives ids.1)

pub HaveIds-push : (drives : List Drive) (d : Drive) → HaveIds drives → length d.id.0 ≡ 16 → HaveIds (drives ++ d ∷ [])
HaveIds-push [] d ids long = (long, tt)
HaveIds-push (e ∷ drives) d ids long = (ids.0, HaveIds-push drives d ids.1 long)

-- behind the first k drives stand the others
drop-drives : (k : ℕ) (drives : List Drive) (rest : List ℕ) → HaveIds drives → k ≤ length drives
    → drop (28 * k) (flat_map drive_bytes drives ++ rest) ≡ flat_map drive_bytes (drop k drives) ++ rest
drop-drives zero drives rest ids below = refl
drop-drives (suc k) [] rest ids below = absurd (omega arith)
drop-drives (suc k) (d ∷ drives) rest ids below =
    let first : List ℕ = drive_bytes d in
    let others : List ℕ = flat_map drive_bytes drives in
    let more : 28 * suc k ≡ 28 + 28 * k = omega arith in
    ap (λ (n : ℕ). drop n ((first ++ others) ++ rest)) more
    ∙ ap (drop (28 + 28 * k)) (append_assoc first others rest)
    ∙ sym (drop-drop (28 * k) 28 (first ++ (others ++ rest)))
    ∙ ap (drop (28 * k)) (drop_at first (others ++ rest) 28 (length-drive_bytes d ids.0))
    ∙ drop-drives k drives rest ids.1 (omega arith)

id_at : (drives : List Drive) (k : ℕ) (d : Drive) → HaveIds drives → k < length drives → length (get_or drives k d).id.0 ≡ 16
id_at [] k d ids below = absurd (omega arith)
id_at (e ∷ drives) zero d ids below = ids.0
id_at (e ∷ drives) (suc k) d ids below = id_at drives k d ids.1 (omega arith)

-- the bytes of drive k in the table
drive-table : (drives : List Drive) (k : ℕ) (d : Drive) → HaveIds drives → k < length drives
    → bytes_at (28 * k) 28 (table_of drives) ≡ drive_bytes (get_or drives k d)
unfolding bytes_at
drive-table drives k d ids below =
    let zeros : List ℕ = replicate (28 * (16 - length drives)) 0 in
    let here : Drive = get_or drives k d in
    let behind : List ℕ = flat_map drive_bytes (drop (k + 1) drives) in
    ap (take 28) (drop-drives k drives zeros ids (omega arith)
    ∙ ap (λ (xs : List Drive). flat_map drive_bytes xs ++ zeros) (drop_more drives k d below)
    ∙ append_assoc (drive_bytes here) behind zeros)
    ∙ take_at (drive_bytes here) (behind ++ zeros) 28 (length-drive_bytes here (id_at drives k d ids below))

-- one drive more in the table
pub table-more : (drives : List Drive) (place : ℕ) (d : Drive) (table : List ℕ) → place < length drives → length drives ≤ 16
    → table ≡ flat_map drive_bytes (take place drives) ++ replicate (28 * (16 - place)) 0 → HaveIds (take place drives)
    → length (get_or drives place d).id.0 ≡ 16
    → put_at (28 * place) 28 (drive_bytes (get_or drives place d)) table
    ≡ flat_map drive_bytes (take (place + 1) drives) ++ replicate (28 * (16 - (place + 1))) 0
table-more drives place d table below few is_table ids long =
    let here : Drive = get_or drives place d in
    let front : List ℕ = flat_map drive_bytes (take place drives) in
    let front_long : length front ≡ 28 * place = omega (arith, length-drives (take place drives) ids, length-take-le place drives (omega arith)) in
    ap (put_at (28 * place) 28 (drive_bytes here)) is_table
    ∙ put_at-zeros front (drive_bytes here) (28 * place) 28 (28 * (16 - place)) (28 * (16 - (place + 1))) front_long (length-drive_bytes here long) (omega arith)
    ∙ ap (λ (xs : List ℕ). xs ++ replicate (28 * (16 - (place + 1))) 0)
    (flat_map_more drive_bytes [] (take place drives) here ∙ ap (flat_map drive_bytes) (sym (take_more drives place d below)))

pub HaveIds-more : (drives : List Drive) (place : ℕ) (d : Drive) → place < length drives → HaveIds (take place drives)
    → length (get_or drives place d).id.0 ≡ 16 → HaveIds (take (place + 1) drives)
HaveIds-more drives place d below ids long =
    subst HaveIds (sym (take_more drives place d below)) (HaveIds-push (take place drives) (get_or drives place d) ids long)

number-spelled : (width n : ℕ) → n < 256 ^ width → little_number width (little_bytes width n) ≡ n
number-spelled width n fits = ap (little_number width) (sym (append-nil (little_bytes width n))) ∙ little_number-reads_back width n [] fits

-- the parts of a drive
id-drive_bytes : (d : Drive) → length d.id.0 ≡ 16 → bytes_at 0 16 (drive_bytes d) ≡ d.id.0
unfolding bytes_at
id-drive_bytes d long = take_at d.id.0 (little_bytes 8 d.units ++ little_bytes 4 (flags_of d.missing)) 16 long

units-drive_bytes : (d : Drive) → length d.id.0 ≡ 16 → bytes_at 16 8 (drive_bytes d) ≡ little_bytes 8 d.units
unfolding bytes_at
units-drive_bytes d long = ap (take 8) (drop_at d.id.0 (little_bytes 8 d.units ++ little_bytes 4 (flags_of d.missing)) 16 long)

flags-drive_bytes : (d : Drive) → length d.id.0 ≡ 16 → bytes_at 24 4 (drive_bytes d) ≡ little_bytes 4 (flags_of d.missing)
unfolding bytes_at
flags-drive_bytes d long =
    let units : List ℕ = little_bytes 8 d.units in
    let flags : List ℕ = little_bytes 4 (flags_of d.missing) in
    ap (take 4) (ap (drop 24) (sym (append_assoc d.id.0 units flags)) ∙ drop_at (d.id.0 ++ units) flags 24 (omega (arith, length-append d.id.0 units)))

flags-small : (missing : Bool) → flags_of missing < 256 ^ 4
flags-small true = lit< tt
flags-small false = lit< tt

flags-least : (missing : Bool) → flags_of missing ≤ 1
flags-least true = lit≤ tt
flags-least false = lit≤ tt

missing-flags_of : (missing : Bool) → (flags_of missing == 1) ≡ missing
missing-flags_of true = refl
missing-flags_of false = refl

-- some drive, for the places past a list
abbrev pub no_drive : Drive
no_drive = record { id = record { 0 = [] }; units = 0; missing = false }

module _ (block : List ℕ) (drives : List Drive) (ids : HaveIds drives) (few : length drives ≤ 16) (written : bytes_at 64 448 block ≡ table_of drives) where
  drive_read : (k : ℕ) (d : Drive) → k < length drives → bytes_at (drive_offset k) 28 block ≡ drive_bytes (get_or drives k d)
  drive_read k d below = bytes_at-part 64 448 (28 * k) 28 block (table_of drives) written (omega arith) ∙ drive-table drives k d ids below

  pub flags_read : (k : ℕ) (d : Drive) → k < length drives → flags_at k block ≡ flags_of (get_or drives k d).missing
  unfolding number_at
  flags_read k d below =
      let here : Drive = get_or drives k d in
      ap (little_number 4) (bytes_at-part (drive_offset k) 28 24 4 block (drive_bytes here) (drive_read k d below) (lit≤ tt)
      ∙ flags-drive_bytes here (id_at drives k d ids below))
      ∙ number-spelled 4 (flags_of here.missing) (flags-small here.missing)

  pub units_read : (k : ℕ) (d : Drive) → k < length drives → (get_or drives k d).units < 2 ^ 64 → number_at (drive_offset k + 16) 8 block ≡ (get_or drives k d).units
  unfolding number_at
  units_read k d below fits =
      let here : Drive = get_or drives k d in
      ap (little_number 8) (bytes_at-part (drive_offset k) 28 16 8 block (drive_bytes here) (drive_read k d below) (lit≤ tt)
      ∙ units-drive_bytes here (id_at drives k d ids below))
      ∙ number-spelled 8 here.units fits

  pub id_read : (k : ℕ) (d : Drive) → k < length drives → bytes_at (drive_offset k) 16 block ≡ (get_or drives k d).id.0
  id_read k d below =
      let here : Drive = get_or drives k d in
      ap (λ (n : ℕ). bytes_at n 16 block) (sym (add-zero (drive_offset k)))
      ∙ bytes_at-part (drive_offset k) 28 0 16 block (drive_bytes here) (drive_read k d below) (lit≤ tt)
      ∙ id-drive_bytes here (id_at drives k d ids below)

  -- each drive reads back
  pub drive_at-read : (k : ℕ) (d : Drive) → k < length drives → (get_or drives k d).units < 2 ^ 64 → drive_at k block ≡ get_or drives k d
  unfolding drive_at
  drive_at-read k d below fits =
      let here : Drive = get_or drives k d in
      λ i. record {
        id = record { 0 = id_read k d below i };
        units = units_read k d below fits i;
        missing = (ap (λ (n : ℕ). n == 1) (flags_read k d below) ∙ missing-flags_of here.missing) i;
      }

  pub drives_read : ((k : ℕ) (d : Drive) → k < length drives → (get_or drives k d).units < 2 ^ 64)
      → map (λ place. drive_at place block) (range_with_len 0 (length drives)) ≡ drives
  drives_read fits =
      let at : ℕ → Drive = λ place. drive_at place block in
      let many : length (map at (range_with_len 0 (length drives))) ≡ length drives = length-map-range_with_len at 0 (length drives) in
      same_lists (map at (range_with_len 0 (length drives))) drives many
      (λ k d below.
      let small : k < length drives = omega arith in
      get_or-map-range_with_len at 0 (length drives) k k d small (zero-add k) ∙ drive_at-read k d small (fits k d small))

  pub has_flags-read : (n : ℕ) → n ≤ length drives → has_flags n block ≡ true
  has_flags-read zero fits = refl
  has_flags-read (suc n) fits =
      let here : flags_at n block ≤ 1 = omega (arith, flags_read n no_drive (omega arith), flags-least (get_or drives n no_drive).missing) in
      ap (λ (k : ℕ). has_flags k block) (sym (add-one n)) ∙ has_flags-more n block (has_flags-read n (omega arith)) here

  -- zeros behind the last drive
  pub zeros_read : bytes_at (drive_offset (length drives)) (28 * (16 - length drives)) block ≡ replicate (28 * (16 - length drives)) 0
  unfolding bytes_at
  zeros_read =
      let room : ℕ = 28 * (16 - length drives) in
      bytes_at-part 64 448 (28 * length drives) room block (table_of drives) written (omega arith)
      ∙ ap (take room) (drop_at (flat_map drive_bytes drives) (replicate room 0) (28 * length drives) (length-drives drives ids))
      ∙ take-replicate room room 0 (omega arith)

pub is_zero-replicate : (n : ℕ) → is_zero (replicate n 0) ≡ true
is_zero-replicate zero = refl
is_zero-replicate (suc n) = is_zero-replicate n

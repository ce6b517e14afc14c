-- Fields that lie apart read back as they were written.
use Rattle.std.proofs.Common.{◌≡◌, ℕ, zero, suc, ◌+◌, ◌-◌, ◌*◌, ◌^◌, ◌<◌, ◌≤◌, Bool, true, ◌&&◌, ◌||◌, nat_le, List, [], ◌∷◌, ◌++◌, length, take, drop, get_or, refl, sym, ap, ◌∙◌, arith, ⊎_elim, append_assoc, length-append, length-drop, append-nil, replicate, zero-add, take-append-drop}
use Rattle.std.proofs.lemmas.Bool.{leb-true, or_cases, and_parts}
use Rattle.std.proofs.lemmas.List.{length-replicate, take-replicate, drop-replicate, length-take-le, take_at, drop_at, drop-take, take-take, take-append-le, drop-append-le, drop-drop, drop_all, drop_more, ext_get_or}
use Rattle.std.proofs.lemmas.List.FromFn.{length-map-range_with_len, get_or-map-range_with_len}
use Rattle.std.specs.List.{flat_map}
use Rattle.std.proofs.lemmas.Slice.{drop-append-drop}
use Rattle.byteorder.specs.Endian.{little_bytes, little_number}
use Rattle.byteorder.specs.Numbers.{little_number-reads_back}
use Rattle.shr_base.specs.Blocks.{bytes_at, number_at, numbers_at, put_at, put_all, Write}

length-put_at : (offset width : ℕ) (bytes block : List ℕ) → offset + width ≤ length block → length bytes ≡ width
    → length (put_at offset width bytes block) ≡ length block
unfolding put_at
length-put_at offset width bytes block within wide =
    omega (arith, length-append (take offset block) (bytes ++ drop (offset + width) block), length-append bytes (drop (offset + width) block), length-take-le offset block (omega arith), length-drop (offset + width) block)

-- a field reads back
bytes_at-put_at : (offset width : ℕ) (bytes block : List ℕ) → offset + width ≤ length block → length bytes ≡ width
    → bytes_at offset width (put_at offset width bytes block) ≡ bytes
unfolding bytes_at put_at
bytes_at-put_at offset width bytes block within wide =
    ap (take width) (drop_at (take offset block) (bytes ++ drop (offset + width) block) offset (length-take-le offset block (omega arith)))
    ∙ take_at bytes (drop (offset + width) block) width wide

-- a field that ends before the one written is as it was
bytes_at-put_at-below : (at size offset width : ℕ) (bytes block : List ℕ) → at + size ≤ offset → offset ≤ length block
    → bytes_at at size (put_at offset width bytes block) ≡ bytes_at at size block
unfolding bytes_at put_at
bytes_at-put_at-below at size offset width bytes block below within =
    let front : List ℕ = take offset block in
    let long : length front ≡ offset = length-take-le offset block within in
    sym (drop-take at size (front ++ (bytes ++ drop (offset + width) block)))
    ∙ ap (drop at) (take-append-le (at + size) front (bytes ++ drop (offset + width) block) (omega arith) ∙ take-take (at + size) offset block below)
    ∙ drop-take at size block

-- and so is one that begins behind it
bytes_at-put_at-above : (at size offset width : ℕ) (bytes block : List ℕ) → offset + width ≤ at → offset + width ≤ length block → length bytes ≡ width
    → bytes_at at size (put_at offset width bytes block) ≡ bytes_at at size block
unfolding bytes_at put_at
bytes_at-put_at-above at size offset width bytes block above within wide =
    let front : List ℕ = take offset block in
    let long : length (front ++ bytes) ≡ offset + width = omega (arith, length-append front bytes, length-take-le offset block (omega arith)) in
    ap (take size) (ap (drop at) (sym (append_assoc front bytes (drop (offset + width) block)))
    ∙ drop-append-drop (offset + width) block (front ++ bytes) at above long)

-- whether a field lies apart from others
abbrev pub is_apart : ℕ → ℕ → List Write → Bool
is_apart at size [] = true
is_apart at size (field ∷ fields) = (nat_le (at + size) field.offset || nat_le (field.offset + field.width) at) && is_apart at size fields

-- whether fields lie apart from each other, in a block of so many bytes
abbrev pub are_laid_out : ℕ → List Write → Bool
are_laid_out total [] = true
are_laid_out total (field ∷ fields) = nat_le (field.offset + field.width) total && (is_apart field.offset field.width fields && are_laid_out total fields)

-- the bytes of each field are as many as its width says
abbrev pub AreWide : List Write → Type 0
AreWide [] = Unit {0}
AreWide (field ∷ fields) = (length field.bytes ≡ field.width) × AreWide fields

bytes_at-put_at-apart : (at size offset width : ℕ) (bytes block : List ℕ) → (nat_le (at + size) offset || nat_le (offset + width) at) ≡ true
    → offset + width ≤ length block → length bytes ≡ width → bytes_at at size (put_at offset width bytes block) ≡ bytes_at at size block
bytes_at-put_at-apart at size offset width bytes block apart within wide =
    ⊎_elim (λ below. bytes_at-put_at-below at size offset width bytes block (leb-true _ _ below) (omega arith))
    (λ above. bytes_at-put_at-above at size offset width bytes block (leb-true _ _ above) within wide)
    (or_cases _ _ apart)

within_block : (total : ℕ) (field : Write) (block : List ℕ) → nat_le (field.offset + field.width) total ≡ true → length block ≡ total
    → field.offset + field.width ≤ length block
within_block total field block within long = omega (arith, leb-true (field.offset + field.width) total within)

-- a field that lies apart from all that are written is as it was
pub bytes_at-put_all : (total at size : ℕ) (fields : List Write) (block : List ℕ) → length block ≡ total
    → is_apart at size fields ≡ true → are_laid_out total fields ≡ true → AreWide fields
    → bytes_at at size (put_all fields block) ≡ bytes_at at size block
bytes_at-put_all total at size [] block long apart laid_out wide = refl
bytes_at-put_all total at size (field ∷ fields) block long apart laid_out wide =
    let here = and_parts _ _ apart in
    let fits = and_parts _ _ laid_out in
    let within : field.offset + field.width ≤ length block = within_block total field block fits.0 long in
    bytes_at-put_all total at size fields (put_at field.offset field.width field.bytes block)
    (length-put_at field.offset field.width field.bytes block within wide.0 ∙ long) here.1 (and_parts _ _ fits.1).1 wide.1
    ∙ bytes_at-put_at-apart at size field.offset field.width field.bytes block here.0 within wide.0

-- no field: past the end of a list of them
abbrev pub none : Write
none = record { offset = 0; width = 0; bytes = [] }

bytes_at-none : (block : List ℕ) → bytes_at 0 0 block ≡ []
unfolding bytes_at
bytes_at-none block = refl

-- the k-th field that is written reads back
pub bytes_at-field : (k total : ℕ) (fields : List Write) (block : List ℕ) → length block ≡ total → are_laid_out total fields ≡ true → AreWide fields
    → let field : Write = get_or fields k none in bytes_at field.offset field.width (put_all fields block) ≡ field.bytes
bytes_at-field k total [] block long laid_out wide = bytes_at-none block
bytes_at-field zero total (field ∷ fields) block long laid_out wide =
    let fits = and_parts _ _ laid_out in
    let others = and_parts _ _ fits.1 in
    let within : field.offset + field.width ≤ length block = within_block total field block fits.0 long in
    bytes_at-put_all total field.offset field.width fields (put_at field.offset field.width field.bytes block)
    (length-put_at field.offset field.width field.bytes block within wide.0 ∙ long) others.0 others.1 wide.1
    ∙ bytes_at-put_at field.offset field.width field.bytes block within wide.0
bytes_at-field (suc k) total (field ∷ fields) block long laid_out wide =
    let fits = and_parts _ _ laid_out in
    let within : field.offset + field.width ≤ length block = within_block total field block fits.0 long in
    bytes_at-field k total fields (put_at field.offset field.width field.bytes block)
    (length-put_at field.offset field.width field.bytes block within wide.0 ∙ long) (and_parts _ _ fits.1).1 wide.1

-- and so does a number in it
pub number_at-field : (k total number : ℕ) (fields : List Write) (block : List ℕ) → length block ≡ total → are_laid_out total fields ≡ true → AreWide fields
    → (get_or fields k none).bytes ≡ little_bytes (get_or fields k none).width number → number < 256 ^ (get_or fields k none).width
    → let field : Write = get_or fields k none in number_at field.offset field.width (put_all fields block) ≡ number
unfolding number_at
number_at-field k total number fields block long laid_out wide spelled fits =
    let width : ℕ = (get_or fields k none).width in
    ap (little_number width) (bytes_at-field k total fields block long laid_out wide ∙ spelled ∙ sym (append-nil (little_bytes width number)))
    ∙ little_number-reads_back width number [] fits

bytes_at-replicate : (total at size : ℕ) → at + size ≤ total → bytes_at at size (replicate total 0) ≡ replicate size 0
unfolding bytes_at
bytes_at-replicate total at size within = ap (take size) (drop-replicate at total 0) ∙ take-replicate size (total - at) 0 (omega arith)

-- what lies apart from all fields of a block of zeros stays zero
pub bytes_at-zeros : (total at size : ℕ) (fields : List Write) → at + size ≤ total
    → is_apart at size fields ≡ true → are_laid_out total fields ≡ true → AreWide fields
    → bytes_at at size (put_all fields (replicate total 0)) ≡ replicate size 0
bytes_at-zeros total at size fields within apart laid_out wide =
    bytes_at-put_all total at size fields (replicate total 0) (length-replicate total 0) apart laid_out wide
    ∙ bytes_at-replicate total at size within

pub length-put_all : (total : ℕ) (fields : List Write) (block : List ℕ) → length block ≡ total → are_laid_out total fields ≡ true → AreWide fields
    → length (put_all fields block) ≡ total
length-put_all total [] block long laid_out wide = long
length-put_all total (field ∷ fields) block long laid_out wide =
    let fits = and_parts _ _ laid_out in
    let within : field.offset + field.width ≤ length block = within_block total field block fits.0 long in
    length-put_all total fields (put_at field.offset field.width field.bytes block)
    (length-put_at field.offset field.width field.bytes block within wide.0 ∙ long) (and_parts _ _ fits.1).1 wide.1

put_at-append : (offset width : ℕ) (bytes block rest : List ℕ) → offset + width ≤ length block
    → put_at offset width bytes (block ++ rest) ≡ put_at offset width bytes block ++ rest
unfolding put_at
put_at-append offset width bytes block rest within =
    let behind : List ℕ = drop (offset + width) block in
    ap (λ (xs : List ℕ). xs ++ (bytes ++ drop (offset + width) (block ++ rest))) (take-append-le offset block rest (omega arith))
    ∙ ap (λ (xs : List ℕ). take offset block ++ (bytes ++ xs)) (drop-append-le (offset + width) block rest within)
    ∙ ap (λ (xs : List ℕ). take offset block ++ xs) (sym (append_assoc bytes behind rest))
    ∙ sym (append_assoc (take offset block) (bytes ++ behind) rest)

-- what follows the block stays behind it
pub put_all-append : (total : ℕ) (fields : List Write) (block rest : List ℕ) → length block ≡ total → are_laid_out total fields ≡ true → AreWide fields
    → put_all fields (block ++ rest) ≡ put_all fields block ++ rest
put_all-append total [] block rest long laid_out wide = refl
put_all-append total (field ∷ fields) block rest long laid_out wide =
    let fits = and_parts _ _ laid_out in
    let within : field.offset + field.width ≤ length block = within_block total field block fits.0 long in
    ap (put_all fields) (put_at-append field.offset field.width field.bytes block rest within)
    ∙ put_all-append total fields (put_at field.offset field.width field.bytes block) rest
    (length-put_at field.offset field.width field.bytes block within wide.0 ∙ long) (and_parts _ _ fits.1).1 wide.1

-- a field that is written back to what it was leaves the block as it was
pub put_at-put_at : (offset width : ℕ) (bytes old block : List ℕ) → offset + width ≤ length block → length bytes ≡ width → bytes_at offset width block ≡ old
    → put_at offset width old (put_at offset width bytes block) ≡ block
unfolding put_at bytes_at
put_at-put_at offset width bytes old block within wide was =
    let front : List ℕ = take offset block in
    let behind : List ℕ = drop (offset + width) block in
    let front_long : length front ≡ offset = length-take-le offset block (omega arith) in
    let long : length (front ++ bytes) ≡ offset + width = omega (arith, length-append front bytes) in
    ap (λ (xs : List ℕ). xs ++ (old ++ drop (offset + width) (front ++ (bytes ++ behind)))) (take_at front (bytes ++ behind) offset front_long)
    ∙ ap (λ (xs : List ℕ). front ++ (old ++ drop (offset + width) xs)) (sym (append_assoc front bytes behind))
    ∙ ap (λ (xs : List ℕ). front ++ (old ++ xs)) (drop_at (front ++ bytes) behind (offset + width) long)
    ∙ ap (λ (xs : List ℕ). front ++ (xs ++ behind)) (sym was)
    ∙ ap (λ (xs : List ℕ). front ++ (take width (drop offset block) ++ xs)) (sym (drop-drop width offset block))
    ∙ ap (λ (xs : List ℕ). front ++ xs) (take-append-drop width (drop offset block))
    ∙ take-append-drop offset block

-- numbers of two bytes, written one after the other, read back
drop-spelled : (k : ℕ) (numbers : List ℕ) → drop (2 * k) (flat_map (little_bytes 2) numbers) ≡ flat_map (little_bytes 2) (drop k numbers)
drop-spelled zero numbers = refl
drop-spelled (suc k) [] = drop_all (2 * suc k) [] (omega arith)
drop-spelled (suc k) (n ∷ numbers) =
    let two_more : 2 * suc k ≡ suc (suc (2 * k)) = omega arith in
    ap (λ (m : ℕ). drop m (flat_map (little_bytes 2) (n ∷ numbers))) two_more ∙ drop-spelled k numbers

number-spelled : (numbers : List ℕ) (k : ℕ) → k < length numbers → get_or numbers k 0 < 2 ^ 16
    → little_number 2 (take 2 (drop (2 * k) (flat_map (little_bytes 2) numbers))) ≡ get_or numbers k 0
number-spelled numbers k below fits =
    ap (λ (xs : List ℕ). little_number 2 (take 2 xs)) (drop-spelled k numbers)
    ∙ ap (λ (xs : List ℕ). little_number 2 (take 2 (flat_map (little_bytes 2) xs))) (drop_more numbers k 0 below)
    ∙ little_number-reads_back 2 (get_or numbers k 0) [] fits

pub numbers_at-spelled : (offset count : ℕ) (numbers block : List ℕ) → length numbers ≡ count → ((k : ℕ) → get_or numbers k 0 < 2 ^ 16)
    → bytes_at offset (2 * count) block ≡ flat_map (little_bytes 2) numbers → numbers_at offset 2 count block ≡ numbers
unfolding number_at bytes_at
numbers_at-spelled offset count numbers block many fits spelled =
    let at : ℕ → ℕ = λ k. number_at (offset + 2 * k) 2 block in
    let read : List ℕ = numbers_at offset 2 count block in
    let long : length read ≡ count = length-map-range_with_len at 0 count in
    ext_get_or 0 read numbers (long ∙ sym many)
    (λ k below.
    let small : k < count = omega arith in
    let tail : List ℕ = drop offset block in
    get_or-map-range_with_len at 0 count k k 0 small (zero-add k)
    ∙ ap (λ (xs : List ℕ). little_number 2 (take 2 xs)) (sym (drop-drop (2 * k) offset block))
    ∙ ap (little_number 2) (sym (drop-take (2 * k) 2 tail)
    ∙ ap (drop (2 * k)) (sym (take-take (2 * k + 2) (2 * count) tail (omega arith)))
    ∙ ap (λ (xs : List ℕ). drop (2 * k) (take (2 * k + 2) xs)) spelled
    ∙ drop-take (2 * k) 2 (flat_map (little_bytes 2) numbers))
    ∙ number-spelled numbers k (omega arith) (fits k))

-- such numbers take two bytes each
pub length-spelled : (numbers : List ℕ) → length (flat_map (little_bytes 2) numbers) ≡ 2 * length numbers
length-spelled [] = refl
length-spelled (n ∷ numbers) = omega (arith, length-spelled numbers)

-- The words of a group's text.
use Rattle.std.proofs.Common.{◌≡◌, ℕ, ◌+◌, ◌≤◌, ◌<◌, ◌^◌, Bool, true, false, List, [], ◌∷◌, ◌++◌, length, codes, decimal, Some, Ok, refl, ap, append_assoc, arith, nat_lt, lit<}
use Rattle.std.proofs.lemmas.Bool.{and_parts, and_from, or_left, or_right}
use Rattle.std.proofs.lemmas.Fmt.{decimal_digit}
use Rattle.std.specs.List.{AllByRecursion, flat_map, list_all}
use Rattle.lvm_text.specs.declared.words.Word.{Word}
use Rattle.lvm_text.specs.declared.words.Word.TheVariants as word
use Rattle.lvm_text.specs.declared.words.Turn.TheVariants as turn
use Rattle.lvm_text.specs.declared.group.SegmentKind.{SegmentKind}
use Rattle.lvm_text.specs.declared.group.SegmentKind.TheVariants as kind
use Rattle.lvm_text.specs.declared.group.Segment.{Segment}
use Rattle.lvm_text.specs.declared.group.Pv.{Pv}
use Rattle.lvm_text.specs.declared.group.Lv.{Lv}
use Rattle.lvm_text.specs.declared.group.Group.{Group}
use Rattle.lvm_text.specs.Words.{is_digit, is_letter, is_name_byte, start, words_of}
use Rattle.lvm_text.specs.Group.{segment_name}
use Rattle.lvm_text.specs.Printed.{IsId, IsName, IsPrintable, IsPrintableKind, IsPrintableLv, IsPrintablePv, IsPrintableSegment, InRange, KindInRange, LvInRange, PvInRange, SegmentInRange, closing, group_head, group_limits, group_marks, is_id_byte, lv_marks, lv_text, number_line, opening, printed, pv_marks, pv_text, segment_text, segments_text, stripes_line, striped_mark, text_line, trailer}
use Rattle.lvm_text.proofs.Lexing.{◌⨾◌, Piece, Reads, at, close_list, close_section, comma, ends, equals, first_string, is_plain, item, last_number, line_end, name, no_list, nothing, number, open_list, open_section, all_digits, plain_byte, same_text, string}

-- ---- lines

-- a name, and the `=` behind it
key : (k : ℕ) (name' : List ℕ) → 0 < length name' → list_all is_name_byte name' ≡ true → Piece (item k) ((name' ++ codes " ") ++ codes "= ") (λ ws. word.Name name' ∷ word.Equals ∷ ws) (at k 0 turn.Value)
key k name' some all = name k name' some all ⨾ equals k

abbrev number_words : List ℕ → ℕ → List Word → List Word
number_words name n words = word.Name name ∷ word.Equals ∷ word.Number (Some n) ∷ words

abbrev text_words : List ℕ → List ℕ → List Word → List Word
text_words name text words = word.Name name ∷ word.Equals ∷ word.Text text ∷ words

abbrev opening_words : List ℕ → List Word → List Word
opening_words name words = word.Name name ∷ word.Open ∷ words

number_piece : (k : ℕ) (name' : List ℕ) (n : ℕ) → 0 < length name' → list_all is_name_byte name' ≡ true → n < 2 ^ 64 → Piece (item k) (number_line name' n) (number_words name' n) (item k)
unfolding number_line
number_piece k name' n some all fits = same_text (simp append_assoc) (key k name' some all ⨾ number k n fits)

string_line : (k : ℕ) (text : List ℕ) → list_all is_plain text ≡ true → Piece (at k 0 turn.Value) ((34 ∷ (text ++ codes "\"")) ++ codes "\n") (λ ws. word.Text text ∷ ws) (item k)
string_line k text all = string k 0 text all ⨾ line_end (item k)

text_piece : (k : ℕ) (name' text : List ℕ) → 0 < length name' → list_all is_name_byte name' ≡ true → list_all is_plain text ≡ true → Piece (item k) (text_line name' text) (text_words name' text) (item k)
unfolding text_line
text_piece k name' text some all plain = same_text (simp append_assoc) (key k name' some all ⨾ string_line k text plain)

opening_piece : (k : ℕ) (name' : List ℕ) → 0 < length name' → list_all is_name_byte name' ≡ true → nat_lt k 8 ≡ true → Piece (item k) (opening name') (opening_words name') (item (k + 1))
unfolding opening
opening_piece k name' some all few = same_text (simp append_assoc) (name k name' some all ⨾ open_section k few)

-- `status = ["FIRST"` so far
status : (k : ℕ) (text : List ℕ) → list_all is_plain text ≡ true → Piece (item k) (codes "status = [" ++ 34 ∷ (text ++ codes "\"")) (λ ws. word.Name (codes "status") ∷ word.Equals ∷ word.ListOpen ∷ word.Text text ∷ ws) (at k 1 turn.Separator)
status k text all = key k (codes "status") (omega arith) refl ⨾ open_list k ⨾ first_string k text all

-- one more
and_string : (k : ℕ) (text : List ℕ) → list_all is_plain text ≡ true → Piece (at k 1 turn.Separator) (codes ", " ++ 34 ∷ (text ++ codes "\"")) (λ ws. word.Comma ∷ word.Text text ∷ ws) (at k 1 turn.Separator)
and_string k text all = comma k ⨾ string k 1 text all

no_flags : (k : ℕ) → Piece (item k) (codes "flags = []\n") (λ ws. word.Name (codes "flags") ∷ word.Equals ∷ word.ListOpen ∷ word.ListClose ∷ ws) (item k)
no_flags k = key k (codes "flags") (omega arith) refl ⨾ no_list k

-- a number of one digit to the end of its line
digit : (k n : ℕ) → n < 10 → Piece (at k 0 turn.Value) ((48 + n) ∷ codes "\n") (λ ws. word.Number (Some n) ∷ ws) (item k)
digit k n small = same_text (ap (λ (x : List ℕ). x ++ codes "\n") (decimal_digit n small)) (number k n (omega arith))

-- a name or an id in a string stands there as itself
plain_where : (test : ℕ → Bool) (bytes : List ℕ) → test 34 ≡ false → test 0 ≡ false → test 92 ≡ false → list_all test bytes ≡ true → list_all is_plain bytes ≡ true
plain_where test [] quote nul back all = refl
plain_where test (byte ∷ bytes) quote nul back all =
    let parts = and_parts (test byte) (list_all test bytes) all in
    and_from (is_plain byte) (list_all is_plain bytes) (plain_byte test byte parts.0 quote nul back) (plain_where test bytes quote nul back parts.1)

plain_name : (name' : List ℕ) → IsName name' → list_all is_plain name' ≡ true
plain_name name' is = plain_where is_name_byte name' refl refl refl is.bytes

plain_id : (id : List ℕ) → IsId id → list_all is_plain id ≡ true
plain_id id is = plain_where is_id_byte id refl refl refl is.bytes

-- ---- a physical volume

abbrev pub pv_mark_words : List Word → List Word
pv_mark_words words =
    text_words (codes "device") (codes "unknown") (word.Name (codes "status") ∷ word.Equals ∷ word.ListOpen ∷ word.Text (codes "ALLOCATABLE") ∷ word.ListClose
    ∷ word.Name (codes "flags") ∷ word.Equals ∷ word.ListOpen ∷ word.ListClose ∷ words)

pv_mark_piece : Piece (item 3) pv_marks pv_mark_words (item 3)
pv_mark_piece =
    key 3 (codes "device") (omega arith) refl ⨾ string_line 3 (codes "unknown") refl ⨾ status 3 (codes "ALLOCATABLE") refl ⨾ close_list 3 ⨾ no_flags 3

abbrev pub pv_words : Pv → List Word → List Word
pv_words pv words =
    opening_words pv.name (text_words (codes "id") pv.id (pv_mark_words (number_words (codes "dev_size") pv.dev_size
    (number_words (codes "pe_start") pv.pe_start (number_words (codes "pe_count") pv.pe_count (word.Close ∷ words))))))

pv_piece : (pv : Pv) → IsPrintablePv pv → PvInRange pv → Piece (item 2) (pv_text pv) (pv_words pv) (item 2)
unfolding pv_text
pv_piece pv is fits =
    opening_piece 2 pv.name is.name.some is.name.bytes refl ⨾ text_piece 3 (codes "id") pv.id (omega arith) refl (plain_id pv.id is.id) ⨾ pv_mark_piece
    ⨾ number_piece 3 (codes "dev_size") pv.dev_size (omega arith) refl fits.dev_size ⨾ number_piece 3 (codes "pe_start") pv.pe_start (omega arith) refl fits.pe_start
    ⨾ number_piece 3 (codes "pe_count") pv.pe_count (omega arith) refl fits.pe_count ⨾ close_section 2

abbrev pub pvs_words : List Pv → List Word → List Word
pvs_words [] words = words
pvs_words (pv ∷ pvs) words = pv_words pv (pvs_words pvs words)

pvs_piece : (pvs : List Pv) → AllByRecursion IsPrintablePv pvs → AllByRecursion PvInRange pvs → Piece (item 2) (flat_map pv_text pvs) (pvs_words pvs) (item 2)
pvs_piece [] are fit = nothing (item 2)
pvs_piece (pv ∷ pvs) are fit = pv_piece pv are.0 fit.0 ⨾ pvs_piece pvs are.1 fit.1

-- ---- a segment

abbrev pub striped_words : List Word → List Word
striped_words words = text_words (codes "type") (codes "striped") (number_words (codes "stripe_count") 1 words)

striped_piece : Piece (item 4) striped_mark striped_words (item 4)
striped_piece =
    key 4 (codes "type") (omega arith) refl ⨾ string_line 4 (codes "striped") refl ⨾ key 4 (codes "stripe_count") (omega arith) refl ⨾ digit 4 1 (lit< tt)

abbrev pub stripes_words : SegmentKind → List Word → List Word
stripes_words (kind.Linear pv first) words =
    word.Name (codes "stripes") ∷ word.Equals ∷ word.ListOpen ∷ word.Text pv ∷ word.Comma ∷ word.Number (Some first) ∷ word.ListClose ∷ words
stripes_words kind.Other words = words

stripes_piece : (k : SegmentKind) → IsPrintableKind k → KindInRange k → Piece (item 4) (stripes_line k) (stripes_words k) (item 4)
unfolding stripes_line
stripes_piece (kind.Linear pv first) is fits =
    same_text (simp append_assoc) (key 4 (codes "stripes") (omega arith) refl ⨾ open_list 4 ⨾ first_string 4 pv (plain_name pv is) ⨾ comma 4 ⨾ last_number 4 first fits)
stripes_piece kind.Other is fits = absurd is

-- what stands in a segment's section, up to its end
abbrev pub segment_body : Segment → List Word → List Word
segment_body segment words =
    number_words (codes "start_extent") segment.start (number_words (codes "extent_count") segment.count
    (striped_words (stripes_words segment.kind (word.Close ∷ words))))

digits_in_name : (digits : List ℕ) → list_all is_digit digits ≡ true → list_all is_name_byte digits ≡ true
digits_in_name [] all = refl
digits_in_name (digit ∷ digits) all =
    let parts = and_parts (is_digit digit) (list_all is_digit digits) all in
    and_from (is_name_byte digit) (list_all is_name_byte digits)
    (or_left _ _ (or_left _ _ (or_left _ _ (or_left _ _ (or_right (is_letter digit) (is_digit digit) parts.0))))) (digits_in_name digits parts.1)

segment_piece : (n : ℕ) (segment : Segment) → n < 2 ^ 64 → IsPrintableSegment segment → SegmentInRange segment
    → Piece (item 3) (segment_text n segment) (λ ws. opening_words (segment_name n) (segment_body segment ws)) (item 3)
unfolding segment_text
segment_piece n segment small is fits =
    opening_piece 3 (segment_name n) (omega arith) (digits_in_name (decimal n) (all_digits n small)) refl
    ⨾ number_piece 4 (codes "start_extent") segment.start (omega arith) refl fits.start ⨾ number_piece 4 (codes "extent_count") segment.count (omega arith) refl fits.count
    ⨾ striped_piece ⨾ stripes_piece segment.kind is fits.kind ⨾ close_section 3

abbrev pub segments_words : ℕ → List Segment → List Word → List Word
segments_words n [] words = words
segments_words n (segment ∷ segments) words = opening_words (segment_name n) (segment_body segment (segments_words (n + 1) segments words))

segments_piece : (n : ℕ) (segments : List Segment) → n + length segments ≤ 2 ^ 64 → AllByRecursion IsPrintableSegment segments → AllByRecursion SegmentInRange segments
    → Piece (item 3) (segments_text n segments) (segments_words n segments) (item 3)
unfolding segments_text
segments_piece n [] few are fit = nothing (item 3)
segments_piece n (segment ∷ segments) few are fit =
    segment_piece n segment (omega arith) are.0 fit.0 ⨾ segments_piece (n + 1) segments (omega arith) are.1 fit.1

-- ---- a logical volume

abbrev pub lv_mark_words : List Word → List Word
lv_mark_words words =
    word.Name (codes "status") ∷ word.Equals ∷ word.ListOpen ∷ word.Text (codes "READ") ∷ word.Comma ∷ word.Text (codes "WRITE") ∷ word.Comma ∷ word.Text (codes "VISIBLE")
    ∷ word.ListClose ∷ word.Name (codes "flags") ∷ word.Equals ∷ word.ListOpen ∷ word.ListClose ∷ words

lv_mark_piece : Piece (item 3) lv_marks lv_mark_words (item 3)
lv_mark_piece = status 3 (codes "READ") refl ⨾ and_string 3 (codes "WRITE") refl ⨾ and_string 3 (codes "VISIBLE") refl ⨾ close_list 3 ⨾ no_flags 3

-- what stands in a logical volume's section, up to its end
abbrev pub lv_body : Lv → List Word → List Word
lv_body lv words =
    text_words (codes "id") lv.id (lv_mark_words (number_words (codes "segment_count") (length lv.segments) (segments_words 1 lv.segments (word.Close ∷ words))))

lv_piece : (lv : Lv) → IsPrintableLv lv → LvInRange lv → Piece (item 2) (lv_text lv) (λ ws. opening_words lv.name (lv_body lv ws)) (item 2)
unfolding lv_text
lv_piece lv is fits =
    opening_piece 2 lv.name is.name.some is.name.bytes refl ⨾ text_piece 3 (codes "id") lv.id (omega arith) refl (plain_id lv.id is.id) ⨾ lv_mark_piece
    ⨾ number_piece 3 (codes "segment_count") (length lv.segments) (omega arith) refl fits.count ⨾ segments_piece 1 lv.segments (omega (arith, fits.count)) is.segments fits.segments
    ⨾ close_section 2

abbrev pub lvs_words : List Lv → List Word → List Word
lvs_words [] words = words
lvs_words (lv ∷ lvs) words = opening_words lv.name (lv_body lv (lvs_words lvs words))

lvs_piece : (lvs : List Lv) → AllByRecursion IsPrintableLv lvs → AllByRecursion LvInRange lvs → Piece (item 2) (flat_map lv_text lvs) (lvs_words lvs) (item 2)
lvs_piece [] are fit = nothing (item 2)
lvs_piece (lv ∷ lvs) are fit = lv_piece lv are.0 fit.0 ⨾ lvs_piece lvs are.1 fit.1

-- ---- the group

abbrev pub group_mark_words : List Word → List Word
group_mark_words words =
    text_words (codes "format") (codes "lvm2") (word.Name (codes "status") ∷ word.Equals ∷ word.ListOpen ∷ word.Text (codes "RESIZEABLE") ∷ word.Comma ∷ word.Text (codes "READ")
    ∷ word.Comma ∷ word.Text (codes "WRITE") ∷ word.ListClose ∷ word.Name (codes "flags") ∷ word.Equals ∷ word.ListOpen ∷ word.ListClose ∷ words)

group_mark_piece : Piece (item 1) group_marks group_mark_words (item 1)
group_mark_piece =
    key 1 (codes "format") (omega arith) refl ⨾ string_line 1 (codes "lvm2") refl ⨾ status 1 (codes "RESIZEABLE") refl ⨾ and_string 1 (codes "READ") refl
    ⨾ and_string 1 (codes "WRITE") refl ⨾ close_list 1 ⨾ no_flags 1

abbrev pub limit_words : List Word → List Word
limit_words words =
    number_words (codes "max_lv") 0 (number_words (codes "max_pv") 0 (number_words (codes "metadata_copies") 0 words))

limit_piece : Piece (item 1) group_limits limit_words (item 1)
limit_piece =
    key 1 (codes "max_lv") (omega arith) refl ⨾ digit 1 0 (lit< tt) ⨾ key 1 (codes "max_pv") (omega arith) refl ⨾ digit 1 0 (lit< tt)
    ⨾ key 1 (codes "metadata_copies") (omega arith) refl ⨾ digit 1 0 (lit< tt)

-- what stands in the group's section up to its volumes
abbrev pub head_words : Group → List Word → List Word
head_words group words =
    text_words (codes "id") group.id (number_words (codes "seqno") group.seqno (group_mark_words (number_words (codes "extent_size") group.extent_size (limit_words words))))

head_piece : (group : Group) → IsPrintable group → InRange group → Piece (item 0) (group_head group) (λ ws. opening_words group.name (head_words group ws)) (item 1)
unfolding group_head
head_piece group is fits =
    opening_piece 0 group.name is.name.some is.name.bytes refl ⨾ text_piece 1 (codes "id") group.id (omega arith) refl (plain_id group.id is.id)
    ⨾ number_piece 1 (codes "seqno") group.seqno (omega arith) refl fits.seqno ⨾ group_mark_piece ⨾ number_piece 1 (codes "extent_size") group.extent_size (omega arith) refl fits.extent_size
    ⨾ limit_piece

-- what stands in the group's section
abbrev pub group_body : Group → List Word → List Word
group_body group words =
    head_words group (opening_words (codes "physical_volumes") (pvs_words group.pvs (word.Close
    ∷ opening_words (codes "logical_volumes") (lvs_words group.lvs (word.Close ∷ word.Close ∷ words)))))

group_piece : (group : Group) → IsPrintable group → InRange group
    → Piece (item 0) (group_head group ++ opening (codes "physical_volumes") ++ flat_map pv_text group.pvs ++ closing ++ opening (codes "logical_volumes") ++ flat_map lv_text group.lvs ++ closing ++ closing)
    (λ ws. opening_words group.name (group_body group ws)) (item 0)
group_piece group is fits =
    head_piece group is fits ⨾ opening_piece 1 (codes "physical_volumes") (omega arith) refl refl ⨾ pvs_piece group.pvs is.pvs fits.pvs ⨾ close_section 1
    ⨾ opening_piece 1 (codes "logical_volumes") (omega arith) refl refl ⨾ lvs_piece group.lvs is.lvs fits.lvs ⨾ close_section 1 ⨾ close_section 0

-- what stands behind the group
abbrev pub trailer_words : List Word
trailer_words = text_words (codes "contents") (codes "Text Format Volume Group") (number_words (codes "version") 1 [])

trailer_reads : Reads start trailer trailer_words
trailer_reads =
    let piece : Piece (item 0) (codes "contents = \"Text Format Volume Group\"\nversion = 1\n") (λ ws. text_words (codes "contents") (codes "Text Format Volume Group") (number_words (codes "version") 1 ws)) (item 0) =
    key 0 (codes "contents") (omega arith) refl ⨾ string_line 0 (codes "Text Format Volume Group") refl ⨾ key 0 (codes "version") (omega arith) refl ⨾ digit 0 1 (lit< tt)
    in piece.reads (0 ∷ []) [] ends

-- the words of the text
abbrev pub printed_words : Group → List Word
printed_words group = opening_words group.name (group_body group trailer_words)

pub printed_reads : (group : Group) → IsPrintable group → InRange group → words_of (printed group) ≡ Ok (printed_words group)
unfolding printed
printed_reads group is fits =
    ((group_piece group is fits).reads trailer trailer_words trailer_reads).by_bound (length (printed group) + 1) (omega arith)

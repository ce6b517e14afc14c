-- The words of a group's text tell that group.
use Rattle.std.proofs.Common.{◌≡◌, ℕ, ◌+◌, ◌≤◌, ◌<◌, ◌^◌, true, false, List, [], ◌∷◌, ◌++◌, length, codes, decimal, Option, Some, Result, Ok, refl, sym, ap, ◌∙◌, arith, eqb, append_assoc, ne_eqb}
use Rattle.std.proofs.lemmas.Bool.{and_left, and_parts, both_ways, cond-false, cond-true, false_from_ne_true}
use Rattle.std.proofs.lemmas.Fmt.{decimal_injective}
use Rattle.std.proofs.lemmas.List.{length-append}
use Rattle.std.proofs.lemmas.Slice.Eq.{bytes_eq-Decides}
use Rattle.std.specs.List.{AllByRecursion, list_all}
use Rattle.std.specs.Prelude.{bytes_eq}
use Rattle.lvm_text.specs.declared.words.Word.{Word}
use Rattle.lvm_text.specs.declared.words.Word.TheVariants as word
use Rattle.lvm_text.specs.declared.group.Key.TheVariants as key
use Rattle.lvm_text.specs.declared.group.TextFault.{TextFault}
use Rattle.lvm_text.specs.declared.group.SegmentKind.{SegmentKind}
use Rattle.lvm_text.specs.declared.group.SegmentKind.TheVariants as kind
use Rattle.lvm_text.specs.declared.group.Segment.{Segment}
use Rattle.lvm_text.specs.declared.group.Pv.{Pv}
use Rattle.lvm_text.specs.declared.group.Lv.{Lv}
use Rattle.lvm_text.specs.declared.group.Group.{Group}
use Rattle.lvm_text.specs.Words.{is_digit}
use Rattle.lvm_text.specs.Group.{◌>>=◌, each_at, found, found_at, group_at, group_in, group_of, kind_at, logical_volumes, lv_at, lvs_in, name_of, number_at, number_in, numbered, pv_at, required, section_at, section_in, segment_at, segment_name, segment_numbered, segments_at, stripe_in, text_at, text_in, told, with_first}
use Rattle.lvm_text.specs.Printed.{IsPrintable, IsPrintableKind, IsPrintableLv, IsPrintableSegment, InRange, LvInRange, printed}
use Rattle.lvm_text.proofs.Lexing.{all_digits}
use Rattle.lvm_text.proofs.Lines.{group_body, lv_body, lvs_words, printed_reads, pvs_words, segment_body, segments_words, stripes_words, trailer_words}

-- ---- physical volumes

pvs_told : (pvs : List Pv) (words : List Word) → each_at pv_at 0 (pvs_words pvs (word.Close ∷ words)) ≡ Ok pvs
unfolding each_at section_in pv_at text_at text_in number_at number_in found_at name_of
pvs_told [] words = refl
pvs_told (pv ∷ pvs) words = ap (with_first pv) (pvs_told pvs words)

-- an item behind them isn't among them
past_pvs : (name : List ℕ) (pvs : List Pv) (words : List Word) → found_at name 1 (pvs_words pvs words) ≡ found_at name 1 words
unfolding found_at
past_pvs name [] words = refl
past_pvs name (pv ∷ pvs) words = past_pvs name pvs words

-- ---- segments

kind_told : (segment : Segment) (k : SegmentKind) (words : List Word) → IsPrintableKind k → kind_at (segment_body (record segment { kind = k }) words) ≡ k
unfolding kind_at found_at stripe_in
kind_told segment (kind.Linear pv first) words is = refl
kind_told segment kind.Other words is = absurd is

segment_told : (segment : Segment) (words : List Word) → IsPrintableSegment segment → segment_at (segment_body segment words) ≡ Ok segment
unfolding segment_at number_at number_in found_at name_of
segment_told segment words is =
    let with_kind : SegmentKind → Result Segment TextFault = λ k. Ok (record segment { kind = k }) in
    ap with_kind (kind_told segment segment.kind words is)

same_name : (name : List ℕ) → bytes_eq name name ≡ true
same_name name = (bytes_eq-Decides name name).1 refl

-- segments of other numbers have other names
other_name : (m n : ℕ) → m < 2 ^ 64 → n < 2 ^ 64 → (m ≡ n → ⊥) → bytes_eq (segment_name m) (segment_name n) ≡ false
other_name m n m_fits n_fits differ =
    false_from_ne_true (bytes_eq (decimal m) (decimal n)) (λ (same : bytes_eq (decimal m) (decimal n) ≡ true). differ (decimal_injective m n m_fits n_fits ((bytes_eq-Decides (decimal m) (decimal n)).0 same)))

no_digit : (rest digits : List ℕ) → list_all is_digit digits ≡ true → bytes_eq (95 ∷ rest) digits ≡ false
no_digit rest [] all = refl
no_digit rest (digit ∷ digits) all =
    let parts = and_parts (is_digit digit) (list_all is_digit digits) all in
    and_left (eqb 95 digit) (bytes_eq rest digits) (ne_eqb 95 digit (λ (e : 95 ≡ digit). both_ways (is_digit digit) (ap is_digit (sym e)) parts.0))

-- nor has their count one of theirs
count_name : (n : ℕ) → n < 2 ^ 64 → bytes_eq (codes "segment_count") (segment_name n) ≡ false
count_name n fits = no_digit (codes "count") (decimal n) (all_digits n fits)

past_stripes : (name : List ℕ) (k : SegmentKind) (words : List Word) → found_at name 1 (stripes_words k words) ≡ found_at name 1 words
unfolding found_at
past_stripes name (kind.Linear pv first) words = refl
past_stripes name kind.Other words = refl

past_segment : (name : List ℕ) (segment : Segment) (words : List Word) → found_at name 0 (word.Open ∷ segment_body segment words) ≡ found_at name 0 words
unfolding found_at
past_segment name segment words = past_stripes name segment.kind (word.Close ∷ words)

-- a segment is found by its number
segment_found : (front : List Segment) (segment : Segment) (back : List Segment) (m n : ℕ) (words : List Word) → n ≡ m + length front → n < 2 ^ 64
    → found_at (segment_name n) 0 (segments_words m (front ++ segment ∷ back) words) ≡ Some (word.Open ∷ segment_body segment (segments_words (n + 1) back words))
unfolding found_at
segment_found [] segment back m n words place fits =
    let e : m ≡ n = omega arith in
    rw e (cond-true (bytes_eq (segment_name n) (segment_name n)) _ _ (same_name (segment_name n)))
segment_found (first ∷ front) segment back m n words place fits =
    cond-false (bytes_eq (segment_name m) (segment_name n)) _ _ (other_name m n (omega arith) fits (λ (e : m ≡ n). absurd (omega arith)))
    ∙ past_segment (segment_name n) first (segments_words (m + 1) (front ++ segment ∷ back) words)
    ∙ segment_found front segment back (m + 1) n words (omega arith) fits

-- nothing before the segments has one's name
past_head : (lv : Lv) (words : List Word) (n : ℕ) → n < 2 ^ 64 → found (segment_name n) (lv_body lv words) ≡ found (segment_name n) (segments_words 1 lv.segments (word.Close ∷ words))
unfolding found_at
past_head lv words n fits = cond-false (bytes_eq (codes "segment_count") (segment_name n)) _ _ (count_name n fits)

segment_read : (lv : Lv) (words : List Word) (front : List Segment) (segment : Segment) (back : List Segment) (n : ℕ) → lv.segments ≡ front ++ segment ∷ back → n ≡ length front + 1 → n < 2 ^ 64 → IsPrintableSegment segment
    → segment_numbered n (lv_body lv words) ≡ Ok segment
unfolding segment_numbered numbered section_in
segment_read lv words front segment back n are place fits is =
    let at_number : found (segment_name n) (lv_body lv words) ≡ Some (word.Open ∷ segment_body segment (segments_words (n + 1) back (word.Close ∷ words))) =
    past_head lv words n fits ∙ ap (λ (segments : List Segment). found (segment_name n) (segments_words 1 segments (word.Close ∷ words))) are
    ∙ segment_found front segment back 1 n (word.Close ∷ words) (omega arith) fits in
    ap (λ (o : Option (List Word)). required key.SegmentCount (section_in o) >>= segment_at) at_number
    ∙ segment_told segment (segments_words (n + 1) back (word.Close ∷ words)) is

segments_told : (lv : Lv) (words : List Word) (front back : List Segment) (n : ℕ) → lv.segments ≡ front ++ back → n ≡ length front + 1 → n + length back ≤ 2 ^ 64 → AllByRecursion IsPrintableSegment back
    → segments_at (length back) n (lv_body lv words) ≡ Ok back
unfolding segments_at
segments_told lv words front [] n are place few is = refl
segments_told lv words front (segment ∷ back) n are place few is =
    let longer : n + 1 ≡ length (front ++ segment ∷ []) + 1 = omega (arith, length-append front (segment ∷ [])) in
    let here : segment_numbered n (lv_body lv words) ≡ Ok segment = segment_read lv words front segment back n are place (omega arith) is.0 in
    let others : segments_at (length back) (n + 1) (lv_body lv words) ≡ Ok back =
    segments_told lv words (front ++ segment ∷ []) back (n + 1) (are ∙ sym (append_assoc front (segment ∷ []) back)) longer (omega arith) is.1 in
    ap (λ (r : Result Segment TextFault). r >>= (λ (s : Segment). with_first s (segments_at (length back) (n + 1) (lv_body lv words)))) here
    ∙ ap (with_first segment) others

-- ---- logical volumes

lv_told : (lv : Lv) (words : List Word) → IsPrintableLv lv → length lv.segments < 2 ^ 64 → lv_at lv.name (lv_body lv words) ≡ Ok lv
unfolding lv_at text_at text_in number_at number_in found_at name_of
lv_told lv words is fits =
    let with_segments : List Segment → Result Lv TextFault = λ segments. Ok (record lv { segments = segments }) in
    ap (λ (r : Result (List Segment) TextFault). r >>= with_segments) (segments_told lv words [] lv.segments 1 refl refl (omega arith) is.segments)

past_each_stripes : (read : List ℕ → List Word → Result Lv TextFault) (k : SegmentKind) (words : List Word) → each_at read 2 (stripes_words k words) ≡ each_at read 2 words
unfolding each_at
past_each_stripes read (kind.Linear pv first) words = refl
past_each_stripes read kind.Other words = refl

-- segments are no logical volumes
past_segments : (read : List ℕ → List Word → Result Lv TextFault) (n : ℕ) (segments : List Segment) (words : List Word) → each_at read 1 (segments_words n segments words) ≡ each_at read 1 words
unfolding each_at
past_segments read n [] words = refl
past_segments read n (segment ∷ segments) words =
    past_each_stripes read segment.kind (word.Close ∷ segments_words (n + 1) segments words) ∙ past_segments read (n + 1) segments words

lvs_told : (lvs : List Lv) (words : List Word) → AllByRecursion IsPrintableLv lvs → AllByRecursion LvInRange lvs → each_at lv_at 0 (lvs_words lvs (word.Close ∷ words)) ≡ Ok lvs
unfolding each_at section_in
lvs_told [] words are fit = refl
lvs_told (lv ∷ lvs) words are fit =
    let behind : List Word = lvs_words lvs (word.Close ∷ words) in
    let others : each_at lv_at 1 (segments_words 1 lv.segments (word.Close ∷ behind)) ≡ Ok lvs = past_segments lv_at 1 lv.segments (word.Close ∷ behind) ∙ lvs_told lvs words are.1 fit.1 in
    ap (λ (r : Result Lv TextFault). r >>= (λ (x : Lv). with_first x (each_at lv_at 1 (segments_words 1 lv.segments (word.Close ∷ behind))))) (lv_told lv behind are.0 (fit.0).count)
    ∙ ap (with_first lv) others

-- ---- the group

lvs_found : (group : Group) (words : List Word) → logical_volumes (group_body group words) ≡ Some (lvs_words group.lvs (word.Close ∷ word.Close ∷ words))
unfolding logical_volumes found_at section_in
lvs_found group words =
    ap section_in (past_pvs (codes "logical_volumes") group.pvs (word.Close ∷ word.Name (codes "logical_volumes") ∷ word.Open ∷ lvs_words group.lvs (word.Close ∷ word.Close ∷ words)))

group_told : (group : Group) (words : List Word) → IsPrintable group → InRange group → group_at group.name (group_body group words) ≡ Ok group
unfolding group_at text_at text_in number_at number_in section_at section_in found_at name_of
group_told group words is fits =
    let volumes : lvs_in (logical_volumes (group_body group words)) ≡ Ok group.lvs =
    ap lvs_in (lvs_found group words) ∙ lvs_told group.lvs (word.Close ∷ words) is.lvs fits.lvs in
    let with_lvs : List Pv → List Lv → Result Group TextFault = λ pvs lvs. Ok (record group { pvs = pvs; lvs = lvs }) in
    ap (λ (r : Result (List Pv) TextFault). r >>= (λ (pvs : List Pv). lvs_in (logical_volumes (group_body group words)) >>= with_lvs pvs))
    (pvs_told group.pvs (word.Name (codes "logical_volumes") ∷ word.Open ∷ lvs_words group.lvs (word.Close ∷ word.Close ∷ words)))
    ∙ ap (λ (r : Result (List Lv) TextFault). r >>= with_lvs group.pvs) volumes

-- what is printed tells the group
pub reads_back : (group : Group) → IsPrintable group → InRange group → group_of (printed group) ≡ Ok group
unfolding group_in section_in
reads_back group is fits =
    ap (told (length (printed group))) (printed_reads group is fits) ∙ group_told group trailer_words is fits

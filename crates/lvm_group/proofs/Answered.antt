-- The answer of an opening, by the parts of its arrays.
use Rattle.std.proofs.Common.{◌≡◌, ℕ, zero, suc, ◌+◌, ◌<◌, ◌≤◌, ◌^◌, ◌==◌, ◌&&◌, ◌||◌, Bool, true, false, List, [], ◌∷◌, Option, Some, None, Result, Ok, Err, refl, sym, ap, subst, ◌∙◌, inl, inr, arith, length, map, drop}
use Rattle.std.specs.Prelude.{slice_get, nat_lt, slice_index, slice_index_or, not, is_some, IfOk, IfErr, IfSome}
use Rattle.std.specs.Option.{option_map_or}
use Rattle.std.specs.List.{find, list_all, range_with_len}
use Rattle.std.proofs.lemmas.List.FromFn.{get_or-map-range_with_len}
use Rattle.std.proofs.lemmas.Nat.{mul-le}
use Rattle.std.proofs.lemmas.Option.{slice_get-get_or}
use Rattle.std.proofs.lemmas.Bool.{cases_lt, lt-ltb, le-ltb, ltb-true}
use Rattle.rack.specs.Seen.{Image, RackView, Rose}
use Rattle.lvm_text.specs.declared.group.Pv.{Pv}
use Rattle.lvm_text.specs.declared.group.Group.{Group}
use Rattle.lvm_group.specs.declared.parts.Part.{Part}
use Rattle.lvm_group.specs.declared.runs.Run.{Run}
use Rattle.lvm_group.specs.Runs.{IsOrderly, Linear, extents_of}
use Rattle.lvm_group.specs.Own.{in_row}
use Rattle.lvm_group.specs.Shown.{IsInside, total}
use Rattle.lvm_group.proofs.Counted.{no_more_sectors}
use Rattle.lvm_group.proofs.OwnGroup.{own_apart, own_few, own_inside, own_numbered, own_orderly, own_row}
use Rattle.lvm_group.specs.Ids.{array_named}
use Rattle.lvm_group.specs.Parts.{Array, has_bad_text, part_from, part_of}
use Rattle.lvm_group.specs.Reading.{IsRead, IsTextOf, held_on}
use Rattle.lvm_group.specs.Found.{IsPart}
use Rattle.lvm_group.specs.Group.{ahead, all_apart, first_bad, group_in, has_own_head, has_own_label, highest, names_array, pv_of, is_bad, is_bad_by, is_only_lv, is_own_group, is_pv, is_pv_of, differ, linear_in, parts_in}
use Rattle.lvm_group.specs.declared.volume.VolumeFault.{VolumeFault}
use Rattle.lvm_group.specs.declared.volume.VolumeFault.TheVariants as fault
use Rattle.lvm_group.specs.Opening.{AreNow, AreServed, Finds, HasFault, HasRuns, IsUnopened, Opens, WereRead, first_bad_among, first_bad_with, group_by, is_bad_with, says, within_sectors}
use Rattle.lvm_group.proofs.OwnText.{length_map, range_at}
use Rattle.lvm_group.proofs.Written.{mapped_at, range_long}

-- the first of some groups
pub highest_first : (o : Option Group) (others : List (Option Group)) → highest (o ∷ others) ≡ option_map_or (λ g. ahead g (highest others)) o (highest others)
unfolding highest
highest_first None others = refl
highest_first (Some g) others = refl

-- the elements from a place on
pub dropped_from : {X : Type 0} (xs : List X) (i : ℕ) (x : X) → slice_get xs i ≡ Some x → drop i xs ≡ x ∷ drop (suc i) xs
dropped_from [] i x at = cc
dropped_from (y ∷ ys) zero x at = cc
dropped_from (y ∷ ys) (suc i) x at = dropped_from ys i x at

pub all_dropped : {X : Type 0} (xs : List X) (n : ℕ) → length xs ≤ n → drop n xs ≡ []
all_dropped [] zero over = refl
all_dropped [] (suc n) over = refl
all_dropped (x ∷ xs) zero over = absurd (omega arith)
all_dropped (x ∷ xs) (suc n) over = all_dropped xs n (omega arith)

-- an element that was taken by its number
pub got_at : {X : Type 0} (xs : List X) (i : ℕ) (x : X) → i < length xs → x ≡ slice_index_or xs i x → slice_get xs i ≡ Some x
got_at xs i x below is = slice_get-get_or xs i x below ∙ ap (λ y. Some y) (sym is)

-- ---- bad arrays

or_nothing : (b c : Bool) → (b || (c && false)) ≡ b
or_nothing true c = refl
or_nothing false true = refl
or_nothing false false = refl

find_same : (p q : ℕ → Bool) (xs : List ℕ) → ((i x : ℕ) → slice_get xs i ≡ Some x → p x ≡ q x) → find p xs ≡ find q xs
find_same p q [] same = refl
find_same p q (x ∷ xs) same = rw (same 0 x refl, find_same p q xs (λ i y at. same (suc i) y at)) refl

-- with a group that is the pool's
own_bad : (pool : List ℕ) (pvs : List Pv) (array : ℕ) (o : Option Part)
    → option_map_or (λ (part : Part). has_bad_text part || ((is_some (pv_of pvs array) && not (has_own_label pool array part)) || ((array == 0) && false))) o false
    ≡ option_map_or (is_bad_with pool pvs array) o false
own_bad pool pvs array None = refl
own_bad pool pvs array (Some part) = ap (λ b. has_bad_text part || b) (or_nothing (is_some (pv_of pvs array) && not (has_own_label pool array part)) (array == 0))

pub bad_with_group : (pool : List ℕ) (extent : ℕ) (sectors : ℕ → ℕ) (parts : List Part) (g : Group) → group_by parts ≡ Some g → is_own_group pool extent sectors (length parts) g ≡ true
    → first_bad_among pool extent sectors parts ≡ first_bad_with pool g.pvs parts
bad_with_group pool extent sectors parts g found own =
    ap (λ (group : Option Group). find (λ array. option_map_or (is_bad_by pool extent sectors (length parts) group array) (slice_get parts array) false) (range_with_len 0 (length parts))) found
    ∙ ap (λ (b : Bool). find (λ array. option_map_or (λ (part : Part). has_bad_text part || ((is_some (pv_of g.pvs array) && not (has_own_label pool array part)) || ((array == 0) && not b))) (slice_get parts array) false)
    (range_with_len 0 (length parts))) own
    ∙ find_same (λ array. option_map_or (λ (part : Part). has_bad_text part || ((is_some (pv_of g.pvs array) && not (has_own_label pool array part)) || ((array == 0) && false))) (slice_get parts array) false)
    (λ array. option_map_or (is_bad_with pool g.pvs array) (slice_get parts array) false) (range_with_len 0 (length parts)) (λ i array at. own_bad pool g.pvs array (slice_get parts array))

-- the first array is bad where there is none
or_true : (b : Bool) → (b || true) ≡ true
or_true true = refl
or_true false = refl

pub first_is_bad : (pool : List ℕ) (extent : ℕ) (sectors : ℕ → ℕ) (parts : List Part) (o : Option Group) → 0 < length parts → group_by parts ≡ o → option_map_or (is_own_group pool extent sectors (length parts)) o false ≡ false
    → first_bad_among pool extent sectors parts ≡ Some 0
first_is_bad pool extent sectors [] o some found other = absurd (omega arith)
first_is_bad pool extent sectors (part ∷ others) o some found other =
    let bad : is_bad_by pool extent sectors (length (part ∷ others)) o 0 part ≡ true =
    ap (λ b. has_bad_text part || ((option_map_or (λ g. names_array g 0) o false && not (has_own_label pool 0 part)) || not b)) other
    ∙ ap (λ b. has_bad_text part || b) (or_true (option_map_or (λ g. names_array g 0) o false && not (has_own_label pool 0 part))) ∙ or_true (has_bad_text part) in
    ap (λ (group : Option Group). find (λ array. option_map_or (is_bad_by pool extent sectors (length (part ∷ others)) group array) (slice_get (part ∷ others) array) false) (range_with_len 0 (length (part ∷ others)))) found
    ∙ rw bad refl

-- ---- the arrays' sectors count below the number of arrays alone

pv_of_same : (pool : List ℕ) (extent joined : ℕ) (f h : ℕ → ℕ) (pv : Pv) (array : ℕ) → ((i : ℕ) → i < joined → f i ≡ h i) → is_pv_of pool extent f joined pv array ≡ is_pv_of pool extent h joined pv array
pv_of_same pool extent joined f h pv array same = go (nat_lt array joined) refl where
  go : (test : Bool) → nat_lt array joined ≡ test → is_pv_of pool extent f joined pv array ≡ is_pv_of pool extent h joined pv array
  go true is = rw (same array (ltb-true array joined is)) refl
  go false is = rw is refl

pv_same : (pool : List ℕ) (extent joined : ℕ) (f h : ℕ → ℕ) (pv : Pv) → ((i : ℕ) → i < joined → f i ≡ h i) → is_pv pool extent f joined pv ≡ is_pv pool extent h joined pv
pv_same pool extent joined f h pv same = go (array_named pv.name) where
  go : (o : Option ℕ) → option_map_or (is_pv_of pool extent f joined pv) o false ≡ option_map_or (is_pv_of pool extent h joined pv) o false
  go None = refl
  go (Some array) = pv_of_same pool extent joined f h pv array same

pub own_same : (pool : List ℕ) (extent joined : ℕ) (f h : ℕ → ℕ) (g : Group) → ((i : ℕ) → i < joined → f i ≡ h i) → is_own_group pool extent f joined g ≡ is_own_group pool extent h joined g
own_same pool extent joined f h g same =
    let each : (λ (pv : Pv). is_pv pool extent f joined pv) ≡ (λ (pv : Pv). is_pv pool extent h joined pv) = λ i pv. pv_same pool extent joined f h pv same i in
    ap (λ (test : Pv → Bool). has_own_head pool extent g && (list_all test g.pvs && (differ g.pvs && is_only_lv pool g.pvs g.lvs))) each

pub bad_same : (pool : List ℕ) (extent : ℕ) (f h : ℕ → ℕ) (parts : List Part) → ((i : ℕ) → i < length parts → f i ≡ h i) → first_bad_among pool extent f parts ≡ first_bad_among pool extent h parts
bad_same pool extent f h parts same =
    let each : (λ (g : Group). is_own_group pool extent f (length parts) g) ≡ (λ (g : Group). is_own_group pool extent h (length parts) g) = λ i g. own_same pool extent (length parts) f h g same i in
    ap (λ (test : Group → Bool). find (λ array. option_map_or (λ (part : Part). has_bad_text part
    || ((option_map_or (λ g. names_array g array) (group_by parts) false && not (has_own_label pool array part)) || ((array == 0) && not (option_map_or test (group_by parts) false))))
    (slice_get parts array) false) (range_with_len 0 (length parts))) each

pub runs_same : (pool : List ℕ) (extent : ℕ) (f h : ℕ → ℕ) (parts : List Part) (l : Linear) (seqno : ℕ) → ((i : ℕ) → i < length parts → f i ≡ h i) → HasRuns pool extent f parts l seqno → HasRuns pool extent h parts l seqno
runs_same pool extent f h parts l seqno same has = record {
  group = has.group;
  found = has.found;
  own = sym (own_same pool extent (length parts) f h has.group same) ∙ has.own;
  sound = sym (bad_same pool extent f h parts same) ∙ has.sound;
  volume = has.volume;
  numbered = has.numbered;
}

-- ---- lists

pub mapped_to : {X Y : Type 0} (f : X → Y) (xs : List X) (i : ℕ) (x : X) → slice_get xs i ≡ Some x → slice_get (map f xs) i ≡ Some (f x)
mapped_to f [] i x at = cc
mapped_to f (y ∷ ys) zero x at = cc
mapped_to f (y ∷ ys) (suc i) x at = mapped_to f ys i x at

-- ---- where nothing was refused

-- a sector that was read is the one that stands there
served_sector : {a b : RackView} (array : ℕ) (now : Array) (s : ℕ) (bytes : List ℕ) → (Rose (a.faults array) (b.faults array) → ⊥) → IsRead a b array now s bytes → bytes ≡ held_on a array now s
served_sector {a} {b} array now s bytes served is = elim (cases_lt s (a.sectors array)) [
  | inl inside ↦ elim (is.within inside) [
    | inl same ↦ rw (lt-ltb s (a.sectors array) inside) same
    | inr none ↦ absurd (served none.1)
  ]
  | inr past ↦ rw (le-ltb s (a.sectors array) past) (is.past past)
]

served_part : {a b : RackView} (array : ℕ) (now : Array) (part : Part) → (Rose (a.faults array) (b.faults array) → ⊥) → IsPart a b array now part → part ≡ part_of (held_on a array now) (a.sectors array)
served_part {a} {b} array now part served is =
    let labels : is.labels ≡ held_on a array now = λ i s. served_sector array now s (is.labels s) served (is.labels_read s) i in
    let headers : is.headers ≡ held_on a array now = λ i s. served_sector array now s (is.headers s) served (is.headers_read s) i in
    let texts : is.texts ≡ held_on a array now = λ i s. served_sector array now s (is.texts s) served (is.texts_read s) i in
    is.is ∙ (λ i. part_from (labels i) (headers i) (texts i) (a.sectors array))

-- lists that have the same elements
same_lists : {X : Type 0} (xs ys : List X) → length xs ≡ length ys → ((i : ℕ) (y : X) → slice_get ys i ≡ Some y → slice_get xs i ≡ Some y) → xs ≡ ys
same_lists [] [] long each = refl
same_lists [] (y ∷ ys) long each = absurd (omega arith)
same_lists (x ∷ xs) [] long each = absurd (omega arith)
same_lists (x ∷ xs) (y ∷ ys) long each =
    let first : x ≡ y = let is : Some x ≡ Some y = each 0 y refl in cc in
    rw (first, same_lists xs ys (omega arith) (λ i z at. each (suc i) z at)) refl

pub range_place : (from count i x : ℕ) → slice_get (range_with_len from count) i ≡ Some x → (x ≡ from + i) × (x < from + count)
range_place from zero i x at = cc
range_place from (suc count) zero x at = let same : from ≡ x = cc in (omega arith, omega arith)
range_place from (suc count) (suc i) x at = let rest = range_place (from + 1) count i x at in let one = rest.0 in let two = rest.1 in (omega arith, omega arith)

pub parts_are : {a b : RackView} (joined : ℕ) (parts : List Part) (c : Image) → AreServed a b joined → AreNow a joined c → WereRead a b joined parts → parts ≡ parts_in (within_sectors a c) a.sectors joined
parts_are {a} {b} joined parts c served now read =
    let arrays = range_with_len 0 joined in
    same_lists parts (parts_in (within_sectors a c) a.sectors joined) (read.count ∙ sym (length_map (λ array. part_of (held_on a array (c array)) (a.sectors array)) arrays ∙ range_long 0 joined))
    (λ i y at.
    let array = mapped_at (λ array. part_of (held_on a array (c array)) (a.sectors array)) arrays i y at in
    let place = range_place 0 joined i array.0 array.1 in
    let here = place.0 in
    let most = place.1 in
    let below : array.0 < joined = omega arith in
    let index : i ≡ array.0 = omega arith in
    let found = read.are array.0 (c array.0) below (now array.0 below) in
    let same = served_part array.0 (c array.0) found.0 (served array.0 below) found.2 in
    ap (slice_get parts) index ∙ found.1 ∙ ap (λ (p : Part). Some p) (same ∙ sym array.2))

-- ---- an opening

pub part_at_place : (c : Image) (sectors : ℕ → ℕ) (joined array : ℕ) → array < joined → slice_get (parts_in c sectors joined) array ≡ Some (part_of (c array) (sectors array))
part_at_place c sectors joined array below = mapped_to (λ n. part_of (c n) (sectors n)) (range_with_len 0 joined) array array (range_at joined array below)

bad_of_parts : (pool : List ℕ) (extent : ℕ) (sectors : ℕ → ℕ) (joined : ℕ) (c : Image) → first_bad_among pool extent sectors (parts_in c sectors joined) ≡ first_bad pool extent sectors joined c
unfolding first_bad
bad_of_parts pool extent sectors joined c =
    let long : length (parts_in c sectors joined) ≡ joined = length_map (λ array. part_of (c array) (sectors array)) (range_with_len 0 joined) ∙ range_long 0 joined in
    ap (λ n. find (λ array. option_map_or (is_bad_by pool extent sectors n (group_in c sectors joined) array) (slice_get (parts_in c sectors joined) array) false) (range_with_len 0 n)) long
    ∙ find_same (λ array. option_map_or (is_bad_by pool extent sectors joined (group_in c sectors joined) array) (slice_get (parts_in c sectors joined) array) false) (is_bad pool extent sectors joined c) (range_with_len 0 joined)
    (λ i array at.
    let most = (range_place 0 joined i array at).1 in
    let below : array < joined = omega arith in
    ap (λ (o : Option Part). option_map_or (is_bad_by pool extent sectors joined (group_in c sectors joined) array) o false) (part_at_place c sectors joined array below))

pub bad_by_contents : {a b : RackView} (pool : List ℕ) (extent joined : ℕ) (parts : List Part) (c : Image) → AreServed a b joined → AreNow a joined c → WereRead a b joined parts
    → first_bad pool extent a.sectors joined (within_sectors a c) ≡ first_bad_among pool extent a.sectors parts
bad_by_contents {a} {b} pool extent joined parts c served now read =
    sym (bad_of_parts pool extent a.sectors joined (within_sectors a c)) ∙ ap (first_bad_among pool extent a.sectors) (sym (parts_are joined parts c served now read))

pub opens_by : {a b : RackView} (pool : List ℕ) (extent joined : ℕ) (sizes : List ℕ) (parts : List Part) (l : Linear) (seqno : ℕ) → sizes ≡ map a.sectors (range_with_len 0 joined) → WereRead a b joined parts
    → HasRuns pool extent (slice_index sizes) parts l seqno → Opens pool extent joined a b l seqno
opens_by {a} {b} pool extent joined sizes parts l seqno sizes_are read has =
    let count = read.count in
    let runs = runs_same pool extent (slice_index sizes) a.sectors parts l seqno (λ i below. ap (λ (xs : List ℕ). slice_index xs i) sizes_are ∙ get_or-map-range_with_len a.sectors 0 joined i i 0 (omega arith) (omega arith)) has in
    record {
      parts = parts;
      read = read;
      runs = runs;
      means = λ c served now. record {
        group = runs.group;
        found = ap group_by (sym (parts_are joined parts c served now read)) ∙ runs.found;
        own = subst (λ n. is_own_group pool extent a.sectors n runs.group ≡ true) count runs.own;
        sound = bad_by_contents pool extent joined parts c served now read ∙ runs.sound;
        volume = runs.volume ∙ ap (λ n. linear_in n runs.group) count;
        numbered = runs.numbered;
      };
    }

pub refused_by : {a b : RackView} (pool : List ℕ) (extent joined : ℕ) (sizes : List ℕ) (parts : List Part) (why : VolumeFault) → sizes ≡ map a.sectors (range_with_len 0 joined) → WereRead a b joined parts
    → HasFault pool extent (slice_index sizes) parts why → IsUnopened pool extent joined a b why
refused_by {a} {b} pool extent joined sizes parts fault.Memory sizes_are read has = tt
refused_by {a} {b} pool extent joined sizes parts (fault.BadVolume array) sizes_are read has =
    let count = read.count in
    let bad = sym (bad_same pool extent (slice_index sizes) a.sectors parts (λ i below. ap (λ (xs : List ℕ). slice_index xs i) sizes_are ∙ get_or-map-range_with_len a.sectors 0 joined i i 0 (omega arith) (omega arith))) ∙ has in
    record { parts = parts; read = read; bad = bad; bad_in = λ c served now. bad_by_contents pool extent joined parts c served now read ∙ bad }

-- with the text of its group
pub finds_result : {a b : RackView} {V : Type 0} (pool : List ℕ) (extent joined : ℕ) (sizes : List ℕ) (parts : List Part) (items : V → List Run) (number : V → ℕ) (even : V → Bool) (text : List ℕ) (result : Result V VolumeFault)
    → sizes ≡ map a.sectors (range_with_len 0 joined) → WereRead a b joined parts → IfSome (group_by parts) (IsTextOf text)
    → IfOk result (λ (v : V). HasRuns pool extent (slice_index sizes) parts (record { extent = extent; arrays = length parts; runs = items v }) (number v))
    → IfOk result (λ (v : V). even v ≡ list_all (says (number v)) parts)
    → IfOk result (λ (v : V). Finds pool extent joined a b (record { extent = extent; arrays = joined; runs = items v }) (number v) (even v) text)
unfolding opens_by
finds_result {a} {b} pool extent joined sizes parts items number even text (Ok v) sizes_are read said has all =
    let opens = opens_by pool extent joined sizes parts (record { extent = extent; arrays = joined; runs = items v }) (number v) sizes_are read
    (subst (λ n. HasRuns pool extent (slice_index sizes) parts (record { extent = extent; arrays = n; runs = items v }) (number v)) read.count has) in
    record { opens = opens; kept = subst (λ (o : Option Group). IfSome o (IsTextOf text)) opens.runs.found said; all = all }
finds_result pool extent joined sizes parts items number even text (Err why) sizes_are read said has all = tt

pub refused_result : {a b : RackView} {V : Type 0} (pool : List ℕ) (extent joined : ℕ) (sizes : List ℕ) (parts : List Part) (result : Result V VolumeFault) → sizes ≡ map a.sectors (range_with_len 0 joined)
    → WereRead a b joined parts → IfErr result (HasFault pool extent (slice_index sizes) parts) → IfErr result (IsUnopened pool extent joined a b)
refused_result pool extent joined sizes parts (Ok v) sizes_are read has = tt
refused_result pool extent joined sizes parts (Err why) sizes_are read has = refused_by pool extent joined sizes parts why sizes_are read has

-- ---- the volume

pub opened_orderly : {a b : RackView} (pool : List ℕ) (extent joined : ℕ) (l : Linear) (seqno : ℕ) → 0 < extent → Opens pool extent joined a b l seqno → IsOrderly l
opened_orderly {a} {b} pool extent joined l seqno some is =
    subst IsOrderly (sym is.runs.volume) (own_orderly pool extent (length is.parts) a.sectors is.runs.group some is.runs.own)

pub opened_inside : {a b : RackView} (pool : List ℕ) (extent joined : ℕ) (l : Linear) (seqno : ℕ) → joined ≤ a.disks → total a.sectors a.disks < 2 ^ 52 → Opens pool extent joined a b l seqno → IsInside l a
opened_inside {a} {b} pool extent joined l seqno arrays small is =
    let count = is.read.count in
    subst (λ (l : Linear). IsInside l a) (sym is.runs.volume) (own_inside pool extent (length is.parts) is.runs.group a is.runs.own (omega arith) small)

pub opened_few : {a b : RackView} (pool : List ℕ) (extent joined : ℕ) (l : Linear) (seqno : ℕ) → Opens pool extent joined a b l seqno → length l.runs ≤ 1024
opened_few {a} {b} pool extent joined l seqno is =
    subst (λ (l : Linear). length l.runs ≤ 1024) (sym is.runs.volume) (own_few pool extent (length is.parts) a.sectors is.runs.group is.runs.own)

pub opened_small : {a b : RackView} (pool : List ℕ) (extent joined : ℕ) (l : Linear) (seqno : ℕ) → 0 < extent → joined ≤ a.disks → total a.sectors a.disks < 2 ^ 52 → Opens pool extent joined a b l seqno → extents_of l.runs < 2 ^ 52
opened_small {a} {b} pool extent joined l seqno some arrays small is =
    let orderly = opened_orderly pool extent joined l seqno some is in
    let most = no_more_sectors l a orderly (opened_inside pool extent joined l seqno arrays small is) in
    let sized = orderly.sized in
    let grows = mul-le (extents_of l.runs) 1 (extents_of l.runs) l.extent (omega arith) (omega arith) in
    omega arith

pub opened_row : {a b : RackView} (pool : List ℕ) (extent joined : ℕ) (l : Linear) (seqno : ℕ) → Opens pool extent joined a b l seqno → in_row 0 l.runs ≡ true
opened_row {a} {b} pool extent joined l seqno is = subst (λ (l : Linear). in_row 0 l.runs ≡ true) (sym is.runs.volume) (own_row pool extent (length is.parts) a.sectors is.runs.group is.runs.own)

pub opened_apart : {a b : RackView} (pool : List ℕ) (extent joined : ℕ) (l : Linear) (seqno : ℕ) → Opens pool extent joined a b l seqno → all_apart l.runs ≡ true
opened_apart {a} {b} pool extent joined l seqno is = subst (λ (l : Linear). all_apart l.runs ≡ true) (sym is.runs.volume) (own_apart pool extent (length is.parts) a.sectors is.runs.group is.runs.own)

pub opened_numbered : {a b : RackView} (pool : List ℕ) (extent joined : ℕ) (l : Linear) (seqno : ℕ) → Opens pool extent joined a b l seqno → seqno < 2 ^ 63
opened_numbered {a} {b} pool extent joined l seqno is = rw is.runs.numbered (own_numbered pool extent (length is.parts) a.sectors is.runs.group is.runs.own)

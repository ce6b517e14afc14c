-- A new volume is what its arrays' contents mean once it has been made.
use Rattle.std.proofs.Common.{◌≡◌, ◌^◌, ℕ, ◌+◌, ◌*◌, ◌<◌, ◌≤◌, true, List, [], ◌∷◌, Some, Result, Ok, Err, refl, sym, ap, subst, ◌∙◌, inl, arith, length, map}
use Rattle.std.specs.Prelude.{OnOk, option_map, slice_index}
use Rattle.std.specs.List.{AllByRecursion, list_all, range_with_len}
use Rattle.std.proofs.lemmas.List.FromFn.{get_or-map-range_with_len}
use Rattle.std.proofs.lemmas.Bool.{le-leb}
use Rattle.lvm_label.specs.Label.{HaveLabelsDecoded, IsLabel}
use Rattle.lvm_label.specs.Header.{HaveHeadersDecoded, IsLocation}
use Rattle.lvm_text.specs.declared.group.Pv.{Pv}
use Rattle.lvm_text.specs.declared.group.Group.{Group}
use Rattle.lvm_text.specs.Group.{group_of}
use Rattle.rack.specs.declared.Gone.{Gone}
use Rattle.rack.specs.Seen.{Image, RackView}
use Rattle.lvm_group.specs.declared.runs.Run.{Run}
use Rattle.lvm_group.specs.declared.growth.Piece.{Piece}
use Rattle.lvm_group.specs.Runs.{IsOrderly, Linear, data_start, extents_of}
use Rattle.lvm_group.specs.Shown.{IsInside, contents_of, total}
use Rattle.lvm_group.specs.Sequences.{AreSingle, AreTold}
use Rattle.lvm_group.specs.Group.{linear_in, all_apart}
use Rattle.lvm_group.specs.Growth.{AreBelow, behind_runs, fits, grown, is_within, pieces, started}
use Rattle.lvm_group.specs.Own.{HoldAll, in_row, own_group, own_lv, own_pv, own_pvs}
use Rattle.lvm_group.specs.Ids.{group_id, group_name, text_id}
use Rattle.lvm_group.specs.Made.{AreFree, ArePicks, Makes, Means, new_group, new_volume}
use Rattle.lvm_group.specs.Writing.{AreStarts, Puts, new_targets, own_label, own_location, start_at}
use Rattle.lvm_group.proofs.Grown.{pieces_few, pieces_small, started_count}
use Rattle.lvm_group.proofs.GrownRuns.{grown_apart, grown_row, grown_within}
use Rattle.lvm_group.proofs.OwnText.{IsWritable, own_is_own, runs_back, small_array}
use Rattle.lvm_group.proofs.Passed.{both}
use Rattle.lvm_group.proofs.TextStands.{there_at}
use Rattle.lvm_group.proofs.OwnGroup.{own_inside, own_orderly}
use Rattle.lvm_group.specs.Images.{LeavesVolume}
use Rattle.lvm_group.proofs.Written.{area_there, group_written, none_bad}
use Rattle.lvm_group.proofs.NewTargets.{new_written}

new_count : (numbers : List ℕ) → length (grown [] numbers) ≤ length numbers
unfolding behind_runs
new_count numbers = let few = pieces_few 0 [] numbers in let count = started_count 0 (pieces 0 [] numbers) in omega arith

pub new_fits : (numbers : List ℕ) → length numbers ≤ 16 → fits [] numbers ≡ true
unfolding fits
new_fits numbers few = let count = new_count numbers in le-leb (length (grown [] numbers)) 1024 (omega arith)

started_total : (start : ℕ) (more : List Piece) → AllByRecursion (λ (piece : Piece). piece.first + piece.count < 2 ^ 45) more → extents_of (started start more) ≤ 2 ^ 45 * length more
unfolding started
started_total start [] small = omega arith
started_total start (piece ∷ others) small = let rest = started_total (start + piece.count) others small.1 in let here = small.0 in omega arith

pub new_extents : (numbers : List ℕ) → length numbers ≤ 16 → AreBelow numbers → extents_of (grown [] numbers) < 2 ^ 52
unfolding behind_runs
new_extents numbers few below =
    let sum = started_total 0 (pieces 0 [] numbers) (pieces_small 0 [] numbers below) in let count = pieces_few 0 [] numbers in omega arith

pub new_writable : (extent : ℕ) (sectors : ℕ → ℕ) (numbers : List ℕ) → length numbers ≤ 16 → HoldAll extent sectors 0 numbers → IsWritable extent (length numbers) sectors 1 numbers (grown [] numbers)
unfolding in_row all_apart
new_writable extent sectors numbers few holds =
    let count = new_count numbers in
    record {
      few = few;
      joins = omega arith;
      holds = holds;
      room = omega arith;
      row = grown_row 0 0 [] (pieces 0 [] numbers) (omega arith) refl;
      apart = grown_apart [] numbers refl refl;
      within = grown_within [] numbers refl;
      short = omega arith;
    }

pub new_runs : (pool : List ℕ) (extent : ℕ) (sectors : ℕ → ℕ) (numbers : List ℕ) → length numbers ≤ 16 → linear_in (length numbers) (new_group pool extent sectors numbers) ≡ new_volume extent numbers
new_runs pool extent sectors numbers few =
    ap (λ (runs : List Run). record { extent = extent; arrays = length numbers; runs = runs }) (runs_back numbers (grown [] numbers) few (grown_within [] numbers refl))

-- the volume is orderly
pub new_orderly : (pool : List ℕ) (extent : ℕ) (sectors : ℕ → ℕ) (numbers : List ℕ) → 0 < extent → length numbers ≤ 16 → HoldAll extent sectors 0 numbers → IsOrderly (new_volume extent numbers)
new_orderly pool extent sectors numbers some few holds =
    subst IsOrderly (new_runs pool extent sectors numbers few)
    (own_orderly pool extent (length numbers) sectors (new_group pool extent sectors numbers) some (own_is_own pool extent (length numbers) sectors 1 numbers (grown [] numbers) (new_writable extent sectors numbers few holds)))

-- and lies inside its arrays
pub new_inside : (pool : List ℕ) (extent : ℕ) (a : RackView) (numbers : List ℕ) → length numbers ≤ 16 → HoldAll extent a.sectors 0 numbers → length numbers ≤ a.disks → total a.sectors a.disks < 2 ^ 52
    → IsInside (new_volume extent numbers) a
new_inside pool extent a numbers few holds arrays small =
    subst (λ (l : Linear). IsInside l a) (new_runs pool extent a.sectors numbers few)
    (own_inside pool extent (length numbers) (new_group pool extent a.sectors numbers) a (own_is_own pool extent (length numbers) a.sectors 1 numbers (grown [] numbers) (new_writable extent a.sectors numbers few holds)) arrays small)

pub fresh_starts : AreStarts []
fresh_starts array = (omega arith, omega arith)

pub new_means : (pool : List ℕ) (extent : ℕ) (a b : RackView) (numbers text : List ℕ) (c : Image) → HaveLabelsDecoded → HaveHeadersDecoded → 0 < length numbers → length numbers ≤ 16 → HoldAll extent a.sectors 0 numbers
    → length text ≤ 262144 → group_of text ≡ Ok (new_group pool extent a.sectors numbers) → Puts a b (new_targets pool a.sectors [] text (length numbers)) {X = Unit {0}} (Ok tt) → AreSingle a b (length numbers)
    → ((array : ℕ) → array < length numbers → IsLabel (own_label pool array (a.sectors array))) → ((array : ℕ) → array < length numbers → IsLocation (own_location (512 * (start_at [] array).sector) text)) → AreTold a b (length numbers) → AreFree a (length numbers) → ArePicks b (length numbers) c
    → Means pool extent a.sectors numbers c
new_means pool extent a b numbers text c labels headers some few holds short read puts single are_labels location told free picks =
    let are = new_written a b pool [] text (length numbers) c fresh_starts short puts single are_labels location told picks free in
    let group = group_written pool a.sectors [] (length numbers) text c (new_group pool extent a.sectors numbers) labels headers fresh_starts some short read are in
    record {
      group = group;
      volume = ap (option_map (λ (g : Group). contents_of (linear_in (length numbers) g) c)) group ∙ ap (λ (l : Linear). Some (contents_of l c)) (new_runs pool extent a.sectors numbers few);
      sound = none_bad pool extent a.sectors [] (length numbers) text c (new_group pool extent a.sectors numbers) labels headers fresh_starts some short read
          (own_is_own pool extent (length numbers) a.sectors 1 numbers (grown [] numbers) (new_writable extent a.sectors numbers few holds)) are;
    }

-- it can be extended
pub new_settled : (pool : List ℕ) (extent : ℕ) (a b : RackView) (numbers text : List ℕ) → HaveLabelsDecoded → HaveHeadersDecoded → 0 < length numbers → length numbers ≤ 16 → HoldAll extent a.sectors 0 numbers
    → length text ≤ 262144 → group_of text ≡ Ok (new_group pool extent a.sectors numbers) → Puts a b (new_targets pool a.sectors [] text (length numbers)) {X = Unit {0}} (Ok tt) → AreSingle a b (length numbers)
    → ((array : ℕ) → array < length numbers → IsLabel (own_label pool array (a.sectors array))) → ((array : ℕ) → array < length numbers → IsLocation (own_location (512 * (start_at [] array).sector) text)) → AreTold a b (length numbers) → AreFree a (length numbers)
    → LeavesVolume pool (length numbers) (new_volume extent numbers) 1 a.sectors b
new_settled pool extent a b numbers text labels headers some few holds short read puts single are_labels location told free =
    let after : Image = λ d s. (b.held d s).current in
    let are = new_written a b pool [] text (length numbers) after fresh_starts short puts single are_labels location told (λ d s below less. inl refl) free in
    let own = own_is_own pool extent (length numbers) a.sectors 1 numbers (grown [] numbers) (new_writable extent a.sectors numbers few holds) in (
      after,
      λ d s v below less may. single d s v below (told d s below less) may,
      record {
        areas = λ array below. area_there pool array (a.sectors array) (start_at [] array).sector text (after array) labels (are array below);
        means = record {
          group = new_group pool extent a.sectors numbers;
          found = group_written pool a.sectors [] (length numbers) text after (new_group pool extent a.sectors numbers) labels headers fresh_starts some short read are;
          own = own;
          sound = none_bad pool extent a.sectors [] (length numbers) text after (new_group pool extent a.sectors numbers) labels headers fresh_starts some short read own are;
          volume = sym (new_runs pool extent a.sectors numbers few);
          numbered = refl;
        };
      },
    )

-- ---- as it is made

pub own_pvs_same : (pool : List ℕ) (f g : ℕ → ℕ) (array : ℕ) (numbers : List ℕ) → ((i : ℕ) → i < array + length numbers → f i ≡ g i) → own_pvs pool f array numbers ≡ own_pvs pool g array numbers
unfolding own_pvs
own_pvs_same pool f g array [] same = refl
own_pvs_same pool f g array (number ∷ others) same =
    rw (same array (omega arith)) (ap (λ (rest : List Pv). own_pv pool (g array) array number ∷ rest) (own_pvs_same pool f g (array + 1) others (λ i below. same i (omega arith))))

-- the group that is printed is the one of the arrays' sectors
pub group_is : (pool : List ℕ) (extent : ℕ) (sectors : ℕ → ℕ) (seqno : ℕ) (numbers sizes : List ℕ) (runs : List Run) → sizes ≡ map sectors (range_with_len 0 (length numbers))
    → own_group pool extent (slice_index sizes) seqno numbers runs ≡ own_group pool extent sectors seqno numbers runs
group_is pool extent sectors seqno numbers sizes runs sizes_are =
    rw sizes_are
    (ap (λ (pvs : List Pv). record { name = group_name; id = text_id (group_id pool); seqno = seqno; extent_size = extent; pvs = pvs; lvs = own_lv pool runs ∷ [] })
    (own_pvs_same pool (slice_index (map sectors (range_with_len 0 (length numbers)))) sectors 0 numbers
    (λ i below. get_or-map-range_with_len sectors 0 (length numbers) i i 0 (omega arith) (omega arith))))

pub arrays_small : (numbers : List ℕ) (runs : List Run) → length numbers ≤ 16 → list_all (is_within numbers) runs ≡ true → AllByRecursion (λ (run : Run). run.array < 16) runs
arrays_small numbers [] few within = tt
arrays_small numbers (run ∷ others) few within =
    let first = both (is_within numbers run) (list_all (is_within numbers) others) within in (small_array numbers run few first.0, arrays_small numbers others few first.1)

pub new_arrays : (numbers : List ℕ) → length numbers ≤ 16 → AllByRecursion (λ (run : Run). run.array < 16) (grown [] numbers)
new_arrays numbers few = arrays_small numbers (grown [] numbers) few (grown_within [] numbers refl)

pub new_short : (numbers : List ℕ) → length numbers ≤ 16 → length (grown [] numbers) ≤ 1024
new_short numbers few = let count = new_count numbers in omega arith

-- each array has room for its metadata
pub holds_metadata : (extent : ℕ) (sectors : ℕ → ℕ) (numbers : List ℕ) → HoldAll extent sectors 0 numbers → (array : ℕ) → array < length numbers → 2048 ≤ sectors array
holds_metadata extent sectors numbers holds array below =
    let there = there_at numbers array below in
    let room = holds array there.0 there.1 in
    let same : 0 + array ≡ array = omega arith in
    let whole = subst (λ n. data_start + there.0 * extent ≤ sectors n) same room in
    omega arith

pub makes_by : (a b : RackView) (pool : List ℕ) (extent : ℕ) (numbers text : List ℕ) (result : Result (Unit {0}) Gone) → HaveLabelsDecoded → HaveHeadersDecoded → 0 < length numbers → length numbers ≤ 16
    → HoldAll extent a.sectors 0 numbers → length text ≤ 262144 → group_of text ≡ Ok (new_group pool extent a.sectors numbers) → Puts a b (new_targets pool a.sectors [] text (length numbers)) result
    → OnOk result (AreSingle a b (length numbers)) → OnOk result ((array : ℕ) → array < length numbers → IsLabel (own_label pool array (a.sectors array))) → OnOk result (((array : ℕ) → array < length numbers → IsLocation (own_location (512 * (start_at [] array).sector) text)))
    → OnOk result (Makes pool extent numbers a b)
makes_by a b pool extent numbers text (Ok done) labels headers some few holds short read puts single are_labels location = record {
  single = single;
  means = λ told free c picks. new_means pool extent a b numbers text c labels headers some few holds short read puts single are_labels location told free picks;
  settled = λ told free. new_settled pool extent a b numbers text labels headers some few holds short read puts single are_labels location told free;
}
makes_by a b pool extent numbers text (Err gone) labels headers some few holds short read puts single are_labels location = tt

-- the volume with these runs is the new one
pub volume_is : (extent size : ℕ) (numbers : List ℕ) (runs : List Run) → size ≡ extent → runs ≡ grown [] numbers → new_volume extent numbers ≡ record { extent = size; arrays = length numbers; runs = runs }
volume_is extent size numbers runs size_is runs_are = rw (size_is, runs_are) refl

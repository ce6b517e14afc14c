-- The volume of a group that the pool writes is orderly, and lies inside its arrays.
use Rattle.std.proofs.Common.{◌≡◌, ◌⊎◌, ◌^◌, ℕ, zero, suc, ◌+◌, ◌-◌, ◌*◌, ◌<◌, ◌≤◌, ◌==◌, ◌&&◌, ◌||◌, Bool, true, false, inl, inr, List, [], ◌∷◌, Option, Some, None, refl, sym, ap, subst, ◌∙◌, arith}
use Rattle.std.specs.Prelude.{length, max, min, slice_get, nat_le, nat_lt, not, is_some, bytes_eq, option_map}
use Rattle.std.specs.Option.{option_map_or}
use Rattle.std.specs.List.{list_all}
use Rattle.std.proofs.lemmas.Bool.{cases_eq, cases_lt, eq-eqb, eqb-true, leb-true, ltb-true}
use Rattle.std.proofs.lemmas.Nat.{mul-le, row_fits}
use Rattle.lvm_text.specs.declared.group.SegmentKind.{SegmentKind}
use Rattle.lvm_text.specs.declared.group.SegmentKind.TheVariants as kind
use Rattle.lvm_text.specs.declared.group.Segment.{Segment}
use Rattle.lvm_text.specs.declared.group.Pv.{Pv}
use Rattle.lvm_text.specs.declared.group.Lv.{Lv}
use Rattle.lvm_text.specs.declared.group.Group.{Group}
use Rattle.lvm_group.specs.declared.runs.Run.{Run}
use Rattle.lvm_group.specs.Ids.{array_named, group_id, pv_id, text_id, group_name}
use Rattle.rack.specs.Seen.{RackView}
use Rattle.lvm_group.specs.Shown.{IsInside, total}
use Rattle.lvm_group.specs.Runs.{Place, AreInOrder, AreApart, IsOrderly, place_of, place_in, data_start, extents_of, run_of}
use Rattle.lvm_group.specs.Own.{in_row}
use Rattle.lvm_group.specs.Group.{run_by, run_in, with_run, runs_from, runs_in, linear_in, names, pv_of, is_pv_of, is_pv, follow, lies_in, are_apart, all_apart, differ, most_segments, has_own_name, has_own_head, is_only_lv, is_own_group}
use Rattle.lvm_group.proofs.Passed.{both, found_passes, found_all, all_at, some_passes, is_there}
use Rattle.lvm_group.proofs.Found.{has_it, lacks_it}

-- ---- order

named : (start count first : ℕ) (array : Option ℕ) (run : Run)
    → option_map (λ n. record { start = start; count = count; array = n; first = first }) array ≡ Some run
    → (run.start ≡ start) × (run.count ≡ count)
named start count first None run is = cc
named start count first (Some n) run is = (cc, cc)

-- a run begins where its segment does, and has as many extents
run_of_kind : (start count : ℕ) (k : SegmentKind) (run : Run) → run_by start count k ≡ Some run → (run.start ≡ start) × (run.count ≡ count)
run_of_kind start count (kind.Linear pv first) run is = named start count first (array_named pv) run is
run_of_kind start count kind.Other run is = cc

-- a run before others
run_first : (run : Run) (others : List Run) (start : ℕ) → run.start ≡ start → AreInOrder (start + run.count) others → AreInOrder start (run ∷ others)
run_first run others start here order zero other at = let same : run ≡ other = cc in subst (λ (r : Run). r.start ≡ start + 0) same (omega arith)
run_first run others start here order (suc place) other at = let there = order place other at in omega arith

-- where segments follow each other, their runs are in order
order_of : (segments : List Segment) (start : ℕ) → follow start segments ≡ true → AreInOrder start (runs_from segments)
unfolding follow runs_from
order_of [] start follows = λ place run at. cc
order_of (segment ∷ others) start follows =
    let first = both (segment.start == start) (is_some (run_in segment) && follow (start + segment.count) others) follows in
    let rest = both (is_some (run_in segment)) (follow (start + segment.count) others) first.1 in
    let run = is_there (run_in segment) rest.0 in
    let same = run_of_kind segment.start segment.count segment.kind run.0 run.1 in
    subst (λ (o : Option Run). AreInOrder start (with_run o (runs_from others))) (sym run.1)
    (run_first run.0 (runs_from others) start (same.0 ∙ eqb-true segment.start start first.0)
    (subst (λ n. AreInOrder (start + n) (runs_from others)) (sym same.1) (order_of others (start + segment.count) rest.1)))

-- ---- the run that has an extent

record RunAt (runs : List Run) (extent : ℕ) : Type 0 where
  place : ℕ
  run : Run
  at : slice_get runs place ≡ Some run
  is : run_of runs extent ≡ Some run
  starts : run.start ≤ extent
  ends : extent < run.start + run.count

-- an extent of the volume has a run
run_at : (runs : List Run) (start extent : ℕ) → AreInOrder start runs → start ≤ extent → extent < start + extents_of runs → RunAt runs extent
run_at [] start extent order from within = absurd (omega arith)
run_at (first ∷ others) start extent order from within =
    let here = order 0 first refl in
    elim (cases_lt extent (start + first.count)) [
      | inl inside ↦ record {
        place = 0;
        run = first;
        at = refl;
        is = rw (has_it first extent (omega arith) (omega arith)) refl;
        starts = omega arith;
        ends = omega arith;
      }
      | inr past ↦
          let found = run_at others (start + first.count) extent (λ place run at. let on = order (suc place) run at in omega arith) past (omega arith) in
          record {
            place = suc found.place;
            run = found.run;
            at = found.at;
            is = rw (lacks_it first extent (omega arith)) found.is;
            starts = found.starts;
            ends = found.ends;
          }
    ]

-- its place
place_is : (runs : List Run) (extent : ℕ) (run : Run) → run_of runs extent ≡ Some run → place_of runs extent ≡ place_in extent run
place_is runs extent run is = ap (λ (o : Option Run). option_map_or (place_in extent) o (record { array = 0; extent = 0 })) is

-- ---- runs apart

-- of two runs that share no extent
apart_at : (runs : List Run) (i j : ℕ) (run other : Run) → all_apart runs ≡ true → i < j → slice_get runs i ≡ Some run → slice_get runs j ≡ Some other → are_apart run other ≡ true
unfolding all_apart
apart_at [] i j run other apart before at there = cc
apart_at (first ∷ others) zero zero run other apart before at there = absurd (omega arith)
apart_at (first ∷ others) zero (suc j) run other apart before at there =
    let same : first ≡ run = cc in
    subst (λ r. are_apart r other ≡ true) same (all_at (are_apart first) others j other (both (list_all (are_apart first) others) (all_apart others) apart).0 there)
apart_at (first ∷ others) (suc i) zero run other apart before at there = absurd (omega arith)
apart_at (first ∷ others) (suc i) (suc j) run other apart before at there =
    apart_at others i j run other (both (list_all (are_apart first) others) (all_apart others) apart).1 (omega arith) at there

either : (p q : Bool) → (p || q) ≡ true → (p ≡ true) ⊎ (q ≡ true)
either true q e = inl refl
either false q e = inr e

not_true : (b : Bool) → not b ≡ true → b ≡ true → ⊥
not_true true first second = cc
not_true false first second = cc

-- one extent of an array isn't in both
not_both : (run other : Run) (extent place : ℕ) → are_apart run other ≡ true → run.start ≤ extent → extent < run.start + run.count → other.start ≤ place → place < other.start + other.count
    → run.array ≡ other.array → run.first + (extent - run.start) ≡ other.first + (place - other.start) → ⊥
not_both run other extent place apart starts ends other_starts other_ends array same =
    elim (either (not (run.array == other.array)) (nat_le (min (run.first + run.count) (other.first + other.count)) (max run.first other.first)) apart) [
      | inl elsewhere ↦ not_true (run.array == other.array) elsewhere (eq-eqb run.array other.array array)
      | inr beside ↦ let up = leb-true (min (run.first + run.count) (other.first + other.count)) (max run.first other.first) beside in absurd (omega arith)
    ]

same_run : (runs : List Run) (i j : ℕ) (run other : Run) → slice_get runs i ≡ Some run → slice_get runs j ≡ Some other → i ≡ j → run ≡ other
same_run runs i j run other at there same = let one : slice_get runs i ≡ Some other = ap (slice_get runs) same ∙ there in cc

same_place : (run other : Run) (extent place : ℕ) → run ≡ other → run.start ≤ extent → other.start ≤ place → run.first + (extent - run.start) ≡ other.first + (place - other.start) → extent ≡ place
same_place run other extent place same starts other_starts there =
    let start : run.start ≡ other.start = ap (λ (r : Run). r.start) same in
    let first : run.first ≡ other.first = ap (λ (r : Run). r.first) same in
    omega arith

apart_of : (runs : List Run) → AreInOrder 0 runs → all_apart runs ≡ true → AreApart runs
apart_of runs order apart = λ extent other within other_within same_array same_extent.
    let one = run_at runs 0 extent order (omega arith) (omega arith) in
    let two = run_at runs 0 other order (omega arith) (omega arith) in
    let one_place = place_is runs extent one.run one.is in
    let two_place = place_is runs other two.run two.is in
    let array : one.run.array ≡ two.run.array = ap (λ (p : Place). p.array) (sym one_place) ∙ same_array ∙ ap (λ (p : Place). p.array) two_place in
    let there : one.run.first + (extent - one.run.start) ≡ two.run.first + (other - two.run.start) =
    ap (λ (p : Place). p.extent) (sym one_place) ∙ same_extent ∙ ap (λ (p : Place). p.extent) two_place in
    elim (cases_eq one.place two.place) [
      | inl here ↦ same_place one.run two.run extent other (same_run runs one.place two.place one.run two.run one.at two.at here) one.starts two.starts there
      | inr elsewhere ↦ elim (cases_lt one.place two.place) [
        | inl before ↦
            absurd (not_both one.run two.run extent other (apart_at runs one.place two.place one.run two.run apart before one.at two.at) one.starts one.ends two.starts two.ends array there)
        | inr behind ↦
            absurd (not_both two.run one.run other extent (apart_at runs two.place one.place two.run one.run apart (omega arith) two.at one.at) two.starts two.ends one.starts one.ends
            (sym array) (sym there))
      ]
    ]

-- ---- inside

same_value : {X : Type 0} (o : Option X) (x y : X) → o ≡ Some x → o ≡ Some y → x ≡ y
same_value o x y first second = let same : Some x ≡ Some y = sym first ∙ second in cc

-- a run lies inside its array
run_inside : (pool : List ℕ) (extent joined : ℕ) (sectors : ℕ → ℕ) (g : Group) (run : Run) → list_all (is_pv pool extent sectors joined) g.pvs ≡ true → lies_in g.pvs run ≡ true
    → (run.array < joined) × (data_start + (run.first + run.count) * extent ≤ sectors run.array)
run_inside pool extent joined sectors g run all lies =
    let pv = some_passes (λ (pv : Pv). nat_le (run.first + run.count) pv.pe_count) (pv_of g.pvs run.array) lies in
    let name = some_passes (λ n. n == run.array) (array_named pv.0.name) (found_passes (names run.array) g.pvs pv.0 pv.1) in
    let own = some_passes (is_pv_of pool extent sectors joined pv.0) (array_named pv.0.name) (found_all (names run.array) (is_pv pool extent sectors joined) g.pvs pv.0 pv.1 all) in
    let array : own.0 ≡ run.array = same_value (array_named pv.0.name) own.0 name.0 own.1 name.1 ∙ eqb-true name.0 run.array name.2 in
    let first = both (nat_lt own.0 joined) _ own.2 in
    let second = both (bytes_eq pv.0.id (text_id (pv_id pool own.0))) _ first.1 in
    let third = both (pv.0.pe_start == data_start) (nat_le (data_start + pv.0.pe_count * extent) (sectors own.0)) second.1 in
    let fits = leb-true (data_start + pv.0.pe_count * extent) (sectors own.0) third.1 in
    let more = mul-le (run.first + run.count) extent pv.0.pe_count extent (leb-true (run.first + run.count) pv.0.pe_count pv.2) (omega arith) in
    (subst (λ n. n < joined) array (ltb-true own.0 joined first.0), subst (λ n. data_start + (run.first + run.count) * extent ≤ sectors n) array (omega arith))

-- ---- the group's volume

-- what its profile says of the volume
record IsPlaced (extent joined : ℕ) (sectors : ℕ → ℕ) (runs : List Run) : Type 0 where
  order : AreInOrder 0 runs
  apart : AreApart runs
  inside : (place : ℕ) (run : Run) → slice_get runs place ≡ Some run → (run.array < joined) × (data_start + (run.first + run.count) * extent ≤ sectors run.array)

lv_placed : (pool : List ℕ) (extent joined : ℕ) (sectors : ℕ → ℕ) (g : Group) (lvs : List Lv) → list_all (is_pv pool extent sectors joined) g.pvs ≡ true → is_only_lv pool g.pvs lvs ≡ true
    → IsPlaced extent joined sectors (runs_in lvs)
lv_placed pool extent joined sectors g [] all is = cc
lv_placed pool extent joined sectors g (lv ∷ []) all is =
    let name = both (has_own_name pool lv) _ is in
    let few = both (nat_le (length lv.segments) most_segments) _ name.1 in
    let follows = both (follow 0 lv.segments) _ few.1 in
    let lie = both (list_all (lies_in g.pvs) (runs_from lv.segments)) (all_apart (runs_from lv.segments)) follows.1 in
    let order = order_of lv.segments 0 follows.0 in
    record {
      order = order;
      apart = apart_of (runs_from lv.segments) order lie.1;
      inside = λ place run at. run_inside pool extent joined sectors g run all (all_at (lies_in g.pvs) (runs_from lv.segments) place run lie.0 at);
    }
lv_placed pool extent joined sectors g (lv ∷ other ∷ others) all is = cc

-- an extent lies inside its array
extent_inside : (extent joined : ℕ) (sectors : ℕ → ℕ) (runs : List Run) (e : ℕ) → IsPlaced extent joined sectors runs → e < extents_of runs
    → ((place_of runs e).array < joined) × (data_start + (place_of runs e).extent * extent + extent ≤ sectors (place_of runs e).array)
extent_inside extent joined sectors runs e placed within =
    let found = run_at runs 0 e placed.order (omega arith) (omega arith) in
    let starts = found.starts in
    let ends = found.ends in
    let inside = placed.inside found.place found.run found.at in
    let room = inside.1 in
    let fits = row_fits (found.run.first + (e - found.run.start)) extent (found.run.first + found.run.count) extent (omega arith) (omega arith) in
    rw (place_is runs e found.run found.is) (inside.0, omega arith)

record IsOwn (pool : List ℕ) (extent joined : ℕ) (sectors : ℕ → ℕ) (g : Group) : Type 0 where
  sized : g.extent_size ≡ extent
  placed : IsPlaced extent joined sectors (runs_in g.lvs)

own_placed : (pool : List ℕ) (extent joined : ℕ) (sectors : ℕ → ℕ) (g : Group) → is_own_group pool extent sectors joined g ≡ true → IsOwn pool extent joined sectors g
own_placed pool extent joined sectors g own =
    let head = both (has_own_head pool extent g) _ own in
    let name = both (bytes_eq g.name group_name) _ head.0 in
    let id = both (bytes_eq g.id (text_id (group_id pool))) _ name.1 in
    let size = both (g.extent_size == extent) (nat_lt g.seqno (2 ^ 63)) id.1 in
    let pvs = both (list_all (is_pv pool extent sectors joined) g.pvs) _ head.1 in
    let lvs = both (differ g.pvs) (is_only_lv pool g.pvs g.lvs) pvs.1 in
    record { sized = eqb-true g.extent_size extent size.0; placed = lv_placed pool extent joined sectors g g.lvs pvs.0 lvs.1 }

-- it is orderly
pub own_orderly : (pool : List ℕ) (extent joined : ℕ) (sectors : ℕ → ℕ) (g : Group) → 0 < extent → is_own_group pool extent sectors joined g ≡ true → IsOrderly (linear_in joined g)
own_orderly pool extent joined sectors g some own =
    let is = own_placed pool extent joined sectors g own in
    record { sized = rw is.sized some; order = is.placed.order; apart = is.placed.apart }

-- and lies inside its arrays
pub own_inside : (pool : List ℕ) (extent joined : ℕ) (g : Group) (a : RackView) → is_own_group pool extent a.sectors joined g ≡ true → joined ≤ a.disks → total a.sectors a.disks < 2 ^ 52
    → IsInside (linear_in joined g) a
own_inside pool extent joined g a own arrays small =
    let is = own_placed pool extent joined a.sectors g own in
    record {
      small = small;
      arrays = arrays;
      placed = λ e within. (extent_inside extent joined a.sectors (runs_in g.lvs) e is.placed within).0;
      held = λ e within.
          subst (λ size. data_start + (place_of (runs_in g.lvs) e).extent * size + size ≤ a.sectors (place_of (runs_in g.lvs) e).array) (sym is.sized)
          (extent_inside extent joined a.sectors (runs_in g.lvs) e is.placed within).1;
    }

-- an extent of it lies inside an array
pub own_extent : (pool : List ℕ) (extent joined : ℕ) (sectors : ℕ → ℕ) (g : Group) (e : ℕ) → is_own_group pool extent sectors joined g ≡ true → e < extents_of (runs_in g.lvs)
    → ((place_of (runs_in g.lvs) e).array < joined) × (data_start + (place_of (runs_in g.lvs) e).extent * extent + extent ≤ sectors (place_of (runs_in g.lvs) e).array)
own_extent pool extent joined sectors g e own within = extent_inside extent joined sectors (runs_in g.lvs) e (own_placed pool extent joined sectors g own).placed within

-- its extents have the pool's size
pub own_sized : (pool : List ℕ) (extent joined : ℕ) (sectors : ℕ → ℕ) (g : Group) → is_own_group pool extent sectors joined g ≡ true → g.extent_size ≡ extent
own_sized pool extent joined sectors g own = (own_placed pool extent joined sectors g own).sized

-- it has few runs
few_by : (o : Option Run) (runs : List Run) → length (with_run o runs) ≤ 1 + length runs
few_by None runs = omega arith
few_by (Some run) runs = omega arith

few_runs : (segments : List Segment) → length (runs_from segments) ≤ length segments
unfolding runs_from
few_runs [] = omega arith
few_runs (segment ∷ others) = let rest = few_runs others in let one = few_by (run_in segment) (runs_from others) in omega arith

few_lvs : (pool : List ℕ) (pvs : List Pv) (lvs : List Lv) → is_only_lv pool pvs lvs ≡ true → length (runs_in lvs) ≤ 1024
few_lvs pool pvs [] is = cc
few_lvs pool pvs (lv ∷ []) is =
    let name = both (has_own_name pool lv) _ is in
    let few = both (nat_le (length lv.segments) most_segments) _ name.1 in
    let most = leb-true (length lv.segments) 1024 few.0 in
    let runs = few_runs lv.segments in
    omega arith
few_lvs pool pvs (lv ∷ other ∷ others) is = cc

pub own_few : (pool : List ℕ) (extent joined : ℕ) (sectors : ℕ → ℕ) (g : Group) → is_own_group pool extent sectors joined g ≡ true → length (runs_in g.lvs) ≤ 1024
own_few pool extent joined sectors g own =
    let head = both (has_own_head pool extent g) _ own in
    let pvs = both (list_all (is_pv pool extent sectors joined) g.pvs) _ head.1 in
    let lvs = both (differ g.pvs) (is_only_lv pool g.pvs g.lvs) pvs.1 in
    few_lvs pool g.pvs g.lvs lvs.1

-- its runs follow each other
row_by : (segment : Segment) (o : Option Run) (runs : List Run) (start : ℕ) → run_in segment ≡ o → is_some o ≡ true → segment.start ≡ start → in_row (start + segment.count) runs ≡ true → in_row start (with_run o runs) ≡ true
unfolding in_row
row_by segment None runs start is some here rest = cc
row_by segment (Some run) runs start is some here rest =
    let same = run_of_kind segment.start segment.count segment.kind run is in
    rw (eq-eqb run.start start (same.0 ∙ here), same.1) rest

rows : (segments : List Segment) (start : ℕ) → follow start segments ≡ true → in_row start (runs_from segments) ≡ true
unfolding follow runs_from in_row
rows [] start follows = refl
rows (segment ∷ others) start follows =
    let first = both (segment.start == start) (is_some (run_in segment) && follow (start + segment.count) others) follows in
    let rest = both (is_some (run_in segment)) (follow (start + segment.count) others) first.1 in
    row_by segment (run_in segment) (runs_from others) start refl rest.0 (eqb-true segment.start start first.0) (rows others (start + segment.count) rest.1)

-- and are apart
lvs_row : (pool : List ℕ) (pvs : List Pv) (lvs : List Lv) → is_only_lv pool pvs lvs ≡ true → (in_row 0 (runs_in lvs) ≡ true) × (all_apart (runs_in lvs) ≡ true)
lvs_row pool pvs [] is = cc
lvs_row pool pvs (lv ∷ []) is =
    let name = both (has_own_name pool lv) _ is in
    let few = both (nat_le (length lv.segments) most_segments) _ name.1 in
    let follows = both (follow 0 lv.segments) _ few.1 in
    let lie = both (list_all (lies_in pvs) (runs_from lv.segments)) (all_apart (runs_from lv.segments)) follows.1 in
    (rows lv.segments 0 follows.0, lie.1)
lvs_row pool pvs (lv ∷ other ∷ others) is = cc

own_lvs : (pool : List ℕ) (extent joined : ℕ) (sectors : ℕ → ℕ) (g : Group) → is_own_group pool extent sectors joined g ≡ true → is_only_lv pool g.pvs g.lvs ≡ true
own_lvs pool extent joined sectors g own =
    let head = both (has_own_head pool extent g) _ own in
    let pvs = both (list_all (is_pv pool extent sectors joined) g.pvs) _ head.1 in
    (both (differ g.pvs) (is_only_lv pool g.pvs g.lvs) pvs.1).1

pub own_row : (pool : List ℕ) (extent joined : ℕ) (sectors : ℕ → ℕ) (g : Group) → is_own_group pool extent sectors joined g ≡ true → in_row 0 (runs_in g.lvs) ≡ true
own_row pool extent joined sectors g own = (lvs_row pool g.pvs g.lvs (own_lvs pool extent joined sectors g own)).0

pub own_apart : (pool : List ℕ) (extent joined : ℕ) (sectors : ℕ → ℕ) (g : Group) → is_own_group pool extent sectors joined g ≡ true → all_apart (runs_in g.lvs) ≡ true
own_apart pool extent joined sectors g own = (lvs_row pool g.pvs g.lvs (own_lvs pool extent joined sectors g own)).1

-- its seqno isn't the last one
pub own_numbered : (pool : List ℕ) (extent joined : ℕ) (sectors : ℕ → ℕ) (g : Group) → is_own_group pool extent sectors joined g ≡ true → g.seqno < 2 ^ 63
own_numbered pool extent joined sectors g own =
    let head = both (has_own_head pool extent g) _ own in
    let name = both (bytes_eq g.name group_name) _ head.0 in
    let id = both (bytes_eq g.id (text_id (group_id pool))) _ name.1 in
    let size = both (g.extent_size == extent) (nat_lt g.seqno (2 ^ 63)) id.1 in
    ltb-true g.seqno (2 ^ 63) size.1

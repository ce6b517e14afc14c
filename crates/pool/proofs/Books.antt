-- How the arrays of a pool stand is a book of growth.
use Rattle.std.specs.List.{list_all, range_with_len}
use Rattle.std.specs.Option.{option_map_or}
use Rattle.std.proofs.Common.{◌≡◌, ℕ, zero, suc, ◌+◌, ◌-◌, ◌/◌, ◌<◌, ◌≤◌, ◌^◌, ◌&&◌, ◌==◌, nat_lt, nat_le, Bool, true, false, if◌then◌else◌, count_by, length, All, Option, Some, None, leb-true, arith}
use Rattle.std.proofs.Math.Nat.{div-le_self}
use Rattle.std.proofs.lemmas.Bool.{and_parts, eqb-true}
use Rattle.std.proofs.lemmas.List.Elements.{All-cons, All-map, All-nil}
use Rattle.std.proofs.lemmas.List.FromFn.{length-map-range_with_len}
use Rattle.rack.specs.Seen.{RackView}
use Rattle.md_super.specs.Profile.{is_mirror}
use Rattle.array_image.specs.Supers.{has_role, is_reshaping, named_places, new_row}
use Rattle.array_image.specs.SoundArray.{first_unsynced}
use Rattle.array_model.specs.View.{View, IsArray, rows_of}
use Rattle.std.specs.Int.{is_power_of_two}
use Rattle.pool_state.specs.Valid.{has_arrays, has_epoch, has_places, is_drive, is_extent, is_valid}
use Rattle.pool_state.specs.declared.contents.State.{State}
use Rattle.growth_plan.specs.declared.ArrayNow.{ArrayNow}
use Rattle.growth_plan.specs.Book.{IsBook, IsSmall}
use Rattle.lvm_group.specs.Runs.{Linear, extents_of}
use Rattle.raid_laws.specs.Moves.{IsSeated, IsSet}
use Rattle.raid_laws.specs.Raid.{Raid}
use Rattle.pool.specs.Works.{array_now, progress_by, rebuilding_in, rows_to_rebuild}

-- each number of a range
all_range : (P : ℕ → Type 0) (a n : ℕ) → ((k : ℕ) → a ≤ k → k < a + n → P k) → All P (range_with_len a n)
all_range P a zero each = All-nil P
all_range P a (suc n) each =
    All-cons P a (range_with_len (a + 1) n) (each a (omega arith) (omega arith)) (all_range P (a + 1) n (λ k low high. each k (omega arith) (omega arith)))

-- the roles of an array of the pool name its members
pub named_is : (s : State) (n : ℕ) (v : View) (x : RackView) → IsSeated s n v x → length (named_places v.truth) ≡ v.truth.raid_disks
named_is s n v x seated =
    eqb-true (length (named_places v.truth)) v.truth.raid_disks
    (and_parts (length (named_places v.truth) == v.truth.raid_disks)
    (list_all (λ place. nat_lt place (length s.drives.items)) (named_places v.truth)
    && list_all (λ k. count_by (has_role v.truth k) (named_places v.truth) == 1) (range_with_len 0 v.truth.raid_disks)) seated.is_of_pool.roles).0

-- two to sixteen
most_disks : (mirror : Bool) (n : ℕ) → n ≤ (if mirror then 2 else 16) → n ≤ 16
most_disks true n few = omega arith
most_disks false n few = few

pub named_few : (s : State) (n : ℕ) (v : View) (x : RackView) → IsSeated s n v x → length (named_places v.truth) ≤ 16
named_few s n v x seated =
    let same = named_is s n v x seated in
    let most = most_disks (is_mirror v.truth) v.truth.raid_disks seated.is_array.most in
    omega (arith, same, most)

-- numbers of rows are small
rows_small : (v : View) → IsArray v → rows_of v < 2 ^ 52
rows_small v is_array = let small = is_array.small in omega arith

if_small : (b : Bool) (m n : ℕ) → m < n → 0 < n → (if b then m else 0) < n
if_small true m n small some = small
if_small false m n small some = some

or_small : (f : ℕ → ℕ) (o : Option ℕ) (n : ℕ) → ((p : ℕ) → f p < n) → 0 < n → option_map_or f o 0 < n
or_small f None n small some = some
or_small f (Some p) n small some = small p

pub now_small : (extent : ℕ) (v : View) → IsArray v → IsSmall (array_now extent v)
now_small extent v is_array =
    let small = is_array.small in
    let rows = rows_small v is_array in
    let part = div-le_self (v.truth.size - 2048) extent in
    let some : 0 < 2 ^ 52 = omega arith in
    record {
      height = omega (arith, part, small);
      rows = rows;
      resync = omega (arith, rows);
      rebuild = or_small (rows_to_rebuild v) (rebuilding_in v) (2 ^ 52) (λ p. omega (arith, rows)) some;
      reshape = if_small (is_reshaping v.truth) (rows_of v - v.truth.reshape_position / new_row v.truth) (2 ^ 52) (omega (arith, rows)) some;
      zero = if_small v.young (rows_of v - first_unsynced v.truth) (2 ^ 52) (omega (arith, rows)) some;
    }

-- where a drive is listed
pub is_book : (l : Linear) (v : Raid) (x : RackView) → IsSet v x → 0 < length v.state.drives.items → extents_of l.runs < 2 ^ 52 → IsBook v.state (progress_by l v)
is_book l v x set some extents =
    let now : ℕ → ArrayNow = λ n. array_now v.state.extent (v.arrays n) in
    record {
      valid = set.valid 0 some;
      made = length-map-range_with_len now 0 v.state.made;
      pairs = All-map (λ array. 2 ≤ length array.members.items) now (range_with_len 0 v.state.made)
          (all_range (λ n. 2 ≤ length (now n).members.items) 0 v.state.made
          (λ n low high.
          let seated = set.arrays n (omega arith) in
          let same = named_is v.state n (v.arrays n) x seated in
          let least = seated.is_array.least in
          omega (arith, same, least)));
      small = All-map IsSmall now (range_with_len 0 v.state.made)
          (all_range (λ n. IsSmall (now n)) 0 v.state.made (λ n low high. now_small v.state.extent (v.arrays n) (set.arrays n (omega arith)).is_array));
      extents = extents;
    }

-- an extent has sectors
pub some_extent : (s : State) (own : ℕ) → is_valid s own ≡ true → 0 < s.extent
some_extent s own valid =
    let one = and_parts (is_extent s.extent) (has_places s own && (has_arrays s && (list_all is_drive s.drives.items && has_epoch s))) valid in
    let two = and_parts (is_power_of_two s.extent) (nat_le 128 s.extent && nat_le s.extent 65536) one.0 in
    let least = leb-true 128 s.extent (and_parts (nat_le 128 s.extent) (nat_le s.extent 65536) two.1).0 in
    omega (arith, least)

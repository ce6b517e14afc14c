-- A new array that may be made, and that losses leave which places reach it, where its slices would lie, and whether it may be made.
use Rattle.std.proofs.Common.{◌≡◌, ℕ, ◌+◌, ◌*◌, ◌-◌, ◌/◌, ◌<◌, ◌≤◌, ◌^◌, Bool, true, false, ◌==◌, ◌&&◌, nat_le, nat_lt, All, List, filter, length, map, slice_get, Option, Some, None, option_map, refl, sym, ap, ◌∙◌, eqb-true, ltb-true, arith}
use Rattle.std.specs.List.{range_with_len, sum_by}
use Rattle.std.specs.Option.{option_map_or}
use Rattle.std.proofs.lemmas.Bool.{and_parts, leb-true}
use Rattle.std.proofs.lemmas.List.{length-map}
use Rattle.std.proofs.lemmas.List.Elements.{All-filter, filter_agree}
use Rattle.std.proofs.lemmas.List.FromFn.{get_or-range_with_len, length-range_with_len, take-map-range_with_len}
use Rattle.std.proofs.lemmas.List.Sums.{count_by-le-length, length-filter}
use Rattle.std.proofs.lemmas.Option.{slice_get-map}
use Rattle.rack.specs.Seen.{RackView}
use Rattle.pool_state.specs.Valid.{is_extent}
use Rattle.pool_state.specs.declared.contents.Drive.{Drive}
use Rattle.pool_state.specs.declared.contents.State.{State}
use Rattle.array_model.specs.View.{View}
use Rattle.raid_laws.specs.Book.{OnlyMarksSince, drive_of}
use Rattle.raid_laws.specs.Moves.{IsSet}
use Rattle.raid_laws.specs.NewDrive.{first_in, slice_length}
use Rattle.raid_laws.specs.Raid.{Raid}
use Rattle.growth_laws.specs.Losses.{LosesBook}
use Rattle.growth_laws.specs.NewArrays.{height_of, may_make, new_size, reaches, reaching, top_of, views_of}
use Rattle.growth_laws.proofs.Losing.{sum_same}
use Rattle.growth_laws.proofs.Room.{sum_mapped}

-- ---- an array that may be made

-- It is the next one, at least two places reach its layer, and its slices end on a drive.
pub record MayMake (v : Raid) (n height : ℕ) : Type 0 where
  pub number : n ≡ v.state.made
  pub joined : v.state.joined ≡ v.state.made
  pub few : v.state.made < 16
  pub some : 0 < height
  pub members : 2 ≤ length (reaching v height)
  pub room : first_in (views_of v) v.state.made + new_size v height + 2048 + 33 ≤ 2 ^ 48

pub make_parts : (v : Raid) (n height : ℕ) → may_make v n height ≡ true → MayMake v n height
make_parts v n height is =
    let s = v.state in
    let end = first_in (views_of v) s.made + new_size v height + 2048 + 33 in
    let both = and_parts ((n == s.made) && ((s.joined == s.made) && nat_lt s.made 16)) _ is in
    let next = and_parts (n == s.made) ((s.joined == s.made) && nat_lt s.made 16) both.0 in
    let none = and_parts (s.joined == s.made) (nat_lt s.made 16) next.1 in
    let fits = and_parts (nat_lt 0 height && nat_le 2 (length (reaching v height))) (nat_le end (2 ^ 48)) both.1 in
    let reached = and_parts (nat_lt 0 height) (nat_le 2 (length (reaching v height))) fits.0 in
    record {
      number = eqb-true n s.made next.0;
      joined = eqb-true s.joined s.made none.0;
      few = ltb-true s.made 16 none.1;
      some = ltb-true 0 height reached.0;
      members = leb-true 2 (length (reaching v height)) reached.1;
      room = leb-true end (2 ^ 48) fits.1;
    }

-- its members are places of the list
pub reaching_listed : (v : Raid) (height : ℕ) → All (λ (p : ℕ). p < length v.state.drives.items) (reaching v height)
reaching_listed v height =
    let many = length v.state.drives.items in
    All-filter (reaches v.state (top_of v + height)) (λ (p : ℕ). p < many) (range_with_len 0 many)
    (λ k d low.
    let long = length-range_with_len 0 many in
    let at = get_or-range_with_len 0 many k d (omega (arith, low, long)) in
    omega (arith, at, low, long))

-- so there is a drive, and layers have an extent
pub some_drive : (v : Raid) (height : ℕ) → 2 ≤ length (reaching v height) → 0 < length v.state.drives.items
some_drive v height two =
    let places = range_with_len 0 (length v.state.drives.items) in
    let reached = reaches v.state (top_of v + height) in
    omega (arith, two, length-filter reached places, count_by-le-length reached places, length-range_with_len 0 (length v.state.drives.items))

pub set_extent : (v : Raid) (x : RackView) → IsSet v x → 0 < length v.state.drives.items → is_extent v.state.extent ≡ true
set_extent v x set some = (and_parts (is_extent v.state.extent) _ (set.valid 0 some)).0

-- ---- drives

-- a drive of the list is as large as it was
reaches_by : (extents : ℕ) (o : Option Drive) → option_map_or (λ (d : Drive). nat_le extents d.units) o false
    ≡ option_map_or (λ (d : List ℕ × ℕ). nat_le extents d.1) (option_map drive_of o) false
reaches_by extents None = refl
reaches_by extents (Some d) = refl

pub reaches_still : (s t : State) (extents place : ℕ) → OnlyMarksSince s t → reaches t extents place ≡ reaches s extents place
reaches_still s t extents place after =
    let large : Option (List ℕ × ℕ) → Bool = λ o. option_map_or (λ (d : List ℕ × ℕ). nat_le extents d.1) o false in
    reaches_by extents (slice_get t.drives.items place)
    ∙ ap large (sym (slice_get-map drive_of t.drives.items place) ∙ ap (λ ds. slice_get ds place) after.same.drives ∙ slice_get-map drive_of s.drives.items place)
    ∙ sym (reaches_by extents (slice_get s.drives.items place))

pub as_many : (s t : State) → OnlyMarksSince s t → length t.drives.items ≡ length s.drives.items
as_many s t after = sym (length-map t.drives.items drive_of) ∙ ap length after.same.drives ∙ length-map s.drives.items drive_of

-- ---- arrays

-- what goes by the sizes of the arrays
sum_still : (f g : View → ℕ) (v w : Raid) → LosesBook v w → ((n : ℕ) → n < v.state.made → g (w.arrays n) ≡ f (v.arrays n)) → sum_by g (views_of w) ≡ sum_by f (views_of v)
sum_still f g v w loses same =
    ap (λ made. sum_by g (map w.arrays (range_with_len 0 made))) loses.marks.same.made
    ∙ sum_mapped g w.arrays (range_with_len 0 v.state.made)
    ∙ sum_same (λ k. g (w.arrays k)) (λ k. f (v.arrays k)) 0 v.state.made (λ k low. same k (omega (arith, low)))
    ∙ sym (sum_mapped f v.arrays (range_with_len 0 v.state.made))

pub top_still : (v w : Raid) → LosesBook v w → top_of w ≡ top_of v
top_still v w loses =
    let extent = loses.marks.same.extent in
    sum_still (height_of v.state.extent) (height_of w.state.extent) v w loses
    (λ n low. let size = (loses.arrays n low).same.geometry.size in λ i. (size i - 2048) / extent i)

-- THE SAME PLACES REACH A NEW ARRAY
pub reaching_still : (v w : Raid) (height : ℕ) → LosesBook v w → reaching w height ≡ reaching v height
reaching_still v w height loses =
    let top = top_still v w loses in
    let many = as_many v.state w.state loses.marks in
    ap (λ extents. filter (reaches w.state (extents + height)) (range_with_len 0 (length w.state.drives.items))) top
    ∙ ap (λ k. filter (reaches w.state (top_of v + height)) (range_with_len 0 k)) many
    ∙ filter_agree (reaches w.state (top_of v + height)) (reaches v.state (top_of v + height)) (λ place. reaches_still v.state w.state (top_of v + height) place loses.marks)
    (range_with_len 0 (length v.state.drives.items))

pub size_still : (v w : Raid) (height : ℕ) → LosesBook v w → new_size w height ≡ new_size v height
size_still v w height loses = ap (λ extent. height * extent + 2048) loses.marks.same.extent

-- all slices of members together end where they did
pub first_still : (v w : Raid) → LosesBook v w → first_in (views_of w) w.state.made ≡ first_in (views_of v) v.state.made
first_still v w loses =
    let all : (u : Raid) → first_in (views_of u) u.state.made ≡ 10240 + sum_by slice_length (views_of u) =
    λ u. ap (λ us. 10240 + sum_by slice_length us) (take-map-range_with_len u.arrays 0 u.state.made u.state.made (omega arith)) in
    all w
    ∙ ap (λ k. 10240 + k) (sum_still slice_length slice_length v w loses (λ n low. ap (λ size. size + 2048) (loses.arrays n low).same.geometry.size))
    ∙ sym (all v)

-- SO IT MAY STILL BE MADE
pub may_make_still : (v w : Raid) (n height : ℕ) → LosesBook v w → may_make w n height ≡ may_make v n height
may_make_still v w n height loses =
    let made = loses.marks.same.made in
    let joined = loses.marks.same.joined in
    let reaching = reaching_still v w height loses in
    let first = first_still v w loses in
    let size = size_still v w height loses in
    λ i.
    ((n == made i) && ((joined i == made i) && nat_lt (made i) 16))
    && ((nat_lt 0 height && nat_le 2 (length (reaching i))) && nat_le (first i + size i + 2048 + 33) (2 ^ 48))

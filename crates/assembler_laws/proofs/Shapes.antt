-- An array of which just drives without a disk are marked, or noted as gone, has the shape that its pool gives it.
use Rattle.std.proofs.Common.{◌≡◌, ◌⊎◌, ℕ, ◌+◌, ◌<◌, Bool, true, false, ◌&&◌, not, is_some, if◌then◌else◌, [], map, slice_get, Option, Some, None, option_map, unwrap_or, inl, inr, refl, sym, ap, subst, ◌∙◌, le-ltb, arith}
use Rattle.std.specs.Option.{option_map_or}
use Rattle.std.specs.List.{range_with_len}
use Rattle.std.proofs.lemmas.Bool.{both_ways}
use Rattle.arrayvec.specs.ArrayVec.{ArrayVec}
use Rattle.rack.specs.Seen.{RackView}
use Rattle.slice_rack.specs.Slices.{Slices, disk_of, first_of as slice_first, sectors_of}
use Rattle.md_super.specs.declared.superblock.Super.{Super}
use Rattle.array_image.specs.Arrays.{final_layout, first_layout, member_by, member_in, place_with, shape_by}
use Rattle.array_image.specs.Places.{member_slice, place_of, super_sector}
use Rattle.array_image.specs.States.{is_current}
use Rattle.array_image.specs.Supers.{is_rebuilding, is_reshaping}
use Rattle.array_model.specs.declared.Seat.{Seat}
use Rattle.array_model.specs.declared.Seat.TheVariants.{Whole, Missing, Rebuilding}
use Rattle.array_model.specs.View.{View, has_gone, is_missing_seat, member_by_seat, member_on, place_at, shape_of}
use Rattle.array_core.specs.Opening.{seat_by}
use Rattle.array_core.specs.Seats.{names}
use Rattle.array_core.specs.Slots.{place_by}
use Rattle.array_core.proofs.Opened.{map_ranged}
use Rattle.raid_laws.specs.Moves.{IsSeated}
use Rattle.raid_laws.specs.Raid.{Raid}
use Rattle.pool_image.specs.Drives.{Found, slices_of}
use Rattle.pool_image.specs.Meaning.{shape_of as shape_found, super_at, truth_of}
use Rattle.pool_image.proofs.Composed.{empty, same_slices}
use Rattle.pool_model.specs.Pools.{AreSlicesOf}
use Rattle.pool_model.proofs.Layers.{nothing_super}
use Rattle.assembler_laws.specs.Holding.{IsArrayOf}

-- ---- members

-- the superblock that counts on a place
abbrev counting : Bool → Option Super → Option Super
counting current o = if current then o else None

missing_is : (seat : Seat) → is_missing_seat seat ≡ true → seat ≡ Missing
missing_is Missing is = refl
missing_is Whole is = absurd (both_ways false refl is)
missing_is (Rebuilding to) is = absurd (both_ways false refl is)

-- of a place that was current and had no disk there is no superblock
none_counts : (current seated : Bool) (o : Option Super) → (current && seated) ≡ false → (seated ≡ false → o ≡ None) → counting current o ≡ None
none_counts false seated o lost none = refl
none_counts true seated o lost none = none lost

-- A member that is missing has lost its place; else it counts as far as its own superblock says.
seat_either : (current seated now : Bool) (o : Option Super) (seat : Seat) → (now ≡ true → current ≡ true) → (now ≡ false → (current && seated) ≡ false)
    → (seated ≡ false → o ≡ None) → is_missing_seat seat ≡ not now
    → (seat ≡ Missing) ⊎ (seat ≡ option_map_or seat_by o Missing) → seat ≡ option_map_or seat_by (counting current o) Missing
seat_either current seated false o seat kept lost none is either =
    missing_is seat is ∙ sym (ap (λ k. option_map_or seat_by k Missing) (none_counts current seated o (lost refl) none))
seat_either current seated true o seat kept lost none is either = elim either [
  | inl missing ↦ absurd (both_ways true (sym (ap is_missing_seat missing) ∙ is) refl)
  | inr said ↦ said ∙ sym (ap (λ (b : Bool). option_map_or seat_by (counting b o) Missing) (kept refl))
]

-- a member whose superblock is there
rebuilt_so : (size place offset : ℕ) (b : Bool) → member_by_seat size place (Some (if b then Rebuilding offset else Whole))
    ≡ record { place = place; reach = if b then offset else size; is_there = true; is_whole = not b }
rebuilt_so size place offset true = refl
rebuilt_so size place offset false = refl

-- that is the member of the image
member_said : (size place : ℕ) (current : Bool) (o : Option Super)
    → member_by_seat size place (Some (option_map_or seat_by (counting current o) Missing)) ≡ member_by size place current o
member_said size place false o = refl
member_said size place true None = refl
member_said size place true (Some u) = rebuilt_so size place u.recovery_offset (is_rebuilding u)

-- ---- an array

-- a place without a disk has no superblock
super_unseated : (f : Found) (t : Slices) (n p : ℕ) → AreSlicesOf f t → n < 16 → f.seats p ≡ None → super_at f n p ≡ None
super_unseated f t n p lie few none =
    let k = member_slice p n in
    let seat : f.seats (place_of k) ≡ None = ap f.seats (let same : place_of (member_slice p n) ≡ p = omega (arith, few) in same) ∙ none in
    let nothing = lie.unseated k seat in
    nothing_super f.state (slices_of f) n p
    (same_slices f t k super_sector (empty nothing seat)
    ∙ ap (λ (b : Bool). if b then f.contents (disk_of t k) (slice_first t k + super_sector) else []) (le-ltb super_sector (sectors_of t k) (omega (arith, nothing))))

some_bool : (a b : Bool) → Some a ≡ Some b → a ≡ b
some_bool a b same = cc

some_seat : (a b : Seat) → Some a ≡ Some b → a ≡ b
some_seat a b same = cc

seat_some : (o : Option Seat) (b : Bool) → option_map is_missing_seat o ≡ Some b → (seat : Seat) × (o ≡ Some seat) × (is_missing_seat seat ≡ b)
seat_some None b is = absurd (let bad : None ≡ Some b = is in cc)
seat_some (Some seat) b is = (seat, refl, some_bool (is_missing_seat seat) b is)

and_true : (b : Bool) → (b && true) ≡ b
and_true true = refl
and_true false = refl

unseated : (o : Option ℕ) → is_some o ≡ false → o ≡ None
unseated None none = refl
unseated (Some d) none = absurd (both_ways true none refl)

-- The members whose places are left are on current places of the pool, and no other current place has a disk.
module _ (f : Found) (slices : Slices) (lie : AreSlicesOf f slices) (n : ℕ) (few : n < 16) (t : Super) (v : Raid) (y : RackView) (of : IsArrayOf f n t (v.arrays n))
    (seated : IsSeated v.state n (v.arrays n) y)
    (kept : (p : ℕ) → (is_current v.state p && not (has_gone (v.arrays n) p)) ≡ true → is_current f.state p ≡ true)
    (lost : (p : ℕ) → (is_current v.state p && not (has_gone (v.arrays n) p)) ≡ false → (is_current f.state p && is_some (f.seats p)) ≡ false) where
  abbrev w : View
  w = v.arrays n

  abbrev is_here : ℕ → Bool
  is_here p = is_current v.state p && not (has_gone w p)

  place_same : (k : ℕ) → place_at w k ≡ place_by t k
  place_same k = ap (λ (r : ArrayVec ℕ). unwrap_or (place_with r.items k) 16) of.geometry.roles

  -- who is missing isn't left
  missing_now : (k : ℕ) → k < t.raid_disks → option_map is_missing_seat (slice_get w.seats k) ≡ Some (not (is_here (place_by t k)))
  missing_now k low = seated.marks k (subst (λ m. k < m) (sym of.geometry.disks) low) ∙ ap (λ p. Some (not (is_here p))) (place_same k)

  seat_now : (k : ℕ) → k < t.raid_disks
      → slice_get w.seats k ≡ Some (option_map_or seat_by (counting (is_current f.state (place_by t k)) (super_at f n (place_by t k))) Missing)
  seat_now k low =
      let p = place_by t k in
      let own = super_at f n p in
      let one = seat_some (slice_get w.seats k) (not (is_here p)) (missing_now k low) in
      one.1
      ∙ ap Some (seat_either (is_current f.state p) (is_some (f.seats p)) (is_here p) own one.0 (kept p) (lost p)
      (λ none. super_unseated f slices n p lie few (unseated (f.seats p) none)) one.2
      (elim (of.members k low) [
        | inl missing ↦ inl (some_seat one.0 Missing (sym one.1 ∙ missing))
        | inr said ↦ inr (some_seat one.0 (option_map_or seat_by own Missing) (sym one.1 ∙ said))
      ]))

  member_same : (k : ℕ) → k < t.raid_disks → member_on w k ≡ member_in f.state (slices_of f) n t k
  member_same k low =
      let so : member_on w k
      ≡ member_by_seat t.size (place_by t k) (Some (option_map_or seat_by (counting (is_current f.state (place_by t k)) (super_at f n (place_by t k))) Missing)) =
      λ i. member_by_seat (of.geometry.size i) (place_same k i) (seat_now k low i) in
      so ∙ member_said t.size (place_by t k) (is_current f.state (place_by t k)) (super_at f n (place_by t k))

  members_same : map (member_on w) (range_with_len 0 w.truth.raid_disks) ≡ map (member_in f.state (slices_of f) n t) (range_with_len 0 t.raid_disks)
  members_same =
      ap (λ m. map (member_on w) (range_with_len 0 m)) of.geometry.disks
      ∙ map_ranged (member_on w) (member_in f.state (slices_of f) n t) 0 t.raid_disks (λ k least low. member_same k (omega (arith, low)))

  same_shape : shape_of w ≡ shape_by f.state (slices_of f) n t
  unfolding shape_of shape_by
  same_shape =
      let g = of.geometry in
      λ i. record {
        members = members_same i;
        size = g.size i;
        moved = final_layout (record t { level = g.level i; raid_disks = g.disks i });
        layout = first_layout (record t { level = g.level i; raid_disks = g.disks i; feature_map = g.features i });
        reached = if is_reshaping (record t { feature_map = g.features i }) then g.position i else 0;
      }

  pub shape_left : truth_of f n ≡ Some t → shape_found f n ≡ Some (shape_of w)
  shape_left truth = ap (option_map (shape_by f.state (slices_of f) n)) truth ∙ ap Some (sym same_shape)

-- an array that was heeded, by a book that marks just the places without a disk, or some of them
pub shape_heeded : (f : Found) (slices : Slices) → AreSlicesOf f slices → (n : ℕ) → n < 16 → (t : Super) (v : Raid) (y : RackView) → IsArrayOf f n t (v.arrays n)
    → IsSeated v.state n (v.arrays n) y → (v.arrays n).went ≡ [] → ((p : ℕ) → is_current v.state p ≡ true → is_current f.state p ≡ true)
    → ((p : ℕ) → is_current v.state p ≡ false → (is_current f.state p && is_some (f.seats p)) ≡ false) → truth_of f n ≡ Some t → shape_found f n ≡ Some (shape_of (v.arrays n))
shape_heeded f slices lie n few t v y of seated heeded kept lost =
    shape_left f slices lie n few t v y of seated (λ p is. kept p (sym (here p) ∙ is)) (λ p is. lost p (sym (here p) ∙ is))
  where
    here : (p : ℕ) → (is_current v.state p && not (has_gone (v.arrays n) p)) ≡ is_current v.state p
    here p = ap (λ ps. is_current v.state p && not (names ps p)) heeded ∙ and_true (is_current v.state p)

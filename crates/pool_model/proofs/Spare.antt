-- A whole array of whose members one is away: each of its sectors has its value, and no more than one member lacks.
use Rattle.std.proofs.Common.{◌≡◌, ◌≢◌, ℕ, zero, suc, ◌+◌, ◌/◌, ◌%◌, ◌<◌, ◌≤◌, Bool, true, false, ◌==◌, ◌&&◌, ◌||◌, not, nat_lt, if◌then◌else◌, List, [], ◌∷◌, filter, get_or, map, length, Some, option_map, slice_get, unwrap_or, refl, sym, ap, ap₂, subst, ◌∙◌, inl, inr, eqb-true, lt-ltb, ltb-true, arith}
use Rattle.std.specs.List.{range_with_len}
use Rattle.std.proofs.lemmas.Bool.{and_parts, cases_eq}
use Rattle.std.proofs.lemmas.List.Quantifiers.{position-Some}
use Rattle.std.proofs.lemmas.List.Sums.{length-filter}
use Rattle.rack.specs.Seen.{Image}
use Rattle.raid_map.specs.LeftSymmetric.{row_at}
use Rattle.shr_base.specs.declared.Id.{Id}
use Rattle.md_super.specs.declared.superblock.Super.{Super}
use Rattle.md_super.specs.Profile.{is_raid5}
use Rattle.pool_state.specs.declared.contents.State.{State}
use Rattle.array_image.specs.Arrays.{Member, Shape, layout_at, member_by, member_in, place_with, sectors_by, shape_by, value_by}
use Rattle.array_image.specs.Even.{AreEven}
use Rattle.array_image.specs.Held.{Among}
use Rattle.array_image.specs.Marks.{lower, lowered, unless_gone}
use Rattle.array_image.specs.Places.{data_sector, member_slice}
use Rattle.array_image.specs.Spent.{spent_by, spent_with, wanting}
use Rattle.array_image.specs.States.{is_current}
use Rattle.array_image.specs.Stripes.{sector_in}
use Rattle.array_image.specs.Supers.{is_rebuilding, is_reshaping, new_row, super_in}
use Rattle.array_image.proofs.Losing.{length_map}
use Rattle.array_model.specs.declared.Seat.TheVariants.{Whole}
use Rattle.array_model.specs.View.{IsArray, View, member_by_seat, member_on, place_at, shape_of}
use Rattle.array_model.proofs.Layouts.{sector_inside}
use Rattle.array_model.proofs.Noting.{laid_out}
use Rattle.array_model.proofs.Spared.{lost_value}
use Rattle.array_core.proofs.Rules.{get_map, get_range, placed}
use Rattle.array_core.proofs.Truths.{Truth}
use Rattle.pool_image.specs.Meaning.{lacking_of}
use Rattle.pool_image.proofs.Groups.{map_below}
use Rattle.pool_model.proofs.Lacking.{only_place}

-- ---- at most one fails

-- how many of a list fail
abbrev failing : (Member → Bool) → List Member → ℕ
failing test [] = 0
failing test (m ∷ ms) = if test m then failing test ms else suc (failing test ms)

wanting_is : (sector : ℕ) (ms : List Member) → wanting sector ms ≡ failing (λ m. nat_lt sector m.reach) ms
wanting_is sector [] = refl
wanting_is sector (m ∷ ms) = ap (λ k. if nat_lt sector m.reach then k else suc k) (wanting_is sector ms)

lacking_is : (ms : List Member) → length (filter (λ (m : Member). not m.is_whole) ms) ≡ failing (λ m. m.is_whole) ms
lacking_is [] = refl
lacking_is (m ∷ ms) = of m.is_whole (lacking_is ms)
  where
    rest : List Member
    rest = filter (λ (k : Member). not k.is_whole) ms

    of : (b : Bool) → length rest ≡ failing (λ k. k.is_whole) ms → length (if not b then m ∷ rest else rest) ≡ (if b then failing (λ k. k.is_whole) ms else suc (failing (λ k. k.is_whole) ms))
    of true same = same
    of false same = ap suc same

module _ (test : Member → Bool) (f : ℕ → Member) (p : ℕ) where
  abbrev left : ℕ → ℕ → List Member
  left a m = map (lower (only_place p)) (map f (range_with_len a m))

  none_fails : (a m : ℕ) → ((k : ℕ) → a ≤ k → k < a + m → test (lower (only_place p) (f k)) ≡ true) → failing test (left a m) ≡ 0
  none_fails a zero each = refl
  none_fails a (suc m) each =
      ap (λ (b : Bool). if b then failing test (left (a + 1) m) else suc (failing test (left (a + 1) m))) (each a (omega arith) (omega arith))
      ∙ none_fails (a + 1) m (λ k least most. each k (omega (arith, least)) (omega (arith, most)))

  one_fails : (a m : ℕ)
      → ((k : ℕ) → a ≤ k → k < a + m → (f k).place ≢ p → test (lower (only_place p) (f k)) ≡ true)
      → ((j k : ℕ) → a ≤ j → j < a + m → a ≤ k → k < a + m → (f j).place ≡ p → (f k).place ≡ p → j ≡ k)
      → failing test (left a m) ≤ 1
  one_fails a zero each once = omega arith
  one_fails a (suc m) each once = elim (cases_eq (f a).place p) [
    | inr other ↦
        let first = each a (omega arith) (omega arith) other in
        let is = ap (λ (b : Bool). if b then failing test (left (a + 1) m) else suc (failing test (left (a + 1) m))) first in
        let rest =
        one_fails (a + 1) m (λ k least most. each k (omega (arith, least)) (omega (arith, most)))
        (λ j k least_j most_j least_k most_k. once j k (omega (arith, least_j)) (omega (arith, most_j)) (omega (arith, least_k)) (omega (arith, most_k))) in
        omega (arith, is, rest)
    | inl same ↦
        let rest = none_fails (a + 1) m (λ k least most. each k (omega (arith, least)) (omega (arith, most))
        (λ here. let at = once a k (omega arith) (omega arith) (omega (arith, least)) (omega (arith, most)) same here in omega (arith, at, least))) in
        few (test (lower (only_place p) (f a))) (failing test (left (a + 1) m)) rest
  ]
    where
      few : (b : Bool) (k : ℕ) → k ≡ 0 → (if b then k else suc k) ≤ 1
      few true k none = omega (arith, none)
      few false k none = omega (arith, none)

-- ---- a whole array

-- the array of a superblock, all of whose members are there
abbrev pub whole_view : ℕ → Super → View
whole_view n t = record {
  number = n;
  truth = t;
  seats = map (λ k. Whole) (range_with_len 0 t.raid_disks);
  devices = map (λ k. record { 0 = [] }) (range_with_len 0 t.raid_disks);
  went = [];
  resync = t.size / 128;
  young = false;
  marked = false;
}

length_range : (a n : ℕ) → length (range_with_len a n) ≡ n
length_range a zero = refl
length_range a (suc n) = ap suc (length_range (a + 1) n)

module _ (n : ℕ) (t : Super) (few : n < 16) (facts : Truth t) where
  abbrev v : View
  v = whole_view n t

  reshape_row : is_reshaping t ≡ true → (is_raid5 t ≡ true) × (3 ≤ t.raid_disks) × (t.reshape_position % new_row t ≡ 0)
  reshape_row reshapes =
      let all : (is_raid5 t && (nat_lt 2 t.raid_disks && (t.reshape_position % new_row t == 0))) ≡ true =
      sym (ap (λ (b : Bool). not b || (is_raid5 t && (nat_lt 2 t.raid_disks && (t.reshape_position % new_row t == 0)))) reshapes) ∙ facts.row in
      let one = and_parts (is_raid5 t) _ all in
      let two = and_parts (nat_lt 2 t.raid_disks) _ one.1 in
      (one.0, (let many = ltb-true 2 t.raid_disks two.0 in omega (arith, many)), eqb-true (t.reshape_position % new_row t) 0 two.1)

  pub is_array : IsArray v
  is_array = record {
    few = few;
    level = facts.level;
    least = facts.least;
    most = facts.most;
    seats = length_map (λ k. Whole) (range_with_len 0 t.raid_disks) ∙ length_range 0 t.raid_disks;
    devices = length_map (λ (k : ℕ). let id : Id = record { 0 = [] } in id) (range_with_len 0 t.raid_disks) ∙ length_range 0 t.raid_disks;
    small = facts.small;
    whole_rows = facts.whole_rows;
    placed = λ k low. placed t k facts.positions low;
    synced = omega arith;
    reshape = reshape_row;
  }

  -- a position is that of its place alone
  pub apart : (j k : ℕ) → j < t.raid_disks → k < t.raid_disks → place_at v j ≡ place_at v k → j ≡ k
  apart j k low_j low_k same =
      let one = placed t j facts.positions low_j in
      let two = placed t k facts.positions low_k in
      let first : place_at v j ≡ one.0 = ap (λ o. unwrap_or o 16) one.1 in
      let second : place_at v k ≡ two.0 = ap (λ o. unwrap_or o 16) two.1 in
      let at_j = position-Some (λ role. role == j) t.roles.items one.0 0 one.1 in
      let at_k = position-Some (λ role. role == k) t.roles.items two.0 0 two.1 in
      sym (eqb-true (get_or t.roles.items one.0 0) j at_j.1)
      ∙ ap (λ q. get_or t.roles.items q 0) (sym first ∙ same ∙ second)
      ∙ eqb-true (get_or t.roles.items two.0 0) k at_k.1

  seat_whole : (k : ℕ) → k < t.raid_disks → slice_get v.seats k ≡ Some Whole
  seat_whole k low = get_map (λ k. Whole) (range_with_len 0 t.raid_disks) k ∙ ap (option_map (λ k. Whole)) (get_range 0 t.raid_disks k low)

  pub member_is : (k : ℕ) → k < t.raid_disks → member_on v k ≡ member_by_seat t.size (place_at v k) (Some Whole)
  member_is k low = ap (member_by_seat t.size (place_at v k)) (seat_whole k low)

  module _ (p : ℕ) where
    left_one : (k : ℕ) → k < t.raid_disks → (member_on v k).place ≢ p → lower (only_place p) (member_on v k) ≡ member_by_seat t.size (place_at v k) (Some Whole)
    left_one k low other =
        ap (λ (b : Bool). unless_gone b (member_on v k)) (no (place_at v k == p) (λ same. other (eqb-true (place_at v k) p same))) ∙ member_is k low
      where
        no : (b : Bool) → (b ≡ true → ⊥) → b ≡ false
        no true never = absurd (never refl)
        no false never = refl

    once : (j k : ℕ) → 0 ≤ j → j < 0 + t.raid_disks → 0 ≤ k → k < 0 + t.raid_disks → (member_on v j).place ≡ p → (member_on v k).place ≡ p → j ≡ k
    once j k least_j most_j least_k most_k at_j at_k = apart j k (omega (arith, most_j)) (omega (arith, most_k)) (at_j ∙ sym at_k)

    few_wanting : (sector : ℕ) → sector < t.size → wanting sector (lowered (only_place p) (shape_of v)).members ≤ 1
    unfolding shape_of
    few_wanting sector low =
        let is = wanting_is sector (map (lower (only_place p)) (map (member_on v) (range_with_len 0 t.raid_disks))) in
        let most =
        one_fails (λ m. nat_lt sector m.reach) (member_on v) p 0 t.raid_disks
        (λ k least less other. ap (λ (m : Member). nat_lt sector m.reach) (left_one k (omega (arith, less)) other) ∙ lt-ltb sector t.size low) once in
        omega (arith, is, most)

    few_lacking : lacking_of (lowered (only_place p) (shape_of v)) ≤ 1
    unfolding shape_of
    few_lacking =
        let ms = map (lower (only_place p)) (map (member_on v) (range_with_len 0 t.raid_disks)) in
        let is : lacking_of (lowered (only_place p) (shape_of v)) ≡ failing (λ m. m.is_whole) ms =
        sym (length-filter (λ (m : Member). not m.is_whole) ms) ∙ lacking_is ms in
        let most =
        one_fails (λ m. m.is_whole) (member_on v) p 0 t.raid_disks
        (λ k least less other. ap (λ (m : Member). m.is_whole) (left_one k (omega (arith, less)) other)) once in
        omega (arith, is, most)

    unspent : (x : ℕ) → x < sectors_by (shape_of v) → spent_by (lowered (only_place p) (shape_of v)) (t.size / 128) x ≡ false
    unfolding shape_of
    unspent x inside =
        let sector = sector_in (layout_at (shape_of v) x) x in
        let low : sector < t.size = sector_inside v x is_array inside in
        let row : row_at sector < t.size / 128 = (let rows = facts.whole_rows in omega (arith, low, rows)) in
        ap (spent_with (wanting sector (map (lower (only_place p)) (map (member_on v) (range_with_len 0 t.raid_disks))))) (lt-ltb (row_at sector) (t.size / 128) row)
        ∙ synced (wanting sector (map (lower (only_place p)) (map (member_on v) (range_with_len 0 t.raid_disks)))) (few_wanting sector low)
      where
        synced : (k : ℕ) → k ≤ 1 → spent_with k true ≡ false
        synced zero few = refl
        synced (suc zero) few = refl
        synced (suc (suc k)) few = absurd (omega (arith, few))

    value_spare : (c : Image) (x : ℕ) → AreEven (shape_of v) n (t.size / 128) c
        → ((m : Member) (sector : ℕ) → Among m (shape_of v).members → sector < m.reach → length (c (member_slice m.place n) (data_sector + sector)) ≡ 512)
        → x < sectors_by (shape_of v)
        → value_by (lowered (only_place p) (shape_of v)) c n x ≡ value_by (shape_of v) c n x
    value_spare c x even sized inside =
        lost_value (only_place p) (shape_of v) n (t.size / 128) c x (laid_out v is_array) even sized (unspent x inside)

  -- ---- by the superblocks

  -- each member is there, and isn't rebuilding
  pub record HasAll (s : State) (c : Image) : Type 0 where
    pub all :
        (k q : ℕ) → k < t.raid_disks → place_with t.roles.items k ≡ Some q
        → (is_current s q ≡ true) × (own : Super) × (super_in s c n q ≡ Some own) × (is_rebuilding own ≡ false)

  module _ (s : State) (c : Image) (has : HasAll s c) where
    member_whole : (k : ℕ) → k < t.raid_disks → member_in s c n t k ≡ member_on v k
    member_whole k low =
        let one = placed t k facts.positions low in
        let q = unwrap_or (place_with t.roles.items k) 16 in
        let here : q ≡ one.0 = ap (λ o. unwrap_or o 16) one.1 in
        let all = has.all k one.0 low one.1 in
        ap₂ (member_by t.size q) (ap (is_current s) here ∙ all.0) (ap (super_in s c n) here ∙ all.2)
        ∙ ap (λ (b : Bool). record { place = q; reach = if b then all.1.recovery_offset else t.size; is_there = true; is_whole = true && not b }) all.3
        ∙ sym (member_is k low)

    pub shape_whole : shape_by s c n t ≡ shape_of v
    unfolding shape_by shape_of
    shape_whole =
        ap (λ (ms : List Member). record (shape_by s c n t) { members = ms })
        (map_below (member_in s c n t) (member_on v) 0 t.raid_disks (λ k low. member_whole k (omega (arith, low))))

    pub spare_value : (p x : ℕ) → AreEven (shape_by s c n t) n (t.size / 128) c
        → ((m : Member) (sector : ℕ) → Among m (shape_by s c n t).members → sector < m.reach → length (c (member_slice m.place n) (data_sector + sector)) ≡ 512)
        → x < sectors_by (shape_by s c n t)
        → value_by (lowered (only_place p) (shape_by s c n t)) c n x ≡ value_by (shape_by s c n t) c n x
    spare_value p x even sized inside =
        subst (λ (z : Shape). value_by (lowered (only_place p) z) c n x ≡ value_by z c n x) (sym shape_whole)
        (value_spare p c x (subst (λ (z : Shape). AreEven z n (t.size / 128) c) shape_whole even)
        (subst (λ (z : Shape). (m : Member) (sector : ℕ) → Among m z.members → sector < m.reach → length (c (member_slice m.place n) (data_sector + sector)) ≡ 512) shape_whole sized)
        (subst (λ (z : Shape). x < sectors_by z) shape_whole inside))

    pub spare_lacking : (p : ℕ) → lacking_of (lowered (only_place p) (shape_by s c n t)) ≤ 1
    spare_lacking p = subst (λ (z : Shape). lacking_of (lowered (only_place p) z) ≤ 1) (sym shape_whole) (few_lacking p)

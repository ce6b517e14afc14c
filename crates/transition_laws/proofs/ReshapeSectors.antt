-- The sectors that an array has before and after each step of a reshape: none goes, and they come with the rows that are moved.
use Rattle.std.proofs.Common.{◌≡◌, ◌==◌, ℕ, pos, bit_and, int_eq, ◌+◌, ◌-◌, ◌*◌, ◌<◌, ◌≤◌, Bool, true, false, ◌&&◌, ◌||◌, not, nat_lt, if◌then◌else◌, refl, sym, subst, ap, ap₂, ◌∙◌, inl, inr, le-ltb, lt-ltb, ltb-true, arith}
use Rattle.std.proofs.Math.Nat.{mul-le-mul_right}
use Rattle.std.proofs.lemmas.Bool.{both_ways, cases_lt}
use Rattle.raid_map.specs.LeftSymmetric.{row_at}
use Rattle.shr_base.specs.declared.Id.{Id}
use Rattle.md_super.specs.Profile.{is_mirror}
use Rattle.array_image.specs.Arrays.{final_layout, first_layout, layout_at}
use Rattle.array_image.specs.SoundArray.{first_unsynced}
use Rattle.array_image.specs.Spent.{spent_with, wanting}
use Rattle.array_image.specs.Stripes.{capacity, mirror, parity, sector_in}
use Rattle.array_image.specs.Supers.{is_reshaping}
use Rattle.array_model.specs.declared.Seat.{Seat}
use Rattle.array_model.specs.View.{IsArray, sectors_of, shape_of, spent_in, View}
use Rattle.raid_laws.proofs.Seated.{or_last}
use Rattle.reshape_laws.specs.Ahead.{ahead_by, begun, finished, taken_over}
use Rattle.pool_state.specs.declared.contents.State.{State}
use Rattle.transition_laws.specs.Changes.{Maintains}
use Rattle.transition_laws.specs.Holds.{has_sector, moved_to}

-- of arrays that aren't young
pub steady : (u : View) (size moved : ℕ) → u.young ≡ false → sectors_of u ≡ size → moved_to u.truth ≡ moved → (y : ℕ) → has_sector u y ≡ (nat_lt y size || nat_lt y moved)
steady u size moved young sized at y =
    ap (λ b. (nat_lt y (sectors_of u) || nat_lt y (moved_to u.truth)) && (not b || nat_lt (row_at (sector_in (first_layout u.truth) y)) (first_unsynced u.truth))) young
    ∙ and_true (nat_lt y (sectors_of u) || nat_lt y (moved_to u.truth))
    ∙ ap₂ (λ c m. nat_lt y c || nat_lt y m) sized at
  where
    and_true : (b : Bool) → (b && true) ≡ b
    and_true true = refl
    and_true false = refl

unmoved : (u : View) → is_reshaping u.truth ≡ false → moved_to u.truth ≡ 0
unmoved u is = ap (λ (b : Bool). if b then u.truth.reshape_position else 0) is

laid : (u : View) → is_reshaping u.truth ≡ false → sectors_of u ≡ capacity (final_layout u.truth) u.truth.size
laid u is = ap (λ (b : Bool). capacity (if b then parity (u.truth.raid_disks - 1) else final_layout u.truth) u.truth.size) is

-- a mirror of two becomes RAID-5
pub taken_sectors : (v : View) (events : ℕ) → v.truth.raid_disks ≡ 2 → v.young ≡ false → is_reshaping v.truth ≡ false → is_mirror v.truth ≡ true → (y : ℕ)
    → has_sector v y ≡ has_sector (taken_over v events) y
taken_sectors v events two young not_reshaping mirrored y =
    let next = taken_over v events in
    let size : sectors_of next ≡ v.truth.size = laid next not_reshaping ∙ ap (λ k. (k - 1) * v.truth.size) two ∙ one v.truth.size in
    steady v v.truth.size 0 young (laid v not_reshaping ∙ ap (λ (b : Bool). capacity (if b then mirror v.truth.raid_disks else parity v.truth.raid_disks) v.truth.size) mirrored)
    (unmoved v not_reshaping) y
    ∙ sym (steady next v.truth.size 0 young size (unmoved next not_reshaping) y)
  where
    one : (n : ℕ) → 1 * n ≡ n
    one n = grind arith

-- it has two members
pub mirror_two : (v : View) → IsArray v → is_mirror v.truth ≡ true → v.truth.raid_disks ≡ 2
mirror_two v is_array mirrored =
    let most : v.truth.raid_disks ≤ 2 = subst (λ (b : Bool). v.truth.raid_disks ≤ (if b then 2 else 16)) mirrored is_array.most in
    let least = is_array.least in
    omega (arith, most, least)

-- a reshape begins with a member more
pub begun_sectors : (v : View) (events place : ℕ) (seat : Seat) (device : Id) → v.young ≡ false → is_reshaping v.truth ≡ false → is_mirror v.truth ≡ false → (y : ℕ)
    → has_sector v y ≡ has_sector (begun v events place seat device) y
begun_sectors v events place seat device young not_reshaping striped y =
    let next = begun v events place seat device in
    let size = (v.truth.raid_disks - 1) * v.truth.size in
    let was : sectors_of v ≡ size = laid v not_reshaping ∙ ap (λ (b : Bool). capacity (if b then mirror v.truth.raid_disks else parity v.truth.raid_disks) v.truth.size) striped in
    let same : sectors_of next ≡ size = ap (λ k. (k - 1) * v.truth.size) (let e : v.truth.raid_disks + 1 - 1 ≡ v.truth.raid_disks = omega arith in e) in
    steady v size 0 young was (unmoved v not_reshaping) y ∙ sym (steady next size 0 young same refl y)

-- rows are moved
pub ahead_sectors : (v : View) (many events : ℕ) → v.young ≡ false → (y : ℕ) → has_sector v y ≡ true → has_sector (ahead_by v many events) y ≡ true
ahead_sectors v many events young y has =
    let next = ahead_by v many events in
    let more : moved_to v.truth ≤ moved_to next.truth = further (is_reshaping v.truth) in
    steady next (sectors_of v) (moved_to next.truth) young refl refl y
    ∙ wider (nat_lt y (sectors_of v)) (moved_to v.truth) (moved_to next.truth) more (sym (steady v (sectors_of v) (moved_to v.truth) young refl refl y) ∙ has)
  where
    further : (b : Bool) → (if b then v.truth.reshape_position else 0) ≤ (if b then (ahead_by v many events).truth.reshape_position else 0)
    further true = omega arith
    further false = omega arith

    wider : (b : Bool) (m n : ℕ) → m ≤ n → (b || nat_lt y m) ≡ true → (b || nat_lt y n) ≡ true
    wider true m n more is = refl
    wider false m n more is = lt-ltb y n (let low = ltb-true y m is in omega (arith, low, more))

-- it ends once all rows are moved
pub finished_sectors : (v : View) (events : ℕ) → is_mirror v.truth ≡ false → v.young ≡ false → is_reshaping v.truth ≡ true
    → v.truth.reshape_position ≡ (v.truth.raid_disks - 1) * v.truth.size → (y : ℕ) → has_sector v y ≡ has_sector (finished v events) y
finished_sectors v events striped young reshaping whole y =
    let next = finished v events in
    let few = (v.truth.raid_disks - 1 - 1) * v.truth.size in
    let many = (v.truth.raid_disks - 1) * v.truth.size in
    let was : sectors_of v ≡ few = ap (λ (b : Bool). capacity (if b then parity (v.truth.raid_disks - 1) else final_layout v.truth) v.truth.size) reshaping in
    let moved : moved_to v.truth ≡ many = ap (λ (b : Bool). if b then v.truth.reshape_position else 0) reshaping ∙ whole in
    let now : sectors_of next ≡ many =
    ap (λ (b : Bool). capacity (if b then mirror v.truth.raid_disks else parity v.truth.raid_disks) v.truth.size) striped in
    steady v few many young was moved y ∙ joined few many (mul-le-mul_right v.truth.size (omega arith)) ∙ sym (steady next many 0 young now refl y)
  where
    joined : (few many : ℕ) → few ≤ many → (nat_lt y few || nat_lt y many) ≡ (nat_lt y many || nat_lt y 0)
    joined few many fewer = elim (cases_lt y many) [
      | inl low ↦ ap (λ b. nat_lt y few || b) (lt-ltb y many low) ∙ or_last (nat_lt y few) true refl ∙ sym (ap (λ b. b || nat_lt y 0) (lt-ltb y many low))
      | inr high ↦
          ap₂ (λ b c. b || c) (le-ltb y few (omega (arith, high, fewer))) (le-ltb y many (omega (arith, high)))
          ∙ sym (ap₂ (λ b c. b || c) (le-ltb y many (omega (arith, high))) (le-ltb y 0 (omega arith)))
    ]

-- ---- what is spent

final_at : (v : View) (y : ℕ) → is_reshaping v.truth ≡ true → y < v.truth.reshape_position → layout_at (shape_of v) y ≡ final_layout v.truth
unfolding shape_of
final_at v y reshaping low =
    ap (λ (b : Bool). if nat_lt y (if b then v.truth.reshape_position else 0) then final_layout v.truth else first_layout v.truth) reshaping
    ∙ ap (λ (b : Bool). if b then final_layout v.truth else first_layout v.truth) (lt-ltb y v.truth.reshape_position low)

-- the sectors that are moved already are spent where they were
pub ahead_spent : (v : View) (many events y : ℕ) → is_reshaping v.truth ≡ true → y < v.truth.reshape_position → spent_in (ahead_by v many events) y ≡ spent_in v y
unfolding shape_of
ahead_spent v many events y reshaping low =
    let next = ahead_by v many events in
    let more : y < next.truth.reshape_position = omega (arith, low) in
    ap (λ l. spent_with (wanting (sector_in l y) (shape_of v).members) (nat_lt (row_at (sector_in l y)) v.resync)) (final_at next y reshaping more ∙ sym (final_at v y reshaping low))

pub finished_spent : (v : View) (events y : ℕ) → is_reshaping v.truth ≡ true → y < v.truth.reshape_position → spent_in (finished v events) y ≡ spent_in v y
unfolding shape_of
finished_spent v events y reshaping low =
    ap (λ l. spent_with (wanting (sector_in l y) (shape_of v).members) (nat_lt (row_at (sector_in l y)) v.resync))
    (ap (λ (b : Bool). if b then final_layout v.truth else final_layout v.truth) (le-ltb y 0 (omega arith)) ∙ sym (final_at v y reshaping low))

-- ---- none of them is a step of maintenance, so a promise of all sectors doesn't go back over it

pub taken_new : (s : State) (v : View) (events : ℕ) → is_mirror v.truth ≡ true → Maintains s v (taken_over v events) → ⊥
taken_new s v events mirrored step = both_ways (is_mirror v.truth) (sym (ap (λ l. int_eq l (pos 1)) step.geometry.level)) mirrored

pub begun_new : (s : State) (v : View) (events place : ℕ) (seat : Seat) (device : Id) → Maintains s v (begun v events place seat device) → ⊥
begun_new s v events place seat device step = let more = step.geometry.disks in omega (arith, more)

pub ahead_new : (s : State) (v : View) (many events : ℕ) → IsArray v → 0 < many → Maintains s v (ahead_by v many events) → ⊥
ahead_new s v many events is_array some step =
    let least = is_array.least in
    let far = step.geometry.position in
    let more : 128 * (v.truth.raid_disks - 1) ≤ 128 * many * (v.truth.raid_disks - 1) = mul-le-mul_right (v.truth.raid_disks - 1) (omega (arith, some)) in
    omega (arith, least, far, more)

pub finished_new : (s : State) (v : View) (events : ℕ) → is_reshaping v.truth ≡ true → Maintains s v (finished v events) → ⊥
finished_new s v events reshaping step = both_ways (is_reshaping v.truth) (sym (ap (λ f. bit_and f 4 == 4) step.geometry.features)) reshaping

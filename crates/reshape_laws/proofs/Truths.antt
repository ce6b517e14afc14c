-- The truth after each step is one that an array can go by, and below the old end nothing is spent where at most one member is missing.
use Rattle.std.proofs.Common.{◌≡◌, ℕ, zero, suc, ◌+◌, ◌-◌, ◌*◌, ◌/◌, ◌%◌, ◌<◌, ◌≤◌, ◌^◌, Bool, true, false, ◌==◌, ◌&&◌, ◌||◌, not, nat_lt, nat_le, is_ok, Err, bit_and, if◌then◌else◌, List, [], ◌∷◌, length, get_or, refl, sym, ap, subst, ◌∙◌, lt-ltb, eq-eqb, arith}
use Rattle.std.proofs.lemmas.Bool.{and_from, and_parts, le-leb}
use Rattle.std.proofs.lemmas.List.{length-set}
use Rattle.std.specs.List.{list_all}
use Rattle.shr_base.specs.declared.Id.{Id}
use Rattle.md_super.specs.declared.superblock.Super.{Super}
use Rattle.md_super.specs.declared.superblock.Field.{Field}
use Rattle.md_super.specs.Profile.{first_broken, has_disks, is_height_of, is_mirror, is_raid5, profiled, rules}
use Rattle.raid_map.specs.LeftSymmetric.{row_at}
use Rattle.array_image.specs.Spent.{wanting, spent_with}
use Rattle.array_image.specs.Stripes.{sector_in}
use Rattle.array_image.specs.Arrays.{layout_at}
use Rattle.array_image.specs.Supers.{has_roles, has_whole_row, is_reshaping, new_row}
use Rattle.array_model.specs.declared.Seat.{Seat}
use Rattle.array_model.specs.View.{View, IsArray, rows_of, sectors_of, shape_of, spent_in}
use Rattle.array_model.proofs.Layouts.{sector_inside}
use Rattle.array_model.proofs.Views.{shape_members}
use Rattle.array_core.specs.Model.{is_truth}
use Rattle.array_core.specs.TruthHeld.{HasFewBits}
use Rattle.reshape_laws.specs.Ahead.{ahead_by, begun, finished, next_row, taken_over}
use Rattle.reshape_laws.specs.Reshapes.{lacks_two}
use Rattle.reshape_laws.proofs.Arrays.{ahead_by_array}
use Rattle.reshape_laws.proofs.Roles.{begun_roles}
use Rattle.reshape_laws.proofs.StepsOf.{few_wanting}

-- ---- what isn't spent

pub unspent_before : (v : View) → IsArray v → lacks_two v ≡ false → v.resync ≡ rows_of v → (y : ℕ) → y < sectors_of v → spent_in v y ≡ false
unspent_before v is_array few synced y low =
    let t : ℕ = sector_in (layout_at (shape_of v) y) y in
    let inside : t < v.truth.size = sector_inside v y is_array low in
    let most : wanting t (shape_of v).members ≤ 1 = subst (λ ms. wanting t ms ≤ 1) (sym (shape_members v)) (few_wanting v t few inside) in
    let whole = is_array.whole_rows in
    let row : row_at t < v.resync = (let all : v.resync ≡ v.truth.size / 128 = synced in omega (arith, inside, whole, all)) in
    by (wanting t (shape_of v).members) (nat_lt (row_at t) v.resync) most (lt-ltb (row_at t) v.resync row)
  where
    by : (n : ℕ) (b : Bool) → n ≤ 1 → b ≡ true → spent_with n b ≡ false
    by zero b one on = refl
    by (suc zero) b one on = ap (λ (c : Bool). nat_lt 1 1 || (nat_lt 0 1 && not c)) on
    by (suc (suc n)) b one on = absurd (omega (arith, one))

-- ---- feature bits

pub begun_bits : (v : View) (events place : ℕ) (seat : Seat) (device : Id) → HasFewBits (begun v events place seat device).truth
begun_bits v events place seat device = refl

pub finished_bits : (v : View) (events : ℕ) → HasFewBits (finished v events).truth
finished_bits v events = refl

-- ---- the pool's profile

ok_is : (rs : List (Bool × Field)) → is_ok (first_broken rs) ≡ list_all (λ r. r.0) rs
ok_is [] = refl
ok_is (r ∷ rs) = by r.0 (ok_is rs)
  where
    by : (b : Bool) → is_ok (first_broken rs) ≡ list_all (λ q. q.0) rs → is_ok (if b then first_broken rs else Err (record { field = r.1 })) ≡ (b && list_all (λ q. q.0) rs)
    by true rest = rest
    by false rest = refl

-- the rules of the profile, in order
pub record Profiled (t : Super) (extent : ℕ) : Type 0 where
  pub features : (bit_and t.feature_map 0xfffffff9 == 0) ≡ true
  pub level : (is_mirror t || is_raid5 t) ≡ true
  pub layout : (t.layout == (if is_mirror t then 0 else 2)) ≡ true
  pub chunk : (t.chunk == (if is_mirror t then 0 else 128)) ≡ true
  pub disks : has_disks t ≡ true
  pub size : (is_height_of extent t.size && (t.size == t.data_size)) ≡ true
  pub data_offset : (t.data_offset == 2048) ≡ true
  pub super_offset : (t.super_offset == 8) ≡ true
  pub dev_number : nat_lt t.dev_number 16 ≡ true
  pub roles : (length t.roles.items == 128) ≡ true

pub profile_rules : (t : Super) (extent : ℕ) → is_ok (profiled t extent) ≡ true → Profiled t extent
profile_rules t extent ok =
    let all : list_all (λ r. r.0) (rules t extent) ≡ true = sym (ok_is (rules t extent)) ∙ ok in
    let r1 = and_parts (bit_and t.feature_map 0xfffffff9 == 0) _ all in
    let r2 = and_parts (is_mirror t || is_raid5 t) _ r1.1 in
    let r3 = and_parts (t.layout == (if is_mirror t then 0 else 2)) _ r2.1 in
    let r4 = and_parts (t.chunk == (if is_mirror t then 0 else 128)) _ r3.1 in
    let r5 = and_parts (has_disks t) _ r4.1 in
    let r6 = and_parts (is_height_of extent t.size && (t.size == t.data_size)) _ r5.1 in
    let r7 = and_parts (t.data_offset == 2048) _ r6.1 in
    let r8 = and_parts (t.super_offset == 8) _ r7.1 in
    let r9 = and_parts (nat_lt t.dev_number 16) _ r8.1 in
    let r10 = and_parts (length t.roles.items == 128) true r9.1 in
    record { features = r1.0; level = r2.0; layout = r3.0; chunk = r4.0; disks = r5.0; size = r6.0; data_offset = r7.0; super_offset = r8.0; dev_number = r9.0; roles = r10.0 }

pub profile_from : (t : Super) (extent : ℕ) → Profiled t extent → is_ok (profiled t extent) ≡ true
profile_from t extent is =
    ok_is (rules t extent)
    ∙ and_from (bit_and t.feature_map 0xfffffff9 == 0) _ is.features
    (and_from (is_mirror t || is_raid5 t) _ is.level
    (and_from (t.layout == (if is_mirror t then 0 else 2)) _ is.layout
    (and_from (t.chunk == (if is_mirror t then 0 else 128)) _ is.chunk
    (and_from (has_disks t) _ is.disks
    (and_from (is_height_of extent t.size && (t.size == t.data_size)) _ is.size
    (and_from (t.data_offset == 2048) _ is.data_offset
    (and_from (t.super_offset == 8) _ is.super_offset
    (and_from (nat_lt t.dev_number 16) _ is.dev_number
    (and_from (length t.roles.items == 128) true is.roles refl)))))))))

-- ---- truths

pub parts_of : (t : Super) → is_truth t ≡ true → (is_ok (profiled t 128) ≡ true) × ((has_whole_row t ≡ true) × ((has_roles 16 t ≡ true) × (nat_lt t.size (2 ^ 48) ≡ true)))
parts_of t is =
    let one = and_parts (is_ok (profiled t 128)) _ is in
    let two = and_parts (has_whole_row t) _ one.1 in
    let three = and_parts (has_roles 16 t) (nat_lt t.size (2 ^ 48)) two.1 in
    (one.0, (two.0, (three.0, three.1)))

truth_from : (t : Super) → is_ok (profiled t 128) ≡ true → has_whole_row t ≡ true → has_roles 16 t ≡ true → nat_lt t.size (2 ^ 48) ≡ true → is_truth t ≡ true
truth_from t profile row roles size =
    and_from (is_ok (profiled t 128)) _ profile (and_from (has_whole_row t) _ row (and_from (has_roles 16 t) (nat_lt t.size (2 ^ 48)) roles size))

-- rows are moved
pub ahead_truth : (v : View) (many events : ℕ) → IsArray v → (reshaping : is_reshaping v.truth ≡ true) → next_row v + many ≤ rows_of v
    → is_truth v.truth ≡ true → is_truth (ahead_by v many events).truth ≡ true
ahead_truth v many events is_array reshaping left truth =
    let was = parts_of v.truth truth in
    let next = (ahead_by_array v many events is_array reshaping left).reshape reshaping in
    truth_from (ahead_by v many events).truth was.0
    (or_right (not (is_reshaping v.truth)) _
    (and_from (is_raid5 v.truth) _ next.0
    (and_from (nat_lt 2 v.truth.raid_disks) _ (lt-ltb 2 v.truth.raid_disks (let three = next.1 in omega (arith, three)))
    (eq-eqb ((v.truth.reshape_position + 128 * many * (v.truth.raid_disks - 1)) % new_row v.truth) 0 next.2))))
    was.1.1.0 was.1.1.1
  where
    or_right : (p q : Bool) → q ≡ true → (p || q) ≡ true
    or_right true q on = refl
    or_right false q on = on

-- a mirror is RAID-5
pub taken_profile : (v : View) (events extent : ℕ) → IsArray v → is_ok (profiled v.truth extent) ≡ true → is_ok (profiled (taken_over v events).truth extent) ≡ true
taken_profile v events extent is_array ok =
    let was = profile_rules v.truth extent ok in
    let least = is_array.least in
    profile_from (taken_over v events).truth extent
    (record {
      features = was.features;
      level = refl;
      layout = refl;
      chunk = refl;
      disks = and_from (nat_le 2 v.truth.raid_disks) (nat_le v.truth.raid_disks 16) (le-leb 2 v.truth.raid_disks least) (le-leb v.truth.raid_disks 16 (few (is_mirror v.truth) is_array.most));
      size = was.size;
      data_offset = was.data_offset;
      super_offset = was.super_offset;
      dev_number = was.dev_number;
      roles = was.roles;
    })
  where
    few : (b : Bool) → v.truth.raid_disks ≤ (if b then 2 else 16) → v.truth.raid_disks ≤ 16
    few true low = omega (arith, low)
    few false low = low

pub taken_truth : (v : View) (events : ℕ) → IsArray v → is_reshaping v.truth ≡ false → is_truth v.truth ≡ true → is_truth (taken_over v events).truth ≡ true
taken_truth v events is_array still truth =
    let was = parts_of v.truth truth in
    truth_from (taken_over v events).truth (taken_profile v events 128 is_array was.0)
    (ap (λ (b : Bool). not b || (true && (nat_lt 2 v.truth.raid_disks && (v.truth.reshape_position % new_row v.truth == 0)))) still)
    was.1.1.0 was.1.1.1

-- a reshape is over
pub finished_profile : (v : View) (events extent : ℕ) → is_ok (profiled v.truth extent) ≡ true → is_ok (profiled (finished v events).truth extent) ≡ true
finished_profile v events extent ok =
    let was = profile_rules v.truth extent ok in
    profile_from (finished v events).truth extent
    (record {
      features = refl;
      level = was.level;
      layout = was.layout;
      chunk = was.chunk;
      disks = was.disks;
      size = was.size;
      data_offset = was.data_offset;
      super_offset = was.super_offset;
      dev_number = was.dev_number;
      roles = was.roles;
    })

pub finished_truth : (v : View) (events : ℕ) → is_truth v.truth ≡ true → is_truth (finished v events).truth ≡ true
finished_truth v events truth =
    let was = parts_of v.truth truth in
    truth_from (finished v events).truth (finished_profile v events 128 was.0) refl was.1.1.0 was.1.1.1

-- a reshape begins
pub begun_profile : (v : View) (events place : ℕ) (seat : Seat) (device : Id) (extent : ℕ) → is_mirror v.truth ≡ false → IsArray v → v.truth.raid_disks < 16
    → is_ok (profiled v.truth extent) ≡ true → is_ok (profiled (begun v events place seat device).truth extent) ≡ true
begun_profile v events place seat device extent plain is_array few ok =
    let was = profile_rules v.truth extent ok in
    let least = is_array.least in
    profile_from (begun v events place seat device).truth extent
    (record {
      features = refl;
      level = was.level;
      layout = was.layout;
      chunk = was.chunk;
      disks = and_from (nat_le 2 (v.truth.raid_disks + 1)) (nat_le (v.truth.raid_disks + 1) (if is_mirror v.truth then 2 else 16))
          (le-leb 2 (v.truth.raid_disks + 1) (omega (arith, least)))
          (subst (λ (b : Bool). nat_le (v.truth.raid_disks + 1) (if b then 2 else 16) ≡ true) (sym plain) (le-leb (v.truth.raid_disks + 1) 16 (omega (arith, few))));
      size = was.size;
      data_offset = was.data_offset;
      super_offset = was.super_offset;
      dev_number = was.dev_number;
      roles = ap (λ n. n == 128) (length-set v.truth.roles.items place v.truth.raid_disks) ∙ was.roles;
    })

pub begun_truth : (v : View) (events place : ℕ) (seat : Seat) (device : Id) → is_raid5 v.truth ≡ true → is_mirror v.truth ≡ false → IsArray v
    → v.truth.raid_disks < 16 → place < 16 → length v.truth.roles.items ≡ 128 → 0xfffe ≤ get_or v.truth.roles.items place 0
    → is_truth v.truth ≡ true → is_truth (begun v events place seat device).truth ≡ true
begun_truth v events place seat device raid5 plain is_array few small roles spare truth =
    let was = parts_of v.truth truth in
    let least = is_array.least in
    truth_from (begun v events place seat device).truth (begun_profile v events place seat device 128 plain is_array few was.0)
    (and_from (is_raid5 v.truth) _ raid5
    (and_from (nat_lt 2 (v.truth.raid_disks + 1)) _ (lt-ltb 2 (v.truth.raid_disks + 1) (omega (arith, least)))
    (eq-eqb (0 % new_row (begun v events place seat device).truth) 0 (zero_mod (new_row (begun v events place seat device).truth)))))
    (begun_roles v.truth 16 place was.1.1.0 (omega (arith, small, roles)) small spare (omega (arith, few)))
    was.1.1.1
  where
    zero_mod : (n : ℕ) → 0 % n ≡ 0
    zero_mod n = omega arith

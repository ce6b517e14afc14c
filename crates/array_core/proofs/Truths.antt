-- What holds of a superblock that an array can go by.
use Rattle.std.proofs.Common.{◌≡◌, ℕ, zero, suc, ◌+◌, ◌-◌, ◌*◌, ◌/◌, ◌%◌, ◌<◌, ◌≤◌, ◌^◌, Bool, true, false, ◌==◌, ◌||◌, nat_lt, nat_le, bit_and, is_ok, if◌then◌else◌, List, [], ◌∷◌, length, drop, refl, arith}
use Rattle.std.specs.List.{list_all}
use Rattle.std.proofs.Math.Nat.{mul_assoc, div-add-mod}
use Rattle.std.proofs.lemmas.Bool.{and_parts, and_from, eq-eqb, eqb-true, lt-ltb, ltb-true, leb-true, both_ways}
use Rattle.md_super.specs.declared.superblock.Super.{Super}
use Rattle.md_super.specs.declared.superblock.Field.{Field}
use Rattle.md_super.specs.declared.superblock.Field.TheVariants.{FeatureMap, Level, Layout, Chunk, RaidDisks, Size, DataOffset, SuperOffset, DevNumber, MaxDev}
use Rattle.md_super.specs.Profile.{rules, first_broken, profiled, is_mirror, is_raid5, is_height_of}
use Rattle.array_image.specs.Supers.{has_roles, has_whole_row, is_unclean, named_places}
use Rattle.array_image.specs.SoundArray.{first_unsynced}
use Rattle.array_core.specs.Model.{is_truth}
use Rattle.array_core.specs.Opening.{resync_by}

-- the test of a rule by its number
abbrev pub rule_at : ℕ → List (Bool × Field) → Bool
rule_at n [] = true
rule_at zero (rule ∷ others) = rule.0
rule_at (suc n) (rule ∷ others) = rule_at n others

rule_first : (test : Bool) (field : Field) (others : List (Bool × Field)) → is_ok (first_broken ((test, field) ∷ others)) ≡ true → (test ≡ true) × (is_ok (first_broken others) ≡ true)
rule_first true field others ok = (refl, ok)
rule_first false field others ok = absurd (both_ways false refl ok)

pub rule_then : (test : Bool) (field : Field) (others : List (Bool × Field)) → test ≡ true → is_ok (first_broken others) ≡ true → is_ok (first_broken ((test, field) ∷ others)) ≡ true
rule_then true field others holds ok = ok
rule_then false field others holds ok = absurd (both_ways false refl holds)

pub rule_holds : (n : ℕ) (tests : List (Bool × Field)) → is_ok (first_broken tests) ≡ true → rule_at n tests ≡ true
rule_holds n [] ok = refl
rule_holds zero (rule ∷ others) ok = (rule_first rule.0 rule.1 others ok).0
rule_holds (suc n) (rule ∷ others) ok = rule_holds n others (rule_first rule.0 rule.1 others ok).1

pub record Truth (t : Super) : Type 0 where
  pub features : bit_and t.feature_map 0xfffffff9 ≡ 0
  pub level : (is_mirror t || is_raid5 t) ≡ true
  pub least : 2 ≤ t.raid_disks
  pub most : t.raid_disks ≤ (if is_mirror t then 2 else 16)
  pub few : t.raid_disks ≤ 16
  pub whole_rows : t.size % 128 ≡ 0
  pub roles : length t.roles.items ≡ 128
  pub row : has_whole_row t ≡ true
  pub positions : has_roles 16 t ≡ true
  pub small : t.size < 2 ^ 48

few_of : (mirror : Bool) (n : ℕ) → n ≤ (if mirror then 2 else 16) → n ≤ 16
few_of true n few = omega (arith, few)
few_of false n few = few

whole_of : (size : ℕ) → is_height_of 128 size ≡ true → size % 128 ≡ 0
whole_of size height =
    let parts = and_parts (nat_lt 2048 size) _ height in
    let above : 2048 < size = ltb-true 2048 size parts.0 in
    let rest : (size - 2048) % 128 ≡ 0 = eqb-true ((size - 2048) % 128) 0 parts.1 in
    omega arith

pub truth_facts : (t : Super) → is_truth t ≡ true → Truth t
truth_facts t holds =
    let parts = and_parts (is_ok (profiled t 128)) _ holds in
    let others = and_parts (has_whole_row t) _ parts.1 in
    let last = and_parts (has_roles 16 t) (nat_lt t.size (2 ^ 48)) others.1 in
    let disks = and_parts (nat_le 2 t.raid_disks) _ (rule_holds 4 (rules t 128) parts.0) in
    let most : t.raid_disks ≤ (if is_mirror t then 2 else 16) = leb-true t.raid_disks _ disks.1 in
    let size = and_parts (is_height_of 128 t.size) _ (rule_holds 5 (rules t 128) parts.0) in
    record {
      features = eqb-true _ 0 (rule_holds 0 (rules t 128) parts.0);
      level = rule_holds 1 (rules t 128) parts.0;
      least = leb-true 2 t.raid_disks disks.0;
      most = most;
      few = few_of (is_mirror t) t.raid_disks most;
      whole_rows = whole_of t.size size.0;
      roles = eqb-true _ 128 (rule_holds 9 (rules t 128) parts.0);
      row = others.0;
      positions = last.0;
      small = ltb-true t.size (2 ^ 48) last.1;
    }

pub truth_few : (t : Super) → is_truth t ≡ true → t.raid_disks ≤ 16
truth_few t holds = (truth_facts t holds).few

-- no row past the last is left to resync
pub unsynced_few : (t : Super) → first_unsynced t ≤ t.size / 128
unsynced_few t =
    let P : Bool → Type 0 = λ b. (if b then t.resync_offset / 128 else t.size / 128) ≤ t.size / 128 in
    let goal : (b : Bool) → is_unclean t ≡ b → P b = λ b. elim b as (λ b. is_unclean t ≡ b → P b) [
      | true ↦ λ is. let below : t.resync_offset < t.size = ltb-true t.resync_offset t.size is in omega arith
      | false ↦ λ is. omega arith
    ] in
    goal (is_unclean t) refl

pub synced_few : (young : Bool) (t : Super) → resync_by young t ≤ t.size / 128
synced_few true t = omega arith
synced_few false t = unsynced_few t

-- and each row that the superblock leaves is
pub unsynced_left : (young : Bool) (t : Super) → first_unsynced t ≤ resync_by young t
unsynced_left true t = unsynced_few t
unsynced_left false t = omega arith

-- ---- superblocks of a pool

multiple : (n whole rest part : ℕ) → whole + rest ≡ n → rest ≡ 0 → whole ≡ 128 * part → n % 128 ≡ 0
multiple n whole rest part sums none is = omega (arith, sums, none, is)

-- whole extents of more sectors are whole ones of 128
height_of : (k size : ℕ) → is_height_of (128 * k) size ≡ true → is_height_of 128 size ≡ true
height_of k size height =
    let parts = and_parts (nat_lt 2048 size) _ height in
    let n = size - 2048 in
    let none : n % (128 * k) ≡ 0 = eqb-true (n % (128 * k)) 0 parts.1 in
    and_from _ _ parts.0
    (eq-eqb (n % 128) 0 (multiple n (128 * k * (n / (128 * k))) (n % (128 * k)) (k * (n / (128 * k))) (div-add-mod n (128 * k)) none (mul_assoc 128 k (n / (128 * k)))))

-- a pool's profile is met with extents of 128 sectors as well
profile_of : (t : Super) (k : ℕ) → is_ok (profiled t (128 * k)) ≡ true → is_ok (profiled t 128) ≡ true
profile_of t k ok =
    let rule = λ (n : ℕ). rule_holds n (rules t (128 * k)) ok in
    let rest = λ (n : ℕ). drop n (rules t 128) in
    let size = and_parts (is_height_of (128 * k) t.size) (t.size == t.data_size) (rule 5) in
    rule_then _ FeatureMap (rest 1) (rule 0)
    (rule_then _ Level (rest 2) (rule 1)
    (rule_then _ Layout (rest 3) (rule 2)
    (rule_then _ Chunk (rest 4) (rule 3)
    (rule_then _ RaidDisks (rest 5) (rule 4)
    (rule_then _ Size (rest 6) (and_from _ _ (height_of k t.size size.0) size.1)
    (rule_then _ DataOffset (rest 7) (rule 6)
    (rule_then _ SuperOffset (rest 8) (rule 7)
    (rule_then _ DevNumber (rest 9) (rule 8)
    (rule_then _ MaxDev (rest 10) (rule 9) refl)))))))))

all_below : (few many : ℕ) → few ≤ many → (places : List ℕ) → list_all (λ p. nat_lt p few) places ≡ true → list_all (λ p. nat_lt p many) places ≡ true
all_below few many more [] all = refl
all_below few many more (p ∷ places) all =
    let parts = and_parts (nat_lt p few) (list_all (λ q. nat_lt q few) places) all in
    let low : p < few = ltb-true p few parts.0 in
    and_from _ _ (lt-ltb p many (omega (arith, low, more))) (all_below few many more places parts.1)

roles_of : (t : Super) (drives : ℕ) → drives ≤ 16 → has_roles drives t ≡ true → has_roles 16 t ≡ true
roles_of t drives few roles =
    let parts = and_parts (length (named_places t) == t.raid_disks) _ roles in
    let others = and_parts (list_all (λ place. nat_lt place drives) (named_places t)) _ parts.1 in
    and_from _ _ parts.0 (and_from _ _ (all_below drives 16 few (named_places t) others.0) others.1)

-- a valid superblock of a pool is one that an array can go by, if its members are of fewer than 2^48 sectors
pub valid_truth : (t : Super) (k drives : ℕ) → is_ok (profiled t (128 * k)) ≡ true → has_whole_row t ≡ true → has_roles drives t ≡ true
    → drives ≤ 16 → t.size < 2 ^ 48 → is_truth t ≡ true
valid_truth t k drives profile row roles few small =
    and_from _ _ (profile_of t k profile) (and_from _ _ row (and_from _ _ (roles_of t drives few roles) (lt-ltb t.size (2 ^ 48) small)))

-- The superblocks of a new array are valid ones of a pool.
use Rattle.std.proofs.Common.{◌≡◌, ℕ, pos, ◌+◌, ◌-◌, ◌*◌, ◌%◌, ◌<◌, ◌≤◌, ◌^◌, ◌==◌, ◌&&◌, ◌||◌, nat_le, nat_lt, Bool, true, false, is_ok, if◌then◌else◌, List, [], ◌∷◌, filter, length, refl, sym, ap, ◌∙◌, eq-eqb, eqb-true, le-leb, lt-ltb, arith}
use Rattle.std.specs.List.{list_all, range_with_len}
use Rattle.std.proofs.Math.Nat.{mul-mod_left, mul-le-mul_left, mul_assoc}
use Rattle.std.proofs.lemmas.Bool.{and_from, both_ways}
use Rattle.std.proofs.lemmas.List.FromFn.{length-map-range_with_len}
use Rattle.md_super.specs.declared.superblock.Super.{Super}
use Rattle.std.specs.Ordering.{int_eq}
use Rattle.md_super.specs.declared.superblock.Field.{Field}
use Rattle.md_super.specs.Profile.{has_disks, is_height_of, is_mirror, is_raid5, first_broken, profiled, rules}
use Rattle.array_image.specs.Supers.{has_roles, has_whole_row}
use Rattle.array_core.specs.Model.{is_truth}
use Rattle.shr_base.specs.declared.Id.{Id}
use Rattle.new_array.specs.Supers.{new_roles, new_super, role_of}
use Rattle.new_array.proofs.Roles.{new_has_roles}

-- where all rules hold, none is broken
all_hold : (rs : List (Bool × Field)) → list_all (λ r. r.0) rs ≡ true → is_ok (first_broken rs) ≡ true
all_hold [] all = refl
all_hold ((true, field) ∷ rs) all = all_hold rs all
all_hold ((false, field) ∷ rs) all = absurd (both_ways false refl all)

-- Two members or more, which are places of drives in ascending order, and so many whole extents of each.
pub record IsLayer (extent drives : ℕ) (members : List ℕ) (size : ℕ) : Type 0 where
  pub reaches : ℕ → Bool
  pub members_are : members ≡ filter reaches (range_with_len 0 drives)
  pub least : 2 ≤ length members
  pub few : length members ≤ 16
  pub height : ℕ
  pub some : 0 < height
  pub size_is : size ≡ height * extent + 2048

module _ (pool drive : Id) (members : List ℕ) (number place size offset seconds extent drives : ℕ) (most : drives ≤ 16) (is : IsLayer extent drives members size)
    (low_place : place < 16) where
  abbrev t : Super
  t = new_super pool drive members number place size offset seconds

  -- the rules that depend on the level
  abbrev LevelRules : Bool → Type 0
  LevelRules b =
      ((int_eq (pos (if b then 1 else 5)) (pos 1) || int_eq (pos (if b then 1 else 5)) (pos 5)) ≡ true)
      × (((if b then 0 else 2) == (if int_eq (pos (if b then 1 else 5)) (pos 1) then 0 else 2)) ≡ true)
      × (((if b then 0 else 128) == (if int_eq (pos (if b then 1 else 5)) (pos 1) then 0 else 128)) ≡ true)
      × ((nat_le 2 (length members) && nat_le (length members) (if int_eq (pos (if b then 1 else 5)) (pos 1) then 2 else 16)) ≡ true)

  level_rules : (b : Bool) → (length members == 2) ≡ b → LevelRules b
  level_rules true two =
      let same = eqb-true (length members) 2 two in
      (refl, refl, refl, and_from (nat_le 2 (length members)) (nat_le (length members) 2) (le-leb 2 (length members) is.least) (le-leb (length members) 2 (omega (arith, same))))
  level_rules false more =
      (refl, refl, refl, and_from (nat_le 2 (length members)) (nat_le (length members) 16) (le-leb 2 (length members) is.least) (le-leb (length members) 16 is.few))

  -- a size of whole extents, whatever divides an extent
  pub size_rule : (unit k : ℕ) → extent ≡ k * unit → 0 < extent → (is_height_of unit size && (size == size)) ≡ true
  size_rule unit k wide some =
      let n = is.height in
      let behind : size - 2048 ≡ n * extent = let size = is.size_is in omega (arith, size) in
      let whole : n * extent ≡ n * k * unit = ap (λ e. n * e) wide ∙ sym (mul_assoc n k unit) in
      let rest : (size - 2048) % unit ≡ 0 = ap (λ m. m % unit) (behind ∙ whole) ∙ mul-mod_left (n * k) unit in
      let least : n * 1 ≤ n * extent = mul-le-mul_left n some in
      and_from (is_height_of unit size) (size == size)
      (and_from (nat_lt 2048 size) _ (lt-ltb 2048 size (let size = is.size_is in let more = is.some in omega (arith, size, more, least))) (eq-eqb ((size - 2048) % unit) 0 rest))
      (eq-eqb size size refl)

  pub profile_ok : (unit k : ℕ) → extent ≡ k * unit → 0 < extent → is_ok (profiled t unit) ≡ true
  profile_ok unit k wide some =
      let by_level : LevelRules (length members == 2) = level_rules (length members == 2) refl in
      all_hold (rules t unit)
      (and_from true _ refl
      (and_from (is_mirror t || is_raid5 t) _ by_level.0
      (and_from (t.layout == (if is_mirror t then 0 else 2)) _ by_level.1
      (and_from (t.chunk == (if is_mirror t then 0 else 128)) _ by_level.2
      (and_from (has_disks t) _ by_level.3
      (and_from (is_height_of unit size && (size == size)) _ (size_rule unit k wide some)
      (and_from true _ refl
      (and_from true _ refl
      (and_from (nat_lt place 16) _ (lt-ltb place 16 low_place)
      (and_from (length (new_roles members) == 128) true (eq-eqb (length (new_roles members)) 128 (length-map-range_with_len (role_of members) 0 128)) refl))))))))))

  pub roles_ok : (all : ℕ) → drives ≤ all → has_roles all t ≡ true
  roles_ok all enough = new_has_roles t members refl is.few drives most is.reaches is.members_are all enough refl

  pub truth_ok : (k : ℕ) → extent ≡ k * 128 → 0 < extent → size < 2 ^ 48 → is_truth t ≡ true
  truth_ok k wide some small =
      and_from (is_ok (profiled t 128)) _ (profile_ok 128 k wide some)
      (and_from (has_whole_row t) _ refl (and_from (has_roles 16 t) _ (roles_ok 16 most) (lt-ltb size (2 ^ 48) small)))

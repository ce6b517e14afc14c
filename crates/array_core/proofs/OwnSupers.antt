-- The superblocks that are written for the members of an array.
use Rattle.std.proofs.Common.{◌≡◌, ℕ, zero, suc, min, max, ◌+◌, ◌*◌, ◌%◌, ◌<◌, ◌^◌, Bool, true, false, ◌==◌, ◌&&◌, ◌||◌, not, nat_lt, bit_and, is_ok, if◌then◌else◌, List, [], ◌∷◌, length, drop, slice_get, Option, Some, None, refl, sym, ap, ap₂, subst, ◌∙◌, inl, inr, eq-eqb, lt-ltb, arith}
use Rattle.std.proofs.lemmas.Bool.{and_from, both_ways, cases_eq}
use Rattle.std.proofs.lemmas.Nat.Bits.{bit_at-lt, bit_at-zero, bit_at_and, bit_at_or, and_pow, same_from_bits}
use Rattle.std.specs.Int.{bit_at}
use Rattle.std.proofs.lemmas.Slice.Eq.{bytes_eq-Decides}
use Rattle.rack.specs.Seen.{Image}
use Rattle.rack.specs.Targets.{Target}
use Rattle.md_super.specs.declared.superblock.Super.{Super}
use Rattle.md_super.specs.declared.superblock.Field.TheVariants.{FeatureMap, Level, Layout, Chunk, RaidDisks, Size, DataOffset, SuperOffset, DevNumber, MaxDev}
use Rattle.md_super.specs.Profile.{rules, profiled, is_raid5}
use Rattle.pool_state.specs.declared.contents.State.{State}
use Rattle.array_image.specs.Places.{member_slice, super_sector, array_id}
use Rattle.array_image.specs.Supers.{is_rebuilding, is_reshaping, has_whole_row, new_row, is_super_of, only_if, super_in}
use Rattle.array_image.specs.SoundArray.{array_fields}
use Rattle.array_model.specs.declared.Seat.{Seat}
use Rattle.array_model.specs.declared.Seat.TheVariants.{Whole, Missing, Rebuilding}
use Rattle.array_model.specs.View.{View, is_missing_seat}
use Rattle.array_model.specs.Stages.{IsStateOf, HasTargets}
use Rattle.array_core.specs.declared.slots.Slot.{Slot}
use Rattle.array_core.specs.Superblocks.{features, member_super, IsSectorOf}
use Rattle.array_core.specs.Staging.{IsSuperOn, AreSupersOn, present}
use Rattle.array_core.proofs.Truths.{rule_holds, rule_then}

-- ---- their fields

abbrev is_rebuilding_seat : Seat → Bool
is_rebuilding_seat Whole = false
is_rebuilding_seat Missing = false
is_rebuilding_seat (Rebuilding to) = true

-- a bit of a number is there or not
one_bit : (n : ℕ) → bit_and n 4 ≡ (if bit_and n 4 == 4 then 4 else 0)
one_bit n =
    let P : ℕ → Type 0 = λ m. m ≡ (if m == 4 then 4 else 0) in
    let bit = bit_at-lt n 2 in
    elim (cases_eq (bit_at n 2) 0) [
      | inl none ↦ subst P (sym (and_pow n 2 ∙ ap (λ (k : ℕ). k * 4) none)) refl
      | inr there ↦ subst P (sym (and_pow n 2 ∙ ap (λ (k : ℕ). k * 4) (one (bit_at n 2) bit there))) refl
    ]
  where
    one : (k : ℕ) → k < 2 → (k ≡ 0 → ⊥) → k ≡ 1
    one k low there = omega (arith, low, there)

-- the bit of a reshape is the only one of an array's that a superblock of the profile has
pub array_bits : (n : ℕ) → bit_and n 0xfffffff9 ≡ 0 → bit_and n 0xfffffffd ≡ bit_and n 4
array_bits n none =
    same_from_bits (bit_and n 0xfffffffd) (bit_and n 4) (λ i.
    let mask : bit_at 0xfffffffd i ≡ max (bit_at 0xfffffff9 i) (bit_at 4 i) = bit_at_or 0xfffffff9 4 i in
    let clear : min (bit_at n i) (bit_at 0xfffffff9 i) ≡ 0 = sym (bit_at_and n 0xfffffff9 i) ∙ ap (λ (m : ℕ). bit_at m i) none ∙ bit_at-zero i in
    bit_at_and n 0xfffffffd i ∙ ap (min (bit_at n i)) mask ∙ without (bit_at n i) (bit_at 0xfffffff9 i) (bit_at 4 i) clear ∙ sym (bit_at_and n 4 i))
  where
    without : (x a b : ℕ) → min x a ≡ 0 → min x (max a b) ≡ min x b
    without x a b clear = omega (arith, clear)

-- bits of a member
module _ (t : Super) where
  -- what holds of the bits of both kinds of member, whether the array is reshaping or not
  by_reshape : (P : Bool → ℕ → Type 0) → (extra : ℕ) → P true (4 + extra) → P false (0 + extra) → P (is_reshaping t) ((if is_reshaping t then 4 else 0) + extra)
  by_reshape P extra reshapes stays = elim (is_reshaping t) as (λ b. P b ((if b then 4 else 0) + extra)) [ true ↦ reshapes | false ↦ stays ]

  features_are : (seat : Seat) → features t seat ≡ (if is_reshaping t then 4 else 0) + (if is_rebuilding_seat seat then 2 else 0)
  features_are Whole = omega arith
  features_are Missing = omega arith
  features_are (Rebuilding to) = refl

  by_bits : (P : Bool → Bool → ℕ → Type 0) → P true true 6 → P true false 4 → P false true 2 → P false false 0
      → (seat : Seat) → P (is_reshaping t) (is_rebuilding_seat seat) (features t seat)
  by_bits P both reshape rebuild neither seat =
      subst (P (is_reshaping t) (is_rebuilding_seat seat)) (sym (features_are seat))
      (elim (is_rebuilding_seat seat) as (λ b. P (is_reshaping t) b ((if is_reshaping t then 4 else 0) + (if b then 2 else 0))) [
        | true ↦ by_reshape (λ r n. P r true n) 2 both rebuild
        | false ↦ by_reshape (λ r n. P r false n) 0 reshape neither
      ])

  reshape_bit : (seat : Seat) → (bit_and (features t seat) 4 == 4) ≡ is_reshaping t
  reshape_bit = by_bits (λ r b n. (bit_and n 4 == 4) ≡ r) refl refl refl refl

  rebuild_bit : (seat : Seat) → (bit_and (features t seat) 2 == 2) ≡ is_rebuilding_seat seat
  rebuild_bit = by_bits (λ r b n. (bit_and n 2 == 2) ≡ b) refl refl refl refl

  pub only_bits : (seat : Seat) → (bit_and (features t seat) 0xfffffff9 == 0) ≡ true
  only_bits = by_bits (λ r b n. (bit_and n 0xfffffff9 == 0) ≡ true) refl refl refl refl

  array_bit : (seat : Seat) → bit_and (features t seat) 0xfffffffd ≡ (if is_reshaping t then 4 else 0)
  array_bit = by_bits (λ r b n. bit_and n 0xfffffffd ≡ (if r then 4 else 0)) refl refl refl refl

  pub own_reshaping : (s : Slot) → is_reshaping (member_super t s) ≡ is_reshaping t
  own_reshaping s = reshape_bit s.seat

  pub own_whole : (s : Slot) → s.seat ≡ Whole → is_rebuilding (member_super t s) ≡ false
  own_whole s is = rebuild_bit s.seat ∙ ap is_rebuilding_seat is

  pub own_rebuilding : (s : Slot) (to : ℕ) → s.seat ≡ Rebuilding to → is_rebuilding (member_super t s) ≡ true
  own_rebuilding s to is = rebuild_bit s.seat ∙ ap is_rebuilding_seat is

  -- two members' superblocks have the same array fields
  pub own_fields : (s u : Slot) → array_fields (member_super t s) ≡ array_fields (member_super t u)
  own_fields s u =
      ap (λ (bits : ℕ). record t { dev_number = 0; device_id = record { 0 = [] }; recovery_offset = 0; feature_map = bits })
      (array_bit s.seat ∙ sym (array_bit u.seat))

  -- and those of the truth
  pub own_array : (s : Slot) → bit_and t.feature_map 0xfffffff9 ≡ 0 → array_fields (member_super t s) ≡ array_fields t
  own_array s none =
      ap (λ (bits : ℕ). record t { dev_number = 0; device_id = record { 0 = [] }; recovery_offset = 0; feature_map = bits })
      (array_bit s.seat ∙ sym (array_bits t.feature_map none ∙ one_bit t.feature_map))

  own_profile : (s : Slot) (extent : ℕ) → s.place < 16 → is_ok (profiled t extent) ≡ true → is_ok (profiled (member_super t s) extent) ≡ true
  own_profile s extent low ok =
      let rule = λ (n : ℕ). rule_holds n (rules t extent) ok in
      let rest = λ (n : ℕ). drop n (rules (member_super t s) extent) in
      rule_then _ FeatureMap (rest 1) (only_bits s.seat)
      (rule_then _ Level (rest 2) (rule 1)
      (rule_then _ Layout (rest 3) (rule 2)
      (rule_then _ Chunk (rest 4) (rule 3)
      (rule_then _ RaidDisks (rest 5) (rule 4)
      (rule_then _ Size (rest 6) (rule 5)
      (rule_then _ DataOffset (rest 7) (rule 6)
      (rule_then _ SuperOffset (rest 8) (rule 7)
      (rule_then _ DevNumber (rest 9) (lt-ltb s.place 16 low)
      (rule_then _ MaxDev (rest 10) (rule 9) refl)))))))))

  own_row : (s : Slot) → has_whole_row t ≡ true → has_whole_row (member_super t s) ≡ true
  own_row s row =
      ap (λ (b : Bool). not b || (is_raid5 t && (nat_lt 2 t.raid_disks && (t.reshape_position % new_row t == 0)))) (own_reshaping s) ∙ row

-- a superblock of a state's array is valid for its member
pub own_valid : (v : View) (t : State) (s : Slot) → IsStateOf v t → s.place < 16
    → is_super_of t.pool.0 t.extent (length t.drives.items) v.number s.place (member_super v.truth s) ≡ true
own_valid v t s state low =
    and_from _ _ (own_profile v.truth s t.extent low state.profile)
    (and_from _ _ ((bytes_eq-Decides v.truth.set_id.0 (array_id t.pool.0 v.number)).1 state.set)
    (and_from _ _ (eq-eqb s.place s.place refl)
    (and_from _ _ (lt-ltb 0 v.truth.events state.events)
    (and_from _ _ (lt-ltb v.truth.events (2 ^ 63) state.events_end)
    (and_from _ _ (own_row v.truth s state.row) state.roles)))))

-- what passes is there
pub passes_only : {X : Type 0} (test : X → Bool) (o : Option X) (x : X) → o ≡ Some x → test x ≡ true → only_if test o ≡ Some x
passes_only test o x is passes = ap (only_if test) is ∙ ap (λ (b : Bool). if b then Some x else None) passes

-- ---- the contents that have them

-- contents that have a member's sector have its superblock
pub own_there : (v : View) (t : State) (e : Image) (s : Slot) → IsStateOf v t → s.place < 16
    → IsSectorOf (member_super v.truth s) (e (member_slice s.place v.number) super_sector)
    → super_in t e v.number s.place ≡ Some (member_super v.truth s)
own_there v t e s state low sector =
    passes_only (is_super_of t.pool.0 t.extent (length t.drives.items) v.number s.place) _ (member_super v.truth s) sector.reads (own_valid v t s state low)

-- what one target says of its sector
on_target : (number : ℕ) (t : Super) (s : Slot) (x : Target) (e : Image) → IsSuperOn number t s x → e x.disk x.sector ≡ x.bytes
    → IsSectorOf (member_super t s) (e (member_slice s.place number) super_sector)
on_target number t s x e on has =
    subst (IsSectorOf (member_super t s)) (sym has ∙ ap₂ e on.disk on.sector) on.bytes

-- contents that have the targets have each member's sector
pub has_sectors : (number : ℕ) (t : Super) (e : Image) (slots : List Slot) (xs : List Target)
    → AreSupersOn number t (present slots) xs → HasTargets xs e
    → (n : ℕ) (s : Slot) → slice_get slots n ≡ Some s → is_missing_seat s.seat ≡ false
    → IsSectorOf (member_super t s) (e (member_slice s.place number) super_sector)
has_sectors number t e [] xs are has n s at there = cc
has_sectors number t e (first ∷ slots) xs are has n s at there =
    let rest = has_sectors number t e slots in
    let Goal : Bool → Type 0 = λ b. is_missing_seat first.seat ≡ b
    → AreSupersOn number t (if not b then first ∷ present slots else present slots) xs
    → IsSectorOf (member_super t s) (e (member_slice s.place number) super_sector) in
    let goal : Goal (is_missing_seat first.seat) = elim (is_missing_seat first.seat) as Goal [
      | true ↦ λ is others. skipped number t e first slots n s is (λ m. rest xs others has m s) at there
      | false ↦ λ is all. taken number t e first slots xs n s all has rest at there
    ] in
    goal refl are
  where
    same_slot : (x y : Slot) → Some x ≡ Some y → x ≡ y
    same_slot x y e = cc

    skipped : (number : ℕ) (t : Super) (e : Image) (first : Slot) (slots : List Slot) (n : ℕ) (s : Slot) → is_missing_seat first.seat ≡ true
        → ((m : ℕ) → slice_get slots m ≡ Some s → is_missing_seat s.seat ≡ false → IsSectorOf (member_super t s) (e (member_slice s.place number) super_sector))
        → slice_get (first ∷ slots) n ≡ Some s → is_missing_seat s.seat ≡ false
        → IsSectorOf (member_super t s) (e (member_slice s.place number) super_sector)
    skipped number t e first slots zero s missing rest at there =
        absurd (both_ways (is_missing_seat s.seat) there (subst (λ (u : Slot). is_missing_seat u.seat ≡ true) (same_slot first s at) missing))
    skipped number t e first slots (suc m) s missing rest at there = rest m at there

    taken : (number : ℕ) (t : Super) (e : Image) (first : Slot) (slots : List Slot) (xs : List Target) (n : ℕ) (s : Slot)
        → AreSupersOn number t (first ∷ present slots) xs → HasTargets xs e
        → ((xs : List Target) → AreSupersOn number t (present slots) xs → HasTargets xs e
        → (n : ℕ) (s : Slot) → slice_get slots n ≡ Some s → is_missing_seat s.seat ≡ false
        → IsSectorOf (member_super t s) (e (member_slice s.place number) super_sector))
        → slice_get (first ∷ slots) n ≡ Some s → is_missing_seat s.seat ≡ false
        → IsSectorOf (member_super t s) (e (member_slice s.place number) super_sector)
    taken number t e first slots [] n s are has rest at there = absurd are
    taken number t e first slots (x ∷ xs) zero s are has rest at there =
        subst (λ (u : Slot). IsSectorOf (member_super t u) (e (member_slice u.place number) super_sector)) (same_slot first s at)
        (on_target number t first x e are.0 (has x (inl refl)))
    taken number t e first slots (x ∷ xs) (suc m) s are has rest at there =
        rest xs are.1 (λ y among. has y (inr among)) m s at there

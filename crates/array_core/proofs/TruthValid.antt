-- A superblock that says an array's truth is valid on its place.
use Rattle.std.proofs.Common.{◌≡◌, ℕ, ◌%◌, ◌<◌, ◌^◌, Bool, true, ◌==◌, ◌&&◌, ◌||◌, not, nat_lt, bit_and, is_ok, List, length, drop, Some, refl, sym, ap, subst, ◌∙◌, eq-eqb, lt-ltb}
use Rattle.std.proofs.lemmas.Bool.{and_from}
use Rattle.std.proofs.lemmas.Slice.Eq.{bytes_eq-Decides}
use Rattle.md_super.specs.declared.superblock.Super.{Super}
use Rattle.md_super.specs.declared.superblock.Field.TheVariants.{FeatureMap, Level, Layout, Chunk, RaidDisks, Size, DataOffset, SuperOffset, DevNumber, MaxDev}
use Rattle.md_super.specs.Profile.{rules, profiled, is_raid5}
use Rattle.pool_state.specs.declared.contents.State.{State}
use Rattle.array_image.specs.Places.{array_id}
use Rattle.array_image.specs.SoundArray.{array_fields}
use Rattle.array_image.specs.Supers.{has_roles, has_whole_row, is_reshaping, is_super_of, new_row}
use Rattle.array_model.specs.Stages.{IsStateOf}
use Rattle.array_model.specs.View.{View}
use Rattle.array_core.specs.TruthHeld.{HasFewBits, SaysTruth}
use Rattle.array_core.proofs.OwnSupers.{array_bits}
use Rattle.array_core.proofs.Truths.{rule_holds, rule_then}

-- a superblock by the array's fields of a truth, and its member's of another one
abbrev stamped : Super → Super → Super
stamped t o = record t { feature_map = o.feature_map; recovery_offset = o.recovery_offset; dev_number = o.dev_number; device_id = o.device_id }

is_stamped : (t o : Super) → array_fields o ≡ array_fields t → o ≡ stamped t o
is_stamped t o same =
    ap (λ (x : Super). record x { feature_map = o.feature_map; recovery_offset = o.recovery_offset; dev_number = o.dev_number; device_id = o.device_id }) same

module _ (t o : Super) (bits : HasFewBits o) (same : array_fields o ≡ array_fields t) (few : HasFewBits t) where
  reshaping_same : is_reshaping o ≡ is_reshaping t
  reshaping_same =
      ap (λ (n : ℕ). n == 4)
      (sym (array_bits o.feature_map bits) ∙ ap (λ (x : Super). x.feature_map) same ∙ array_bits t.feature_map few)

  row_same : has_whole_row t ≡ true → has_whole_row (stamped t o) ≡ true
  row_same row =
      ap (λ (b : Bool). not b || (is_raid5 t && (nat_lt 2 t.raid_disks && (t.reshape_position % new_row t == 0)))) reshaping_same ∙ row

  profile_same : (extent : ℕ) → o.dev_number < 16 → is_ok (profiled t extent) ≡ true → is_ok (profiled (stamped t o) extent) ≡ true
  profile_same extent low ok =
      let rule = λ (n : ℕ). rule_holds n (rules t extent) ok in
      let rest = λ (n : ℕ). drop n (rules (stamped t o) extent) in
      rule_then _ FeatureMap (rest 1) (eq-eqb (bit_and o.feature_map 0xfffffff9) 0 bits)
      (rule_then _ Level (rest 2) (rule 1)
      (rule_then _ Layout (rest 3) (rule 2)
      (rule_then _ Chunk (rest 4) (rule 3)
      (rule_then _ RaidDisks (rest 5) (rule 4)
      (rule_then _ Size (rest 6) (rule 5)
      (rule_then _ DataOffset (rest 7) (rule 6)
      (rule_then _ SuperOffset (rest 8) (rule 7)
      (rule_then _ DevNumber (rest 9) (lt-ltb o.dev_number 16 low)
      (rule_then _ MaxDev (rest 10) (rule 9) refl)))))))))

pub says_valid : (s : State) (v : View) (place : ℕ) (sector : List ℕ) → IsStateOf v s → HasFewBits v.truth → place < 16 → (says : SaysTruth v.truth place sector)
    → is_super_of s.pool.0 s.extent (length s.drives.items) v.number place says.own ≡ true
says_valid s v place sector state few low says =
    let t = v.truth in
    let o = says.own in
    subst (λ (x : Super). is_super_of s.pool.0 s.extent (length s.drives.items) v.number place x ≡ true) (sym (is_stamped t o says.same))
    (and_from _ _ (profile_same t o says.bits says.same few s.extent (subst (λ k. k < 16) (sym says.on) low) state.profile)
    (and_from _ _ ((bytes_eq-Decides t.set_id.0 (array_id s.pool.0 v.number)).1 state.set)
    (and_from _ _ (eq-eqb o.dev_number place says.on)
    (and_from _ _ (lt-ltb 0 t.events state.events)
    (and_from _ _ (lt-ltb t.events (2 ^ 63) state.events_end)
    (and_from _ _ (row_same t o says.bits says.same few state.row) state.roles))))))

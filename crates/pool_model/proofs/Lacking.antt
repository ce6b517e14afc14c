-- An array one of whose places has nothing any more: its truth has the same fields, and its shape lacks that place.
use Rattle.std.proofs.Common.{◌≡◌, ◌≢◌, ℕ, min, Bool, true, false, ◌==◌, bit_and, if◌then◌else◌, List, [], ◌∷◌, map, length, Option, Some, None, option_map, unwrap_or, refl, sym, ap, ap₂, ◌∙◌, eqb-true, arith}
use Rattle.std.specs.Int.{bit_at}
use Rattle.std.specs.List.{range_with_len}
use Rattle.std.proofs.lemmas.Bool.{both_ways, eq-eqb}
use Rattle.std.proofs.lemmas.Nat.Bits.{bit_at_and, same_from_bits}
use Rattle.std.proofs.lemmas.Option.{none-some}
use Rattle.rack.specs.Seen.{Image}
use Rattle.md_super.specs.declared.superblock.Super.{Super}
use Rattle.md_super.specs.Profile.{is_mirror}
use Rattle.pool_state.specs.declared.contents.State.{State}
use Rattle.array_image.specs.Arrays.{Member, member_by, member_in, place_with, shape_by, shape_in}
use Rattle.array_image.specs.Marks.{lower, lowered, unless_gone}
use Rattle.array_image.specs.SoundArray.{array_fields}
use Rattle.array_image.specs.States.{is_current}
use Rattle.array_image.specs.Supers.{is_reshaping, super_in, truth_in}
use Rattle.array_core.specs.Contents.{current_super}
use Rattle.array_core.proofs.Leading.{none_leads}
use Rattle.array_core.proofs.Opened.{current_below, current_is, truth_leads, truth_ranged}
use Rattle.array_model.proofs.Renewed.{SameLayout, shape_layout}

-- ---- fields

-- a bit of a mask is read behind it as before it
masked : (n mask bit : ℕ) → bit_and mask bit ≡ bit → bit_and (bit_and n mask) bit ≡ bit_and n bit
masked n mask bit inside =
    same_from_bits (bit_and (bit_and n mask) bit) (bit_and n bit) (λ i.
    let of_bit : min (bit_at mask i) (bit_at bit i) ≡ bit_at bit i = sym (bit_at_and mask bit i) ∙ ap (λ (k : ℕ). bit_at k i) inside in
    bit_at_and (bit_and n mask) bit i ∙ ap (λ k. min k (bit_at bit i)) (bit_at_and n mask i)
    ∙ lowest (bit_at n i) (bit_at mask i) (bit_at bit i) of_bit
    ∙ sym (bit_at_and n bit i))
  where
    lowest : (x m b : ℕ) → min m b ≡ b → min (min x m) b ≡ min x b
    lowest x m b is = omega (arith, is)

pub same_reshaping : (t u : Super) → array_fields u ≡ array_fields t → is_reshaping u ≡ is_reshaping t
same_reshaping t u fields =
    ap (λ k. k == 4)
    (sym (masked u.feature_map 0xfffffffd 4 refl)
    ∙ ap (λ (z : Super). bit_and z.feature_map 4) fields
    ∙ masked t.feature_map 0xfffffffd 4 refl)

pub same_layout : (t u : Super) → array_fields u ≡ array_fields t → SameLayout u t
same_layout t u fields = record {
  size = ap (λ (z : Super). z.size) fields;
  disks = ap (λ (z : Super). z.raid_disks) fields;
  level = ap (λ (z : Super). is_mirror z) fields;
  roles = ap (λ (z : Super). z.roles) fields;
  reshaping = same_reshaping t u fields;
  position = ap (λ (z : Super). z.reshape_position) fields;
}

-- the places that are lost
abbrev pub only_place : ℕ → ℕ → Bool
only_place p q = q == p

-- Contents e have of an array what c have, but for a place p, which has no superblock there. All superblocks of c have the same fields, and another
-- place has one.
pub record IsLacking (s : State) (c e : Image) (n p : ℕ) : Type 0 where
  pub others : (q : ℕ) → q ≢ p → is_current s q ≡ true → super_in s e n q ≡ super_in s c n q
  pub gone : super_in s e n p ≡ None
  pub alike :
      (q r : ℕ) (u v : Super) → is_current s q ≡ true → is_current s r ≡ true
      → super_in s c n q ≡ Some u → super_in s c n r ≡ Some v → array_fields u ≡ array_fields v
  pub other : ℕ
  pub apart : other ≢ p
  pub current : is_current s other ≡ true
  pub has : (u : Super) × (super_in s c n other ≡ Some u)

module _ (s : State) (c e : Image) (n p : ℕ) (lacks : IsLacking s c e n p) (t : Super) (is : truth_in s c n ≡ Some t) where
  -- its truth
  pub truth_left : (u : Super) × (truth_in s e n ≡ Some u) × (array_fields u ≡ array_fields t)
  truth_left = by (truth_in s e n) refl
    where
      there : (q : ℕ) → is_current s q ≡ true → current_super s e n q ≡ super_in s e n q
      there q counts = ap (λ (b : Bool). if b then super_in s e n q else None) counts

      by : (o : Option Super) → truth_in s e n ≡ o → (u : Super) × (truth_in s e n ≡ Some u) × (array_fields u ≡ array_fields t)
      by None none =
          let nothing = none_leads (λ (u : Super). u.events) (current_super s e n) 0 (length s.drives.items) (sym (truth_ranged s e n) ∙ none) lacks.other
          (omega arith) (let low = current_below s lacks.other lacks.current in omega (arith, low)) in
          absurd (none-some lacks.has.0
          (sym nothing ∙ there lacks.other lacks.current ∙ lacks.others lacks.other lacks.apart lacks.current ∙ lacks.has.1))
      by (Some u) some =
          let now = truth_leads s e n u some in
          let at = current_is s e n now.at u now.here in
          let was = truth_leads s c n t is in
          let before = current_is s c n was.at t was.here in
          let apart : now.at ≢ p = λ same. none-some u (sym lacks.gone ∙ ap (super_in s e n) (sym same) ∙ at.1) in
          (u, some, lacks.alike now.at was.at u t at.0 before.0 (sym (lacks.others now.at apart at.0) ∙ at.1) before.1)

  -- ---- its shape

  member_left : (k : ℕ) → member_in s e n t k ≡ lower (only_place p) (member_in s c n t k)
  member_left k = of (q == p) refl
    where
      q : ℕ
      q = unwrap_or (place_with t.roles.items k) 16

      none : (b : Bool) → member_by t.size q b None ≡ unless_gone true (member_by t.size q b (super_in s c n q))
      none true = refl
      none false = refl

      other : (b : Bool) → is_current s q ≡ b → q ≢ p → member_by t.size q b (super_in s e n q) ≡ unless_gone false (member_by t.size q b (super_in s c n q))
      other true counts apart = ap (member_by t.size q true) (lacks.others q apart counts)
      other false counts apart = refl

      of : (b : Bool) → (q == p) ≡ b → member_by t.size q (is_current s q) (super_in s e n q) ≡ unless_gone b (member_by t.size q (is_current s q) (super_in s c n q))
      of true same =
          ap (member_by t.size q (is_current s q)) (ap (super_in s e n) (eqb-true q p same) ∙ lacks.gone) ∙ none (is_current s q)
      of false apart = other (is_current s q) refl (λ same. both_ways (q == p) apart (eq-eqb q p same))

  members_left : (ks : List ℕ) → map (member_in s e n t) ks ≡ map (lower (only_place p)) (map (member_in s c n t) ks)
  members_left [] = refl
  members_left (k ∷ ks) = ap₂ (λ m ms. m ∷ ms) (member_left k) (members_left ks)

  shape_of_left : shape_by s e n t ≡ lowered (only_place p) (shape_by s c n t)
  unfolding shape_by
  shape_of_left = ap (λ (ms : List Member). record (shape_by s c n t) { members = ms }) (members_left (range_with_len 0 t.raid_disks))

  pub shape_left : shape_in s e n ≡ Some (lowered (only_place p) (shape_by s c n t))
  shape_left =
      ap (option_map (shape_by s e n)) truth_left.1
      ∙ ap Some (shape_layout s e n truth_left.0 t (same_layout t truth_left.0 truth_left.2) ∙ shape_of_left)

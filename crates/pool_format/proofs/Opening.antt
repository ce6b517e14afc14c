-- The array that the superblocks of a new array make: whole, with the truth of one of its members.
use Rattle.std.proofs.Common.{◌≡◌, ℕ, ◌+◌, ◌*◌, ◌<◌, ◌≤◌, true, false, not, List, [], ◌∷◌, count_by, filter, length, if◌then◌else◌, Some, None, Ok, refl, ap, ◌∙◌, arith}
use Rattle.std.specs.List.{range_with_len}
use Rattle.std.proofs.lemmas.List.Sums.{sum_by-cons}
use Rattle.shr_base.specs.declared.Id.{Id}
use Rattle.md_super.specs.declared.superblock.Super.{Super}
use Rattle.array_image.specs.Places.{drive_id}
use Rattle.array_core.specs.declared.Found.{Found}
use Rattle.array_core.specs.Model.{is_truth}
use Rattle.array_core.specs.Opening.{opened, super_at, truth_of, view_found}
use Rattle.array_core.specs.Slots.{place_by}
use Rattle.new_array.proofs.Lists.{filter_few}
use Rattle.new_array.proofs.Opened as whole
use Rattle.new_array.proofs.Supers.{IsLayer}
use Rattle.pool_format.specs.declared.Birth.{Birth}
use Rattle.pool_format.specs.declared.planning.NewArray.{NewArray}
use Rattle.pool_format.specs.Arrays.{new_found}
use Rattle.pool_format.specs.Plan.{IsNewArray, has}
use Rattle.pool_format.specs.Parts.{all_rows, new_super}

-- none of them is missing
none_missing : (xs : List ℕ) → count_by (λ p. not true) xs ≡ 0
none_missing [] = refl
none_missing (x ∷ xs) = sum_by-cons (λ p. if not true then 1 else 0) x xs ∙ ap (λ n. 0 + n) (none_missing xs)

module _ (birth : Birth) (a : NewArray) (number extent drives chunks : ℕ) (most : drives ≤ 16) (is : IsNewArray extent drives a) (wide : extent ≡ chunks * 128)
    (some : 0 < extent) (few : length a.members.items ≤ 16) where
  abbrev found : List Found
  found = new_found birth a number

  abbrev pool : Id
  pool = record { 0 = birth.pool }

  abbrev ids : ℕ → Id
  ids p = record { 0 = drive_id birth.pool p }

  layer : IsLayer extent drives a.members.items a.size
  layer = record { reaches = is.reaches; members_are = is.members_are; least = is.least; few = few; height = is.height; some = is.some; size_is = is.size_is }

  pub seen_at : (p : ℕ) → super_at found p ≡ (if has a.members.items p then Some (new_super birth a number p) else None)
  seen_at = whole.seen_at pool ids a.members.items number a.size all_rows birth.seconds extent drives most layer (λ p. true)

  -- its truth is the superblock of a member
  pub truth_is : (t : Super) → truth_of found ≡ Some t → (p : ℕ) × (has a.members.items p ≡ true) × (t ≡ new_super birth a number p)
  truth_is t leads =
      let one = whole.truth_is pool ids a.members.items number a.size all_rows birth.seconds extent drives most layer (λ p. true) t leads in
      (one.0, one.1, one.3)

  pub truth_usable : (t : Super) → truth_of found ≡ Some t → is_truth t ≡ true
  truth_usable = whole.truth_usable pool ids a.members.items number a.size all_rows birth.seconds extent drives most layer (λ p. true) chunks wide some is.small

  -- each position has a member
  pub position_member : (p k : ℕ) → p < 16 → k < length a.members.items → has a.members.items (place_by (new_super birth a number p) k) ≡ true
  position_member = whole.position_member pool ids a.members.items number a.size all_rows birth.seconds extent drives most layer (λ p. true)

  pub array_opens : (t : Super) × (truth_of found ≡ Some t) × (opened number false found ≡ Ok (view_found number false found t))
  array_opens =
      let none = none_missing a.members.items in
      whole.array_opens pool ids a.members.items number a.size all_rows birth.seconds extent drives most layer (λ p. true) false (omega (arith, none)) (λ old. none)

-- there are as many members as drives at most
pub members_few : (a : NewArray) (extent drives : ℕ) → IsNewArray extent drives a → drives ≤ 16 → length a.members.items ≤ 16
members_few a extent drives is most =
    let few = filter_few is.reaches 0 drives in
    let many : length a.members.items ≡ length (filter is.reaches (range_with_len 0 drives)) = ap (λ (xs : List ℕ). length xs) is.members_are in
    omega (arith, few, many, most)

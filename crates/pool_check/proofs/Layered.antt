-- What is read of one array is what the drives say of it.
use Rattle.std.proofs.Common.{◌≡◌, ℕ, zero, suc, ◌+◌, ◌<◌, ◌≤◌, ◌^◌, Bool, true, false, ◌&&◌, ◌||◌, not, nat_lt, nat_le, if◌then◌else◌, List, ◌∷◌, map, Option, Some, None, Ok, Err, is_some, option_map, refl, sym, ap, ap₂, ◌∙◌, arith}
use Rattle.std.specs.Prelude.{replicate}
use Rattle.std.specs.Option.{option_map_or, option_and_then}
use Rattle.std.specs.List.{range_with_len}
use Rattle.std.proofs.lemmas.Bool.{le-leb}
use Rattle.md_super.specs.declared.superblock.Super.{Super}
use Rattle.array_image.specs.Places.{member_slice, super_sector, data_sector}
use Rattle.array_image.specs.States.{is_current}
use Rattle.array_image.specs.Supers.{is_named, is_unclean, super_in}
use Rattle.array_image.specs.Arrays.{shape_by}
use Rattle.array_image.proofs.Frames.{super_of_sector}
use Rattle.array_core.specs.declared.Found.{Found as FoundSuper}
use Rattle.array_core.specs.declared.ArrayFault.TheVariants.{Foreign, TooFew, DirtyDegraded}
use Rattle.array_core.specs.Model.{is_truth}
use Rattle.array_core.specs.Opening.{opened, opened_by, super_at as super_found, view_found}
use Rattle.array_core.specs.Contents.{current_super, lacking_in}
use Rattle.array_core.proofs.Opened.{map_ranged, named_lacking}
use Rattle.pool_image.specs.Drives.{Found, end_of, extent_from, extent_of, first_of, slices_from, slices_of, truth_from}
use Rattle.pool_image.specs.Meaning.{super_at, truth_of}
use Rattle.pool_image.proofs.Truths.{extent_found, slice_of_member, slice_sector, truth_found}
use Rattle.pool_check.specs.declared.Sight.TheVariants.{Stranger}
use Rattle.pool_check.specs.Drives.{HasFewPlaces}
use Rattle.pool_check.specs.Layers.{all_found, fault_by, fault_of, found_on, sight_by, sight_of, sights_by}
use Rattle.pool_check.proofs.Finding.{current_same, found_any, found_is_truth, found_share, got_from}

-- ---- no truth

strange : (f : Found) (array : ℕ) → truth_of f array ≡ None → (place : ℕ) → Stranger ≡ sight_of f array place
strange f array none place =
    sym (ap (λ (o : Option Super). sight_by (option_map_or (λ t. is_named t place) o false) (is_some (super_at f array place))) none)

pub all_strange : (f : Found) (array : ℕ) → truth_of f array ≡ None → (a n : ℕ) → replicate n Stranger ≡ map (sight_of f array) (range_with_len a n)
all_strange f array none a zero = refl
all_strange f array none a (suc n) = ap₂ (λ x xs. x ∷ xs) (strange f array none a) (all_strange f array none (a + 1) n)

pub unknown_fault : (f : Found) (array : ℕ) → truth_of f array ≡ None → Some Foreign ≡ fault_of f array
unknown_fault f array none = sym (ap (λ (o : Option Super). option_map_or (fault_by f array) o (Some Foreign)) none)

-- ---- a truth

module _ (f : Found) (array first : ℕ) (t : Super) (low : array < 16) (begins : first_of f array ≡ Some first) (is : truth_from f array first ≡ Some t) where
  pub known_truth : truth_of f array ≡ Some t
  known_truth = truth_found f array first t low begins is

  pub known_extent : extent_of f (suc array) ≡ Some (record { first = first; sectors = data_sector + t.size })
  known_extent = extent_found f array first t begins is

  pub known_next : first_of f (suc array) ≡ Some (first + (data_sector + t.size))
  unfolding first_of
  known_next =
      ap (option_and_then (λ first. option_map end_of (extent_from f array first))) begins
      ∙ ap (λ (o : Option Super). option_map end_of (option_map (λ (u : Super). record { first = first; sectors = data_sector + u.size }) o)) is

  pub known_super : (place : ℕ) → super_at f array place ≡ super_in f.state (slices_from f first) array place
  known_super place =
      super_of_sector f.state (slices_of f) (slices_from f first) array place
      (slice_sector f (member_slice place array) super_sector first (data_sector + t.size)
      (ap (extent_of f) (slice_of_member place array low) ∙ known_extent)
      (omega arith))

  known_sight : (place : ℕ) → place < 16 → sights_by t (all_found f array first) place ≡ sight_of f array place
  known_sight place inside =
      ap₂ (λ (member valid : Bool). sight_by member valid)
      (sym (ap (λ (o : Option Super). option_map_or (λ u. is_named u place) o false) known_truth))
      (ap (λ o. is_some (option_and_then (λ (g : FoundSuper). g.seen) o)) (got_from (found_on f array first) 16 place inside)
      ∙ ap is_some (sym (known_super place)))

  pub known_sights : map (sights_by t (all_found f array first)) (range_with_len 0 16) ≡ map (sight_of f array) (range_with_len 0 16)
  known_sights = map_ranged (sights_by t (all_found f array first)) (sight_of f array) 0 16 (λ k least most. known_sight k (omega (arith, most)))

  pub far_fault : 2 ^ 48 ≤ t.size → Some TooFew ≡ fault_of f array
  far_fault far =
      sym (ap (λ (o : Option Super). option_map_or (fault_by f array) o (Some Foreign)) known_truth
      ∙ first_test (nat_le (2 ^ 48) t.size) (le-leb (2 ^ 48) t.size far))
    where
      first_test : (b : Bool) → b ≡ true → (if b || nat_lt 1 (lacking_in (shape_by f.state (slices_of f) array t)) then Some TooFew
          else if nat_lt 0 (lacking_in (shape_by f.state (slices_of f) array t)) && (nat_lt array f.state.joined && is_unclean t) then Some DirtyDegraded
          else None) ≡ Some TooFew
      first_test true at = refl
      first_test false at = cc

  -- what opening these answers
  module _ (few : HasFewPlaces f.state f.seats) (holds : is_truth t ≡ true) where
    abbrev found : List FoundSuper
    found = all_found f array first

    pub named : (place : ℕ) → is_named t place ≡ true → super_found found place ≡ current_super f.state (slices_of f) array place
    named place names =
        found_any f array first low few place ∙ sym (current_same f array first low few place)
        ∙ ap (λ o. if is_current f.state place then o else None) (sym (known_super place))

    pub opens_as : (young : Bool) → opened array young found
        ≡ (if nat_lt 1 (lacking_in (shape_by f.state (slices_of f) array t)) then Err TooFew
        else if nat_lt 0 (lacking_in (shape_by f.state (slices_of f) array t)) && (not young && is_unclean t) then Err DirtyDegraded
        else Ok (view_found array young found t))
    opens_as young =
        ap (λ (o : Option Super). option_map_or (opened_by array young found) o (Err Foreign)) (found_is_truth f array first low few ∙ is)
        ∙ ap₂ (λ (b : Bool) (n : ℕ).
        if not b then Err Foreign
        else if nat_lt 1 n then Err TooFew
        else if nat_lt 0 n && (not young && is_unclean t) then Err DirtyDegraded
        else Ok (view_found array young found t))
        (found_share f array first low few t is) (named_lacking f.state (slices_of f) array t found holds named)

-- The refusals of a pool whose logs are well formed, as far as its tables say that they are there.
use Rattle.std.proofs.Common.{◌≡◌, ℕ, Bool, true, false, not, nat_lt, if◌then◌else◌, find, Option, Some, None, option_map, is_some, is_none, refl, sym, ap, ◌∙◌}
use Rattle.std.specs.Option.{option_and_then}
use Rattle.array_image.specs.States.{current_places}
use Rattle.pool_image.specs.Drives.{Found}
use Rattle.pool_image.specs.Meaning.{Part, Refusal, absent, absent_count, bad_volume, damaged, has_log, has_supers, has_table, in_log, in_state, in_superblock, in_table, joined_arrays, refused_by}
use Rattle.pool_image.specs.Volumes.{first_bad}
use Rattle.pool_check.specs.Refusing.{damage_by, damage_later, damage_with, is_well, refused_arrays, refused_with}
use Rattle.pool_check.proofs.Meant.{fault_first, none_first, refused_is}
use Rattle.std.specs.Option.{option_or}

module _ (f : Found) (sound : (place d : ℕ) → f.seats place ≡ Some d → has_table f place d ≡ true → has_log f place ≡ true) where
  damage_same : (place : ℕ) → damage_with (is_well None) f place ≡ damage_with (has_log f) f place
  damage_same place = by (f.seats place) refl
    where
      of : (d : ℕ) → f.seats place ≡ Some d → (b : Bool) → has_table f place d ≡ b
          → (if not b then Some in_table else damage_later (is_well None) f place d) ≡ (if not b then Some in_table else damage_later (has_log f) f place d)
      of d seat false is = refl
      of d seat true is =
          ap (λ (b : Bool). if is_none (f.identities d).copied then Some in_state
          else if not b then Some in_log
          else if not (has_supers f place) then Some in_superblock
          else None) (sym (sound place d seat is))

      by : (o : Option ℕ) → f.seats place ≡ o → option_and_then (damage_by (is_well None) f place) o ≡ option_and_then (damage_by (has_log f) f place) o
      by None seat = refl
      by (Some d) seat = of d seat (has_table f place d) refl

  refusal_same : (last : Option Refusal) → refused_with (is_well None) last f ≡ refused_with (has_log f) last f
  unfolding refused_with
  refusal_same last =
      ap (λ (damage : ℕ → Option Part). if nat_lt 1 (absent_count f) then Some (absent (absent_count f))
      else option_or (option_and_then (λ place. option_map (damaged place) (damage place)) (find (λ place. is_some (damage place)) (current_places f.state)))
      (refused_arrays last f)) (λ i place. damage_same place i)

  pub well_refuses : (r : Refusal) → refused_with (is_well None) None f ≡ Some r → refused_by f ≡ Some r
  well_refuses r is =
      sym (refused_is f) ∙ fault_first (has_log f) (option_map bad_volume (first_bad (joined_arrays f))) f r (sym (refusal_same None) ∙ is)

  pub well_passes : refused_with (is_well None) None f ≡ None → refused_by f ≡ option_map bad_volume (first_bad (joined_arrays f))
  well_passes is = sym (refused_is f) ∙ none_first (has_log f) (option_map bad_volume (first_bad (joined_arrays f))) f (sym (refusal_same None) ∙ is)

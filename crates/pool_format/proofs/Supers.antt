-- The superblocks of a new array are valid ones of the pool.
use Rattle.std.proofs.Common.{◌≡◌, ℕ, ◌*◌, ◌<◌, ◌≤◌, ◌^◌, true, is_ok, length}
use Rattle.md_super.specs.Profile.{profiled}
use Rattle.array_image.specs.Supers.{has_roles}
use Rattle.array_image.specs.Places.{drive_id}
use Rattle.array_core.specs.Model.{is_truth}
use Rattle.new_array.proofs.Supers as new
use Rattle.pool_format.specs.declared.Birth.{Birth}
use Rattle.pool_format.specs.declared.planning.NewArray.{NewArray}
use Rattle.pool_format.specs.Plan.{IsNewArray}
use Rattle.pool_format.specs.Parts.{all_rows, new_super}

module _ (birth : Birth) (a : NewArray) (number place extent drives : ℕ) (most : drives ≤ 16) (is : IsNewArray extent drives a) (low_place : place < 16)
    (few : length a.members.items ≤ 16) where
  layer : new.IsLayer extent drives a.members.items a.size
  layer = record { reaches = is.reaches; members_are = is.members_are; least = is.least; few = few; height = is.height; some = is.some; size_is = is.size_is }

  pub profile_ok : (unit k : ℕ) → extent ≡ k * unit → 0 < extent → is_ok (profiled (new_super birth a number place) unit) ≡ true
  profile_ok =
      new.profile_ok (record { 0 = birth.pool }) (record { 0 = drive_id birth.pool place }) a.members.items number place a.size all_rows birth.seconds extent drives most layer low_place

  pub roles_ok : (all : ℕ) → drives ≤ all → has_roles all (new_super birth a number place) ≡ true
  roles_ok =
      new.roles_ok (record { 0 = birth.pool }) (record { 0 = drive_id birth.pool place }) a.members.items number place a.size all_rows birth.seconds extent drives most layer low_place

  pub truth_ok : (k : ℕ) → extent ≡ k * 128 → 0 < extent → a.size < 2 ^ 48 → is_truth (new_super birth a number place) ≡ true
  truth_ok =
      new.truth_ok (record { 0 = birth.pool }) (record { 0 = drive_id birth.pool place }) a.members.items number place a.size all_rows birth.seconds extent drives most layer low_place

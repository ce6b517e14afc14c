-- The end of a reshape.
use Rattle.std.proofs.Common.{◌≡◌, ◌-◌, ◌*◌, ◌≤◌, Bool, true, false, if◌then◌else◌, [], refl, arith}
use Rattle.rack.specs.Seen.{RackView}
use Rattle.md_super.specs.Profile.{is_mirror}
use Rattle.array_image.specs.Supers.{is_reshaping}
use Rattle.array_image.specs.SoundArray.{first_unsynced}
use Rattle.array_model.specs.View.{View, IsArray}
use Rattle.array_core.specs.Superblocks.{raised}
use Rattle.reshape_laws.specs.Ahead.{finished}
use Rattle.reshape_laws.specs.Reshapes.{lacks_two}
use Rattle.reshape_laws.proofs.Committing.{Step}
use Rattle.reshape_laws.proofs.StepsOf.{finish_step}

-- what the call needs of an array, and what holds of it
pub record IsEnding (v : View) : Type 0 where
  pub is_array : IsArray v
  pub reshaping : is_reshaping v.truth ≡ true
  pub whole : v.truth.reshape_position ≡ (v.truth.raid_disks - 1) * v.truth.size
  pub few : lacks_two v ≡ false
  pub unsynced : first_unsynced v.truth ≤ v.resync

pub no_mirror : (v : View) → IsArray v → is_reshaping v.truth ≡ true → is_mirror v.truth ≡ false
no_mirror v is_array reshaping = by (is_mirror v.truth) is_array.most (is_array.reshape reshaping).1
  where
    by : (b : Bool) → v.truth.raid_disks ≤ (if b then 2 else 16) → 3 ≤ v.truth.raid_disks → b ≡ false
    by true few many = absurd (omega (arith, few, many))
    by false few many = refl

pub ending_step : (v : View) (a : RackView) → IsEnding v → Step v (finished v (raised v.truth.events)).truth v.seats v.devices v.resync (λ m. ⊥) [] a a
ending_step v a is = finish_step v (raised v.truth.events) is.is_array is.reshaping (no_mirror v is.is_array is.reshaping) is.whole is.few is.unsynced a a

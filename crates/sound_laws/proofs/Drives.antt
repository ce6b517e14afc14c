-- What the rules on the list of drives and on the plan give.
use Rattle.std.proofs.Common.{◌≡◌, ℕ, ◌<◌, List, is_none, Option, Some, None, inl, refl, ap}
use Rattle.array_image.specs.Places.{drive_id}
use Rattle.array_image.specs.States.{id_of}
use Rattle.pool_state.specs.declared.contents.Drive.{Drive}
use Rattle.pool_state.specs.declared.contents.Plan.{Plan}
use Rattle.pool_state.specs.declared.contents.Plan.TheVariants.{Nothing}
use Rattle.pool_image.specs.Book.{planned}
use Rattle.pool_image.specs.Drives.{Found}
use Rattle.pool_image.specs.Sound.{Growth, IsSoundButNumbers, IsSoundList, drive_at}
use Rattle.pool_model.specs.Taken.{AreSerial}
use Rattle.assembler.specs.Sound.{TargetsLand}

-- Targets land where the pool's slices are.
pub targets_land : (growth : Growth) (f : Found) → IsSoundButNumbers growth f → TargetsLand f
targets_land growth f rules = inl (rules.list, rules.plan)

-- The drives have ids of serials that were given.
pub are_serial : (f : Found) → IsSoundList f → AreSerial f.state
are_serial f list = record { serial = list.serial; ids = λ place id is. of_drive place id (drive_at f place) refl is }
  where
    of_drive :
        (place : ℕ) (id : List ℕ) (drive : Option Drive) → drive_at f place ≡ drive → id_of f.state place ≡ Some id
        → (list.serial place < f.state.serial) × (id ≡ drive_id f.state.pool.0 (list.serial place))
    of_drive place id None there is = cc
    of_drive place id (Some drive) there is =
        let known = list.ids place drive there in
        let same : id ≡ drive.id.0 = cc (there, is) in (known.0, cc (same, known.1))

-- Without a plan all arrays are ready for the volume.
pub all_joined : (growth : Growth) (f : Found) → IsSoundButNumbers growth f → f.state.plan ≡ Nothing → f.state.joined ≡ f.state.made
all_joined growth f rules quiet = rules.state.joined (ap (λ (plan : Plan). is_none (planned plan)) quiet)

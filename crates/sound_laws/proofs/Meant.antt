-- What sound contents give of an opening: they hold a sound pool, and mean one volume.
use Rattle.std.proofs.Common.{◌≡◌, ℕ, ◌<◌, true, false, [], ◌∷◌, Option, Some, None, option_map, refl, ap, subst, sym}
use Rattle.std.specs.Option.{option_map_or}
use Rattle.rack.specs.Seen.{Image, RackView}
use Rattle.lvm_text.specs.declared.group.Group.{Group}
use Rattle.md_super.specs.declared.superblock.Super.{Super}
use Rattle.array_image.specs.Supers.{is_named}
use Rattle.pool_image.specs.Disks.{Disks, disks_of}
use Rattle.pool_image.specs.Drives.{Found, found}
use Rattle.pool_image.specs.Volumes.{linear_of}
use Rattle.pool_image.specs.Book.{book_of}
use Rattle.pool_image.specs.Meaning.{Refusal, Volume, arrays_held, group_of, joined_arrays, meaning, refusal_of, truth_of, volume_by, volumes_of}
use Rattle.pool_image.specs.Sound.{Growth, IsSound}
use Rattle.pool_scan.specs.Scanning.{now_in}
use Rattle.pool_rest.specs.SoundLogs.{HasSoundLogs}
use Rattle.assembler_laws.specs.Holding.{AreSteady}
use Rattle.assembler.specs.Sound.{HoldSound}
use Rattle.sound_laws.proofs.OnePool.{unrefused}

-- Steady disks of sound contents with sound logs hold a sound pool, where the truth of each array is its own member's.
pub hold_sound :
    (growth : Growth) (x : RackView) (f : Found) → AreSteady x → IsSound growth (disks_of x) (now_in x) f → HasSoundLogs (disks_of x) (now_in x)
    → ((n : ℕ) (t : Super) → n < f.state.made → truth_of f n ≡ Some t → is_named t t.dev_number ≡ true) → HoldSound x f
hold_sound growth x f steady sound logs own =
    record { steady = steady; found_is = sound.is_found; sound = record { rules = sound.rules.state; own = own }; logs = logs }

-- Sound contents mean the one volume of the pool's group.
pub one_volume : (growth : Growth) (disks : Disks) (c : Image) (f : Found) → IsSound growth disks c f → (v : Volume) × (meaning disks c ≡ Some (v ∷ []))
unfolding meaning
one_volume growth disks c f sound = of (group_of f) refl
  where
    meant : meaning disks c ≡ Some (volumes_of f)
    meant =
        let none : refusal_of disks c ≡ None = unrefused disks c sound.means in
        subst (λ (r : Option Refusal). option_map_or (λ (why : Refusal). None) r (option_map volumes_of (found disks c)) ≡ Some (volumes_of f)) (sym none)
        (ap (λ (o : Option Found). option_map volumes_of o) sound.is_found)

    volume_with : Group → Volume
    volume_with g = volume_by (linear_of (joined_arrays f) g) (arrays_held f)

    of : (group : Option Group) → group_of f ≡ group → (v : Volume) × (meaning disks c ≡ Some (v ∷ []))
    of (Some g) is = (volume_with g, subst (λ (o : Option Group). meaning disks c ≡ Some (option_map_or (λ h. volume_with h ∷ []) o [])) is meant)
    of None is =
        let room = sound.rules.volume.room in
        cc (subst (λ (o : Option Group). option_map_or (λ g. growth.fits g (growth.target (book_of f))) o false ≡ true) is room)

-- What a meaning gives: no disk has the state of another pool.
use Rattle.std.proofs.Common.{◌≡◌, true, is_some, List, Option, Some, None, refl}
use Rattle.std.specs.Option.{option_map_or}
use Rattle.rack.specs.Seen.{Image}
use Rattle.pool_rest.specs.SoundLogs.{HasSoundLogs}
use Rattle.pool_image.specs.Disks.{Disks}
use Rattle.pool_image.specs.Drives.{Found}
use Rattle.pool_image.specs.Meaning.{Refusal, Volume, meaning, refusal_of}
use Rattle.pool_image.specs.Sound.{Growth, IsSound}
use Rattle.pool_model.specs.Openings.{HaveOnePool}
use Rattle.pool_model.proofs.OnePool.{one_after, unrefused_one}

none_refused : (refusal : Option Refusal) (volumes : Option (List Volume)) →
    is_some (option_map_or (λ (why : Refusal). None) refusal volumes) ≡ true → refusal ≡ None
none_refused None volumes e = refl
none_refused (Some why) volumes e = cc e

-- Contents that have a meaning aren't refused.
pub unrefused : (disks : Disks) (c : Image) → is_some (meaning disks c) ≡ true → refusal_of disks c ≡ None
unfolding meaning
unrefused disks c means = none_refused (refusal_of disks c) _ means

-- Sound contents with sound logs are of one pool.
pub one_pool : (growth : Growth) (disks : Disks) (c : Image) (f : Found) → IsSound growth disks c f → HasSoundLogs disks c → HaveOnePool f
one_pool growth disks c f sound logs =
    one_after disks c f sound.is_found logs (unrefused_one disks c f sound.is_found logs (unrefused disks c sound.means))

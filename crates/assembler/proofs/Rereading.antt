-- While disks are only read, what a stop leaves holds the pool that they had, whatever is pending there.
use Rattle.std.proofs.Common.{◌<◌, sym, subst}
use Rattle.rack.specs.Moments.{Leaves}
use Rattle.rack.specs.Seen.{RackView}
use Rattle.rack.specs.Sequences.{OnlyReads}
use Rattle.pool_image.specs.Disks.{disks_of}
use Rattle.pool_image.specs.Drives.{Found}
use Rattle.pool_scan.specs.Scanning.{now_in}
use Rattle.pool_model.specs.Left.{NoStraySuperblock}
use Rattle.pool_model.specs.Openings.{RecoversInOpening, MayReplay}
use Rattle.pool_model.specs.Stopped.{LieApart}
use Rattle.pool_model.proofs.Rereading.{agree_holds}
use Rattle.assembler.specs.Sound.{HoldSound}

pub rereading_leaves : (x y : RackView) (f : Found) → HoldSound x f → LieApart f → NoStraySuperblock f f.contents → MayReplay (disks_of x) (now_in x) f → OnlyReads x y → x.traced → Leaves x y (RecoversInOpening f 0)
rereading_leaves x y f sound apart alone may reads traced =
    let stops = reads.keeps.stops traced in
    record {
      later = stops.later;
      kept = stops.kept;
      past = stops.past;
      new = λ k i late early stop.
          agree_holds (disks_of x) (now_in x) i f sound.found_is sound.sound sound.logs apart alone may
          (λ d u low within.
          sound.steady.single d u low within (i d u)
          (stops.new k i late early stop d u (record {
            disk = subst (λ n. d < n) (sym reads.stays.disks) low;
            sector = subst (λ n. u < n) (sym (reads.stays.sectors d)) within;
            is_told = sound.steady.told d low;
            unspent = reads.stays.lasts sound.steady.lasts.lasting d u (sound.steady.lasts.unspent d u);
          })));
    }

-- Disks that hold a pool at rest do so after they were read.
use Rattle.std.proofs.Common.{◌≡◌, ◌<◌, ◌≤◌, Some, sym, ap, ap₂, subst, ◌∙◌, arith}
use Rattle.rack.specs.Seen.{RackView}
use Rattle.rack.specs.Sequences.{OnlyReads}
use Rattle.pool_state.specs.declared.contents.State.{State}
use Rattle.array_image.specs.Places.{arrays_first}
use Rattle.pool_image.specs.Alike.{Agree}
use Rattle.pool_image.specs.Disks.{Disks, disks_of}
use Rattle.pool_image.specs.Drives.{Found, found}
use Rattle.pool_scan.specs.Scanning.{now_in}
use Rattle.pool_rest.specs.Resting.{IsIdle}
use Rattle.pool_rest.specs.SoundLogs.{HasSoundLogs}
use Rattle.pool_model.specs.InService.{IsOutset}
use Rattle.pool_model.specs.Left.{NoStraySuperblock}
use Rattle.pool_model.specs.Openings.{HaveGoodTables, IsIdleIn}
use Rattle.pool_model.specs.Stopped.{HaveTables}
use Rattle.pool_model.proofs.Found.{found_is}
use Rattle.pool_model.proofs.GatesSame.{HoldButGates, agree_held}
use Rattle.pool_model.proofs.Outset.{outset_of}
use Rattle.pool_model.proofs.SameAlone.{good_same, have_same, own_alone}
use Rattle.pool_model.proofs.Settled.{IsIdlePool, idle_pool}
use Rattle.pool_model.proofs.TableRoom.{log_room}
use Rattle.assembler_laws.specs.Holding.{AreSteady}
use Rattle.assembler.specs.Rested.{HoldRested}
use Rattle.assembler.specs.Sound.{HoldSound}

module _ (x y : RackView) (f : Found) (sound : HoldSound x f) (idle : IsIdle x) (steady : AreSteady y) (joined : f.state.joined ≡ f.state.made) (tables : HaveTables f) (good : HaveGoodTables f)
    (alone : NoStraySuperblock f (now_in x)) (reads : OnlyReads x y) where
  on : f.disks ≡ disks_of x
  on = (found_is (disks_of x) (now_in x) f sound.found_is).1

  outset : IsOutset f
  outset = outset_of f (found_is (disks_of x) (now_in x) f sound.found_is).0 sound.sound

  disks_now : disks_of x ≡ disks_of y
  disks_now = ap₂ (λ count sectors. record { count = count; sectors = sectors }) (sym reads.stays.disks) (λ j d. sym (reads.stays.sectors d) j)

  idle_x : IsIdlePool (disks_of x) (now_in x) f
  idle_x = idle_pool (disks_of x) (now_in x) f sound.found_is idle sound.logs

  agree : Agree (disks_of x) (now_in y) (now_in x)
  agree d u low within =
      (reads.keeps.held d u (record {
        disk = subst (λ n. d < n) (sym reads.stays.disks) low;
        sector = subst (λ n. u < n) (sym (reads.stays.sectors d)) within;
        is_told = sound.steady.told d low;
        unspent = reads.stays.lasts sound.steady.lasts.lasting d u (sound.steady.lasts.unspent d u);
      })).current

  held : HoldButGates (disks_of x) f (now_in y)
  held =
      agree_held (disks_of x) (now_in x) (now_in y) f idle_x sound.sound
      (λ p d seat. subst (λ (k : Disks). arrays_first ≤ k.sectors d) on (let room = log_room f p d (good p d seat) in omega (arith, room))) agree

  idle_y : IsIdlePool (disks_of x) (now_in y) held.now
  idle_y = idle_pool (disks_of x) (now_in y) held.now held.found_is held.idle held.logs

  -- the pool that they hold then, and that they do
  pub rested_reads : (e : Found) × HoldRested y f e
  rested_reads = (
    held.now,
    record {
      same = held.same;
      sound = record {
        steady = steady;
        found_is = subst (λ (k : Disks). found k (now_in y) ≡ Some held.now) disks_now held.found_is;
        sound = held.sound;
        logs = subst (λ (k : Disks). HasSoundLogs k (now_in y)) disks_now held.logs;
      };
      idle = subst (λ (k : Disks). IsIdleIn k (now_in y)) disks_now held.idle;
      joined = ap (λ (s : State). s.joined) held.same.state ∙ joined ∙ sym (ap (λ (s : State). s.made) held.same.state);
      good = good_same f held.now held.same good;
      tables = have_same f held.now held.same tables;
      alone =
          subst (NoStraySuperblock held.now) (sym (ap (λ (h : Found). h.contents) idle_y.same))
          (own_alone f held.now held.same outset.made.1 outset.truths (subst (NoStraySuperblock f) (ap (λ (h : Found). h.contents) idle_x.same) alone));
    },
  )

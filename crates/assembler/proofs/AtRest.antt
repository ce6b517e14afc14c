-- Disks that were brought to rest hold a sound pool, and nothing is pending there; and what stops leave in reads since holds it.
use Rattle.std.proofs.Common.{◌≡◌, [], Some, None, inl, sym, ap, subst, ◌∙◌}
use Rattle.rack.specs.Joins.{leaves_then, leaves_weaker}
use Rattle.rack.specs.Moments.{Leaves}
use Rattle.rack.specs.Seen.{RackView}
use Rattle.rack.specs.Sequences.{OnlyReads}
use Rattle.slice_rack.specs.SliceRack.{below_of}
use Rattle.array_image.specs.Record.{damaged_log}
use Rattle.array_image.specs.States.{current_places}
use Rattle.array_core.proofs.Stripped.{some_same}
use Rattle.pool_image.specs.Disks.{disks_of, identities_of, newest}
use Rattle.pool_image.specs.Drives.{Found}
use Rattle.pool_image.specs.Replay.{Standing, standing, standing_by}
use Rattle.pool_image.proofs.Rested.{none_pending, stood_by}
use Rattle.pool_scan.specs.Scanning.{now_in}
use Rattle.pool_rest.specs.declared.resting.AtRest.{AtRest}
use Rattle.pool_rest.specs.Resting.{IsIdle}
use Rattle.pool_model.proofs.Settled.{idle_logs, idle_pool}
use Rattle.pool_model.specs.Left.{NoStraySuperblock}
use Rattle.pool_model.specs.Openings.{HadOnePool, RecoversInOpening}
use Rattle.pool_model.specs.Stopped.{LieApart}
use Rattle.pool_model.proofs.Found.{found_is, some_made}
use Rattle.pool_model.proofs.OnePool.{one_rested}
use Rattle.pool_model.proofs.Openings.{opened_same}
use Rattle.pool_model.proofs.Rereading.{same_apart}
use Rattle.pool_model.proofs.SameAlone.{own_alone}
use Rattle.assembler.specs.Sound.{HoldSound}
use Rattle.assembler.proofs.Entry.{IsRested, f, pool_same, rest_found}
use Rattle.assembler.proofs.Rereading.{rereading_leaves}

module _ {R : Type 0} (seen : R → RackView) (a : RackView) (rest : AtRest R) (e : Found) (sound : HoldSound a e) (rested : IsRested seen a rest) where
  abbrev x : RackView
  x = seen (below_of rest.slices)

  -- as they stand
  abbrev now : Standing
  now = standing_by (disks_of x) (now_in x) rest.state

  stands : standing (disks_of x) (now_in x) ≡ Some now
  stands = rested.stands.stands

  none : now.targets ≡ []
  none = none_pending (current_places rest.state) now.logs rested.settled.none

  newest_is : newest (disks_of x) (identities_of (disks_of x) (now_in x)) ≡ Some rest.state
  newest_is = (let by = stood_by (disks_of x) (now_in x) now stands in by.1 ∙ ap (λ (k : Standing). Some k.state) (sym by.2))

  whole : damaged_log (current_places rest.state) now.logs ≡ None
  whole = sym rested.stands.damaged_is ∙ rested.settled.whole

  pub rest_sound : HoldSound x (f seen a rest e sound rested)
  rest_sound =
      let found = rest_found seen a rest e sound rested in
      record { steady = found.steady; found_is = found.found_is; sound = found.sound; logs = idle_logs (disks_of x) (now_in x) rest.state newest_is none whole }

  pub rest_idle : IsIdle x
  rest_idle before at = ap (λ (k : Standing). k.targets) (some_same before now (sym at ∙ stands)) ∙ none

  -- where no superblock of an array stood on a drive that is no member of it none does
  pub pool_alone : NoStraySuperblock e e.contents → NoStraySuperblock (f seen a rest e sound rested) (f seen a rest e sound rested).contents
  pool_alone =
      own_alone e (f seen a rest e sound rested) (pool_same seen a rest e sound rested) (some_made e (found_is (disks_of a) (now_in a) e sound.found_is).0).1
      (λ n low. let truth = sound.sound.rules.arrays n low in (truth.0, truth.1))

  -- its contents are theirs
  pub rest_alone : NoStraySuperblock (f seen a rest e sound rested) (f seen a rest e sound rested).contents → NoStraySuperblock (f seen a rest e sound rested) (now_in x)
  rest_alone =
      subst (NoStraySuperblock (f seen a rest e sound rested))
      (sym (ap (λ (h : Found). h.contents) (idle_pool (disks_of x) (now_in x) (f seen a rest e sound rested) rest_sound.found_is rest_idle rest_sound.logs).same))

  -- no disk has another pool's state there, where none had one
  pub rest_one : HadOnePool e → HadOnePool (f seen a rest e sound rested)
  rest_one =
      one_rested (disks_of a) (now_in a) e sound.found_is sound.logs (disks_of x) (now_in x) (f seen a rest e sound rested)
      (idle_pool (disks_of x) (now_in x) (f seen a rest e sound rested) rest_sound.found_is rest_idle rest_sound.logs) (pool_same seen a rest e sound rested)

  -- what stops leave in reads since then
  pub until_read : (y : RackView) → LieApart e → NoStraySuperblock e e.contents → OnlyReads x y → Leaves a x (RecoversInOpening e 0) → a.traced → Leaves a y (RecoversInOpening e 0)
  until_read y apart alone reads early traced =
      leaves_then (RecoversInOpening e 0) early
      (leaves_weaker (RecoversInOpening (f seen a rest e sound rested) 0) (RecoversInOpening e 0)
      (λ i. opened_same e (f seen a rest e sound rested) 0 i (pool_same seen a rest e sound rested) rest_one)
      (rereading_leaves x y (f seen a rest e sound rested) rest_sound (same_apart e (f seen a rest e sound rested) (pool_same seen a rest e sound rested) apart) (pool_alone alone) (inl rest_idle) reads (rested.stays.traced traced)))

-- What stops inside an opening leave, part by part: reads and the replay, the arrays made, the volume opened.
use Rattle.slice_rack.specs.SliceRack.{below_of, tables}
use Rattle.slice_rack.specs.Sliced.{sliced, slices_of}
use Rattle.raid_rack.specs.RaidRack.{raid_in, raid_seen, slices_in, slices_seen, written_in}
use Rattle.array_image.specs.Arrays.{arrays_in, replayed}
use Rattle.array_image.specs.States.{is_current}
use Rattle.pool_state.specs.declared.contents.State.{State}
use Rattle.shr_base.specs.declared.Id.{Id}
use Rattle.std.proofs.Common.{◌≡◌, ◌<◌, ◌≤◌, ◌&&◌, ℕ, is_some, None, Some, sym, ap, subst, ◌∙◌, arith}
use Rattle.rack.specs.Joins.{leaves_then, leaves_weaker, stays_then}
use Rattle.rack.specs.Moments.{Leaves}
use Rattle.rack.specs.Seen.{Image}
use Rattle.rack.specs.Sequences.{WritesOnly}
use Rattle.rack.proofs.Writing.{only_none, only_quiet}
use Rattle.slice_rack.specs.Runs.{IsSliced}
use Rattle.slice_rack.specs.Slices.{Slices, sectors_of}
use Rattle.lvm_group.specs.Images.{HasOwnArea, IsVolume, MeansVolume}
use Rattle.lvm_group.specs.Runs.{data_start}
use Rattle.lvm_group.specs.Volume.{below_of as rack_in, linear, seqno_of}
use Rattle.pool_image.specs.Disks.{Disks, disks_of}
use Rattle.pool_image.specs.Drives.{Found, found}
use Rattle.pool_image.specs.Meaning.{refusal_of}
use Rattle.pool_image.specs.Volumes.{Arrays}
use Rattle.pool_image.proofs.Founds.{joined_same}
use Rattle.pool_scan.specs.Scanning.{IsUnfaulted, now_in}
use Rattle.pool_model.specs.Grouped.{HaveOwnAreas}
use Rattle.pool_model.specs.Left.{NoStraySuperblock, AreElsewhere, IsPickOutsideSlices}
use Rattle.pool_model.specs.Openings.{HadOnePool, RecoversInOpening, MayReplay}
use Rattle.pool_model.specs.Pools.{AreSlicesOf}
use Rattle.pool_model.specs.Reopening.{AreWholeSectors, HoldMeaning}
use Rattle.pool_model.specs.Stopped.{LieApart}
use Rattle.pool_model.proofs.Found.{found_is}
use Rattle.pool_model.proofs.OnePool.{one_after, one_rested, unrefused_one}
use Rattle.pool_model.proofs.Openings.{opened_from, opened_same}
use Rattle.pool_model.proofs.Refused.{table_there}
use Rattle.pool_model.proofs.Settled.{idle_pool}
use Rattle.pool_model.proofs.Unrefused.{unrefused_by}
use Rattle.assembler_laws.specs.Moments.{SaysVolume}
use Rattle.assembler.specs.Sound.{HoldSound, MayStop, StopsMean, TargetsLand}
use Rattle.assembler.specs.Rested.{HoldRested}
use Rattle.assembler.specs.Volume.{AllLive, AreStill}
use Rattle.assembler.proofs.Apart.{lands_apart, slices_landed}
use Rattle.assembler.proofs.AtRest.{pool_alone, rest_alone, rest_idle, rest_one, rest_sound, until_read}
use Rattle.assembler.proofs.Bringing.{GivesOpened, bringing_gives, bringing_leaves}
use Rattle.assembler.proofs.Entry.{quiet_first, rested_so}
use Rattle.assembler.proofs.Grouped.{brought_volume, given_volume}
use Rattle.assembler.proofs.Leaving.{brought_says, saying_leaves}
use Rattle.assembler_laws.proofs.Lies.{slices_same}
use Rattle.assembler_laws.proofs.Marks.{marks_still}
use Rattle.assembler.proofs.Reopening.{brought_meaning, own_rested, still_meaning}
use Rattle.assembler.proofs.Replaying.{replaying_leaves}
use Rattle.assembler.proofs.Rested.{rested_reads}
use Rattle.assembler.proofs.Volumes.{live_before, opened_writes}
use Rattle.assembler.proofs.opening.assemble.Given.{Over}
use Rattle.assembler.proofs.opening.assemble.Goals.{After-make_rack, In-Err-check, In-Err-open_volume, In-Ok-open_volume}
use Rattle.assembler.proofs.opening.assemble.Answers.Assembling.{a, x, y, z, t, ay, yz, arrays, checked, disks_still, early, f, first_quiet, from_y, holds, landing, lie, live_first, live_last, made, marks_made, members, nobody_failed, off_alone, off_slices, opened, passes, ready, rested, same, texts, to_x}
use Rattle.assembler.proofs.opening.assemble.Answers.Unopened.{built, calls, live_still, made_quiet, marks_kept}

-- ---- until arrays are made

module _ (g : Over) (c : After-make_rack g) (to_z : IsUnfaulted (a g c) (z g c)) (e : Found) (sound : HoldSound (a g c) e) (may : MayReplay (disks_of (a g c)) (now_in (a g c)) e) (lands : TargetsLand e)
    (all : e.state.joined ≡ e.state.made) (alone : NoStraySuperblock e e.contents) (alive : AllLive (raid_in c.make_rack.result)) (traced : (a g c).traced) where
  abbrev pool : Found
  pool = f g c to_z e sound

  -- its slices lie apart
  apart : LieApart e
  apart = lands_apart (disks_of (a g c)) (now_in (a g c)) e sound.found_is lands

  -- the pool of the disks as they were checked
  at_rest : (h : Found) × HoldRested (y g c) (f g c to_z e sound) h
  at_rest =
      let m = c.in-Ok-check.members in
      let has = holds g c to_z e sound in
      let are = members g c to_z e sound in
      let is = same g c to_z e sound in
      rested_reads (x g c) (y g c) pool (rest_sound g.R.Rack.seen (a g c) c.in-Ok.rest e sound (rested g c to_z e sound))
      (rest_idle g.R.Rack.seen (a g c) c.in-Ok.rest e sound (rested g c to_z e sound)) has.steady
      (ap (λ (s : State). s.joined) is.state ∙ all ∙ sym (ap (λ (s : State). s.made) is.state))
      (slices_landed pool (t g c) (y g c) m.checked m.absent.items m.slices.orderly are has.steady has.pool (checked g c to_z e sound).1 (found_is (disks_of (x g c)) (now_in (x g c)) pool (rest_sound g.R.Rack.seen (a g c) c.in-Ok.rest e sound (rested g c to_z e sound)).found_is).0 e is apart)
      (λ p d seat. table_there pool (passes g c to_z e sound) p d (are.current p d (sym (has.pool.seats p) ∙ seat)) seat)
      (rest_alone g.R.Rack.seen (a g c) c.in-Ok.rest e sound (rested g c to_z e sound) (pool_alone g.R.Rack.seen (a g c) c.in-Ok.rest e sound (rested g c to_z e sound) alone)) c.in-Ok-check.ensures.only

  -- outside the slices the disks are as the pool has them
  pub own_elsewhere : (i : Image) → IsPickOutsideSlices (tables (slices_in c.make_rack.result)) (z g c) i → AreElsewhere e i
  own_elsewhere i off =
      off_slices g c to_z e sound (z g c) (only_none (z g c) (IsSliced (t g c)) (yz g c).fit) i
      (subst (λ (u : Slices). IsPickOutsideSlices u (z g c) i) c.make_rack.ensures.tables off)

  -- with no superblock of an array on a drive that is no member of it
  pub own_alone : (i : Image) → IsPickOutsideSlices (tables (slices_in c.make_rack.result)) (z g c) i → NoStraySuperblock e i
  own_alone i off =
      off_alone g c to_z e sound alone (z g c) (only_none (z g c) (IsSliced (t g c)) (yz g c).fit) i
      (subst (λ (u : Slices). IsPickOutsideSlices u (z g c) i) c.make_rack.ensures.tables off)

  pub own_slices : AreSlicesOf e (tables (slices_in c.make_rack.result))
  own_slices =
      subst (AreSlicesOf e) (sym c.make_rack.ensures.tables) (slices_same e (f g c to_z e sound) (same g c to_z e sound) (t g c) (lie g c to_z e sound))

  -- the pool is that of the disks when the volume is opened
  pub began : found (disks_of (z g c)) (now_in (a g c)) ≡ Some e
  began = ap (λ (k : Disks). found k (now_in (a g c))) (sym (disks_still (a g c) (z g c) (stays_then (ay g c) (yz g c)))) ∙ sound.found_is

  -- the replay
  replaying : Leaves (a g c) (x g c) (RecoversInOpening e 0)
  replaying =
      let is = c.in-Ok.ensures in
      let told = sound.steady.told in
      let lasts = sound.steady.lasts in
      replaying_leaves g.R.Rack.seen (a g c) c.in-Ok.rest e sound (rested g c to_z e sound) apart alone is.laid is.fit may (is.idle told lasts (to_x g c to_z))
      (λ lower u of stood. is.midway told lasts (to_x g c to_z) sound.logs lower sound.steady.single u of stood) traced

  -- no disk has another pool's state after the checks, where none had one before
  checked_one : HadOnePool pool → HadOnePool at_rest.0
  checked_one =
      let now = rest_sound g.R.Rack.seen (a g c) c.in-Ok.rest e sound (rested g c to_z e sound) in
      one_rested (disks_of (x g c)) (now_in (x g c)) pool now.found_is now.logs (disks_of (y g c)) (now_in (y g c)) at_rest.0
      (idle_pool (disks_of (y g c)) (now_in (y g c)) at_rest.0 at_rest.1.sound.found_is at_rest.1.idle at_rest.1.sound.logs) at_rest.1.same

  -- gates, tables, marks and superblocks
  making : Leaves (y g c) (z g c) (RecoversInOpening e 0)
  making =
      leaves_weaker (RecoversInOpening at_rest.0 0) (RecoversInOpening e 0)
      (λ i holds_now.
      opened_same e pool 0 i (same g c to_z e sound) (rest_one g.R.Rack.seen (a g c) c.in-Ok.rest e sound (rested g c to_z e sound))
      (opened_same pool at_rest.0 0 i at_rest.1.same checked_one holds_now))
      (c.make_rack.ensures.moments pool at_rest.0 (checked g c to_z e sound).0 (checked g c to_z e sound).1 at_rest.1 (from_y g c to_z) alive ((ay g c).traced traced))

  pub made_leaves : Leaves (a g c) (z g c) (RecoversInOpening e 0)
  made_leaves =
      leaves_then (RecoversInOpening e 0)
      (until_read g.R.Rack.seen (a g c) c.in-Ok.rest e sound (rested g c to_z e sound) (y g c) apart alone c.in-Ok-check.ensures.only replaying traced)
      making

  -- from a later sector of the arrays on
  pub made_from : (from : ℕ) → Leaves (a g c) (z g c) (RecoversInOpening e from)
  made_from from = leaves_weaker (RecoversInOpening e 0) (RecoversInOpening e from) (λ i. opened_from e 0 from i (omega arith)) made_leaves

-- ---- the drives didn't pass

module _ (g : Over) (c : In-Err-check g) (quiet : IsUnfaulted (g.R.Rack.seen c.args.rack) (g.R.Rack.seen c.in-Err-check.back.rack)) (e : Found)
    (sound : HoldSound (g.R.Rack.seen c.args.rack) e) where
  pub checked_leaves : MayReplay (disks_of (g.R.Rack.seen c.args.rack)) (now_in (g.R.Rack.seen c.args.rack)) e → TargetsLand e → NoStraySuperblock e e.contents
      → (g.R.Rack.seen c.args.rack).traced → Leaves (g.R.Rack.seen c.args.rack) (g.R.Rack.seen c.in-Err-check.back.rack) (RecoversInOpening e 0)
  checked_leaves may lands alone traced =
      let seen = g.R.Rack.seen in
      let apart = lands_apart (disks_of (seen c.args.rack)) (now_in (seen c.args.rack)) e sound.found_is lands in
      let rest = c.in-Ok.rest in
      let is = c.in-Ok.ensures in
      let reads = c.in-Err-check.ensures.kept in
      let to_x = quiet_first (seen c.args.rack) (seen (below_of rest.slices)) (seen c.in-Err-check.back.rack) reads.stays quiet in
      let rested = rested_so seen (seen c.args.rack) rest e sound is.only.only.stays to_x is.newest is.stands is.settled is.steady is.looked is.single in
      let told = sound.steady.told in
      let lasts = sound.steady.lasts in
      until_read seen (seen c.args.rack) rest e sound rested (seen c.in-Err-check.back.rack) apart alone reads
      (replaying_leaves seen (seen c.args.rack) rest e sound rested apart alone is.laid is.fit may (is.idle told lasts to_x)
      (λ lower u of stood. is.midway told lasts to_x sound.logs lower sound.steady.single u of stood) traced)
      traced

-- ---- a volume was opened

module _ (g : Over) (c : In-Ok-open_volume g) (quiet : IsUnfaulted (a g (made g c)) (opened g c)) (e : Found) (sound : HoldSound (a g (made g c)) e) where
  -- just those drives are marked that have no disk
  pub marks_last : (p : ℕ) → is_current (raid_in (rack_in c.in-Ok-open_volume.volume)).state p ≡ (is_current e.state p && is_some (e.seats p))
  marks_last p =
      let raid = c.make_rack.result in
      let last = rack_in c.in-Ok-open_volume.volume in
      marks_still (written_in raid) (written_in last) (raid_in raid) (raid_in last) (slices_seen g.R.Rack.seen raid) (slices_seen g.R.Rack.seen last)
      c.in-Ok-open_volume.ensures.opens.kept.1 c.make_rack.ensures.fit.heeded c.in-Ok-open_volume.ensures.fit.0.heeded (nobody_failed g c quiet) p
      ∙ marks_made g (made g c) (first_quiet g c quiet) e sound p

  -- texts are brought up to date
  opened_brings : MayReplay (disks_of (a g (made g c))) (now_in (a g (made g c))) e → TargetsLand e → e.state.joined ≡ e.state.made → NoStraySuperblock e e.contents → (a g (made g c)).traced
      → Leaves (z g (made g c)) (opened g c) (GivesOpened e (tables (slices_in c.make_rack.result)) data_start)
  opened_brings may lands all alone traced =
      let k = made g c in
      let alive = live_first g c quiet in
      let before = first_quiet g c quiet in
      let seen = g.R.Rack.seen in
      let raid = c.make_rack.result in
      let volume = c.in-Ok-open_volume.volume in
      let opens = c.in-Ok-open_volume.ensures.opens in
      let whole = stays_then (ay g k) (yz g k) in
      bringing_gives seen g.R.Rack.runs e (f g k before e sound) (same g k before e sound) (slices_of (t g k) (y g k)) raid (rack_in volume) (arrays g k before e sound)
      (live_last g c quiet) opens.kept data_start _ (opened_writes seen g.R.Rack.runs raid (rack_in volume) (linear volume) (seqno_of volume) opens) (λ n s v early. early.1)
      (ready g k) all (now_in (a g k)) (began g k before e sound may lands all alone alive traced) sound.sound
      (one_after (disks_of (a g k)) (now_in (a g k)) e sound.found_is sound.logs) (own_slices g k before e sound may lands all alone alive traced)
      (landing g k before e sound lands) (own_elsewhere g k before e sound may lands all alone alive traced)
      (own_alone g k before e sound may lands all alone alive traced) marks_last c.make_rack.ensures.fit.running.set c.make_rack.ensures.fit.heeded
      (slices_in raid).orderly c.make_rack.ensures.fit.running.set.fit.1
      (whole.lasting sound.steady.lasts.lasting) (texts g c) (whole.traced traced)

  pub opened_leaves : MayReplay (disks_of (a g (made g c))) (now_in (a g (made g c))) e → TargetsLand e → e.state.joined ≡ e.state.made → NoStraySuperblock e e.contents → (a g (made g c)).traced
      → Leaves (a g (made g c)) (opened g c) (RecoversInOpening e data_start)
  opened_leaves may lands all alone traced =
      leaves_then (RecoversInOpening e data_start) (made_from g (made g c) (first_quiet g c quiet) e sound may lands all alone (live_first g c quiet) traced data_start)
      (leaves_weaker (GivesOpened e (tables (slices_in c.make_rack.result)) data_start) (RecoversInOpening e data_start) (λ i gives. gives.opened) (opened_brings may lands all alone traced))

  -- and the arrays say the volume
  pub opened_says : e.state.joined ≡ e.state.made → HaveOwnAreas e → MayStop (a g (made g c)) e → (a g (made g c)).traced
      → Leaves (a g (made g c)) (opened g c)
      (SaysVolume (raid_in (rack_in c.in-Ok-open_volume.volume)) (tables (slices_in (rack_in c.in-Ok-open_volume.volume))) (linear c.in-Ok-open_volume.volume))
  opened_says all own calm traced =
      let k = made g c in
      let before = first_quiet g c quiet in
      let seen = g.R.Rack.seen in
      let runs = g.R.Rack.runs in
      let m = c.in-Ok-check.members in
      let raid = c.make_rack.result in
      let volume = c.in-Ok-open_volume.volume in
      let last = rack_in volume in
      let opens = c.in-Ok-open_volume.ensures.opens in
      let pool = f g k before e sound in
      let is = same g k before e sound in
      let has = holds g k before e sound in
      let held = arrays g k before e sound in
      let alive = live_last g c quiet in
      let joined = held.after.same.joined in
      let made_is = held.after.same.made in
      let few : (raid_in raid).state.joined ≤ 16 = (let most = c.make_rack.ensures.fit.running.set.most in let ready_is = ready g k in omega (arith, most, ready_is)) in
      let both : (raid_in raid).state.joined ≡ (raid_in raid).state.made =
      joined ∙ ap (λ (s : State). s.joined) is.state ∙ all ∙ sym (ap (λ (s : State). s.made) is.state) ∙ sym made_is in
      let areas : HaveOwnAreas pool =
      λ n low.
      subst (λ (h : Image). HasOwnArea (h n)) (sym (ap (λ (j : Arrays). j.contents) (joined_same e pool is)))
      (own n (subst (λ (s : State). n < s.joined) is.state low)) in
      let P : Image → Type 0 = IsVolume (raid_in raid).state.pool.0 (raid_in raid).state.joined (linear volume) (seqno_of volume) (raid_seen seen raid).sectors in
      let whole = stays_then (ay g k) (yz g k) in
      let all_says =
      saying_leaves pool (t g k) (y g k) m.checked m.absent.items m.slices.orderly (members g k before e sound) has.steady has.pool (checked g k before e sound).1 has.sound
      m.log has.log seen (a g k) raid last P _ (IsSliced (tables (slices_in raid))) (early g k before e sound calm traced) held (live_first g c quiet)
      c.make_rack.ensures.tables (opens.kept.0.tables ∙ c.make_rack.ensures.tables) c.make_rack.ensures.only ((ay g k).traced traced)
      (λ i same_low.
      given_volume seen runs pool (slices_of (t g k) (y g k)) raid last held c.make_rack.ensures.fresh (linear volume) (seqno_of volume) opens alive few both areas i
      (λ n s low first. same_low n s (let equal = joined in omega (arith, low, equal)) first))
      (brought_volume seen runs pool (slices_of (t g k) (y g k)) raid last held c.make_rack.ensures.fresh (linear volume) (seqno_of volume) opens alive few both areas (whole.traced traced))
      (texts g c) (whole.traced traced) in
      let book = opens.kept.1.book.same in
      leaves_weaker (λ i. P (arrays_in (replayed (sectors_of (tables (slices_in last))) (sliced (tables (slices_in last)) i))))
      (SaysVolume (raid_in last) (tables (slices_in last)) (linear volume))
      (λ i lies. (
        seqno_of volume,
        subst (λ (sectors : ℕ → ℕ). MeansVolume (raid_in last).state.pool.0 (raid_in last).state.joined sectors (linear volume) (seqno_of volume) (arrays_in (replayed (sectors_of (tables (slices_in last))) (sliced (tables (slices_in last)) i))))
            (λ j n. sym (opens.kept.2.sectors n) j)
            (subst (λ h. MeansVolume (raid_in last).state.pool.0 h (raid_seen seen raid).sectors (linear volume) (seqno_of volume) (arrays_in (replayed (sectors_of (tables (slices_in last))) (sliced (tables (slices_in last)) i))))
            (sym book.joined)
            (subst (λ (id : Id). MeansVolume id.0 (raid_in raid).state.joined (raid_seen seen raid).sectors (linear volume) (seqno_of volume) (arrays_in (replayed (sectors_of (tables (slices_in last))) (sliced (tables (slices_in last)) i))))
            (sym book.pool) lies.means)),
      )) all_says

  -- They aren't refused where the disks weren't, and mean it, also with the sectors before their first extents.
  pub opened_reopens : refusal_of (disks_of (a g (made g c))) (now_in (a g (made g c))) ≡ None → StopsMean (a g (made g c)) (opened g c) e (linear c.in-Ok-open_volume.volume)
  opened_reopens meant all own may lands alone traced =
      let k = made g c in
      let none = unrefused_by (disks_of (a g k)) (now_in (a g k)) e sound.found_is meant in
      let had = unrefused_one (disks_of (a g k)) (now_in (a g k)) e sound.found_is sound.logs meant in
      let before = first_quiet g c quiet in
      let seen = g.R.Rack.seen in
      let runs = g.R.Rack.runs in
      let raid = c.make_rack.result in
      let volume = c.in-Ok-open_volume.volume in
      let last = rack_in volume in
      let opens = c.in-Ok-open_volume.ensures.opens in
      let is = same g k before e sound in
      let held = arrays g k before e sound in
      let alive = live_last g c quiet in
      let joined = held.after.same.joined in
      let few : (raid_in raid).state.joined ≤ 16 = (let most = c.make_rack.ensures.fit.running.set.most in let ready_is = ready g k in omega (arith, most, ready_is)) in
      let both : (raid_in raid).state.joined ≡ (raid_in raid).state.made =
      joined ∙ ap (λ (s : State). s.joined) is.state ∙ all ∙ sym (ap (λ (s : State). s.made) is.state) ∙ sym held.after.same.made in
      let P : Image → Type 0 = λ i. AreWholeSectors e.disks i → HoldMeaning e (linear volume) i in
      let V : Image → Type 0 = IsVolume (raid_in raid).state.pool.0 (raid_in raid).state.joined (linear volume) (seqno_of volume) (raid_seen seen raid).sectors in
      let whole = stays_then (ay g k) (yz g k) in
      let pool = f g k before e sound in
      let gives = opened_brings may lands all alone traced in
      let says =
      brought_says seen raid last V _
      (brought_volume seen runs pool (slices_of (t g k) (y g k)) raid last held c.make_rack.ensures.fresh (linear volume) (seqno_of volume) opens alive few both
      (own_rested seen runs e pool is (slices_of (t g k) (y g k)) raid last held c.make_rack.ensures.fresh (linear volume) (seqno_of volume) opens alive few both all own none had) (whole.traced traced))
      (texts g c) (whole.traced traced) in
      leaves_then P
      (leaves_weaker (RecoversInOpening e 0) P
      (λ i still wholes. still_meaning seen runs e pool is (slices_of (t g k) (y g k)) raid last held c.make_rack.ensures.fresh (linear volume) (seqno_of volume) opens alive few both all own none had i still)
      (made_leaves g k before e sound may lands all alone (live_first g c quiet) traced))
      (record {
        later = gives.later;
        kept = gives.kept;
        past = gives.past;
        new = λ n i since until stop wholes.
            brought_meaning seen runs e pool is (slices_of (t g k) (y g k)) raid last held c.make_rack.ensures.fresh (linear volume) (seqno_of volume) opens alive few both all own none had
            (tables (slices_in raid)) i (gives.new n i since until stop)
            (subst (λ (u : Slices). V (arrays_in (replayed (sectors_of u) (sliced u i)))) opens.kept.0.tables (says.new n i since until stop)) wholes;
      })

-- ---- none was

module _ (g : Over) (c : In-Err-open_volume g) (quiet : IsUnfaulted (a g (built g c)) (g.R.Rack.seen c.in-Err-open_volume.back.rack)) (e : Found) (sound : HoldSound (a g (built g c)) e)
    (still : AreStill g.R.Rack.seen c.make_rack.result c.in-Err-open_volume.ensures.refused.last) where
  nothing : WritesOnly (raid_seen g.R.Rack.seen c.make_rack.result) (raid_seen g.R.Rack.seen c.in-Err-open_volume.ensures.refused.last) (λ n s v. ⊥)
  nothing = only_quiet (λ n s v. ⊥) still.reads.stays still.reads.keeps

  pub refused_leaves : MayReplay (disks_of (a g (built g c))) (now_in (a g (built g c))) e → TargetsLand e → e.state.joined ≡ e.state.made → NoStraySuperblock e e.contents → (a g (built g c)).traced
      → Leaves (a g (built g c)) (g.R.Rack.seen c.in-Err-open_volume.back.rack) (RecoversInOpening e 0)
  refused_leaves may lands all alone traced =
      let k = built g c in
      let alive = live_before g.R.Rack.seen g.R.Rack.runs c.make_rack.result c.in-Err-open_volume.ensures.refused.last c.in-Err-open_volume.ensures.refused.kept (live_still g c quiet e sound still) in
      let before = made_quiet g c quiet in
      let seen = g.R.Rack.seen in
      let raid = c.make_rack.result in
      let refused = c.in-Err-open_volume.ensures.refused in
      let whole = stays_then (ay g k) (yz g k) in
      subst (λ r. Leaves (a g k) (seen r) (RecoversInOpening e 0)) refused.back
      (leaves_then (RecoversInOpening e 0) (made_leaves g k before e sound may lands all alone alive traced)
      (bringing_leaves seen g.R.Rack.runs e (f g k before e sound) (same g k before e sound) (slices_of (t g k) (y g k)) raid refused.last (arrays g k before e sound)
      (live_still g c quiet e sound still) refused.kept 0 _ nothing (λ n s v none. absurd none)
      (ready g k) all (now_in (a g k)) (began g k before e sound may lands all alone alive traced) sound.sound
      (one_after (disks_of (a g k)) (now_in (a g k)) e sound.found_is sound.logs) (own_slices g k before e sound may lands all alone alive traced)
      (landing g k before e sound lands) (own_elsewhere g k before e sound may lands all alone alive traced)
      (own_alone g k before e sound may lands all alone alive traced) (marks_kept g c quiet e sound still) c.make_rack.ensures.fit.running.set c.make_rack.ensures.fit.heeded
      (slices_in raid).orderly c.make_rack.ensures.fit.running.set.fit.1 (whole.lasting sound.steady.lasts.lasting) (calls g c) (whole.traced traced)))

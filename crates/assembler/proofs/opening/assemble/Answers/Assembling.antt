-- What an opening knows once its arrays are made, as far as that is shared by its answers.
use Rattle.slice_rack.specs.SliceRack.{below_of, tables}
use Rattle.slice_rack.specs.Sliced.{slices_of}
use Rattle.raid_rack.specs.RaidRack.{raid_in, slices_in, slices_seen}
use Rattle.array_image.specs.States.{is_current}
use Rattle.log_laws.specs.View.{names}
use Rattle.pool_state.specs.declared.contents.State.{State}
use Rattle.std.proofs.Common.{◌≡◌, ◌+◌, ◌*◌, ◌<◌, ◌≤◌, ◌&&◌, ℕ, is_none, is_some, List, Option, Some, None, option_map, sym, ap, ap₂, subst, ◌∙◌, arith}
use Rattle.rack.specs.Seen.{Image, Rose, RackView, SameRack}
use Rattle.rack.specs.Moments.{Leaves}
use Rattle.rack.specs.Joins.{stays_then}
use Rattle.rack.specs.Sequences.{WritesOnly}
use Rattle.slice_rack.specs.Runs.{IsSliced}
use Rattle.slice_rack.specs.Slices.{Slices, disk_of, seat_of}
use Rattle.lvm_group.specs.Volume.{below_of as rack_in, most_opened}
use Rattle.md_super.specs.declared.superblock.Super.{Super}
use Rattle.pool_image.specs.Alike.{IsSamePool}
use Rattle.pool_image.specs.Disks.{disks_of}
use Rattle.pool_image.specs.Drives.{Found}
use Rattle.pool_image.specs.Meaning.{bad_volume, joined_arrays, refused_by, truth_of}
use Rattle.pool_image.specs.Volumes.{first_bad}
use Rattle.pool_scan.specs.declared.Known.{Known}
use Rattle.pool_scan.specs.Choosing.{seat_by}
use Rattle.pool_check.specs.Checking.{IsChecked}
use Rattle.pool_check.specs.Drives.{Loses, flag_by}
use Rattle.pool_check.specs.Refusing.{is_well}
use Rattle.pool_check.specs.Settling.{IsTrueOf, KeepsTable}
use Rattle.pool_check.proofs.Settled.{true_since, true_told}
use Rattle.array_model.specs.View.{HasFault}
use Rattle.pool_scan.specs.Scanning.{IsUnfaulted, now_in}
use Rattle.pool_scan.proofs.Valid.{valid_arrays}
use Rattle.raid_rack.proofs.Live.{runs_unused}
use Rattle.assembler_laws.specs.Marking.{AreMarkedFor}
use Rattle.assembler_laws.specs.Holding.{HoldPool, HoldsArrays}
use Rattle.assembler_laws.specs.Members.{AreMembers}
use Rattle.pool_model.specs.Left.{NoStraySuperblock, AreElsewhere, IsPickOutsideSlices}
use Rattle.pool_model.specs.Pools.{AreSlicesOf}
use Rattle.pool_model.specs.Stopped.{HaveTables}
use Rattle.pool_model.proofs.Found.{found_is, some_made}
use Rattle.pool_model.proofs.SameAlone.{alone_same, same_back}
use Rattle.assembler_laws.specs.Raising.{RaisesOver, most_opening}
use Rattle.assembler.specs.Sound.{HaveGatesUpTo, HoldSound, MayStop, TargetsLand}
use Rattle.assembler.specs.Volume.{AllLive}
use Rattle.assembler_laws.specs.Writing.{IsDriveOrTable}
use Rattle.assembler_laws.proofs.Alone.{alone_off, unsliced}
use Rattle.assembler.proofs.Apart.{lands_apart, tables_landed}
use Rattle.assembler.proofs.AtRest.{pool_alone, rest_alone, rest_sound}
use Rattle.assembler.proofs.Causes.{loses_since, marked_since}
use Rattle.assembler_laws.proofs.Drives.{members_drives}
use Rattle.assembler.proofs.Early.{early_leaves}
use Rattle.assembler.proofs.Elsewhere.{elsewhere}
use Rattle.assembler_laws.proofs.Finding.{same as found_by_rest}
use Rattle.assembler.proofs.Entry.{IsRested, quiet_first, quiet_last, pool_same, rest_found, rested_so}
use Rattle.assembler.proofs.Leaving.{IsAsRead}
use Rattle.assembler_laws.proofs.Marks.{marks_of, some_is}
use Rattle.assembler.proofs.Meaning.{check_passes}
use Rattle.assembler.proofs.Mended.{opening_keeps}
use Rattle.assembler.proofs.Volumes.{live_later}
use Rattle.assembler_laws.proofs.Lies.{slices_lie}
use Rattle.assembler.proofs.Numbered.{number_found}
use Rattle.assembler.proofs.Raised.{opening_few, raises_later}
use Rattle.assembler_laws.proofs.Written.{rack_then}
use Rattle.assembler.proofs.opening.assemble.Given.{Over}
use Rattle.assembler.proofs.opening.assemble.Goals.{After-make_rack, In-Ok-open_volume}

pub disks_still : (a b : RackView) → SameRack a b → disks_of a ≡ disks_of b
disks_still a b stays = ap₂ (λ count sectors. record { count = count; sectors = sectors }) (sym stays.disks) (λ i d. sym (stays.sectors d) i)

-- ---- once arrays are made

-- The disks are `a` before the opening, `x` at rest, `y` once they are checked and `z` once arrays are made of them, over slices by the tables `t`. Where
-- they held a sound pool `e`, it is `f` at rest.
module _ (g : Over) (c : After-make_rack g) where
  abbrev pub a : RackView
  a = g.R.Rack.seen c.args.rack

  abbrev pub x : RackView
  x = g.R.Rack.seen (below_of c.in-Ok.rest.slices)

  abbrev pub y : RackView
  y = g.R.Rack.seen (below_of c.in-Ok-check.members.slices)

  abbrev pub z : RackView
  z = g.R.Rack.seen (below_of (slices_in c.make_rack.result))

  abbrev pub t : Slices
  t = tables c.in-Ok-check.members.slices

  abbrev pub known : List Known
  known = c.in-Ok.rest.scan.disks.items

  pub ax : SameRack a x
  ax = c.in-Ok.ensures.only.only.stays

  pub xy : SameRack x y
  xy = c.in-Ok-check.ensures.only.stays

  pub ay : SameRack a y
  ay = stays_then ax xy

  pub yz : SameRack y z
  yz = c.make_rack.ensures.only.stays

  pub ready : (raid_in c.make_rack.result).state.joined ≤ (raid_in c.make_rack.result).state.made
  ready =
      let least = (valid_arrays c.in-Ok-check.members.state 0 c.in-Ok-check.ensures.members.valid).3 in
      let joined = c.make_rack.ensures.joined in
      let made = c.make_rack.ensures.made in
      omega (arith, least, joined, made)

  -- a place has lost its disk only where that refused a call
  pub lost : Loses a y (seat_by c.in-Ok.rest.state known) (seat_of t)
  lost =
      loses_since a x y known c.in-Ok.rest.state c.in-Ok.rest.gone.items (seat_of t) ax xy c.in-Ok-check.ensures.loses c.in-Ok.ensures.valid c.in-Ok.ensures.gone

  -- and is marked only then, or where it had none
  pub marked : (w : RackView) (s : State) → SameRack y w → AreMarkedFor y w (seat_of t) c.in-Ok-check.members.state s
      → AreMarkedFor a w (seat_by c.in-Ok.rest.state known) c.in-Ok.rest.state s
  marked w s stays marks =
      marked_since a x y w ax xy stays (seat_by c.in-Ok.rest.state known) (seat_of t) c.in-Ok.rest.state s lost
      (subst (λ (r : State). AreMarkedFor y w (seat_of t) r s) c.in-Ok-check.ensures.state marks)

  -- what the check has said of both copies of a told disk's table is so still
  pub says_so : (p d : ℕ) → seat_of t p ≡ Some d → x.told d → IsTrueOf y d (flag_by c.in-Ok-check.members.checked.agreed p)
  says_so p d seat told =
      let flag = flag_by c.in-Ok-check.members.checked.agreed p in
      true_since x y d flag xy told (λ s of live. c.in-Ok-check.ensures.only.keeps.held d s live)
      (true_told x d flag told (c.in-Ok-check.ensures.compared p d seat))

  -- where slices alone are written from then on
  module _ (w : RackView) (texts : WritesOnly z w (IsSliced t)) where
    pub drives_only : WritesOnly x w (IsDriveOrTable x w known c.in-Ok.rest.state)
    drives_only =
        members_drives c.in-Ok-check.members.state t y c.in-Ok-check.members.checked c.in-Ok-check.members.absent.items known c.in-Ok.rest.state
        c.in-Ok-check.members.slices.orderly c.in-Ok-check.ensures.members c.in-Ok-check.ensures.state c.in-Ok-check.ensures.seats x z w c.in-Ok-check.ensures.only
        c.make_rack.ensures.only texts

    pub tables_kept : (p d : ℕ) → seat_of t p ≡ Some d → KeepsTable a w d
    tables_kept p d seat =
        opening_keeps c.in-Ok-check.members.state c.in-Ok.ensures.only.state t a x y z w c.in-Ok-check.members.checked c.in-Ok-check.members.absent.items
        c.in-Ok.ensures.only.known c.in-Ok-check.members.slices.orderly c.in-Ok-check.ensures.members c.in-Ok.ensures.only.only c.in-Ok-check.ensures.only yz texts p d seat
        (c.make_rack.ensures.keeps p d seat)

  module _ (to_z : IsUnfaulted a z) where
    pub to_y : IsUnfaulted a y
    to_y = quiet_first a y z yz to_z

    pub to_x : IsUnfaulted a x
    to_x = quiet_first a x y xy to_y

    pub from_y : IsUnfaulted y z
    from_y = quiet_last a y z ay to_z

    -- ---- and the disks held a sound pool

    module _ (e : Found) (sound : HoldSound a e) where
      pub rested : IsRested g.R.Rack.seen a c.in-Ok.rest
      rested =
          let is = c.in-Ok.ensures in
          rested_so g.R.Rack.seen a c.in-Ok.rest e sound ax to_x is.newest is.stands is.settled is.steady is.looked is.single

      -- the pool at rest
      abbrev pub f : Found
      f = rested.settled.means.now

      pub same : IsSamePool e f
      same = pool_same g.R.Rack.seen a c.in-Ok.rest e sound rested

      pub checked : HoldPool c.in-Ok-check.members.state t y c.in-Ok-check.members.log f × IsChecked (is_well None) f c.in-Ok-check.members.checked
      checked =
          c.in-Ok-check.ensures.holds f (rest_found g.R.Rack.seen a c.in-Ok.rest e sound rested) (λ p d gone seat. to_x d (c.in-Ok.ensures.gone p d gone seat))
          (quiet_last a x y ax to_y)

      pub state : f.state ≡ c.in-Ok-check.members.state
      state = checked.0.pool.state

      pub members : AreMembers f.state t y c.in-Ok-check.members.checked c.in-Ok-check.members.absent.items
      members =
          subst (λ (s : State). AreMembers s t y c.in-Ok-check.members.checked c.in-Ok-check.members.absent.items) (sym state) c.in-Ok-check.ensures.members

      pub holds : HoldPool f.state t y c.in-Ok-check.members.log f
      holds = subst (λ (s : State). HoldPool s t y c.in-Ok-check.members.log f) (sym state) checked.0

      pub lie : AreSlicesOf f t
      lie =
          slices_lie f t y c.in-Ok-check.members.checked c.in-Ok-check.members.absent.items c.in-Ok-check.members.slices.orderly members holds.steady holds.pool
          checked.1.opened

      -- nothing is refused but the volume maybe
      pub passes : refused_by f ≡ option_map bad_volume (first_bad (joined_arrays f))
      passes =
          check_passes x known c.in-Ok.rest.state (tables c.in-Ok.rest.slices) c.in-Ok.rest.on.items c.in-Ok.rest.log c.in-Ok.rest.pending c.in-Ok.rest.damaged f
          (rest_found g.R.Rack.seen a c.in-Ok.rest e sound rested) rested.settled.whole c.in-Ok-check.members.checked checked.1

      -- what stops left up to the check
      pub early : MayStop a e → a.traced
          → Leaves a y
          (IsAsRead f t y c.in-Ok-check.members.checked c.in-Ok-check.members.absent.items c.in-Ok-check.members.slices.orderly members holds.steady holds.pool checked.1
          holds.sound c.in-Ok-check.members.log holds.log)
      early =
          let is = c.in-Ok.ensures in
          let told = sound.steady.told in
          let lasts = sound.steady.lasts in
          early_leaves g.R.Rack.seen a c.in-Ok.rest e sound rested t y c.in-Ok-check.members.checked c.in-Ok-check.members.absent.items
          c.in-Ok-check.members.slices.orderly c.in-Ok-check.members.log members holds checked.1 lie c.in-Ok-check.ensures.only (state ∙ c.in-Ok-check.ensures.state)
          (is.idle told lasts to_x) (λ none. is.keeps told lasts to_x sound.logs none sound.steady.single)
          (λ lower. is.brought told lasts to_x sound.logs lower sound.steady.single)

      -- where targets land in the pool's slices a replay finds these by the tables
      pub landing : TargetsLand e → HaveTables e
      landing lands =
          tables_landed f t y c.in-Ok-check.members.checked c.in-Ok-check.members.absent.items c.in-Ok-check.members.slices.orderly members holds.steady holds.pool
          checked.1 (found_is (disks_of x) (now_in x) f (rest_found g.R.Rack.seen a c.in-Ok.rest e sound rested).found_is).0 e same
          (lands_apart (disks_of a) (now_in a) e sound.found_is lands)

      -- the log's number is one that a gate of its drives had
      pub number_read : (most : ℕ) → HaveGatesUpTo a e most → c.in-Ok-check.members.log.number ≤ most
      number_read =
          let rest = c.in-Ok.rest in
          let found = rest_found g.R.Rack.seen a rest e sound rested in
          number_found f t y c.in-Ok-check.members.checked c.in-Ok-check.members.absent.items c.in-Ok-check.members.slices.orderly members c.in-Ok-check.members.log holds
          a x rest.state rest.pending rest.damaged e rested.settled c.in-Ok-check.ensures.only found.steady.told found.steady.lasts
          (λ p.
          sym (holds.pool.seats p)
          ∙ ap (λ (j : Found). j.seats p) (sym (found_by_rest x rest.scan.disks.items rest.state (tables rest.slices) rest.on.items rest.log rest.pending rest.damaged f found)))
          (λ p. sym (same.seats p) ∙ holds.pool.seats p)

      pub arrays : HoldsArrays f (raid_in c.make_rack.result) (slices_of t y) (slices_seen g.R.Rack.seen c.make_rack.result)
      arrays = c.make_rack.ensures.holds f checked.0 checked.1 from_y

      -- those are marked missing that were, or have no disk
      pub marks_made : (p : ℕ) → is_current (raid_in c.make_rack.result).state p ≡ (is_current e.state p && is_some (e.seats p))
      marks_made p =
          let m = c.in-Ok-check.members in
          let pool = checked.0.pool in
          (c.make_rack.ensures.marks from_y).marks p
          ∙ marks_of (is_current m.state p) (is_none (seat_of t p)) (names m.absent.items p) (c.in-Ok-check.ensures.members.absent_is p)
          ∙ ap (λ b. is_current m.state p && b) (some_is (seat_of t p))
          ∙ ap₂ (λ (r : State) (o : Option ℕ). is_current r p && is_some o) (sym pool.state) (sym (pool.seats p))
          ∙ ap₂ (λ (r : State) (o : Option ℕ). is_current r p && is_some o) same.state (same.seats p)

      -- outside the slices the disks are as they were, whatever they may be left with
      pub off_slices : (w : RackView) → WritesOnly z w (IsSliced t) → (i : Image) → IsPickOutsideSlices t w i → AreElsewhere e i
      off_slices w own i off =
          let m = c.in-Ok-check.members in
          let rest = c.in-Ok.rest in
          let found = rest_found g.R.Rack.seen a rest e sound rested in
          elsewhere m.state c.in-Ok.ensures.only.state t a x y z w m.checked m.absent.items c.in-Ok.ensures.only.known m.slices.orderly c.in-Ok-check.ensures.members
          c.in-Ok.ensures.only.only c.in-Ok-check.ensures.only c.make_rack.ensures.only own sound.steady found.steady e f same
          (found_is (disks_of a) (now_in a) e sound.found_is).1
          (λ d. ap (λ (j : Found). j.identities d) (sym (found_by_rest x rest.scan.disks.items rest.state (tables rest.slices) rest.on.items rest.log rest.pending rest.damaged f found)))
          (λ p. sym (holds.pool.seats p)) (tables_kept w own) i off

      -- and no superblock of an array stands there on a drive that is no member of it, where none stood
      pub off_alone : NoStraySuperblock e e.contents → (w : RackView) → WritesOnly z w (IsSliced t) → (i : Image) → IsPickOutsideSlices t w i → NoStraySuperblock e i
      off_alone alone w own i off =
          let rest = c.in-Ok.rest in
          let at = rest_sound g.R.Rack.seen a rest e sound rested in
          let is = found_is (disks_of x) (now_in x) f at.found_is in
          let most = (some_made f is.0).1 in
          let truths : (n : ℕ) → n < f.state.made → (u : Super) × (truth_of f n ≡ Some u) = λ n low. let truth = at.sound.rules.arrays n low in (truth.0, truth.1) in
          alone_same f e (same_back e f same) most truths i
          (alone_off f t x w (rest_alone g.R.Rack.seen a rest e sound rested (pool_alone g.R.Rack.seen a rest e sound rested alone)) at.steady is.1
          (λ p d seat. subst (λ n. d < n) xy.disks (members.fit.1.seats p d (sym (holds.pool.seats p) ∙ seat)))
          (unsliced f t c.in-Ok-check.members.slices.orderly lie most truths) y z (rack_then t x y z w c.in-Ok-check.ensures.only c.make_rack.ensures.only own) i off)

-- ---- once a volume is opened on them

module _ (g : Over) (c : In-Ok-open_volume g) where
  abbrev pub made : After-make_rack g
  made = c.before.before

  abbrev pub opened : RackView
  opened = g.R.Rack.seen (below_of (slices_in (rack_in c.in-Ok-open_volume.volume)))

  -- the numbers rose by a bounded number, over what was read
  pub raised : RaisesOver most_opening c.in-Ok-check.members.state c.in-Ok-check.members.log.number c.in-Ok-check.members.checked.arrays.items (raid_in (rack_in c.in-Ok-open_volume.volume))
  raised =
      let m = c.in-Ok-check.members in
      let raid = raid_in c.make_rack.result in
      let few = opening_few raid.state.joined raid.state.made (ready g made) c.make_rack.ensures.fit.running.set.most in
      raises_later 35 (18 * (most_opened raid.state.joined + 1)) most_opening m.state m.log.number m.checked.arrays.items raid (raid_in (rack_in c.in-Ok-open_volume.volume))
      (c.in-Ok-check.ensures.members.founded.count ∙ sym c.make_rack.ensures.made) few c.make_rack.ensures.raises c.in-Ok-open_volume.ensures.opens.raises

  pub texts : WritesOnly (z g made) opened (IsSliced (tables (slices_in c.make_rack.result)))
  texts = (let inside = c.make_rack.ensures.fit.running.set.fit in c.in-Ok-open_volume.ensures.opens.kept.0.apart inside.0 inside.1)

  pub own_texts : WritesOnly (z g made) opened (IsSliced (t g made))
  own_texts = subst (λ (u : Slices). WritesOnly (z g made) opened (IsSliced u)) c.make_rack.ensures.tables texts

  module _ (quiet : IsUnfaulted (a g made) opened) where
    pub first_quiet : IsUnfaulted (a g made) (z g made)
    first_quiet = quiet_first (a g made) (z g made) opened texts.stays quiet

    pub last_quiet : IsUnfaulted (z g made) opened
    last_quiet = quiet_last (a g made) (z g made) opened (stays_then (ay g made) (yz g made)) quiet

    pub nobody_failed : (place : ℕ) → HasFault (slices_seen g.R.Rack.seen c.make_rack.result) (slices_seen g.R.Rack.seen (rack_in c.in-Ok-open_volume.volume)) place → ⊥
    nobody_failed place fault =
        last_quiet (disk_of (tables (slices_in c.make_rack.result)) fault.0)
        (subst
        (λ u. Rose ((z g made).faults (disk_of (tables (slices_in c.make_rack.result)) fault.0)) (opened.faults (disk_of u fault.0)))
        c.in-Ok-open_volume.ensures.opens.kept.0.tables fault.2)

    -- no sector of the arrays is spent, before it and after it
    pub live_first : AllLive (raid_in c.make_rack.result)
    live_first =
        (c.make_rack.ensures.marks (from_y g made first_quiet)).live
        (runs_unused g.R.Rack.seen g.R.Rack.runs c.make_rack.result (rack_in c.in-Ok-open_volume.volume) c.in-Ok-open_volume.ensures.opens.kept
        c.in-Ok-open_volume.ensures.opens.unused)

    pub live_last : AllLive (raid_in (rack_in c.in-Ok-open_volume.volume))
    live_last =
        live_later g.R.Rack.seen g.R.Rack.runs c.make_rack.result (rack_in c.in-Ok-open_volume.volume) c.in-Ok-open_volume.ensures.opens.kept c.make_rack.ensures.fit
        c.in-Ok-open_volume.ensures.fit.0 last_quiet (ready g made) c.in-Ok-open_volume.ensures.opens.unused (c.make_rack.ensures.marks (from_y g made first_quiet)).live

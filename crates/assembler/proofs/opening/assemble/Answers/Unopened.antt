-- What an opening knows once its arrays are made and no volume is opened on them.
use Rattle.slice_rack.specs.SliceRack.{below_of, tables}
use Rattle.slice_rack.specs.Sliced.{slices_of}
use Rattle.raid_rack.specs.RaidRack.{raid_in, slices_in, slices_seen, written_in}
use Rattle.array_image.specs.States.{is_current}
use Rattle.pool_state.specs.declared.contents.State.{State}
use Rattle.std.proofs.Common.{◌≡◌, ◌⊎◌, ◌<◌, ◌&&◌, ℕ, true, is_some, Some, option_map, inl, inr, refl, sym, ap, subst, ◌∙◌, arith}
use Rattle.rack.specs.Seen.{Image, IsPick, Rose, RackView, SameRack}
use Rattle.rack.specs.Joins.{stays_then}
use Rattle.rack.specs.Sequences.{WritesOnly}
use Rattle.slice_rack.specs.Runs.{IsSliced, inside_still}
use Rattle.slice_rack.specs.Slices.{Slices, disk_of}
use Rattle.md_super.specs.declared.superblock.Super.{Super}
use Rattle.pool_image.specs.Disks.{Disks, disks_of}
use Rattle.pool_image.specs.Drives.{Found}
use Rattle.pool_image.specs.Meaning.{bad_volume, refusal_of, truth_of}
use Rattle.pool_image.specs.Volumes.{first_bad}
use Rattle.pool_image.proofs.Founds.{joined_same, refused_same}
use Rattle.array_model.specs.View.{HasFault}
use Rattle.pool_scan.specs.Scanning.{IsUnfaulted, now_in}
use Rattle.pool_scan.proofs.Valid.{valid_arrays}
use Rattle.raid_laws.specs.Book.{OnlyMarksSince}
use Rattle.raid_laws.specs.Raid.{Raid, is_used_up}
use Rattle.raid_rack.proofs.Live.{runs_unused}
use Rattle.assembler.specs.declared.refusal.Refusal.{Refusal}
use Rattle.assembler.specs.declared.refusal.Refusal.TheVariants.{BadVolume, Memory}
use Rattle.assembler.specs.Causes.{HasChecked, IsBadOn, IsShortOn, RefusesArrays, RefusesPool, arrays_on}
use Rattle.assembler_laws.specs.Members.{AreMembers}
use Rattle.pool_model.specs.Left.{NoStraySuperblock, RecoversSameVolume, IsServed}
use Rattle.pool_model.specs.Pools.{AreSlicesOf}
use Rattle.pool_model.proofs.Again.{left_known}
use Rattle.pool_model.proofs.Amid.{tables_lie}
use Rattle.pool_model.proofs.Copies.{IsKnown}
use Rattle.pool_model.proofs.Found.{found_is, some_made}
use Rattle.pool_model.proofs.Landing.{again_apart}
use Rattle.pool_model.proofs.Refused.{HoldSupers, refusal_now}
use Rattle.pool_model.proofs.Values.{HoldValues, same_again}
use Rattle.assembler.specs.Sound.{HoldSound, KeepsPool, LieApart, TargetsLand}
use Rattle.assembler.specs.Volume.{AllLive, AreStill}
use Rattle.assembler.specs.Wanting.{HasUsedUp}
use Rattle.assembler_laws.proofs.Clean.{usable_truth}
use Rattle.assembler.proofs.Entry.{only_pool, quiet_first, quiet_last, refusal_entry}
use Rattle.assembler.proofs.Leaving.{refused_leaves}
use Rattle.assembler_laws.proofs.Marks.{marks_still}
use Rattle.assembler.proofs.Served.{shapes_kept, later, served, supers_kept, values_kept}
use Rattle.assembler.proofs.Volumes.{live_later}
use Rattle.assembler_laws.proofs.Lies.{slices_same}
use Rattle.assembler.proofs.opening.assemble.Given.{Over}
use Rattle.assembler.proofs.opening.assemble.Goals.{After-make_rack, In-Err-open_volume}
use Rattle.assembler.proofs.opening.assemble.Answers.Assembling.{disks_still, a, x, y, z, t, known, ay, yz, ready, lost, marked, tables_kept, from_y, rested, f, same, checked, state, members, holds, lie, passes, early, arrays, landing, marks_made, off_alone, off_slices}

module _ (g : Over) (c : In-Err-open_volume g) where
  abbrev pub built : After-make_rack g
  built = c.before.before

  abbrev pub ended : RackView
  ended = g.R.Rack.seen (below_of (slices_in c.in-Err-open_volume.ensures.refused.last))

  pub calls : WritesOnly (z g built) ended (IsSliced (tables (slices_in c.make_rack.result)))
  calls = (let inside = c.make_rack.ensures.fit.running.set.fit in c.in-Err-open_volume.ensures.refused.kept.0.apart inside.0 inside.1)

  pub own_calls : WritesOnly (z g built) ended (IsSliced (t g built))
  own_calls = subst (λ (u : Slices). WritesOnly (z g built) ended (IsSliced u)) c.make_rack.ensures.tables calls

  -- why
  pub arrays_for : (why : Refusal)
      → ((why ≡ Memory) × IsShortOn g.R.Rack.seen (arrays_on c.make_rack.result) (arrays_on c.in-Err-open_volume.ensures.refused.last))
      ⊎ ((array : ℕ) × (why ≡ BadVolume array) × IsBadOn g.R.Rack.seen (arrays_on c.make_rack.result) (arrays_on c.in-Err-open_volume.ensures.refused.last) array)
      → RefusesArrays g.R.Rack.seen g.R.Rack.runs c.args.rack (below_of c.in-Ok.rest.slices) c.in-Err-open_volume.back.rack (known g built) c.in-Ok.rest.state why
  arrays_for why cause =
      let check = c.in-Ok-check.ensures in
      let m = c.in-Ok-check.members in
      let raid = c.make_rack.result in
      let refused = c.in-Err-open_volume.ensures.refused in
      record {
        at = below_of m.slices;
        made = arrays_on raid;
        last = arrays_on refused.last;
        kept = (check.runs, c.make_rack.ensures.runs);
        checked = m.checked;
        drives =
            subst (λ (u : Slices). HasChecked (a g built) (x g built) (y g built) (known g built) c.in-Ok.rest.state u m.checked) (sym c.make_rack.ensures.tables) (record {
              only = check.only;
              absent = m.absent.items;
              members = subst (λ (s : State). AreMembers s (t g built) (y g built) m.checked m.absent.items) check.state check.members;
              loses = lost g built;
              few = check.few;
              are = check.are;
            });
        book = subst (λ (s : State). OnlyMarksSince s (raid_in raid).state) check.state c.make_rack.ensures.book;
        marks = marked g built (z g built) (raid_in raid).state (yz g built) c.make_rack.ensures.caused;
        arrays = c.make_rack.ensures.arrays;
        fit = c.make_rack.ensures.fit;
        slices = refused.kept.0;
        raid = refused.kept.1;
        serves = refused.kept.2;
        back_is = refused.back;
        cause = cause;
      }

  pub pool_for : (why : Refusal)
      → RefusesArrays g.R.Rack.seen g.R.Rack.runs c.args.rack (below_of c.in-Ok.rest.slices) c.in-Err-open_volume.back.rack (known g built) c.in-Ok.rest.state why
      → RefusesPool g.R.Rack.seen g.R.Rack.runs c.args.rack c.in-Err-open_volume.back.rack why
  pool_for why arrays =
      let is = c.in-Ok.ensures in
      let rest = c.in-Ok.rest in
      record {
        mid = below_of rest.slices;
        kept = is.runs;
        early = is.only;
        known = known g built;
        state = rest.state;
        newest = is.newest;
        one = is.one;
        bad = rest.damaged;
        logs = record { slices = tables rest.slices; on = rest.on.items; log = rest.log; is_pending = rest.pending; laid = is.laid; finds = is.finds };
        cause = inr (c.in-Ok-check.ensures.whole, arrays);
      }

  pub numbers_ended : is_used_up (raid_in c.in-Err-open_volume.ensures.refused.last) ≡ true
      → HasUsedUp g.R.Rack.seen g.R.Rack.runs c.args.rack c.in-Err-open_volume.back.rack
  unfolding pool_for arrays_for
  numbers_ended used = (let arrays = arrays_for Memory (inl (refl, inr used)) in record { pool = pool_for Memory arrays; arrays = arrays; used_up = used })

  module _ (quiet : IsUnfaulted (a g built) (g.R.Rack.seen c.in-Err-open_volume.back.rack)) where
    pub all_quiet : IsUnfaulted (a g built) ended
    all_quiet = subst (λ r. IsUnfaulted (a g built) (g.R.Rack.seen r)) (sym c.in-Err-open_volume.ensures.refused.back) quiet

    pub made_quiet : IsUnfaulted (a g built) (z g built)
    made_quiet = quiet_first (a g built) (z g built) ended calls.stays all_quiet

    module _ (e : Found) (sound : HoldSound (a g built) e) (still : AreStill g.R.Rack.seen c.make_rack.result c.in-Err-open_volume.ensures.refused.last) where
      pub live_still : AllLive (raid_in c.in-Err-open_volume.ensures.refused.last)
      live_still =
          live_later g.R.Rack.seen g.R.Rack.runs c.make_rack.result c.in-Err-open_volume.ensures.refused.last c.in-Err-open_volume.ensures.refused.kept c.make_rack.ensures.fit
          still.fit (quiet_last (a g built) (z g built) ended (stays_then (ay g built) (yz g built)) all_quiet) (ready g built) still.unused
          (c.make_rack.ensures.marks (from_y g built made_quiet)).live

      nobody_went : (place : ℕ) → HasFault (slices_seen g.R.Rack.seen c.make_rack.result) (slices_seen g.R.Rack.seen c.in-Err-open_volume.ensures.refused.last) place → ⊥
      nobody_went place fault =
          quiet_last (a g built) (z g built) ended (stays_then (ay g built) (yz g built)) all_quiet (disk_of (tables (slices_in c.make_rack.result)) fault.0)
          (subst
          (λ u. Rose ((z g built).faults (disk_of (tables (slices_in c.make_rack.result)) fault.0)) (ended.faults (disk_of u fault.0)))
          c.in-Err-open_volume.ensures.refused.kept.0.tables fault.2)

      -- nobody is marked since
      pub marks_kept : (p : ℕ) → is_current (raid_in c.in-Err-open_volume.ensures.refused.last).state p ≡ (is_current e.state p && is_some (e.seats p))
      marks_kept p =
          let raid = c.make_rack.result in
          let refused = c.in-Err-open_volume.ensures.refused in
          marks_still (written_in raid) (written_in refused.last) (raid_in raid) (raid_in refused.last) (slices_seen g.R.Rack.seen raid) (slices_seen g.R.Rack.seen refused.last)
          refused.kept.1 c.make_rack.ensures.fit.heeded still.fit.heeded nobody_went p
          ∙ marks_made g built made_quiet e sound p

      -- ---- where all arrays are ready for the volume

      abbrev v : Raid
      v = raid_in c.in-Err-open_volume.ensures.refused.last

      abbrev shown : RackView
      shown = slices_of (t g built) ended

      own_slices : AreSlicesOf e (t g built)
      own_slices = slices_same e (f g built made_quiet e sound) (same g built made_quiet e sound) (t g built) (lie g built made_quiet e sound)

      same_tables : tables (slices_in c.in-Err-open_volume.ensures.refused.last) ≡ t g built
      same_tables = c.in-Err-open_volume.ensures.refused.kept.0.tables ∙ c.make_rack.ensures.tables

      whole : SameRack (a g built) ended
      whole = stays_then (ay g built) (stays_then (yz g built) calls.stays)

      module _ (all : e.state.joined ≡ e.state.made) where
        truths : (n : ℕ) → n < e.state.joined → (u : Super) × (truth_of e n ≡ Some u)
        truths n low = let truth = sound.sound.rules.arrays n (subst (λ k. n < k) all low) in (truth.0, truth.1)

        serves : IsServed e (t g built) v shown
        serves =
            let refused = c.in-Err-open_volume.ensures.refused in
            subst (λ u. IsServed e (t g built) v (slices_of u ended)) same_tables
            (served g.R.Rack.seen g.R.Rack.runs e (f g built made_quiet e sound) (same g built made_quiet e sound) (slices_of (t g built) (y g built)) c.make_rack.result refused.last
            refused.kept (arrays g built made_quiet e sound) live_still (ready g built) (t g built) own_slices all)

        values : HoldValues e v shown
        values =
            let seen = g.R.Rack.seen in
            let runs = g.R.Rack.runs in
            let refused = c.in-Err-open_volume.ensures.refused in
            let pool = same g built made_quiet e sound in
            let has = arrays g built made_quiet e sound in
            let few = (some_made e (found_is (disks_of (a g built)) (now_in (a g built)) e sound.found_is).0).1 in
            let shapes =
            shapes_kept seen runs e (f g built made_quiet e sound) pool (slices_of (t g built) (y g built)) c.make_rack.result refused.last refused.kept has live_still
            (ready g built) (t g built) own_slices (omega (arith, few, all)) truths still.fit marks_kept in
            subst (λ u. HoldValues e v (slices_of u ended)) same_tables
            (values_kept seen runs e (f g built made_quiet e sound) pool (slices_of (t g built) (y g built)) c.make_rack.result refused.last refused.kept has live_still
            (ready g built) still.reads shapes)

        supers : HoldSupers e v shown
        supers =
            let m = c.in-Ok-check.members in
            let refused = c.in-Err-open_volume.ensures.refused in
            let least = (valid_arrays m.state 0 c.in-Ok-check.ensures.members.valid).3 in
            let book = ap (λ (s : State). s.joined) (state g built made_quiet e sound) in
            let made = ap (λ (s : State). s.made) (state g built made_quiet e sound) in
            subst (λ u. HoldSupers e v (slices_of u ended)) same_tables
            (supers_kept g.R.Rack.seen g.R.Rack.runs e (f g built made_quiet e sound) (same g built made_quiet e sound) (slices_of (t g built) (y g built)) c.make_rack.result
            refused.last refused.kept (arrays g built made_quiet e sound) live_still (ready g built) c.make_rack.ensures.fit still c.make_rack.ensures.unwritten nobody_went
            (λ n z low truth.
            usable_truth (f g built made_quiet e sound) (t g built) (y g built) m.checked m.absent.items (members g built made_quiet e sound)
            (checked g built made_quiet e sound).1.opened n z (omega (arith, low, least, book, made)) truth)
            truths)

        module _ (alone : NoStraySuperblock e e.contents) (i : Image) (pick : IsPick ended ended ended.held i) where
          known_left : IsKnown e (t g built) v shown i
          known_left =
              left_known e (t g built) ended v serves (inside_still (stays_then (yz g built) calls.stays) (members g built made_quiet e sound).fit.1) (disks_of (a g built))
              (now_in (a g built)) i sound.found_is (disks_still (a g built) ended whole) sound.sound
              (off_slices g built made_quiet e sound ended own_calls i (λ d u live never. pick d u live))
              (off_alone g built made_quiet e sound alone ended own_calls i (λ d u live never. pick d u live)) pick

          -- whatever the disks may be left with holds the pool again
          pub pool_again : RecoversSameVolume e (t g built) v.state i
          pool_again = same_again e (t g built) v shown i known_left values

          -- where its slices lie apart by the drives' tables
          pub apart_again : TargetsLand e → LieApart pool_again.again.still.now
          apart_again lands =
              again_apart e (t g built) v.state i pool_again.again
              (tables_lie e (t g built) v.state ended (landing g built made_quiet e sound lands) own_slices (off_slices g built made_quiet e sound ended own_calls) i
              (λ d u live never. pick d u live))

          -- and is refused as they were before
          pub refused_again : refusal_of (disks_of ended) i ≡ refusal_of (disks_of (a g built)) (now_in (a g built))
          refused_again =
              let pool = same g built made_quiet e sound in
              let last = ap (λ k. option_map bad_volume (first_bad k)) (joined_same e (f g built made_quiet e sound) pool) in
              let rest = rested g built made_quiet e sound in
              ap (λ (k : Disks). refusal_of k i)
              (sym ((found_is (disks_of (a g built)) (now_in (a g built)) e sound.found_is).1 ∙ disks_still (a g built) ended whole))
              ∙ refusal_now e (t g built) v shown i known_left values supers all
              (sym (refused_same e (f g built made_quiet e sound) pool) ∙ passes g built made_quiet e sound ∙ last) (only_pool g.R.Rack.seen (a g built) c.in-Ok.rest e sound rest)
              marks_kept
              ∙ sym (refusal_entry g.R.Rack.seen (a g built) c.in-Ok.rest e sound rest ∙ passes g built made_quiet e sound ∙ last)

      -- the arrays that the pool had are there at every moment
      pub pool_kept : KeepsPool (a g built) (g.R.Rack.seen c.in-Err-open_volume.back.rack) e
      pool_kept =
          let seen = g.R.Rack.seen in
          let runs = g.R.Rack.runs in
          let m = c.in-Ok-check.members in
          let raid = c.make_rack.result in
          let refused = c.in-Err-open_volume.ensures.refused in
          let pool = same g built made_quiet e sound in
          let has = holds g built made_quiet e sound in
          subst (λ r. KeepsPool (a g built) (seen r) e) refused.back (record {
            slices = t g built;
            are = slices_same e (f g built made_quiet e sound) pool (t g built) (lie g built made_quiet e sound);
            moments = λ calm traced.
                let onwards = (ay g built).traced traced in
                refused_leaves (f g built made_quiet e sound) (t g built) (y g built) m.checked m.absent.items m.slices.orderly (members g built made_quiet e sound)
                has.steady has.pool (checked g built made_quiet e sound).1 has.sound m.log has.log seen runs (a g built) raid refused.last e _
                (IsSliced (tables (slices_in raid))) pool (early g built made_quiet e sound calm traced) (arrays g built made_quiet e sound)
                ((c.make_rack.ensures.marks (from_y g built made_quiet)).live (runs_unused seen runs raid refused.last refused.kept still.unused)) live_still
                (ready g built) c.make_rack.ensures.tables c.make_rack.ensures.only onwards refused.kept still.reads calls ((yz g built).traced onwards);
            tables = λ p d seat. tables_kept g built ended own_calls p d (sym (has.pool.seats p) ∙ pool.seats p ∙ seat);
            state = (raid_in refused.last).state;
            after = later seen runs e (f g built made_quiet e sound) pool (slices_of (t g built) (y g built)) raid refused.last refused.kept (arrays g built made_quiet e sound) live_still (ready g built);
            marks = marks_kept;
            again = pool_again;
            landing = λ lands all alone i pick. apart_again all alone i pick lands;
            refusal = refused_again;
          })

mod Assembling
mod Stopping
mod Unopened
use Rattle.slice_rack.specs.SliceRack.{below_of, tables}
use Rattle.slice_rack.specs.Sliced.{slices_of}
use Rattle.raid_rack.specs.RaidRack.{raid_in, slices_in, slices_seen, written_in}
use Rattle.pool_state.specs.declared.contents.State.{State}
use Rattle.std.proofs.Common.{◌≡◌, ◌+◌, ◌<◌, ◌≤◌, ℕ, List, arith, false, Some, option_map, inl, inr, sym, ap, subst, ◌∙◌}
use Rattle.std.proofs.lemmas.Bool.{both_ways}
use Rattle.std.proofs.lemmas.Slice.Eq.{bytes_eq-Decides}
use Rattle.shr_base.specs.declared.Id.{Id}
use Rattle.rack.specs.Seen.{Image, RackView, SameRack}
use Rattle.rack.specs.Joins.{stays_then}
use Rattle.rack.specs.Sequences.{WritesOnly}
use Rattle.slice_rack.specs.Runs.{IsSliced}
use Rattle.slice_rack.specs.Slices.{Slices, seat_of}
use Rattle.lvm_group.specs.Volume.{below_of as rack_in, linear, seqno_of}
use Rattle.pool_image.specs.Meaning.{arrays_held, bad_volume, joined_arrays, volume_by}
use Rattle.lvm_group.specs.Images.{HasOwnArea}
use Rattle.pool_image.specs.Volumes.{Arrays, linear_of}
use Rattle.pool_image.specs.Disks.{disks_of}
use Rattle.pool_scan.specs.Scanning.{IsUnfaulted, now_in}
use Rattle.pool_rest.proofs.Unwritten.{reads_mean}
use Rattle.pool_scan.proofs.Valid.{valid_arrays}
use Rattle.pool_check.proofs.Settled.{settled_told}
use Rattle.pool_check.proofs.Valid.{valid_fit}
use Rattle.raid_laws.specs.Book.{OnlyMarksSince, after_then}
use Rattle.raid_laws.specs.Laws.{live_parts}
use Rattle.raid_laws.specs.Raid.{is_failed}
use Rattle.array_model.specs.View.{sectors_of}
use Rattle.assembler_laws.specs.Marking.{AreMarkedFor}
use Rattle.assembler_laws.specs.Raising.{most_opening}
use Rattle.assembler.specs.Refusing.{is_early, meant_by}
use Rattle.pool_model.specs.Left.{IsPickOutsideSlices}
use Rattle.pool_model.specs.Pools.{AreSlicesOf}
use Rattle.assembler.proofs.Agreed.{agree_opened}
use Rattle.assembler.proofs.Apart.{lands_apart}
use Rattle.assembler.proofs.Grouped.{group_opened}
use Rattle.assembler.proofs.Causes.{refuses_drives}
use Rattle.assembler.proofs.Rereading.{rereading_leaves}
use Rattle.assembler.proofs.Refusals.{check_early, finding_sound, meant_finding, memory_sound}
use Rattle.assembler_laws.proofs.Written.{writes_then_reads}
use Rattle.pool_image.proofs.Founds.{joined_same, super_same, truths_same}
use Rattle.assembler.proofs.Elsewhere.{elsewhere}
use Rattle.assembler_laws.proofs.Founded.{array_later, array_same}
use Rattle.assembler.proofs.Entry.{meaning_entry, means_still, only_pool, quiet_first, quiet_last, refusal_entry, rest_found, rested_so}
use Rattle.assembler.proofs.Leaving.{opening_leaves}
use Rattle.assembler.proofs.Making.{marked_calls, marked_then}
use Rattle.assembler.proofs.Meaning.{check_fails}
use Rattle.assembler.proofs.Mended.{opening_settled}
use Rattle.assembler.proofs.Volumes.{volume_opened, volume_refused}
use Rattle.assembler_laws.proofs.Lies.{slices_same, volume_same}
use Rattle.assembler.proofs.Raised.{raises_truth}
use Rattle.assembler.proofs.opening.assemble.Answers.Assembling.{a, x, y, z, t, known, ax, ay, yz, says_so, ready, marked, drives_only, tables_kept, from_y, rested, f, same, checked, state, members, holds, lie, passes, early, arrays, made, opened, texts, own_texts, first_quiet, nobody_failed, live_first, live_last, marks_made, off_alone, off_slices, landing, number_read, raised}
use Rattle.assembler.proofs.opening.assemble.Answers.Stopping.{checked_leaves, marks_last, opened_leaves, opened_reopens, opened_says, refused_leaves}
use Rattle.assembler.proofs.opening.assemble.Answers.Unopened.{built, own_calls, arrays_for, pool_for, made_quiet, live_still, numbers_ended, pool_kept}
use Rattle.assembler.proofs.opening.assemble.Goals as goal

pub open_volume-requires-clause-sized : goal.open_volume-requires-clause-sized
open_volume-requires-clause-sized g c =
    let m = c.in-Ok-check.members in
    let least = (valid_fit m.state 0 c.in-Ok-check.ensures.members.valid).some in
    let same = c.make_rack.ensures.extent in
    omega (arith, least, same)

pub open_volume-requires-clause-some : goal.open_volume-requires-clause-some
open_volume-requires-clause-some g c =
    let least = (valid_arrays c.in-Ok-check.members.state 0 c.in-Ok-check.ensures.members.valid).2 in
    let same = c.make_rack.ensures.joined in
    omega (arith, least, same)

pub open_volume-requires-clause-ready : goal.open_volume-requires-clause-ready
open_volume-requires-clause-ready g c = ready g c

pub returns-in-Ok-open_volume-clause-runs : goal.returns-in-Ok-open_volume-clause-runs
returns-in-Ok-open_volume-clause-runs g c =
    g.met.R.Rack.runs_then _ _ _ c.in-Ok.ensures.runs
    (g.met.R.Rack.runs_then _ _ _ c.in-Ok-check.ensures.runs
    (g.met.R.Rack.runs_then _ _ _ c.make_rack.ensures.runs c.in-Ok-open_volume.ensures.opens.kept.0.below))

pub returns-in-Err-open_volume-clause-returned : goal.returns-in-Err-open_volume-clause-returned
returns-in-Err-open_volume-clause-returned g c =
    g.met.R.Rack.runs_then _ _ _ c.in-Ok.ensures.runs
    (g.met.R.Rack.runs_then _ _ _ c.in-Ok-check.ensures.runs
    (g.met.R.Rack.runs_then _ _ _ c.make_rack.ensures.runs c.in-Err-open_volume.ensures.returned))

pub returns-in-Err-check-clause-returned : goal.returns-in-Err-check-clause-returned
returns-in-Err-check-clause-returned g c = g.met.R.Rack.runs_then _ _ _ c.in-Ok.ensures.runs c.in-Err-check.ensures.returned

pub returns-in-Err-check-clause-early : goal.returns-in-Err-check-clause-early
returns-in-Err-check-clause-early g c early = inr (writes_then_reads _ _ _ c.in-Ok.ensures.only c.in-Err-check.ensures.kept)

pub returns-in-Err-open_volume-clause-early : goal.returns-in-Err-open_volume-clause-early
returns-in-Err-open_volume-clause-early g c early = absurd (both_ways (is_early c.in-Err-open_volume.back.why) c.in-Err-open_volume.ensures.late early)

pub returns-in-Ok-open_volume-clause-meant : goal.returns-in-Ok-open_volume-clause-meant
returns-in-Ok-open_volume-clause-meant g c e sound quiet =
    let seen = g.R.Rack.seen in
    let k = made g c in
    let m = c.in-Ok-check.members in
    let raid = c.make_rack.result in
    let volume = c.in-Ok-open_volume.volume in
    let opens = c.in-Ok-open_volume.ensures.opens in
    let before = first_quiet g c quiet in
    let pool = f g k before e sound in
    let has = holds g k before e sound in
    let same_pool = same g k before e sound in
    let held_arrays = arrays g k before e sound in
    let alive = live_last g c quiet in
    let held = volume_opened seen g.R.Rack.runs pool (slices_of (t g k) (y g k)) raid held_arrays c.make_rack.ensures.fresh (rack_in volume) (linear volume) (seqno_of volume) opens
    volume.orderly c.in-Ok-open_volume.ensures.fit.1 alive in
    let small = λ (n : ℕ) (low : n < e.state.joined). subst (λ (s : State). n < s.joined) (sym same_pool.state) low in
    record {
      volume = volume_by (linear_of (joined_arrays pool) held.0.group) (arrays_held pool);
      meant = meaning_entry seen (a g k) c.in-Ok.rest e sound (rested g k before e sound) (passes g k before e sound ∙ ap (option_map bad_volume) held.0.sound) (linear volume) held.0;
      holds = held.1;
      lies = volume_same e pool same_pool (linear volume) held.0;
      slices = slices_same e pool same_pool (tables (slices_in (rack_in volume)))
          (subst (AreSlicesOf pool) (sym (opens.kept.0.tables ∙ c.make_rack.ensures.tables)) (lie g k before e sound));
      after = after_then e.state (raid_in raid).state (raid_in (rack_in volume)).state
          (subst (λ (s : State). OnlyMarksSince s (raid_in raid).state) same_pool.state held_arrays.after) opens.kept.1.book;
      plan = opens.kept.2.plan ∙ held_arrays.plan ∙ ap (λ (s : State). s.plan) same_pool.state;
      told = λ n low. opens.kept.1.moments.told n (held_arrays.told n (small n low));
      arrays = λ n z low truth.
          let less = small n low in
          let joined = held_arrays.after.same.joined in
          array_later e n z ((raid_in raid).arrays n) ((raid_in (rack_in volume)).arrays n)
          (array_same e pool n z ((raid_in raid).arrays n) (super_same e pool same_pool n) (held_arrays.arrays n z less (truths_same e pool same_pool n ∙ truth)))
          (opens.kept.2.arrays n (let most = ready g k in omega (arith, less, joined, most)));
      live = alive;
      one_pool = λ d copy low here.
          let same_id : copy.state.pool.0 ≡ e.state.pool.0 =
          (bytes_eq-Decides copy.state.pool.0 e.state.pool.0).0 (only_pool seen (a g k) c.in-Ok.rest e sound (rested g k before e sound) d copy low here) in
          ap (λ (bytes : List ℕ). let id : Id = record { 0 = bytes } in id) same_id;
      group = λ all own.
          let joined = held_arrays.after.same.joined in
          let made = held_arrays.after.same.made in
          group_opened seen g.R.Rack.runs pool (slices_of (t g k) (y g k)) raid (rack_in volume) held_arrays c.make_rack.ensures.fresh (linear volume) (seqno_of volume) opens alive
          (let most = c.make_rack.ensures.fit.running.set.most in let ready_is = ready g k in omega (arith, most, ready_is))
          (joined ∙ ap (λ (s : State). s.joined) same_pool.state ∙ all ∙ sym (ap (λ (s : State). s.made) same_pool.state) ∙ sym made)
          (λ n low.
          subst (λ (h : Image). HasOwnArea (h n)) (sym (ap (λ (k : Arrays). k.contents) (joined_same e pool same_pool)))
          (own n (subst (λ (s : State). n < s.joined) same_pool.state low)));
      landing = landing g k before e sound;
      elsewhere = λ i off.
          off_slices g k before e sound (seen (below_of (slices_in (rack_in volume)))) (own_texts g c) i
          (subst (λ (u : Slices). IsPickOutsideSlices u (seen (below_of (slices_in (rack_in volume)))) i) (opens.kept.0.tables ∙ c.make_rack.ensures.tables) off);
      alone = λ alone i off.
          off_alone g k before e sound alone (seen (below_of (slices_in (rack_in volume)))) (own_texts g c) i
          (subst (λ (u : Slices). IsPickOutsideSlices u (seen (below_of (slices_in (rack_in volume)))) i) (opens.kept.0.tables ∙ c.make_rack.ensures.tables) off);
      says = λ all own calm traced. opened_says g c quiet e sound all own calm traced;
      reopens = opened_reopens g c quiet e sound
          (refusal_entry seen (a g k) c.in-Ok.rest e sound (rested g k before e sound) ∙ passes g k before e sound ∙ ap (option_map bad_volume) held.0.sound);
      moments = λ calm traced.
          let later = (ay g k).traced traced in
          opening_leaves pool (t g k) (y g k) m.checked m.absent.items m.slices.orderly (members g k before e sound) has.steady has.pool (checked g k before e sound).1 has.sound
          m.log has.log seen g.R.Rack.runs (a g k) raid (rack_in volume) (linear volume) (seqno_of volume) held.0 _ (IsSliced (tables (slices_in raid)))
          (early g k before e sound calm traced) held_arrays (live_first g c quiet) alive c.make_rack.ensures.tables c.make_rack.ensures.only later
          opens volume.orderly c.in-Ok-open_volume.ensures.fit.1 (texts g c) ((yz g k).traced later);
      epoch = subst (λ (s : State). (raid_in (rack_in volume)).state.epoch ≤ s.epoch + most_opening) (sym (state g k before e sound) ∙ same_pool.state) (raised g c).epoch;
      events = λ n z low truth.
          let less = small n low in
          let most = (valid_arrays m.state 0 c.in-Ok-check.ensures.members.valid).3 in
          let is = state g k before e sound in
          let joined = ap (λ (s : State). s.joined) is in
          let made_is = ap (λ (s : State). s.made) is in
          raises_truth most_opening pool m.checked m.state m.log.number (raid_in (rack_in volume)) (checked g k before e sound).1.opened (raised g c) n z
          (omega (arith, less, most, joined, made_is)) (truths_same e pool same_pool n ∙ truth);
      number = λ most bound. let up = (raised g c).number in let low = number_read g k before e sound most bound in omega (arith, up, low);
    }

pub returns-in-Err-clause-exact : goal.returns-in-Err-clause-exact
returns-in-Err-clause-exact g c e sound quiet some =
    meant_finding (g.R.Rack.seen c.args.rack) c.in-Err.back.why c.by_finding.result c.by_finding.ensures some
    (c.in-Err.ensures.found sound.steady.told sound.steady.lasts quiet sound.logs).1

pub returns-in-Err-check-clause-exact : goal.returns-in-Err-check-clause-exact
returns-in-Err-check-clause-exact g c e sound quiet some =
    let seen = g.R.Rack.seen in
    let a : RackView = seen c.args.rack in
    let rest = c.in-Ok.rest in
    let x : RackView = seen (below_of rest.slices) in
    let back = c.in-Err-check.back in
    let y : RackView = seen back.rack in
    let ax : SameRack a x = c.in-Ok.ensures.only.only.stays in
    let to_x : IsUnfaulted a x = quiet_first a x y c.in-Err-check.ensures.kept.stays quiet in
    let rested = rested_so seen a rest e sound ax to_x c.in-Ok.ensures.newest c.in-Ok.ensures.stands c.in-Ok.ensures.settled c.in-Ok.ensures.steady c.in-Ok.ensures.looked c.in-Ok.ensures.single in
    let f = rested.settled.means.now in
    let found = rest_found seen a rest e sound rested in
    refusal_entry seen a rest e sound rested
    ∙ check_fails x rest.scan.disks.items rest.state (tables rest.slices) rest.on.items rest.log rest.pending rest.damaged f found rested.settled.whole y rest.gone.items back.why
    c.in-Ok.ensures.valid (λ p d named seat. to_x d (c.in-Ok.ensures.gone p d named seat)) (quiet_last a x y ax quiet) c.in-Err-check.ensures.refused

pub returns-in-Err-open_volume-clause-exact : goal.returns-in-Err-open_volume-clause-exact
returns-in-Err-open_volume-clause-exact g c e sound quiet some =
    let seen = g.R.Rack.seen in
    let k = built g c in
    let before = made_quiet g c quiet in
    let refused = c.in-Err-open_volume.ensures.refused in
    elim refused.cause [
      | inl short ↦ absurd (some short.0)
      | inr bad ↦
          let first = volume_refused seen g.R.Rack.runs (f g k before e sound) (slices_of (t g k) (y g k)) c.make_rack.result (arrays g k before e sound) c.make_rack.ensures.fresh
          refused.last bad.0 bad.2.bad refused.kept (live_still g c quiet e sound bad.2.still) in
          refusal_entry seen (a g k) c.in-Ok.rest e sound (rested g k before e sound) ∙ passes g k before e sound ∙ ap (option_map bad_volume) first ∙ sym (ap meant_by bad.1)
    ]

pub returns-in-Err-check-clause-written : goal.returns-in-Err-check-clause-written
returns-in-Err-check-clause-written g c = inr (inl (writes_then_reads _ _ _ c.in-Ok.ensures.only c.in-Err-check.ensures.kept))

pub returns-in-Ok-open_volume-clause-drives : goal.returns-in-Ok-open_volume-clause-drives
returns-in-Ok-open_volume-clause-drives g c = record {
  mid = below_of c.in-Ok.rest.slices;
  kept = (
    c.in-Ok.ensures.runs,
    g.met.R.Rack.runs_then _ _ _ c.in-Ok-check.ensures.runs
        (g.met.R.Rack.runs_then _ _ _ c.make_rack.ensures.runs c.in-Ok-open_volume.ensures.opens.kept.0.below),
  );
  early = c.in-Ok.ensures.only;
  known = known g (made g c);
  state = c.in-Ok.rest.state;
  newest = c.in-Ok.ensures.newest;
  one = c.in-Ok.ensures.one;
  late = drives_only g (made g c) (opened g c) (own_texts g c);
}

pub returns-in-Err-open_volume-clause-written : goal.returns-in-Err-open_volume-clause-written
returns-in-Err-open_volume-clause-written g c =
    inr (inr (record {
      mid = below_of c.in-Ok.rest.slices;
      kept = (
        c.in-Ok.ensures.runs,
        g.met.R.Rack.runs_then _ _ _ c.in-Ok-check.ensures.runs (g.met.R.Rack.runs_then _ _ _ c.make_rack.ensures.runs c.in-Err-open_volume.ensures.returned),
      );
      early = c.in-Ok.ensures.only;
      known = known g (built g c);
      state = c.in-Ok.rest.state;
      newest = c.in-Ok.ensures.newest;
      one = c.in-Ok.ensures.one;
      late = drives_only g (built g c) (g.R.Rack.seen c.in-Err-open_volume.back.rack)
          (subst (λ r. WritesOnly (z g (built g c)) (g.R.Rack.seen r) (IsSliced (t g (built g c)))) c.in-Err-open_volume.ensures.refused.back (own_calls g c));
    }))

pub returns-in-Ok-open_volume-clause-marks : goal.returns-in-Ok-open_volume-clause-marks
returns-in-Ok-open_volume-clause-marks g c e sound quiet p = marks_last g c quiet e sound p

pub returns-in-Ok-open_volume-clause-caused : goal.returns-in-Ok-open_volume-clause-caused
returns-in-Ok-open_volume-clause-caused g c =
    let k = made g c in
    let raid = c.make_rack.result in
    let last = rack_in c.in-Ok-open_volume.volume in
    let kept = c.in-Ok-open_volume.ensures.opens.kept in
    record {
      mid = below_of c.in-Ok.rest.slices;
      kept = (
        c.in-Ok.ensures.runs,
        g.met.R.Rack.runs_then _ _ _ c.in-Ok-check.ensures.runs (g.met.R.Rack.runs_then _ _ _ c.make_rack.ensures.runs kept.0.below),
      );
      known = known g k;
      state = c.in-Ok.rest.state;
      newest = c.in-Ok.ensures.newest;
      one = c.in-Ok.ensures.one;
      after = after_then c.in-Ok.rest.state (raid_in raid).state (raid_in last).state
          (subst (λ (s : State). OnlyMarksSince s (raid_in raid).state) c.in-Ok-check.ensures.state c.make_rack.ensures.book) kept.1.book;
      marks = marked g k (opened g c) (raid_in last).state (stays_then (yz g k) (texts g c).stays)
          (marked_then (y g k) (z g k) (opened g c) (seat_of (t g k)) c.in-Ok-check.members.state (raid_in raid).state (raid_in last).state (yz g k) (texts g c).stays
          c.make_rack.ensures.caused
          (subst (λ (u : Slices). AreMarkedFor (z g k) (opened g c) (seat_of u) (raid_in raid).state (raid_in last).state) c.make_rack.ensures.tables
          (marked_calls (written_in raid) (written_in last) (raid_in raid) (raid_in last) (tables (slices_in raid)) (tables (slices_in last)) (z g k) (opened g c)
          kept.0.tables kept.1 c.make_rack.ensures.fit.heeded)));
      epoch = subst (λ (s : State). (raid_in last).state.epoch ≤ s.epoch + most_opening) c.in-Ok-check.ensures.state (raised g c).epoch;
    }

pub returns-in-Ok-open_volume-clause-mended : goal.returns-in-Ok-open_volume-clause-mended
returns-in-Ok-open_volume-clause-mended g c e sound quiet p d seat =
    let m = c.in-Ok-check.members in
    let k = made g c in
    let before = first_quiet g c quiet in
    let here : seat_of (t g k) p ≡ Some d = sym ((checked g k before e sound).0.pool.seats p) ∙ (same g k before e sound).seats p ∙ seat in
    settled_told (a g k) (opened g c) d
    (λ told.
    opening_settled m.state c.in-Ok.ensures.only.state (t g k) (a g k) (x g k) (y g k) (z g k) (opened g c) m.checked m.absent.items c.in-Ok.ensures.only.known m.slices.orderly
    c.in-Ok-check.ensures.members c.in-Ok.ensures.only.only c.in-Ok-check.ensures.only (yz g k) (own_texts g c) p d here
    (c.make_rack.ensures.mended (from_y g k before) p d here (says_so g k p d here ((ax g k).told d told))))

pub returns-in-Ok-open_volume-clause-keeps : goal.returns-in-Ok-open_volume-clause-keeps
returns-in-Ok-open_volume-clause-keeps g c p d seat =
    tables_kept g (made g c) (opened g c) (own_texts g c) p d
    (ap (λ u. seat_of u p) (sym (c.in-Ok-open_volume.ensures.opens.kept.0.tables ∙ c.make_rack.ensures.tables)) ∙ seat)

pub returns-in-Ok-open_volume-clause-agreed : goal.returns-in-Ok-open_volume-clause-agreed
returns-in-Ok-open_volume-clause-agreed g c e sound quiet n joined =
    let k = made g c in
    let raid = c.make_rack.result in
    let volume = c.in-Ok-open_volume.volume in
    let opens = c.in-Ok-open_volume.ensures.opens in
    let before = first_quiet g c quiet in
    let pool = f g k before e sound in
    let held = arrays g k before e sound in
    let most = ready g k in
    let less : n < pool.state.joined = subst (λ (s : State). n < s.joined) (sym (same g k before e sound).state) joined in
    let low : n < (raid_in raid).state.joined =
    (let kept = ap (λ (s : State). s.joined) (state g k before e sound) in let joined_is = c.make_rack.ensures.joined in omega (arith, less, joined_is, kept)) in
    let some : 0 < sectors_of ((raid_in (rack_in volume)).arrays n) =
    (let room = held.room n less in let is = held.sectors n less in let later = opens.kept.2.sectors n in omega (arith, room, is, later)) in
    let goes : is_failed (raid_in (rack_in volume)) n ≡ false =
    (live_parts (raid_in (rack_in volume)) n 0 (live_last g c quiet n 0 (let same = opens.kept.1.book.same.joined in omega (arith, low, same)) some)).0 in
    agree_opened g.R.Rack.seen g.R.Rack.runs raid (rack_in volume) (linear volume) (seqno_of volume) opens c.make_rack.ensures.fit (nobody_failed g c quiet)
    n (omega (arith, low, most)) (held.told n less) goes (held.agree n less (opens.kept.1.moments.still n goes))

pub returns-in-Ok-open_volume-clause-truths : goal.returns-in-Ok-open_volume-clause-truths
returns-in-Ok-open_volume-clause-truths g c e sound quiet n joined =
    let k = made g c in
    let raid = c.make_rack.result in
    let volume = c.in-Ok-open_volume.volume in
    let opens = c.in-Ok-open_volume.ensures.opens in
    let before = first_quiet g c quiet in
    let pool = f g k before e sound in
    let held = arrays g k before e sound in
    let most = ready g k in
    let less : n < pool.state.joined = subst (λ (s : State). n < s.joined) (sym (same g k before e sound).state) joined in
    let low : n < (raid_in raid).state.joined =
    (let kept = ap (λ (s : State). s.joined) (state g k before e sound) in let joined_is = c.make_rack.ensures.joined in omega (arith, less, joined_is, kept)) in
    let some : 0 < sectors_of ((raid_in (rack_in volume)).arrays n) =
    (let room = held.room n less in let is = held.sectors n less in let later = opens.kept.2.sectors n in omega (arith, room, is, later)) in
    let goes : is_failed (raid_in (rack_in volume)) n ≡ false =
    (live_parts (raid_in (rack_in volume)) n 0 (live_last g c quiet n 0 (let same = opens.kept.1.book.same.joined in omega (arith, low, same)) some)).0 in
    opens.kept.1.truths n (omega (arith, low, most)) (held.truths n less (opens.kept.1.moments.still n goes))

pub returns-in-Err-clause-cause : goal.returns-in-Err-clause-cause
returns-in-Err-clause-cause g c = inl (record { fault = c.in-Err.back.why; said = c.by_finding.ensures; cause = c.in-Err.ensures.refused })

pub returns-in-Err-check-clause-cause : goal.returns-in-Err-check-clause-cause
returns-in-Err-check-clause-cause g c =
    let seen = g.R.Rack.seen in
    let rest = c.in-Ok.rest in
    let is = c.in-Ok.ensures in
    inr (record {
      mid = below_of rest.slices;
      kept = is.runs;
      early = is.only;
      known = rest.scan.disks.items;
      state = rest.state;
      newest = is.newest;
      one = is.one;
      bad = rest.damaged;
      logs = record { slices = tables rest.slices; on = rest.on.items; log = rest.log; is_pending = rest.pending; laid = is.laid; finds = is.finds };
      cause = inl (refuses_drives (seen c.args.rack) (seen (below_of rest.slices)) (seen c.in-Err-check.back.rack) rest.scan.disks.items rest.state rest.gone.items rest.damaged
          c.in-Err-check.back.why is.valid is.only.only.stays c.in-Err-check.ensures.kept is.gone is.unread is.newest c.in-Err-check.ensures.refused);
    })

pub returns-in-Err-open_volume-clause-cause : goal.returns-in-Err-open_volume-clause-cause
returns-in-Err-open_volume-clause-cause g c =
    inr (pool_for g c c.in-Err-open_volume.back.why (arrays_for g c c.in-Err-open_volume.back.why (elim c.in-Err-open_volume.ensures.refused.cause [
      | inl short ↦ inl (short.0, elim short.1 [ inl still ↦ inl (still.reads, still.unused) | inr used ↦ inr used ])
      | inr bad ↦ inr (bad.0, bad.1, record { reads = bad.2.still.reads; bad = bad.2.bad; unused = bad.2.still.unused })
    ])))

pub returns-in-Err-clause-unmoved : goal.returns-in-Err-clause-unmoved
returns-in-Err-clause-unmoved g c e sound quiet early =
    reads_mean (g.R.Rack.seen c.args.rack) (g.R.Rack.seen c.in-Err.back.rack) e
    (c.in-Err.ensures.found sound.steady.told sound.steady.lasts quiet sound.logs).0 sound.steady.told sound.steady.lasts sound.found_is

pub returns-in-Err-check-clause-unmoved : goal.returns-in-Err-check-clause-unmoved
returns-in-Err-check-clause-unmoved g c e sound quiet early =
    let seen = g.R.Rack.seen in
    let a : RackView = seen c.args.rack in
    let rest = c.in-Ok.rest in
    let x : RackView = seen (below_of rest.slices) in
    let y : RackView = seen c.in-Err-check.back.rack in
    let reads = c.in-Err-check.ensures.kept in
    let to_x : IsUnfaulted a x = quiet_first a x y reads.stays quiet in
    let rested = rested_so seen a rest e sound c.in-Ok.ensures.only.only.stays to_x c.in-Ok.ensures.newest c.in-Ok.ensures.stands c.in-Ok.ensures.settled c.in-Ok.ensures.steady c.in-Ok.ensures.looked c.in-Ok.ensures.single in
    means_still seen a rest e sound rested y reads

pub returns-in-Err-open_volume-clause-unmoved : goal.returns-in-Err-open_volume-clause-unmoved
returns-in-Err-open_volume-clause-unmoved g c e sound quiet early =
    absurd (both_ways (is_early c.in-Err-open_volume.back.why) c.in-Err-open_volume.ensures.late early)

pub returns-in-Err-clause-still : goal.returns-in-Err-clause-still
returns-in-Err-clause-still g c e sound quiet array bad = absurd (finding_sound c.in-Err.back.why array (sym c.by_finding.ensures ∙ bad))

pub returns-in-Err-check-clause-still : goal.returns-in-Err-check-clause-still
returns-in-Err-check-clause-still g c e sound quiet array bad =
    let fails = c.in-Err-check.ensures.refused in
    absurd (both_ways (is_early c.in-Err-check.back.why) (ap is_early bad) (ap is_early fails.said ∙ check_early fails.fault))

pub returns-in-Err-open_volume-clause-still : goal.returns-in-Err-open_volume-clause-still
returns-in-Err-open_volume-clause-still g c e sound quiet array named =
    elim c.in-Err-open_volume.ensures.refused.cause [
      | inl short ↦ absurd (memory_sound array (sym short.0 ∙ named))
      | inr bad ↦ pool_kept g c quiet e sound bad.2.still
    ]

pub returns-in-Err-clause-wanting : goal.returns-in-Err-clause-wanting
returns-in-Err-clause-wanting g c e sound quiet memory =
    inl (reads_mean (g.R.Rack.seen c.args.rack) (g.R.Rack.seen c.in-Err.back.rack) e
    (c.in-Err.ensures.found sound.steady.told sound.steady.lasts quiet sound.logs).0 sound.steady.told sound.steady.lasts sound.found_is)

pub returns-in-Err-check-clause-wanting : goal.returns-in-Err-check-clause-wanting
returns-in-Err-check-clause-wanting g c e sound quiet memory =
    let fails = c.in-Err-check.ensures.refused in
    absurd (both_ways (is_early c.in-Err-check.back.why) (ap is_early memory) (ap is_early fails.said ∙ check_early fails.fault))

pub returns-in-Err-open_volume-clause-wanting : goal.returns-in-Err-open_volume-clause-wanting
returns-in-Err-open_volume-clause-wanting g c e sound quiet memory =
    elim c.in-Err-open_volume.ensures.refused.cause [
      | inr bad ↦ absurd (memory_sound bad.0 (sym memory ∙ bad.1))
      | inl short ↦ elim short.1 [
        | inl still ↦ inr (inl (pool_kept g c quiet e sound still))
        | inr used ↦ inr (inr (numbers_ended g c used))
      ]
    ]

pub returns-in-Ok-open_volume-clause-stops : goal.returns-in-Ok-open_volume-clause-stops
returns-in-Ok-open_volume-clause-stops g c e sound quiet may lands all alone traced = opened_leaves g c quiet e sound may lands all alone traced

pub returns-in-Err-clause-stopped : goal.returns-in-Err-clause-stopped
returns-in-Err-clause-stopped g c e sound quiet =
    inl (λ may lands all alone traced.
    rereading_leaves (g.R.Rack.seen c.args.rack) (g.R.Rack.seen c.in-Err.back.rack) e sound
    (lands_apart (disks_of (g.R.Rack.seen c.args.rack)) (now_in (g.R.Rack.seen c.args.rack)) e sound.found_is lands) alone may
    (c.in-Err.ensures.found sound.steady.told sound.steady.lasts quiet sound.logs).0 traced)

pub returns-in-Err-check-clause-stopped : goal.returns-in-Err-check-clause-stopped
returns-in-Err-check-clause-stopped g c e sound quiet =
    inl (λ may lands all alone traced. checked_leaves g c quiet e sound may lands alone traced)

pub returns-in-Err-open_volume-clause-stopped : goal.returns-in-Err-open_volume-clause-stopped
returns-in-Err-open_volume-clause-stopped g c e sound quiet =
    elim c.in-Err-open_volume.ensures.refused.cause [
      | inr bad ↦ inl (λ may lands all alone traced. refused_leaves g c quiet e sound bad.2.still may lands all alone traced)
      | inl short ↦ elim short.1 [
        | inl still ↦ inl (λ may lands all alone traced. refused_leaves g c quiet e sound still may lands all alone traced)
        | inr used ↦ inr (numbers_ended g c used)
      ]
    ]

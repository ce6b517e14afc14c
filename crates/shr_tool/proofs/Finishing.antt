-- How a script came out, from why it stopped and how the pool was ended.
use Rattle.std.proofs.Common.{◌≡◌, ◌≢◌, ◌⊎◌, ℕ, ◌<◌, true, false, List, [], ◌∷◌, ◌++◌, refl, sym, ◌∙◌, ap, subst, inl, inr, arith}
use Rattle.rack.specs.Seen.{Image, IsPick}
use Rattle.slice_rack.specs.Sliced.{slices_of}
use Rattle.assembler.specs.Sound.{TargetsLand}
use Rattle.pool_image.specs.Drives.{Found}
use Rattle.pool_model.specs.Taken.{AreSerial}
use Rattle.raid_laws.specs.Raid.{IsTracked, is_failed}
use Rattle.pool.specs.Keeping.{KeepsBook}
use Rattle.flat_array.specs.Array.{FlatArray, flushed}
use Rattle.lvm_group.specs.Runs.{Linear, sectors_in}
use Rattle.pool_model.specs.Absent.{HoldAbsent}
use Rattle.pool_model.specs.Alone.{LeaveOut}
use Rattle.pool_model.specs.Grouped.{HaveOwnAreas}
use Rattle.pool.specs.Continuing.{Continues, KeepsOutside}
use Rattle.pool.specs.View.{View, book, slices_shown, volume}
use Rattle.pool.specs.Volume.{VolumeIs}
use Rattle.pool.specs.Calls.{Ends, CallFrame}
use Rattle.shr_tool.specs.declared.perform.Answer.{Answer}
use Rattle.shr_tool.specs.declared.perform.Answer.TheVariants.{Given, Spent as Refuses, Memory as Wants}
use Rattle.shr_tool.specs.declared.serve.Stop.{Stop}
use Rattle.shr_tool.specs.declared.serve.Stop.TheVariants.{Quit as AtQuit, Input, SourceFault, Limit as AtLimit, SinkFault}
use Rattle.shr_tool.specs.declared.status.Status.{Status}
use Rattle.shr_tool.specs.declared.status.Status.TheVariants.{Limit}
use Rattle.shr_tool.specs.Events.{AnyTakes, Event, any_takes, array_by}
use Rattle.pool.specs.Moment.{moment_of}
use Rattle.pool.specs.Proceeding.{Proceeds}
use Rattle.shr_script.specs.Line.{Line}
use Rattle.shr_tool.specs.Timeline.{Steps, Timeline, steps_of}
use Rattle.shr_tool.specs.Serving.{AreBegun, ArePut, Grew, HasGone, HasStopCause, IsServing, Ran, Serves, ServesEvents, StopsAtEnd}
use Rattle.shr_tool.specs.Between.{HaveOthers, HoldsEach, HoldsInside, HoldsNext}
use Rattle.shr_tool.specs.Service.{AreFit, AreLone, BeginsOn, IsOut, IsServed, Lone, none_out, pool_by}
use Rattle.shr_tool.specs.Outcome.{DoneOutcome, EndsAt, EventsOutcome, HasStatusCause, IsRunOn, RunContract, LastsUntil, LeavesItsRows, Outcome, status_by}
use Rattle.shr_tool.proofs.Between.{holds_inside, next_now, told_after}
use Rattle.shr_tool.proofs.Grown.{gone_kept}
use Rattle.shr_tool.proofs.Growing.{along_for, proceeds_to}
use Rattle.shr_tool.proofs.History.{IsLawful, IsUnspent, each_before, others_before, ran_before, slices_kept, standing, steps_before}
use Rattle.shr_tool.proofs.Heads.{heads_passes, heads_then}
use Rattle.shr_tool.proofs.Serviced.{goes_calls, goes_lone, goes_run}
use Rattle.shr_tool.proofs.Missing.{vacant_kept}
use Rattle.shr_tool.proofs.Told.{outside_told, steps_for, timeline_for}
use Rattle.pool.proofs.Continuing.{continues_of, continues_then, outside_fewer, outside_of, outside_then}
use Rattle.pool.proofs.Keeping.{passes_then}
use Rattle.shr_tool.proofs.Absent.{agreed_at, safe_at}
use Rattle.shr_tool.proofs.Lone.{lone_at}

-- what can be had after the end of a pool could be had before it
served_before :
    (m y : View) (events : List Event) → CallFrame m y → IsServed (moment_of y) events → IsServed (moment_of m) events
served_before m y events passes (inl none) = inl none
served_before m y events passes (inr some) =
    inr (some.0, subst (λ (l : Linear). some.0 < sectors_in l) passes.linear some.1, passes.stays.spent 0 some.0 some.2)

-- the end of a pool leaves the rows that were left
rows_at :
    (x m y : View) (a : FlatArray) (events : List Event)
    → Ran x m events
    → Ends m y
    → IsServing x a
    → IsServed (moment_of y) events
    → LeavesItsRows y.bay (moment_of m) (moment_of y)
rows_at x m y a events ran ends serving served none n inside over settled r left t truth =
    ends.rows none n
    (told_after x m a (array_by a events) events ran.passes serving (ran.holds a serving.0) (served_before m y events ends.passes served) n inside)
    over settled r left t truth

-- as an event after the script's
ends_at :
    (m y : View) (b : FlatArray) (Told Traced : Type 0)
    → (volume m).fit
    → (Told → VolumeIs m b)
    → (Told → Traced → m.bay.traced)
    → Ends m y
    → IsLawful y
    → EndsAt Told Traced y.bay (moment_of m) (moment_of y) b
ends_at m y b Told Traced fit holds traced_then ends laws =
    record {
      later = λ told traced. (ends.passes.apart.stops (traced_then told traced)).later;
      linear = ends.passes.linear;
      slices = slices_kept m y ends.passes;
      after = ends.passes.marks;
      cause =
          λ place was now. elim (ends.marks place was now) [ inl rose ↦ rose | inr never ↦ absurd never ];
      stands = standing m y KeepsBook 1 ends.passes.stays.fit ends.passes.book ends.raises;
      works = ends.works;
      held = λ told d s low within unsliced.
          (outside_of m y (λ d. ⊥) ends.passes laws.0).held d s
          (record { disk = low; sector = within; is_told = (holds told).disks d low; unnamed = λ never. never; unsliced = unsliced });
      missing = λ told. vacant_kept m y fit ends.passes laws.2 laws.0 (holds told).disks;
      during = λ told traced. (ends.does.leaves (traced_then told traced) b (holds told)).new;
      ended = λ told traced. ends.does.ends (traced_then told traced) b (holds told);
    }

-- each of the volume's arrays is told
told_at :
    (x m y : View) (a : FlatArray) (events : List Event)
    → Ran x m events
    → Ends m y
    → IsServing x a
    → IsServed (moment_of y) events
    → (n : ℕ) → n < y.linear.arrays → IsTracked (book y) (slices_of y.slices y.bay) n
told_at x m y a events ran ends serving served n inside =
    told_after x y a (flushed (array_by a events)) events
    (λ none. passes_then x m y (ran.passes none) ends.passes)
    serving (ends.does.becomes (array_by a events) (ran.holds a serving.0)) served n inside

-- of as many arrays as the volume had when the run began
told_from :
    (x m y : View) (a : FlatArray) (events : List Event)
    → Ran x m events
    → Ends m y
    → IsServing x a
    → IsServed (moment_of y) events
    → (n : ℕ) → n < x.linear.arrays → IsTracked (book y) (slices_of y.slices y.bay) n
told_from x m y a events ran ends serving served n inside =
    told_at x m y a events ran ends serving served n (subst (λ (l : Linear). n < l.arrays) (sym (ends.passes.linear ∙ ran.continues.linear)) inside)

-- the events as they happened, told where the pool serves the array
timeline_told :
    (x m y : View) (a : FlatArray) (events : List Event)
    → Ran x m events
    → Continues m y
    → Timeline (x.bay.traced × IsServing x a) y.bay.stops (moment_of x) a events (moment_of m)
timeline_told x m y a events ran continues =
    timeline_for (x.bay.traced × VolumeIs x a) (x.bay.traced × IsServing x a) y.bay.stops (moment_of x) a events (moment_of m)
    (λ is. (is.0, is.1.0)) (ran_before x m y events a ran continues)

-- the moments of the run
steps_told :
    (x m y : View) (a : FlatArray) (events : List Event) (ran : Ran x m events) (continues : Continues m y)
    → steps_of (x.bay.traced × IsServing x a) y.bay.stops (moment_of x) a events (moment_of m) (timeline_told x m y a events ran continues) ≡ ran.steps
unfolding timeline_told
steps_told x m y a events ran continues =
    steps_for (x.bay.traced × VolumeIs x a) (x.bay.traced × IsServing x a) y.bay.stops (moment_of x) a events (moment_of m)
    (λ is. (is.0, is.1.0)) (ran_before x m y events a ran continues)
    ∙ steps_before x m y events a ran continues

-- a run on a pool begins on its arrays
begins_on : (x : View) (f : Found) → IsRunOn f (moment_of x) x.bay → BeginsOn (HaveOwnAreas f) x
begins_on x f on = record {
  joined = on.after.same.joined ∙ on.joined ∙ sym on.after.same.made;
  truths = λ n low. on.truths n (let made = on.after.same.made in omega (arith, low, made));
  group = on.group;
}

-- and what the disks may be left with holds a sound pool again
again_at :
    (x m y : View) (a : FlatArray) (events : List Event) → IsUnspent y → (ran : Ran x m events) (ends : Ends m y)
    → IsServing x a
    → IsServed (moment_of y) events
    → (f : Found)
    → IsRunOn f (moment_of x) x.bay
    → (any_takes events ≡ true → AreSerial f.state)
    → AreFit f (moment_of x) events (moment_of m) ran.steps
    → ((n : ℕ) → n < f.state.made → is_failed (book y) n ≡ false)
    → (i : Image) → IsPick y.bay y.bay y.bay.held i
    → HoldsNext (TargetsLand f) (HaveOwnAreas f) (pool_by f (moment_of x) events (moment_of m) ran.steps) y.slices y.linear (book y) i
again_at x m y a events unspent ran ends serving served f on serials fit lasts i pick =
    let h = pool_by f (moment_of x) events (moment_of m) ran.steps in
    let at_end = (ran.service a serving.0 (served_before m y events ends.passes served) f (goes_run x f on) serials fit).goes in
    let goes = goes_calls m y h (array_by a events) unspent ran.continues.proceeds.fit (ran.holds a serving.0) ends.passes at_end in
    let made = goes.arrays in
    let linear = ap (λ (l : Linear). l.arrays) (ends.passes.linear ∙ ran.continues.linear) in
    let arrays = on.arrays ∙ on.joined in
    next_now x y a (flushed (array_by a events)) events h (continues_then x m y ran.continues (continues_of m y ends.passes)) (λ none. passes_then x m y (ran.passes none) ends.passes)
    (heads_then (book x) (book m) (book y) (slices_shown x) (slices_shown m) (slices_shown y) (ran.heads serving.0.shelf serving.0.disks) (heads_passes m y ends.passes))
    serving (ends.does.becomes (array_by a events) (ran.holds a serving.0)) (begins_on x f on) served goes
    (λ n low. lasts n (omega (arith, low, made, linear, arrays)))
    i pick

-- what a stop inside the end leaves holds it
closing_at :
    (x m y : View) (a : FlatArray) (events : List Event) (ran : Ran x m events)
    → Ends m y
    → IsServing x a
    → x.bay.traced
    → (f : Found)
    → IsRunOn f (moment_of x) x.bay
    → AreFit f (moment_of x) events (moment_of m) ran.steps
    → HoldsInside y.bay.stops (AreSerial f.state) (TargetsLand f) (HaveOwnAreas f) events (pool_by f (moment_of x) events (moment_of m) ran.steps) (moment_of m)
    (moment_of y)
closing_at x m y a events ran ends serving traced f on fit =
    holds_inside x m y a (array_by a events) events (AreSerial f.state) (pool_by f (moment_of x) events (moment_of m) ran.steps) ran.continues ran.passes
    (ran.heads serving.0.shelf serving.0.disks) serving (ran.holds a serving.0) (begins_on x f on) traced ends.passes
    (λ served serials. (ran.service a serving.0 served f (goes_run x f on) serials fit).goes)

-- outside the slices those disks alone are written that a line named
outside_at :
    (x m y : View) (a : FlatArray) (events : List Event)
    → IsUnspent y
    → Ran x m events
    → CallFrame m y
    → KeepsOutside x.slices y.slices (AnyTakes y.shelf.names events) (IsServing x a) x.bay y.bay
outside_at x m y a events unspent ran passes =
    let names = passes.shelf.names in
    outside_told x.slices y.slices (AnyTakes y.shelf.names events) x.shelf.told (IsServing x a) x.bay y.bay (λ serving. serving.0.shelf)
    (outside_fewer x.slices y.slices (λ d. AnyTakes m.shelf.names events d ⊎ ⊥) (AnyTakes y.shelf.names events) x.shelf.told x.bay y.bay
    (λ d takes. elim takes [ inl before ↦ subst (λ n. AnyTakes n events d) (sym names) before | inr never ↦ absurd never ])
    (outside_then x m y (AnyTakes m.shelf.names events) (λ d. ⊥) ran.continues (continues_of m y passes) ran.outside
    (outside_of m y (λ d. ⊥) passes unspent)))

-- the events of a script, and the end of the pool
pub lasts_of :
    (x m y : View) (a : FlatArray) (events : List Event)
    → IsLawful y
    → Ran x m events
    → Ends m y
    → RunContract (IsServing x a) x.bay.traced x.bay y.bay (moment_of x) a events
lasts_of x m y a events laws ran ends =
    let passes : any_takes events ≡ false → CallFrame x y = λ none. passes_then x m y (ran.passes none) ends.passes in
    record {
      last = moment_of m;
      timeline = timeline_told x m y a events ran (continues_of m y ends.passes);
      final = moment_of y;
      clock = refl;
      faults = λ d. refl;
      disks = refl;
      sectors = λ d. refl;
      held = λ d s. refl;
      ends =
          ends_at m y (array_by a events) (IsServing x a) x.bay.traced ran.continues.proceeds.fit (λ serving. ran.holds a serving.0)
          (λ serving traced. ran.continues.proceeds.traced serving.0.shelf traced) ends laws;
      outside = outside_at x m y a events laws.0 ran ends.passes;
      apart = λ none. (passes none).apart;
      told = told_at x m y a events ran ends;
      rows = rows_at x m y a events ran ends;
      between = λ serving traced f on.
          subst (HoldsEach y.bay.stops (AreSerial f.state) (TargetsLand f) (HaveOwnAreas f) [] f (moment_of x) events (moment_of m))
          (sym (steps_told x m y a events ran (continues_of m y ends.passes)))
          (each_before x m y events a f ran (continues_of m y ends.passes) serving traced (begins_on x f on) (goes_run x f on));
      closing = λ serving traced f on fit.
          let same = steps_told x m y a events ran (continues_of m y ends.passes) in
          subst
          (λ (steps : Steps (moment_of x) events (moment_of m)).
          HoldsInside y.bay.stops (AreSerial f.state) (TargetsLand f) (HaveOwnAreas f) events (pool_by f (moment_of x) events (moment_of m) steps) (moment_of m) (moment_of y))
          (sym same)
          (closing_at x m y a events ran ends serving traced f on (subst (AreFit f (moment_of x) events (moment_of m)) same fit));
      agreed = λ serving served quiet f on n low goes r left.
          agreed_at x m y f (ran.heads serving.0.shelf serving.0.disks) ends quiet on (told_from x m y a events ran ends serving served) n low goes r left;
      safe = λ serving none quiet f on.
          safe_at x m y f (ran.passes none) ends quiet on (λ n low. serving.1 n low) (told_from x m y a events ran ends serving (inl none));
      safe_by = λ serving served quiet f on only own serials fit out ungiven lone whole lasts i j pick leave sized.
          let same = steps_told x m y a events ran (continues_of m y ends.passes) in
          let l : Lone = record { bound = (book m).state.serial; out = out } in
          subst (λ (steps : Steps (moment_of x) events (moment_of m)). HoldAbsent (pool_by f (moment_of x) events (moment_of m) steps) y.slices (book y).state j) (sym same)
          (lone_at x m y a events laws.0 ran ends serving (served_before m y events ends.passes served) quiet (told_from x m y a events ran ends serving served) f on only own
          serials (subst (AreFit f (moment_of x) events (moment_of m)) same fit) out ungiven (subst (AreLone f l (moment_of x) events (moment_of m)) same lone) whole lasts i j pick
          (subst (λ (steps : Steps (moment_of x) events (moment_of m)). LeaveOut (pool_by f (moment_of x) events (moment_of m) steps) (IsOut l y.shelf.names) i j) same leave) sized);
      others = λ serving traced served f on only ungiven serials fit lone.
          let same = steps_told x m y a events ran (continues_of m y ends.passes) in
          let bound = (book m).state.serial in
          let l = none_out bound in
          subst (HaveOthers y.bay.stops f (moment_of x) events (moment_of m)) (sym same)
          (others_before x m y events a f ran (continues_of m y ends.passes) serving.0 traced
          (ran.others a serving.0 traced (served_before m y events ends.passes served) f bound (goes_lone x f a l ran.fit serving.0 on only ungiven) (omega arith)
          serials (subst (AreFit f (moment_of x) events (moment_of m)) same fit) (subst (AreLone f l (moment_of x) events (moment_of m)) same lone)));
      again = λ serving served f on known fit lasts i pick.
          let same = steps_told x m y a events ran (continues_of m y ends.passes) in
          subst (λ (steps : Steps (moment_of x) events (moment_of m)). HoldsNext (TargetsLand f) (HaveOwnAreas f) (pool_by f (moment_of x) events (moment_of m) steps) y.slices y.linear (book y) i) (sym same)
          (again_at x m y a events laws.0 ran ends serving served f on (λ takes. (known takes).1) (subst (AreFit f (moment_of x) events (moment_of m)) same fit) lasts i pick);
    }

-- all lines were answered
done_outcome :
    (x m y : View) (a : FlatArray) (text out out' : List ℕ) (worst : Answer)
    → StopsAtEnd x m text out out' worst
    → IsLawful y
    → Ends m y
    → DoneOutcome worst (IsServing x a) x.bay.traced x.bay y.bay (moment_of x) a text out out'
done_outcome x m y a text out out' worst stops laws ends = record {
  events = stops.events;
  script = stops.script;
  worst_is = stops.worst_is;
  put = λ serving. stops.answered.put a serving.0;
  lasts = lasts_of x m y a stops.events laws stops.answered.ran ends;
}

-- by why the script stopped
events_of :
    (stop : Stop) (worst : Answer) (x m y : View) (a : FlatArray) (text rest out out' : List ℕ)
    → ServesEvents stop x m text rest out out' worst
    → IsLawful y
    → Ends m y
    → EventsOutcome (status_by stop worst) (IsServing x a) x.bay.traced x.bay y.bay (moment_of x) a text rest out out'
events_of AtQuit Refuses x m y a text rest out out' stops laws ends = done_outcome x m y a text out out' Refuses stops laws ends
events_of AtQuit Given x m y a text rest out out' stops laws ends = done_outcome x m y a text out out' Given stops laws ends
events_of AtQuit Wants x m y a text rest out out' stops laws ends = done_outcome x m y a text out out' Wants stops laws ends
events_of Input Refuses x m y a text rest out out' stops laws ends = done_outcome x m y a text out out' Refuses stops.0 laws ends
events_of Input Given x m y a text rest out out' stops laws ends = done_outcome x m y a text out out' Given stops.0 laws ends
events_of Input Wants x m y a text rest out out' stops laws ends = done_outcome x m y a text out out' Wants stops.0 laws ends
events_of SourceFault worst x m y a text rest out out' stops laws ends = record {
  taken = stops.taken;
  text_is = stops.text_is;
  events = stops.events;
  script = stops.script;
  put = λ serving. stops.answered.put a serving.0;
  lasts = lasts_of x m y a stops.events laws stops.answered.ran ends;
}
events_of AtLimit worst x m y a text rest out out' stops laws ends = record {
  longer = stops.longer;
  events = stops.events;
  script = stops.script;
  put = λ serving. stops.answered.put a serving.0;
  lasts = lasts_of x m y a stops.events laws stops.answered.ran ends;
}
events_of SinkFault worst x m y a text rest out out' stops laws ends = record {
  before = stops.before;
  last = stops.last;
  more = stops.more;
  script = stops.script;
  put = λ serving. stops.put a serving.0;
  lasts = lasts_of x m y a (stops.before ++ stops.last ∷ []) laws stops.ran ends;
}

pub events_by :
    (stop : Stop) (worst : Answer) (status : Status) (x m y : View) (a : FlatArray) (text rest out out' : List ℕ)
    → status ≡ status_by stop worst
    → ServesEvents stop x m text rest out out' worst
    → IsLawful y
    → Ends m y
    → EventsOutcome status (IsServing x a) x.bay.traced x.bay y.bay (moment_of x) a text rest out out'
events_by stop worst status x m y a text rest out out' is stops laws ends =
    subst (λ s. EventsOutcome s (IsServing x a) x.bay.traced x.bay y.bay (moment_of x) a text rest out out') (sym is)
    (events_of stop worst x m y a text rest out out' stops laws ends)

-- ---- a script that grew the pool

-- the worst answer counts only where all lines were answered
status_same : (stop : Stop) (all worst : Answer) → (stop ≢ SinkFault → all ≡ worst) → status_by stop all ≡ status_by stop worst
status_same AtQuit all worst same = ap (status_by AtQuit) (same (λ is. cc))
status_same Input all worst same = ap (status_by Input) (same (λ is. cc))
status_same SourceFault all worst same = refl
status_same AtLimit all worst same = refl
status_same SinkFault all worst same = refl

-- the end of the pool after it
until_of :
    (x m y : View) (a : FlatArray) (lines : List Line) (worst : Answer) (Put : List ℕ → Type 0)
    → (grew : Grew x m lines worst Put)
    → IsLawful y
    → Ends m y
    → LastsUntil (IsServing x a) x.bay.traced x.bay y.bay (moment_of x) a grew.events grew.first grew.more grew.said grew.answer
until_of x m y a lines worst Put grew laws ends = record {
  last = grew.last;
  timeline =
      timeline_for (x.bay.traced × VolumeIs x a) (x.bay.traced × IsServing x a) y.bay.stops (moment_of x) a grew.events grew.last (λ is. (is.0, is.1.0)) (gone.timeline a);
  growing = grew.growing;
  grown = moment_of m;
  lines =
      along_for (x.shelf.told × x.bay.traced) (x.bay.traced × IsServing x a) grew.last (grew.first ∷ grew.more) grew.said grew.answer (moment_of m)
      (λ is. (is.1.0.shelf, is.0)) grew.grown;
  final = moment_of y;
  clock = refl;
  faults = λ d. refl;
  disks = refl;
  sectors = λ d. refl;
  held = λ d s. refl;
  ends =
      proceeds_to m y (x.bay.traced × IsServing x a) (λ place. ⊥) 1 (λ is. (grew.proceeds.told is.1.0.shelf, grew.proceeds.traced is.1.0.shelf is.0)) proceeds
      (λ place was now. elim (ends.marks place was now) [ inl rose ↦ inl rose | inr never ↦ absurd never ])
      ends.raises;
  kept = ends_at m y a ⊥ ⊥ grew.proceeds.fit (λ never. absurd never) (λ never. absurd never) ends laws;
  between = λ serving traced f on.
      subst (HoldsEach y.bay.stops (AreSerial f.state) (TargetsLand f) (HaveOwnAreas f) [] f (moment_of x) grew.events grew.last)
      (sym
      (steps_for (x.bay.traced × VolumeIs x a) (x.bay.traced × IsServing x a) y.bay.stops (moment_of x) a grew.events grew.last (λ is. (is.0, is.1.0)) (gone.timeline a)
      ∙ gone.steps_are a))
      (gone.between a serving traced f (begins_on x f on) (goes_run x f on));
}
  where
    proceeds : Proceeds m y
    proceeds = (continues_of m y ends.passes).proceeds

    gone : HasGone x y.bay.stops grew.events grew.last
    gone =
        gone_kept x m.bay.stops y.bay.stops grew.events grew.last
        (λ named traced k i until stopped.
        let before = grew.later named traced in
        proceeds.past (grew.proceeds.told named) (grew.proceeds.traced named traced) k i (omega (arith, before, until)) stopped)
        grew.gone

outcome_of :
    (stop : Stop) (worst : Answer) (x m y : View) (a : FlatArray) (text rest out out' : List ℕ)
    → Serves stop x m text rest out out' worst
    → IsLawful y
    → Ends m y
    → Outcome (status_by stop worst) (IsServing x a) x.bay.traced x.bay y.bay (moment_of x) a text rest out out'
outcome_of stop worst x m y a text rest out out' serves laws ends = elim serves [
  | inl events ↦ inl (events_of stop worst x m y a text rest out out' events laws ends)
  | inr grown ↦ inr (record {
    events = grown.grew.events;
    first = grown.grew.first;
    more = grown.grew.more;
    stop = stop;
    begun = subst (AreBegun stop text rest) grown.grew.lines_are grown.begun;
    answer = grown.grew.answer;
    status_is = ap (status_by stop) grown.grew.worst_is ∙ status_same stop grown.all worst grown.worst_is;
    said = grown.grew.said;
    put = λ serving. grown.grew.put a serving.0;
    lasts = until_of x m y a grown.lines grown.all (ArePut stop out out') grown.grew laws ends;
  })
]

pub outcome_by :
    (stop : Stop) (worst : Answer) (status : Status) (x m y : View) (a : FlatArray) (text rest out out' : List ℕ)
    → status ≡ status_by stop worst
    → Serves stop x m text rest out out' worst
    → IsLawful y
    → Ends m y
    → Outcome status (IsServing x a) x.bay.traced x.bay y.bay (moment_of x) a text rest out out'
outcome_by stop worst status x m y a text rest out out' is stops laws ends =
    subst (λ s. Outcome s (IsServing x a) x.bay.traced x.bay y.bay (moment_of x) a text rest out out') (sym is)
    (outcome_of stop worst x m y a text rest out out' stops laws ends)

-- ---- the status

cause_of :
    (stop : Stop) (worst : Answer) (source source' sink sink' : ℕ)
    → HasStopCause stop source source' sink sink'
    → HasStatusCause (status_by stop worst) source source' sink sink'
cause_of AtQuit Refuses source source' sink sink' cause = tt
cause_of AtQuit Given source source' sink sink' cause = tt
cause_of AtQuit Wants source source' sink sink' cause = tt
cause_of Input Refuses source source' sink sink' cause = tt
cause_of Input Given source source' sink sink' cause = tt
cause_of Input Wants source source' sink sink' cause = tt
cause_of SourceFault worst source source' sink sink' cause = cause
cause_of AtLimit worst source source' sink sink' cause = tt
cause_of SinkFault worst source source' sink sink' cause = cause

pub status_cause :
    (stop : Stop) (worst : Answer) (status : Status) (source source' sink sink' : ℕ)
    → status ≡ status_by stop worst
    → HasStopCause stop source source' sink sink'
    → HasStatusCause status source source' sink sink'
status_cause stop worst status source source' sink sink' is cause =
    subst (λ s. HasStatusCause s source source' sink sink') (sym is) (cause_of stop worst source source' sink sink' cause)

pub status_limit : (stop : Stop) (worst : Answer) (status : Status) → status ≡ status_by stop worst → stop ≡ AtLimit → status ≡ Limit
status_limit stop worst status is at = is ∙ ap (λ s. status_by s worst) at

limit_of : (stop : Stop) (worst : Answer) → status_by stop worst ≡ Limit → stop ≡ AtLimit
limit_of AtQuit Refuses is = absurd (let wrong = is in cc)
limit_of AtQuit Given is = absurd (let wrong = is in cc)
limit_of AtQuit Wants is = absurd (let wrong = is in cc)
limit_of Input Refuses is = absurd (let wrong = is in cc)
limit_of Input Given is = absurd (let wrong = is in cc)
limit_of Input Wants is = absurd (let wrong = is in cc)
limit_of SourceFault worst is = absurd (let wrong = is in cc)
limit_of AtLimit worst is = refl
limit_of SinkFault worst is = absurd (let wrong = is in cc)

pub limit_status : (stop : Stop) (worst : Answer) (status : Status) → status ≡ status_by stop worst → status ≡ Limit → stop ≡ AtLimit
limit_status stop worst status is at = limit_of stop worst (sym is ∙ at)

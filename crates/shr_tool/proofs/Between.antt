-- What a stop between two lines and inside a line leaves holds a sound pool again: at a view, after one event more, and seen after calls more.
use Rattle.std.proofs.Common.{◌≡◌, ℕ, ◌<◌, ◌≤◌, true, false, List, [], ◌∷◌, ◌++◌, Option, append_assoc, sym, ◌∙◌, ap, subst, inl, inr, arith}
use Rattle.std.proofs.lemmas.List.{append-nil}
use Rattle.rack.specs.Moments.{IsSound}
use Rattle.rack.specs.Seen.{Image, IsPick}
use Rattle.slice_rack.specs.Sliced.{slices_of}
use Rattle.flat_array.specs.Array.{FlatArray}
use Rattle.lvm_group.specs.Runs.{Linear}
use Rattle.array_core.specs.TruthHeld.{HoldTruth}
use Rattle.raid_laws.specs.Raid.{IsTracked, is_failed}
use Rattle.pool_image.specs.Drives.{Found}
use Rattle.pool.specs.Calls.{CallFrame}
use Rattle.pool.specs.Continuing.{Continues}
use Rattle.pool.specs.Moment.{Moment, moment_of}
use Rattle.pool.specs.View.{View, book, slices_shown}
use Rattle.pool.specs.Volume.{VolumeIs}
use Rattle.pool_model.specs.Grouped.{AreHeadsLive, HoldGroup}
use Rattle.shr_tool.specs.Between.{HoldsEach, HoldsInside, HoldsNext, HoldsThen, HoldsWithin}
use Rattle.shr_tool.specs.Events.{Event, any_takes, becomes}
use Rattle.shr_tool.specs.Events.Event.{answered, spent, lost, last, replaced, declined, stepped, stuck, shown}
use Rattle.shr_tool.specs.Heads.{KeepsHeads}
use Rattle.shr_tool.specs.Service.{AreFit, BeginsOn, GoesBy, IsServed, Lone, pool_after, pool_by}
use Rattle.shr_tool.specs.Serving.{IsServing}
use Rattle.shr_tool.specs.Timeline.{Steps, Timeline, steps_of}
use Rattle.shr_tool.proofs.Chains.{steps_more}
use Rattle.shr_tool.proofs.Heads.{heads_group}
use Rattle.shr_tool.proofs.Meanwhile.{meanwhile_passes}
use Rattle.shr_tool.proofs.Serviced.{goes_again}

-- each of the volume's arrays is told after calls, where no drive was to be replaced or a sector of the volume can be had
pub told_after :
    (x y : View) (a b : FlatArray) (events : List Event)
    → (any_takes events ≡ false → CallFrame x y)
    → IsServing x a
    → VolumeIs y b
    → IsServed (moment_of y) events
    → (n : ℕ) → n < y.linear.arrays → IsTracked (book y) (slices_of y.slices y.bay) n
told_after x y a b events passes serving holds (inl none) n inside = (passes none).stays.told 0 serving.1 n inside
told_after x y a b events passes serving holds (inr some) n inside = holds.told some.0 (subst (λ k. some.0 < k) (sym holds.size) some.1) some.2 n inside

-- a pool by which the run goes still, which began on arrays with its group
module _ {L G : Type 0} {o : Option Lone} (x y : View) (a b : FlatArray) (events : List Event) (f : Found) (continues : Continues x y) (passes : any_takes events ≡ false → CallFrame x y)
    (heads : KeepsHeads (book x) (book y) (slices_shown x) (slices_shown y)) (serving : IsServing x a) (holds : VolumeIs y b) (begins : BeginsOn G x)
    (served : IsServed (moment_of y) events) (goes : GoesBy L o f y) where
  arrays : f.state.made ≡ x.linear.arrays
  arrays = sym goes.arrays ∙ ap (λ (l : Linear). l.arrays) continues.linear

  -- as many arrays are ready for the volume as it had
  pub joined_now : (n : ℕ) → n < (book x).state.joined → n < x.linear.arrays
  joined_now n low =
      let all = begins.joined in
      let made = heads.made in
      let last = goes.service.after.same.made in
      let same = arrays in
      omega (arith, low, all, made, last, same)

  pub made_now : (n : ℕ) → n < (book x).state.joined → n < (book x).state.made
  made_now n low = (let all = begins.joined in omega (arith, low, all))

  pub told_now : (n : ℕ) → n < f.state.made → IsTracked (book y) (slices_shown y) n
  told_now n low = told_after x y a b events passes serving holds served n (subst (λ k. n < k) (sym goes.arrays) low)

  truths_now : (n : ℕ) → n < f.state.made → HoldTruth ((book y).arrays n) (slices_shown y)
  truths_now n low =
      let less : n < (book x).state.made = (let made = heads.made in let last = goes.service.after.same.made in omega (arith, low, made, last)) in
      heads.truths n less (begins.truths n less)

  pub group_now : G → AreHeadsLive (book y) → HoldGroup (book y) y.linear (slices_shown y)
  group_now says alive =
      subst (λ (l : Linear). HoldGroup (book y) l (slices_shown y)) (sym continues.linear)
      (heads_group (book x) (book y) x.linear (slices_shown x) (slices_shown y) heads made_now (λ n low. serving.1 n (joined_now n low)) alive (begins.group says))

  pub next_now : ((n : ℕ) → n < f.state.made → is_failed (book y) n ≡ false) → (i : Image) → IsPick y.bay y.bay y.bay.held i → HoldsNext L G f y.slices y.linear (book y) i
  next_now lasts i pick = goes_again y f y.linear continues.proceeds.fit goes told_now lasts truths_now group_now i pick

-- a stop now leaves values that the disks hold, so the pool by which the run goes
pub holds_then :
    {L G : Type 0} {o : Option Lone} (x y : View) (a b : FlatArray) (events : List Event) (Serial : Type 0) (f : Found)
    → Continues x y
    → (any_takes events ≡ false → CallFrame x y)
    → KeepsHeads (book x) (book y) (slices_shown x) (slices_shown y)
    → IsServing x a
    → VolumeIs y b
    → BeginsOn G x
    → x.bay.traced
    → (y.bay.fit → y.bay.traced → IsSound y.bay)
    → (IsServed (moment_of y) events → (any_takes events ≡ true → Serial) → GoesBy L o f y)
    → HoldsThen y.bay.stops Serial L G events f (moment_of y)
holds_then x y a b events Serial f continues passes heads serving holds begins traced sound goes = λ served serial lasts i stopped.
    next_now x y a b events f continues passes heads serving holds begins served (goes served serial) lasts i
    ((sound continues.proceeds.fit.0.running.set.fit.0 (continues.proceeds.traced serving.0.shelf traced)).only_held i stopped)

-- a stop inside calls that take no disk leaves what holds the pool still
pub holds_inside :
    {L G : Type 0} {o : Option Lone} (x y z : View) (a b : FlatArray) (events : List Event) (Serial : Type 0) (f : Found)
    → Continues x y
    → (any_takes events ≡ false → CallFrame x y)
    → KeepsHeads (book x) (book y) (slices_shown x) (slices_shown y)
    → IsServing x a
    → VolumeIs y b
    → BeginsOn G x
    → x.bay.traced
    → CallFrame y z
    → (IsServed (moment_of y) events → (any_takes events ≡ true → Serial) → GoesBy L o f y)
    → HoldsInside z.bay.stops Serial L G events f (moment_of y) (moment_of z)
holds_inside x y z a b events Serial f continues passes heads serving holds begins traced calls goes = λ served serial lands lasts k i since until stopped.
    let going = goes served serial in
    let told = told_now x y a b events f continues passes heads serving holds begins served going in
    let truths = truths_now x y a b events f continues passes heads serving holds begins served going in
    let group = group_now x y a b events f continues passes heads serving holds begins served going in
    meanwhile_passes y z f y.linear continues.proceeds.fit calls going lands told lasts truths group (continues.proceeds.traced serving.0.shelf traced) k i since until stopped

-- ---- in a row

-- moments never fall
pub timeline_order :
    (Traced : Type 0) (stops : ℕ → Image → Type 0) (p : Moment) (a : FlatArray) (events : List Event) (q : Moment)
    → Traced
    → Timeline Traced stops p a events q
    → p.clock ≤ q.clock
timeline_order Traced stops p a [] q traced same = subst (λ (m : Moment). p.clock ≤ m.clock) same (omega arith)
timeline_order Traced stops p a (event ∷ events) q traced line =
    let rest = timeline_order Traced stops line.0 (becomes a event) events q traced line.2 in
    let later = line.1.later traced in
    omega arith

then_kept :
    (old new : ℕ → Image → Type 0) (Serial Landing Group : Type 0) (done : List Event) (f : Found) (p : Moment)
    → ((i : Image) → new p.clock i → old p.clock i) → HoldsThen old Serial Landing Group done f p → HoldsThen new Serial Landing Group done f p
then_kept old new Serial Landing Group done f p past holds = λ served serial lasts i stopped. holds served serial lasts i (past i stopped)

inside_kept :
    (old new : ℕ → Image → Type 0) (Serial Landing Group : Type 0) (done : List Event) (f : Found) (p q : Moment)
    → ((k : ℕ) (i : Image) → k ≤ q.clock → new k i → old k i) → HoldsInside old Serial Landing Group done f p q → HoldsInside new Serial Landing Group done f p q
inside_kept old new Serial Landing Group done f p q past holds = λ served serial lands lasts k i since until stopped.
    holds served serial lands lasts k i since until (past k i until stopped)

within_kept :
    (old new : ℕ → Image → Type 0) (Serial Landing Group : Type 0) (done : List Event) (f : Found) (p q : Moment) (event : Event)
    → ((k : ℕ) (i : Image) → k ≤ q.clock → new k i → old k i) → HoldsWithin old Serial Landing Group done f p q event → HoldsWithin new Serial Landing Group done f p q event
within_kept old new Serial Landing Group done f p q (answered line) past holds = inside_kept old new Serial Landing Group done f p q past holds
within_kept old new Serial Landing Group done f p q (spent line sector) past holds = inside_kept old new Serial Landing Group done f p q past holds
within_kept old new Serial Landing Group done f p q (lost place) past holds = inside_kept old new Serial Landing Group done f p q past holds
within_kept old new Serial Landing Group done f p q (last place) past holds = inside_kept old new Serial Landing Group done f p q past holds
within_kept old new Serial Landing Group done f p q (replaced place name) past holds = λ served serial lands fit waits lasts k i since until stopped.
    holds served serial lands fit waits lasts k i since until (past k i until stopped)
within_kept old new Serial Landing Group done f p q (declined place name fault) past holds = (
  λ none. inside_kept old new Serial Landing Group done f p q past (holds.0 none),
  λ looks served serial lands waits lasts k i since until stopped. holds.1 looks served serial lands waits lasts k i since until (past k i until stopped),
)
within_kept old new Serial Landing Group done f p q (stepped count left) past holds = inside_kept old new Serial Landing Group done f p q past holds
within_kept old new Serial Landing Group done f p q (stuck count array) past holds = inside_kept old new Serial Landing Group done f p q past holds
within_kept old new Serial Landing Group done f p q (shown text) past holds = inside_kept old new Serial Landing Group done f p q past holds

-- later calls leave the past as it was
pub each_kept :
    (Traced : Type 0) (old new : ℕ → Image → Type 0) (Serial Landing Group : Type 0) (limit : ℕ)
    → Traced
    → ((k : ℕ) (i : Image) → k ≤ limit → new k i → old k i)
    → (done : List Event) (f : Found) (p : Moment) (a : FlatArray) (events : List Event) (q : Moment)
    → q.clock ≤ limit
    → (line : Timeline Traced old p a events q)
    → HoldsEach old Serial Landing Group done f p events q (steps_of Traced old p a events q line)
    → HoldsEach new Serial Landing Group done f p events q (steps_of Traced old p a events q line)
each_kept Traced old new Serial Landing Group limit traced past done f p a [] q within line holds =
    let order = timeline_order Traced old p a [] q traced line in
    then_kept old new Serial Landing Group done f p (λ i. past p.clock i (omega arith)) holds
each_kept Traced old new Serial Landing Group limit traced past done f p a (event ∷ events) q within line holds =
    let order = timeline_order Traced old p a (event ∷ events) q traced line in
    let rest = timeline_order Traced old line.0 (becomes a event) events q traced line.2 in (
      then_kept old new Serial Landing Group done f p (λ i. past p.clock i (omega arith)) holds.0,
      within_kept old new Serial Landing Group done f p line.0 event (λ k i until. past k i (omega (arith, until, rest, within))) holds.1,
      λ fit.
          each_kept Traced old new Serial Landing Group limit traced past (done ++ event ∷ []) (pool_after f p line.0 event) line.0 (becomes a event) events q within line.2
          (holds.2 fit),
    )

-- one event more
pub each_more :
    (stops : ℕ → Image → Type 0) (Serial Landing Group : Type 0) (done : List Event) (f : Found) (p : Moment) (events : List Event) (mid : Moment)
    (event : Event) (q : Moment) (steps : Steps p events mid)
    → HoldsEach stops Serial Landing Group done f p events mid steps
    → (AreFit f p events mid steps → HoldsWithin stops Serial Landing Group (done ++ events) (pool_by f p events mid steps) mid q event)
    → (AreFit f p (events ++ event ∷ []) q (steps_more p events mid event q steps)
    → HoldsThen stops Serial Landing Group (done ++ (events ++ event ∷ [])) (pool_by f p (events ++ event ∷ []) q (steps_more p events mid event q steps)) q)
    → HoldsEach stops Serial Landing Group done f p (events ++ event ∷ []) q (steps_more p events mid event q steps)
each_more stops Serial Landing Group done f p [] mid event q steps holds inside ends = (
  holds,
  subst (λ (m : Moment). HoldsWithin stops Serial Landing Group done f m q event) (sym steps)
      (subst (λ (all : List Event). HoldsWithin stops Serial Landing Group all f mid q event) (append-nil done) (inside tt)),
  λ fit. ends (fit, tt),
)
each_more stops Serial Landing Group done f p (first ∷ events) mid event q steps holds inside ends = (
  holds.0,
  holds.1,
  λ fit.
      let after = pool_after f p steps.0 first in
      each_more stops Serial Landing Group (done ++ first ∷ []) after steps.0 events mid event q steps.1 (holds.2 fit)
      (λ rest.
      subst (λ (all : List Event). HoldsWithin stops Serial Landing Group all (pool_by after steps.0 events mid steps.1) mid q event)
      (sym (append_assoc done (first ∷ []) events)) (inside (fit, rest)))
      (λ rest.
      subst
      (λ (all : List Event). HoldsThen stops Serial Landing Group all (pool_by after steps.0 (events ++ event ∷ []) q (steps_more steps.0 events mid event q steps.1)) q)
      (sym (append_assoc done (first ∷ []) (events ++ event ∷ []))) (ends (fit, rest))),
)

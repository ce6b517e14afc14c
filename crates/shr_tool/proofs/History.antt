-- What a script's answering has done so far, and what one line more does.
use Rattle.std.proofs.Common.{◌≡◌, ◌⊎◌, ℕ, ◌<◌, ◌≤◌, true, false, List, [], ◌∷◌, ◌++◌, length, Option, Some, None, append_assoc, refl, sym, ◌∙◌, ap, subst, inl, inr, arith}
use Rattle.std.proofs.lemmas.Bool.{cases_Bool}
use Rattle.std.proofs.lemmas.List.{append-nil}
use Rattle.std.proofs.lemmas.Option.{none-some}
use Rattle.array_core.proofs.Stripped.{some_same}
use Rattle.rack.specs.Moments.{IsSound}
use Rattle.slice_rack.specs.Slices.{IsOrderly}
use Rattle.shr_script.specs.Line.{Line}
use Rattle.flat_array.specs.Array.{FlatArray}
use Rattle.shr_script.specs.Script.{script_of, cut_script_of}
use Rattle.pool.specs.View.{View, book, slices_shown, volume}
use Rattle.pool.specs.Volume.{VolumeIs}
use Rattle.pool.specs.Calls.{CallFrame}
use Rattle.raid_laws.specs.Raid.{Raid}
use Rattle.pool.specs.Keeping.{Raises}
use Rattle.pool.specs.Continuing.{Continues, KeepsOutside}
use Rattle.shr_tool.specs.declared.perform.Answer.{Answer}
use Rattle.shr_tool.specs.declared.perform.Answer.TheVariants.{Given}
use Rattle.shr_tool.specs.Events.{AnyTakes, Event, Takes, any_takes, array_by, calls_in, line_of, lines_of, takes_disk, text_of, texts, worst_of}
use Rattle.pool.specs.Moment.{moment_of}
use Rattle.shr_tool.specs.Timeline.{KeepsBookIn, KeepsSlices, KeepsStanding, EventContract, LineContract, Timeline, steps_of}
use Rattle.shr_tool.specs.Between.{HaveOthers, HoldsEach}
use Rattle.shr_tool.specs.Heads.{KeepsHeads}
use Rattle.shr_tool.specs.Service.{AreFit, AreLone, BeginsOn, GoesBy, GoesOn, IsFitFor, IsLoneFor, IsServed, Lone, none_out, pool_by}
use Rattle.assembler.specs.Sound.{TargetsLand}
use Rattle.pool_image.specs.Drives.{Found}
use Rattle.pool_model.specs.Grouped.{HaveOwnAreas}
use Rattle.pool_model.specs.Taken.{AreSerial}
use Rattle.shr_tool.proofs.Between.{each_kept, each_more, holds_then}
use Rattle.shr_tool.proofs.Chains.{fit_parts, lone_parts, pool_by-snoc, steps_more}
use Rattle.shr_tool.proofs.Heads.{heads_performed, heads_same, heads_then}
use Rattle.shr_tool.proofs.Others.{have_kept, have_more, others_performed}
use Rattle.shr_tool.proofs.Serial.{serial_performed}
use Rattle.shr_tool.proofs.Serviced.{goes_performed, served_first, served_last}
use Rattle.shr_tool.specs.Serving.{Answered, Answers, Grew, IsServing, Ran}
use Rattle.pool.proofs.Continuing.{continues_same, continues_then, outside_fewer, outside_of, outside_then}
use Rattle.shr_tool.proofs.Timelines.{array_by-snoc, steps_added, steps_kept, texts-snoc, timeline_kept, timeline_more}
use Rattle.shr_tool.proofs.Within.{holds_within}
use Rattle.shr_tool.proofs.Missing.{missing_performed}
use Rattle.shr_tool.proofs.Taking.{any_takes_before, any_takes_last, named_by, none_takes, takes_first, takes_last}
use Rattle.pool.proofs.Booked.{book_seated}
use Rattle.pool.proofs.Keeping.{passes_same, passes_then}

-- ---- what a pool did

-- what so many calls do to the book
pub standing : (x y : View) (Keeps : Raid → Raid → Type 0) (calls : ℕ) → (volume y).fit → Keeps (book x) (book y) → Raises calls x y
    → KeepsStanding Keeps calls (moment_of x) (moment_of y)
standing x y Keeps calls fit keeps raises =
    record { raises = raises; keeps = keeps; seated = book_seated (book y) (slices_shown y) fit.0.running.set fit.0.heeded }

-- what they do to the bay
pub slices_kept : (x y : View) → CallFrame x y → KeepsSlices (moment_of x) (moment_of y)
slices_kept x y passes = record { slices = passes.slices; names = passes.shelf.names; ready = passes.shelf.ready }

-- no sector of a bay's disks is spent
abbrev pub IsUnspent : View → Type 0
IsUnspent x = (d s : ℕ) → x.bay.spent d s ≡ false

-- nor is one ever, what a stop leaves at any moment are values that the disks hold then, and slices don't overlap
abbrev pub IsLawful : View → Type 0
IsLawful x = IsUnspent x × (x.bay.fit → x.bay.traced → IsSound x.bay) × IsOrderly x.slices

outside_by : (x y : View) (event : Event) (text : List ℕ) → IsUnspent y → LineContract x y event text
    → KeepsOutside x.slices y.slices (Takes y.shelf.names event) x.shelf.told x.bay y.bay
outside_by x y event text unspent performs =
    elim (cases_Bool (takes_disk event)) [
      | inl takes ↦ performs.outside takes
      | inr none ↦ outside_of x y (Takes y.shelf.names event) (performs.passes none) unspent
    ]

-- a line that was done is an event
pub performed :
    (x y : View) (event : Event) (text : List ℕ) (Traced : Type 0) (a : FlatArray)
    → (volume x).fit
    → LineContract x y event text
    → IsLawful y
    → (Traced → x.bay.traced)
    → (Traced → VolumeIs x a)
    → EventContract Traced y.bay.stops (moment_of x) (moment_of y) a event
performed x y event text Traced a fit performs laws traced holds = record {
  later = λ told. performs.continues.proceeds.later (holds told).shelf (traced told);
  still = performs.still;
  cause = performs.cause;
  linear = performs.continues.linear;
  disks = performs.continues.proceeds.disks;
  held = λ told d s low within untaken unsliced.
      (outside_by x y event text laws.0 performs).held d s
      (record { disk = low; sector = within; is_told = (holds told).disks d low; unnamed = untaken; unsliced = unsliced });
  named = λ told takes. named_by x y event (performs.changes takes) (holds told).shelf (holds told).disks;
  missing = λ told. missing_performed x y event text fit performs laws.2 laws.0 (holds told).disks;
  slices = λ none. slices_kept x y (performs.passes none);
  marks = performs.marks;
  stands = standing x y (KeepsBookIn event) (calls_in (line_of event)) performs.continues.proceeds.fit performs.keeps performs.raises;
  works = performs.works;
  during = λ told. performs.leaves (traced told) a (holds told);
  ended = λ told. performs.ends (traced told) a (holds told);
}

-- what was done before, seen after calls more
pub ran_before :
    (x y z : View) (events : List Event) (a : FlatArray)
    → Ran x y events
    → Continues y z
    → Timeline (x.bay.traced × VolumeIs x a) z.bay.stops (moment_of x) a events (moment_of y)
ran_before x y z events a ran continues =
    timeline_kept (x.bay.traced × VolumeIs x a) y.bay.stops z.bay.stops y.bay.clock
    (λ told. continues.proceeds.past (ran.continues.proceeds.told told.1.shelf) (ran.continues.proceeds.traced told.1.shelf told.0))
    (moment_of x) a events (moment_of y)
    (omega arith)
    (ran.timeline a)

pub steps_before :
    (x y z : View) (events : List Event) (a : FlatArray) (ran : Ran x y events) (continues : Continues y z)
    → steps_of (x.bay.traced × VolumeIs x a) z.bay.stops (moment_of x) a events (moment_of y) (ran_before x y z events a ran continues) ≡ ran.steps
unfolding ran_before
steps_before x y z events a ran continues =
    steps_kept (x.bay.traced × VolumeIs x a) y.bay.stops z.bay.stops y.bay.clock
    (λ told. continues.proceeds.past (ran.continues.proceeds.told told.1.shelf) (ran.continues.proceeds.traced told.1.shelf told.0))
    (moment_of x) a events (moment_of y)
    (omega arith)
    (ran.timeline a)
    ∙ ran.steps_are a

-- and what stops left between the lines and inside them
pub each_before :
    (x y z : View) (events : List Event) (a : FlatArray) (f : Found) (ran : Ran x y events)
    → Continues y z
    → IsServing x a
    → x.bay.traced
    → BeginsOn (HaveOwnAreas f) x
    → GoesBy (TargetsLand f) None f x
    → HoldsEach z.bay.stops (AreSerial f.state) (TargetsLand f) (HaveOwnAreas f) [] f (moment_of x) events (moment_of y) ran.steps
each_before x y z events a f ran continues serving traced begins goes =
    let each = HoldsEach y.bay.stops (AreSerial f.state) (TargetsLand f) (HaveOwnAreas f) [] f (moment_of x) events (moment_of y) in
    let later = HoldsEach z.bay.stops (AreSerial f.state) (TargetsLand f) (HaveOwnAreas f) [] f (moment_of x) events (moment_of y) in
    subst later (ran.steps_are a)
    (each_kept (x.bay.traced × VolumeIs x a) y.bay.stops z.bay.stops (AreSerial f.state) (TargetsLand f) (HaveOwnAreas f) y.bay.clock (traced, serving.0)
    (continues.proceeds.past (ran.continues.proceeds.told serving.0.shelf) (ran.continues.proceeds.traced serving.0.shelf traced))
    [] f (moment_of x) a events (moment_of y) (omega arith) (ran.timeline a)
    (subst each (sym (ran.steps_are a)) (ran.between a serving traced f begins goes)))

-- and that no other disk had the id of a drive that was taken in
pub others_before :
    (x y z : View) (events : List Event) (a : FlatArray) (f : Found) (ran : Ran x y events)
    → Continues y z
    → VolumeIs x a
    → x.bay.traced
    → HaveOthers y.bay.stops f (moment_of x) events (moment_of y) ran.steps
    → HaveOthers z.bay.stops f (moment_of x) events (moment_of y) ran.steps
others_before x y z events a f ran continues holds traced have =
    subst (HaveOthers z.bay.stops f (moment_of x) events (moment_of y)) (ran.steps_are a)
    (have_kept (x.bay.traced × VolumeIs x a) y.bay.stops z.bay.stops y.bay.clock (traced, holds)
    (continues.proceeds.past (ran.continues.proceeds.told holds.shelf) (ran.continues.proceeds.traced holds.shelf traced))
    f (moment_of x) a events (moment_of y) (omega arith) (ran.timeline a)
    (subst (HaveOthers y.bay.stops f (moment_of x) events (moment_of y)) (sym (ran.steps_are a)) have))

-- nothing is done yet
pub ran_none : (x : View) → (volume x).fit → IsLawful x → Ran x x []
ran_none x fit laws = record {
  fit = fit;
  continues = continues_same x fit;
  passes = λ none. passes_same x fit;
  outside = outside_of x x (AnyTakes x.shelf.names []) (passes_same x fit) laws.0;
  holds = λ a holds. holds;
  timeline = λ a. refl;
  steps = refl;
  steps_are = λ a. refl;
  service = λ a holds served f goes serials fit. record { goes = goes; serials = λ serial. serial };
  lone = λ a holds served f l goes early serials fit lone. record { goes = goes; serials = λ serial. serial };
  others = λ a holds traced served f bound goes early serials fit lone. tt;
  heads = λ names all. heads_same (book x) (slices_shown x);
  between = λ a serving traced f begins goes.
      holds_then x x a a [] (AreSerial f.state) f (continues_same x fit) (λ none. passes_same x fit) (heads_same (book x) (slices_shown x)) serving serving.0 begins traced laws.1
      (λ served serials. goes);
}

-- ---- one event more of a run

passes_more : (x y z : View) (events : List Event) (event : Event) (text : List ℕ) → Ran x y events → LineContract y z event text
    → any_takes (events ++ event ∷ []) ≡ false → CallFrame x z
passes_more x y z events event text ran performs none =
    let parts = none_takes events event none in
    passes_then x y z (ran.passes parts.0) (performs.passes parts.1)

holds_more : (x y z : View) (events : List Event) (event : Event) (text : List ℕ) (a : FlatArray) → Ran x y events → LineContract y z event text
    → VolumeIs x a → VolumeIs z (array_by a (events ++ event ∷ []))
holds_more x y z events event text a ran performs holds =
    subst (λ b. VolumeIs z b) (sym (array_by-snoc a events event)) (performs.holds (array_by a events) (ran.holds a holds))

-- the pool after one event more
on_more :
    {o : Option Lone} (x y z : View) (events : List Event) (event : Event) (text : List ℕ) (a : FlatArray) (f : Found)
    → IsUnspent z
    → (ran : Ran x y events)
    → LineContract y z event text
    → VolumeIs x a
    → IsServed (moment_of z) (events ++ event ∷ [])
    → (any_takes (events ++ event ∷ []) ≡ true → AreSerial f.state)
    → IsFitFor (pool_by f (moment_of x) events (moment_of y) ran.steps) (moment_of y) event
    → ((l : Lone) → o ≡ Some l → IsLoneFor (pool_by f (moment_of x) events (moment_of y) ran.steps) l (moment_of y) (moment_of z) event)
    → ((l : Lone) → o ≡ Some l → (book z).state.serial ≤ l.bound)
    → GoesOn (TargetsLand f) o f (pool_by f (moment_of x) events (moment_of y) ran.steps) y
    → GoesOn (TargetsLand f) o f
    (pool_by f (moment_of x) (events ++ event ∷ []) (moment_of z) (steps_more (moment_of x) events (moment_of y) event (moment_of z) ran.steps)) z
on_more {o} x y z events event text a f unspent ran performs holds served serials fit lone early before =
    let after =
    goes_performed y z event text (array_by a events) unspent ran.continues.proceeds.fit performs (ran.holds a holds) (served_last y z events event performs.continues.linear served)
    (pool_by f (moment_of x) events (moment_of y) ran.steps) before.goes (λ takes. before.serials (serials (takes_last events event takes))) fit lone early in
    subst (λ h. GoesOn (TargetsLand f) o f h z) (sym (pool_by-snoc f (moment_of x) events (moment_of y) event (moment_of z) ran.steps))
    (record { goes = after.goes; serials = λ serial. after.serials (before.serials serial) })

-- a pool by which the run goes
service_more :
    (x y z : View) (events : List Event) (event : Event) (text : List ℕ) (a : FlatArray) (f : Found)
    → IsUnspent z
    → (ran : Ran x y events)
    → LineContract y z event text
    → VolumeIs x a
    → IsServed (moment_of z) (events ++ event ∷ [])
    → GoesBy (TargetsLand f) None f x
    → (any_takes (events ++ event ∷ []) ≡ true → AreSerial f.state)
    → AreFit f (moment_of x) (events ++ event ∷ []) (moment_of z) (steps_more (moment_of x) events (moment_of y) event (moment_of z) ran.steps)
    → GoesOn (TargetsLand f) None f (pool_by f (moment_of x) (events ++ event ∷ []) (moment_of z) (steps_more (moment_of x) events (moment_of y) event (moment_of z) ran.steps)) z
service_more x y z events event text a f unspent ran performs holds served goes serials fit =
    let parts = fit_parts f (moment_of x) events (moment_of y) event (moment_of z) ran.steps fit in
    on_more x y z events event text a f unspent ran performs holds served serials parts.1 (λ l none. absurd (none-some l none)) (λ l none. absurd (none-some l none))
    (ran.service a holds (served_first y z events event text performs served) f goes (λ takes. serials (takes_first events event takes)) parts.0)

-- one that stands alone on its disks
lone_more :
    (x y z : View) (events : List Event) (event : Event) (text : List ℕ) (a : FlatArray) (f : Found) (l : Lone)
    → IsUnspent z
    → (ran : Ran x y events)
    → LineContract y z event text
    → VolumeIs x a
    → IsServed (moment_of z) (events ++ event ∷ [])
    → GoesBy (TargetsLand f) (Some l) f x
    → (book z).state.serial ≤ l.bound
    → (any_takes (events ++ event ∷ []) ≡ true → AreSerial f.state)
    → AreFit f (moment_of x) (events ++ event ∷ []) (moment_of z) (steps_more (moment_of x) events (moment_of y) event (moment_of z) ran.steps)
    → AreLone f l (moment_of x) (events ++ event ∷ []) (moment_of z) (steps_more (moment_of x) events (moment_of y) event (moment_of z) ran.steps)
    → GoesOn (TargetsLand f) (Some l) f
    (pool_by f (moment_of x) (events ++ event ∷ []) (moment_of z) (steps_more (moment_of x) events (moment_of y) event (moment_of z) ran.steps)) z
lone_more x y z events event text a f l unspent ran performs holds served goes early serials fit lone =
    let parts = fit_parts f (moment_of x) events (moment_of y) event (moment_of z) ran.steps fit in
    let lones = lone_parts f l (moment_of x) events (moment_of y) event (moment_of z) ran.steps lone in
    let pool = pool_by f (moment_of x) events (moment_of y) ran.steps in
    let up = serial_performed y z event text performs in
    on_more x y z events event text a f unspent ran performs holds served serials parts.1
    (λ k same. subst (λ k. IsLoneFor pool k (moment_of y) (moment_of z) event) (some_same l k same) lones.1)
    (λ k same. subst (λ (k : Lone). (book z).state.serial ≤ k.bound) (some_same l k same) early)
    (ran.lone a holds (served_first y z events event text performs served) f l goes (omega (arith, up, early))
    (λ takes. serials (takes_first events event takes)) parts.0 lones.0)

-- and no other disk has the id of a drive that it took in
others_more :
    (x y z : View) (events : List Event) (event : Event) (text : List ℕ) (a : FlatArray) (f : Found) (bound : ℕ)
    → IsUnspent z
    → (ran : Ran x y events)
    → LineContract y z event text
    → VolumeIs x a
    → x.bay.traced
    → IsServed (moment_of z) (events ++ event ∷ [])
    → GoesBy (TargetsLand f) (Some (none_out bound)) f x
    → (book z).state.serial ≤ bound
    → (any_takes (events ++ event ∷ []) ≡ true → AreSerial f.state)
    → AreFit f (moment_of x) (events ++ event ∷ []) (moment_of z) (steps_more (moment_of x) events (moment_of y) event (moment_of z) ran.steps)
    → AreLone f (none_out bound) (moment_of x) (events ++ event ∷ []) (moment_of z) (steps_more (moment_of x) events (moment_of y) event (moment_of z) ran.steps)
    → HaveOthers z.bay.stops f (moment_of x) (events ++ event ∷ []) (moment_of z) (steps_more (moment_of x) events (moment_of y) event (moment_of z) ran.steps)
others_more x y z events event text a f bound unspent ran performs holds traced served goes early serials fit lone =
    let parts = fit_parts f (moment_of x) events (moment_of y) event (moment_of z) ran.steps fit in
    let lones = lone_parts f (none_out bound) (moment_of x) events (moment_of y) event (moment_of z) ran.steps lone in
    let up = serial_performed y z event text performs in
    let sooner : (book y).state.serial ≤ bound = omega (arith, up, early) in
    let first = served_first y z events event text performs served in
    let serials_first : any_takes events ≡ true → AreSerial f.state = λ takes. serials (takes_first events event takes) in
    let before = ran.lone a holds first f (none_out bound) goes sooner serials_first parts.0 lones.0 in
    have_more z.bay.stops f (moment_of x) events (moment_of y) event (moment_of z) ran.steps
    (others_before x y z events a f ran performs.continues holds traced (ran.others a holds traced first f bound goes sooner serials_first parts.0 lones.0))
    (others_performed y z event text (array_by a events) unspent ran.continues.proceeds.fit performs (ran.holds a holds) (served_last y z events event performs.continues.linear served)
    (pool_by f (moment_of x) events (moment_of y) ran.steps) before.goes (λ takes. before.serials (serials (takes_last events event takes))) parts.1 early
    (ran.continues.proceeds.traced holds.shelf traced))

-- what the arrays hold before the volume's first extents stays
heads_more : (x y z : View) (events : List Event) (event : Event) (text : List ℕ) → Ran x y events → LineContract y z event text
    → x.shelf.told → ((d : ℕ) → d < x.bay.disks → x.bay.told d) → KeepsHeads (book x) (book z) (slices_shown x) (slices_shown z)
heads_more x y z events event text ran performs names all =
    heads_then (book x) (book y) (book z) (slices_shown x) (slices_shown y) (slices_shown z) (ran.heads names all)
    (heads_performed y z event text performs (ran.continues.proceeds.told names) (ran.continues.known names all))

-- what a stop inside the event and at its end leaves holds it
between_more :
    (x y z : View) (events : List Event) (event : Event) (text : List ℕ) (a : FlatArray) (f : Found)
    → IsLawful z
    → (ran : Ran x y events)
    → LineContract y z event text
    → IsServing x a
    → x.bay.traced
    → BeginsOn (HaveOwnAreas f) x
    → GoesBy (TargetsLand f) None f x
    → HoldsEach z.bay.stops (AreSerial f.state) (TargetsLand f) (HaveOwnAreas f) [] f (moment_of x) (events ++ event ∷ []) (moment_of z)
    (steps_more (moment_of x) events (moment_of y) event (moment_of z) ran.steps)
between_more x y z events event text a f laws ran performs serving traced begins goes =
    let all = events ++ event ∷ [] in
    let steps = steps_more (moment_of x) events (moment_of y) event (moment_of z) ran.steps in
    each_more z.bay.stops (AreSerial f.state) (TargetsLand f) (HaveOwnAreas f) [] f (moment_of x) events (moment_of y) event (moment_of z) ran.steps
    (each_before x y z events a f ran performs.continues serving traced begins goes)
    (λ fit.
    holds_within x y z a (array_by a events) events text (AreSerial f.state) (pool_by f (moment_of x) events (moment_of y) ran.steps) ran.continues ran.passes
    (ran.heads serving.0.shelf serving.0.disks) serving (ran.holds a serving.0) begins traced laws.0 (λ served serials. (ran.service a serving.0 served f goes serials fit).goes)
    (λ served serial. (ran.service a serving.0 served f goes (λ takes. serial) fit).serials serial) event performs)
    (λ fit.
    holds_then x z a (array_by a all) all (AreSerial f.state) (pool_by f (moment_of x) all (moment_of z) steps)
    (continues_then x y z ran.continues performs.continues) (passes_more x y z events event text ran performs)
    (heads_more x y z events event text ran performs serving.0.shelf serving.0.disks) serving
    (holds_more x y z events event text a ran performs serving.0) begins traced laws.1
    (λ served serials. (service_more x y z events event text a f laws.0 ran performs serving.0 served goes serials fit).goes))

pub ran_more :
    (x y z : View) (events : List Event) (event : Event) (text : List ℕ)
    → IsLawful z
    → Ran x y events
    → LineContract y z event text
    → Ran x z (events ++ event ∷ [])
ran_more x y z events event text laws ran performs = record {
  fit = ran.fit;
  continues = continues_then x y z ran.continues performs.continues;
  passes = passes_more x y z events event text ran performs;
  outside =
      outside_fewer x.slices z.slices (λ d. AnyTakes y.shelf.names events d ⊎ Takes z.shelf.names event d) (AnyTakes z.shelf.names (events ++ event ∷ []))
      x.shelf.told x.bay z.bay
      (λ d takes.
      elim takes [
        | inl before ↦ any_takes_before y.shelf.names z.shelf.names performs.continues.proceeds.disks.names events event d before
        | inr now ↦ any_takes_last z.shelf.names events event d now
      ])
      (outside_then x y z (AnyTakes y.shelf.names events) (Takes z.shelf.names event) ran.continues performs.continues ran.outside
      (outside_by y z event text laws.0 performs));
  holds = λ a holds. holds_more x y z events event text a ran performs holds;
  timeline =
      λ a.
      timeline_more (x.bay.traced × VolumeIs x a) z.bay.stops (moment_of x) a events (moment_of y) event (moment_of z)
      (ran_before x y z events a ran performs.continues)
      (performed y z event text (x.bay.traced × VolumeIs x a) (array_by a events) ran.continues.proceeds.fit performs laws
      (λ told. ran.continues.proceeds.traced told.1.shelf told.0)
      (λ told. ran.holds a told.1));
  steps = steps_more (moment_of x) events (moment_of y) event (moment_of z) ran.steps;
  steps_are =
      λ a.
      steps_added (x.bay.traced × VolumeIs x a) z.bay.stops (moment_of x) a events (moment_of y) event (moment_of z)
      (ran_before x y z events a ran performs.continues)
      (performed y z event text (x.bay.traced × VolumeIs x a) (array_by a events) ran.continues.proceeds.fit performs laws
      (λ told. ran.continues.proceeds.traced told.1.shelf told.0)
      (λ told. ran.holds a told.1))
      ∙ ap (steps_more (moment_of x) events (moment_of y) event (moment_of z)) (steps_before x y z events a ran performs.continues);
  service = λ a holds served f goes serials fit. service_more x y z events event text a f laws.0 ran performs holds served goes serials fit;
  lone = λ a holds served f l goes early serials fit lone. lone_more x y z events event text a f l laws.0 ran performs holds served goes early serials fit lone;
  others = λ a holds traced served f bound goes early serials fit lone.
      others_more x y z events event text a f bound laws.0 ran performs holds traced served goes early serials fit lone;
  heads = heads_more x y z events event text ran performs;
  between = λ a serving traced f begins goes. between_more x y z events event text a f laws ran performs serving traced begins goes;
}

-- one line more is answered
pub answered_more :
    (x y z : View) (events : List Event) (line : Line) (answer : Answer) (text out out' out'' : List ℕ)
    → IsLawful z
    → Answered x y events out out'
    → (more : Answers y z line answer text)
    → out'' ≡ out' ++ text
    → Answered x z (events ++ more.event ∷ []) out out''
answered_more x y z events line answer text out out' out'' laws answered more put =
    let event = more.event in
    record {
      ran = ran_more x y z events event text laws answered.ran more.performs;
      put =
          λ a holds.
          let told = more.performs.text_is (array_by a events) (answered.ran.holds a holds) in
          put
          ∙ (ap (λ bytes. bytes ++ text) (answered.put a holds)
          ∙ (ap (λ bytes. (out ++ texts a events) ++ bytes) told
          ∙ (append_assoc out (texts a events) (text_of (array_by a events) event)
          ∙ ap (λ bytes. out ++ bytes) (sym (texts-snoc a events event)))));
    }

-- ---- what was read and answered of a script

-- these lines have been answered, and this is the worst of the answers; none grew the pool
pub record AsEvents (x y : View) (lines : List Line) (out out' : List ℕ) (worst : Answer) : Type 0 where
  pub events : List Event
  pub lines_are : lines ≡ lines_of events
  pub worst_is : worst_of events ≡ worst
  pub answered : Answered x y events out out'

-- or one of them did
abbrev pub SoFar : View → View → List Line → List ℕ → List ℕ → Answer → Type 0
SoFar x y lines out out' worst = AsEvents x y lines out out' worst ⊎ Grew x y lines worst (λ all. out' ≡ out ++ all)

-- of a text these lines have been answered, and this is left
pub record History (x y : View) (text rest : List ℕ) (count : ℕ) (out out' : List ℕ) (worst : Answer) : Type 0 where
  pub done : List ℕ
  pub text_is : text ≡ done ++ rest
  pub counted : count ≡ length done
  pub lines : List Line
  pub script : (more : List ℕ) → script_of (done ++ more) ≡ lines ++ script_of more
  pub cut : (more : List ℕ) → cut_script_of (done ++ more) ≡ lines ++ cut_script_of more
  pub so_far : SoFar x y lines out out' worst

-- nothing is answered yet
pub answered_none : (x : View) (out : List ℕ) → (volume x).fit → IsLawful x → SoFar x x [] out out Given
answered_none x out fit laws =
    inl (record { events = []; lines_are = refl; worst_is = refl; answered = record { ran = ran_none x fit laws; put = λ a holds. sym (append-nil out) } })

-- nothing has been read
pub history_none :
    (x : View) (text rest : List ℕ) (count : ℕ) (out : List ℕ)
    → (volume x).fit
    → IsLawful x
    → rest ≡ text
    → count ≡ 0
    → History x x text rest count out out Given
history_none x text rest count out fit laws same zero = record {
  done = [];
  text_is = sym same;
  counted = zero;
  lines = [];
  script = λ more. refl;
  cut = λ more. refl;
  so_far = answered_none x out fit laws;
}

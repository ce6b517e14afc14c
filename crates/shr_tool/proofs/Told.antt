-- How a task came out, where the array is told for another reason.
use Rattle.std.proofs.Common.{◌≡◌, ℕ, List, [], ◌∷◌, codes, refl, sym, ap, subst, inl, inr}
use Rattle.rack.specs.Seen.{Image, RackView}
use Rattle.flat_array.specs.Array.{FlatArray}
use Rattle.shr_tool.specs.declared.perform.Answer.{Answer}
use Rattle.shr_tool.specs.declared.opening.Task.{Task}
use Rattle.shr_tool.specs.declared.opening.Task.TheVariants.{Serve, Import, Export, Show, Trial}
use Rattle.shr_tool.specs.declared.status.Status.{Status}
use Rattle.shr_tool.specs.declared.status.Status.TheVariants.{Done, Words, Limit, Source, Sink, Refused, Memory, Spent}
use Rattle.pool.specs.Continuing.{KeepsOutside}
use Rattle.slice_rack.specs.Slices.{Slices}
use Rattle.shr_tool.specs.Events.{AnyTakes, Event, becomes}
use Rattle.shr_tool.specs.Exporting.{ExportOutcome}
use Rattle.shr_tool.specs.Importing.{ImportOutcome}
use Rattle.shr_tool.specs.Outcome.{EndsAt, EventsOutcome, RunContract, LastsUntil, Outcome}
use Rattle.shr_tool.specs.Tasks.{TaskOutcome}
use Rattle.shr_tool.specs.Trial.{TrialOutcome}
use Rattle.shr_script.specs.Line.{Line}
use Rattle.shr_tool.proofs.Growing.{along_for, proceeds_for}
use Rattle.pool.specs.Moment.{Moment}
use Rattle.shr_tool.specs.Timeline.{Steps, Timeline, steps_of}
use Rattle.shr_tool.proofs.Timelines.{happens_for}
use Rattle.shr_tool.specs.Service.{AreFit, AreLone, IsOut, none_out, pool_by}
use Rattle.assembler.specs.Sound.{TargetsLand}
use Rattle.pool_model.specs.Grouped.{HaveOwnAreas}
use Rattle.pool_model.specs.Absent.{HoldAbsent}
use Rattle.pool_model.specs.Alone.{LeaveOut}
use Rattle.pool_model.specs.Taken.{AreSerial}
use Rattle.shr_tool.specs.Between.{HaveOthers, HoldsEach, HoldsInside, HoldsNext}

pub outside_told :
    (t u : Slices) (named : ℕ → Type 0) (T U : Type 0) (a b : RackView) → (U → T) → KeepsOutside t u named T a b → KeepsOutside t u named U a b
outside_told t u named T U a b for keeps = record { slices = keeps.slices; held = keeps.held; stops = λ is. keeps.stops (for is) }

pub timeline_for :
    (P Q : Type 0) (stops : ℕ → Image → Type 0) (p : Moment) (a : FlatArray) (events : List Event) (q : Moment)
    → (Q → P) → Timeline P stops p a events q → Timeline Q stops p a events q
timeline_for P Q stops p a [] q for line = line
timeline_for P Q stops p a (event ∷ events) q for line = (
  line.0,
  happens_for P Q stops stops p line.0 a event for (λ told k i until stopped. stopped) line.1,
  timeline_for P Q stops line.0 (becomes a event) events q for line.2,
)

pub steps_for :
    (P Q : Type 0) (stops : ℕ → Image → Type 0) (p : Moment) (a : FlatArray) (events : List Event) (q : Moment)
    (for : Q → P) (line : Timeline P stops p a events q)
    → steps_of Q stops p a events q (timeline_for P Q stops p a events q for line) ≡ steps_of P stops p a events q line
unfolding timeline_for
steps_for P Q stops p a [] q for line = refl
steps_for P Q stops p a (event ∷ events) q for line =
    ap (λ (rest : Steps line.0 events q). (line.0, rest)) (steps_for P Q stops line.0 (becomes a event) events q for line.2)

ends_for :
    (T U S R : Type 0) (y : RackView) (p q : Moment) (a : FlatArray)
    → (U → T) → (R → S) → EndsAt T S y p q a → EndsAt U R y p q a
ends_for T U S R y p q a told traced ends = record {
  later = λ is so. ends.later (told is) (traced so);
  linear = ends.linear;
  slices = ends.slices;
  after = ends.after;
  cause = ends.cause;
  stands = ends.stands;
  works = ends.works;
  held = λ is. ends.held (told is);
  missing = λ is. ends.missing (told is);
  during = λ is so. ends.during (told is) (traced so);
  ended = λ is so. ends.ended (told is) (traced so);
}

lasts_for :
    (T U S R : Type 0) (x y : RackView) (from : Moment) (a : FlatArray) (events : List Event)
    → (U → T) → (R → S) → RunContract T S x y from a events → RunContract U R x y from a events
lasts_for T U S R x y from a events told traced lasts = record {
  last = lasts.last;
  timeline = timeline_for (S × T) (R × U) y.stops from a events lasts.last (λ is. (traced is.0, told is.1)) lasts.timeline;
  final = lasts.final;
  clock = lasts.clock;
  faults = lasts.faults;
  disks = lasts.disks;
  sectors = lasts.sectors;
  held = lasts.held;
  ends = ends_for T U S R y lasts.last lasts.final _ told traced lasts.ends;
  outside = outside_told from.slices lasts.final.slices (AnyTakes lasts.final.names events) T U x y told lasts.outside;
  apart = lasts.apart;
  told = λ is. lasts.told (told is);
  rows = λ is. lasts.rows (told is);
  between = λ is so f on.
      subst (HoldsEach y.stops (AreSerial f.state) (TargetsLand f) (HaveOwnAreas f) [] f from events lasts.last)
      (sym (steps_for (S × T) (R × U) y.stops from a events lasts.last (λ is. (traced is.0, told is.1)) lasts.timeline))
      (lasts.between (told is) (traced so) f on);
  closing = λ is so f on fit.
      let same =
      steps_for (S × T) (R × U) y.stops from a events lasts.last (λ is. (traced is.0, told is.1)) lasts.timeline in
      subst (λ (steps : Steps from events lasts.last). HoldsInside y.stops (AreSerial f.state) (TargetsLand f) (HaveOwnAreas f) events (pool_by f from events lasts.last steps) lasts.last lasts.final) (sym same)
      (lasts.closing (told is) (traced so) f on (subst (AreFit f from events lasts.last) same fit));
  agreed = λ is. lasts.agreed (told is);
  safe = λ is. lasts.safe (told is);
  safe_by = λ is served quiet f on only own serials fit out ungiven lone whole goes i j pick leave sized.
      let same =
      steps_for (S × T) (R × U) y.stops from a events lasts.last (λ is. (traced is.0, told is.1)) lasts.timeline in
      subst (λ (steps : Steps from events lasts.last). HoldAbsent (pool_by f from events lasts.last steps) lasts.final.slices lasts.final.book.state j) (sym same)
      (lasts.safe_by (told is) served quiet f on only own serials (subst (AreFit f from events lasts.last) same fit) out ungiven
      (subst (AreLone f (record { bound = lasts.last.book.state.serial; out = out }) from events lasts.last) same lone) whole goes i j pick
      (subst
      (λ (steps : Steps from events lasts.last).
      LeaveOut (pool_by f from events lasts.last steps) (IsOut (record { bound = lasts.last.book.state.serial; out = out }) lasts.final.names) i j) same leave)
      sized);
  others = λ is so served f on only ungiven serials fit lone.
      let same =
      steps_for (S × T) (R × U) y.stops from a events lasts.last (λ is. (traced is.0, told is.1)) lasts.timeline in
      subst (HaveOthers y.stops f from events lasts.last) (sym same)
      (lasts.others (told is) (traced so) served f on only ungiven serials (subst (AreFit f from events lasts.last) same fit)
      (subst (AreLone f (none_out lasts.last.book.state.serial) from events lasts.last) same lone));
  again = λ is served f on known fit goes i pick.
      let same =
      steps_for (S × T) (R × U) y.stops from a events lasts.last (λ is. (traced is.0, told is.1)) lasts.timeline in
      subst (λ (steps : Steps from events lasts.last). HoldsNext (TargetsLand f) (HaveOwnAreas f) (pool_by f from events lasts.last steps) lasts.final.slices lasts.final.linear lasts.final.book i) (sym same)
      (lasts.again (told is) served f on (λ takes. (traced (known takes).0, (known takes).1)) (subst (AreFit f from events lasts.last) same fit) goes i pick);
}

-- the same run, told where the array is told
events_for :
    (status : Status) (T U S R : Type 0) (x y : RackView) (from : Moment) (a : FlatArray) (text rest out out' : List ℕ)
    → (U → T) → (R → S) → EventsOutcome status T S x y from a text rest out out' → EventsOutcome status U R x y from a text rest out out'
events_for Done T U S R x y from a text rest out out' told traced o = record {
  events = o.events;
  script = o.script;
  worst_is = o.worst_is;
  put = λ is. o.put (told is);
  lasts = lasts_for T U S R x y from a o.events told traced o.lasts;
}
events_for Words T U S R x y from a text rest out out' told traced o = absurd o
events_for Limit T U S R x y from a text rest out out' told traced o = record {
  longer = o.longer;
  events = o.events;
  script = o.script;
  put = λ is. o.put (told is);
  lasts = lasts_for T U S R x y from a o.events told traced o.lasts;
}
events_for Source T U S R x y from a text rest out out' told traced o = record {
  taken = o.taken;
  text_is = o.text_is;
  events = o.events;
  script = o.script;
  put = λ is. o.put (told is);
  lasts = lasts_for T U S R x y from a o.events told traced o.lasts;
}
events_for Sink T U S R x y from a text rest out out' told traced o = record {
  before = o.before;
  last = o.last;
  more = o.more;
  script = o.script;
  put = λ is. o.put (told is);
  lasts = lasts_for T U S R x y from a _ told traced o.lasts;
}
events_for Refused T U S R x y from a text rest out out' told traced o = absurd o
events_for Memory T U S R x y from a text rest out out' told traced o = record {
  events = o.events;
  script = o.script;
  worst_is = o.worst_is;
  put = λ is. o.put (told is);
  lasts = lasts_for T U S R x y from a o.events told traced o.lasts;
}
events_for Spent T U S R x y from a text rest out out' told traced o = record {
  events = o.events;
  script = o.script;
  worst_is = o.worst_is;
  put = λ is. o.put (told is);
  lasts = lasts_for T U S R x y from a o.events told traced o.lasts;
}

-- one that grew the pool
until_for :
    (T U S R : Type 0) (x y : RackView) (from : Moment) (a : FlatArray) (events : List Event) (first : Line) (more : List Line) (said : List ℕ) (worst : Answer)
    → (U → T) → (R → S) → LastsUntil T S x y from a events first more said worst → LastsUntil U R x y from a events first more said worst
until_for T U S R x y from a events first more said worst told traced lasts = record {
  last = lasts.last;
  timeline = timeline_for (S × T) (R × U) y.stops from a events lasts.last (λ is. (traced is.0, told is.1)) lasts.timeline;
  growing = lasts.growing;
  grown = lasts.grown;
  lines = along_for (S × T) (R × U) lasts.last (first ∷ more) said worst lasts.grown (λ is. (traced is.0, told is.1)) lasts.lines;
  final = lasts.final;
  clock = lasts.clock;
  faults = lasts.faults;
  disks = lasts.disks;
  sectors = lasts.sectors;
  held = lasts.held;
  ends = proceeds_for (S × T) (R × U) (λ place. ⊥) 1 lasts.grown lasts.final (λ is. (traced is.0, told is.1)) lasts.ends;
  kept = lasts.kept;
  between = λ is so f on.
      subst (HoldsEach y.stops (AreSerial f.state) (TargetsLand f) (HaveOwnAreas f) [] f from events lasts.last)
      (sym (steps_for (S × T) (R × U) y.stops from a events lasts.last (λ is. (traced is.0, told is.1)) lasts.timeline))
      (lasts.between (told is) (traced so) f on);
}

outcome_for :
    (status : Status) (T U S R : Type 0) (x y : RackView) (from : Moment) (a : FlatArray) (text rest out out' : List ℕ)
    → (U → T) → (R → S) → Outcome status T S x y from a text rest out out' → Outcome status U R x y from a text rest out out'
outcome_for status T U S R x y from a text rest out out' told traced o = elim o [
  | inl events ↦ inl (events_for status T U S R x y from a text rest out out' told traced events)
  | inr grown ↦ inr (record {
    events = grown.events;
    first = grown.first;
    more = grown.more;
    stop = grown.stop;
    begun = grown.begun;
    answer = grown.answer;
    status_is = grown.status_is;
    said = grown.said;
    put = λ is. grown.put (told is);
    lasts = until_for T U S R x y from a grown.events grown.first grown.more grown.said grown.answer told traced grown.lasts;
  })
]

export_for :
    (status : Status) (T U S R : Type 0) (x y : RackView) (from : Moment) (a : FlatArray) (out out' : List ℕ)
    → (U → T) → (R → S) → ExportOutcome status T S x y from a out out' → ExportOutcome status U R x y from a out out'
export_for Done T U S R x y from a out out' told traced o =
    record { put = λ is. o.put (told is); lasts = lasts_for T U S R x y from a _ told traced o.lasts }
export_for Words T U S R x y from a out out' told traced o = absurd o
export_for Limit T U S R x y from a out out' told traced o = absurd o
export_for Source T U S R x y from a out out' told traced o = absurd o
export_for Sink T U S R x y from a out out' told traced o = record {
  sector = o.sector;
  inside = o.inside;
  put = λ is. o.put (told is);
  lasts = lasts_for T U S R x y from a _ told traced o.lasts;
}
export_for Refused T U S R x y from a out out' told traced o = absurd o
export_for Memory T U S R x y from a out out' told traced o = absurd o
export_for Spent T U S R x y from a out out' told traced o = record {
  sector = o.sector;
  inside = o.inside;
  put = λ is. o.put (told is);
  lasts = lasts_for T U S R x y from a _ told traced o.lasts;
}

import_for :
    (status : Status) (T U S R : Type 0) (x y : RackView) (from : Moment) (a : FlatArray) (text rest out out' : List ℕ)
    → (U → T) → (R → S) → ImportOutcome status T S x y from a text rest out out' → ImportOutcome status U R x y from a text rest out out'
import_for status T U S R x y from a text rest out out' told traced o = record {
  result = o.result;
  events = o.events;
  writes = o.writes;
  most = o.most;
  lasts = lasts_for T U S R x y from a o.events told traced o.lasts;
  says = o.says;
}

trial_for :
    (seed : ℕ) (status : Status) (T U S R : Type 0) (x y : RackView) (from : Moment) (a : FlatArray) (out out' : List ℕ)
    → (U → T) → (R → S) → TrialOutcome seed status T S x y from a out out' → TrialOutcome seed status U R x y from a out out'
trial_for seed status T U S R x y from a out out' told traced o = record {
  result = o.result;
  events = o.events;
  tries = o.tries;
  tallied = λ is. o.tallied (told is);
  lasts = lasts_for T U S R x y from a o.events told traced o.lasts;
  says = o.says;
}

-- the same task, told where the array is told
pub task_for :
    (task : Task) (status : Status) (T U S R : Type 0) (x y : RackView) (from : Moment) (a : FlatArray) (text rest out out' : List ℕ)
    → (U → T) → (R → S) → TaskOutcome task status T S x y from a text rest out out' → TaskOutcome task status U R x y from a text rest out out'
task_for Serve status T U S R x y from a text rest out out' told traced o =
    outcome_for status T U S R x y from a text rest out out' told traced o
task_for Import status T U S R x y from a text rest out out' told traced o =
    import_for status T U S R x y from a text rest out out' told traced o
task_for Export status T U S R x y from a text rest out out' told traced o =
    export_for status T U S R x y from a out out' told traced o
task_for Show status T U S R x y from a text rest out out' told traced o =
    events_for status T U S R x y from a (codes "status") [] out out' told traced o
task_for (Trial seed) status T U S R x y from a text rest out out' told traced o =
    trial_for seed status T U S R x y from a out out' told traced o

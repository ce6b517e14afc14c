-- A run that nothing is against is done, by how it came out.
use Rattle.std.proofs.Common.{◌≡◌, ◌≢◌, ◌⊎◌, ℕ, ◌<◌, ◌≤◌, ◌^◌, ◌==◌, Bool, true, false, if◌then◌else◌, List, [], ◌∷◌, length, get_or, Option, Some, None, option_map, Result, Ok, Err, refl, sym, ap, subst, ◌∙◌, inl, inr, arith}
use Rattle.std.specs.Option.{option_map_or}
use Rattle.std.proofs.lemmas.Bool.{cases_Bool}
use Rattle.std.proofs.lemmas.Bool.Decides.{nat_tests}
use Rattle.std.proofs.lemmas.List.Quantifiers.{position-Some}
use Rattle.std.proofs.lemmas.Option.{slice_get-get_or}
use Rattle.rack.specs.declared.AttachFault.{AttachFault}
use Rattle.rack.specs.declared.AttachFault.TheVariants.{Failed, Twice, Memory as NoRoomLeft}
use Rattle.rack.specs.Seen.{Image, RackView, Rose}
use Rattle.rack.specs.Shelf.{Differ, KeepsShelf, Shelf}
use Rattle.flat_array.specs.Array.{FlatArray, fresh}
use Rattle.layer_plan.specs.declared.Layers.{Layers}
use Rattle.layer_plan.specs.declared.PlanError.{PlanError}
use Rattle.layer_plan.specs.declared.PlanError.TheVariants.{TooFew as FewDrives, TooMany, NoRoom}
use Rattle.lvm_group.specs.Runs.{Linear, sectors_in}
use Rattle.pool_image.specs.Disks.{Disks, disks_of}
use Rattle.pool_image.specs.Drives.{Found, found}
use Rattle.pool_image.specs.Meaning.{Volume, arrays_held, joined_arrays, meaning, refusal_of, volume_by, volumes_of}
use Rattle.pool_image.specs.Meaning as meaning
use Rattle.pool_image.specs.Volumes.{linear_of}
use Rattle.pool_model.specs.Grouped.{IsVolumeOf}
use Rattle.pool_scan.specs.Scanning.{now_in}
use Rattle.pool_format.specs.declared.Birth.{Birth}
use Rattle.pool_format.specs.declared.formatting.CreateFault.{CreateFault}
use Rattle.pool_format.specs.declared.formatting.CreateFault.TheVariants.{Layout as Unplanned, Gone, Memory as NoMemory}
use Rattle.pool_format.specs.Plan.{IsUnplanned, units_on}
use Rattle.assembler.specs.Sound.{IsMeantRefusal}
use Rattle.assembler.specs.declared.refusal.Refusal.{Refusal}
use Rattle.assembler.specs.declared.refusal.Refusal.TheVariants.{NoPool, TwoPools, Absent, Damaged, TooFew, DirtyDegraded, BadVolume, Memory as Wanting}
use Rattle.shr_words.specs.declared.forms.Form.{Form}
use Rattle.shr_words.specs.declared.forms.Form.TheVariants as forms
use Rattle.shr_words.specs.Forms.{before_names}
use Rattle.pool.specs.Moment.{Moment}
use Rattle.shr_tool.specs.declared.opening.Task.{Task}
use Rattle.shr_tool.specs.declared.opening.Task.TheVariants as tasks
use Rattle.shr_tool.specs.declared.perform.Answer.{Answer}
use Rattle.shr_tool.specs.declared.perform.Answer.TheVariants as answers
use Rattle.shr_tool.specs.declared.perform.SpentAt.{SpentAt}
use Rattle.shr_tool.specs.declared.serve.Stop.{Stop}
use Rattle.shr_tool.specs.declared.serve.Stop.TheVariants as stops
use Rattle.shr_tool.specs.declared.status.Status.{Status}
use Rattle.shr_tool.specs.declared.status.Status.TheVariants.{Done, Words, Limit, Source, Sink, Refused, Memory, Spent}
use Rattle.shr_tool.specs.declared.importing.ImportFault.{ImportFault}
use Rattle.shr_tool.specs.declared.importing.ImportFault.TheVariants as importing
use Rattle.shr_tool.specs.declared.trial.Tally.{Tally}
use Rattle.shr_tool.specs.Attaching.{AreAttached, HasAttachCause}
use Rattle.shr_tool.specs.Complete.{AreEntry, CarriesOut, Completes, HavePlan, HoldPool, IsCarriedOut, IsDone, IsOpened, IsSoundEntry, IsOnlineOpened, IsTakenWhole, IsUndisturbed, NamesImage, NoneRefused, NothingFails, online_opening, opening_of}
use Rattle.shr_tool.specs.Entry.{contents_in, sectors_in as waiting_sectors, waiting_at}
use Rattle.online_bay.specs.Online.{Asks, is_offline}
use Rattle.array_image.specs.Places.{state_sector}
use Rattle.assembler_laws.specs.Holding.{AreSteady}
use Rattle.rack.specs.Joins.{stays_then}
use Rattle.rack.specs.Values.{Keeps, only}
use Rattle.shr_tool.proofs.Examined.{examined_held, one_value}
use Rattle.shr_tool.proofs.Wanting.{memory_names}
use Rattle.shr_tool.specs.Events.{worse, worst_of}
use Rattle.shr_tool.specs.Examining.{ExamineOutcome, IsShown}
use Rattle.shr_tool.specs.Examining.ExamineOutcome.{name_refused as unattached_image, no_memory as unread_image, examined}
use Rattle.shr_tool.specs.Forms.{reads_input, uses_disks}
use Rattle.shr_tool.specs.Importing.{SaysWritten, Writes}
use Rattle.shr_tool.specs.LayoutText.{Prints, answer_status}
use Rattle.shr_tool.specs.Limits.{KeepsLimit}
use Rattle.shr_tool.specs.Made.{HasFaultCause, MakeOutcome}
use Rattle.shr_tool.specs.Online.{Online, OnlineOutcome, online_runs, online_seen, online_shelf}
use Rattle.shr_tool.specs.Opened.{IsMeant, NotOpened, OpenOutcome}
use Rattle.shr_tool.specs.Outcome.{HasStatusCause, status_by}
use Rattle.shr_tool.specs.Refusing.{fault_status, fault_words, refusal_status, refusal_words}
use Rattle.shr_tool.specs.Run.{CreateOutcome, NameRefused, PoolOutcome, SaysFault}
use Rattle.shr_tool.specs.Run.PoolOutcome.{name_refused as unattached_pool, no_memory as unread_words, not_asked, on_disks as on_pool}
use Rattle.shr_tool.specs.Run.CreateOutcome.{name_refused as unattached_disks, no_memory as unread_create, on_disks as on_new}
use Rattle.shr_script.specs.Reply.{refused_line}
use Rattle.shr_tool.specs.Saying.{Ended, Says}
use Rattle.shr_tool.specs.Tasks.{TaskOutcome}
use Rattle.shr_tool.specs.Trial.{SaysTried}

-- ---- statuses

-- a line was put, where the sink didn't fail
said : (wanted status : Status) (line out out' : List ℕ) → (status ≡ Sink → ⊥) → Says wanted line out out' status → status ≡ wanted
said wanted status line out out' sound says = elim says.said [ inl is ↦ is.0 | inr failed ↦ absurd (sound failed.0) ]

pub no_sink : (status : Status) (source source' sink sink' : ℕ) → HasStatusCause status source source' sink sink' → (Rose sink sink' → ⊥) → status ≡ Sink → ⊥
no_sink status source source' sink sink' cause none is = none (subst (λ s. HasStatusCause s source source' sink sink') is cause)

-- want of memory was said
pub memory_only :
    (status : Status) (line out out' : List ℕ) (source source' sink sink' : ℕ) → HasStatusCause status source source' sink sink' → (Rose sink sink' → ⊥)
    → Says Memory line out out' status → status ≡ Memory
memory_only status line out out' source source' sink sink' cause none says = said Memory status line out out' (no_sink status source source' sink sink' cause none) says

-- what is left where no end failed, and neither a refusal nor a limit ended the run
left_status :
    (status : Status) (source source' sink sink' : ℕ) → HasStatusCause status source source' sink sink' → (Rose source source' → ⊥) → (Rose sink sink' → ⊥)
    → (status ≡ Limit → ⊥) → (status ≡ Refused → ⊥) → (status ≡ Memory) ⊎ ((status ≡ Done) ⊎ (status ≡ Spent))
left_status Done source source' sink sink' cause none ok limit refused = inr (inl refl)
left_status Words source source' sink sink' cause none ok limit refused = absurd cause
left_status Limit source source' sink sink' cause none ok limit refused = absurd (limit refl)
left_status Source source source' sink sink' cause none ok limit refused = absurd (none cause)
left_status Sink source source' sink sink' cause none ok limit refused = absurd (ok cause)
left_status Refused source source' sink sink' cause none ok limit refused = absurd (refused refl)
left_status Memory source source' sink sink' cause none ok limit refused = inl refl
left_status Spent source source' sink sink' cause none ok limit refused = inr (inr refl)

-- ---- names

-- a name isn't attached for want of memory alone
wanting_name :
    (x y : RackView) (s t : Shelf) (names : List (List ℕ)) (out out' : List ℕ) (status : Status) → Differ names → (Rose s.faults t.faults → ⊥) → (status ≡ Sink → ⊥)
    → NameRefused x y s t names out out' status → status ≡ Memory
wanting_name x y s t names out out' status differ none sound refused = of refused.fault refused.number refused.cause.cause refused.says
  where
    of : (fault : AttachFault) (number : ℕ) → HasAttachCause fault s t names number → SaysFault fault number out out' status → status ≡ Memory
    of Failed number cause says = absurd (none cause)
    of (Twice d) number cause says =
        let same = differ d number cause.name cause.on_first cause.on_second in
        let before = cause.before in
        absurd (omega (arith, same, before))
    of NoRoomLeft number cause says = said Memory status _ out out' sound says

-- ---- openings

-- contents that mean something aren't refused
unrefused : (disks : Disks) (c : Image) (v : List Volume) → meaning disks c ≡ Some v → refusal_of disks c ≡ None
unfolding meaning
unrefused disks c v means = of (refusal_of disks c) means
  where
    of : (refusal : Option meaning.Refusal) → option_map_or (λ (why : meaning.Refusal). None) refusal (option_map volumes_of (found disks c)) ≡ Some v → refusal ≡ None
    of None e = refl
    of (Some why) e = cc e

-- a volume that lies on the pool's arrays has as many sectors as the one that is meant
size_meant :
    (disks : Disks) (c : Image) (f : Found) (v : Volume) (l : Linear) → found disks c ≡ Some f → meaning disks c ≡ Some (v ∷ []) → IsVolumeOf f l → v.sectors ≡ sectors_in l
unfolding meaning
size_meant disks c f v l there means lies =
    let refusal : refusal_of disks c ≡ None = unrefused disks c (v ∷ []) means in
    let given : option_map_or (λ (why : meaning.Refusal). None) (refusal_of disks c) (option_map volumes_of (found disks c)) ≡ Some (v ∷ []) = means in
    let first : option_map volumes_of (found disks c) ≡ Some (v ∷ []) =
    subst (λ (r : Option meaning.Refusal). option_map_or (λ (why : meaning.Refusal). None) r (option_map volumes_of (found disks c)) ≡ Some (v ∷ [])) refusal given in
    let second : Some (volumes_of f) ≡ Some (v ∷ []) = subst (λ (o : Option Found). option_map volumes_of o ≡ Some (v ∷ [])) there first in
    let third : Some (volume_by (linear_of (joined_arrays f) lies.group) (arrays_held f) ∷ []) ≡ Some (v ∷ []) =
    subst (λ o. Some (option_map_or (λ g. volume_by (linear_of (joined_arrays f) g) (arrays_held f) ∷ []) o []) ≡ Some (v ∷ [])) lies.group_is second in
    let same : volume_by (linear_of (joined_arrays f) lies.group) (arrays_held f) ≡ v = cc third in
    ap (λ (w : Volume). w.sectors) (sym same) ∙ ap sectors_in (sym lies.linear)

-- where disks mean something they are refused for want of memory alone
wanting_pool :
    {R : Type 0} (seen : R → RackView) (runs : R → R → Type 0) (bay after : R) (out out' : List ℕ) (status : Status) (a : FlatArray)
    → IsMeant (seen bay) (seen after) a → (status ≡ Sink → ⊥) → NotOpened seen runs bay after out out' status → status ≡ Memory
wanting_pool seen runs bay after out out' status a meant sound refused = of refused.why (refused.exact meant.pool meant.sound meant.unfaulted) refused.says
  where
    none : refusal_of (disks_of (seen bay)) (now_in (seen bay)) ≡ None
    none = unrefused (disks_of (seen bay)) (now_in (seen bay)) (meant.volume ∷ []) meant.meant

    of : (why : Refusal) → (why ≢ Wanting → IsMeantRefusal (seen bay) why) → Says (refusal_status why) (refused_line (refusal_words why)) out out' status → status ≡ Memory
    of NoPool exact says = cc (exact (λ e. cc e), none)
    of TwoPools exact says = cc (exact (λ e. cc e), none)
    of (Absent count) exact says = cc (exact (λ e. cc e), none)
    of (Damaged place part) exact says = cc (exact (λ e. cc e), none)
    of (TooFew array) exact says = cc (exact (λ e. cc e), none)
    of (DirtyDegraded array) exact says = cc (exact (λ e. cc e), none)
    of (BadVolume array) exact says = cc (exact (λ e. cc e), none)
    of Wanting exact says = said Memory status _ out out' sound says

-- ---- tasks

not_refused : (stop : Stop) (answer : Answer) → status_by stop answer ≡ Refused → ⊥
not_refused stops.Quit answers.Given is = cc is
not_refused stops.Quit answers.Spent is = cc is
not_refused stops.Quit answers.Memory is = cc is
not_refused stops.Input answers.Given is = cc is
not_refused stops.Input answers.Spent is = cc is
not_refused stops.Input answers.Memory is = cc is
not_refused stops.SourceFault answer is = cc is
not_refused stops.Limit answer is = cc is
not_refused stops.SinkFault answer is = cc is

-- a line was put by which another status than that of a refusal ends the run
says_other : (wanted : Status) (line out out' : List ℕ) → (wanted ≡ Refused → ⊥) → Says wanted line out out' Refused → ⊥
says_other wanted line out out' other says = elim says.said [ inl is ↦ other (sym is.0) | inr failed ↦ cc failed.0 ]

-- a task whose input is taken whole isn't refused
task_unrefused :
    (task : Task) (Told Traced : Type 0) (x y : RackView) (from : Moment) (a : FlatArray) (text rest out out' : List ℕ) (size : ℕ) → size ≡ sectors_in from.linear → IsTakenWhole task text size
    → TaskOutcome task Refused Told Traced x y from a text rest out out' → ⊥
task_unrefused tasks.Serve Told Traced x y from a text rest out out' size same whole came = elim came [
  | inl none ↦ none
  | inr grown ↦ not_refused grown.stop (worse (worst_of grown.events) grown.answer) grown.status_is
]
task_unrefused tasks.Import Told Traced x y from a text rest out out' size same whole came = of came.result came.writes came.says
  where
    of : (result : Result ℕ ImportFault) → Writes (sectors_in from.linear) text rest result came.events → SaysWritten result out out' Refused → ⊥
    of (Ok bytes) writes says = says_other Done _ out out' (λ e. cc e) says
    of (Err importing.Source) writes says = cc says.0
    of (Err importing.Long) writes says = let longer = writes.longer in omega (arith, same, whole, longer)
    of (Err (importing.Spent sector)) writes says = says_other Spent _ out out' (λ e. cc e) says
task_unrefused tasks.Export Told Traced x y from a text rest out out' size same whole came = came
task_unrefused tasks.Show Told Traced x y from a text rest out out' size same whole came = came
task_unrefused (tasks.Trial seed) Told Traced x y from a text rest out out' size same whole came = of came.result came.says
  where
    of : (result : Result Tally SpentAt) → SaysTried result out out' Refused → ⊥
    of (Ok tally) says = says_other Done _ out out' (λ e. cc e) says
    of (Err at) says = says_other Spent _ out out' (λ e. cc e) says

-- until a pool was opened, or refused, no count of faults fell
later :
    {R : Type 0} (seen : R → RackView) (shelf : R → Shelf) (runs : R → R → Type 0) (bay after : R) (task : Task) (text rest out out' : List ℕ) (status : Status)
    (came : OpenOutcome seen shelf runs bay after task text rest out out' status) (d : ℕ)
    → (seen bay).faults d ≤ (seen (opening_of seen shelf runs bay after task text rest out out' status came)).faults d
later seen shelf runs bay after task text rest out out' status (inl refused) d = elim refused.written [
  | inl reads ↦ reads.stays.faults d
  | inr wrote ↦ elim wrote [
    | inl drives ↦ drives.only.stays.faults d
    | inr pool ↦ (stays_then pool.early.only.stays pool.late.stays).faults d
  ]
]
later seen shelf runs bay after task text rest out out' status (inr opened) d = (stays_then opened.drives.early.only.stays opened.drives.late.stays).faults d

-- the pool is opened and the task done on it
module _ {R : Type 0} (seen : R → RackView) (shelf : R → Shelf) (runs : R → R → Type 0) (bay after : R) (task : Task) (text rest out out' : List ℕ) (status : Status)
    (source source' sink sink' : ℕ) (cause : HasStatusCause status source source' sink sink') (none : Rose source source' → ⊥) (ok : Rose sink sink' → ⊥)
    (size : ℕ) (whole : IsTakenWhole task text size) (limit : status ≡ Limit → ⊥) where
  done_on : (came : OpenOutcome seen shelf runs bay after task text rest out out' status) (a : FlatArray)
      → IsMeant (seen bay) (seen (opening_of seen shelf runs bay after task text rest out out' status came)) a → a.size ≡ size
      → ((status ≡ Memory) × (IsOpened seen shelf runs bay after task text rest out out' status came → NamesImage task text))
      ⊎ (IsOpened seen shelf runs bay after task text rest out out' status came × ((status ≡ Done) ⊎ (status ≡ Spent)))
  done_on (inl refused) a meant sized =
      inl (wanting_pool seen runs bay after out out' status a meant (no_sink status source source' sink sink' cause ok) refused, λ none. absurd none)
  done_on (inr opened) a meant sized =
      let lies = (opened.meant meant.pool meant.sound meant.unfaulted).lies in
      let here : a.size ≡ sectors_in opened.from.linear =
      ap (λ (b : FlatArray). b.size) meant.array
      ∙ size_meant (disks_of (seen bay)) (now_in (seen bay)) meant.pool meant.volume opened.from.linear meant.sound.found_is meant.meant lies in
      let refused : status ≡ Refused → ⊥ =
      λ is.
      task_unrefused task _ _ _ _ opened.from a text rest out out' size (sym sized ∙ here) whole
      (subst (λ s. TaskOutcome task s (IsMeant (seen bay) (seen opened.opened) a × (shelf bay).told) (seen bay).traced (seen opened.opened) (seen after) opened.from a text rest out out') is (opened.outcome a)) in
      elim (left_status status source source' sink sink' cause none ok limit refused) [
        | inl memory ↦ inl (
          memory,
          λ is_open.
              memory_names task _ _ _ _ opened.from a text rest out out'
              (subst (λ s. TaskOutcome task s (IsMeant (seen bay) (seen opened.opened) a × (shelf bay).told) (seen bay).traced (seen opened.opened) (seen after) opened.from a text rest out out') memory (opened.outcome a)),
        )
        | inr done ↦ inr (tt, done)
      ]

-- ---- from what waited

rose_later : (a b c : ℕ) → Rose a b → b ≤ c → Rose 0 c
rose_later a b c rose more = elim rose [ inl up ↦ inl (omega (arith, up, more)) | inr full ↦ inr (omega (arith, full, more)) ]

-- Disks that hold what waited, where that is a sound pool, and none refused a call until a moment.
module _ {B : Type 0} (seen : B → RackView) (runs : B → B → Type 0) (lasting : (b : B) → (seen b).lasting) (unspent : (b : B) (d s : ℕ) → (seen b).spent d s ≡ false)
    (x : RackView) (s t : Shelf) (names : List (List ℕ)) (attached : B) (are : AreAttached x (seen attached) s t names) (told : s.told) (size : ℕ) (entry : IsSoundEntry s.ready names size)
    (asked : Online B) (asks : Asks seen runs attached asked.bay state_sector asked.offline) (y : Online B)
    (later_on : (d : ℕ) → (seen asked.bay).faults d ≤ (seen y.bay).faults d) (calm : NoneRefused (seen y.bay)) where
  -- none is offline
  all_online : (d : ℕ) → is_offline asked.offline d ≡ false
  all_online d = elim (cases_Bool (is_offline asked.offline d)) [
    | inl is ↦ absurd (calm d (rose_later ((seen attached).faults d) ((seen asked.bay).faults d) ((seen y.bay).faults d) (asks.refused d is) (later_on d)))
    | inr not ↦ not
  ]

  low : (d : ℕ) → d < (seen asked.bay).disks → d < length names
  low d below = subst (λ n. d < n) (asks.reads.stays.disks ∙ are.disks) below

  sectors_asked : (d : ℕ) → d < length names → (online_seen seen asked).sectors d ≡ waiting_sectors (waiting_at s.ready names d)
  sectors_asked d below =
      ap (λ (b : Bool). if b then 0 else (seen asked.bay).sectors d) (all_online d) ∙ asks.reads.stays.sectors d ∙ (are.waited told d below).sectors

  held_asked : (d u : ℕ) → d < length names → u < waiting_sectors (waiting_at s.ready names d) → Keeps (only (contents_in (waiting_at s.ready names d) u)) ((seen asked.bay).held d u)
  held_asked d u below inside = examined_held x (seen attached) (seen asked.bay) s t names are asks.reads (unspent asked.bay) told d u below inside

  entry_now : AreEntry s.ready names (disks_of (online_seen seen asked)) (now_in (online_seen seen asked))
  entry_now = record {
    count = asks.reads.stays.disks ∙ are.disks;
    sectors = sectors_asked;
    contents = λ d u below inside. (held_asked d u below inside).current;
  }

  holds : HoldPool (disks_of (online_seen seen asked)) (now_in (online_seen seen asked)) size
  holds = entry.holds (disks_of (online_seen seen asked)) (now_in (online_seen seen asked)) entry_now

  inside_names : (d u : ℕ) → d < (seen asked.bay).disks → u < (online_seen seen asked).sectors d → u < waiting_sectors (waiting_at s.ready names d)
  inside_names d u below inside = subst (λ n. u < n) (sectors_asked d (low d below)) inside

  steady : AreSteady (online_seen seen asked)
  steady = record {
    told = λ d below. asks.reads.stays.told d (are.waited told d (low d below)).told;
    lasts = record { lasting = lasting asked.bay; unspent = unspent asked.bay };
    single = λ d u below inside v may.
        let keeps = held_asked d u (low d below) (inside_names d u below inside) in
        one_value (contents_in (waiting_at s.ready names d) u) v (keeps.within v may) ∙ sym keeps.current;
    sized = λ d u below inside.
        subst (λ (w : List ℕ). length w ≡ 512) (sym (held_asked d u (low d below) (inside_names d u below inside)).current) (entry.whole d u (low d below) (inside_names d u below inside));
  }

  meant_entry : IsMeant (online_seen seen asked) (online_seen seen y) (fresh holds.volume.sectors holds.volume.contents)
  meant_entry = record {
    pool = holds.pool;
    sound = record { steady = steady; found_is = holds.found_is; sound = holds.sound; logs = holds.logs };
    unfaulted = λ d rose. calm d (rose_later ((seen asked.bay).faults d) ((seen y.bay).faults d) ((seen y.bay).faults d) rose (omega arith));
    volume = holds.volume;
    meant = holds.meant;
    array = refl;
  }

-- so it is of `serve`, `import`, `export`, `status` and `trial`
module _ {B : Type 0} (seen : B → RackView) (shelf : B → Shelf) (runs : B → B → Type 0) (lasting : (b : B) → (seen b).lasting) (unspent : (b : B) (d s : ℕ) → (seen b).spent d s ≡ false)
    (shelves : (x y : B) → runs x y → KeepsShelf (shelf x) (shelf y)) (bay after : B) (task : Task) (names : List (List ℕ)) (text rest out out' : List ℕ) (status : Status)
    (source source' sink sink' : ℕ) (cause : HasStatusCause status source source' sink sink') (none : Rose source source' → ⊥) (ok : Rose sink sink' → ⊥)
    (differ : Differ names) (attaching : Rose (shelf bay).faults (shelf after).faults → ⊥) (limit : (size : ℕ) → IsTakenWhole task text size → status ≡ Limit → ⊥) where
  sound : status ≡ Sink → ⊥
  sound = no_sink status source source' sink sink' cause ok

  -- on disks that were asked
  module _ (attached : B) (are : AreAttached (seen bay) (seen attached) (shelf bay) (shelf attached) names) (online : OnlineOutcome seen shelf runs attached after task text rest out out' status)
      (size : ℕ) (well : IsUndisturbed (shelf bay) names (seen (online_opening seen shelf runs attached after task text rest out out' status online).bay) size) where
    abbrev opening : Online B
    opening = online_opening seen shelf runs attached after task text rest out out' status online

    -- until then no count of faults fell
    abbrev begin : (d : ℕ) → (seen online.asked.bay).faults d ≤ (seen opening.bay).faults d
    begin =
        later (online_seen seen) (online_shelf shelf) (online_runs runs) online.asked (record { bay = after; offline = online.offline }) task text rest out out' status online.outcome

    abbrev pool : HoldPool (disks_of (online_seen seen online.asked)) (now_in (online_seen seen online.asked)) size
    pool = holds seen runs lasting unspent (seen bay) (shelf bay) (shelf attached) names attached are well.told size well.entry online.asked online.asks opening begin well.calm

    meant_then : IsMeant (online_seen seen online.asked) (online_seen seen opening) (fresh pool.volume.sectors pool.volume.contents)
    meant_then = meant_entry seen runs lasting unspent (seen bay) (shelf bay) (shelf attached) names attached are well.told size well.entry online.asked online.asks opening begin well.calm

    carried_then : IsTakenWhole task text size
        → ((status ≡ Memory) × (IsOnlineOpened seen shelf runs attached after task text rest out out' status online → NamesImage task text))
        ⊎ (IsOnlineOpened seen shelf runs attached after task text rest out out' status online × ((status ≡ Done) ⊎ (status ≡ Spent)))
    carried_then whole =
        done_on (online_seen seen) (online_shelf shelf) (online_runs runs) online.asked (record { bay = after; offline = online.offline }) task text rest out out' status
        source source' sink sink' cause none ok size whole (limit size whole) online.outcome _ meant_then pool.size_is

  carried : (attached : B) → AreAttached (seen bay) (seen attached) (shelf bay) (shelf attached) names → OnlineOutcome seen shelf runs attached after task text rest out out' status
      → IsCarriedOut seen shelf runs bay attached after task names text rest out out' status
  carried attached are online = record {
    online = online;
    meant = λ size well. ((shelves attached online.asked.bay online.asks.kept).told (are.told well.told), _, (pool attached are online size well).size_is, meant_then attached are online size well);
    complete = λ size well whole. carried_then attached are online size well whole;
  }

  pub task_done : PoolOutcome seen shelf runs bay after task names text rest out out' status → CarriesOut seen shelf runs bay after task names text rest out out' status
  task_done (unattached_pool refused) = inl (wanting_name (seen bay) (seen after) (shelf bay) (shelf after) names out out' status differ attaching sound refused)
  task_done (unread_words same says) = inl (said Memory status _ out out' sound says)
  task_done (not_asked on) = inl (said Memory status _ out out' sound on.outcome.2)
  task_done (on_pool on) = inr (record { attached = on.attached; are = on.are; outcome = carried on.attached on.are on.outcome })

-- ---- layouts and new pools

planned : (units : List ℕ) (error : PlanError) → HavePlan units → IsUnplanned units error → ⊥
planned units FewDrives plan few = let least = plan.least in omega (arith, least, few)
planned units TooMany plan many = let most = plan.most in omega (arith, most, many)
planned units (NoRoom drive) plan none =
    let at = position-Some (λ own. own == 0) units drive 0 none.2 in
    let some = plan.some drive (get_or units drive 0) (slice_get-get_or units drive 0 at.0) in
    let zero = at.1 in
    absurd (grind (arith, nat_tests, some, zero))

-- drives that have a plan aren't refused
pub layout_done :
    (told : Type 0) (status : Status) (units out out' : List ℕ) → (status ≡ Sink → ⊥) → Prints told status units out out' → HavePlan units → IsDone status
layout_done told status units out out' sound prints plan = of prints.answer refl prints.status_is
  where
    of : (answer : Result Layers PlanError) → prints.answer ≡ answer → (status ≡ answer_status answer) ⊎ (status ≡ Sink) → IsDone status
    of (Ok layers) is came = elim came [ inl done ↦ inl done | inr failed ↦ absurd (sound failed) ]
    of (Err FewDrives) is came = absurd (planned units FewDrives plan (prints.is_answer.too_few.0 is))
    of (Err TooMany) is came = absurd (planned units TooMany plan (prints.is_answer.too_many.0 is))
    of (Err (NoRoom drive)) is came = absurd (planned units (NoRoom drive) plan ((prints.is_answer.no_room drive).0 is))

module _ {B : Type 0} (seen : B → RackView) (shelf : B → Shelf) (runs : B → B → Type 0) (bay after : B) (names : List (List ℕ)) (extent : ℕ) (birth : Birth) (out out' : List ℕ) (status : Status)
    (sound : status ≡ Sink → ⊥) (differ : Differ names) (attached : Rose (shelf bay).faults (shelf after).faults → ⊥)
    (plan : HavePlan (units_on (seen after) extent)) (calm : NoneRefused (seen after)) where
  made_on : (at : B) → AreAttached (seen bay) (seen at) (shelf bay) (shelf at) names → MakeOutcome seen runs at after extent birth out out' status → IsDone status
  made_on at are (inr new) = inl (said Done status _ out out' sound new.says)
  made_on at are (inl fails) = of fails.why fails.cause fails.says
    where
      of : (why : CreateFault) → HasFaultCause seen why at after extent birth → Says (fault_status why) (refused_line (fault_words why)) out out' status → IsDone status
      of (Unplanned error) cause says = absurd (planned (units_on (seen after) extent) error plan (subst (λ b. IsUnplanned (units_on (seen b) extent) error) (sym cause.1) cause.0))
      of (Gone disk) cause says =
          let low = subst (λ n. disk < n) are.disks cause.0 in
          absurd (calm disk (subst (λ n. Rose n ((seen after).faults disk)) (are.unfaulted disk low) cause.1))
      of NoMemory cause says = inr (said Memory status _ out out' sound says)

  pub create_done : CreateOutcome seen shelf runs bay after names extent birth out out' status → IsDone status
  create_done (unattached_disks refused) = inr (wanting_name (seen bay) (seen after) (shelf bay) (shelf after) names out out' status differ attached sound refused)
  create_done (unread_create same says) = inr (said Memory status _ out out' sound says)
  create_done (on_new on) = made_on on.attached on.are on.outcome

-- ---- images

pub examine_done :
    (x : RackView) (s : Shelf) (y : RackView) (t : Shelf) (names : List (List ℕ)) (out out' : List ℕ) (status : Status) → (status ≡ Sink → ⊥) → Differ names → (Rose s.faults t.faults → ⊥)
    → ExamineOutcome x s y t names out out' status → NoneRefused y → IsDone status
examine_done x s y t names out out' status sound differ attached (unattached_image refused) calm =
    inr (wanting_name x y s t names out out' status differ attached sound refused)
examine_done x s y t names out out' status sound differ attached (unread_image says) calm = inr (said Memory status _ out out' sound says)
examine_done x s y t names out out' status sound differ attached (examined is) calm = of status sound is.ends (λ e. calm 0 (is.cause e))
  where
    of : (status : Status) → (status ≡ Sink → ⊥) → IsShown status → (status ≡ Refused → ⊥) → IsDone status
    of Done sound ends refused = inl refl
    of Words sound ends refused = absurd ends
    of Limit sound ends refused = absurd ends
    of Source sound ends refused = absurd ends
    of Sink sound ends refused = absurd (sound refl)
    of Refused sound ends refused = absurd (refused refl)
    of Memory sound ends refused = inr refl
    of Spent sound ends refused = absurd ends

-- ---- forms

-- Want of memory completes whatever the words ask for.
pub memory_done :
    {B : Type 0} (seen : B → RackView) (shelf : B → Shelf) (runs : B → B → Type 0) (bay after : B) (form : Form) (names : List (List ℕ)) (text rest out out' : List ℕ) (status : Status)
    → status ≡ Memory → Completes seen shelf runs bay after form names text rest out out' status
memory_done seen shelf runs bay after form names text rest out out' status is = of form
  where
    of : (form : Form) → Completes seen shelf runs bay after form names text rest out out' status
    of (forms.Layout request) = λ plan. inr is
    of (forms.Create extent) = λ plan calm. inr is
    of forms.Serve = inl is
    of forms.Import = inl is
    of forms.Export = inl is
    of forms.Status = inl is
    of forms.Examine = λ calm. inr is
    of (forms.Trial seed) = inl is

-- what is said of a form, by the names behind so many words
abbrev pub Clause :
    {B : Type 0} → (B → RackView) → (B → Shelf) → (B → B → Type 0) → B → B → Type 0 → (ℕ → List (List ℕ)) → List ℕ → List ℕ → List ℕ → List ℕ → ℕ → ℕ → ℕ → ℕ → ℕ → Form → Type 0
Clause seen shelf runs bay after told names text rest out out' source source' sink sink' code form =
    (reads_input (Some form) ≡ true → told) → NothingFails form (names (before_names form)) (shelf bay) (shelf after) source source' sink sink'
    → Ended code (Completes seen shelf runs bay after form (names (before_names form)) text rest out out')

-- what holds of the form that was found holds of the form
pub for_form : (P : Form → Type 0) (all : Option Form) (found form : Form) → all ≡ Some found → all ≡ Some form → P found → P form
for_form P all found form first second holds = subst P (same (sym first ∙ second)) holds
  where
    same : Some found ≡ Some form → found ≡ form
    same e = cc e

-- A task ended by its limit only where it is a script, which is longer.
pub serve_limit :
    (status : Status) (text rest : List ℕ) → KeepsLimit (status ≡ Limit) (2 ^ 32) text rest → (size : ℕ) → IsTakenWhole tasks.Serve text size → status ≡ Limit → ⊥
serve_limit status text rest keeps size whole is = let longer = (keeps.exact.0 is).longer in omega (arith, whole, longer)

-- A task is carried out on the disks of names that were read of the words.
pub task_carried :
    {B : Type 0} (seen : B → RackView) (shelf : B → Shelf) (runs : B → B → Type 0) (lasting : (b : B) → (seen b).lasting) (unspent : (b : B) (d s : ℕ) → (seen b).spent d s ≡ false)
    (shelves : (x y : B) → runs x y → KeepsShelf (shelf x) (shelf y)) (bay after : B) (task : Task) (names read : List (List ℕ)) (text rest out out' : List ℕ) (source source' sink sink' : ℕ) (status : Status) (form : Form)
    → uses_disks (Some form) ≡ true → HasStatusCause status source source' sink sink' → ((size : ℕ) → IsTakenWhole task text size → status ≡ Limit → ⊥)
    → NothingFails form names (shelf bay) (shelf after) source source' sink sink' → read ≡ names
    → PoolOutcome seen shelf runs bay after task read text rest out out' status → CarriesOut seen shelf runs bay after task names text rest out out' status
task_carried seen shelf runs lasting unspent shelves bay after task names read text rest out out' source source' sink sink' status form uses cause limit calm same came =
    task_done seen shelf runs lasting unspent shelves bay after task names text rest out out' status source source' sink sink' cause calm.taking calm.putting (calm.differ uses) calm.attaching limit
    (subst (λ ns. PoolOutcome seen shelf runs bay after task ns text rest out out' status) same came)

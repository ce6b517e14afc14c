-- A pool by which a run goes is one after a line, too.
use Rattle.std.proofs.Common.{◌≡◌, ◌⊎◌, ℕ, ◌+◌, ◌<◌, ◌≤◌, true, false, List, [], ◌∷◌, ◌++◌, length, Option, Some, None, refl, sym, ◌∙◌, ap, subst, inl, inr, arith, Ok, slice_get}
use Rattle.std.proofs.lemmas.Bool.{both_ways, cases_Bool}
use Rattle.std.proofs.lemmas.Option.{none-some}
use Rattle.rack.specs.Moments.{Leaves}
use Rattle.rack.specs.Seen.{Image, IsLive, IsPick}
use Rattle.rack.specs.Sequences.{WritesOnly}
use Rattle.rack.specs.Values.{Keeps, MayLeave}
use Rattle.rack.proofs.Writing.{only_weaker}
use Rattle.slice_rack.specs.Changes.{Seats}
use Rattle.slice_rack.specs.Runs.{IsSliced}
use Rattle.slice_rack.specs.Slices.{IsOrderly, Slices, disk_of, first_of, place_of, seat_of, sectors_of}
use Rattle.slice_rack.specs.Sliced.{IsInside, slices_of}
use Rattle.flat_array.specs.Array.{FlatArray}
use Rattle.lvm_group.specs.Runs.{Linear, array_of, sectors_in}
use Rattle.pool_state.specs.declared.contents.Copied.{Copied}
use Rattle.pool_state.specs.Sector.{decoded}
use Rattle.array_core.specs.TruthHeld.{HoldTruth}
use Rattle.array_core.proofs.Stripped.{some_same}
use Rattle.array_image.specs.Left.{IsLeft}
use Rattle.array_image.specs.Places.{log_slice, state_sector}
use Rattle.array_image.specs.States.{is_current}
use Rattle.raid_laws.specs.Book.{after_same}
use Rattle.raid_laws.specs.Agreeing.{HasOwnRows, SayTruth}
use Rattle.raid_laws.specs.Raid.{IsTracked, is_failed}
use Rattle.raid_laws.specs.Runs.{CrashInvariant}
use Rattle.raid_rack.proofs.TruthAgrees.{truth_said}
use Rattle.raid_laws.proofs.Whole.{own_rows}
use Rattle.assembler.specs.Sound.{TargetsLand}
use Rattle.pool_image.specs.Disks.{Disks}
use Rattle.pool_image.specs.Drives.{Found}
use Rattle.pool_model.specs.Absent.{AreOnly}
use Rattle.pool_model.specs.InService.{RunInvariant}
use Rattle.pool_model.specs.Grouped.{AreHeadsLive, HoldGroup}
use Rattle.pool_model.specs.Left.{RecoversIdle}
use Rattle.pool_model.specs.Reopening.{AreWholeSectors, NextOpen}
use Rattle.pool_model.specs.Stopped.{RecoversInCall, RecoversLanding, HoldTables, LieByTables}
use Rattle.pool_model.specs.Taken.{AreSerial, LacksDrive}
use Rattle.pool_model.proofs.Alone.{alone_begins, alone_calls, tabled_begins, tabled_calls}
use Rattle.pool_model.proofs.Amid.{service_amid, tables_amid, tables_begin, tables_calls, vacant_amid}
use Rattle.pool_model.proofs.Tables.{tables_vacant}
use Rattle.pool_model.proofs.InService.{in_service, service_again, service_calls, vacant_again}
use Rattle.pool_model.proofs.Landing.{landing_again}
use Rattle.pool_model.proofs.Named.{same_length}
use Rattle.pool_model.proofs.Reopening.{service_reopens, vacant_reopens}
use Rattle.pool_model.proofs.Vacant.{lacks_calls, sliced_before}
use Rattle.pool.specs.Calls.{CallFrame}
use Rattle.pool.specs.Moment.{moment_of}
use Rattle.pool.specs.View.{View, book, slices_shown, spent_by, volume}
use Rattle.pool.specs.Volume.{VolumeIs, is_spent, size_of}
use Rattle.shr_tool.specs.Between.{HoldsNext}
use Rattle.shr_tool.specs.Events.{Event, takes_disk}
use Rattle.shr_tool.specs.Events.Event.{answered, spent, lost, last, replaced, declined, stepped, stuck, shown}
use Rattle.shr_tool.specs.Outcome.{IsRunOn}
use Rattle.shr_tool.specs.Service.{AreUngiven, GoesBy, GoesOn, HoldOwn, IsFitFor, IsLoneFor, IsOut, IsOwnCopy, IsServed, Lone, StandsLone, pool_after}
use Rattle.shr_tool.specs.Timeline.{Changes, LineContract}
use Rattle.shr_tool.proofs.Absent.{stands_first}
use Rattle.shr_tool.proofs.Chains.{pool_still}
use Rattle.shr_tool.proofs.Declined.{on_declined}
use Rattle.shr_tool.proofs.Former.{going_seat, held_there, lacks_bare, log_many, log_on, not_over, own_current, own_since, seat_or, since_now, small, there as disk_there, told_by}
use Rattle.shr_tool.proofs.Taking.{none_takes}
use Rattle.shr_tool.proofs.TakenIn.{on_replaced}
use Rattle.shr_tool.proofs.LeavingOut.{alone_later, lone_sector, out_later}

-- at the beginning
service_first : (x : View) (f : Found) → IsRunOn f (moment_of x) x.bay → RunInvariant f x.slices (book x) x.bay
service_first x f on = in_service on.before f x.slices (book x) x.bay on.found_is on.sound on.slices on.after on.joined on.geometry on.rest

goes_first : {o : Option Lone} (x : View) (f : Found) → IsRunOn f (moment_of x) x.bay → ((l : Lone) → o ≡ Some l → StandsLone l f x.slices x)
    → GoesBy (TargetsLand f) o f x
goes_first x f on alone = record {
  tables = x.slices;
  service = service_first x f on;
  vacant = inl refl;
  lasting = on.lasting;
  arrays = on.arrays ∙ on.joined;
  orderly = on.orderly;
  laid = λ lands. tables_begin f x.slices (book x).state x.bay (on.landing lands) on.slices on.rest;
  tabled = tabled_begins f (book x).state x.slices x.bay on.tables on.rest;
  alone = alone;
}

pub goes_run : (x : View) (f : Found) → IsRunOn f (moment_of x) x.bay → GoesBy (TargetsLand f) None f x
goes_run x f on = goes_first x f on (λ l none. absurd (none-some l none))

-- where no second disk stood for a place of a drive, and none that isn't left out had an id that is given later
pub goes_lone : (x : View) (f : Found) (a : FlatArray) (l : Lone) → (volume x).fit → VolumeIs x a → IsRunOn f (moment_of x) x.bay → AreOnly f → AreUngiven f l x.shelf.names
    → GoesBy (TargetsLand f) (Some l) f x
goes_lone x f a l fit holds on only ungiven =
    goes_first x f on
    (λ k same.
    subst (λ k. StandsLone k f x.slices x) (some_same l k same)
    (record {
      alone =
          alone_begins f l.bound (IsOut l x.shelf.names) (book x).state x.slices x.bay (stands_first f (moment_of x) x.bay on only) ungiven.others on.rest;
      distinct = ungiven.distinct;
      own = λ s within alive p d u copy seat why may is.
          let goes = goes_run x f on in
          own_current x p fit f goes d seat (going_seat x f goes p d seat (on.present p d seat)) holds s within alive (on.present p d seat) u copy may is;
    }))

-- a sector of a slice is one by the pool's tables
pub sliced_was : {L : Type 0} {o : Option Lone} (x : View) (f : Found) (goes : GoesBy L o f x) (d s : ℕ) (w : List ℕ) → IsSliced x.slices d s w → IsSliced goes.tables d s w
sliced_was x f goes d s w is = elim goes.vacant [
  | inl same ↦ subst (λ t. IsSliced t d s w) same is
  | inr one ↦ sliced_before goes.tables x.slices one.0 one.2.vacated d s w is
]

-- a pool stands alone after calls that take no disk
module _ {L : Type 0} {o : Option Lone} (x y : View) (f : Found) (b : FlatArray) (unspent : (d s : ℕ) → y.bay.spent d s ≡ false) (fit : (volume x).fit) (holds : VolumeIs x b)
    (passes : CallFrame x y) (goes : GoesBy L o f x) (l : Lone) (so : o ≡ Some l) where
  stands : StandsLone l f goes.tables x
  stands = goes.alone l so

  names : (d : ℕ) (name : List ℕ) → slice_get x.shelf.names d ≡ Some name → slice_get y.shelf.names d ≡ Some name
  names d name is = ap (λ (n : List (List ℕ)). slice_get n d) passes.shelf.names ∙ is

  -- a drive's copy, where its place has it by the run's slices
  module _ (p d : ℕ) (seat : f.seats p ≡ Some d) (on : seat_of x.slices p ≡ Some d) where
    few : p < 16
    few = small x p fit f goes d seat on

    there : 0 < sectors_of y.slices (log_slice p)
    there = (let many = ap (λ (t : Slices). sectors_of t (log_slice p)) passes.slices ∙ log_many x p fit f goes d seat on in omega (arith, many))

    held_shown : (slices_shown y).held (log_slice p) 0 ≡ y.bay.held d state_sector
    held_shown = ap (λ (t : Slices). (slices_of t y.bay).held (log_slice p) 0) passes.slices ∙ held_there x p fit f goes d seat on y.bay

    -- it is its own where the place was current
    own_still : (s : ℕ) → s < size_of x → is_spent x s ≡ false → spent_by x.linear (book y) s ≡ false → is_current (book x).state p ≡ true → (u : List ℕ) (copy : Copied)
        → MayLeave (y.bay.held d state_sector) u → decoded u ≡ Ok copy → IsOwnCopy f.state p copy
    own_still s within alive left current u copy may is =
        let told = told_by x b s fit holds within alive in
        let kept =
        passes.moments.since (array_of x.linear s) (book x).state told (not_over x.linear (book y) s left) (after_same (book x).state) (since_now x b s fit holds within alive) in
        own_since f.state (book x).state p u copy goes.service.after ((kept.holds p u few there (subst (λ h. MayLeave h u) (sym held_shown) may)).own current) is

    -- and where it was missing its sector keeps its values
    kept_missing : is_current (book x).state p ≡ false → Keeps (x.bay.held d state_sector) (y.bay.held d state_sector)
    kept_missing missing =
        let at : place_of (log_slice p) ≡ p = omega arith in
        subst (λ h. Keeps h (y.bay.held d state_sector)) (held_there x p fit f goes d seat on x.bay)
        (subst (λ h. Keeps ((slices_shown x).held (log_slice p) 0) h) held_shown
        (passes.unwritten (log_slice p) 0 live (subst (λ k. is_current (book x).state k ≡ false) (sym at) missing)))
      where
        live : IsLive (slices_shown x) (slices_shown y) (log_slice p) 0
        live = record {
          disk = (let low = few in omega (arith, low));
          sector = there;
          is_told = subst x.bay.told (sym (log_on x p fit f goes d seat on)) (holds.disks d (disk_there x p fit f goes d seat on));
          unspent = unspent (disk_of y.slices (log_slice p)) (first_of y.slices (log_slice p) + 0);
        }

  -- so it does where the place has given its disk up
  kept_vacant : (p d : ℕ) → f.seats p ≡ Some d → Seats goes.tables x.slices p None → state_sector < x.bay.sectors d → Keeps (x.bay.held d state_sector) (y.bay.held d state_sector)
  kept_vacant p d seat vacated within =
      let low : d < x.bay.disks = subst (λ (k : Disks). d < k.count) goes.service.disks (goes.service.arranged.seated p d seat).1 in
      passes.apart.others d state_sector
      (record {
        disk = subst (λ n. d < n) (sym passes.apart.stays.disks) low;
        sector = subst (λ n. state_sector < n) (sym (passes.apart.stays.sectors d)) within;
        is_told = holds.disks d low;
        unspent = unspent d state_sector;
      })
      (lacks_bare x f goes p d seat vacated state_sector)

  own_calls : (s : ℕ) → s < size_of y → is_spent y s ≡ false → HoldOwn f (IsOut l y.shelf.names) (book y).state y.bay
  own_calls s within alive p d u copy seat why may is = elim (cases_Bool (is_current (book x).state p)) [
    | inl current ↦ own_still p d seat (going_seat x f goes p d seat current) s within_first alive_first alive_then current u copy may is
    | inr missing ↦
        (let why_first : (is_current (book x).state p ≡ true) ⊎ (IsOut l x.shelf.names d → ⊥) =
        elim why [ inl now ↦ inl (passes.marks.current p now) | inr stays ↦ inr (λ out. stays (out_later l x.shelf.names y.shelf.names names d out)) ] in
        let kept : Keeps (x.bay.held d state_sector) (y.bay.held d state_sector) =
        elim (seat_or x f goes p d seat) [
          | inl on ↦ kept_missing p d seat on missing
          | inr lacks ↦ kept_vacant p d seat lacks.vacated (lone_sector x f goes l so p d seat why_first)
        ] in
        stands.own s within_first alive_first p d u copy seat why_first (kept.within u may) is)
  ]
    where
      within_first : s < size_of x
      within_first = subst (λ k. s < k) (passes.stays.sectors 0) within

      alive_first : is_spent x s ≡ false
      alive_first = passes.stays.spent 0 s alive

      alive_then : spent_by x.linear (book y) s ≡ false
      alive_then = subst (λ (k : Linear). spent_by k (book y) s ≡ false) passes.linear alive

  stands_calls : WritesOnly x.bay y.bay (IsSliced goes.tables) → StandsLone l f goes.tables y
  stands_calls only = record {
    alone =
        alone_later f l x.shelf.names y.shelf.names names (book y).state (book y).state goes.tables y.bay (λ p now. now)
        (alone_calls f l.bound (IsOut l x.shelf.names) (book x).state (book y).state goes.tables x.bay y.bay passes.marks.current goes.lasting only stands.alone);
    distinct = stands.distinct;
    own = own_calls;
  }

-- after calls that take no disk
pub goes_calls : {L : Type 0} {o : Option Lone} (x y : View) (f : Found) (b : FlatArray) → ((d s : ℕ) → y.bay.spent d s ≡ false) → (volume x).fit → VolumeIs x b → CallFrame x y
    → GoesBy L o f x → GoesBy L o f y
goes_calls x y f b unspent fit holds passes goes = record {
  tables = goes.tables;
  service =
      service_calls f goes.tables (book x) (book y) x.bay y.bay goes.service goes.lasting
      (only_weaker (IsSliced x.slices) (IsSliced goes.tables) (sliced_was x f goes) passes.apart) passes.marks (λ n low. (passes.book n low).geometry);
  vacant = elim goes.vacant [
    | inl same ↦ inl (passes.slices ∙ same)
    | inr one ↦
        inr (
          one.0,
          (let many = same_length (book y).state.drives.items (book x).state.drives.items passes.marks.same.drives in let low = one.1 in
              let listed : one.0 < length (book y).state.drives.items = omega (arith, many, low) in listed),
          subst (λ (u : Slices). LacksDrive f goes.tables u (book y) one.0 y.bay) (sym passes.slices)
              (lacks_calls f goes.tables x.slices (book x) (book y) one.0 x.bay y.bay goes.lasting passes.apart passes.marks one.2),
        )
  ];
  lasting = passes.apart.stays.lasting goes.lasting;
  arrays = ap (λ (l : Linear). l.arrays) passes.linear ∙ goes.arrays;
  orderly = subst IsOrderly (sym passes.slices) goes.orderly;
  laid = λ lands.
      tables_calls f goes.tables (book x).state (book y).state x.bay y.bay goes.lasting
      (only_weaker (IsSliced x.slices) (IsSliced goes.tables) (sliced_was x f goes) passes.apart) passes.marks (goes.laid lands);
  tabled =
      tabled_calls f (book x).state (book y).state goes.tables x.bay y.bay passes.marks.current goes.lasting
      (only_weaker (IsSliced x.slices) (IsSliced goes.tables) (sliced_was x f goes) passes.apart) goes.tabled;
  alone = λ l so.
      stands_calls x y f b unspent fit holds passes goes l so (only_weaker (IsSliced x.slices) (IsSliced goes.tables) (sliced_was x f goes) passes.apart);
}

-- the tables have the members' slices where the run has them
tables_now : {L : Type 0} {o : Option Lone} (x : View) (f : Found) → GoesBy L o f x → L → HoldTables f x.slices (book x).state x.bay
tables_now x f goes lands = elim goes.vacant [
  | inl same ↦ subst (λ (t : Slices). HoldTables f t (book x).state x.bay) (sym same) (goes.laid lands)
  | inr one ↦ tables_vacant f goes.tables x.slices one.0 (book x).state x.bay one.2.vacated one.2.missing (goes.laid lands)
]

-- Its arrays' rows are their own. Where the arrays are told and none is over, and superblocks say their truths, whatever a stop leaves says them.
module _ {L : Type 0} {o : Option Lone} (x : View) (f : Found) (fit : (volume x).fit) (goes : GoesBy L o f x) where
  made_now : (n : ℕ) → n < f.state.made → n < (book x).state.made
  made_now n low = (let made = goes.service.after.same.made in omega (arith, low, made))

  pub own_now : (n : ℕ) → n < f.state.made → HasOwnRows ((book x).arrays n)
  own_now n low = own_rows (book x) (slices_shown x) n fit.0.running.set fit.0.heeded (made_now n low)

  pub say_now : ((n : ℕ) → n < f.state.made → IsTracked (book x) (slices_shown x) n) → ((n : ℕ) → n < f.state.made → is_failed (book x) n ≡ false)
      → ((n : ℕ) → n < f.state.made → HoldTruth ((book x).arrays n) (slices_shown x))
      → (n : ℕ) (r : Image) → n < f.state.made → IsLeft (slices_shown x) r → SayTruth ((book x).arrays n) (book x).state r n
  say_now told lasts truths n r low left =
      truth_said (book x) (slices_shown x) n fit.0.running.set fit.0.heeded (made_now n low) (told n low) (lasts n low) (truths n low) r left

-- Whatever the disks may be left with holds it again. Where superblocks say their arrays' truths, and the arrays hold the group of a volume, it is opened as this volume.
pub goes_again :
    {L G : Type 0} {o : Option Lone} (x : View) (f : Found) (l : Linear) → (volume x).fit → GoesBy L o f x
    → ((n : ℕ) → n < f.state.made → IsTracked (book x) (slices_shown x) n) → ((n : ℕ) → n < f.state.made → is_failed (book x) n ≡ false)
    → ((n : ℕ) → n < f.state.made → HoldTruth ((book x).arrays n) (slices_shown x)) → (G → AreHeadsLive (book x) → HoldGroup (book x) l (slices_shown x))
    → (i : Image) → IsPick x.bay x.bay x.bay.held i → HoldsNext L G f x.slices l (book x) i
goes_again {L} {G} x f l fit goes told lasts truths group i pick = record { again = again; landing = landing; opens = opens }
  where
    inside : IsInside x.slices x.bay
    inside = fit.0.running.set.fit.1

    again : RecoversIdle f x.slices (book x).state i
    again = elim goes.vacant [
      | inl same ↦
          subst (λ (t : Slices). RecoversIdle f t (book x).state i) (sym same)
          (service_again f goes.tables (book x) x.bay goes.service (subst (λ (t : Slices). IsInside t x.bay) same inside)
          (λ n low. subst (λ (t : Slices). IsTracked (book x) (slices_of t x.bay) n) same (told n low)) lasts i pick)
      | inr one ↦ vacant_again f goes.tables x.slices (book x) x.bay one.0 goes.service one.2 inside told lasts i pick
    ]

    landing : L → RecoversLanding f x.slices (book x).state i
    landing lands = landing_again f x.slices (book x).state x.bay (tables_now x f goes lands) i pick again

    say : (n : ℕ) (r : Image) → n < f.state.made → IsLeft (slices_shown x) r → SayTruth ((book x).arrays n) (book x).state r n
    say = say_now x f fit goes told lasts truths

    own : (n : ℕ) → n < f.state.made → HasOwnRows ((book x).arrays n)
    own = own_now x f fit goes

    opens : G → AreHeadsLive (book x) → AreWholeSectors f.disks i → NextOpen f x.slices l (book x) i
    opens says heads whole = elim goes.vacant [
      | inl same ↦
          subst (λ (t : Slices). NextOpen f t l (book x) i) (sym same)
          (service_reopens f goes.tables (book x) l x.bay goes.service (subst (λ (t : Slices). IsInside t x.bay) same inside)
          (λ n low. subst (λ (t : Slices). IsTracked (book x) (slices_of t x.bay) n) same (told n low)) lasts goes.tabled
          (λ n r low left. say n r low (subst (λ (t : Slices). IsLeft (slices_of t x.bay) r) (sym same) left)) own
          (subst (λ (t : Slices). HoldGroup (book x) l (slices_of t x.bay)) same (group says heads)) heads i pick whole)
      | inr one ↦
          vacant_reopens f goes.tables x.slices (book x) l x.bay one.0 goes.service one.2 inside told lasts goes.tabled say own (group says heads) heads i pick whole
    ]

-- What a stop leaves inside calls that take no disk holds it too.
pub goes_amid :
    {L : Type 0} {o : Option Lone} (x y : View) (f : Found) → IsInside x.slices x.bay → CallFrame x y → GoesBy L o f x → L
    → ((n : ℕ) → n < f.state.made → IsTracked (book x) (slices_of x.slices x.bay) n) → ((n : ℕ) → n < f.state.made → is_failed (book y) n ≡ false)
    → x.bay.traced → Leaves x.bay y.bay (RecoversInCall f x.slices (book x).state (book y).state)
goes_amid x y f inside passes goes lands told lasts traced =
    let moments : CrashInvariant (book x) (book y) (slices_of x.slices x.bay) (slices_of x.slices y.bay) =
    subst (λ (t : Slices). CrashInvariant (book x) (book y) (slices_of x.slices x.bay) (slices_of t y.bay)) passes.slices passes.moments in
    let amid : Leaves x.bay y.bay (λ i. LieByTables f x.slices (book x).state i → RecoversInCall f x.slices (book x).state (book y).state i) =
    elim goes.vacant [
      | inl same ↦
          service_amid f x.slices (book x) (book y) x.bay y.bay (subst (λ (t : Slices). RunInvariant f t (book x) x.bay) (sym same) goes.service) goes.orderly inside
          goes.lasting passes.apart moments told lasts traced
      | inr one ↦
          vacant_amid f goes.tables x.slices (book x) (book y) x.bay y.bay one.0 goes.service one.2 goes.orderly inside
          goes.lasting passes.apart moments told lasts traced
    ] in
    let lie = tables_amid f x.slices (book x).state x.bay y.bay goes.lasting passes.apart (tables_now x f goes lands) traced in
    record {
      later = amid.later;
      kept = amid.kept;
      past = amid.past;
      new = λ k i since until stopped. amid.new k i since until stopped (lie.new k i since until stopped);
    }

-- ---- a line

-- a sector that can be had after an event that takes a disk could be had before
spent_changes : (x y : View) (event : Event) → takes_disk event ≡ true → Changes x y event → (s : ℕ) → is_spent y s ≡ false → is_spent x s ≡ false
spent_changes x y (answered line) takes changes s = absurd (both_ways false refl takes)
spent_changes x y (spent line sector) takes changes s = absurd (both_ways false refl takes)
spent_changes x y (lost place) takes changes s = absurd (both_ways false refl takes)
spent_changes x y (last place) takes changes s = absurd (both_ways false refl takes)
spent_changes x y (replaced place name) takes changes s = changes.0.spent s
spent_changes x y (declined place name fault) takes changes s = changes.0.spent s
spent_changes x y (stepped count left) takes changes s = absurd (both_ways false refl takes)
spent_changes x y (stuck count array) takes changes s = absurd (both_ways false refl takes)
spent_changes x y (shown text) takes changes s = absurd (both_ways false refl takes)

spent_performed : (x y : View) (event : Event) (text : List ℕ) → LineContract x y event text → (s : ℕ) → is_spent y s ≡ false → is_spent x s ≡ false
spent_performed x y event text performs s alive = elim (cases_Bool (takes_disk event)) [
  | inl takes ↦ spent_changes x y event takes (performs.changes takes) s alive
  | inr none ↦ (performs.passes none).stays.spent 0 s alive
]

pub served_first :
    (y z : View) (events : List Event) (event : Event) (text : List ℕ) → LineContract y z event text
    → IsServed (moment_of z) (events ++ event ∷ []) → IsServed (moment_of y) events
served_first y z events event text performs (inl none) = inl (none_takes events event none).0
served_first y z events event text performs (inr some) =
    inr (
      some.0,
      subst (λ (l : Linear). some.0 < sectors_in l) performs.continues.linear some.1,
      spent_performed y z event text performs some.0 some.2,
    )

-- an event takes no disk, or a sector of the volume can be had after it
abbrev pub IsServedBy : View → View → Event → Type 0
IsServedBy y z event = (takes_disk event ≡ false) ⊎ ((s : ℕ) × (s < size_of y) × (spent_by y.linear (book z) s ≡ false))

pub served_last :
    (y z : View) (events : List Event) (event : Event) → z.linear ≡ y.linear
    → IsServed (moment_of z) (events ++ event ∷ []) → IsServedBy y z event
served_last y z events event same (inl none) = inl (none_takes events event none).1
served_last y z events event same (inr some) =
    inr (subst (λ (l : Linear). (s : ℕ) × (s < size_of (record y { linear = l })) × (spent_by l (book z) s ≡ false)) same (some.0, some.1, some.2))

pub goes_performed :
    {L : Type 0} {o : Option Lone} (x y : View) (event : Event) (text : List ℕ) (b : FlatArray)
    → ((d s : ℕ) → y.bay.spent d s ≡ false) → (volume x).fit → LineContract x y event text → VolumeIs x b → IsServedBy x y event
    → (f : Found) → GoesBy L o f x → (takes_disk event ≡ true → AreSerial f.state) → IsFitFor f (moment_of x) event
    → ((l : Lone) → o ≡ Some l → IsLoneFor f l (moment_of x) (moment_of y) event) → ((l : Lone) → o ≡ Some l → (book y).state.serial ≤ l.bound)
    → GoesOn L o f (pool_after f (moment_of x) (moment_of y) event) y
goes_performed {L} {o} x y event text b unspent fit performs holds served f goes serials fitting lone early = elim (cases_Bool (takes_disk event)) [
  | inr none ↦
      subst (λ h. GoesOn L o f h y) (sym (pool_still f (moment_of x) (moment_of y) event none))
      (record { goes = goes_calls x y f b unspent fit holds (performs.passes none) goes; serials = λ serial. serial })
  | inl takes ↦ taking event takes performs (serials takes) fitting lone (served_taking event takes served)
]
  where
    served_taking : (e : Event) → takes_disk e ≡ true → IsServedBy x y e → (s : ℕ) × (s < size_of x) × (spent_by x.linear (book y) s ≡ false)
    served_taking e takes (inl none) = absurd (both_ways (takes_disk e) none takes)
    served_taking e takes (inr some) = some

    taking : (e : Event) → takes_disk e ≡ true → LineContract x y e text → AreSerial f.state → IsFitFor f (moment_of x) e
        → ((l : Lone) → o ≡ Some l → IsLoneFor f l (moment_of x) (moment_of y) e) → (s : ℕ) × (s < size_of x) × (spent_by x.linear (book y) s ≡ false)
        → GoesOn L o f (pool_after f (moment_of x) (moment_of y) e) y
    taking (answered line) takes does serial fits lone some = absurd (both_ways false refl takes)
    taking (spent line sector) takes does serial fits lone some = absurd (both_ways false refl takes)
    taking (lost place) takes does serial fits lone some = absurd (both_ways false refl takes)
    taking (last place) takes does serial fits lone some = absurd (both_ways false refl takes)
    taking (replaced place name) takes does serial fits lone some = on_replaced x y place name text b unspent fit does holds some f goes fits serial early
    taking (declined place name fault) takes does serial fits lone some = on_declined x y place name fault text b takes unspent fit does holds some f goes (fits takes) lone
    taking (stepped count left) takes does serial fits lone some = absurd (both_ways false refl takes)
    taking (stuck count array) takes does serial fits lone some = absurd (both_ways false refl takes)
    taking (shown text') takes does serial fits lone some = absurd (both_ways false refl takes)

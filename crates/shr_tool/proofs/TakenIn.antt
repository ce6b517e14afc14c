-- A pool by which a run goes is one after a line that took a drive in.
use Rattle.std.proofs.Common.{◌≡◌, ◌≢◌, ◌⊎◌, ℕ, ◌+◌, ◌-◌, ◌<◌, ◌≤◌, ◌^◌, ◌||◌, not, nat_lt, if◌then◌else◌, Bool, true, false, is_some, List, length, slice_get, Option, Some, None, unwrap_or, option_map, Result, Ok, Err, refl, sym, ◌∙◌, ap, ap₂, subst, inl, inr, eq-eqb, arith}
use Rattle.std.specs.Option.{option_map_or}
use Rattle.std.proofs.lemmas.Bool.{both_ways, cases_eq, cases_lt}
use Rattle.std.proofs.lemmas.Option.{none-some}
use Rattle.rack.specs.Seen.{Image, IsLive}
use Rattle.rack.specs.Values.{Keeps, MayLeave}
use Rattle.slice_rack.specs.Changes.{Seats}
use Rattle.slice_rack.specs.Runs.{IsSliced}
use Rattle.slice_rack.specs.Slices.{Slices, seat_of}
use Rattle.slice_rack.specs.Sliced.{slices_of}
use Rattle.flat_array.specs.Array.{FlatArray}
use Rattle.lvm_group.specs.Runs.{Linear, array_of}
use Rattle.shr_base.specs.declared.Id.{Id}
use Rattle.pool_state.specs.declared.contents.Copied.{Copied}
use Rattle.pool_state.specs.declared.contents.Drive.{Drive}
use Rattle.pool_state.specs.declared.contents.Plan.TheVariants.{Replace as Replacing}
use Rattle.pool_state.specs.declared.contents.State.{State}
use Rattle.array_image.specs.Places.{state_sector, super_sector}
use Rattle.array_image.specs.States.{is_current}
use Rattle.array_core.proofs.Opened.{current_below}
use Rattle.array_core.specs.Seats.{seat_of as slot_of}
use Rattle.array_core.proofs.Stripped.{some_same}
use Rattle.array_model.specs.View.{View as ArrayView}
use Rattle.raid_laws.specs.Enlisting.{enlisted, new_table}
use Rattle.raid_laws.specs.NewDrive.{SeatsDrive, is_reached, joins}
use Rattle.raid_laws.proofs.Over.{number_room}
use Rattle.pool_image.specs.Disks.{Disks, disks_of, identities_of}
use Rattle.pool_image.specs.Drives.{Found, first_of as first_in}
use Rattle.pool_image.specs.Meaning.{array_sectors, is_member, is_table}
use Rattle.pool_model.specs.Alone.{IsStranger, IsTabled, TakesAlone}
use Rattle.pool_model.specs.InService.{RunInvariant}
use Rattle.pool_model.specs.Left.{HasNoSuper, IsPickOutsideSlices}
use Rattle.raid_laws.specs.Missing.{raised}
use Rattle.pool_model.specs.Taken.{AreDistinct, AreSerial, KeepsOutsideSlices, KeepsRest, SeatsNew, taken}
use Rattle.pool_model.proofs.Alone.{alone_taken, says_own, stranger_former, tabled_taken}
use Rattle.shr_tool.proofs.NewTabled.{tabled_new}
use Rattle.pool_model.proofs.Before.{off_before, was as image_before, was_other as image_other}
use Rattle.pool_model.proofs.InService.{service_taken}
use Rattle.pool_model.proofs.Joined.{few_same}
use Rattle.pool_model.proofs.Lost.{epoch_room, log_lies}
use Rattle.pool_model.proofs.NewMembers.{joins_member, positions_of}
use Rattle.pool_model.proofs.Serials.{serial_after, serial_enlisted, serial_fresh}
use Rattle.pool_model.proofs.Tables.{tables_taken}
use Rattle.pool_model.proofs.Taken.{IsKnownBefore, sectors_taken}
use Rattle.pool_model.proofs.Unsliced.{free_super, laid_super, past_log}
use Rattle.pool_model.proofs.Vacant.{lacks_still, seats_through, sliced_before}
use Rattle.pool.specs.declared.replacing.GrowFault.{GrowFault}
use Rattle.pool.specs.declared.replacing.GrowFault.TheVariants.{Attach, Memory, NoSuchDrive, Twice}
use Rattle.pool.specs.Continuing.{Continues, KeepsOutside}
use Rattle.pool.specs.Moment.{IsNamed, moment_of, views_of}
use Rattle.pool.specs.Naming.{EntersNamed}
use Rattle.pool.specs.Replaced.{ChangesDrive, HasGrowCause, IsAnswer, IsLookedAt, IsReplaced, is_vacant}
use Rattle.pool.specs.Replacing.{refusal_of}
use Rattle.pool.specs.View.{View, book, spent_by, volume}
use Rattle.pool.specs.Volume.{VolumeIs, is_spent, size_of}
use Rattle.pool.proofs.Admitted.{admitted, others_current, reaches_each}
use Rattle.pool.specs.Replacing.{IsAdmitted}
use Rattle.shr_tool.specs.Events.Event.{replaced}
use Rattle.shr_tool.specs.Service.{GoesBy, GoesOn, HoldOwn, IsFitDrive, IsOut, IsOwnCopy, Lone, StandsLone, disk_in, pool_after, units_in}
use Rattle.shr_tool.specs.Timeline.{LineContract}
use Rattle.shr_tool.proofs.Entered.{own_entered}
use Rattle.shr_tool.proofs.Former.{copy_parts, gave_below, going_seat, held_log, lacks_bare, not_over, on_same, seat_listed, seat_or}
use Rattle.shr_tool.proofs.GivesWay.{entered_copy}
use Rattle.shr_tool.proofs.LeavingOut.{alone_later, lone_sector, out_later}
use Rattle.shr_tool.proofs.Replacing.{has_its_units}
use Rattle.shr_tool.proofs.TakenTables.{lies_taken, table_taken}

-- ---- what holds of each line that names a disk

module _ {L : Type 0} {o : Option Lone} (x y : View) (place : ℕ) (name : List ℕ) (unspent : (d s : ℕ) → y.bay.spent d s ≡ false) (continues : Continues x y)
    (outside : KeepsOutside x.slices y.slices (λ d. slice_get y.shelf.names d ≡ Some name) x.shelf.told x.bay y.bay) (changes : ChangesDrive x y place name)
    (told : (d : ℕ) → d < y.bay.disks → y.bay.told d) (f : Found) (goes : GoesBy L o f x) where
  pub count_is : f.disks.count ≡ x.bay.disks
  count_is = ap (λ (z : Disks). z.count) goes.service.disks

  pub disks_more : f.disks.count ≤ y.bay.disks
  disks_more = let same = count_is in let more = continues.proceeds.disks.disks in omega (arith, same, more)

  pub sectors_kept : (d : ℕ) → d < f.disks.count → y.bay.sectors d ≡ f.disks.sectors d
  sectors_kept d low = continues.proceeds.disks.sectors d (let same = count_is in omega (arith, low, same)) ∙ sym (ap (λ (z : Disks). z.sectors d) goes.service.disks)

  pub sliced_old : (d s : ℕ) (w : List ℕ) → IsSliced x.slices d s w → IsSliced goes.tables d s w
  sliced_old d s w is = elim goes.vacant [
    | inl same ↦ subst (λ (t : Slices). IsSliced t d s w) same is
    | inr one ↦ sliced_before goes.tables x.slices one.0 one.2.vacated d s w is
  ]

  -- outside the slices the disks show what they did, but for these
  pub keeps_but : (named : ℕ → Type 0) → KeepsOutside x.slices y.slices named x.shelf.told x.bay y.bay → (t : Slices)
      → ((d s : ℕ) (w : List ℕ) → IsSliced x.slices d s w → IsSliced t d s w) → (disk : ℕ) → ((d : ℕ) → d ≢ disk → named d → ⊥) → KeepsOutsideSlices t disk x.bay y.bay
  keeps_but named kept t old disk unnamed d s other live never = (
    record {
      disk = (let low = live.disk in let more = continues.proceeds.disks.disks in omega (arith, low, more));
      sector = subst (λ n. s < n) (sym (continues.proceeds.disks.sectors d live.disk)) live.sector;
      is_told = continues.tells d live.disk live.is_told;
      unspent = unspent d s;
    },
    kept.held d s
        (record { disk = live.disk; sector = live.sector; is_told = live.is_told; unnamed = unnamed d other; unsliced = λ w is. never w (old d s w is) }),
  )

  pub keeps_off : (t : Slices) → ((d s : ℕ) (w : List ℕ) → IsSliced x.slices d s w → IsSliced t d s w) → (disk : ℕ)
      → ((d : ℕ) → d ≢ disk → IsNamed (moment_of y) name d → ⊥) → KeepsOutsideSlices t disk x.bay y.bay
  keeps_off t old disk unnamed = keeps_but (λ d. slice_get y.shelf.names d ≡ Some name) outside t old disk unnamed

  pub live_at : (d s : ℕ) → d < y.bay.disks → s < y.bay.sectors d → IsLive y.bay y.bay d s
  live_at d s low within = record { disk = low; sector = within; is_told = told d low; unspent = unspent d s }

  -- a seat of the pool is a seat of the run's, unless the place gave its disk up
  pub seat_now : (k d : ℕ) → f.seats k ≡ Some d → is_current (book x).state k ≡ true → seat_of x.slices k ≡ Some d
  seat_now k d seat current = going_seat x f goes k d seat current

  pub seat_low : (k d : ℕ) → f.seats k ≡ Some d → k < length (book x).state.drives.items
  seat_low = seat_listed f goes.tables (book x) x.bay goes.service

-- an epoch that is below one is below the next
up_of : (n k : ℕ) → k < n → k < raised n
up_of n k less = by (nat_lt n (2 ^ 63 - 1))
  where
    by : (c : Bool) → k < (if c then n + 1 else n)
    by true = omega (arith, less)
    by false = less

-- ---- a drive is replaced

pub ok_err : (e : GrowFault) → ◌≡◌ {A = Result (Unit {0}) GrowFault} (Ok tt) (Err e) → ⊥
ok_err e same = cc

answer_none : (o : Option GrowFault) → IsAnswer o (Ok tt) → o ≡ None
answer_none None answer = refl
answer_none (Some e) answer = absurd (ok_err e answer)

pub or_map : (o : Option Drive) (units : ℕ) → option_map (λ (d : Drive). d.units) o ≡ Some units → option_map_or (λ (d : Drive). d.units) o 0 ≡ units
or_map None units is = absurd (none-some units is)
or_map (Some d) units is = some_same d.units units is

pub vacant_not : (s : State) (k : ℕ) → is_current s k ≡ true → is_vacant s k ≡ false
vacant_not s k current = by (slice_get s.drives.items k) current
  where
    by : (o : Option Drive) → option_map_or (λ (d : Drive). not d.missing) o false ≡ true → option_map_or (λ (d : Drive). d.missing) o false ≡ false
    by None is = refl
    by (Some d) is = of d.missing is
      where
        of : (b : Bool) → not b ≡ true → b ≡ false
        of true is = absurd (both_ways false refl is)
        of false is = refl

pub reached_of : (arrays : List ArrayView) (place sectors n : ℕ)
    → ((u : ArrayView) → slice_get arrays n ≡ Some u → is_some (slot_of u place) ≡ true → joins arrays place sectors n ≡ true) → is_reached arrays place sectors n ≡ true
reached_of arrays place sectors n each = by (slice_get arrays n) refl
  where
    by : (o : Option ArrayView) → slice_get arrays n ≡ o → (option_map_or (λ u. not (is_some (slot_of u place))) o true || joins arrays place sectors n) ≡ true
    by None none = refl
    by (Some u) at = of (is_some (slot_of u place)) refl
      where
        of : (b : Bool) → is_some (slot_of u place) ≡ b → (not b || joins arrays place sectors n) ≡ true
        of false none = refl
        of true has = each u at has

module _ {L : Type 0} {o : Option Lone} (x y : View) (place : ℕ) (name text : List ℕ) (b : FlatArray) (unspent : (d s : ℕ) → y.bay.spent d s ≡ false) (fit : (volume x).fit)
    (performs : LineContract x y (replaced place name) text) (holds : VolumeIs x b) (some : (s : ℕ) × (s < size_of x) × (spent_by x.linear (book y) s ≡ false))
    (f : Found) (goes : GoesBy L o f x) (fitting : IsFitDrive f (moment_of x) place name) (serials : AreSerial f.state)
    (early : (l : Lone) → o ≡ Some l → (book y).state.serial ≤ l.bound) where
  abbrev pub changes : ChangesDrive x y place name
  changes = (performs.changes refl).0

  abbrev pub cause : HasGrowCause x.linear (moment_of x) (moment_of y) place name (Ok tt)
  cause = performs.cause.0

  pub listed : place < length (book x).state.drives.items
  listed = elim (cases_lt place (length (book x).state.drives.items)) [
    | inl low ↦ low
    | inr past ↦ absurd (ok_err NoSuchDrive (cause.missing.1 past))
  ]

  abbrev pub look : IsLookedAt (length (book x).state.drives.items) place (Ok tt)
  look = record { listed = listed; attached = λ same. ok_err Attach same; had = λ same. ok_err Memory same; other = λ same. ok_err Twice same }

  abbrev pub disk : ℕ
  disk = (cause.named look).0

  abbrev pub named : IsNamed (moment_of y) name disk
  named = (cause.named look).1

  abbrev pub is : IsReplaced (moment_of x) (moment_of y) place disk
  is = performs.cause.1 disk named

  free : IsAdmitted (book x) place (y.bay.sectors disk)
  free =
      admitted x.linear (book x) place (y.bay.sectors disk)
      (answer_none (refusal_of x.linear (book x) place (y.bay.sectors disk)) (cause.answer look disk named), has_its_units (slice_get (book x).state.drives.items place) is.units _ is.units_is is.enough)

  pub disk_is : disk_in (moment_of y) place ≡ disk
  disk_is = ap (λ o. unwrap_or o 0) (is.seats.seats place ∙ ap (λ (c : Bool). if c then Some disk else seat_of x.slices place) (eq-eqb place place refl))

  units_is : units_in (moment_of x) place ≡ is.units
  units_is = or_map (slice_get (book x).state.drives.items place) is.units is.units_is

  told : (d : ℕ) → d < y.bay.disks → y.bay.told d
  told = (performs.holds b holds).disks

  only : (d : ℕ) → d ≢ disk → IsNamed (moment_of y) name d → ⊥
  only d other also = other (changes.names.one d disk also named)

  abbrev pub t : Slices
  t = goes.tables

  pub alive : is_spent x some.0 ≡ false
  alive = changes.spent some.0 (subst (λ (l : Linear). spent_by l (book y) some.0 ≡ false) (sym performs.continues.linear) some.2)

  room : (book x).state.epoch < 2 ^ 63 - 1
  room =
      let most = (number_room (book y) (array_of x.linear some.0) (not_over x.linear (book y) some.0 some.2)).1 in
      epoch_room place is.units (Replacing place) (book x).state (book y).state is.marks (omega (arith, most))

  -- where a place gave its disk up it is this one
  vacant_is : (k : ℕ) → k < length (book x).state.drives.items → is_current (book x).state k ≡ false → k ≡ place
  vacant_is k low missing = elim (cases_eq k place) [
    | inl same ↦ same
    | inr other ↦ absurd (both_ways (is_current (book x).state k) missing (others_current (book x).state place free.whole k low other))
  ]

  seats : SeatsDrive (views_of (book x)) place disk (y.bay.sectors disk) t y.slices
  seats = elim goes.vacant [
    | inl same ↦ subst (λ (u : Slices). SeatsDrive (views_of (book x)) place disk (y.bay.sectors disk) u y.slices) same is.seats
    | inr one ↦
        seats_through t x.slices place (subst (λ p. Seats t x.slices p None) (vacant_is one.0 one.1 one.2.missing) one.2.vacated) (views_of (book x)) disk
        (y.bay.sectors disk) y.slices is.seats
  ]

  others : (k d : ℕ) → k ≢ place → f.seats k ≡ Some d → (is_current (book x).state k ≡ true) × (d ≢ disk)
  others k d other seat =
      let low = seat_low x y place name unspent performs.continues (performs.outside refl) changes told f goes k d seat in
      let current = others_current (book x).state place free.whole k low other in
      let on = seat_now x y place name unspent performs.continues (performs.outside refl) changes told f goes k d seat current in
      let there : d < x.bay.disks = fit.0.running.set.fit.1.seats k d on in (
        current,
        λ same.
            ok_err Twice (cause.twice.1 (
              listed,
              (d, k, changes.names.old d there (subst (IsNamed (moment_of y) name) (sym same) named), on, vacant_not (book x).state k current),
            )),
      )

  members : (n : ℕ) → n < f.state.made → joins (views_of (book x)) place (y.bay.sectors disk) n ≡ is_member f n place
  members n low =
      let truth = goes.service.arranged.truths n low in
      let made = goes.service.after.same.made in
      let less : n < (book x).state.made = omega (arith, low, made) in
      joins_member f (book x) place (y.bay.sectors disk) n truth.0 less truth.1 (goes.service.geometry n truth.0 low truth.1)
      (positions_of (book x).state n ((book x).arrays n) (slices_of x.slices x.bay) (fit.0.running.set.arrays n less))
      (reached_of (views_of (book x)) place (y.bay.sectors disk) n ((reaches_each (views_of (book x)) place (y.bay.sectors disk) free.reaches).1 n))

  serials_now : AreSerial (book x).state
  serials_now = serial_after f.state (book x).state goes.service.after serials

  pub seats_new : SeatsNew f t y.slices (book x) place disk (y.bay.sectors disk)
  seats_new = record {
    listed = listed;
    others = others;
    fresh = λ k other. serial_fresh (book x).state serials_now fitting.distinct k;
    room = room;
    seats = seats;
    members = members;
  }

  off : KeepsOutsideSlices t disk x.bay y.bay
  off = keeps_off x y place name unspent performs.continues (performs.outside refl) changes told f goes t
      (sliced_old x y place name unspent performs.continues (performs.outside refl) changes told f goes) disk only

  pub fewer : (d s : ℕ) (w : List ℕ) → d ≢ disk → IsSliced y.slices d s w → IsSliced x.slices d s w
  fewer d s w other at = elim ((performs.outside refl).slices d s w at) [ inl was ↦ was | inr also ↦ absurd (only d other also) ]

  known : IsKnownBefore f (book x)
  known = record { outset = goes.service.arranged; after = goes.service.after; geometry = goes.service.geometry }

  -- no superblock stands on the new disk where the place is no member, by what its image held and what was laid on it
  fit_alone : (i : Image) → IsPickOutsideSlices y.slices y.bay i → (n first : ℕ) → n < f.state.made → is_member f n place ≡ false → first_in f n ≡ Some first
      → first + super_sector < y.bay.sectors disk → HasNoSuper f.state.pool.0 n (i disk (first + super_sector))
  fit_alone i pick n first low none begins within =
      let sector = first + super_sector in
      let image = changes.image holds.shelf holds.disks disk named in
      let free = free_super f t y.slices (book x) place disk (y.bay.sectors disk) seats_new goes.service.slices known n first low begins none in
      let past = past_log f t y.slices (book x) place disk (y.bay.sectors disk) seats_new goes.service.slices known n first low begins none in
      let live = live_at x y place name unspent performs.continues (performs.outside refl) changes told f goes disk sector (changes.names.there disk named) within in
      let fit = fitting.alone (y.bay.sectors disk) image.0 image.1 n first low none begins within in
      elim (image.2 sector (i disk sector) within free (pick disk sector live free)) [
        | inl before ↦ fit (i disk sector) before
        | inr laid ↦
            laid_super f.state.pool.0 n disk (new_table (book x).state (views_of (book x)) place (y.bay.sectors disk)) sector (i disk sector) (omega (arith, past)) laid.value
      ]

  -- where it gave up no disk before, its drive's has no slices any more
  pub bare_now : (d : ℕ) → d ≢ disk → seat_of x.slices place ≡ Some d → (s : ℕ) (w : List ℕ) → IsSliced y.slices d s w → ⊥
  bare_now d other on = elim (changes.bare d on (only d other)) [
    | inl still ↦
        absurd
        (other
        (some_same d disk
        (sym on ∙ ap (λ (u : Slices). seat_of u place) (sym still) ∙ is.seats.seats place
        ∙ ap (λ (c : Bool). if c then Some disk else seat_of x.slices place) (eq-eqb place place refl))))
    | inr bare ↦ bare
  ]

  abbrev pub entered : EntersNamed x y place name disk
  entered = (performs.changes refl).2 disk named

  -- where the place hadn't given it up, the drive that it had has its copy of the state as it was
  kept_old : (d : ℕ) → d ≢ disk → f.seats place ≡ Some d → x.slices ≡ t → Keeps (x.bay.held d state_sector) (y.bay.held d state_sector)
  kept_old d other seat same =
      entered_copy x y place name unspent fit f goes d seat (on_same x f goes place d seat same) holds disk entered changes other (only d other)

  -- the drive that the place had says an earlier state
  lost_says : (d : ℕ) → d ≢ disk → f.seats place ≡ Some d → (i : Image) → IsPickOutsideSlices y.slices y.bay i
      → (copy : Copied) → (identities_of (disks_of y.bay) i d).copied ≡ Some copy → copy.state.epoch < raised (book x).state.epoch
  lost_says d other seat i pick copy here = elim goes.vacant [
    | inl same ↦
        (let on : seat_of x.slices place ≡ Some d = ap (λ (u : Slices). seat_of u place) same ∙ goes.service.slices.seats place ∙ seat in
        gave_below x place fit f goes d seat same holds some.0 some.1 alive y performs.continues told unspent (kept_old d other seat same) (bare_now d other on state_sector) room i
        pick copy here)
    | inr one ↦
        (let now : place ≡ one.0 = sym (vacant_is one.0 one.1 one.2.missing) in
        let less =
        lacks_still f t x.slices y.slices (book x) one.0 disk x.bay y.bay one.2
        (keeps_off x y place name unspent performs.continues (performs.outside refl) changes told f goes x.slices (λ e s w at. at) disk only) fewer d
        (subst (λ p. f.seats p ≡ Some d) now seat) other (performs.continues.proceeds.disks.sectors d (low_of d seat)) i pick copy here in
        up_of (book x).state.epoch copy.state.epoch less)
  ]
    where
      low_of : (d : ℕ) → f.seats place ≡ Some d → d < x.bay.disks
      low_of d seat = let low = (goes.service.arranged.seated place d seat).1 in let same = count_is x y place name unspent performs.continues (performs.outside refl) changes told f goes in omega (arith, low, same)

  keeps_rest : KeepsRest f t y.slices (book x) place disk x.bay y.bay
  keeps_rest = record {
    low = changes.names.there disk named;
    disks = disks_more x y place name unspent performs.continues (performs.outside refl) changes told f goes;
    sectors = sectors_kept x y place name unspent performs.continues (performs.outside refl) changes told f goes;
    outside = off;
    alone = fit_alone;
    earlier = λ i pick d low other why copy here. elim why [
      | inl past ↦
          (let same = count_is x y place name unspent performs.continues (performs.outside refl) changes told f goes in
          absurd (only d other (changes.names.came d (omega (arith, past, same)) low)))
      | inr seat ↦ lost_says d other seat i pick copy here
    ];
  }

  -- the pool with the drive
  abbrev h : Found
  h = taken f (disks_of y.bay) place disk (enlisted place is.units (Replacing place) (book x).state)

  pub below : (l : Lone) → o ≡ Some l → f.state.serial < l.bound
  below l so =
      let given = is.marks.same.serial in
      let before = goes.service.after.same.serial in
      let most = early l so in
      omega (arith, given, before, most)

  fewer_old : (d s : ℕ) (w : List ℕ) → d ≢ disk → IsSliced y.slices d s w → IsSliced t d s w
  fewer_old d s w other at =
      sliced_old x y place name unspent performs.continues (performs.outside refl) changes told f goes d s w (fewer d s w other at)

  -- ---- the drive that the place had, where it isn't left out

  module _ (l : Lone) (so : o ≡ Some l) (d : ℕ) (other : d ≢ disk) (seat : f.seats place ≡ Some d) (stays : IsOut l y.shelf.names d → ⊥) where
    stayed : (is_current (book x).state place ≡ true) ⊎ (IsOut l x.shelf.names d → ⊥)
    stayed = inr (λ out. stays (out_later l x.shelf.names y.shelf.names performs.continues.proceeds.disks.names d out))

    there : d < x.bay.disks
    there =
        let low = (goes.service.arranged.seated place d seat).1 in
        let same = count_is x y place name unspent performs.continues (performs.outside refl) changes told f goes in
        omega (arith, low, same)

    within : state_sector < x.bay.sectors d
    within = lone_sector x f goes l so place d seat stayed

    -- its copy of the state keeps its values, and is in no slice
    pub kept_there : Keeps (x.bay.held d state_sector) (y.bay.held d state_sector) × ((w : List ℕ) → IsSliced y.slices d state_sector w → ⊥)
    kept_there = elim (seat_or x f goes place d seat) [
      | inl on ↦ (
        entered_copy x y place name unspent fit f goes d seat on holds disk entered changes other (only d other),
        bare_now d other on state_sector,
      )
      | inr lacks ↦
          (let bare = lacks_bare x f goes place d seat lacks.vacated state_sector in (
            (performs.outside refl).held d state_sector
                (record { disk = there; sector = within; is_told = holds.disks d there; unnamed = only d other; unsliced = bare }),
            λ w at. bare w (fewer d state_sector w other at),
          ))
    ]

    own_former : (i : Image) → IsPickOutsideSlices y.slices y.bay i → (copy : Copied) → (identities_of (disks_of y.bay) i d).copied ≡ Some copy → IsOwnCopy f.state place copy
    own_former i pick copy here =
        let parts = copy_parts (y.bay.sectors d) (i d state_sector) copy here in
        let low : d < y.bay.disks = (let at = there in let more = performs.continues.proceeds.disks.disks in omega (arith, at, more)) in
        let left =
        pick d state_sector (live_at x y place name unspent performs.continues (performs.outside refl) changes told f goes d state_sector low parts.0) kept_there.1 in
        (goes.alone l so).own some.0 some.1 alive place d (i d state_sector) copy seat stayed (kept_there.0.within (i d state_sector) left) parts.1

    -- It is a stranger: it has its table, and its copy, where it has one, is its own.
    former : (i : Image) → IsPickOutsideSlices y.slices y.bay i → IsStranger h l.bound (identities_of (disks_of y.bay) i d)
    former i pick =
        let stands = goes.alone l so in
        let was = image_before t y.slices disk x.bay y.bay off fewer_old i pick in
        let tabled : IsTabled f place (f.disks.sectors d) (was d) =
        (stands.alone was (off_before t y.slices disk x.bay y.bay off fewer_old i pick)).tables place d seat stayed in
        let sectors = sectors_kept x y place name unspent performs.continues (performs.outside refl) changes told f goes d (goes.service.arranged.seated place d seat).1 in
        stranger_former f t y.slices (book x) x.bay y.bay place disk is.units (Replacing place) goes.service seats_new keeps_rest l.bound (below l so) serials stands.distinct d
        seat (identities_of (disks_of y.bay) i d) (λ copy here. (own_former i pick copy here).pool)
        (says_own f place (y.bay.sectors d) (i d) (identities_of (disks_of y.bay) i d).copied
        (subst (IsTabled f place (y.bay.sectors d)) (image_other t y.slices disk x.bay y.bay off fewer_old i pick d other)
        (subst (λ n. IsTabled f place n (was d)) (sym sectors) tabled))
        (λ copy here. (own_former i pick copy here).drive))

  -- it has its table
  tabled_own : (i : Image) → IsPickOutsideSlices y.slices y.bay i → IsTabled h place (y.bay.sectors disk) (i disk)
  tabled_own i pick =
      ap (λ o. option_map_or (is_table h place (y.bay.sectors disk)) o false)
      (table_taken x y place name text b unspent performs holds goes.orderly disk named i pick)
      ∙ tabled_new f t y.slices (book x) (disks_of y.bay) place disk is.units (Replacing place) seats_new known
      (sectors_kept x y place name unspent performs.continues (performs.outside refl) changes told f goes)
      (reaches_each (views_of (book x)) place (y.bay.sectors disk) free.reaches).0

  -- and no other disk came
  takes_alone : (l : Lone) → o ≡ Some l → TakesAlone f h l.bound (IsOut l y.shelf.names) y.slices place disk y.bay
  takes_alone l so = record {
    own = tabled_own;
    strangers = λ i pick d low other stays why. elim why [
      | inl past ↦
          (let same = count_is x y place name unspent performs.continues (performs.outside refl) changes told f goes in
          absurd (only d other (changes.names.came d (omega (arith, past, same)) low)))
      | inr seat ↦ former l so d other seat stays i pick
    ];
  }

  service_now : RunInvariant h y.slices (book y) y.bay
  service_now =
      service_taken f t y.slices (book x) (book y) x.bay y.bay place disk is.units (Replacing place) (joins (views_of (book x)) place (y.bay.sectors disk)) goes.service
      seats_new keeps_rest (record { marks = is.marks; arrays = is.arrays })

  -- each of its drives has its own copy
  own_now : (l : Lone) → HoldOwn h (IsOut l y.shelf.names) (book y).state y.bay
  own_now l p d u copy seat why may says =
      let current = current_below h.state p (service_now.arranged.seated p d seat).0 in
      let same = few_same place is.units (Replacing place) (book x).state listed in
      let lies = log_lies h y.slices y.bay p d service_now.slices seat in
      let many = lies.1 in
      own_entered x y place name disk entered unspent fit performs.continues.proceeds.fit holds some alive listed is.units is.units_is p u copy (omega (arith, current, same))
      (omega (arith, many)) (subst (λ k. MayLeave k u) (sym (held_log y.slices y.bay p d (service_now.slices.seats p ∙ seat) lies.0)) may) says

  -- and stands alone then
  stands_taken : (l : Lone) → o ≡ Some l → StandsLone l h y.slices y
  stands_taken l so =
      let stands = goes.alone l so in
      record {
        alone =
            alone_taken f t y.slices (book x) x.bay y.bay place disk is.units (Replacing place) goes.service seats_new keeps_rest l.bound (below l so) (IsOut l y.shelf.names)
            (book y).state (takes_alone l so)
            (alone_later f l x.shelf.names y.shelf.names performs.continues.proceeds.disks.names (book x).state (book x).state t x.bay (λ p now. now) stands.alone);
        distinct = subst (λ (pool : Id). AreDistinct pool.0 l.bound) (sym goes.service.after.same.pool) stands.distinct;
        own = λ s within left. own_now l;
      }

  pool_is : pool_after f (moment_of x) (moment_of y) (replaced place name) ≡ h
  pool_is = ap₂ (λ (d n : ℕ). taken f (disks_of y.bay) place d (enlisted place n (Replacing place) (book x).state)) disk_is units_is

  pub sectors_after : (n : ℕ) → n < f.state.made → array_sectors (pool_after f (moment_of x) (moment_of y) (replaced place name)) n ≡ array_sectors f n
  sectors_after n low =
      ap (λ (k : Found). array_sectors k n) pool_is
      ∙ sectors_taken f t y.slices (book x) (disks_of y.bay) place disk is.units (Replacing place) seats_new known
      (sectors_kept x y place name unspent performs.continues (performs.outside refl) changes told f goes) n low

  goes_replaced : GoesBy L o (pool_after f (moment_of x) (moment_of y) (replaced place name)) y
  goes_replaced = subst (λ k. GoesBy L o k y) (sym pool_is) (record {
    tables = y.slices;
    service = service_now;
    vacant = inl refl;
    lasting = performs.continues.lasting goes.lasting;
    arrays = ap (λ (l : Linear). l.arrays) performs.continues.linear ∙ goes.arrays ∙ sym goes.service.after.same.made;
    orderly = performs.continues.orderly goes.orderly;
    laid = λ lands.
        tables_taken f t y.slices (book x) (book y).state x.bay y.bay place disk is.units (Replacing place) goes.service seats_new keeps_rest is.marks
        (lies_taken x y place name text b unspent performs holds goes.orderly disk named) (goes.laid lands);
    tabled = tabled_taken f t y.slices (book x) x.bay y.bay place disk is.units (Replacing place) goes.service seats_new keeps_rest (book y).state tabled_own goes.tabled;
    alone = stands_taken;
  })

  pub on_replaced : GoesOn L o f (pool_after f (moment_of x) (moment_of y) (replaced place name)) y
  on_replaced = record {
    goes = goes_replaced;
    serials = λ serial.
        subst (λ (k : Found). AreSerial k.state) (sym pool_is) (serial_enlisted place is.units (Replacing place) (book x).state listed serials_now);
  }

-- What a stop leaves inside a line in which a drive that isn't missing is replaced: the pool with the drive that it had, which may be found gone meanwhile, or with the new one.
use Rattle.std.proofs.Common.{◌≡◌, ◌≢◌, ◌⊎◌, ℕ, ◌+◌, ◌-◌, ◌<◌, ◌≤◌, ◌^◌, if◌then◌else◌, Bool, true, false, List, length, Some, None, refl, sym, ◌∙◌, ap, subst, inl, inr, lt-ltb, arith, slice_get}
use Rattle.std.proofs.lemmas.Bool.{both_ways, cases_Bool, cases_lt}
use Rattle.std.proofs.lemmas.Option.{none-some}
use Rattle.rack.specs.Seen.{Image}
use Rattle.rack.specs.Values.{MayLeave}
use Rattle.slice_rack.specs.Slices.{IsOrderly, Slices, sectors_of}
use Rattle.slice_rack.specs.Sliced.{IsInside, sliced, slices_of}
use Rattle.flat_array.specs.Array.{FlatArray}
use Rattle.lvm_group.specs.Runs.{array_of, sector_of}
use Rattle.shr_base.specs.declared.Id.{Id}
use Rattle.pool_state.specs.declared.contents.Plan.TheVariants.{Replace as Replacing}
use Rattle.pool_state.specs.declared.contents.State.{State}
use Rattle.array_image.specs.Places.{super_sector}
use Rattle.array_image.specs.States.{is_current, id_of}
use Rattle.raid_laws.specs.Book.{OnlyMarksSince}
use Rattle.raid_laws.specs.Enlisting.{enlisted, next_drive}
use Rattle.raid_laws.specs.Laws.{live_parts}
use Rattle.raid_laws.specs.Logs.{LogsBetween}
use Rattle.raid_laws.specs.Losses.{has_other}
use Rattle.raid_laws.specs.Missing.{raised}
use Rattle.raid_laws.specs.NewDrive.{SeatsDrive, joins}
use Rattle.raid_laws.specs.Raid.{is_failed}
use Rattle.pool_image.specs.Disks.{Disks, disks_of}
use Rattle.pool_image.specs.Drives.{Found, first_of}
use Rattle.pool_image.specs.Meaning.{array_sectors, is_member}
use Rattle.pool_model.specs.Laid.{HaveOtherIds}
use Rattle.pool_model.specs.Left.{HasNoSuper}
use Rattle.pool_model.specs.Stopped.{RecoversInCall}
use Rattle.pool_model.specs.Taken.{AreDistinct, AreSerial, SeatsNew, attached, taken}
use Rattle.pool_model.proofs.NewMembers.{joins_member, positions_of}
use Rattle.pool_model.proofs.Serials.{serial_after, serial_fresh}
use Rattle.pool_model.proofs.Taken.{IsKnownBefore, sectors_taken}
use Rattle.pool_model.proofs.Unsliced.{past_log}
use Rattle.pool_model.proofs.Vacant.{seats_through}
use Rattle.pool.specs.Entering.{EntersBy, EntersReady, IsVacating, meanwhile}
use Rattle.pool.specs.Moment.{moment_of, views_of}
use Rattle.pool.specs.Naming.{EntersNamed}
use Rattle.pool.specs.View.{View, book, over, spent_by, volume}
use Rattle.pool.specs.Volume.{VolumeIs, is_spent, size_of}
use Rattle.pool.proofs.Admitted.{reaches_each}
use Rattle.pool.proofs.Readying.{many_same, units_same}
use Rattle.shr_tool.specs.Between.{AreWithout, HoldsEither, LosesOwn}
use Rattle.shr_tool.specs.Events.Event.{replaced}
use Rattle.shr_tool.specs.Service.{GoesBy, IsFitDisk, IsFitDrive, disk_in, pool_after, units_in}
use Rattle.shr_tool.specs.Timeline.{LineContract}
use Rattle.shr_tool.proofs.EitherPool.{with_now, without_now, without_then}
use Rattle.shr_tool.proofs.Former.{array_low}
use Rattle.shr_tool.proofs.GivesWay.{after}
use Rattle.shr_tool.proofs.GivingFrom.{giving}
use Rattle.shr_tool.proofs.Readied.{IsReadied, readied}
use Rattle.shr_tool.proofs.TakenIn as new
use Rattle.shr_tool.proofs.TakingFrom.{other_left, taking_first, taking_last}

module _ {L : Type 0} (x y : View) (place : ℕ) (name text : List ℕ) (b : FlatArray) (unspent : (d s : ℕ) → y.bay.spent d s ≡ false) (fit : (volume x).fit)
    (performs : LineContract x y (replaced place name) text) (holds : VolumeIs x b) (some : (s : ℕ) × (s < size_of x) × (spent_by x.linear (book y) s ≡ false))
    (f : Found) (goes : GoesBy L None f x) (current : is_current (book x).state place ≡ true) (fitting : IsFitDrive f (moment_of x) place name)
    (waits : IsFitDisk f (moment_of x) name) (serials : AreSerial f.state) (lands : L) (lasts : (n : ℕ) → n < f.state.made → is_failed (book y) n ≡ false) (traced : x.bay.traced) where
  abbrev disk : ℕ
  disk = new.disk x y place name text b unspent fit performs holds some f goes fitting serials (λ l none. absurd (none-some l none))

  entered : EntersNamed x y place name disk
  entered = new.entered x y place name text b unspent fit performs holds some f goes fitting serials (λ l none. absurd (none-some l none))

  alive : is_spent x some.0 ≡ false
  alive = new.alive x y place name text b unspent fit performs holds some f goes fitting serials (λ l none. absurd (none-some l none))

  some_named : (s : ℕ) × (s < size_of x) × (is_spent x s ≡ false)
  some_named = (some.0, some.1, alive)

  listed : place < length (book x).state.drives.items
  listed = new.listed x y place name text b unspent fit performs holds some f goes fitting serials (λ l none. absurd (none-some l none))

  -- ---- the pool that was made ready

  abbrev m : View
  m = over x entered.bay

  ready : EntersReady m y place disk
  ready = elim entered.enters [ inl at_once ↦ absurd (both_ways (is_current (book x).state place) at_once.0 current) | inr made ↦ made.1 ]

  abbrev c : View
  c = meanwhile m ready.bay ready.arrays ready.refused

  enters : EntersBy c y place disk
  enters = ready.enters

  unspent_then : (d s : ℕ) → c.bay.spent d s ≡ false
  unspent_then d s = enters.enlists.only.stays.spent d s (unspent d s)

  marks : OnlyMarksSince (book x).state (book c).state
  marks = after x entered.bay place name disk entered.attaches ready.bay ready.arrays ready.refused ready.readies

  array_then : array_of x.linear some.0 < (book c).state.made
  array_then = (let low = array_low x some.0 fit some.1 in let arrays = fit.1.arrays in let made = marks.same.made in omega (arith, low, arrays, made))

  other : has_other (book y).state place ≡ true
  other =
      other_left c y place disk enters performs.continues.proceeds.fit.0 (array_of x.linear some.0) (sector_of x.linear some.0) array_then
      (live_parts (book y) (array_of x.linear some.0) (sector_of x.linear some.0) some.2).1

  goes_then : (n : ℕ) → n < f.state.made → is_failed (book c) n ≡ false
  goes_then n low =
      enters.enlists.is.still n (let was = goes.service.after.same.made in let made = marks.same.made in omega (arith, low, was, made)) other (lasts n low)

  abbrev h : Found
  h = attached f (disks_of c.bay)

  is : IsReadied x m c place disk enters.vacates.tables f h
  is =
      readied x entered.bay name place disk entered.attaches ready.bay ready.arrays ready.refused ready.readies enters.vacates unspent_then fit b holds some_named f goes waits current lands
      goes_then traced

  -- ---- the new disk

  fresh : (p : ℕ) → id_of (book c).state p ≢ Some (next_drive (book c).state).0
  fresh p =
      serial_fresh (book c).state (serial_after f.state (book c).state is.service.after serials)
      (subst (λ (id : Id). AreDistinct id.0 (book c).state.serial) (sym marks.same.pool)
      (subst (λ k. AreDistinct (book x).state.pool.0 k) (sym marks.same.serial) fitting.distinct)) p

  members : (n : ℕ) → n < h.state.made → joins (views_of (book c)) place (c.bay.sectors disk) n ≡ is_member h n place
  members n low =
      let truth = is.service.arranged.truths n low in
      let made = is.service.after.same.made in
      let less : n < (book c).state.made = omega (arith, low, made) in
      joins_member h (book c) place (c.bay.sectors disk) n truth.0 less truth.1 (is.service.geometry n truth.0 low truth.1)
      (positions_of (book c).state n ((book c).arrays n) (slices_of enters.vacates.tables c.bay) (enters.vacates.fit.running.set.arrays n less))
      (new.reached_of (views_of (book c)) place (c.bay.sectors disk) n ((reaches_each (views_of (book c)) place (c.bay.sectors disk) enters.vacates.admits.reaches).1 n))

  sits : SeatsNew h x.slices y.slices (book c) place disk (c.bay.sectors disk)
  sits = record {
    listed = (let same = many_same (book x).state (book c).state marks in let low = listed in omega (arith, low, same));
    others = λ k d away seat. (is.seated k d away seat, λ same. is.apart k (seat ∙ ap Some same));
    fresh = λ p away. fresh p;
    room = is.epoch;
    seats = elim enters.vacates.seats [
      | inl given ↦ seats_through x.slices enters.vacates.tables place given.1 (views_of (book c)) disk (c.bay.sectors disk) y.slices enters.seats
      | inr kept ↦ subst (λ (u : Slices). SeatsDrive (views_of (book c)) place disk (c.bay.sectors disk) u y.slices) kept.1 enters.seats
    ];
    members = members;
  }

  known : IsKnownBefore h (book c)
  known = record { outset = is.service.arranged; after = is.service.after; geometry = is.service.geometry }

  size_named : c.bay.sectors disk ≡ m.bay.sectors disk
  size_named = ap (λ (z : Disks). z.sectors disk) is.disks

  -- no superblock stands on it where the place is no member, by what its image held
  bare : (n first : ℕ) → n < h.state.made → is_member h n place ≡ false → first_of h n ≡ Some first → first + super_sector < c.bay.sectors disk
      → (v : List ℕ) → MayLeave (c.bay.held disk (first + super_sector)) v → HasNoSuper h.state.pool.0 n v
  bare n first low none begins within v left =
      let image = entered.attaches.image holds.shelf disk entered.attaches.ok.0 in
      let sector = first + super_sector in
      let same = size_named in
      let within_named : sector < m.bay.sectors disk = omega (arith, within, same) in
      let past = past_log h x.slices y.slices (book c) place disk (c.bay.sectors disk) sits is.service.slices known n first low begins none in
      elim (is.kept sector (omega (arith, past)) within_named v left) [
        | inl was ↦
            fitting.alone (m.bay.sectors disk) image.0 image.1 n first low (sym (is.members n place low) ∙ none) (sym (is.firsts n low) ∙ begins) within_named v
            (subst (λ g. MayLeave g v) (image.2 sector within_named) was)
        | inr laid ↦ laid h.state.pool.0 n
      ]

  orderly : IsOrderly y.slices
  orderly = performs.continues.orderly goes.orderly

  within : IsInside y.slices y.bay
  within = performs.continues.proceeds.fit.0.running.set.fit.1

  -- ---- as the line says it

  disks_same : disks_of c.bay ≡ disks_of y.bay
  disks_same j = record { count = sym enters.enlists.only.stays.disks j; sectors = λ d. sym (enters.enlists.only.stays.sectors d) j }

  units_are : units_in (moment_of x) place ≡ enters.units
  units_are = new.or_map (slice_get (book x).state.drives.items place) enters.units (sym (units_same (book x).state (book c).state marks place) ∙ enters.units_is)

  disk_is : disk_in (moment_of y) place ≡ disk
  disk_is = new.disk_is x y place name text b unspent fit performs holds some f goes fitting serials (λ l none. absurd (none-some l none))

  -- the state from which it is taken in is that of before, or the place's own drive is marked by it
  which : ((book c).state ≡ (book x).state) ⊎ LosesOwn (book x).state (book y).state place (book c).state
  which = elim (cases_Bool (is_current (book c).state place)) [
    | inl still ↦ inl (is.still still)
    | inr lost ↦
        inr (record {
          after = marks;
          sooner =
              (let below = is.epoch in
              let up : raised (book c).state.epoch ≡ (book c).state.epoch + 1 = up_one (book c).state.epoch below in
              let from = enters.enlists.is.book.epoch in
              omega (arith, up, from));
          was = current;
          lost = lost;
          others = is.others;
        })
  ]
    where
      up_one : (n : ℕ) → n < 2 ^ 63 - 1 → raised n ≡ n + 1
      up_one n room = ap (λ (z : Bool). if z then n + 1 else n) (lt-ltb n (2 ^ 63 - 1) room)

  abbrev next : State
  next = enlisted place enters.units (Replacing place) (book c).state

  -- the pool without the disk until it is laid, from then on, and with it
  abbrev At : Image → Type 0
  At i = HoldsEither f (moment_of x) (moment_of y) place name i

  before : (i : Image) → RecoversInCall h x.slices (book x).state (book c).state i → At i
  before =
      without_then f x y place name disk enters.units (book c).state (disks_of c.bay) marks which listed disks_same units_are disk_is x.slices (inr (inr (current, refl)))

  without : (t : Slices) → AreWithout (moment_of x) (moment_of y) place t → (i : Image) → RecoversInCall h t (book c).state (book c).state i → At i
  without = without_now f x y place name disk enters.units (book c).state (disks_of c.bay) marks which listed disks_same units_are disk_is

  with_it : (i : Image) → LogsBetween next (book y).state (sectors_of y.slices) (sliced y.slices i)
      → (HaveOtherIds h (book c).state place disk i → RecoversInCall (taken h (disks_of c.bay) place disk next) y.slices next (book y).state i) → At i
  with_it = with_now f x y place name disk enters.units (book c).state (disks_of c.bay) marks which listed disks_same units_are disk_is sized
    where
      sized : (n : ℕ) → n < (book c).state.made
          → array_sectors (pool_after f (moment_of x) (moment_of y) (replaced place name)) n ≡ array_sectors (taken h (disks_of c.bay) place disk next) n
      sized n low =
          let less : n < f.state.made = (let made = is.service.after.same.made in omega (arith, low, made)) in
          new.sectors_after x y place name text b unspent fit performs holds some f goes fitting serials (λ l none. absurd (none-some l none)) n less
          ∙ sym (is.sectors n less)
          ∙ sym (sectors_taken h x.slices y.slices (book c) (disks_of c.bay) place disk enters.units (Replacing place) sits known (λ d few. refl) n less)

  -- from the pool that was made ready, by which the place's drive is there
  still_amid : is_current (book c).state place ≡ true → (k : ℕ) (i : Image) → c.bay.clock < k → k ≤ y.bay.clock → y.bay.stops k i → At i
  still_amid still k i since until stopped =
      elim (giving c y place disk enters h x.slices (same_tables enters.vacates.seats) still is.service sits is.apart (fresh place) is.opened is.tables is.told goes_then lasts other is.lasting
      is.traced goes.orderly is.inside orderly within bare k i since until stopped) [
        | inl amid ↦ without x.slices (inr (inr (current, refl))) i amid
        | inr came ↦ with_it i came.0 came.1
      ]
    where
      same_tables : IsVacating c place enters.vacates.tables → enters.vacates.tables ≡ x.slices
      same_tables (inl gone) = absurd (both_ways (is_current (book c).state place) gone.0 still)
      same_tables (inr kept) = kept.1

  -- or by which it is missing
  lost_amid : is_current (book c).state place ≡ false → (k : ℕ) (i : Image) → c.bay.clock < k → k ≤ y.bay.clock → y.bay.stops k i → At i
  lost_amid lost k i since until stopped =
      elim (taking_first c y place disk enters h x.slices is.service (is.lacks lost) sits is.opened is.tables (is.left lost) lasts other is.lasting is.traced orderly within bare k i since until
      stopped) [
        | inl first ↦ elim first [
          | inl laying ↦ without enters.vacates.tables (inl (is.gave lost)) i laying
          | inr joining ↦ without y.slices (inr (inl refl)) i joining
        ]
        | inr came ↦
            with_it i came.1
            (λ ids.
            taking_last c y place disk enters h x.slices is.service (is.lacks lost) sits is.opened is.tables (is.left lost) lasts other is.lasting is.traced orderly within bare k i came.0 until
            stopped ids came.1)
      ]

  pub giving_amid : (k : ℕ) (i : Image) → x.bay.clock < k → k ≤ y.bay.clock → y.bay.stops k i → HoldsEither f (moment_of x) (moment_of y) place name i
  giving_amid k i since until stopped = elim (cases_lt c.bay.clock k) [
    | inr early ↦
        before i
        (is.readying.new k i (let clock = entered.attaches.clock in omega (arith, since, clock)) early ((enters.enlists.only.stops is.traced).past k i early stopped))
    | inl late ↦ elim (cases_Bool (is_current (book c).state place)) [
      | inl still ↦ still_amid still k i late until stopped
      | inr lost ↦ lost_amid lost k i late until stopped
    ]
  ]

-- What a stop leaves inside a line that takes a drive in: the pool without the drive, or with it.
use Rattle.std.proofs.Common.{◌≡◌, ℕ, ◌+◌, ◌<◌, ◌≤◌, true, false, List, length, Some, None, refl, sym, ◌∙◌, subst, inl, inr, arith, slice_get}
use Rattle.std.proofs.lemmas.Bool.{both_ways}
use Rattle.std.proofs.lemmas.Option.{none-some}
use Rattle.rack.specs.Seen.{Image}
use Rattle.rack.specs.Values.{MayLeave}
use Rattle.slice_rack.specs.Changes.{Seats}
use Rattle.slice_rack.specs.Slices.{IsOrderly, Slices}
use Rattle.slice_rack.specs.Sliced.{IsInside, slices_of}
use Rattle.flat_array.specs.Array.{FlatArray}
use Rattle.lvm_group.specs.Runs.{array_of, sector_of}
use Rattle.pool_state.specs.declared.contents.Plan.TheVariants.{Replace as Replacing}
use Rattle.array_image.specs.Places.{super_sector}
use Rattle.raid_laws.specs.Book.{after_same}
use Rattle.raid_laws.specs.Enlisting.{Enlists, IsOpenDisk, enlisted}
use Rattle.raid_laws.specs.Laws.{live_parts}
use Rattle.raid_laws.specs.Losses.{has_other}
use Rattle.raid_laws.specs.NewDrive.{SeatsDrive, joins}
use Rattle.raid_laws.specs.Raid.{IsTracked, is_failed}
use Rattle.pool_image.specs.Disks.{disks_of}
use Rattle.pool_image.specs.Drives.{Found, first_of}
use Rattle.pool_image.specs.Meaning.{array_sectors, is_member}
use Rattle.pool_model.proofs.Taken.{sectors_taken}
use Rattle.pool_model.specs.InService.{RunInvariant}
use Rattle.pool_model.specs.Left.{HasNoSuper}
use Rattle.pool_model.specs.Stopped.{RecoversInCall, HoldTables}
use Rattle.pool_model.specs.Taken.{AreSerial, LacksDrive, SeatsNew, attached, taken}
use Rattle.array_image.specs.States.{is_current}
use Rattle.pool.specs.Entering.{EntersBy, Vacates}
use Rattle.pool.specs.Moment.{IsNamed, moment_of, views_of}
use Rattle.pool.specs.Naming.{EntersNamed}
use Rattle.pool.specs.View.{View, book, over, spent_by, volume}
use Rattle.pool.specs.Volume.{VolumeIs, is_spent, size_of}
use Rattle.shr_tool.specs.Between.{AreWithout, HoldsEither}
use Rattle.shr_tool.specs.Events.Event.{replaced}
use Rattle.shr_tool.specs.Service.{GoesBy, IsFitDisk, IsFitDrive, disk_in, pool_after, units_in}
use Rattle.shr_tool.specs.Timeline.{LineContract}
use Rattle.shr_tool.proofs.EitherPool.{with_now, without_now}
use Rattle.shr_tool.proofs.Former.{array_low}
use Rattle.shr_tool.proofs.NamedDisk as one
use Rattle.shr_tool.proofs.TakenIn as new
use Rattle.shr_tool.proofs.TakingFrom.{other_left, taking_first, taking_last}

module _ {L : Type 0} (x y : View) (place : ℕ) (name text : List ℕ) (b : FlatArray) (unspent : (d s : ℕ) → y.bay.spent d s ≡ false) (fit : (volume x).fit)
    (performs : LineContract x y (replaced place name) text) (holds : VolumeIs x b) (some : (s : ℕ) × (s < size_of x) × (spent_by x.linear (book y) s ≡ false))
    (f : Found) (goes : GoesBy L None f x) (missing : is_current (book x).state place ≡ false) (fitting : IsFitDrive f (moment_of x) place name) (waits : IsFitDisk f (moment_of x) name) (serials : AreSerial f.state)
    (lands : L) (lasts : (n : ℕ) → n < f.state.made → is_failed (book y) n ≡ false) (traced : x.bay.traced) where
  abbrev disk : ℕ
  disk = new.disk x y place name text b unspent fit performs holds some f goes fitting serials (λ l none. absurd (none-some l none))

  named : IsNamed (moment_of y) name disk
  named = new.named x y place name text b unspent fit performs holds some f goes fitting serials (λ l none. absurd (none-some l none))

  entered : EntersNamed x y place name disk
  entered = (performs.changes refl).2 disk named

  abbrev m : View
  m = over x entered.bay

  -- at once, since the place's drive was missing
  enters : EntersBy m y place disk
  enters = elim entered.enters [ inl at_once ↦ at_once.1 | inr ready ↦ absurd (both_ways (is_current (book x).state place) missing ready.0) ]

  abbrev vacates : Vacates m place disk
  vacates = enters.vacates

  -- the slices while it is laid
  abbrev t : Slices
  t = vacates.tables

  enlists : Enlists t y.slices (views_of (book x)) place disk enters.units (Replacing place) (book x) (book y) m.bay y.bay
  enlists = enters.enlists

  unspent_then : (d s : ℕ) → m.bay.spent d s ≡ false
  unspent_then d s = enlists.only.stays.spent d s (unspent d s)

  listed : place < length (book x).state.drives.items
  listed = new.listed x y place name text b unspent fit performs holds some f goes fitting serials (λ l none. absurd (none-some l none))

  alive : is_spent x some.0 ≡ false
  alive = new.alive x y place name text b unspent fit performs holds some f goes fitting serials (λ l none. absurd (none-some l none))

  -- ---- the pool by which the line goes, with the disk

  abbrev h : Found
  h = attached f (disks_of m.bay)

  service : RunInvariant h goes.tables (book x) m.bay
  service = one.service_named x entered.bay name disk entered.attaches unspent_then fit b holds f goes waits

  opened : IsOpenDisk m.bay disk
  opened = one.opened x entered.bay name disk entered.attaches unspent_then fit b holds f goes waits

  lacks : LacksDrive h goes.tables t (book x) place m.bay
  lacks = one.lacks_named x entered.bay name disk entered.attaches unspent_then fit b holds f goes waits place listed vacates missing some.0 some.1 alive

  tables : HoldTables h goes.tables (book x).state m.bay
  tables = one.tables_named x entered.bay name disk entered.attaches unspent_then fit b holds f goes waits lands

  told : (n : ℕ) → n < h.state.made → IsTracked (book x) (slices_of t m.bay) n
  told n low =
      one.told_named x entered.bay name disk entered.attaches unspent_then fit b holds f goes waits place listed vacates missing some.0 some.1 alive n
      (subst (λ k. n < k) (sym goes.arrays) low)

  size : y.bay.sectors disk ≡ m.bay.sectors disk
  size = enlists.only.stays.sectors disk

  sits : SeatsNew f goes.tables y.slices (book x) place disk (y.bay.sectors disk)
  sits = new.seats_new x y place name text b unspent fit performs holds some f goes fitting serials (λ l none. absurd (none-some l none))

  -- it gets the place, whose slices are those that it had, or none
  sits_then : SeatsNew h goes.tables y.slices (book x) place disk (m.bay.sectors disk)
  sits_then = record {
    listed = sits.listed;
    others = sits.others;
    fresh = sits.fresh;
    room = sits.room;
    seats = subst (λ n. SeatsDrive (views_of (book x)) place disk n goes.tables y.slices) size sits.seats;
    members = λ n low.
        subst (λ k. joins (views_of (book x)) place k n ≡ is_member f n place) size (sits.members n low)
        ∙ sym (one.member_named x entered.bay name disk entered.attaches unspent_then fit b holds f goes waits n place low);
  }

  -- a drive is left that the pool had, since a sector can be had
  other : has_other (book y).state place ≡ true
  other =
      other_left m y place disk enters performs.continues.proceeds.fit.0 (array_of x.linear some.0) (sector_of x.linear some.0)
      (let low = array_low x some.0 fit some.1 in let arrays = fit.1.arrays in omega (arith, low, arrays))
      (live_parts (book y) (array_of x.linear some.0) (sector_of x.linear some.0) some.2).1

  orderly : IsOrderly y.slices
  orderly = performs.continues.orderly goes.orderly

  within : IsInside y.slices y.bay
  within = performs.continues.proceeds.fit.0.running.set.fit.1

  traced_then : m.bay.traced
  traced_then = entered.attaches.continues.proceeds.traced holds.shelf traced

  lasting : m.bay.lasting
  lasting = entered.attaches.continues.lasting goes.lasting

  -- no superblock stands on the disk where the place is no member, by what its image held
  bare : (n first : ℕ) → n < h.state.made → is_member h n place ≡ false → first_of h n ≡ Some first → first + super_sector < m.bay.sectors disk
      → (v : List ℕ) → MayLeave (m.bay.held disk (first + super_sector)) v → HasNoSuper h.state.pool.0 n v
  bare n first low none begins within v left =
      let image = entered.attaches.image holds.shelf disk entered.attaches.ok.0 in
      fitting.alone (m.bay.sectors disk) image.0 image.1 n first low
      (sym (one.member_named x entered.bay name disk entered.attaches unspent_then fit b holds f goes waits n place low) ∙ none)
      (sym (one.first_named x entered.bay name disk entered.attaches unspent_then fit b holds f goes waits n low) ∙ begins) within v
      (subst (λ g. MayLeave g v) (image.2 (first + super_sector) within) left)

  -- the disks after the line are those
  disks_same : disks_of m.bay ≡ disks_of y.bay
  disks_same i = record { count = sym enlists.only.stays.disks i; sectors = λ d. sym (enlists.only.stays.sectors d) i }

  units_are : units_in (moment_of x) place ≡ enters.units
  units_are = new.or_map (slice_get (book x).state.drives.items place) enters.units enters.units_is

  disk_is : disk_in (moment_of y) place ≡ disk
  disk_is = new.disk_is x y place name text b unspent fit performs holds some f goes fitting serials (λ l none. absurd (none-some l none))

  -- the arrays have the sectors that they had
  sized : (n : ℕ) → n < (book x).state.made
      → array_sectors (pool_after f (moment_of x) (moment_of y) (replaced place name)) n
      ≡ array_sectors (taken h (disks_of m.bay) place disk (enlisted place enters.units (Replacing place) (book x).state)) n
  sized n low =
      let less : n < f.state.made = (let made = goes.service.after.same.made in omega (arith, low, made)) in
      new.sectors_after x y place name text b unspent fit performs holds some f goes fitting serials (λ l none. absurd (none-some l none)) n less
      ∙ sym (one.sectors_named x entered.bay name disk entered.attaches unspent_then fit b holds f goes waits n less)
      ∙ sym (sectors_taken h goes.tables y.slices (book x) (disks_of m.bay) place disk enters.units (Replacing place) sits_then
      (record { outset = service.arranged; after = service.after; geometry = service.geometry }) (λ d few. refl) n less)

  -- ---- the whole

  pub taking_amid : (k : ℕ) (i : Image) → x.bay.clock < k → k ≤ y.bay.clock → y.bay.stops k i → HoldsEither f (moment_of x) (moment_of y) place name i
  taking_amid k i since until stopped =
      elim (taking_first m y place disk enters h goes.tables service lacks sits_then opened tables told lasts other lasting traced_then orderly within bare k i
      (let clock = entered.attaches.clock in omega (arith, since, clock)) until stopped) [
        | inl before ↦ elim before [
          | inl laying ↦ without enters.vacates.tables (inl gave) i laying
          | inr joining ↦ without y.slices (inr (inl refl)) i joining
        ]
        | inr after ↦
            with_now f x y place name disk enters.units (book x).state (disks_of m.bay) (after_same (book x).state) (inl refl) listed disks_same units_are disk_is sized i after.1
            (λ ids.
            taking_last m y place disk enters h goes.tables service lacks sits_then opened tables told lasts other lasting traced_then orderly within bare k i after.0 until stopped ids
            after.1)
      ]
    where
      gave : Seats x.slices enters.vacates.tables place None
      gave = one.gave x entered.bay name disk entered.attaches unspent_then fit b holds f goes waits place listed vacates missing some.0 some.1 alive

      without : (t : Slices) → AreWithout (moment_of x) (moment_of y) place t → (i : Image) → RecoversInCall h t (book x).state (book x).state i
          → HoldsEither f (moment_of x) (moment_of y) place name i
      without =
          without_now f x y place name disk enters.units (book x).state (disks_of m.bay) (after_same (book x).state) (inl refl) listed disks_same units_are disk_is

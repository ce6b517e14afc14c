-- What a stop leaves inside a line that was to take a drive in, and didn't: the pool with the disk that was attached.
use Rattle.std.proofs.Common.{◌≡◌, ℕ, ◌<◌, ◌≤◌, true, false, List, length, None, refl, sym, ap, subst, inl, inr, arith}
use Rattle.std.proofs.lemmas.Bool.{both_ways, cases_Bool, cases_lt}
use Rattle.rack.specs.Seen.{Image}
use Rattle.rack.specs.Sequences.{WritesOnly}
use Rattle.rack.proofs.Writing.{only_weaker}
use Rattle.slice_rack.specs.Slices.{Slices}
use Rattle.slice_rack.specs.Sliced.{slices_of}
use Rattle.flat_array.specs.Array.{FlatArray}
use Rattle.lvm_group.specs.Runs.{Linear}
use Rattle.pool_state.specs.declared.contents.State.{State}
use Rattle.raid_laws.specs.Book.{OnlyMarksSince, after_same}
use Rattle.raid_laws.specs.Enlisting.{IsWrittenBy}
use Rattle.raid_laws.specs.NewDrive.{IsOfDrive}
use Rattle.raid_laws.specs.Raid.{Raid, is_failed}
use Rattle.raid_laws.specs.Runs.{CrashInvariant}
use Rattle.pool_image.specs.Meaning.{array_sectors}
use Rattle.pool_image.specs.Disks.{Disks, disks_of}
use Rattle.pool_image.specs.Drives.{Found}
use Rattle.pool_model.specs.Stopped.{RecoversInCall}
use Rattle.pool_model.specs.Taken.{attached}
use Rattle.pool_model.proofs.ReplacingEarly.{replacing_declined}
use Rattle.pool_model.proofs.TakingEarly.{declined_amid as declined_stops}
use Rattle.array_image.specs.States.{is_current}
use Rattle.pool.specs.declared.replacing.GrowFault.{GrowFault}
use Rattle.pool.specs.Entering.{Cleaned, IsVacating, LeavesBy, LeavesReady, Vacates, meanwhile, table_on}
use Rattle.pool.specs.Moment.{moment_of}
use Rattle.pool.specs.Naming.{LeavesNamed}
use Rattle.pool.specs.Replaced.{ChangesDrive}
use Rattle.pool.specs.View.{View, book, over, spent_by, volume}
use Rattle.pool.specs.Volume.{VolumeIs, is_spent, size_of}
use Rattle.shr_tool.specs.Between.{HoldsLeft}
use Rattle.shr_tool.specs.Events.{looks_at}
use Rattle.shr_tool.specs.Events.Event.{declined}
use Rattle.shr_tool.specs.Service.{GoesBy, IsFitDisk}
use Rattle.shr_tool.specs.Timeline.{LineContract}
use Rattle.pool_model.proofs.Likewise.{amid_likewise}
use Rattle.shr_tool.proofs.GivesWay.{after}
use Rattle.shr_tool.proofs.NamedDisk.{apart_named, arrays_named, goes_named, lacks_named, opened, room_named, service_named, tables_named, told_named}
use Rattle.shr_tool.proofs.Quiet.{listed_of}
use Rattle.shr_tool.proofs.Readied.{IsReadied, readied}
use Rattle.shr_tool.proofs.Serviced.{goes_amid}

module _ {L : Type 0} (x y : View) (place : ℕ) (name : List ℕ) (fault : GrowFault) (text : List ℕ) (b : FlatArray) (looks : looks_at fault ≡ true)
    (unspent : (d s : ℕ) → y.bay.spent d s ≡ false) (fit : (volume x).fit) (performs : LineContract x y (declined place name fault) text) (holds : VolumeIs x b)
    (some : (s : ℕ) × (s < size_of x) × (spent_by x.linear (book y) s ≡ false)) (f : Found) (goes : GoesBy L None f x) (waits : IsFitDisk f (moment_of x) name)
    (lands : L) (lasts : (n : ℕ) → n < f.state.made → is_failed (book y) n ≡ false) (traced : x.bay.traced) where
  changes : ChangesDrive x y place name
  changes = (performs.changes looks).0

  alive : is_spent x some.0 ≡ false
  alive = changes.spent some.0 (subst (λ (l : Linear). spent_by l (book y) some.0 ≡ false) (sym performs.continues.linear) some.2)

  listed : place < length (book x).state.drives.items
  listed = listed_of x y place name fault text looks performs

  -- the disk was laid, or began to be
  module _ (named : LeavesNamed x y place name) where
    abbrev m : View
    m = over x named.bay

    abbrev disk : ℕ
    disk = named.disk

    laid_amid : (missing : is_current (book x).state place ≡ false) (vacates : Vacates m place disk) → y.slices ≡ vacates.tables → WritesOnly m.bay y.bay (IsWrittenBy vacates.tables disk (table_on m place disk))
        → CrashInvariant (book x) (book y) (slices_of vacates.tables m.bay) (slices_of vacates.tables y.bay)
        → (k : ℕ) (i : Image) → x.bay.clock < k → k ≤ y.bay.clock → y.bay.stops k i
        → RecoversInCall (attached f (disks_of y.bay)) y.slices (book x).state (book y).state i
    laid_amid missing vacates same only moments k i since until stopped =
        let at = named.attaches in
        let spared : (d s : ℕ) → m.bay.spent d s ≡ false = λ d s. only.stays.spent d s (unspent d s) in
        let stops =
        declined_stops (attached f (disks_of m.bay)) goes.tables vacates.tables (book x) place disk m.bay
        (service_named x named.bay name disk at spared fit b holds f goes waits)
        (lacks_named x named.bay name disk at spared fit b holds f goes waits place listed vacates missing some.0 some.1 alive)
        (apart_named x named.bay name disk at spared fit b holds f goes waits place listed vacates missing some.0 some.1 alive)
        vacates.orderly vacates.fit.running.set.fit.1 (tables_named x named.bay name disk at spared fit b holds f goes waits lands)
        (opened x named.bay name disk at spared fit b holds f goes waits)
        (room_named x named.bay name disk at spared fit b holds f goes waits place listed vacates missing some.0 some.1 alive)
        (at.continues.lasting goes.lasting) (at.continues.proceeds.traced holds.shelf traced) (table_on m place disk) refl (book y) y.bay only moments
        (λ n low.
        told_named x named.bay name disk at spared fit b holds f goes waits place listed vacates missing some.0 some.1 alive n (subst (λ k. n < k) (sym goes.arrays) low))
        lasts in
        let same_disks : disks_of m.bay ≡ disks_of y.bay = λ j. record { count = sym only.stays.disks j; sectors = λ d. sym (only.stays.sectors d) j } in
        subst (λ (z : Disks). RecoversInCall (attached f z) y.slices (book x).state (book y).state i) same_disks
        (subst (λ (t : Slices). RecoversInCall (attached f (disks_of m.bay)) t (book x).state (book y).state i) (sym same)
        (stops.new k i (let clock = at.clock in omega (arith, since, clock)) until stopped))

    left_amid : is_current (book x).state place ≡ false → LeavesBy m y place disk → (k : ℕ) (i : Image) → x.bay.clock < k → k ≤ y.bay.clock → y.bay.stops k i
        → RecoversInCall (attached f (disks_of y.bay)) y.slices (book x).state (book y).state i
    left_amid missing (inl gone) =
        laid_amid missing gone.vacates gone.slices
        (only_weaker (IsOfDrive disk (table_on m place disk)) (IsWrittenBy gone.vacates.tables disk (table_on m place disk)) (λ d k v own. inl own) gone.refused.only)
        (subst (λ (w : Raid). CrashInvariant (book x) w (slices_of gone.vacates.tables m.bay) (slices_of gone.vacates.tables y.bay)) (sym gone.same) gone.refused.moments)
    left_amid missing (inr out) = laid_amid missing out.vacates out.slices out.not_whole.only out.not_whole.moments

  -- it was cleaned, and no more
  cleaned_amid : (named : LeavesNamed x y place name) → Cleaned (over x named.bay) y → (k : ℕ) (i : Image) → x.bay.clock < k → k ≤ y.bay.clock → y.bay.stops k i
      → RecoversInCall (attached f (disks_of y.bay)) x.slices (book x).state (book y).state i
  cleaned_amid named cleaned k i since until stopped =
      let at = named.attaches in
      let m = over x named.bay in
      let stays = cleaned.ends.passes.apart.stays in
      let spared : (d s : ℕ) → m.bay.spent d s ≡ false = λ d s. stays.spent d s (unspent d s) in
      let stops =
      goes_amid m y (attached f (disks_of m.bay)) at.continues.proceeds.fit.0.running.set.fit.1 cleaned.ends.passes (goes_named x named.bay name named.disk at spared fit b holds f goes waits) lands
      (arrays_named x named.bay name named.disk at spared fit b holds f goes waits some.0 some.1 alive) lasts (at.continues.proceeds.traced holds.shelf traced) in
      let same_disks : disks_of m.bay ≡ disks_of y.bay = λ j. record { count = sym stays.disks j; sectors = λ d. sym (stays.sectors d) j } in
      subst (λ (z : Disks). RecoversInCall (attached f z) x.slices (book x).state (book y).state i) same_disks
      (stops.new k i (let clock = at.clock in omega (arith, since, clock)) until stopped)

  -- the disk was laid, on a pool that was made ready for it
  module _ (named : LeavesNamed x y place name) (current : is_current (book x).state place ≡ true) (ready : LeavesReady (over x named.bay) y place named.disk) where
    abbrev c : View
    c = meanwhile (over x named.bay) ready.bay ready.arrays ready.refused

    abbrev h : Found
    h = attached f (disks_of c.bay)

    laid_ready : (vacates : Vacates c place named.disk) → y.slices ≡ vacates.tables → WritesOnly c.bay y.bay (IsWrittenBy vacates.tables named.disk (table_on c place named.disk))
        → CrashInvariant (book c) (book y) (slices_of vacates.tables c.bay) (slices_of vacates.tables y.bay) → OnlyMarksSince (book c).state (book y).state
        → (k : ℕ) (i : Image) → x.bay.clock < k → k ≤ y.bay.clock → y.bay.stops k i → HoldsLeft f (moment_of x) (moment_of y) place i
    laid_ready vacates same only moments marks k i since until stopped = elim (cases_lt c.bay.clock k) [
      | inr early ↦
          old (book x).state (book c).state (after_same (book x).state) marks
          (is.readying.new k i (let clock = named.attaches.clock in omega (arith, since, clock)) early ((only.stops is.traced).past k i early stopped))
      | inl late ↦ elim (cases_Bool (is_current (book c).state place)) [
        | inl still ↦
            old (book c).state (book y).state came (after_same (book y).state)
            ((replacing_declined h x.slices (book c) place named.disk c.bay is.service is.apart goes.orderly is.inside is.tables is.opened is.room is.lasting is.traced (table_on c place named.disk) refl (book y) y.bay
            (subst (λ (t : Slices). WritesOnly c.bay y.bay (IsWrittenBy t named.disk (table_on c place named.disk))) (same_tables still vacates.seats) only)
            (subst (λ (t : Slices). CrashInvariant (book c) (book y) (slices_of t c.bay) (slices_of t y.bay)) (same_tables still vacates.seats) moments) is.told lasts).new k i late until
            stopped)
        | inr lost ↦ (
          y.slices,
          inl refl,
          now y.slices (book c).state (book y).state came (after_same (book y).state)
              (subst (λ (t : Slices). RecoversInCall h t (book c).state (book y).state i) (sym same)
              ((declined_stops h x.slices vacates.tables (book c) place named.disk c.bay is.service (is.lacks lost) (λ p away. is.apart p) vacates.orderly vacates.fit.running.set.fit.1
              is.tables is.opened is.room is.lasting is.traced (table_on c place named.disk) refl (book y) y.bay only moments (is.left lost) lasts).new k i late until stopped)),
        )
      ]
    ]
      where
        is : IsReadied x (over x named.bay) c place named.disk vacates.tables f h
        is =
            readied x named.bay name place named.disk named.attaches ready.bay ready.arrays ready.refused ready.readies vacates (λ d s. only.stays.spent d s (unspent d s)) fit b holds
            (some.0, some.1, alive) f goes waits current lands (λ n low. moments.still n (lasts n low)) traced

        came : OnlyMarksSince (book x).state (book c).state
        came = after x named.bay place name named.disk named.attaches ready.bay ready.arrays ready.refused ready.readies

        disks : disks_of y.bay ≡ disks_of c.bay
        disks j = record { count = only.stays.disks j; sectors = λ d. only.stays.sectors d j }

        now : (t : Slices) (s u : State) → OnlyMarksSince (book x).state s → OnlyMarksSince u (book y).state → RecoversInCall h t s u i
            → RecoversInCall (attached f (disks_of y.bay)) t (book x).state (book y).state i
        now t s u from to amid = amid_likewise h (attached f (disks_of y.bay)) t s u (book x).state (book y).state i disks refl refl (λ n low. ap (λ d. array_sectors (attached f d) n) disks) from to amid

        -- by the slices of before
        old : (s u : State) → OnlyMarksSince (book x).state s → OnlyMarksSince u (book y).state → RecoversInCall h x.slices s u i → HoldsLeft f (moment_of x) (moment_of y) place i
        old s u from to amid = (x.slices, inr (current, refl), now x.slices s u from to amid)

        same_tables : is_current (book c).state place ≡ true → IsVacating c place vacates.tables → vacates.tables ≡ x.slices
        same_tables still (inl gone) = absurd (both_ways (is_current (book c).state place) gone.0 still)
        same_tables still (inr kept) = kept.1

    ready_amid : (k : ℕ) (i : Image) → x.bay.clock < k → k ≤ y.bay.clock → y.bay.stops k i → HoldsLeft f (moment_of x) (moment_of y) place i
    ready_amid = elim ready.leaves [
      | inl gone ↦
          laid_ready gone.vacates gone.slices
          (only_weaker (IsOfDrive named.disk (table_on c place named.disk)) (IsWrittenBy gone.vacates.tables named.disk (table_on c place named.disk)) (λ d k v own. inl own) gone.refused.only)
          (subst (λ (w : Raid). CrashInvariant (book c) w (slices_of gone.vacates.tables c.bay) (slices_of gone.vacates.tables y.bay)) (sym gone.same) gone.refused.moments)
          (subst (λ (w : Raid). OnlyMarksSince (book c).state w.state) (sym gone.same) (after_same (book c).state))
      | inr out ↦ laid_ready out.vacates out.slices out.not_whole.only out.not_whole.moments out.not_whole.mends.moves.book
    ]

  pub declined_amid : (k : ℕ) (i : Image) → x.bay.clock < k → k ≤ y.bay.clock → y.bay.stops k i → HoldsLeft f (moment_of x) (moment_of y) place i
  declined_amid k i since until stopped = elim (performs.changes looks).1 [
    | inl still ↦ (let same = still.0 in absurd (omega (arith, since, until, same)))
    | inr named ↦ elim named.leaves [
      | inl at_once ↦ (y.slices, inl refl, left_amid named at_once.0 at_once.1 k i since until stopped)
      | inr way ↦ elim way.1 [
        | inl cleaned ↦ (x.slices, inr (way.0, refl), cleaned_amid named cleaned k i since until stopped)
        | inr ready ↦ ready_amid named way.0 ready k i since until stopped
      ]
    ]
  ]

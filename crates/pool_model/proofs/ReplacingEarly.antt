-- What a stop leaves inside a line that gives a current place another drive, while the record doesn't count yet that brings the state with it, and inside one that is declined: the pool
-- that the disks had, with the drive that the place has. The new disk is none of its drives.
use Rattle.std.proofs.Common.{◌≡◌, ◌≢◌, ℕ, ◌+◌, ◌-◌, ◌<◌, ◌≤◌, ◌^◌, if◌then◌else◌, Bool, true, false, List, Option, Some, None, refl, sym, ap, ◌∙◌, inl, inr, lt-ltb, arith}
use Rattle.rack.specs.Moments.{Leaves}
use Rattle.rack.specs.Seen.{Image, RackView}
use Rattle.rack.specs.Sequences.{WritesOnly}
use Rattle.rack.proofs.Writing.{only_weaker}
use Rattle.slice_rack.specs.Runs.{IsSliced}
use Rattle.slice_rack.specs.Slices.{IsOrderly, Slices, sectors_of}
use Rattle.slice_rack.specs.Sliced.{IsInside, sliced, slices_of}
use Rattle.gpt_table.specs.declared.Table.{Table}
use Rattle.pool_state.specs.declared.contents.Plan.{Plan}
use Rattle.pool_state.specs.declared.contents.State.{State}
use Rattle.pool_state.specs.Sector.{decoded}
use Rattle.array_image.specs.Arrays.{replayed}
use Rattle.array_image.specs.Places.{log_slice, place_of}
use Rattle.array_image.specs.States.{is_current, state_in}
use Rattle.array_core.proofs.Stripped.{some_same}
use Rattle.raid_laws.specs.Enlisting.{HasNoCopy, IsNotWhole, IsOpenDisk, IsRefused, IsWrittenBy, KeepsTold, SaysFormer, SaysReplacing, enlisted}
use Rattle.raid_laws.specs.Missing.{raised}
use Rattle.raid_laws.specs.NewDrive.{IsOfDrive}
use Rattle.raid_laws.specs.Raid.{IsTracked, Raid, held_in, is_failed, spent_of}
use Rattle.raid_laws.specs.Runs.{CrashInvariant}
use Rattle.raid_laws.proofs.Apart.{seat_is}
use Rattle.raid_laws.proofs.Over.{number_room, someone_left}
use Rattle.pool_image.specs.Drives.{Found}
use Rattle.pool_model.specs.InService.{RunInvariant}
use Rattle.pool_model.specs.Laid.{IsLaidOutsideSlices}
use Rattle.pool_model.specs.Left.{HavePlaces}
use Rattle.pool_model.specs.Stopped.{RecoversInCall, HoldTables}
use Rattle.pool_model.specs.Taken.{SeatsNew, views_of}
use Rattle.pool_model.proofs.LaidOff.{declined_book, declined_off, former_book, laid_off, laid_says, laying_book, new_sector}
use Rattle.pool_model.proofs.Laying.{service_laid}
use Rattle.pool_model.proofs.Staying.{sliced_seated}

-- Each place that is current has its drive, where an array is told: it has its log slice then.
pub present_told : (f : Found) (t : Slices) (v : Raid) (x : RackView) → RunInvariant f t v x → IsTracked v (slices_of t x) 0 → is_failed v 0 ≡ false → HavePlaces v.state f
present_told f t v x is told lasts p now = by (f.seats p) refl
  where
    by : (o : Option ℕ) → f.seats p ≡ o → (d : ℕ) × (f.seats p ≡ Some d)
    by (Some d) seat = (d, seat)
    by None free =
        let at : place_of (log_slice p) ≡ p = omega arith in
        let nothing = is.slices.unseated (log_slice p) (ap f.seats at ∙ free) in
        let some = (told.stood lasts).log.there p now refl in
        absurd (omega (arith, nothing, some))

module _ (f : Found) (t : Slices) (v : Raid) (place disk : ℕ) (a : RackView) (is : RunInvariant f t v a) (apart : (p : ℕ) → f.seats p ≡ Some disk → ⊥) (orderly : IsOrderly t)
    (inside : IsInside t a) (tables : HoldTables f t v.state a) (opened : IsOpenDisk a disk) (room : 10273 ≤ a.sectors disk) (lasting : a.lasting) (traced : a.traced) where
  first : 0 < f.state.made
  first = (let made = is.arranged.made.0 in omega (arith, made))

  vacant : (p : ℕ) → f.seats p ≡ Some disk → is_current v.state p ≡ false
  vacant p seat = absurd (apart p seat)

  -- the disk has no slice
  free : (k : ℕ) (w : List ℕ) → IsSliced t disk k w → ⊥
  free k w at =
      apart (place_of at.slice) (sym (is.slices.seats (place_of at.slice)) ∙ seat_is t at.slice at.at orderly at.within ∙ ap Some (sym at.disk_is))

  -- ---- a drive that is declined

  -- The drive may have refused a call, or another one was found gone and is marked, by the book w.
  pub replacing_declined : (table : Table) → table.sectors ≡ a.sectors disk → (w : Raid) (b : RackView) → WritesOnly a b (IsWrittenBy t disk table) → CrashInvariant v w (slices_of t a) (slices_of t b)
      → ((n : ℕ) → n < f.state.made → IsTracked v (slices_of t a) n) → ((n : ℕ) → n < f.state.made → is_failed w n ≡ false)
      → Leaves a b (RecoversInCall f t v.state w.state)
  replacing_declined table sized w b only keeps told lasts =
      let stops = only.stops traced in
      record {
        later = stops.later;
        kept = stops.kept;
        past = stops.past;
        new = λ k i since until stopped.
            let one = someone_left w 0 (lasts 0 first) in
            service_laid f t v a is orderly inside disk apart i
            (declined_off f t v disk table a vacant free opened (omega (arith, room, sized)) lasting b only.stays i (stops.new k i since until stopped)) w tables
            (present_told f t v a is (told 0 first) (keeps.still 0 (lasts 0 first)))
            (declined_book f.state.made t v w a b traced keeps told lasts first k i since until stopped)
            (let most = (number_room w 0 (lasts 0 first)).1 in omega (arith, most)) one.0 one.1;
      }

  pub replacing_refused : (table : Table) → table.sectors ≡ a.sectors disk → (b : RackView) → IsRefused t disk table v a b → ((n : ℕ) → n < f.state.made → IsTracked v (slices_of t a) n)
      → ((n : ℕ) → n < f.state.made → is_failed v n ≡ false) → Leaves a b (RecoversInCall f t v.state v.state)
  replacing_refused table sized b refused told lasts =
      replacing_declined table sized v b (only_weaker (IsOfDrive disk table) (IsWrittenBy t disk table) (λ d k c own. inl own) refused.only) refused.moments told lasts

  pub replacing_not_whole : (table : Table) → table.sectors ≡ a.sectors disk → (w : Raid) (b : RackView) → IsNotWhole t disk table v w a b → ((n : ℕ) → n < f.state.made → IsTracked v (slices_of t a) n)
      → ((n : ℕ) → n < f.state.made → is_failed w n ≡ false) → Leaves a b (RecoversInCall f t v.state w.state)
  replacing_not_whole table sized w b declined told lasts = replacing_declined table sized w b declined.only declined.moments told lasts

  -- ---- a drive that is taken in

  -- `mid` is the time when its slices were added.
  module _ (u : Slices) (units : ℕ) (plan : Plan) (table : Table) (sized : table.sectors ≡ a.sectors disk) (w : Raid) (b : RackView) (mid : ℕ) (new : SeatsNew f t u v place disk (a.sectors disk))
      (only : WritesOnly a b (IsWrittenBy u disk table)) (told : (n : ℕ) → n < f.state.made → KeepsTold t u place disk units plan table v w a b mid n)
      (lasts : (n : ℕ) → n < f.state.made → is_failed w n ≡ false) (present : HavePlaces v.state f) (someone : ℕ) (now : is_current v.state someone ≡ true)
      (was : is_current v.state place ≡ true) where
    abbrev next : State
    next = enlisted place units plan v.state

    up : v.state.epoch < next.epoch
    up =
        let e : raised v.state.epoch ≡ v.state.epoch + 1 =
        ap (λ (c : Bool). if c then v.state.epoch + 1 else v.state.epoch) (lt-ltb v.state.epoch (2 ^ 63 - 1) new.room) in
        omega (arith, e)

    -- the slices of other disks are those that they had
    fewer : (d k : ℕ) (c : List ℕ) → d ≢ disk → IsSliced u d k c → IsSliced t d k c
    fewer d k c = sliced_seated (views_of v) place disk (a.sectors disk) t u new.seats d k c

    -- While it is laid.
    pub replacing_laid : (k : ℕ) (i : Image) → a.clock < k → k ≤ b.clock → b.stops k i → k ≤ mid → RecoversInCall f t v.state v.state i
    replacing_laid k i since until stopped early =
        let each = λ (n : ℕ) (low : n < f.state.made). (told n low).before traced (lasts n low) k i since early stopped in
        let off : IsLaidOutsideSlices f t v.state disk a i =
        laid_off f t u v.state disk table a b i vacant free opened lasting only.stays fewer ((only.stops traced).new k i since until stopped)
        (laid_says a disk table i (omega (arith, room, sized)) (each 0 first).laid) in
        service_laid f t v a is orderly inside disk apart i off v tables present
        (laying_book f.state.made t disk table v w a (held_in v (slices_of t a)) i first each) new.room someone now

    -- At a moment contents say all arrays by the slices before, or all by those after.
    abbrev Former : Image → ℕ → Type 0
    Former i n = SaysFormer v (slices_of t a) n (held_in v (slices_of t a) n) (spent_of w n) (sectors_of t) (sliced t i)

    pub former_all : (i : Image) → ((n : ℕ) → n < f.state.made → SaysReplacing t u place disk table next v w a n (held_in v (slices_of t a) n) i)
        → state_in (replayed (sectors_of u) (sliced u i)) ≡ Some v.state → (n : ℕ) → n < f.state.made → Former i n
    former_all i each before n low = elim (each n low).says [
      | inl former ↦ former.0
      | inr latter ↦
          let says = latter.0.says in
          let same : v.state ≡ says.state = some_same v.state says.state (sym before ∙ says.is_state) in
          let epoch : v.state.epoch ≡ says.state.epoch = ap (λ (z : State). z.epoch) same in
          let late = says.later.epoch in
          let more = up in
          absurd (omega (arith, epoch, late, more))
    ]

    -- Once its slices were added, where they say the state before.
    pub replacing_former : (k : ℕ) (i : Image) → a.clock < k → k ≤ b.clock → b.stops k i → ((n : ℕ) → n < f.state.made → Former i n) → HasNoCopy place (sliced u i)
        → RecoversInCall f t v.state v.state i
    replacing_former k i since until stopped each none =
        let off : IsLaidOutsideSlices f t v.state disk a i =
        laid_off f t u v.state disk table a b i vacant free opened lasting only.stays fewer ((only.stops traced).new k i since until stopped)
        (λ copy low here. absurd (none copy (ap decoded (new_sector (views_of v) place disk (a.sectors disk) t u new.seats i) ∙ here))) in
        service_laid f t v a is orderly inside disk apart i off v tables present
        (former_book f.state.made t v w (slices_of t a) (held_in v (slices_of t a)) i first each) new.room someone now

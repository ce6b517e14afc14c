-- What a stop leaves inside a line that takes a new drive in, up to the moment when the record counts by which it is one of the pool, and inside one that is declined
-- after something was laid on the drive: the pool that the disks had. The place gave its disk up before, and nothing was written by then.
use Rattle.std.proofs.Common.{◌≡◌, ◌≢◌, ◌⊎◌, ℕ, ◌+◌, ◌-◌, ◌<◌, ◌≤◌, ◌^◌, if◌then◌else◌, Bool, true, false, List, Ok, Some, refl, sym, ap, subst, ◌∙◌, inl, inr, lt-ltb, arith}
use Rattle.std.proofs.lemmas.Bool.{cases_eq, cases_lt}
use Rattle.rack.specs.Moments.{Leaves}
use Rattle.rack.specs.Seen.{Image, RackView}
use Rattle.rack.specs.Sequences.{IsMix, WritesOnly}
use Rattle.rack.proofs.Writing.{only_weaker}
use Rattle.slice_rack.specs.Runs.{IsSliced}
use Rattle.slice_rack.specs.Slices.{IsOrderly, Slices, sectors_of}
use Rattle.slice_rack.specs.Sliced.{IsInside, sliced, slices_of}
use Rattle.gpt_table.specs.declared.Table.{Table}
use Rattle.pool_state.specs.declared.contents.Copied.{Copied}
use Rattle.pool_state.specs.declared.contents.Plan.{Plan}
use Rattle.pool_state.specs.declared.contents.State.{State}
use Rattle.pool_state.specs.Sector.{decoded}
use Rattle.array_image.specs.Places.{log_sectors, log_slice, place_of, slice_of, state_sector}
use Rattle.array_image.specs.States.{is_current}
use Rattle.log_laws.specs.Saying.{RecoversTo}
use Rattle.raid_laws.specs.Enlisting.{Enlists, IsNotWhole, IsOpenDisk, IsRefused, IsWrittenBy, KeepsTold, SaysJoining, enlisted, new_table}
use Rattle.raid_laws.specs.Missing.{raised}
use Rattle.raid_laws.specs.Logs.{LogsBetween}
use Rattle.raid_laws.specs.Losses.{has_other}
use Rattle.raid_laws.specs.NewDrive.{IsOfDrive, SeatsDrive, sectors_laid}
use Rattle.raid_laws.specs.Raid.{IsTracked, Raid, held_in, is_failed}
use Rattle.raid_laws.specs.Runs.{CrashInvariant}
use Rattle.raid_laws.proofs.Over.{number_room, someone_left}
use Rattle.raid_laws.proofs.Since.{joining_none}
use Rattle.pool_image.specs.Drives.{Found}
use Rattle.pool_model.specs.InService.{RunInvariant}
use Rattle.pool_model.specs.Laid.{IsLaidOutsideSlices}
use Rattle.pool_model.specs.Left.{HavePlaces}
use Rattle.pool_model.specs.Stopped.{RecoversInCall, HoldTables}
use Rattle.pool_model.specs.Taken.{LacksDrive, SeatsNew, views_of}
use Rattle.pool_model.proofs.Joined.{current_here}
use Rattle.pool_model.proofs.JoiningEarly.{joining_early}
use Rattle.pool_model.proofs.LaidOff.{declined_book, declined_off, joining_book, laid_off, laid_says, laying_book, new_sector}
use Rattle.pool_model.proofs.Laying.{laid_amid}
use Rattle.pool_model.proofs.Named.{same_length}
use Rattle.pool_model.proofs.Staying.{sliced_seated}
use Rattle.pool_model.proofs.TakingLate.{present_of}
use Rattle.pool_model.proofs.Vacant.{seats_from, vacant_free}

module _ (f : Found) (s t : Slices) (v : Raid) (place disk : ℕ) (a : RackView) (is : RunInvariant f s v a) (lacks : LacksDrive f s t v place a)
    (apart : (p : ℕ) → p ≢ place → f.seats p ≡ Some disk → ⊥) (orderly : IsOrderly t) (inside : IsInside t a) (tables : HoldTables f s v.state a)
    (opened : IsOpenDisk a disk) (room : 10273 ≤ a.sectors disk) (lasting : a.lasting) (traced : a.traced) where
  first : 0 < f.state.made
  first = (let made = is.arranged.made.0 in omega (arith, made))

  -- the disk is no current place's, and has no slice
  vacant : (p : ℕ) → f.seats p ≡ Some disk → is_current v.state p ≡ false
  vacant p seat = elim (cases_eq p place) [
    | inl same ↦ subst (λ q. is_current v.state q ≡ false) (sym same) lacks.missing
    | inr other ↦ absurd (apart p other seat)
  ]

  free : (k : ℕ) (w : List ℕ) → IsSliced t disk k w → ⊥
  free k w =
      vacant_free s t place lacks.vacated f is.slices disk k w (λ q seat. elim (cases_eq q place) [ inl same ↦ same | inr other ↦ absurd (apart q other seat) ])

  same_slices : (d k : ℕ) (w : List ℕ) → d ≢ disk → IsSliced t d k w → IsSliced t d k w
  same_slices d k w other at = at

  -- ---- a drive that is declined

  -- The drive may have refused a call, or another one was found gone and is marked, by the book w.
  pub declined_amid : (table : Table) → table.sectors ≡ a.sectors disk → (w : Raid) (b : RackView) → WritesOnly a b (IsWrittenBy t disk table) → CrashInvariant v w (slices_of t a) (slices_of t b)
      → ((n : ℕ) → n < f.state.made → IsTracked v (slices_of t a) n) → ((n : ℕ) → n < f.state.made → is_failed w n ≡ false)
      → Leaves a b (RecoversInCall f t v.state w.state)
  declined_amid table sized w b only keeps told lasts =
      let stops = only.stops traced in
      record { later = stops.later; kept = stops.kept; past = stops.past; new = λ k i since until stopped. amid k i since until stopped (stops.new k i since until stopped) }
    where
      still : is_failed v 0 ≡ false
      still = keeps.still 0 (lasts 0 first)

      amid : (k : ℕ) (i : Image) → a.clock < k → k ≤ b.clock → b.stops k i → IsMix a b (IsWrittenBy t disk table) i → RecoversInCall f t v.state w.state i
      amid k i since until stopped mix =
          let one = someone_left w 0 (lasts 0 first) in
          laid_amid f s t v place a is lacks orderly inside disk i (declined_off f t v disk table a vacant free opened (omega (arith, room, sized)) lasting b only.stays i mix) w tables
          (present_of f s t v place a is lacks (told 0 first) still) (declined_book f.state.made t v w a b traced keeps told lasts first k i since until stopped)
          (let most = (number_room w 0 (lasts 0 first)).1 in omega (arith, most)) one.0 one.1

  -- So it is where the drive refused a call, and where another one was found gone.
  pub refused_amid : (table : Table) → table.sectors ≡ a.sectors disk → (b : RackView) → IsRefused t disk table v a b → ((n : ℕ) → n < f.state.made → IsTracked v (slices_of t a) n)
      → ((n : ℕ) → n < f.state.made → is_failed v n ≡ false) → Leaves a b (RecoversInCall f t v.state v.state)
  refused_amid table sized b refused told lasts =
      declined_amid table sized v b (only_weaker (IsOfDrive disk table) (IsWrittenBy t disk table) (λ d k c own. inl own) refused.only) refused.moments told lasts

  pub not_whole_amid : (table : Table) → table.sectors ≡ a.sectors disk → (w : Raid) (b : RackView) → IsNotWhole t disk table v w a b → ((n : ℕ) → n < f.state.made → IsTracked v (slices_of t a) n)
      → ((n : ℕ) → n < f.state.made → is_failed w n ≡ false) → Leaves a b (RecoversInCall f t v.state w.state)
  not_whole_amid table sized w b declined told lasts = declined_amid table sized w b declined.only declined.moments told lasts

  -- ---- a drive that is taken in

  -- `mid` is the time when its slices were added.
  module _ (u : Slices) (units : ℕ) (plan : Plan) (table : Table) (sized : table.sectors ≡ a.sectors disk) (w : Raid) (b : RackView) (mid : ℕ) (new : SeatsNew f s u v place disk (a.sectors disk))
      (only : WritesOnly a b (IsWrittenBy u disk table)) (told : (n : ℕ) → n < f.state.made → KeepsTold t u place disk units plan table v w a b mid n)
      (lasts : (n : ℕ) → n < f.state.made → is_failed w n ≡ false) (present : HavePlaces v.state f) (someone : ℕ) (now : is_current v.state someone ≡ true) where
    abbrev next : State
    next = enlisted place units plan v.state

    seats : SeatsDrive (views_of v) place disk (a.sectors disk) t u
    seats = seats_from s t place lacks.vacated (views_of v) disk (a.sectors disk) u new.seats

    -- the slices of other disks are those that they had
    fewer : (d k : ℕ) (c : List ℕ) → d ≢ disk → IsSliced u d k c → IsSliced t d k c
    fewer d k c = sliced_seated (views_of v) place disk (a.sectors disk) t u seats d k c

    -- While it is laid.
    pub laying_early : (k : ℕ) (i : Image) → a.clock < k → k ≤ b.clock → b.stops k i → k ≤ mid → RecoversInCall f t v.state v.state i
    laying_early k i since until stopped early =
        let each = λ (n : ℕ) (low : n < f.state.made). (told n low).before traced (lasts n low) k i since early stopped in
        let off : IsLaidOutsideSlices f t v.state disk a i =
        laid_off f t u v.state disk table a b i vacant free opened lasting only.stays fewer ((only.stops traced).new k i since until stopped)
        (laid_says a disk table i (omega (arith, room, sized)) (each 0 first).laid) in
        laid_amid f s t v place a is lacks orderly inside disk i off v tables present
        (laying_book f.state.made t disk table v w a (held_in v (slices_of t a)) i first each) new.room someone now

    -- Once it has its slices, where they say the state before.
    pub taking_early : IsOrderly u → IsInside u a → (k : ℕ) (i : Image) → a.clock < k → k ≤ b.clock → b.stops k i → mid < k
        → RecoversTo v.state (sectors_of u) (sliced u i) → RecoversInCall f u v.state v.state i
    taking_early orderly_now inside_now k i since until stopped late says =
        let each = λ (n : ℕ) (low : n < f.state.made). (told n low).after lacks.missing traced (lasts n low) k i late until stopped in
        let off : IsLaidOutsideSlices f t v.state disk a i =
        laid_off f t u v.state disk table a b i vacant free opened lasting only.stays fewer ((only.stops traced).new k i since until stopped)
        (λ copy low here. absurd (says_none (each 0 first) copy here)) in
        joining_early f s u v place disk a is new lacks.missing t i lacks orderly inside orderly_now inside_now tables present someone now off
        (joining_book f.state.made t u disk table next v w a (held_in v (slices_of t a)) i first up says each)
      where
        up : v.state.epoch < next.epoch
        up =
            let e : raised v.state.epoch ≡ v.state.epoch + 1 =
            ap (λ (c : Bool). if c then v.state.epoch + 1 else v.state.epoch) (lt-ltb v.state.epoch (2 ^ 63 - 1) new.room) in
            omega (arith, e)

        few : place < 16
        few =
            let many = same_length v.state.drives.items f.state.drives.items is.after.same.drives in
            let most = is.arranged.places in
            let low = new.listed in
            omega (arith, many, most, low)

        many : sectors_of u (log_slice place) ≡ log_sectors
        many =
            seats.own (log_slice place) (let e : place_of (log_slice place) ≡ place = omega arith in e)
            ∙ ap (sectors_laid (views_of v) place (a.sectors disk)) (let e : slice_of (log_slice place) ≡ 0 = omega arith in e)

        -- the new drive has no state
        says_none : SaysJoining t u disk table next v w a 0 (held_in v (slices_of t a) 0) i → (copy : Copied) → decoded (i disk state_sector) ≡ Ok copy → ⊥
        says_none one copy here =
            joining_none v.state next (sectors_of u) (sliced u i) up says one.since place copy few (let long = many in omega (arith, long)) lacks.missing
            (current_here place units plan v.state new.listed) (ap decoded (new_sector (views_of v) place disk (a.sectors disk) t u seats i) ∙ here)

  -- By what the rack of arrays says of the call.
  module _ (u : Slices) (units : ℕ) (plan : Plan) (w : Raid) (b : RackView) (new : SeatsNew f s u v place disk (a.sectors disk))
      (enlists : Enlists t u (views_of v) place disk units plan v w a b) (told : (n : ℕ) → n < f.state.made → IsTracked v (slices_of t a) n)
      (lasts : (n : ℕ) → n < f.state.made → is_failed w n ≡ false) (left : has_other w.state place ≡ true) where
    listed : (n : ℕ) → n < f.state.made → n < v.state.made
    listed n low = let made = is.after.same.made in omega (arith, low, made)

    pub entering_told : (n : ℕ) → n < f.state.made → KeepsTold t u place disk units plan (new_table v.state (views_of v) place (a.sectors disk)) v w a b enlists.mid n
    entering_told n low = enlists.told n (listed n low) (told n low) opened left

    still : is_failed v 0 ≡ false
    still = enlists.is.still 0 (listed 0 first) left (lasts 0 first)

    -- each current place has a drive, and one is current
    pub entering_places : HavePlaces v.state f
    entering_places = present_of f s t v place a is lacks (told 0 first) still

    pub entering_someone : (p : ℕ) × (is_current v.state p ≡ true)
    entering_someone = let one = someone_left v 0 still in (one.0, one.1)

    -- A stop holds the pool that there was, or it is one at which the log slices say a state with the drive.
    pub entering_early : IsOrderly u → IsInside u a → (k : ℕ) (i : Image) → a.clock < k → k ≤ b.clock → b.stops k i
        → (RecoversInCall f t v.state v.state i ⊎ RecoversInCall f u v.state v.state i)
        ⊎ ((enlists.mid < k) × LogsBetween (enlisted place units plan v.state) w.state (sectors_of u) (sliced u i))
    entering_early orderly_now inside_now k i since until stopped =
        let table = new_table v.state (views_of v) place (a.sectors disk) in
        let one = entering_someone in
        elim (cases_lt enlists.mid k) [
          | inr early ↦
              inl (inl (laying_early u units plan table refl w b enlists.mid new enlists.only entering_told lasts entering_places one.0 one.1 k i since until stopped early))
          | inl late ↦ elim ((entering_told 0 first).after lacks.missing traced (lasts 0 first) k i late until stopped).logs [
            | inl says ↦
                inl (inr
                (taking_early u units plan table refl w b enlists.mid new enlists.only entering_told lasts entering_places one.0 one.1 orderly_now inside_now k i since until stopped
                late says))
            | inr brought ↦ inr (late, brought)
          ]
        ]

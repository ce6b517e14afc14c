-- The pool by which a run goes, where a line has attached the disk that it names and nothing is written on it yet.
use Rattle.std.proofs.Common.{◌≡◌, ◌≢◌, ℕ, ◌<◌, ◌≤◌, true, false, List, length, Option, Some, None, Ok, sym, ◌∙◌, ap, subst, inl, inr, arith}
use Rattle.std.proofs.lemmas.Bool.{both_ways, cases_eq}
use Rattle.std.proofs.lemmas.Option.{none-some}
use Rattle.rack.specs.Joins.{keeps_same, keeps_then}
use Rattle.rack.specs.Seen.{Image, IsLive}
use Rattle.rack.specs.Values.{Keeps, MayLeave, Values}
use Rattle.slice_rack.specs.Changes.{Seats}
use Rattle.slice_rack.specs.Runs.{IsSliced}
use Rattle.slice_rack.specs.Slices.{Slices}
use Rattle.slice_rack.specs.Sliced.{slices_of}
use Rattle.flat_array.specs.Array.{FlatArray}
use Rattle.lvm_group.specs.Runs.{array_of}
use Rattle.pool_state.specs.declared.contents.Copied.{Copied}
use Rattle.pool_state.specs.Sector.{decoded}
use Rattle.array_image.specs.Places.{state_sector}
use Rattle.array_image.specs.States.{is_current}
use Rattle.array_core.proofs.Opened.{current_below}
use Rattle.raid_laws.specs.Book.{after_same}
use Rattle.raid_laws.specs.Enlisting.{IsOpenDisk}
use Rattle.raid_laws.specs.Losing.{arrays_same}
use Rattle.raid_laws.specs.Raid.{IsTracked}
use Rattle.raid_laws.proofs.Noted.{current_few}
use Rattle.pool_image.specs.Disks.{Disks, disks_of, identities_of}
use Rattle.pool_image.specs.Drives.{Found, drive_sector, first_of}
use Rattle.pool_image.specs.Meaning.{array_sectors, is_member}
use Rattle.pool_model.specs.Alone.{HoldTabled}
use Rattle.pool_model.specs.InService.{RunInvariant}
use Rattle.pool_model.specs.Left.{IsPickOutsideSlices}
use Rattle.pool_model.specs.Stopped.{HoldTables}
use Rattle.pool_model.specs.Taken.{KeepsOutsideSlices, KeepsOthers, LacksDrive, attached}
use Rattle.pool_model.proofs.Alike.{HasTruths, first_same, member_same, sectors_same}
use Rattle.pool_model.proofs.Declined.{sector_same, truths_attached}
use Rattle.pool_model.proofs.Found.{seated_below}
use Rattle.pool_model.proofs.InService.{one_seat, service_attached}
use Rattle.pool_model.proofs.Lost.{lost_value}
use Rattle.pool_model.proofs.Named.{same_length}
use Rattle.pool_model.proofs.Tables.{tabled_declined, tables_attached}
use Rattle.pool_model.proofs.Unsliced.{free_stranger}
use Rattle.pool_model.proofs.Vacant.{lacks_value, vacant_free}
use Rattle.pool.specs.Entering.{Vacates}
use Rattle.pool.specs.Moment.{IsNamed, moment_of, views_of}
use Rattle.pool.specs.Taking.{AttachesDisk}
use Rattle.pool.specs.View.{View, book, over, volume}
use Rattle.pool.specs.Volume.{VolumeIs, is_spent, size_of}
use Rattle.pool.proofs.Admitted.{others_current, reaches_each}
use Rattle.pool.specs.Replacing.{IsAdmitted}
use Rattle.shr_tool.specs.Service.{GoesBy, IsFitDisk, Lone}
use Rattle.shr_tool.proofs.Entered.{told_attached, told_vacated}
use Rattle.shr_tool.proofs.Former.{copy_parts, going_seat, not_over, told_by}
use Rattle.shr_tool.proofs.TakenIn.{vacant_not}
use Rattle.shr_tool.proofs.TurnedDown.{seats_both}

module _ {L : Type 0} {o : Option Lone} (x : View) (bay : x.bays.one) (name : List ℕ) (disk : ℕ) (at : AttachesDisk x (over x bay) name (Ok disk))
    (unspent : (d s : ℕ) → (x.bays.seen bay).spent d s ≡ false) (fit : (volume x).fit) (b : FlatArray) (holds : VolumeIs x b) (f : Found) (goes : GoesBy L o f x)
    (fits : IsFitDisk f (moment_of x) name) where
  abbrev pub m : View
  m = over x bay

  abbrev t : Slices
  t = goes.tables

  count : f.disks.count ≡ x.bay.disks
  count = ap (λ (z : Disks). z.count) goes.service.disks

  sectors_kept : (d : ℕ) → d < f.disks.count → m.bay.sectors d ≡ f.disks.sectors d
  sectors_kept d low = at.continues.proceeds.disks.sectors d (let same = count in omega (arith, low, same)) ∙ sym (ap (λ (z : Disks). z.sectors d) goes.service.disks)

  pub live_now : (d s : ℕ) → d < m.bay.disks → s < m.bay.sectors d → IsLive m.bay m.bay d s
  live_now d s low within = record { disk = low; sector = within; is_told = at.continues.known holds.shelf holds.disks d low; unspent = unspent d s }

  -- each of its sectors can be called
  pub opened : IsOpenDisk m.bay disk
  opened s within = live_now disk s at.ok.1 within

  seat_disk : (k d : ℕ) → f.seats k ≡ Some d → d < x.bay.disks
  seat_disk k d seat = let low = (goes.service.arranged.seated k d seat).1 in let same = count in omega (arith, low, same)

  small : (k d : ℕ) → f.seats k ≡ Some d → k < 16
  small k d seat = current_few f.state k goes.service.arranged.places (goes.service.arranged.seated k d seat).0

  -- it is no current drive's
  pub not_current : (p : ℕ) → is_current (book x).state p ≡ true → f.seats p ≡ Some disk → ⊥
  not_current p current seat = at.ok.2 (p, going_seat x f goes p disk seat current, vacant_not (book x).state p current)

  -- what a disk may be left with off the slices it held
  left_off : (u : Slices) (i : Image) → IsPickOutsideSlices u m.bay i → (d s : ℕ) → d < x.bay.disks → s < m.bay.sectors d → ((w : List ℕ) → IsSliced u d s w → ⊥)
      → MayLeave (x.bay.held d s) (i d s)
  left_off u i off d s low within never =
      subst (λ h. MayLeave h (i d s)) (at.held d low s) (off d s (live_now d s (let more = at.continues.proceeds.disks.disks in omega (arith, low, more)) within) never)

  -- a disk that came says an earlier state, as what waited did
  came_says : (i : Image) → IsPickOutsideSlices t m.bay i → (d : ℕ) → d < m.bay.disks → f.disks.count ≤ d
      → (copy : Copied) → (identities_of (disks_of m.bay) i d).copied ≡ Some copy → copy.state.epoch < f.state.epoch
  came_says i off d low past copy here =
      let same = count in
      let new : x.bay.disks ≤ d = omega (arith, past, same) in
      let named : IsNamed (moment_of m) name d = at.names.came d new low in
      let image = at.image holds.shelf d named in
      let parts = copy_parts (m.bay.sectors d) (i d state_sector) copy here in
      let never : (k : ℕ) → f.seats k ≡ Some d → ⊥ = λ k seat. let there = seat_disk k d seat in omega (arith, there, new) in
      let left : MayLeave (image.0 state_sector) (i d state_sector) =
      subst (λ h. MayLeave h (i d state_sector)) (image.2 state_sector parts.0)
      (off d state_sector (live_now d state_sector low parts.0) (λ w is. free_stranger f t d state_sector w goes.service.slices never is)) in
      elim image.1 [
        | inl old ↦
            (let first = old.1 in
            let one = at.names.one old.0 d (at.continues.proceeds.disks.names old.0 name old.2) named in
            absurd (omega (arith, new, first, one)))
        | inr came ↦
            (let w = came.1.0 in
            let within = parts.0 in
            let sectors : m.bay.sectors d ≡ w.sectors = came.1.2 in
            elim (subst (λ (g : ℕ → Values). MayLeave (g state_sector) (i d state_sector)) came.1.3 left) [
              | inl is ↦ fits came.0 w came.1.1 (omega (arith, within, sectors)) copy (ap decoded (sym is) ∙ parts.1)
              | inr none ↦ absurd none
            ])
      ]

  keeps_off : (u : Slices) → KeepsOutsideSlices u disk x.bay m.bay
  keeps_off u d s other live never = (
    record {
      disk = (let low = live.disk in let more = at.continues.proceeds.disks.disks in omega (arith, low, more));
      sector = subst (λ n. s < n) (sym (at.continues.proceeds.disks.sectors d live.disk)) live.sector;
      is_told = at.continues.tells d live.disk live.is_told;
      unspent = unspent d s;
    },
    subst (λ h. Keeps (x.bay.held d s) h) (sym (at.held d live.disk s)) (keeps_same (x.bay.held d s)),
  )

  keeps_others : KeepsOthers f t (book x).state disk x.bay m.bay
  keeps_others = record {
    disks = (let same = count in let more = at.continues.proceeds.disks.disks in omega (arith, same, more));
    sectors = sectors_kept;
    drive = elim (seated_below f.seats disk 16) [
      | inl one ↦ inr one
      | inr none ↦ inl (λ p seat. none p (small p disk seat) seat)
    ];
    outside = keeps_off t;
    alone = λ i off n p first low current seat none begins within. absurd (not_current p current seat);
    earlier = came_says;
    stranger = λ i off never low copy here.
        let same = count in
        left_off t i off disk state_sector (omega (arith, low, same)) (copy_parts (m.bay.sectors disk) (i disk state_sector) copy here).0
        (λ w is. free_stranger f t disk state_sector w goes.service.slices (λ k. never k) is);
  }

  abbrev pub h : Found
  h = attached f (disks_of m.bay)

  few : f.state.made ≤ 16
  few = goes.service.arranged.made.1

  same_truths : HasTruths f h
  same_truths = truths_attached f (disks_of m.bay) goes.service.arranged (let same = count in let more = at.continues.proceeds.disks.disks in omega (arith, same, more)) sectors_kept

  pub member_named : (n p : ℕ) → n < f.state.made → is_member h n p ≡ is_member f n p
  member_named n p low = member_same f h few goes.service.arranged.truths same_truths n low p

  pub first_named : (n : ℕ) → n < f.state.made → first_of h n ≡ first_of f n
  first_named n low = first_same f h few goes.service.arranged.truths same_truths n (omega (arith, low))

  pub sectors_named : (n : ℕ) → n < f.state.made → array_sectors h n ≡ array_sectors f n
  sectors_named n low = sectors_same f h few goes.service.arranged.truths same_truths n low

  pub service_named : RunInvariant h t (book x) m.bay
  service_named = service_attached f t (book x) (book x) disk x.bay m.bay goes.service keeps_others (after_same (book x).state) (arrays_same (book x))

  pub tables_named : L → HoldTables h t (book x).state m.bay
  tables_named lands =
      tables_attached f t (book x).state disk x.bay m.bay goes.service.arranged goes.service.slices keeps_others
      (λ i off p current seat. absurd (not_current p current seat)) (goes.laid lands)

  tabled_named : HoldTabled h (book x).state t m.bay
  tabled_named =
      tabled_declined f t (book x).state disk x.bay m.bay goes.service.arranged keeps_others (λ i off p current seat. absurd (not_current p current seat)) goes.tabled

  -- ---- how a run goes by it

  pub holds_named : VolumeIs m b
  holds_named = record {
    told = λ s low left. at.carries.told holds.shelf holds.disks s (subst (λ n. s < n) holds.size low) left (holds.told s low (at.carries.spent s left));
    shelf = at.continues.proceeds.told holds.shelf;
    disks = at.continues.known holds.shelf holds.disks;
    size = holds.size ∙ sym at.continues.size;
    values = λ s low left.
        let was = at.carries.spent s left in
        keeps_then (b.values s) ((volume x).held 0 s) ((volume m).held 0 s) (holds.values s low was)
        (at.carries.keeps holds.shelf holds.disks s (subst (λ n. s < n) holds.size low) left (holds.told s low was));
  }

  -- the drive of a place that gave its disk up says what it said
  gave_up : (k : ℕ) → LacksDrive f t x.slices (book x) k x.bay → LacksDrive h t x.slices (book x) k m.bay
  gave_up k lacks = record {
    vacated = lacks.vacated;
    missing = lacks.missing;
    earlier = λ d seat i off copy here.
        let parts = copy_parts (m.bay.sectors d) (i d state_sector) copy here in
        let low = seat_disk k d seat in
        let left =
        left_off x.slices i off d state_sector low parts.0
        (λ w is. vacant_free t x.slices k lacks.vacated f goes.service.slices d state_sector w (λ q other. one_seat f t (book x) x.bay goes.service q k d other seat) is) in
        lacks_value f t x.slices (book x) k x.bay lacks d seat (i d state_sector) copy (subst (λ n. state_sector < n) (at.continues.proceeds.disks.sectors d low) parts.0) left parts.1;
  }

  pub goes_named : GoesBy L None h m
  goes_named = record {
    tables = t;
    service = service_named;
    vacant = elim goes.vacant [ inl same ↦ inl same | inr one ↦ inr (one.0, one.1, gave_up one.0 one.2) ];
    lasting = at.continues.lasting goes.lasting;
    arrays = goes.arrays;
    orderly = goes.orderly;
    laid = tables_named;
    tabled = tabled_named;
    alone = λ l none. absurd (none-some l none);
  }

  -- its arrays are told, where a sector of the volume can be had
  told_arrays : (s : ℕ) → s < size_of x → is_spent x s ≡ false → (n : ℕ) → n < x.linear.arrays → IsTracked (book x) (slices_of x.slices m.bay) n
  told_arrays = told_attached x bay name disk at holds

  pub arrays_named : (s : ℕ) → s < size_of x → is_spent x s ≡ false → (n : ℕ) → n < f.state.made → IsTracked (book x) (slices_of x.slices m.bay) n
  arrays_named s low left n below = told_arrays s low left n (subst (λ k. n < k) (sym goes.arrays) below)

  -- what is remembered of a place's drive
  pub sector_named : (p s : ℕ) → drive_sector h p s ≡ drive_sector f p s
  sector_named =
      sector_same f (disks_of m.bay) goes.service.arranged (let same = count in let more = at.continues.proceeds.disks.disks in omega (arith, same, more)) sectors_kept

  -- ---- the place gives its disk up, where a sector of the volume can be had

  module _ (place : ℕ) (listed : place < length (book x).state.drives.items) (vacates : Vacates m place disk) (none : is_current (book x).state place ≡ false) (some : ℕ)
      (within : some < size_of x) (alive : is_spent x some ≡ false) where
    abbrev u : Slices
    u = vacates.tables

    pub free_named : IsAdmitted (book x) place (m.bay.sectors disk)
    free_named = vacates.admits

    pub gave : Seats x.slices u place None
    gave = elim vacates.seats [ inl given ↦ given.1 | inr stays ↦ absurd (both_ways (is_current (book x).state place) none stays.0) ]

    -- where a place gave its disk up it is this one
    vacant_is : (k : ℕ) → k < length (book x).state.drives.items → is_current (book x).state k ≡ false → k ≡ place
    vacant_is k low missing = elim (cases_eq k place) [
      | inl same ↦ same
      | inr other ↦ absurd (both_ways (is_current (book x).state k) missing (others_current (book x).state place free_named.whole k low other))
    ]

    pub vacated_named : Seats t u place None
    vacated_named = elim goes.vacant [
      | inl same ↦ subst (λ (z : Slices). Seats z u place None) same gave
      | inr one ↦ seats_both t x.slices u place (subst (λ p. Seats t x.slices p None) (vacant_is one.0 one.1 one.2.missing) one.2.vacated) gave
    ]

    -- it has the room of a drive
    pub room_named : 10273 ≤ m.bay.sectors disk
    room_named = (reaches_each (views_of (book x)) place (m.bay.sectors disk) free_named.reaches).0

    -- it is no other place's drive
    pub apart_named : (p : ℕ) → p ≢ place → f.seats p ≡ Some disk → ⊥
    apart_named p other seat =
        let low = current_below f.state p (goes.service.arranged.seated p disk seat).0 in
        let many = same_length (book x).state.drives.items f.state.drives.items goes.service.after.same.drives in
        not_current p (others_current (book x).state place free_named.whole p (omega (arith, low, many)) other) seat

    told_first : IsTracked (book x) (slices_of x.slices x.bay) (array_of x.linear some)
    told_first = told_by x b some fit holds within alive

    earlier : (d : ℕ) → f.seats place ≡ Some d → (i : Image) → IsPickOutsideSlices u m.bay i
        → (copy : Copied) → (identities_of (disks_of m.bay) i d).copied ≡ Some copy → copy.state.epoch < (book x).state.epoch
    earlier d seat i off copy here =
        let parts = copy_parts (m.bay.sectors d) (i d state_sector) copy here in
        let low = seat_disk place d seat in
        let left =
        left_off u i off d state_sector low parts.0
        (λ w is. vacant_free t u place vacated_named f goes.service.slices d state_sector w (λ q other. one_seat f t (book x) x.bay goes.service q place d other seat) is) in
        elim goes.vacant [
          | inl same ↦
              lost_value f t u (book x) x.bay m.bay place d d goes.service.slices seat (small place d seat) none (array_of x.linear some)
              (subst (λ (z : Slices). IsTracked (book x) (slices_of z x.bay) (array_of x.linear some)) same told_first) (not_over x.linear (book x) some alive)
              (i d state_sector) copy left parts.1
          | inr one ↦
              (let lacks : LacksDrive f t x.slices (book x) place x.bay =
              subst (λ k. LacksDrive f t x.slices (book x) k x.bay) (vacant_is one.0 one.1 one.2.missing) one.2 in
              lacks_value f t x.slices (book x) place x.bay lacks d seat (i d state_sector) copy
              (subst (λ n. state_sector < n) (at.continues.proceeds.disks.sectors d low) parts.0) left parts.1)
        ]

    pub lacks_named : LacksDrive h t u (book x) place m.bay
    lacks_named = record { vacated = vacated_named; missing = none; earlier = earlier }

    -- each array is told by the slices that are left
    pub told_named : (n : ℕ) → n < x.linear.arrays → IsTracked (book x) (slices_of u m.bay) n
    told_named n low =
        told_vacated m place disk vacates at.continues.proceeds.fit.0.running.set fit.0.heeded n
        (let arrays = fit.1.arrays in omega (arith, low, arrays)) (told_arrays some within alive n low)

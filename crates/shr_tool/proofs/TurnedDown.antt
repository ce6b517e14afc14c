-- A pool by which a run goes is one after a line that took no drive in.
use Rattle.std.proofs.Common.{◌≡◌, ◌≢◌, ◌⊎◌, ℕ, ◌+◌, ◌-◌, ◌<◌, ◌≤◌, ◌^◌, ◌==◌, nat_lt, if◌then◌else◌, Bool, true, false, List, length, Option, Some, None, Ok, Err, refl, sym, ◌∙◌, ap, subst, inl, inr, lt-ltb, ltb-true, arith}
use Rattle.std.specs.Result.{result_ok}
use Rattle.std.proofs.lemmas.Bool.{both_ways, cases_Bool, cases_eq}
use Rattle.std.proofs.lemmas.Option.{none-some}
use Rattle.rack.specs.Seen.{Image}
use Rattle.rack.specs.Values.{MayLeave, Values}
use Rattle.slice_rack.specs.Changes.{Seats}
use Rattle.slice_rack.specs.Runs.{IsSliced}
use Rattle.slice_rack.specs.Slices.{Slices, seat_of}
use Rattle.flat_array.specs.Array.{FlatArray}
use Rattle.slice_rack.specs.Sliced.{slices_of}
use Rattle.lvm_group.specs.Runs.{Linear, array_of}
use Rattle.raid_laws.specs.Enlisting.{new_table}
use Rattle.raid_laws.specs.Raid.{IsTracked}
use Rattle.pool_state.specs.declared.contents.Copied.{Copied}
use Rattle.pool_state.specs.declared.contents.State.{State}
use Rattle.pool_state.specs.Sector.{decoded}
use Rattle.array_image.specs.Places.{state_sector}
use Rattle.array_image.specs.States.{is_current}
use Rattle.raid_laws.specs.Missing.{raised}
use Rattle.raid_laws.proofs.Over.{number_room}
use Rattle.pool_image.specs.Disks.{disks_of, identities_of}
use Rattle.pool_image.specs.Drives.{Found}
use Rattle.pool_model.specs.Left.{IsPickOutsideSlices}
use Rattle.pool_model.specs.Taken.{KeepsOutsideSlices, KeepsOthers, LacksDrive, attached}
use Rattle.pool_model.proofs.Found.{ok_of, seated_below}
use Rattle.pool_model.proofs.InService.{one_seat, service_attached}
use Rattle.pool_model.proofs.Lost.{lost_value}
use Rattle.pool_model.proofs.Named.{same_length}
use Rattle.pool_model.proofs.Tables.{tabled_declined, tables_attached}
use Rattle.pool_model.proofs.Unsliced.{free_stranger, laid_state}
use Rattle.pool_model.proofs.Vacant.{lacks_still, lacks_value, sliced_before, vacant_free}
use Rattle.pool.specs.declared.replacing.GrowFault.{GrowFault}
use Rattle.pool.specs.declared.replacing.GrowFault.TheVariants.{Twice}
use Rattle.pool.specs.Continuing.{NoDisk}
use Rattle.pool.specs.Entering.{LeavesReady}
use Rattle.pool.specs.Moment.{IsNamed, moment_of, views_of}
use Rattle.pool.specs.Naming.{LeavesNamed}
use Rattle.pool.specs.Replaced.{ChangesDrive, IsDeclined, IsOfDrive}
use Rattle.pool.specs.View.{View, book, over, spent_by, volume}
use Rattle.pool.specs.Volume.{VolumeIs, is_spent, size_of}
use Rattle.pool.proofs.Admitted.{admitted, others_current, reaches_each}
use Rattle.shr_tool.specs.Events.{looks_at}
use Rattle.shr_tool.specs.Events.Event.{declined}
use Rattle.shr_tool.specs.Service.{GoesBy, IsFitDisk, Lone, StandsLone}
use Rattle.shr_tool.specs.Timeline.{LineContract}
use Rattle.shr_tool.proofs.Former.{gave_below, lost_below, not_over, on_same, sector, small, told_by}
use Rattle.shr_tool.proofs.GivesWay.{left_copy, others_left}
use Rattle.shr_tool.proofs.Quiet.{listed_of, named_or, same_fault, twice_or}
use Rattle.shr_tool.proofs.TakenIn.{count_is, disks_more, keeps_but, keeps_off, live_at, seat_low, seat_now, sectors_kept, sliced_old, vacant_not}

-- places that give their disk up one after the other
pub seats_both : (t u w : Slices) (place : ℕ) → Seats t u place None → Seats u w place None → Seats t w place None
seats_both t u w place one two = record {
  seats = λ p. two.seats p ∙ by p (p == place) refl;
  cleared = two.cleared;
  firsts = λ d other. two.firsts d other ∙ one.firsts d other;
  sectors = λ d other. two.sectors d other ∙ one.sectors d other;
}
  where
    by : (p : ℕ) (c : Bool) → (p == place) ≡ c → (if p == place then None else seat_of u p) ≡ (if p == place then None else seat_of t p)
    by p true same = ap (λ (c : Bool). if c then None else seat_of u p) same ∙ sym (ap (λ (c : Bool). if c then None else seat_of t p) same)
    by p false other = ap (λ (c : Bool). if c then None else seat_of u p) other ∙ one.seats p

module _ {L : Type 0} {o : Option Lone} (x y : View) (place : ℕ) (name : List ℕ) (fault : GrowFault) (text : List ℕ) (b : FlatArray) (looks : looks_at fault ≡ true)
    (unspent : (d s : ℕ) → y.bay.spent d s ≡ false) (fit : (volume x).fit)
    (performs : LineContract x y (declined place name fault) text) (holds : VolumeIs x b) (some : (s : ℕ) × (s < size_of x) × (spent_by x.linear (book y) s ≡ false))
    (f : Found) (goes : GoesBy L o f x) (fits : IsFitDisk f (moment_of x) name) where
  abbrev pub changes : ChangesDrive x y place name
  changes = (performs.changes looks).0

  abbrev pub is : IsDeclined (moment_of x) (moment_of y) place fault
  is = performs.cause.1

  pub told : (d : ℕ) → d < y.bay.disks → y.bay.told d
  told = (performs.holds b holds).disks

  abbrev pub t : Slices
  t = goes.tables

  alive : is_spent x some.0 ≡ false
  alive = changes.spent some.0 (subst (λ (l : Linear). spent_by l (book y) some.0 ≡ false) (sym performs.continues.linear) some.2)

  pub count : f.disks.count ≡ x.bay.disks
  count = count_is x y place name unspent performs.continues (performs.outside looks) changes told f goes

  pub seat_disk : (k d : ℕ) → f.seats k ≡ Some d → d < x.bay.disks
  seat_disk k d seat = let low = (goes.service.arranged.seated k d seat).1 in let same = count in omega (arith, low, same)

  pub old_slices : (d s : ℕ) (w : List ℕ) → IsSliced x.slices d s w → IsSliced t d s w
  old_slices = sliced_old x y place name unspent performs.continues (performs.outside looks) changes told f goes

  -- a sector of a slice was one
  sliced_now : (d s : ℕ) (w : List ℕ) → IsSliced y.slices d s w → IsSliced x.slices d s w
  sliced_now d s w at = elim is.slices [
    | inl same ↦ subst (λ (u : Slices). IsSliced u d s w) same at
    | inr gave ↦ sliced_before x.slices y.slices place gave.2 d s w at
  ]

  pub listed : place < length (book x).state.drives.items
  listed = listed_of x y place name fault text looks performs

  -- the name is that of a drive, or it isn't
  of_drive : IsOfDrive (moment_of x) name ⊎ (IsOfDrive (moment_of x) name → ⊥)
  of_drive = elim (twice_or fault) [
    | inl same ↦ inl (performs.cause.0.twice.0 (ap Err same)).1
    | inr other ↦ inr (λ of. other (same_fault fault Twice (performs.cause.0.twice.1 (listed, of))))
  ]

  -- The disk that may have been written, which is the named one where there is one: a drive's own disk isn't.
  pub record IsOne (disk : ℕ) : Type 0 where
    pub off : (u : Slices) → ((d s : ℕ) (w : List ℕ) → IsSliced x.slices d s w → IsSliced u d s w) → KeepsOutsideSlices u disk x.bay y.bay
    pub or : (IsNamed (moment_of y) name disk × (IsOfDrive (moment_of x) name → ⊥)) ⊎ (y.bay.disks ≤ disk)

  pub one : (disk : ℕ) × IsOne disk
  one = elim of_drive [
    | inl of ↦ (
      y.bay.disks,
      record {
        off = λ u old.
            keeps_but x y place name unspent performs.continues (performs.outside looks) changes told f goes NoDisk (changes.current of) u old y.bay.disks
            (λ d other none. none);
        or = inr (omega arith);
      },
    )
    | inr never ↦ elim (named_or y.shelf.names name) [
      | inl at ↦ (
        at.0,
        record {
          off = λ u old.
              keeps_off x y place name unspent performs.continues (performs.outside looks) changes told f goes u old at.0
              (λ d other also. other (changes.names.one d at.0 also at.1));
          or = inl (at.1, never);
        },
      )
      | inr none ↦ (
        y.bay.disks,
        record {
          off = λ u old. keeps_off x y place name unspent performs.continues (performs.outside looks) changes told f goes u old y.bay.disks (λ d other also. none d also);
          or = inr (omega arith);
        },
      )
    ]
  ]

  abbrev disk : ℕ
  disk = one.0

  seats_or : (d : ℕ) → ((p : ℕ) × (f.seats p ≡ Some d)) ⊎ ((p : ℕ) → f.seats p ≡ Some d → ⊥)
  seats_or d = elim (seated_below f.seats d 16) [
    | inl at ↦ inl at
    | inr none ↦
        inr (λ p seat.
        let low = seat_low x y place name unspent performs.continues (performs.outside looks) changes told f goes p d seat in
        let few = fit.0.running.set.few in
        none p (omega (arith, low, few)) seat)
  ]

  -- ---- what a disk may say

  -- its sector of the state, where it has a copy
  record HasCopy (d : ℕ) (i : Image) (copy : Copied) : Type 0 where
    pub within : state_sector < y.bay.sectors d
    pub says : decoded (i d state_sector) ≡ Ok copy

  has_copy : (d : ℕ) (i : Image) (copy : Copied) → (identities_of (disks_of y.bay) i d).copied ≡ Some copy → HasCopy d i copy
  has_copy d i copy here = by (nat_lt state_sector (y.bay.sectors d)) refl here
    where
      by : (c : Bool) → nat_lt state_sector (y.bay.sectors d) ≡ c → (if c then result_ok (decoded (i d state_sector)) else None) ≡ Some copy → HasCopy d i copy
      by true within is = record { within = ltb-true state_sector (y.bay.sectors d) within; says = ok_of (decoded (i d state_sector)) copy is }
      by false past is = absurd (none-some copy is)

  -- the named one may have what its image had there
  was_there : (d : ℕ) (named : IsNamed (moment_of y) name d) (i : Image) (copy : Copied) → HasCopy d i copy
      → ((w : List ℕ) → IsSliced y.slices d state_sector w → ⊥) → MayLeave (y.bay.held d state_sector) (i d state_sector)
      → MayLeave ((changes.image holds.shelf holds.disks d named).0 state_sector) (i d state_sector)
  was_there d named i copy has free left =
      elim ((changes.image holds.shelf holds.disks d named).2 state_sector (i d state_sector) has.within free left) [
        | inl before ↦ before
        | inr laid ↦
            (let room = (reaches_each (views_of (book x)) place (y.bay.sectors d) (admitted x.linear (book x) place (y.bay.sectors d) laid.admitted).reaches).0 in
            absurd (laid_state d (new_table (book x).state (views_of (book x)) place (y.bay.sectors d)) (i d state_sector) copy room laid.value has.says))
      ]

  same_named : (d e : ℕ) → IsNamed (moment_of y) name d → IsNamed (moment_of x) name e → e ≡ d
  same_named d e named was = changes.names.one e d (performs.continues.proceeds.disks.names e name was) named

  -- one that was there had it
  held_there : (d : ℕ) → d < x.bay.disks → IsNamed (moment_of y) name d → (i : Image) (copy : Copied) → HasCopy d i copy
      → ((w : List ℕ) → IsSliced y.slices d state_sector w → ⊥) → MayLeave (y.bay.held d state_sector) (i d state_sector)
      → MayLeave (x.bay.held d state_sector) (i d state_sector)
  held_there d low named i copy has free left =
      let image = changes.image holds.shelf holds.disks d named in
      elim image.1 [
        | inl old ↦
            subst (λ e. MayLeave (x.bay.held e state_sector) (i d state_sector)) (same_named d old.0 named old.2)
            (subst (λ (g : ℕ → Values). MayLeave (g state_sector) (i d state_sector)) old.4 (was_there d named i copy has free left))
        | inr new ↦ absurd (new.0 d (changes.names.old d low named))
      ]

  -- by no slice before, nor afterwards
  free_now : (d : ℕ) → ((k : ℕ) → f.seats k ≡ Some d → ⊥) → (w : List ℕ) → IsSliced y.slices d state_sector w → ⊥
  free_now d never w at =
      free_stranger f t d state_sector w goes.service.slices never (old_slices d state_sector w (sliced_now d state_sector w at))

  left_at : (d : ℕ) (i : Image) (copy : Copied) → IsNamed (moment_of y) name d → ((k : ℕ) → f.seats k ≡ Some d → ⊥) → IsPickOutsideSlices t y.bay i → HasCopy d i copy
      → MayLeave (y.bay.held d state_sector) (i d state_sector)
  left_at d i copy named never off has =
      off d state_sector
      (live_at x y place name unspent performs.continues (performs.outside looks) changes told f goes d state_sector (changes.names.there d named) has.within)
      (λ w at. free_stranger f t d state_sector w goes.service.slices never at)

  -- one that was attached says an earlier state, as what waited did
  came_says : (d : ℕ) → x.bay.disks ≤ d → IsNamed (moment_of y) name d → ((k : ℕ) → f.seats k ≡ Some d → ⊥) → (i : Image) → IsPickOutsideSlices t y.bay i
      → (copy : Copied) → (identities_of (disks_of y.bay) i d).copied ≡ Some copy → copy.state.epoch < f.state.epoch
  came_says d past named never i off copy here =
      let has = has_copy d i copy here in
      let left = was_there d named i copy has (free_now d never) (left_at d i copy named never off has) in
      elim (changes.image holds.shelf holds.disks d named).1 [
        | inl old ↦ (let low = old.1 in let same = same_named d old.0 named old.2 in absurd (omega (arith, past, low, same)))
        | inr new ↦
            (let w = new.1.0 in
            let within = has.within in
            let sectors : y.bay.sectors d ≡ w.sectors = new.1.2 in
            elim (subst (λ (g : ℕ → Values). MayLeave (g state_sector) (i d state_sector)) new.1.3 left) [
              | inl is ↦ fits new.0 w new.1.1 (omega (arith, within, sectors)) copy (ap decoded (sym is) ∙ has.says)
              | inr none ↦ absurd none
            ])
      ]

  -- it isn't a current drive's
  pub not_current : (p : ℕ) → is_current (book x).state p ≡ true → f.seats p ≡ Some disk → ⊥
  not_current p current seat = elim one.1.or [
    | inl named ↦
        (let on = seat_now x y place name unspent performs.continues (performs.outside looks) changes told f goes p disk seat current in
        named.1 (disk, p, changes.names.old disk (seat_disk p disk seat) named.0, on, vacant_not (book x).state p current))
    | inr past ↦ (let there = seat_disk p disk seat in let more = performs.continues.proceeds.disks.disks in omega (arith, past, there, more))
  ]

  keeps_others : KeepsOthers f t (book x).state disk x.bay y.bay
  keeps_others = record {
    disks = disks_more x y place name unspent performs.continues (performs.outside looks) changes told f goes;
    sectors = sectors_kept x y place name unspent performs.continues (performs.outside looks) changes told f goes;
    drive = elim (seats_or disk) [ inl at ↦ inr at | inr none ↦ inl none ];
    outside = one.1.off t old_slices;
    alone = λ i off n p first low current seat none begins within. absurd (not_current p current seat);
    earlier = λ i off d low past copy here.
        let same = count in
        let new : x.bay.disks ≤ d = omega (arith, past, same) in
        came_says d new (changes.names.came d new low) (λ k seat. let there = seat_disk k d seat in omega (arith, there, past, same)) i off copy here;
    stranger = λ i off never low copy here.
        elim one.1.or [
          | inl named ↦
              (let same = count in
              let has = has_copy disk i copy here in
              held_there disk (omega (arith, low, same)) named.0 i copy has (free_now disk (λ k. never k)) (left_at disk i copy named.0 (λ k. never k) off has))
          | inr past ↦ (let more = performs.continues.proceeds.disks.disks in let same = count in absurd (omega (arith, past, low, same, more)))
        ];
  }

  missing_still : (k : ℕ) → is_current (book x).state k ≡ false → is_current (book y).state k ≡ false
  missing_still k missing = elim (cases_Bool (is_current (book y).state k)) [
    | inr former ↦ former
    | inl now ↦ absurd (both_ways (is_current (book x).state k) missing (is.marks.current k now))
  ]

  listed_still : (k : ℕ) → k < length (book x).state.drives.items → k < length (book y).state.drives.items
  listed_still k low = let many = same_length (book y).state.drives.items (book x).state.drives.items is.marks.same.drives in omega (arith, many, low)

  -- the state's sector of the disk of a place that gave it up, which is in no slice
  module _ (k d : ℕ) (seat : f.seats k ≡ Some d) (vacated : Seats t y.slices k None) (i : Image) (off : IsPickOutsideSlices y.slices y.bay i) (copy : Copied)
      (here : (identities_of (disks_of y.bay) i d).copied ≡ Some copy) where
    has : HasCopy d i copy
    has = has_copy d i copy here

    free : (w : List ℕ) → IsSliced y.slices d state_sector w → ⊥
    free w at =
        vacant_free t y.slices k vacated f goes.service.slices d state_sector w (λ q other. one_seat f t (book x) x.bay goes.service q k d other seat) at

    was_held : IsNamed (moment_of y) name d → MayLeave (x.bay.held d state_sector) (i d state_sector)
    was_held named =
        held_there d (seat_disk k d seat) named i copy has free
        (off d state_sector
        (live_at x y place name unspent performs.continues (performs.outside looks) changes told f goes d state_sector (changes.names.there d named) has.within) free)

    was_within : state_sector < x.bay.sectors d
    was_within = subst (λ n. state_sector < n) (performs.continues.proceeds.disks.sectors d (seat_disk k d seat)) has.within

  -- a disk whose place has none says an earlier state, where it did before
  earlier_still : (k : ℕ) → LacksDrive f t x.slices (book x) k x.bay → Seats t y.slices k None → (d : ℕ) → f.seats k ≡ Some d
      → (i : Image) → IsPickOutsideSlices y.slices y.bay i → (copy : Copied) → (identities_of (disks_of y.bay) i d).copied ≡ Some copy
      → copy.state.epoch < (book y).state.epoch
  earlier_still k lacks vacated d seat i off copy here =
      let up = is.marks.epoch in
      elim (cases_eq d disk) [
        | inl same ↦ elim one.1.or [
          | inl named ↦
              (let named_d : IsNamed (moment_of y) name d = subst (IsNamed (moment_of y) name) (sym same) named.0 in
              let less =
              lacks_value f t x.slices (book x) k x.bay lacks d seat (i d state_sector) copy (was_within k d seat vacated i off copy here)
              (was_held k d seat vacated i off copy here named_d) (has k d seat vacated i off copy here).says in
              omega (arith, less, up))
          | inr past ↦
              (let there = seat_disk k d seat in let more = performs.continues.proceeds.disks.disks in absurd (omega (arith, past, same, there, more)))
        ]
        | inr other ↦
            (let less =
            lacks_still f t x.slices y.slices (book x) k disk x.bay y.bay lacks (one.1.off x.slices (λ e s w at. at)) (λ e s w away at. sliced_now e s w at) d seat
            other (performs.continues.proceeds.disks.sectors d (seat_disk k d seat)) i off copy here in
            omega (arith, less, up))
      ]

  abbrev pub h : Found
  h = attached f (disks_of y.bay)

  abbrev Vacant : Type 0
  Vacant = (y.slices ≡ t) ⊎ ((k : ℕ) × (k < length (book y).state.drives.items) × LacksDrive h t y.slices (book y) k y.bay)

  -- the tables stayed
  vacant_same : y.slices ≡ x.slices → Vacant
  vacant_same same = elim goes.vacant [
    | inl was ↦ inl (same ∙ was)
    | inr at ↦
        inr (
          at.0,
          listed_still at.0 at.1,
          record {
            vacated = subst (λ (u : Slices). Seats t u at.0 None) (sym same) at.2.vacated;
            missing = missing_still at.0 at.2.missing;
            earlier =
                earlier_still at.0 at.2 (subst (λ (u : Slices). Seats t u at.0 None) (sym same) at.2.vacated);
          },
        )
  ]

  -- the place gave its disk up, and all others were current
  module _ (gave : Seats x.slices y.slices place None) (gone : is_current (book y).state place ≡ false)
      (whole : (k : ℕ) → k < length (book x).state.drives.items → k ≢ place → is_current (book x).state k ≡ true)
      (first : x.slices ≡ t → (d : ℕ) → f.seats place ≡ Some d → (i : Image) → IsPickOutsideSlices y.slices y.bay i
      → (copy : Copied) → (identities_of (disks_of y.bay) i d).copied ≡ Some copy → copy.state.epoch < (book y).state.epoch) where
    vacant_given : Vacant
    vacant_given = elim goes.vacant [
      | inl same ↦
          inr (
            place,
            listed_still place listed,
            record {
              vacated = subst (λ (u : Slices). Seats u y.slices place None) same gave;
              missing = gone;
              earlier = first same;
            },
          )
      | inr at ↦
          (let this : at.0 ≡ place =
          elim (cases_eq at.0 place) [
            | inl same ↦ same
            | inr other ↦ absurd (both_ways (is_current (book x).state at.0) at.2.missing (whole at.0 at.1 other))
          ] in
          let lacks : LacksDrive f t x.slices (book x) place x.bay = subst (λ k. LacksDrive f t x.slices (book x) k x.bay) this at.2 in
          let vacated = seats_both t x.slices y.slices place lacks.vacated gave in
          inr (
            place,
            listed_still place listed,
            record { vacated = vacated; missing = gone; earlier = earlier_still place lacks vacated },
          ))
    ]

  -- what the drive says then that it had: where it was missing
  module _ (gave : Seats x.slices y.slices place None) (vacant : is_current (book x).state place ≡ false) (same : x.slices ≡ t) (d : ℕ) (seat : f.seats place ≡ Some d) where
    vacated : Seats t y.slices place None
    vacated = subst (λ (u : Slices). Seats u y.slices place None) same gave

    first_given : (i : Image) → IsPickOutsideSlices y.slices y.bay i → (copy : Copied) → (identities_of (disks_of y.bay) i d).copied ≡ Some copy
        → copy.state.epoch < (book y).state.epoch
    first_given i off copy here =
        let up = is.marks.epoch in
        elim named_at [
          | inl named ↦
              (let less =
              lost_value f t y.slices (book x) x.bay y.bay place d d goes.service.slices seat (small x place fit f goes d seat (on_same x f goes place d seat same)) vacant (array_of x.linear some.0)
              (subst (λ (u : Slices). IsTracked (book x) (slices_of u x.bay) (array_of x.linear some.0)) same (told_by x b some.0 fit holds some.1 alive))
              (not_over x.linear (book x) some.0 alive) (i d state_sector) copy (was_held place d seat vacated i off copy here named)
              (has place d seat vacated i off copy here).says in
              omega (arith, less, up))
          | inr unnamed ↦
              (let kept = (changes.retired place d listed vacant (on_same x f goes place d seat same) unnamed).held state_sector (sector x place fit f goes d seat (on_same x f goes place d seat same)) (holds.disks d (seat_disk place d seat)) in
              let less =
              lost_below x place fit f goes d seat same holds some.0 some.1 alive y performs.continues told unspent kept (free place d seat vacated i off copy here) vacant i off copy
              here in
              omega (arith, less, up))
        ]
      where
        named_at : IsNamed (moment_of y) name d ⊎ (IsNamed (moment_of y) name d → ⊥)
        named_at = elim (named_or y.shelf.names name) [
          | inl at ↦ elim (cases_eq d at.0) [
            | inl one ↦ inl (subst (IsNamed (moment_of y) name) (sym one) at.1)
            | inr other ↦ inr (λ also. other (changes.names.one d at.0 also at.1))
          ]
          | inr none ↦ inr (λ also. none d also)
        ]

  -- and where it was found gone, in the cleaning or while the new disk was being laid
  module _ (gave : Seats x.slices y.slices place None) (current : is_current (book x).state place ≡ true) (gone : is_current (book y).state place ≡ false)
      (named : LeavesNamed x y place name) (ready : LeavesReady (over x named.bay) y place named.disk) (same : x.slices ≡ t) (d : ℕ) (seat : f.seats place ≡ Some d) where
    given_now : Seats t y.slices place None
    given_now = subst (λ (u : Slices). Seats u y.slices place None) same gave

    room : (book y).state.epoch < 2 ^ 63 - 1
    room = let most = (number_room (book y) (array_of x.linear some.0) (not_over x.linear (book y) some.0 some.2)).1 in omega (arith, most)

    later : (book x).state.epoch < (book y).state.epoch
    later = elim is.marks.raised [
      | inl still ↦ absurd (both_ways (is_current (book x).state place) (subst (λ (s : State). is_current s place ≡ false) still gone) current)
      | inr (inl up) ↦ up
      | inr (inr most) ↦ (let below = room in absurd (omega (arith, most, below)))
    ]

    away : d ≢ named.disk
    away one =
        named.attaches.ok.2 (
          place,
          subst (λ e. seat_of x.slices place ≡ Some e) one (on_same x f goes place d seat same),
          vacant_not (book x).state place current,
        )

    lost_given : (i : Image) → IsPickOutsideSlices y.slices y.bay i → (copy : Copied) → (identities_of (disks_of y.bay) i d).copied ≡ Some copy
        → copy.state.epoch < (book y).state.epoch
    lost_given i off copy here =
        let bare : (w : List ℕ) → IsSliced y.slices d state_sector w → ⊥ = free place d seat given_now i off copy here in
        let kept = left_copy x y place name named ready unspent fit f goes d seat (on_same x f goes place d seat same) holds away bare in
        let up = later in
        let most = room in
        let below : (book x).state.epoch < 2 ^ 63 - 1 = omega (arith, up, most) in
        let less = gave_below x place fit f goes d seat same holds some.0 some.1 alive y performs.continues told unspent kept bare below i off copy here in
        let next : raised (book x).state.epoch ≡ (book x).state.epoch + 1 =
        ap (λ (c : Bool). if c then (book x).state.epoch + 1 else (book x).state.epoch) (lt-ltb (book x).state.epoch (2 ^ 63 - 1) below) in
        omega (arith, less, next, up)

  vacant_now : Vacant
  vacant_now = elim is.slices [
    | inl same ↦ vacant_same same
    | inr gave ↦ elim (cases_Bool (is_current (book x).state place)) [
      | inr missing ↦ elim changes.admitted [
        | inl same ↦ vacant_same same
        | inr at ↦
            (let free = admitted x.linear (book x) place (y.bay.sectors at.0) at.2 in
            vacant_given gave.2 gave.1 (others_current (book x).state place free.whole) (first_given gave.2 missing))
      ]
      | inl current ↦ elim (performs.changes looks).1 [
        | inl still ↦ vacant_same still.1
        | inr named ↦ elim named.leaves [
          | inl at_once ↦ absurd (both_ways (is_current (book x).state place) at_once.0 current)
          | inr ready ↦ elim ready.1 [
            | inl cleaned ↦ vacant_same cleaned.ends.passes.slices
            | inr laid ↦ vacant_given gave.2 gave.1 (others_left x y place name named laid) (lost_given gave.2 current gave.1 named laid)
          ]
        ]
      ]
    ]
  ]

  -- the pool goes on, and stands alone where this is known
  pub goes_then : {r : Option Lone} → ((l : Lone) → r ≡ Some l → StandsLone l h t y) → GoesBy L r h y
  goes_then alone = record {
    tables = t;
    service = service_attached f t (book x) (book y) disk x.bay y.bay goes.service keeps_others is.marks is.arrays;
    vacant = vacant_now;
    lasting = performs.continues.lasting goes.lasting;
    arrays = ap (λ (l : Linear). l.arrays) performs.continues.linear ∙ goes.arrays;
    orderly = performs.continues.orderly goes.orderly;
    laid = λ lands i off p d now.
        tables_attached f t (book x).state disk x.bay y.bay goes.service.arranged goes.service.slices keeps_others
        (λ j left q current seat. absurd (not_current q current seat)) (goes.laid lands) i off p d (is.marks.current p now);
    tabled = λ i off p d seat why.
        tabled_declined f t (book x).state disk x.bay y.bay goes.service.arranged keeps_others (λ j left q current own. absurd (not_current q current own)) goes.tabled i off p d seat
        (elim why [ inl now ↦ inl (is.marks.current p now) | inr never ↦ inr never ]);
    alone = alone;
  }

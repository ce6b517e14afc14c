-- Inside a line in which a drive is replaced no other disk has the id of the new one, where the pool stands alone on its disks.
use Rattle.std.proofs.Common.{◌≡◌, ◌≢◌, ◌⊎◌, ℕ, ◌+◌, ◌<◌, ◌≤◌, ◌==◌, if◌then◌else◌, Bool, true, false, List, [], ◌∷◌, ◌++◌, Option, Some, None, Ok, refl, sym, ◌∙◌, ap, ap₂, subst, inl, inr, eq-eqb, le-ltb, lt-ltb, arith}
use Rattle.std.proofs.lemmas.Bool.{both_ways, cases_eq, cases_lt, ne_eqb}
use Rattle.std.proofs.lemmas.Option.{none-some}
use Rattle.rack.specs.Seen.{Image, IsLive}
use Rattle.rack.specs.Sequences.{WritesOnly}
use Rattle.rack.specs.Values.{MayLeave}
use Rattle.rack.proofs.Writing.{only_then, only_weaker}
use Rattle.slice_rack.specs.Runs.{IsSliced}
use Rattle.slice_rack.specs.Slices.{disk_of, first_of, seat_of, sectors_of}
use Rattle.slice_rack.specs.Sliced.{sliced}
use Rattle.flat_array.specs.Array.{FlatArray}
use Rattle.lvm_group.specs.Runs.{array_of, sector_of}
use Rattle.shr_base.specs.declared.Id.{Id}
use Rattle.pool_state.specs.declared.contents.Copied.{Copied}
use Rattle.array_image.specs.Left.{IsInside}
use Rattle.array_image.specs.Places.{log_slice, state_sector}
use Rattle.array_image.specs.States.{is_current}
use Rattle.array_core.proofs.Stripped.{some_same}
use Rattle.raid_laws.specs.Enlisting.{IsWrittenBy, next_drive}
use Rattle.raid_laws.specs.Laws.{live_parts}
use Rattle.raid_laws.specs.Raid.{IsTracked, is_failed}
use Rattle.raid_laws.specs.Since.{HasOwnSince, KeepsSince}
use Rattle.raid_laws.proofs.Since.{kept_since}
use Rattle.pool_image.specs.Disks.{Identity, disks_of, id_by, identities_of}
use Rattle.pool_image.specs.Drives.{Found}
use Rattle.pool_model.specs.Alone.{IsTabled, SaysNoImpostor}
use Rattle.pool_model.specs.Laid.{HaveOtherIds}
use Rattle.pool_model.specs.Left.{IsPickOutsideSlices}
use Rattle.pool_model.specs.Taken.{AreSerial, attached}
use Rattle.pool_model.proofs.Alone.{says_own}
use Rattle.pool_model.proofs.Named.{id_same}
use Rattle.pool_model.proofs.Serials.{serial_after, serial_fresh}
use Rattle.pool.specs.Entering.{EntersBy, EntersReady, meanwhile, table_on}
use Rattle.pool.specs.Moment.{Moment, moment_of}
use Rattle.pool.specs.Naming.{EntersNamed}
use Rattle.pool.specs.Replaced.{ChangesDrive}
use Rattle.pool.specs.Taking.{AttachesDisk}
use Rattle.pool.specs.View.{View, book, over, slices_shown, spent_by, volume}
use Rattle.pool.specs.Volume.{VolumeIs, is_spent, size_of}
use Rattle.pool.proofs.Readying.{next_same}
use Rattle.shr_tool.specs.Between.{HasOthers, HaveOthers}
use Rattle.shr_tool.specs.Events.{Event, becomes, takes_disk}
use Rattle.shr_tool.specs.Events.Event.{answered, spent, lost, last, replaced, declined, stepped, stuck, shown}
use Rattle.shr_tool.specs.Service.{GoesBy, IsFitDrive, IsFitFor, IsOut, IsOwnCopy, Lone, StandsLone, none_out, pool_after, pool_by}
use Rattle.shr_tool.specs.Timeline.{LineContract, Steps, Timeline, steps_of}
use Rattle.shr_tool.proofs.Between.{timeline_order}
use Rattle.shr_tool.proofs.Chains.{steps_more}
use Rattle.shr_tool.proofs.Entered.{out, since_ready, stays_ready, told_attached}
use Rattle.shr_tool.proofs.Former.{array_low, copy_parts, going_seat, held_there, log_first, log_many, log_on, not_over, own_since, small}
use Rattle.shr_tool.proofs.GivesWay.{after}
use Rattle.shr_tool.proofs.Serviced.{IsServedBy}
use Rattle.shr_tool.proofs.TakenIn as new
use Rattle.shr_tool.proofs.TakingFrom.{other_left}

module _ {L : Type 0} {bound : ℕ} (x y : View) (place : ℕ) (name text : List ℕ) (b : FlatArray) (unspent : (d s : ℕ) → y.bay.spent d s ≡ false) (fit : (volume x).fit)
    (performs : LineContract x y (replaced place name) text) (holds : VolumeIs x b) (some : (s : ℕ) × (s < size_of x) × (spent_by x.linear (book y) s ≡ false))
    (f : Found) (goes : GoesBy L (Some (none_out bound)) f x) (fitting : IsFitDrive f (moment_of x) place name) (serials : AreSerial f.state) (early : (book y).state.serial ≤ bound)
    (traced : x.bay.traced) where
  bounds : (l : Lone) → Some (none_out bound) ≡ Some l → (book y).state.serial ≤ l.bound
  bounds l same = subst (λ (k : Lone). (book y).state.serial ≤ k.bound) (some_same (none_out bound) l same) early

  -- no disk is left out
  stays : (names : List (List ℕ)) (d : ℕ) → IsOut (none_out bound) names d → ⊥
  stays names d out = none-some out.1 out.2

  abbrev disk : ℕ
  disk = new.disk x y place name text b unspent fit performs holds some f goes fitting serials bounds

  abbrev entered : EntersNamed x y place name disk
  entered = new.entered x y place name text b unspent fit performs holds some f goes fitting serials bounds

  abbrev at : AttachesDisk x (over x entered.bay) name (Ok disk)
  at = entered.attaches

  alive : is_spent x some.0 ≡ false
  alive = new.alive x y place name text b unspent fit performs holds some f goes fitting serials bounds

  fewer : (d s : ℕ) (w : List ℕ) → d ≢ disk → IsSliced y.slices d s w → IsSliced x.slices d s w
  fewer = new.fewer x y place name text b unspent fit performs holds some f goes fitting serials bounds

  changes : ChangesDrive x y place name
  changes = (performs.changes refl).0

  told_then : (d : ℕ) → d < y.bay.disks → y.bay.told d
  told_then = (performs.holds b holds).disks

  stands : StandsLone (none_out bound) f goes.tables x
  stands = goes.alone (none_out bound) refl

  abbrev m : View
  m = over x entered.bay

  -- ---- what is written meanwhile, from the time on when the disk is attached

  -- the disk itself, and slices
  abbrev May : ℕ → ℕ → List ℕ → Type 0
  May d s v = (d ≡ disk) ⊎ IsSliced x.slices d s v

  entering_only : (c : View) → EntersBy c y place disk → WritesOnly c.bay y.bay May
  entering_only c enters =
      only_weaker (IsWrittenBy y.slices disk (table_on c place disk)) May
      (λ d s v may.
      elim may [
        | inl own ↦ inl own.0
        | inr sliced ↦ elim (cases_eq d disk) [ inl same ↦ inl same | inr other ↦ inr (fewer d s v other sliced) ]
      ])
      enters.enlists.only

  module _ (ready : EntersReady m y place disk) where
    abbrev c : View
    c = meanwhile m ready.bay ready.arrays ready.refused

    readying_only : WritesOnly m.bay c.bay May
    readying_only = elim ready.readies [
      | inl cleaned ↦ only_weaker (IsSliced x.slices) May (λ d s v sliced. inr sliced) cleaned.ends.passes.apart
      | inr lose ↦
          (let w = meanwhile m lose.bay lose.arrays lose.refused in
          only_then May (only_weaker (IsSliced x.slices) May (λ d s v sliced. inr sliced) lose.cleaned.ends.passes.apart)
          (only_weaker (IsWrittenBy x.slices disk (table_on w place disk)) May (λ d s v may. elim may [ inl own ↦ inl own.0 | inr sliced ↦ inr sliced ])
          (out m ready.bay ready.arrays ready.refused place disk ready.readies lose).only))
    ]

  only : WritesOnly m.bay y.bay May
  only = elim entered.enters [
    | inl at_once ↦ entering_only m at_once.1
    | inr gives ↦ only_then May (readying_only gives.1) (entering_only (c gives.1) gives.1.enters)
  ]

  -- ---- a stop inside the line

  traced_then : m.bay.traced
  traced_then = at.continues.proceeds.traced holds.shelf traced

  module _ (k : ℕ) (i : Image) (since : x.bay.clock < k) (until : k ≤ y.bay.clock) (stopped : y.bay.stops k i) where
    begun : m.bay.clock < k
    begun = let clock = at.clock in omega (arith, since, clock)

    -- the same contents, but for the disk that comes, are such as the disks might be left with before
    abbrev was : Image
    was = λ d s. if d == disk then (x.bay.held d s).current else i d s

    was_other : (d : ℕ) → d ≢ disk → was d ≡ i d
    was_other d other = let read : Bool → ℕ → List ℕ = λ z s. if z then (x.bay.held d s).current else i d s in ap read (ne_eqb d disk other)

    left_at : (d s : ℕ) → d ≢ disk → IsLive x.bay x.bay d s → ((w : List ℕ) → IsSliced x.slices d s w → ⊥) → MayLeave (x.bay.held d s) (i d s)
    left_at d s other live never =
        subst (λ h. MayLeave h (i d s)) (at.held d live.disk s)
        (elim ((only.stops traced_then).new k i begun until stopped d s
        (record {
          disk = (let low = live.disk in let more = performs.continues.proceeds.disks.disks in omega (arith, low, more));
          sector = subst (λ n. s < n) (sym (performs.continues.proceeds.disks.sectors d live.disk)) live.sector;
          is_told = at.continues.tells d live.disk live.is_told;
          unspent = unspent d s;
        })) [
          | inl may ↦ may
          | inr written ↦ elim written [ inl same ↦ absurd (other same) | inr sliced ↦ absurd (never (i d s) sliced) ]
        ])

    off_was : IsPickOutsideSlices goes.tables x.bay was
    off_was d s live never = elim (cases_eq d disk) [
      | inl same ↦ subst (λ v. MayLeave (x.bay.held d s) v) (sym (ap (λ (z : Bool). if z then (x.bay.held d s).current else i d s) (eq-eqb d disk same))) (inl refl)
      | inr other ↦
          subst (λ v. MayLeave (x.bay.held d s) v) (sym (ap (λ (z : Bool). if z then (x.bay.held d s).current else i d s) (ne_eqb d disk other)))
          (left_at d s other live
          (λ w sliced. never w (new.sliced_old x y place name unspent performs.continues (performs.outside refl) changes told_then f goes d s w sliced)))
    ]

    says : SaysNoImpostor f bound (IsOut (none_out bound) x.shelf.names) (book x).state was
    says = stands.alone was off_was

    -- ---- another disk then

    module _ (d : ℕ) (low : d < y.bay.disks) (other : d ≢ disk) where
      there : d < x.bay.disks
      there = elim (cases_lt d x.bay.disks) [
        | inl old ↦ old
        | inr past ↦
            absurd
            (other (changes.names.one d disk (changes.names.came d past low) (new.named x y place name text b unspent fit performs holds some f goes fitting serials bounds)))
      ]

      counted : d < f.disks.count
      counted = let at = there in let same = new.count_is x y place name unspent performs.continues (performs.outside refl) changes told_then f goes in omega (arith, at, same)

      sectors : y.bay.sectors d ≡ f.disks.sectors d
      sectors = new.sectors_kept x y place name unspent performs.continues (performs.outside refl) changes told_then f goes d counted

      abbrev z : Identity
      z = identities_of (disks_of y.bay) i d

      abbrev next : List ℕ
      next = (next_drive (book x).state).0

      -- one that is no drive of the pool
      stranger : ((p : ℕ) → f.seats p ≡ Some d → ⊥) → id_by z.table z.copied ≢ Some next
      stranger never is =
          (says.others d never (stays x.shelf.names d) counted).ungiven f.state.serial (omega arith)
          (new.below x y place name text b unspent fit performs holds some f goes fitting serials bounds (none_out bound) refl)
          (ap (λ (c : ℕ → List ℕ). let q = identities_of f.disks (λ e. c) d in id_by q.table q.copied) (was_other d other)
          ∙ sym (ap (λ (n : ℕ). let q = identities_of (record { count = f.disks.count; sectors = λ e. n }) i d in id_by q.table q.copied) sectors)
          ∙ is ∙ ap (λ (id : Id). Some id.0) (next_same f.state (book x).state goes.service.after))

      -- the drive that the place had
      module _ (seat : f.seats place ≡ Some d) where
        told_named : m.bay.told d
        told_named = at.continues.known holds.shelf holds.disks d (let at = there in let more = entered.attaches.continues.proceeds.disks.disks in omega (arith, at, more))

        -- it has no slices by the new tables
        bare : (w : List ℕ) → IsSliced y.slices d state_sector w → ⊥
        bare = (new.kept_there x y place name text b unspent fit performs holds some f goes fitting serials bounds (none_out bound) refl d other seat (stays y.shelf.names d)).1

        abbrev w : List ℕ
        w = i d state_sector

        -- its copy isn't written once the disk is being taken in
        kept_from : (e : View) (enters : EntersBy e y place disk) → e.bay.traced → e.bay.told d → e.bay.clock < k → state_sector < y.bay.sectors d → MayLeave (e.bay.held d state_sector) w
        kept_from e enters traced told late within =
            elim ((enters.enlists.only.stops traced).new k i late until stopped d state_sector
            (record { disk = low; sector = within; is_told = told; unspent = unspent d state_sector })) [
              | inl may ↦ may
              | inr written ↦ elim written [ inl own ↦ absurd (other own.0) | inr sliced ↦ absurd (bare w sliced) ]
            ]

        -- while the pool is made ready for it the drive is current, so it has its own copy
        module _ (current : is_current (book x).state place ≡ true) (ready : EntersReady m y place disk) where
          on : seat_of x.slices place ≡ Some d
          on = going_seat x f goes place d seat current

          few : place < 16
          few = small x place fit f goes d seat on

          abbrev e : View
          e = meanwhile m ready.bay ready.arrays ready.refused

          abbrev n : ℕ
          n = array_of x.linear some.0

          made : n < (book e).state.made
          made =
              (let inside = array_low x some.0 fit some.1 in
              let arrays = fit.1.arrays in
              let same = (after x entered.bay place name disk at ready.bay ready.arrays ready.refused ready.readies).same.made in
              omega (arith, inside, arrays, same))

          lasts : is_failed (book e) n ≡ false
          lasts =
              (let left = live_parts (book y) n (sector_of x.linear some.0) some.2 in
              ready.enters.enlists.is.still n made (other_left e y place disk ready.enters performs.continues.proceeds.fit.0 n (sector_of x.linear some.0) made left.1) left.0)

          told : IsTracked (book x) (slices_shown m) n
          told = told_attached x entered.bay name disk at holds some.0 some.1 alive n (array_low x some.0 fit some.1)

          copies : KeepsSince (book x).state (slices_shown m) (slices_shown e)
          copies =
              since_ready m ready.bay ready.arrays ready.refused place disk ready.readies n told lasts
              (kept_since (book x).state (book x).number (slices_shown m) (told.stood (not_over x.linear (book x) some.0 alive)).log)

          log_there : 0 < sectors_of x.slices (log_slice place)
          log_there = let many = log_many x place fit f goes d seat on in omega (arith, many)

          inside : IsInside (sectors_of x.slices) (sliced x.slices i)
          inside q u past = ap (λ (z : Bool). if z then i (disk_of x.slices q) (first_of x.slices q + u) else []) (le-ltb u (sectors_of x.slices q) past)

          shows : sliced x.slices i (log_slice place) 0 ≡ w
          shows =
              ap (λ (z : Bool). if z then i (disk_of x.slices (log_slice place)) (first_of x.slices (log_slice place) + 0) else [])
              (lt-ltb 0 (sectors_of x.slices (log_slice place)) log_there)
              ∙ ap₂ (λ e s. i e s) (log_on x place fit f goes d seat on) (log_first x place fit f goes d seat on)

          own_ready : state_sector < y.bay.sectors d → HasOwnSince (book x).state place w
          own_ready within =
              let stays = stays_ready m ready.bay ready.arrays ready.refused place disk ready.readies in
              let traced_ready = stays.traced traced_then in
              elim (cases_lt e.bay.clock k) [
                | inl late ↦
                    (copies.holds place w few log_there
                    (subst (λ h. MayLeave h w) (sym (held_there x place fit f goes d seat on e.bay))
                    (kept_from e ready.enters traced_ready (stays.told d told_named) late within))).own current
                | inr soon ↦
                    subst (HasOwnSince (book x).state place) shows
                    (((copies.leaves traced_then).new k (sliced x.slices i) begun soon
                    (i, (ready.enters.enlists.only.stops traced_ready).past k i soon stopped, λ q u. refl) inside place few log_there).own current)
              ]

        own : (copy : Copied) → z.copied ≡ Some copy → IsOwnCopy f.state place copy
        own copy here =
            let parts = copy_parts (y.bay.sectors d) w copy here in
            elim entered.enters [
              | inl at_once ↦
                  stands.own some.0 some.1 alive place d w copy seat (inr (stays x.shelf.names d))
                  (subst (λ h. MayLeave h w) (at.held d there state_sector) (kept_from m at_once.1 traced_then told_named begun parts.0)) parts.1
              | inr gives ↦ own_since f.state (book x).state place w copy goes.service.after (own_ready gives.0 gives.1 parts.0) parts.1
            ]

        tabled : IsTabled f place (y.bay.sectors d) (i d)
        tabled =
            subst (IsTabled f place (y.bay.sectors d)) (was_other d other) (subst (λ n. IsTabled f place n (was d)) (sym sectors) (says.tables place d seat (inr (stays x.shelf.names d))))

        former : id_by z.table z.copied ≢ Some next
        former is =
            serial_fresh (book x).state (serial_after f.state (book x).state goes.service.after serials) fitting.distinct place
            (id_same f.state (book x).state goes.service.after.same place ∙ sym (says_own f place (y.bay.sectors d) (i d) z.copied tabled (λ copy here. (own copy here).drive)) ∙ is)

      -- whichever it is
      whichever : ((p : ℕ) → p ≢ place → f.seats p ≢ Some d) → id_by z.table z.copied ≢ Some next
      whichever apart = by (f.seats place) refl
        where
          no_drive : (f.seats place ≡ Some d → ⊥) → (p : ℕ) → f.seats p ≡ Some d → ⊥
          no_drive none p seat = elim (cases_eq p place) [ inl same ↦ none (ap f.seats (sym same) ∙ seat) | inr away ↦ apart p away seat ]

          by : (o : Option ℕ) → f.seats place ≡ o → id_by z.table z.copied ≢ Some next
          by None free = stranger (no_drive (λ seat. none-some d (sym free ∙ seat)))
          by (Some e) has = elim (cases_eq e d) [
            | inl same ↦ former (has ∙ ap Some same)
            | inr away ↦ stranger (no_drive (λ seat. away (some_same e d (sym has ∙ seat))))
          ]

    other_ids : HaveOtherIds (attached f (disks_of y.bay)) (book x).state place disk i
    other_ids d low other apart = whichever d low other apart

  pub others_replaced : HasOthers y.bay.stops f (moment_of x) (moment_of y) (replaced place name)
  others_replaced k i since until stopped =
      subst (λ d. HaveOtherIds (attached f (disks_of y.bay)) (book x).state place d i)
      (sym (new.disk_is x y place name text b unspent fit performs holds some f goes fitting serials bounds)) (other_ids k i since until stopped)

-- inside any line
pub others_performed :
    {L : Type 0} {bound : ℕ} (x y : View) (event : Event) (text : List ℕ) (b : FlatArray)
    → ((d s : ℕ) → y.bay.spent d s ≡ false) → (volume x).fit → LineContract x y event text → VolumeIs x b → IsServedBy x y event
    → (f : Found) → GoesBy L (Some (none_out bound)) f x → (takes_disk event ≡ true → AreSerial f.state) → IsFitFor f (moment_of x) event → (book y).state.serial ≤ bound → x.bay.traced
    → HasOthers y.bay.stops f (moment_of x) (moment_of y) event
others_performed x y (answered line) text b unspent fit performs holds served f goes serials fitting early traced = tt
others_performed x y (spent line sector) text b unspent fit performs holds served f goes serials fitting early traced = tt
others_performed x y (lost place) text b unspent fit performs holds served f goes serials fitting early traced = tt
others_performed x y (last place) text b unspent fit performs holds served f goes serials fitting early traced = tt
others_performed x y (replaced place name) text b unspent fit performs holds (inl none) f goes serials fitting early traced = absurd (both_ways true none refl)
others_performed x y (replaced place name) text b unspent fit performs holds (inr some) f goes serials fitting early traced =
    others_replaced x y place name text b unspent fit performs holds some f goes fitting (serials refl) early traced
others_performed x y (declined place name fault) text b unspent fit performs holds served f goes serials fitting early traced = tt
others_performed x y (stepped count left) text b unspent fit performs holds served f goes serials fitting early traced = tt
others_performed x y (stuck count array) text b unspent fit performs holds served f goes serials fitting early traced = tt
others_performed x y (shown text') text b unspent fit performs holds served f goes serials fitting early traced = tt

-- ---- in a row

has_kept : (old new : ℕ → Image → Type 0) (f : Found) (p q : Moment) (event : Event) → ((k : ℕ) (i : Image) → k ≤ q.clock → new k i → old k i)
    → HasOthers old f p q event → HasOthers new f p q event
has_kept old new f p q (answered line) past has = has
has_kept old new f p q (spent line sector) past has = has
has_kept old new f p q (lost place) past has = has
has_kept old new f p q (last place) past has = has
has_kept old new f p q (replaced place name) past has = λ k i since until stopped. has k i since until (past k i until stopped)
has_kept old new f p q (declined place name fault) past has = has
has_kept old new f p q (stepped count left) past has = has
has_kept old new f p q (stuck count array) past has = has
has_kept old new f p q (shown text) past has = has

-- later calls leave the past as it was
pub have_kept :
    (Traced : Type 0) (old new : ℕ → Image → Type 0) (limit : ℕ)
    → Traced
    → ((k : ℕ) (i : Image) → k ≤ limit → new k i → old k i)
    → (f : Found) (p : Moment) (a : FlatArray) (events : List Event) (q : Moment)
    → q.clock ≤ limit
    → (line : Timeline Traced old p a events q)
    → HaveOthers old f p events q (steps_of Traced old p a events q line)
    → HaveOthers new f p events q (steps_of Traced old p a events q line)
have_kept Traced old new limit traced past f p a [] q within line have = have
have_kept Traced old new limit traced past f p a (event ∷ events) q within line have =
    let rest = timeline_order Traced old line.0 (becomes a event) events q traced line.2 in (
      has_kept old new f p line.0 event (λ k i until. past k i (omega (arith, until, rest, within))) have.0,
      have_kept Traced old new limit traced past (pool_after f p line.0 event) line.0 (becomes a event) events q within line.2 have.1,
    )

-- one event more
pub have_more :
    (stops : ℕ → Image → Type 0) (f : Found) (p : Moment) (events : List Event) (mid : Moment) (event : Event) (q : Moment) (steps : Steps p events mid)
    → HaveOthers stops f p events mid steps → HasOthers stops (pool_by f p events mid steps) mid q event
    → HaveOthers stops f p (events ++ event ∷ []) q (steps_more p events mid event q steps)
have_more stops f p [] mid event q same have has = (subst (λ m. HasOthers stops f m q event) (sym same) has, tt)
have_more stops f p (first ∷ events) mid event q steps have has =
    (have.0, have_more stops (pool_after f p steps.0 first) steps.0 events mid event q steps.1 have.1 has)

-- A pool stands alone on its disks after a line that was declined, where it did so before and the disk that the line named is left out.
use Rattle.std.proofs.Common.{◌≡◌, ◌≢◌, ◌⊎◌, ℕ, ◌+◌, ◌<◌, ◌≤◌, unwrap_or, if◌then◌else◌, Bool, true, false, List, slice_get, Option, Some, None, Ok, refl, sym, ◌∙◌, ap, ap₂, subst, inl, inr, eq-eqb, arith}
use Rattle.std.proofs.lemmas.Bool.{both_ways, cases_Bool, cases_eq, cases_lt}
use Rattle.std.proofs.lemmas.Option.{none-some}
use Rattle.rack.specs.Seen.{Image}
use Rattle.rack.specs.Values.{Keeps, MayLeave}
use Rattle.slice_rack.specs.Changes.{Seats}
use Rattle.slice_rack.specs.Runs.{IsSliced}
use Rattle.slice_rack.specs.Slices.{Slices, first_of, place_of, seat_of, sectors_of}
use Rattle.slice_rack.specs.Sliced.{slices_of}
use Rattle.gpt_table.specs.Disk.{Contents}
use Rattle.flat_array.specs.Array.{FlatArray}
use Rattle.lvm_group.specs.Runs.{Linear, array_of}
use Rattle.pool_state.specs.declared.contents.Copied.{Copied}
use Rattle.pool_state.specs.declared.contents.State.{State}
use Rattle.pool_state.specs.Sector.{decoded}
use Rattle.array_image.specs.Places.{log_slice, state_sector}
use Rattle.array_image.specs.States.{is_current}
use Rattle.raid_laws.specs.Book.{OnlyMarksSince, after_same}
use Rattle.raid_laws.specs.Moves.{IsHeeded, IsSet}
use Rattle.raid_laws.specs.Raid.{IsTracked, Raid, is_failed}
use Rattle.raid_laws.specs.Since.{HoldsSince}
use Rattle.raid_laws.proofs.Since.{kept_since}
use Rattle.pool_image.specs.Disks.{disks_of, identities_of}
use Rattle.pool_image.specs.Drives.{Found}
use Rattle.pool_model.specs.Alone.{NoImpostor, IsStranger, IsTabled, SaysNoImpostor}
use Rattle.pool_model.specs.Left.{IsPickOutsideSlices}
use Rattle.pool_model.specs.Taken.{KeepsOutsideSlices, attached}
use Rattle.pool_model.proofs.Alone.{tabled_same}
use Rattle.pool_model.proofs.Before.{off_before, was as image_before, was_other as image_other}
use Rattle.pool_model.proofs.Declined.{truths_attached}
use Rattle.pool_model.proofs.InService.{one_seat}
use Rattle.pool_model.proofs.Vacant.{seat_other, vacant_free}
use Rattle.pool.specs.declared.replacing.GrowFault.{GrowFault}
use Rattle.pool.specs.Entering.{LeavesBy, LeavesReady, Vacates, meanwhile}
use Rattle.pool.specs.Moment.{IsNamed, moment_of}
use Rattle.pool.specs.Naming.{LeavesNamed}
use Rattle.pool.specs.Replaced.{ChangesDrive, IsDeclined}
use Rattle.pool.specs.View.{View, book, over, slices_shown, spent_by, volume}
use Rattle.pool.specs.Volume.{VolumeIs, is_spent, size_of}
use Rattle.shr_tool.specs.Events.{looks_at}
use Rattle.shr_tool.specs.Events.Event.{declined}
use Rattle.shr_tool.specs.Service.{GoesBy, IsFitDisk, IsOut, IsOwnCopy, Lone, StandsLone}
use Rattle.shr_tool.specs.Timeline.{LineContract}
use Rattle.shr_tool.proofs.Entered.{heeded_ready, set_ready, since_ready, told_attached, told_ready, told_vacated}
use Rattle.shr_tool.proofs.Former.{array_low, going_seat, held_log, lacks_bare, log_first, log_many, not_over, own_current, own_since, seat_listed, seat_or, small}
use Rattle.shr_tool.proofs.GivesWay.{after, left_copy, others_left}
use Rattle.shr_tool.proofs.LeavingOut.{lone_sector, out_later}
use Rattle.shr_tool.proofs.TakenIn.{disks_more, sectors_kept}
use Rattle.shr_tool.proofs.TurnedDown as old

-- ---- copies of states, over what is laid on a disk that isn't taken in

-- places that were current by a state have their own copies yet
module _ (c y : View) (place disk : ℕ) (leaves : LeavesBy c y place disk) (set : IsSet (book c) (slices_shown c)) (heeded : IsHeeded (book c)) (n : ℕ)
    (low : n < (book c).state.made) (told : IsTracked (book c) (slices_shown c) n) (lasts : is_failed (book y) n ≡ false) (base : State) (after : OnlyMarksSince base (book c).state)
    (holds : HoldsSince base (slices_shown c)) where
  -- the log slices that are left lie where they lay
  holds_vacated : (vacates : Vacates c place disk) → HoldsSince base (slices_of vacates.tables c.bay)
  holds_vacated vacates = elim vacates.seats [
    | inr kept ↦ subst (λ (u : Slices). HoldsSince base (slices_of u c.bay)) (sym kept.1) holds
    | inl gave ↦
        (λ p u few there may.
        let on_place : place_of (log_slice p) ≡ p = omega arith in
        elim (cases_eq p place) [
          | inl same ↦ absurd (let none = gave.1.cleared (log_slice p) (on_place ∙ same) in omega (arith, none, there))
          | inr other ↦
              (let away : place_of (log_slice p) ≢ place = λ is. other (sym on_place ∙ is) in
              let lies : (slices_of vacates.tables c.bay).held (log_slice p) 0 ≡ (slices_shown c).held (log_slice p) 0 =
              ap₂ (λ e s. c.bay.held e (s + 0)) (ap (λ k. unwrap_or k 0) (seat_other c.slices vacates.tables place gave.1 (place_of (log_slice p)) away))
              (gave.1.firsts (log_slice p) away) in
              holds p u few (subst (λ k. 0 < k) (gave.1.sectors (log_slice p) away) there) (subst (λ h. MayLeave h u) lies may))
        ])
  ]

  -- and by these the array is told
  told_then : (vacates : Vacates c place disk) → IsTracked (book c) (slices_of vacates.tables c.bay) n
  told_then vacates = told_vacated c place disk vacates set heeded n low told

  pub since_laid : HoldsSince base (slices_shown y)
  since_laid = elim leaves [
    | inl alone ↦
        (let vacates = alone.vacates in
        subst (λ (u : Slices). HoldsSince base (slices_of u y.bay)) (sym alone.slices)
        (alone.refused.moments.since n base (told_then vacates) (subst (λ (v : Raid). is_failed v n ≡ false) alone.same lasts) after (holds_vacated vacates)).holds)
    | inr out ↦
        (let vacates = out.vacates in
        subst (λ (u : Slices). HoldsSince base (slices_of u y.bay)) (sym out.slices)
        (out.not_whole.moments.since n base (told_then vacates) lasts after (holds_vacated vacates)).holds)
  ]

-- over the whole line
module _ (x y : View) (place : ℕ) (name : List ℕ) (named : LeavesNamed x y place name) (fit : (volume x).fit) {b : FlatArray} (holds : VolumeIs x b) (s : ℕ) (within : s < size_of x)
    (alive : is_spent x s ≡ false) (left : spent_by x.linear (book y) s ≡ false) where
  abbrev m : View
  m = over x named.bay

  abbrev n : ℕ
  n = array_of x.linear s

  low : n < x.linear.arrays
  low = array_low x s fit within

  told : IsTracked (book x) (slices_shown m) n
  told = told_attached x named.bay name named.disk named.attaches holds s within alive n low

  lasts : is_failed (book y) n ≡ false
  lasts = not_over x.linear (book y) s left

  made : n < (book x).state.made
  made = let inside = low in let arrays = fit.1.arrays in omega (arith, inside, arrays)

  since_first : HoldsSince (book x).state (slices_shown m)
  since_first = kept_since (book x).state (book x).number (slices_shown m) (told.stood (not_over x.linear (book x) s alive)).log

  since_ready_left : LeavesReady m y place named.disk → HoldsSince (book x).state (slices_shown y)
  since_ready_left ready =
      let c = meanwhile m ready.bay ready.arrays ready.refused in
      let set = set_ready m ready.bay ready.arrays ready.refused place named.disk ready.readies in
      let heeded = heeded_ready m ready.bay ready.arrays ready.refused place named.disk ready.readies in
      let marks = after x named.bay place name named.disk named.attaches ready.bay ready.arrays ready.refused ready.readies in
      let told_c = told_ready m ready.bay ready.arrays ready.refused place named.disk ready.readies n told in
      let low_c : n < (book c).state.made = (let inside = made in let same = marks.same.made in omega (arith, inside, same)) in
      let lasts_c : is_failed (book c) n ≡ false =
      elim ready.leaves [ inl alone ↦ subst (λ (v : Raid). is_failed v n ≡ false) alone.same lasts | inr out ↦ out.not_whole.moments.still n lasts ] in
      since_laid c y place named.disk ready.leaves set heeded n low_c told_c lasts (book x).state marks
      (since_ready m ready.bay ready.arrays ready.refused place named.disk ready.readies n told lasts_c since_first).holds

  pub since_left : HoldsSince (book x).state (slices_shown y)
  since_left = elim named.leaves [
    | inl at_once ↦
        (let fit_before = named.attaches.continues.proceeds.fit in
        since_laid m y place named.disk at_once.1 fit_before.0.running.set fit_before.0.heeded n made told lasts (book x).state (after_same (book x).state) since_first)
    | inr ready ↦ elim ready.1 [
      | inl cleaned ↦ (cleaned.ends.passes.moments.since n (book x).state told lasts (after_same (book x).state) since_first).holds
      | inr laid ↦ since_ready_left laid
    ]
  ]

-- ---- the whole line

module _ {L : Type 0} {o : Option Lone} (x y : View) (place : ℕ) (name : List ℕ) (fault : GrowFault) (text : List ℕ) (b : FlatArray) (looks : looks_at fault ≡ true)
    (unspent : (d s : ℕ) → y.bay.spent d s ≡ false) (fit : (volume x).fit)
    (performs : LineContract x y (declined place name fault) text) (holds : VolumeIs x b) (some : (s : ℕ) × (s < size_of x) × (spent_by x.linear (book y) s ≡ false))
    (f : Found) (goes : GoesBy L o f x) (fits : IsFitDisk f (moment_of x) name) (l : Lone) (so : o ≡ Some l) (out : (k : ℕ) × (slice_get l.out k ≡ Some name)) where
  abbrev changes : ChangesDrive x y place name
  changes = (performs.changes looks).0

  abbrev is : IsDeclined (moment_of x) (moment_of y) place fault
  is = performs.cause.1

  abbrev t : Slices
  t = goes.tables

  abbrev disk : ℕ
  disk = (old.one x y place name fault text b looks unspent fit performs holds some f goes fits).0

  abbrev one : old.IsOne x y place name fault text b looks unspent fit performs holds some f goes fits disk
  one = (old.one x y place name fault text b looks unspent fit performs holds some f goes fits).1

  stands : StandsLone l f t x
  stands = goes.alone l so

  -- the pool by which the run goes on, where nothing is said of what stands alone
  next : GoesBy L None (attached f (disks_of y.bay)) y
  next = old.goes_then x y place name fault text b looks unspent fit performs holds some f goes fits (λ k none. absurd (none-some k none))

  abbrev Out : ℕ → Type 0
  Out = IsOut l y.shelf.names

  -- a disk that isn't left out isn't the named one
  unnamed : (d : ℕ) → (Out d → ⊥) → IsNamed (moment_of y) name d → ⊥
  unnamed d stays named = stays (out.0, name, out.1, named)

  stays_first : (p d : ℕ) → (is_current (book y).state p ≡ true) ⊎ (Out d → ⊥) → (is_current (book x).state p ≡ true) ⊎ (IsOut l x.shelf.names d → ⊥)
  stays_first p d why = elim why [
    | inl now ↦ inl (is.marks.current p now)
    | inr stays ↦ inr (λ was. stays (out_later l x.shelf.names y.shelf.names performs.continues.proceeds.disks.names d was))
  ]

  there : (p d : ℕ) → f.seats p ≡ Some d → d < x.bay.disks
  there p d seat = old.seat_disk x y place name fault text b looks unspent fit performs holds some f goes fits p d seat

  -- ---- that it stands alone

  other_disk : (d : ℕ) → (Out d → ⊥) → d < y.bay.disks → d ≢ disk
  other_disk d stays low same = elim one.or [
    | inl named ↦ unnamed d stays (subst (IsNamed (moment_of y) name) (sym same) named.0)
    | inr past ↦ omega (arith, past, low, same)
  ]

  -- a drive of which something is said isn't the one that may have been written
  other_drive : (p d : ℕ) → f.seats p ≡ Some d → (is_current (book y).state p ≡ true) ⊎ (Out d → ⊥) → d ≢ disk
  other_drive p d seat why same = elim why [
    | inl now ↦
        old.not_current x y place name fault text b looks unspent fit performs holds some f goes fits p (is.marks.current p now) (subst (λ e. f.seats p ≡ Some e) same seat)
    | inr stays ↦
        other_disk d stays (let low = there p d seat in let more = performs.continues.proceeds.disks.disks in omega (arith, low, more)) same
  ]

  module _ (i : Image) (off : IsPickOutsideSlices t y.bay i) where
    off_disk : KeepsOutsideSlices t disk x.bay y.bay
    off_disk = one.off t (old.old_slices x y place name fault text b looks unspent fit performs holds some f goes fits)

    abbrev was : Image
    was = image_before t t disk x.bay y.bay off_disk (λ d s w other at. at) i off

    was_other : (d : ℕ) → d ≢ disk → was d ≡ i d
    was_other d other = image_other t t disk x.bay y.bay off_disk (λ d s w other at. at) i off d other

    says : SaysNoImpostor f l.bound (IsOut l x.shelf.names) (book x).state was
    says = stands.alone was (off_before t t disk x.bay y.bay off_disk (λ d s w other at. at) i off)

    more : f.disks.count ≤ y.bay.disks
    more = disks_more x y place name unspent performs.continues (performs.outside looks) changes (performs.holds b holds).disks f goes

    sectors : (d : ℕ) → d < f.disks.count → y.bay.sectors d ≡ f.disks.sectors d
    sectors = sectors_kept x y place name unspent performs.continues (performs.outside looks) changes (performs.holds b holds).disks f goes

    table : (p d : ℕ) → f.seats p ≡ Some d → (is_current (book y).state p ≡ true) ⊎ (Out d → ⊥) → IsTabled (attached f (disks_of y.bay)) p (y.bay.sectors d) (i d)
    table p d seat why =
        tabled_same f (attached f (disks_of y.bay)) goes.service.arranged.made.1 goes.service.arranged.truths
        (truths_attached f (disks_of y.bay) goes.service.arranged more sectors) refl p refl (y.bay.sectors d) (i d)
        (subst (IsTabled f p (y.bay.sectors d)) (was_other d (other_drive p d seat why))
        (subst (λ k. IsTabled f p k (was d)) (sym (sectors d (goes.service.arranged.seated p d seat).1)) (says.tables p d seat (stays_first p d why))))

    -- no disk came but the named one
    old_disk : (d : ℕ) → (Out d → ⊥) → d < y.bay.disks → d < f.disks.count
    old_disk d stays low = elim (cases_lt d f.disks.count) [
      | inl old ↦ old
      | inr past ↦
          (let same = old.count x y place name fault text b looks unspent fit performs holds some f goes fits in
          absurd (unnamed d stays (changes.names.came d (omega (arith, past, same)) low)))
    ]

    -- what another disk says it said before
    said : (d : ℕ) → d ≢ disk → d < f.disks.count → identities_of f.disks was d ≡ identities_of (disks_of y.bay) i d
    said d other low =
        ap (λ (c : Contents). identities_of f.disks (λ k. c) d) (was_other d other)
        ∙ ap (λ k. identities_of (record { count = f.disks.count; sectors = λ e. k }) i d) (sym (sectors d low))

    stranger : (d : ℕ) → ((p : ℕ) → f.seats p ≡ Some d → ⊥) → (Out d → ⊥) → d < y.bay.disks
        → IsStranger (attached f (disks_of y.bay)) l.bound (identities_of (disks_of y.bay) i d)
    stranger d never stays low =
        let counted = old_disk d stays low in
        let before : IsStranger f l.bound (identities_of (disks_of y.bay) i d) =
        subst (IsStranger f l.bound) (said d (other_disk d stays low) counted)
        (says.others d never (λ was. stays (out_later l x.shelf.names y.shelf.names performs.continues.proceeds.disks.names d was)) counted) in
        record { apart = record { stands = before.apart.stands; pool = before.apart.pool }; ungiven = before.ungiven }

  alone_then : NoImpostor (attached f (disks_of y.bay)) l.bound Out (book y).state t y.bay
  alone_then i off = record { tables = table i off; others = stranger i off }

  -- ---- copies

  module _ (s : ℕ) (within : s < size_of y) (alive : is_spent y s ≡ false) (p d : ℕ) (u : List ℕ) (copy : Copied) (seat : f.seats p ≡ Some d) (may : MayLeave (y.bay.held d state_sector) u)
      (says : decoded u ≡ Ok copy) where
    within_first : s < size_of x
    within_first = subst (λ n. s < n) performs.continues.size within

    alive_first : is_spent x s ≡ false
    alive_first = changes.spent s alive

    own_before : (is_current (book x).state p ≡ true) ⊎ (IsOut l x.shelf.names d → ⊥) → Keeps (x.bay.held d state_sector) (y.bay.held d state_sector) → IsOwnCopy f.state p copy
    own_before why kept = stands.own s within_first alive_first p d u copy seat why (kept.within u may) says

    -- a drive that was missing isn't written
    kept_missing : (IsNamed (moment_of y) name d → ⊥) → is_current (book x).state p ≡ false → state_sector < x.bay.sectors d
        → Keeps (x.bay.held d state_sector) (y.bay.held d state_sector)
    kept_missing never missing inside =
        let low = there p d seat in
        elim (seat_or x f goes p d seat) [
          | inl on ↦
              (changes.retired p d (seat_listed f t (book x) x.bay goes.service p d seat) missing on never).held state_sector inside (holds.disks d low)
          | inr lacks ↦
              (performs.outside looks).held d state_sector
              (record { disk = low; sector = inside; is_told = holds.disks d low; unnamed = never; unsliced = lacks_bare x f goes p d seat lacks.vacated state_sector })
        ]

    -- one that was found gone has its own copy, by the slices that are left or as it was
    module _ (current : is_current (book x).state p ≡ true) (gone : is_current (book y).state p ≡ false) (never : IsNamed (moment_of y) name d → ⊥) (named : LeavesNamed x y place name) where
      on : seat_of x.slices p ≡ Some d
      on = going_seat x f goes p d seat current

      few : p < 16
      few = small x p fit f goes d seat on

      left : spent_by x.linear (book y) s ≡ false
      left = subst (λ (k : Linear). spent_by k (book y) s ≡ false) performs.continues.linear alive

      own_left : seat_of y.slices p ≡ Some d → (first_of y.slices (log_slice p) ≡ first_of x.slices (log_slice p)) × (sectors_of y.slices (log_slice p) ≡ sectors_of x.slices (log_slice p))
          → IsOwnCopy f.state p copy
      own_left on_then lies =
          let many = log_many x p fit f goes d seat on in
          let many_then = lies.1 in
          let first = log_first x p fit f goes d seat on in
          let first_then = lies.0 in
          own_since f.state (book x).state p u copy goes.service.after
          ((since_left x y place name named fit holds s within_first alive_first left p u few (omega (arith, many, many_then))
          (subst (λ h. MayLeave h u) (sym (held_log y.slices y.bay p d on_then (omega (arith, first, first_then)))) may)).own current)
          says

      -- its place gave it up
      own_given : p ≡ place → Seats x.slices y.slices place None → IsOwnCopy f.state p copy
      own_given same gave = elim named.leaves [
        | inl at_once ↦ absurd (both_ways (is_current (book x).state place) at_once.0 (subst (λ k. is_current (book x).state k ≡ true) same current))
        | inr ready ↦ elim ready.1 [
          | inl cleaned ↦ absurd (none-some d (sym (given cleaned.ends.passes.slices) ∙ on))
          | inr laid ↦
              own_before (inl current)
              (left_copy x y place name named laid unspent fit f goes d (subst (λ k. f.seats k ≡ Some d) same seat) (subst (λ k. seat_of x.slices k ≡ Some d) same on) holds
              (λ is. never (subst (IsNamed (moment_of y) name) (sym is) named.named)) (bare laid))
        ]
      ]
        where
          seat_then : seat_of y.slices p ≡ None
          seat_then = gave.seats p ∙ ap (λ (c : Bool). if c then None else seat_of x.slices p) (eq-eqb p place same)

          given : y.slices ≡ x.slices → seat_of x.slices p ≡ None
          given still = ap (λ (k : Slices). seat_of k p) (sym still) ∙ seat_then

          -- all other places were current
          same_tables : LeavesReady (over x named.bay) y place named.disk → x.slices ≡ t
          same_tables laid = elim goes.vacant [
            | inl whole ↦ whole
            | inr one ↦
                (let other : one.0 ≢ place =
                λ is. both_ways (is_current (book x).state one.0) one.2.missing (subst (λ k. is_current (book x).state k ≡ true) (same ∙ sym is) current) in
                absurd (both_ways (is_current (book x).state one.0) one.2.missing (others_left x y place name named laid one.0 one.1 other)))
          ]

          bare : LeavesReady (over x named.bay) y place named.disk → (w : List ℕ) → IsSliced y.slices d state_sector w → ⊥
          bare laid w at =
              vacant_free t y.slices place (subst (λ (k : Slices). Seats k y.slices place None) (same_tables laid) gave) f goes.service.slices d state_sector w
              (λ q other. one_seat f t (book x) x.bay goes.service q place d other (subst (λ k. f.seats k ≡ Some d) same seat)) at

      own_gone : IsOwnCopy f.state p copy
      own_gone = elim is.slices [
        | inl same ↦
            own_left (ap (λ (k : Slices). seat_of k p) same ∙ on)
            (ap (λ (k : Slices). first_of k (log_slice p)) same, ap (λ (k : Slices). sectors_of k (log_slice p)) same)
        | inr gave ↦ elim (cases_eq p place) [
          | inl same ↦ own_given same gave.2
          | inr other ↦
              (let on_place : place_of (log_slice p) ≡ p = omega arith in
              let away : place_of (log_slice p) ≢ place = λ at. other (sym on_place ∙ at) in
              own_left (seat_other x.slices y.slices place gave.2 p other ∙ on) (gave.2.firsts (log_slice p) away, gave.2.sectors (log_slice p) away))
        ]
      ]

    own_copy : (is_current (book y).state p ≡ true) ⊎ (Out d → ⊥) → IsOwnCopy f.state p copy
    own_copy why = elim (cases_Bool (is_current (book y).state p)) [
      | inl now ↦
          own_current y p performs.continues.proceeds.fit (attached f (disks_of y.bay)) next d seat (going_seat y (attached f (disks_of y.bay)) next p d seat now) (performs.holds b holds) s within
          alive now u copy may says
      | inr gone ↦ elim why [
        | inl now ↦ absurd (both_ways (is_current (book y).state p) gone now)
        | inr stays ↦ elim (cases_Bool (is_current (book x).state p)) [
          | inr missing ↦
              own_before (stays_first p d (inr stays)) (kept_missing (unnamed d stays) missing (lone_sector x f goes l so p d seat (stays_first p d (inr stays))))
          | inl current ↦ elim (performs.changes looks).1 [
            | inl still ↦
                absurd (both_ways (is_current (book x).state p) (subst (λ (v : Raid). is_current v.state p ≡ false) still.2 gone) current)
            | inr named ↦ own_gone current gone (unnamed d stays) named
          ]
        ]
      ]
    ]

  pub stands_out : StandsLone l (attached f (disks_of y.bay)) t y
  stands_out = record {
    alone = alone_then;
    distinct = stands.distinct;
    own = λ s within alive p d u copy seat why may says. own_copy s within alive p d u copy seat may says why;
  }

-- A disk that is taken in.
use Rattle.std.specs.Prelude.{Ok, Err, Result}
use Rattle.std.proofs.Common.{◌≡◌, ◌≢◌, ◌⊎◌, ℕ, ◌+◌, ◌<◌, ◌≤◌, ◌||◌, Bool, true, false, List, Option, Some, if◌then◌else◌, length, slice_get, option_map, refl, sym, ap, subst, ◌∙◌, inl, inr, arith, lt-ltb, eq-eqb, unwrap_or}
use Rattle.std.proofs.lemmas.Bool.{both_ways, cases_Bool, cases_eq, cases_lt, ne_eqb}
use Rattle.rack.specs.Values.{Keeps, MayLeave}
use Rattle.rack.specs.Seen.{Image, IsLive, Rose, RackView}
use Rattle.rack.specs.Shelf.{KeepsShelf, Shelf}
use Rattle.flat_array.specs.Array.{FlatArray}
use Rattle.slice_rack.specs.Runs.{IsSliced}
use Rattle.slice_rack.specs.Slices.{IsOrderly, Slices, disk_of, place_of, seat_of, sectors_of}
use Rattle.slice_rack.specs.Sliced.{sliced, slices_of}
use Rattle.array_image.specs.Arrays.{Shape, arrays_in as arrays_held, replayed}
use Rattle.array_image.specs.Places.{log_slice}
use Rattle.array_image.specs.States.{is_current, state_in}
use Rattle.array_model.specs.Says.{ImageShowsArray}
use Rattle.gpt_table.specs.declared.Table.{Table}
use Rattle.gpt_table.specs.Disk.{HoldsCopy, now_on}
use Rattle.gpt_table.specs.Plans.{IsOfTable}
use Rattle.array_model.specs.View.{place_at, spent_in}
use Rattle.log_laws.proofs.Kept.{place_of_log}
use Rattle.lvm_group.specs.Laws.{array_below, shows}
use Rattle.lvm_group.specs.Runs.{IsOrderly as IsOrderlyVolume, array_of, sector_of}
use Rattle.pool_state.specs.declared.contents.Plan.TheVariants.{Replace}
use Rattle.pool_state.specs.declared.contents.State.{State}
use Rattle.raid_rack.specs.declared.arrays.Arrays.{Arrays}
use Rattle.raid_laws.specs.Enlisting.{Enlists, HoldsTable, IsWrittenBy, KeepsTold, SaysReplacing, enlisted, new_table, next_drive, with_drive}
use Rattle.raid_laws.specs.Marking.{SaysBetween}
use Rattle.raid_laws.proofs.Apart.{seat_is}
use Rattle.pool.proofs.Readying.{member_joins}
use Rattle.raid_laws.specs.Moves.{KeepsArrays}
use Rattle.raid_laws.specs.Laws.{live_parts, says_value}
use Rattle.raid_laws.specs.Losses.{has_other}
use Rattle.raid_laws.specs.NewDrive.{SeatsDrive, drive_table, joins}
use Rattle.raid_laws.specs.Raid.{held_in, is_left, is_failed, live_of, raid_of, spent_of}
use Rattle.raid_rack.specs.RaidRack.{IsFit, raid_by}
use Rattle.raid_rack.proofs.Ended.{none_past}
use Rattle.raid_laws.proofs.Committed.{raised_more, raised_range}
use Rattle.raid_laws.proofs.Over.{number_room, or_from}
use Rattle.raid_laws.specs.Missing.{raised}
use Rattle.std.specs.Option.{option_map_or}
use Rattle.raid_rack.proofs.Enlisted.{current_enlisted}
use Rattle.raid_rack.proofs.LayingDrive.{in_disk}
use Rattle.raid_rack.proofs.Renewed.{renewed_went}
use Rattle.raid_laws.proofs.Whole.{heeded_left}
use Rattle.shr_base.specs.Units.{units_of}
use Rattle.pool.specs.declared.replacing.GrowFault.{GrowFault}
use Rattle.pool.specs.declared.replacing.GrowFault.TheVariants.{Gone, NotWhole}
use Rattle.rack.specs.Untouched.{KeepsDisk}
use Rattle.pool.specs.Entering.{IsVacating}
use Rattle.pool.specs.Moment.{moment_of, views_of}
use Rattle.pool.specs.Replaced.{MeansBy, MeansFormer, MeansWith, table_for}
use Rattle.pool.specs.Replacing.{IsAdmitted}
use Rattle.pool.specs.Taking.{AreTold, Carries, TakesBy}
use Rattle.pool.specs.View.{View, book, contents_in, volume}
use Rattle.pool.specs.Volume.{VolumeIs, is_spent, size_of}
use Rattle.pool.proofs.Admitted.{reaches_each, same_units}
use Rattle.pool.proofs.Attaching.{IsBay}
use Rattle.pool.proofs.Carrying.{carries_then, holds_of}
use Rattle.pool.proofs.Enlisted.{all_spent, book_enlisted}
use Rattle.pool.proofs.Keeping.{not_left, went}
use Rattle.pool.proofs.Later.{inside_later, later}
use Rattle.pool.proofs.Shown.{views_are}
use Rattle.pool.proofs.Taken.{goes_on, laid_by, low_disk, mid_carries, mid_fit, mid_goes, outside_of_it, retired_by, vacates}
use Rattle.pool.proofs.Vacating.{seats_from}

module _ (x : View) (b : RackView) (s : Shelf) (place disk units : ℕ) (t u : Slices) (z : Arrays) (linear : IsOrderlyVolume x.linear) (fit : (volume x).fit)
    (kind : IsVacating x place t) (empty : IsFit x.arrays (slices_of t x.bay))
    (was : IsBay x.bay x.shelf) (now : IsBay b s) (names : KeepsShelf x.shelf s) (ordered : IsOrderly x.slices) (orderly : IsOrderly t) (orderly_now : IsOrderly u)
    (admits : IsAdmitted (book x) place (x.bay.sectors disk)) (low : disk < x.bay.disks) (listed : place < length x.arrays.state.drives.items)
    (seats : SeatsDrive x.arrays.all.items place disk (x.bay.sectors disk) t u)
    (enlists : Enlists t u x.arrays.all.items place disk units (Replace place) (book x) (raid_by z) x.bay b) (after : IsFit z (slices_of u b)) where
  abbrev mid : View
  mid = later x x.bay x.shelf t x.arrays

  abbrev y : View
  y = later x b s u z

  made : z.state.made ≡ x.arrays.state.made
  made = enlists.is.book.same.made

  fit_now : (volume y).fit
  fit_now = (after, inside_later x b s u z fit made enlists.is.sectors)

  low_mid : (volume mid).fit
  low_mid = mid_fit x b s place disk t linear fit kind empty now names ordered orderly

  opened : AreTold x → (k : ℕ) → k < x.bay.sectors disk → IsLive x.bay x.bay disk k
  opened all k within = record { disk = low; sector = within; is_told = all disk low; unspent = was.unspent disk k }

  list_is : views_of (book x) ≡ x.arrays.all.items
  list_is = views_are x.arrays fit.0.running.count

  -- the disk reaches each array that the place is a member of
  joined : (n k : ℕ) → n < x.arrays.state.made → k < ((book x).arrays n).truth.raid_disks → place_at ((book x).arrays n) k ≡ place → joins x.arrays.all.items place (x.bay.sectors disk) n ≡ true
  joined n k below inside is =
      subst (λ vs. joins vs place (x.bay.sectors disk) n ≡ true) list_is
      (member_joins (book x) place (x.bay.sectors disk) admits (λ m low. (fit.0.running.set.arrays m low).is_array) n k below inside is)

  -- a sector that isn't spent is of an array of the pool, which has another drive left
  alive_array : (k : ℕ) → is_spent y k ≡ false → array_of x.linear k < x.arrays.state.made
  alive_array k alive =
      elim (cases_lt (array_of x.linear k) x.arrays.state.made) [
        | inl below ↦ below
        | inr past ↦
            absurd
            (both_ways (is_failed (raid_by z) (array_of x.linear k)) (live_parts (raid_by z) (array_of x.linear k) (sector_of x.linear k) alive).0
            (none_past z (array_of x.linear k) after.running.count (omega (arith, past, made))))
      ]

  alive_other : (k : ℕ) → is_spent y k ≡ false → has_other z.state place ≡ true
  alive_other k alive =
      elim (cases_Bool (has_other z.state place)) [
        | inl other ↦ other
        | inr alone ↦
            absurd
            (both_ways (spent_in ((raid_by z).arrays (array_of x.linear k)) (sector_of x.linear k))
            (live_parts (raid_by z) (array_of x.linear k) (sector_of x.linear k) alive).1
            (all_spent place units (Replace place) (joins x.arrays.all.items place (x.bay.sectors disk)) (book x) (raid_by z) (slices_of t x.bay) (slices_of u b) empty.running.set
            after.running.set after.heeded made enlists.is.arrays joined alone (array_of x.linear k) (alive_array k alive) (sector_of x.linear k)))
      ]

  live_other : (n k : ℕ) → n < x.arrays.state.made → live_of (raid_by z) n k → has_other z.state place ≡ true
  live_other n k low alive =
      elim (cases_Bool (has_other z.state place)) [
        | inl other ↦ other
        | inr alone ↦
            absurd
            (both_ways (spent_in ((raid_by z).arrays n) k) (live_parts (raid_by z) n k alive).1
            (all_spent place units (Replace place) (joins x.arrays.all.items place (x.bay.sectors disk)) (book x) (raid_by z) (slices_of t x.bay) (slices_of u b) empty.running.set
            after.running.set after.heeded made enlists.is.arrays joined alone n low k))
      ]

  tells : AreTold x → (k : ℕ) → is_spent y k ≡ false → (n : ℕ) → n < x.arrays.state.made → (volume mid).told 0 → n < x.linear.arrays
      → KeepsTold t u place disk units (Replace place) (new_table x.arrays.state x.arrays.all.items place (x.bay.sectors disk)) (book x) (raid_by z) x.bay b enlists.mid n
  tells all k alive n below told inside = enlists.told n below (told n inside) (opened all) (alive_other k alive)

  array_inside : (k : ℕ) → k < size_of x → array_of x.linear k < x.linear.arrays
  array_inside k inside = array_below x.linear (raid_of (IsFit x.arrays (slices_of x.slices x.bay)) x.refused (book x) (slices_of x.slices x.bay)) k linear fit.1 inside

  low_array : (n : ℕ) → n < x.linear.arrays → n < x.arrays.state.made
  low_array n inside = let arrays = fit.1.arrays in omega (arith, inside, arrays)

  new_carries : Carries mid y
  new_carries = record {
    spent = λ k alive.
        let n = array_of x.linear k in
        let parts = live_parts (raid_by z) n (sector_of x.linear k) alive in
        let below = alive_array k alive in
        or_from (is_failed (book x) n) (spent_in ((book x).arrays n) (sector_of x.linear k)) (enlists.is.still n below (alive_other k alive) parts.0)
        (enlists.is.spent n (sector_of x.linear k) below parts.1);
    told = λ names all k inside alive told n below. (tells all k alive n (low_array n below) told below).told;
    keeps = λ names all k inside alive told.
        let n = array_of x.linear k in
        let below = array_inside k inside in
        (tells all k alive n (low_array n below) told below).keeps (sector_of x.linear k) alive;
    made = made;
    truths = λ names all. enlists.truths (opened all);
    held = λ names all. record {
      sectors = enlists.is.sectors;
      live = λ n k low alive.
          let parts = live_parts (raid_by z) n k alive in
          or_from (is_failed (book x) n) (spent_in ((book x).arrays n) k) (enlists.is.still n low (live_other n k low alive) parts.0) (enlists.is.spent n k low parts.1);
      told = λ n k low alive told. (enlists.told n low told (opened all) (live_other n k low alive)).told;
      keeps = λ n k low within alive told. (enlists.told n low told (opened all) (live_other n k low alive)).keeps k alive;
    };
  }

  -- ---- its table

  size : b.sectors disk ≡ x.bay.sectors disk
  size = enlists.only.stays.sectors disk

  table_is : table_for x y place disk ≡ new_table x.arrays.state x.arrays.all.items place (x.bay.sectors disk)
  table_is =
      ap (λ n. drive_table (next_drive x.arrays.state).0 (views_of (book x)) place n x.arrays.state.made) size
      ∙ ap (λ vs. drive_table (next_drive x.arrays.state).0 vs place (x.bay.sectors disk) x.arrays.state.made) list_is
      ∙ ap (λ m. drive_table (next_drive x.arrays.state).0 x.arrays.all.items place (x.bay.sectors disk) m) (sym fit.0.running.count)

  -- ---- what stops leave

  -- contents that say an array give a value of a sector of the volume
  given : (r : Slices) (i : Image) (a : FlatArray) (k : ℕ) → k < size_of x → Keeps (a.values k) ((volume mid).held 0 k)
      → (st : State) → (shape : Shape) → state_in (replayed (sectors_of r) (sliced r i)) ≡ Some st
      → ImageShowsArray st (array_of x.linear k) shape (held_in (book x) (slices_of t x.bay) (array_of x.linear k)) (spent_of (raid_by z) (array_of x.linear k)) (replayed (sectors_of r) (sliced r i))
      → is_spent y k ≡ false → MayLeave (a.values k) (contents_in r x.linear i k)
  given r i a k inside keeps st shape state says alive =
      let n = array_of x.linear k in
      let q = sector_of x.linear k in
      let c = replayed (sectors_of r) (sliced r i) in
      keeps.within (contents_in r x.linear i k)
      (subst (MayLeave (held_in (book x) (slices_of t x.bay) n q)) (sym (shows x.linear (arrays_held c) 0 k inside))
      (says_value st n shape (held_in (book x) (slices_of t x.bay) n) (spent_of (raid_by z) n) c q state says alive))

  -- a state that contents of the slices after say, once replayed, by its epoch
  abbrev epoch_in : Image → ℕ
  epoch_in i = option_map_or (λ (q : State). q.epoch) (state_in (replayed (sectors_of u) (sliced u i))) 0

  epoch_of : (i : Image) (q : State) → state_in (replayed (sectors_of u) (sliced u i)) ≡ Some q → epoch_in i ≡ q.epoch
  epoch_of i q is = ap (λ o. option_map_or (λ (r : State). r.epoch) o 0) is

  -- one that has the new drive is later
  epoch_up : (n : ℕ) → is_failed (raid_by z) n ≡ false → (book x).state.epoch < raised (book x).state.epoch
  epoch_up n goes =
      let room = (number_room (raid_by z) n goes).1 in
      let up = enlists.is.book.epoch in
      let less = (raised_range (book x).state.epoch).0 in
      raised_more (book x).state.epoch (omega (arith, room, up, less))

  module _ (traced : x.bay.traced) (a : FlatArray) (holds : VolumeIs mid a) (k : ℕ) (i : Image) (since : x.bay.clock < k) (until : k ≤ b.clock) (stopped : b.stops k i) where
    inside_of : (q : ℕ) → q < a.size → q < size_of x
    inside_of q inside = subst (λ n. q < n) holds.size inside

    kept_of : (q : ℕ) → q < a.size → is_spent y q ≡ false → Keeps (a.values q) ((volume mid).held 0 q)
    kept_of q inside alive = holds.values q inside (new_carries.spent q alive)

    told_of : (q : ℕ) → q < a.size → is_spent y q ≡ false
        → KeepsTold t u place disk units (Replace place) (new_table x.arrays.state x.arrays.all.items place (x.bay.sectors disk)) (book x) (raid_by z) x.bay b enlists.mid (array_of x.linear q)
    told_of q inside alive =
        let below = array_inside q (inside_of q inside) in
        tells holds.disks q alive (array_of x.linear q) (low_array (array_of x.linear q) below) (holds.told q inside (new_carries.spent q alive)) below

    over_of : (q : ℕ) → is_spent y q ≡ false → is_failed (raid_by z) (array_of x.linear q) ≡ false
    over_of q alive = (live_parts (raid_by z) (array_of x.linear q) (sector_of x.linear q) alive).0

    table_now : HoldsTable disk (new_table x.arrays.state x.arrays.all.items place (x.bay.sectors disk)) i → HoldsTable disk (table_for x y place disk) i
    table_now held = subst (λ (e : Table). HoldsTable disk e i) (sym table_is) held

    -- before the slices of the disk were added
    laying : k ≤ enlists.mid → MeansBy t (moment_of y) a i
    laying early q inside alive =
        let says = ((told_of q inside alive).before traced (over_of q alive) k i since early stopped).says in
        given t i a q (inside_of q inside) (kept_of q inside alive) (book x).state says.shape says.is_state says.says alive

    -- and after that, where the place's drive was missing
    joining_now : is_current (book x).state place ≡ false → enlists.mid < k → MeansWith x y place disk a i
    joining_now missing late = (
      λ q inside alive.
          elim ((told_of q inside alive).after missing traced (over_of q alive) k i late until stopped).says [
            | inl old ↦ given u i a q (inside_of q inside) (kept_of q inside alive) (book x).state old.shape old.is_state old.says alive
            | inr new ↦ given u i a q (inside_of q inside) (kept_of q inside alive) new.state new.shape new.is_state new.says alive
          ],
      λ q inside alive. table_now ((told_of q inside alive).after missing traced (over_of q alive) k i late until stopped).holds,
    )

    -- or wasn't: by the slices before, or by those after, as the state tells that these say
    replacing_now : is_current (book x).state place ≡ true → enlists.mid < k → MeansBy t (moment_of y) a i ⊎ MeansWith x y place disk a i
    replacing_now was late =
        elim (cases_eq (epoch_in i) (book x).state.epoch) [
          | inl same ↦
              inl
              (λ q inside alive.
              elim (at q inside alive).says [
                | inl former ↦
                    given t i a q (inside_of q inside) (kept_of q inside alive) (book x).state former.0.says.shape former.0.says.is_state former.0.says.says alive
                | inr latter ↦ absurd (let up = newer q alive latter.0.says in omega (arith, same, up))
              ])
          | inr other ↦
              inr (
                λ q inside alive.
                    elim (at q inside alive).says [
                      | inl former ↦ absurd (other (epoch_of i (book x).state former.2))
                      | inr latter ↦
                          given u i a q (inside_of q inside) (kept_of q inside alive) latter.0.says.state latter.0.says.shape latter.0.says.is_state latter.0.says.says alive
                    ],
                λ q inside alive. table_now (at q inside alive).holds,
              )
        ]
      where
        at : (q : ℕ) → q < a.size → is_spent y q ≡ false
            → SaysReplacing t u place disk (new_table x.arrays.state x.arrays.all.items place (x.bay.sectors disk)) (enlisted place units (Replace place) (book x).state) (book x) (raid_by z) x.bay
            (array_of x.linear q) (held_in (book x) (slices_of t x.bay) (array_of x.linear q)) i
        at q inside alive = (told_of q inside alive).replacing was traced (over_of q alive) k i late until stopped

        newer : (q : ℕ) → is_spent y q ≡ false
            → SaysBetween (enlisted place units (Replace place) (book x).state) z.state (array_of x.linear q) (held_in (book x) (slices_of t x.bay) (array_of x.linear q))
            (spent_of (raid_by z) (array_of x.linear q)) (replayed (sectors_of u) (sliced u i))
            → (book x).state.epoch < epoch_in i
        newer q alive says =
            let is = epoch_of i says.state says.is_state in
            let up = says.later.epoch in
            let more = epoch_up (array_of x.linear q) (over_of q alive) in
            omega (arith, is, up, more)

    new_leaves : MeansFormer (moment_of x) (moment_of y) place a i ⊎ MeansWith x y place disk a i
    new_leaves =
        elim (cases_lt enlists.mid k) [
          | inr early ↦ inl (former (laying early))
          | inl late ↦ elim kind [
            | inl gave ↦ inr (joining_now gave.0 late)
            | inr stays ↦ elim (replacing_now stays.0 late) [ inl before ↦ inl (former before) | inr after ↦ inr after ]
          ]
        ]
      where
        former : MeansBy t (moment_of y) a i → MeansFormer (moment_of x) (moment_of y) place a i
        former means = elim kind [
          | inl gave ↦ inr (inl gave.0, (t, gave.1, means))
          | inr stays ↦ inl (stays.0, subst (λ r. MeansBy r (moment_of y) a i) stays.1 means)
        ]

  -- ---- the slices

  -- a slice of the place is on its disk, and each other one is as it was
  new_sliced : (d k : ℕ) (a : List ℕ) → IsSliced u d k a → IsSliced t d k a ⊎ (d ≡ disk)
  new_sliced d k a is =
      elim (cases_eq (place_of is.slice) place) [
        | inl same ↦
            inr
            (is.disk_is
            ∙ ap (λ (o : Option ℕ). unwrap_or o 0)
            (seats.seats (place_of is.slice) ∙ ap (λ (c : Bool). if c then Some disk else seat_of t (place_of is.slice)) (eq-eqb (place_of is.slice) place same)))
        | inr other ↦
            inl
            (record {
              slice = is.slice;
              at = is.at;
              within = subst (λ n. is.at < n) (seats.others is.slice other) is.within;
              disk_is =
                  is.disk_is
                  ∙ ap (λ (o : Option ℕ). unwrap_or o 0)
                  (seats.seats (place_of is.slice) ∙ ap (λ (c : Bool). if c then Some disk else seat_of t (place_of is.slice)) (ne_eqb (place_of is.slice) place other));
              sector_is = is.sector_is ∙ ap (λ n. n + is.at) (seats.firsts is.slice other);
            })
      ]

  -- from the tables before the place gave its disk up
  all_seats : SeatsDrive x.arrays.all.items place disk (x.bay.sectors disk) x.slices u
  all_seats = seats_from x place disk t u x.arrays.all.items (x.bay.sectors disk) kind seats

  -- the disk that the place had has no slice
  bare_now : (d : ℕ) → seat_of x.slices place ≡ Some d → d ≢ disk → (k : ℕ) (v : List ℕ) → IsSliced u d k v → ⊥
  bare_now d seat other k v is =
      let on : seat_of u (place_of is.slice) ≡ Some d = seat_is u is.slice is.at orderly_now is.within ∙ ap Some (sym is.disk_is) in
      elim (cases_eq (place_of is.slice) place) [
        | inl same ↦
            let new : Some disk ≡ Some d =
            sym (ap (λ (c : Bool). if c then Some disk else seat_of x.slices (place_of is.slice)) (eq-eqb (place_of is.slice) place same)) ∙ sym (all_seats.seats (place_of is.slice)) ∙ on in
            other (let e : disk ≡ d = cc new in sym e)
        | inr away ↦
            let was : seat_of x.slices (place_of is.slice) ≡ Some d =
            sym (ap (λ (c : Bool). if c then Some disk else seat_of x.slices (place_of is.slice)) (ne_eqb (place_of is.slice) place away)) ∙ sym (all_seats.seats (place_of is.slice)) ∙ on in
            away (ordered.one_place (place_of is.slice) place d was seat)
      ]

  -- ---- the whole

  left_before : (p : ℕ) → is_current (enlisted place units (Replace place) x.arrays.state) p ≡ true
      → is_left (with_drive place units (Replace place) (joins x.arrays.all.items place (x.bay.sectors disk)) (book x)) p ≡ true
  left_before p current =
      heeded_left (with_drive place units (Replace place) (joins x.arrays.all.items place (x.bay.sectors disk)) (book x)) p
      (λ n below. renewed_went (joins x.arrays.all.items place (x.bay.sectors disk) n) place (next_drive x.arrays.state) ((book x).arrays n) ∙ fit.0.heeded n below) current

  new_low : (p : ℕ) → is_current (enlisted place units (Replace place) x.arrays.state) p ≡ true → disk_of u (log_slice p) < x.bay.disks
  new_low p current =
      elim (cases_eq p place) [
        | inl same ↦
            subst (λ d. d < x.bay.disks)
            (sym (ap (λ (o : Option ℕ). unwrap_or o 0)
            (seats.seats (place_of (log_slice p))
            ∙ ap (λ (c : Bool). if c then Some disk else seat_of t (place_of (log_slice p))) (eq-eqb (place_of (log_slice p)) place (place_of_log p ∙ same))))) low
        | inr other ↦
            let old : is_current x.arrays.state p ≡ true =
            sym (current_enlisted place units (Replace place) x.arrays.state p listed ∙ ap (λ c. c || is_current x.arrays.state p) (ne_eqb p place other)) ∙ current in
            subst (λ d. d < x.bay.disks)
            (sym (ap (λ (o : Option ℕ). unwrap_or o 0)
            (seats.seats (place_of (log_slice p))
            ∙ ap (λ (c : Bool). if c then Some disk else seat_of t (place_of (log_slice p)))
            (ne_eqb (place_of (log_slice p)) place (λ is. other (sym (place_of_log p) ∙ is))))))
            (low_disk (book x) t x.bay p orderly empty.running.set (heeded_left (book x) p fit.0.heeded old))
      ]

  former_kept : (d : ℕ) → seat_of x.slices place ≡ Some d → d ≢ disk → KeepsDisk x.shelf.told x.bay b d
  former_kept d seat other =
      retired_by x b s place disk t linear fit kind empty now names ordered orderly (IsWrittenBy u disk (new_table x.arrays.state x.arrays.all.items place (x.bay.sectors disk))) enlists.only d seat
      (λ k v at. elim at [ inl own ↦ other own.0 | inr is ↦ bare_now d seat other k v is ])

  -- by the arrays of the book
  by_book : Enlists t u (views_of (book x)) place disk units (Replace place) (book x) (raid_by z) x.bay b
  by_book = subst (λ vs. Enlists t u vs place disk units (Replace place) (book x) (raid_by z) x.bay b) (sym list_is) enlists

  pub taken_in : option_map (λ d. d.units) (slice_get x.arrays.state.drives.items place) ≡ Some units → TakesBy x y place disk (Ok tt)
  taken_in units_is =
      let may : ℕ → ℕ → List ℕ → Type 0 = IsWrittenBy u disk (new_table x.arrays.state x.arrays.all.items place (x.bay.sectors disk)) in
      let go = mid_goes x b s place disk t linear fit kind empty now names ordered orderly in
      let carries = mid_carries x b s place disk t linear fit kind empty now names ordered orderly in
      record {
        takes = record {
          continues = goes_on x b s place disk t linear fit kind empty now names ordered orderly u z may enlists.only fit_now orderly_now;
          carries = carries_then x mid y go carries new_carries;
          kept = tt;
          keeps =
              book_enlisted place units (Replace place) (joins x.arrays.all.items place (x.bay.sectors disk)) (book x) (raid_by z) (slices_of t x.bay) (slices_of u b) empty.running.set
              after.running.set after.heeded made enlists.is.arrays;
          outside =
              outside_of_it x b s place disk t linear fit kind empty now names ordered orderly u z may enlists.only fit_now orderly_now
              (λ d k a at. elim at [ inl own ↦ inr own.0 | inr is ↦ new_sliced d k a is ]) new_sliced;
          names = names.names;
          bare = λ d seat other. inr (bare_now d seat other);
          disks = enlists.only.stays.disks;
          gone = λ same. absurd (let e : ◌≡◌ {A = Result (Unit {0}) GrowFault} (Ok tt) (Err Gone) = same in cc e);
          declined = tt;
          replaced = record {
            units = units;
            units_is = units_is;
            enough = ap (λ n. units_of n x.arrays.state.extent) size ∙ same_units x.arrays.state place (units_of (x.bay.sectors disk) x.arrays.state.extent) units admits.units units_is;
            marks = enlists.is.book;
            plan = enlists.is.plan_is;
            cause = λ p current gone.
                let d = disk_of u (log_slice p) in
                subst (λ n. Rose n (b.faults d)) (sym (ap (λ (c : Bool). if c then x.bay.faults d else 0) (lt-ltb d x.bay.disks (new_low p current))))
                (went (later x x.bay x.shelf u x.arrays) y p refl (enlists.is.caused.cause p (left_before p current) (not_left (raid_by z) p gone)));
            seats =
                subst (λ n. SeatsDrive (views_of (book x)) place disk n x.slices u) (sym size)
                (subst (λ vs. SeatsDrive vs place disk (x.bay.sectors disk) x.slices u) (sym list_is) all_seats);
            arrays =
                subst (λ n. KeepsArrays (with_drive place units (Replace place) (joins (views_of (book x)) place n) (book x)) (raid_by z)) (sym size)
                (subst (λ vs. KeepsArrays (with_drive place units (Replace place) (joins vs place (x.bay.sectors disk)) (book x)) (raid_by z)) (sym list_is) enlists.is.arrays);
          };
          table = record {
            copies = λ names_told all copy.
                subst (λ (e : Table). HoldsCopy copy e (now_on b disk)) (sym table_is) (enlists.copies (λ k of. table_live all k (table_inside k of)) copy);
            durable = λ names_told all k of.
                let of_old = subst (λ n. IsOfTable n k) size of in
                enlists.durable k of_old (table_live all k (table_inside k of_old));
          };
          leaves = λ traced a holds k i since until stopped.
              elim (new_leaves traced a (holds_of x mid go carries a holds) k i since until stopped) [
                | inl former ↦ inl former
                | inr with_it ↦ inr with_it.0
              ];
          moments = λ traced a holds k i since until stopped. new_leaves traced a (holds_of x mid go carries a holds) k i since until stopped;
        };
        raises = enlists.raises;
        retired = λ why. former_kept;
        laid = laid_by x b s place disk t linear fit kind empty now names ordered orderly u by_book.only;
        answer = inl refl;
        not_whole = λ same. absurd (let e : ◌≡◌ {A = Result (Unit {0}) GrowFault} (Ok tt) (Err NotWhole) = same in cc e);
        left = tt;
        out = λ same. absurd (let e : ◌≡◌ {A = Result (Unit {0}) GrowFault} (Ok tt) (Err NotWhole) = same in cc e);
        enters = record {
          vacates = vacates x b s place disk t linear fit kind empty now names ordered orderly admits;
          units = units;
          units_is = units_is;
          seats = subst (λ vs. SeatsDrive vs place disk (x.bay.sectors disk) t u) (sym list_is) seats;
          enlists = by_book;
          former = former_kept;
        };
      }
    where
      table_live : AreTold x → (k : ℕ) → k < x.bay.sectors disk → IsLive x.bay b disk k
      table_live all k within = record {
        disk = subst (λ n. disk < n) (sym enlists.only.stays.disks) low;
        sector = subst (λ n. k < n) (sym size) within;
        is_told = all disk low;
        unspent = now.unspent disk k;
      }

      table_inside : (k : ℕ) → IsOfTable (x.bay.sectors disk) k → k < x.bay.sectors disk
      table_inside k of = let room = (reaches_each (views_of (book x)) place (x.bay.sectors disk) admits.reaches).0 in in_disk (x.bay.sectors disk) k room of

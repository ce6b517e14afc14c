-- What the disks of a served pool say: each current place's drive has the book's state, and no other disk a later one.
use Rattle.std.proofs.Common.{◌≡◌, ◌⊎◌, ℕ, ◌+◌, ◌<◌, ◌≤◌, true, false, [], Option, Some, None, refl, sym, ap, subst, ◌∙◌, inl, inr, arith}
use Rattle.std.specs.Option.{option_map_or}
use Rattle.std.specs.Result.{result_ok}
use Rattle.std.proofs.lemmas.Bool.{both_ways, cases_Bool}
use Rattle.std.proofs.lemmas.Option.{none-some}
use Rattle.rack.specs.Seen.{Image, RackView}
use Rattle.rack.specs.Values.{MayLeave}
use Rattle.slice_rack.specs.Slices.{Slices, seat_of as slice_seat, sectors_of}
use Rattle.slice_rack.specs.Sliced.{sliced}
use Rattle.pool_state.specs.declared.contents.Copied.{Copied}
use Rattle.pool_state.specs.declared.contents.State.{State}
use Rattle.pool_state.specs.Sector.{decoded}
use Rattle.array_image.specs.Arrays.{replayed}
use Rattle.array_image.specs.Places.{arrays_first, log_sectors, log_slice, place_of, state_sector}
use Rattle.array_image.specs.Record.{pending}
use Rattle.array_image.specs.States.{epoch_of, is_current, state_in}
use Rattle.array_core.proofs.Stripped.{some_same}
use Rattle.log_laws.specs.Commits.{Stands}
use Rattle.log_laws.specs.Kept.{IsCopyOf, IsNoLater, LogInvariant}
use Rattle.log_laws.specs.Standing.{LogsStand, deciding}
use Rattle.log_laws.proofs.Kept.{kept_state}
use Rattle.md_super.specs.declared.superblock.Super.{Super}
use Rattle.raid_laws.specs.Book.{OnlyMarksSince}
use Rattle.raid_laws.specs.Raid.{IsTracked, Raid, InvariantInCall, held_in, is_failed, spent_of}
use Rattle.raid_laws.proofs.Over.{number_room}
use Rattle.raid_laws.proofs.Noted.{current_few}
use Rattle.array_model.specs.View.{HasGeometry, shape_of}
use Rattle.pool_image.specs.Disks.{Identities, Identity, identities_of, newest, seat_of, stands_for}
use Rattle.pool_image.specs.Drives.{Found, extent_of}
use Rattle.pool_image.specs.Meaning.{truth_of}
use Rattle.pool_model.specs.InService.{HasSeat, IsOutset, epoch_at}
use Rattle.pool_model.specs.Left.{IsLeftBy, IsServed}
use Rattle.pool_model.specs.Pools.{extent_in}
use Rattle.pool_model.specs.Stopped.{AreSlicesNow}
use Rattle.pool_model.proofs.Said.{SaysSeats, slices_by}
use Rattle.pool_model.proofs.Seats.{nowhere, seats_now as seats_by, stands_now as stands_by}
use Rattle.pool_model.proofs.Found.{newest_latest, ok_of, seated_below}
use Rattle.pool_model.proofs.Logs.{copied_in, many_in, reads_in, room_in, there_in}

-- a served pool, of which no more is told than the slices of current places
pub record IsServedNow (f : Found) (t : Slices) (v : Raid) (y : RackView) : Type 0 where
  pub slices : AreSlicesNow f t v.state
  pub after : OnlyMarksSince f.state v.state
  pub joined : f.state.joined ≡ f.state.made
  pub told : (n : ℕ) → n < f.state.made → IsTracked v y n
  pub lasts : (n : ℕ) → n < f.state.made → is_failed v n ≡ false
  pub geometry : (n : ℕ) (u : Super) → n < f.state.made → truth_of f n ≡ Some u → HasGeometry u (v.arrays n).truth

pub served_now : (f : Found) (t : Slices) (v : Raid) (y : RackView) → IsServed f t v y → IsServedNow f t v y
served_now f t v y served = record {
  slices = slices_by f t v.state served.slices;
  after = served.after;
  joined = served.joined;
  told = served.told;
  lasts = served.lasts;
  geometry = served.geometry;
}

-- All that is known of a served pool and of the contents that it leaves. The drives that were marked say earlier states.
pub record IsKnown (f : Found) (t : Slices) (v : Raid) (y : RackView) (i : Image) : Type 0 where
  pub is : IsOutset f
  pub served : IsServedNow f t v y
  pub left : IsLeftBy f t v.state y i
  pub former :
      (p d : ℕ) (copy : Copied) → f.seats p ≡ Some d → is_current v.state p ≡ false → (identities_of f.disks i d).copied ≡ Some copy
      → copy.state.epoch < v.state.epoch

-- those that still have their log slices do
pub known_of : (f : Found) (t : Slices) (v : Raid) (y : RackView) (i : Image) → IsOutset f → IsServed f t v y → IsLeftBy f t v.state y i → IsKnown f t v y i
known_of f t v y i is served left = record {
  is = is;
  served = served_now f t v y served;
  left = left;
  former = λ p d copy seat former here.
      let first : 0 < f.state.made = (let made = is.made.0 in omega (arith, made)) in
      let log = ((served.told 0 first).stood (served.lasts 0 first)).log in
      let few = current_few f.state p is.places (is.seated p d seat).current in
      let on : slice_seat t p ≡ Some d = served.slices.seats p ∙ seat in
      let lies = served.slices.logs p d seat in
      let there : 0 < y.sectors (log_slice p) =
      (let some = there_in f t i left.inside p d on lies in let same = left.sectors (log_slice p) in omega (arith, some, same)) in
      log.copies.earlier p (sliced t i (log_slice p) 0) copy few former there (left.picks.picks (log_slice p) 0 (log.logs p 0 few there))
      (ok_of (decoded (sliced t i (log_slice p) 0)) copy (sym (copied_in f t i left.inside p d on lies) ∙ here));
}

module _ (f : Found) (t : Slices) (v : Raid) (y : RackView) (i : Image) (known : IsKnown f t v y i) where
  abbrev pub s : State
  s = v.state

  abbrev pub ids : Identities
  ids = identities_of f.disks i

  -- the slices' contents
  abbrev pub c : Image
  c = sliced t i

  pub stood : (n : ℕ) → n < f.state.made → InvariantInCall s (shape_of (v.arrays n)) (held_in v y n) (spent_of v n) (λ place. false) v y n
  stood n low = (known.served.told n low).stood (known.served.lasts n low)

  abbrev first_array : 0 < f.state.made
  first_array = let made = known.is.made.0 in omega (arith, made)

  pub kept : LogInvariant s v.number (λ place. false) y
  kept = (stood 0 first_array).log

  pub logs : LogsStand y c
  logs = record { picks = λ p u live. known.left.picks.picks (log_slice p) u live; inside = λ p u past. known.left.picks.inside (log_slice p) u past }

  pub stands : Stands y c
  stands = record { picks = known.left.picks.picks; inside = λ p u past. known.left.picks.inside (log_slice p) u past }

  pub nothing_pending : pending (deciding c) c ≡ []
  nothing_pending = elim (kept.idle c logs) [ inl none ↦ none | inr one ↦ absurd (both_ways false refl one.2) ]

  pub state_is : state_in c ≡ Some s
  state_is = let one = (stood 0 first_array).someone in kept_state s v.number (λ place. false) y c one.0 kept logs one.1 refl

  pub quiet : (k u : ℕ) → replayed (sectors_of t) c k u ≡ c k u
  quiet k u = ap (λ (n : ℕ → ℕ). replayed n c k u) (λ j d. sym (known.left.sectors d) j) ∙ kept.quiet c stands k u refl

  -- ---- drives

  pub place_is : (p : ℕ) → place_of (log_slice p) ≡ p
  place_is p = omega arith

  pub current_before : (p : ℕ) → is_current s p ≡ true → is_current f.state p ≡ true
  current_before p now = known.served.after.current p now

  pub few : (p : ℕ) → is_current s p ≡ true → p < 16
  few p now = current_few f.state p known.is.places (current_before p now)

  -- a current place has its drive
  pub seat_there : (p : ℕ) → is_current s p ≡ true → (d : ℕ) × (f.seats p ≡ Some d)
  seat_there p now = by (f.seats p) refl
    where
      by : (o : Option ℕ) → f.seats p ≡ o → (d : ℕ) × (f.seats p ≡ Some d)
      by (Some d) seat = (d, seat)
      by None seat =
          let nothing = known.served.slices.unseated (log_slice p) (ap (is_current s) (place_is p) ∙ now) (ap f.seats (place_is p) ∙ seat) in
          let some = kept.there p now refl in
          let same = known.left.sectors (log_slice p) in
          absurd (omega (arith, nothing, some, same))

  pub ahead_of : (p d : ℕ) → f.seats p ≡ Some d → HasSeat f p d
  ahead_of p d seat = known.is.seated p d seat

  pub low_place : (p d : ℕ) → f.seats p ≡ Some d → p < 16
  low_place p d seat = current_few f.state p known.is.places (ahead_of p d seat).current

  module _ (p d : ℕ) (seat : f.seats p ≡ Some d) (now : is_current s p ≡ true) where
    on_place : slice_seat t p ≡ Some d
    on_place = known.served.slices.seats p d now seat

    lies : extent_of f 0 ≡ Some (extent_in t (log_slice p))
    lies = known.served.slices.logs p d now seat

    -- it has all of its log slice
    pub log_room : arrays_first ≤ f.disks.sectors d
    log_room = room_in f t i known.left.inside p d on_place lies

    pub log_reads : (u : ℕ) → u < log_sectors → c (log_slice p) u ≡ i d (state_sector + u)
    log_reads u low = reads_in f t i known.left.inside p d on_place lies u low

    pub log_many : y.sectors (log_slice p) ≡ log_sectors
    log_many = known.left.sectors (log_slice p) ∙ many_in f t i known.left.inside p d on_place lies

    copy_may : MayLeave (y.held (log_slice p) 0) (c (log_slice p) 0)
    copy_may = known.left.picks.picks (log_slice p) 0 (kept.logs p 0 (low_place p d seat)
        (let there = there_in f t i known.left.inside p d on_place lies in let same = known.left.sectors (log_slice p) in omega (arith, there, same)))

    -- its copy is of the book's state, and names its id
    pub copy_now : IsCopyOf s p (c (log_slice p) 0)
    copy_now = kept.copies.own p (c (log_slice p) 0) now refl copy_may

    pub copied_now : (ids d).copied ≡ Some (record { state = s; own = copy_now.own })
    copied_now = copied_in f t i known.left.inside p d on_place lies ∙ ap result_ok copy_now.copy

  -- that of a drive that was marked is earlier
  pub copied_before : (p d : ℕ) → f.seats p ≡ Some d → (copy : Copied) → is_current s p ≡ false → (ids d).copied ≡ Some copy → copy.state.epoch < s.epoch
  copied_before p d seat copy former here = known.former p d copy seat former here

  -- ---- other disks

  pub other_same : (d : ℕ) → ((p : ℕ) → f.seats p ≡ Some d → ⊥) → d < f.disks.count → ids d ≡ f.identities d
  other_same d none low = known.left.elsewhere.others d none low

  -- the book's state is that of the pool, or a later one
  pub later_or : (s ≡ f.state) ⊎ (f.state.epoch < s.epoch)
  later_or = elim known.served.after.raised [
    | inl same ↦ inl same
    | inr (inl later) ↦ inr later
    | inr (inr most) ↦ absurd (let room = (number_room v 0 (known.served.lasts 0 first_array)).1 in omega (arith, room, most))
  ]

  pub no_earlier : f.state.epoch ≤ s.epoch
  no_earlier = known.served.after.epoch

  other_no_later : (d : ℕ) (copy : Copied) → d < f.disks.count → (f.identities d).copied ≡ Some copy → IsNoLater s copy
  other_no_later d copy low here =
      elim (known.is.copies d copy low here) [
        | inl less ↦ inl (let epoch = no_earlier in omega (arith, less, epoch))
        | inr was ↦ elim later_or [
          | inr later ↦ inl (subst (λ (z : State). z.epoch < s.epoch) (sym was) later)
          | inl same ↦ inr (was ∙ sym same)
        ]
      ]

  -- a disk of the pool is some place's, or none's
  pub seated_or : (d : ℕ) → ((p : ℕ) × (f.seats p ≡ Some d)) ⊎ ((p : ℕ) → f.seats p ≡ Some d → ⊥)
  seated_or d = elim (seated_below f.seats d 16) [
    | inl one ↦ inl one
    | inr none ↦ inr (λ p seat. none p (low_place p d seat) seat)
  ]

  pub no_later : (d : ℕ) (copy : Copied) → d < f.disks.count → (ids d).copied ≡ Some copy → IsNoLater s copy
  no_later d copy low here = elim (seated_or d) [
    | inr none ↦ other_no_later d copy low (sym (ap (λ (z : Identity). z.copied) (other_same d none low)) ∙ here)
    | inl one ↦ elim (cases_Bool (is_current s one.0)) [
      | inl now ↦
          inr (sym (ap (λ (k : Copied). k.state)
          (some_same (record { state = s; own = (copy_now one.0 d one.1 now).own }) copy (sym (copied_now one.0 d one.1 now) ∙ here))))
      | inr former ↦ inl (copied_before one.0 d one.1 copy former here)
    ]
  ]

  -- the newest state is the book's
  pub newest_now : newest f.disks ids ≡ Some s
  newest_now =
      let one = (stood 0 first_array).someone in
      let seat = seat_there one.0 one.1 in
      newest_latest (λ d. (ids d).copied) f.disks.count seat.0 (record { state = s; own = (copy_now one.0 seat.0 seat.1 one.1).own }) s
      (ahead_of one.0 seat.0 seat.1).low (copied_now one.0 seat.0 seat.1 one.1) refl no_later

  -- ---- seats

  -- a drive that was marked says an earlier state than those that weren't
  former_low : (r q p d : ℕ) → f.seats r ≡ Some q → is_current s r ≡ false → f.seats p ≡ Some d → is_current s p ≡ true → epoch_at (ids q) < epoch_at (ids d)
  former_low r q p d other former seat now = of (ids q).copied refl
    where
      here : epoch_at (ids d) ≡ s.epoch
      here = ap (λ (o : Option Copied). option_map_or epoch_of o 0) (copied_now p d seat now)

      of : (o : Option Copied) → (ids q).copied ≡ o → option_map_or epoch_of o 0 < epoch_at (ids d)
      of None none = let first = known.is.epoch in let up = no_earlier in let same = here in omega (arith, first, up, same)
      of (Some copy) some = let below = copied_before r q other copy former some in let same = here in omega (arith, below, same)

  pub says_seats : SaysSeats f s i
  says_seats = record {
    is = known.is;
    after = known.served.after;
    absent = λ p d now free low stands. let one = seat_there p now in none-some one.0 (sym free ∙ one.1);
    copies = λ p d now seat. record {
      copy = record { state = s; own = (copy_now p d seat now).own };
      is = copied_now p d seat now;
      since = no_earlier;
      drive = (copy_now p d seat now).drive;
    };
    former = λ r q p d other former seat now stands. former_low r q p d other former seat now;
    others = other_same;
  }

  pub stands_now : (p d : ℕ) → is_current s p ≡ true → f.seats p ≡ Some d → stands_for s (ids d) ≡ Some p
  stands_now p d now seat = stands_by f s i says_seats p d now seat

  pub seats_now : (p : ℕ) → is_current s p ≡ true → seat_of s f.disks ids p ≡ f.seats p
  seats_now p now = seats_by f s i says_seats p now

  -- a place that isn't current has none
  pub none_former : (p : ℕ) → is_current s p ≡ false → seat_of s f.disks ids p ≡ None
  none_former p former = nowhere s f.disks ids p former

  -- a drive's copy is of the book's pool
  pub copy_pool : (p d : ℕ) (copy : Copied) → seat_of s f.disks ids p ≡ Some d → (ids d).copied ≡ Some copy → copy.state.pool ≡ s.pool
  copy_pool p d copy seat here = elim (cases_Bool (is_current s p)) [
    | inr former ↦ absurd (none-some d (sym (none_former p former) ∙ seat))
    | inl now ↦
        let was : f.seats p ≡ Some d = sym (seats_now p now) ∙ seat in
        ap (λ (o : Option Copied). option_map_or (λ z. z.state.pool) o s.pool) (sym here ∙ copied_now p d was now)
  ]

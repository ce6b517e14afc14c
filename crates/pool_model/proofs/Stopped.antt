-- What contents that a stop inside a call leaves say as they stand: who is seated, the newest state, and what is pending.
use Rattle.std.proofs.Common.{◌≡◌, ◌⊎◌, ℕ, ◌+◌, ◌-◌, ◌<◌, ◌≤◌, ◌^◌, ◌==◌, ◌&&◌, Bool, true, false, bytes_eq, nat_lt, if◌then◌else◌, map, position, List, [], Option, Some, None, Ok, option_map, unwrap_or, refl, sym, ap, ap₂, subst, ◌∙◌, inl, inr, le-leb, le-ltb, lt-ltb, arith}
use Rattle.std.specs.List.{range_with_len}
use Rattle.std.specs.Option.{option_and_then, option_map_or}
use Rattle.std.specs.Result.{result_ok}
use Rattle.std.proofs.lemmas.Bool.{both_ways, cases_Bool, cases_lt}
use Rattle.std.proofs.lemmas.Option.{none-some}
use Rattle.rack.specs.Seen.{Image}
use Rattle.rack.specs.Targets.{look}
use Rattle.slice_rack.specs.Slices.{Slices, disk_of, first_of as slice_first, seat_of as slice_seat, sectors_of}
use Rattle.slice_rack.specs.Sliced.{sliced}
use Rattle.shr_base.specs.Blocks.{bytes_at, number_at}
use Rattle.pool_state.specs.declared.contents.Copied.{Copied}
use Rattle.pool_state.specs.declared.contents.State.{State}
use Rattle.pool_state.specs.Sector.{decoded}
use Rattle.array_image.specs.Arrays.{replayed}
use Rattle.array_image.specs.Foremost.{foremost}
use Rattle.array_image.specs.Places.{arrays_first, log_sectors, log_slice, place_of, slice_of, state_sector}
use Rattle.array_image.specs.Record.{gate_sector, pending}
use Rattle.array_image.specs.States.{copy_in, epoch_of, is_current, state_in}
use Rattle.array_core.proofs.Stripped.{some_same}
use Rattle.log_laws.specs.Kept.{IsNoLater}
use Rattle.log_laws.specs.Standing.{deciding}
use Rattle.raid_laws.specs.Book.{OnlyMarksSince, after_then}
use Rattle.raid_laws.specs.Since.{AreSince, HasOwnSince}
use Rattle.raid_laws.proofs.Noted.{current_few}
use Rattle.pool_scan.proofs.Seated.{foremost_from}
use Rattle.pool_image.specs.Disks.{Identities, Identity, identities_of, newest, seat_of, stands_for}
use Rattle.pool_image.specs.Drives.{Found, extent_of}
use Rattle.pool_image.specs.Replay.{Extent, Standing, log_extent, logs_of, standing, standing_by}
use Rattle.pool_rest.specs.SoundLogs.{HasSoundLogs, ShowLogs}
use Rattle.pool_rest.specs.Resting.{seated_state}
use Rattle.pool_rest.proofs.SaidLogs.{same_below, says_lower, says_sound, seated_is, stands_now, targets_are}
use Rattle.pool_model.specs.InService.{HasSeat, epoch_at}
use Rattle.pool_model.specs.Pools.{extent_in}
use Rattle.pool_model.specs.Stopped.{HasLeader, IsStopped, SaysStopped, StandFor}
use Rattle.pool_model.proofs.Found.{newest_latest, ok_of, seated_below}
use Rattle.pool_model.proofs.Logs.{copied_in, many_in, reads_in, room_in, there_in}
use Rattle.pool_model.proofs.Named.{IsNamed, id_same, same_position, stands_named, stands_same}
use Rattle.pool_model.proofs.Outset.{no_later_epoch}
use Rattle.pool_model.proofs.Said.{SaysSeats}
use Rattle.pool_model.proofs.Seats.{seats_now}

-- of nothing no copy is decoded
pub nothing_decodes : (copy : Copied) → decoded [] ≡ Ok copy → ⊥
unfolding number_at bytes_at
nothing_decodes copy is = none-some copy (ap result_ok is)

module _ (f : Found) (t : Slices) (base s : State) (i : Image) (stop : SaysStopped f t base s i) where
  abbrev pub c : Image
  c = sliced t i

  abbrev pub ids : Identities
  ids = identities_of f.disks i

  -- the state that stands
  abbrev pub u : State
  u = stop.says.stood

  ahead_of : (p d : ℕ) → f.seats p ≡ Some d → HasSeat f p d
  ahead_of p d seat = stop.is.seated p d seat

  pub few : (p d : ℕ) → f.seats p ≡ Some d → p < 16
  few p d seat = current_few f.state p stop.is.places (ahead_of p d seat).current

  pub later_base : OnlyMarksSince f.state s
  later_base = after_then f.state base s stop.begun stop.after

  -- a current place that has a slice has a drive
  pub drive_there : (k j : ℕ) → is_current base (place_of k) ≡ true → j < sectors_of t k → (d : ℕ) × (f.seats (place_of k) ≡ Some d)
  drive_there k j now within = by (f.seats (place_of k)) refl
    where
      by : (o : Option ℕ) → f.seats (place_of k) ≡ o → (d : ℕ) × (f.seats (place_of k) ≡ Some d)
      by (Some d) seat = (d, seat)
      by None free = (let nothing = stop.slices.unseated k now free in absurd (omega (arith, nothing, within)))

  -- where it has no log slice nothing is there
  pub reads_none : (k j : ℕ) → sectors_of t (log_slice k) ≤ j → c (log_slice k) j ≡ []
  reads_none k j past = ap (λ (b : Bool). if b then i (disk_of t (log_slice k)) (slice_first t (log_slice k) + j) else []) (le-ltb j (sectors_of t (log_slice k)) past)

  -- a current place where a copy is read has a drive
  pub decoded_seat : (k : ℕ) (copy : Copied) → is_current base k ≡ true → decoded (c (log_slice k) 0) ≡ Ok copy → (q : ℕ) × (f.seats k ≡ Some q)
  decoded_seat k copy now is = elim (cases_lt 0 (sectors_of t (log_slice k))) [
    | inl some ↦
        let at : place_of (log_slice k) ≡ k = omega arith in
        let one = drive_there (log_slice k) 0 (ap (is_current base) at ∙ now) some in
        (one.0, ap f.seats (sym at) ∙ one.1)
    | inr none ↦ absurd (nothing_decodes copy (ap decoded (sym (reads_none k 0 none)) ∙ is))
  ]

  module _ (p d : ℕ) (seat : f.seats p ≡ Some d) (now : is_current base p ≡ true) where
    pub on_place : slice_seat t p ≡ Some d
    on_place = stop.slices.seats p d now seat

    pub lies : extent_of f 0 ≡ Some (extent_in t (log_slice p))
    lies = stop.slices.logs p d now seat

    pub room : arrays_first ≤ f.disks.sectors d
    room = room_in f t i stop.inside p d on_place lies

    pub reads : (k : ℕ) → k < log_sectors → c (log_slice p) k ≡ i d (state_sector + k)
    reads k low = reads_in f t i stop.inside p d on_place lies k low

    pub many : sectors_of t (log_slice p) ≡ log_sectors
    many = many_in f t i stop.inside p d on_place lies

    -- what it says is its copy
    pub copied_is : (j : Image) → (identities_of f.disks j d).copied ≡ result_ok (decoded (sliced t j (log_slice p) 0))
    copied_is j = copied_in f t j stop.inside p d on_place lies

    -- what is read of a copy there
    pub decoded_there : (copy : Copied) → (ids d).copied ≡ Some copy → decoded (c (log_slice p) 0) ≡ Ok copy
    decoded_there copy here = ok_of (decoded (c (log_slice p) 0)) copy (sym (copied_is i) ∙ here)

  -- a disk of the pool is some place's, or none's
  pub seated_or : (d : ℕ) → ((p : ℕ) × (f.seats p ≡ Some d)) ⊎ ((p : ℕ) → f.seats p ≡ Some d → ⊥)
  seated_or d = elim (seated_below f.seats d 16) [
    | inl one ↦ inl one
    | inr none ↦ inr (λ p seat. none p (few p d seat) seat)
  ]

  -- ---- a call that began with the base

  module _ (most : s.epoch < 2 ^ 63 - 1)
      (former : (p d : ℕ) (copy : Copied) → f.seats p ≡ Some d → is_current base p ≡ false → (ids d).copied ≡ Some copy → copy.state.epoch < base.epoch)
      (since : AreSince base (sectors_of t) c) where
    -- a drive of a current place
    module _ (p d : ℕ) (seat : f.seats p ≡ Some d) (now : is_current base p ≡ true) where
      -- it names its drive, and is of a state from then on
      own : HasOwnSince base p (c (log_slice p) 0)
      own = (since p (few p d seat) (there_in f t i stop.inside p d (on_place p d seat now) (lies p d seat now))).own now

      own_copied : (ids d).copied ≡ Some own.copy
      own_copied = copied_is p d seat now i ∙ ap result_ok own.is

      -- so it stands for its place by states that came of the pool's
      names : (v : State) → OnlyMarksSince base v → stands_for v (ids d) ≡ Some p
      names v after =
          let named : IsNamed f.state (f.identities d) p = stands_named f.state (f.identities d) p (ahead_of p d seat).stands in
          ap (λ o. stands_for v (record { copied = o; table = (ids d).table })) own_copied
          ∙ ap (option_and_then (λ id. position (λ drive. bytes_eq drive.id.0 id) v.drives.items)) (own.drive ∙ id_same f.state base stop.begun.same p ∙ named.place)
          ∙ same_position named.id v.drives.items f.state.drives.items (after_then f.state base v stop.begun after).same.drives ∙ named.first

    -- a drive whose place was marked says an earlier state than one for whose place it stands
    former_low : (v : State) → OnlyMarksSince base v → (r q p d : ℕ) → f.seats r ≡ Some q → is_current v r ≡ false → f.seats p ≡ Some d → is_current v p ≡ true
        → stands_for v (ids q) ≡ Some p → epoch_at (ids q) < epoch_at (ids d)
    former_low v after r q p d other past seat now stands =
        let was = after.current p now in
        let one = own p d seat was in
        let from : base.epoch ≤ one.copy.state.epoch = one.after.epoch in
        let first : 1 ≤ base.epoch = (let least = stop.is.epoch in let up = stop.begun.epoch in omega (arith, least, up)) in
        let here : epoch_at (ids d) ≡ one.copy.state.epoch = ap (λ (o : Option Copied). option_map_or epoch_of o 0) (own_copied p d seat was) in
        elim (cases_Bool (is_current base r)) [
          | inl before ↦
              let same : r ≡ p = some_same r p (sym (names r q other before v after) ∙ stands) in
              absurd (both_ways (is_current v r) past (ap (is_current v) same ∙ now))
          | inr old ↦
              let low : epoch_at (ids q) < base.epoch = of old first (ids q).copied refl in
              omega (arith, low, from, here)
        ]
      where
        of : is_current base r ≡ false → 1 ≤ base.epoch → (o : Option Copied) → (ids q).copied ≡ o → option_map_or epoch_of o 0 < base.epoch
        of old first None none = omega (arith, first)
        of old first (Some copy) some = former r q copy other old some

    -- so contents say who is seated
    says_seats : (v : State) → OnlyMarksSince base v → SaysSeats f v i
    says_seats v after = record {
      is = stop.is;
      after = after_then f.state base v stop.begun after;
      absent = λ p d now free low stands.
          stop.absent p d (after.current p now) free low (sym (stands_same base v after.same (ids d)) ∙ stands);
      copies = λ p d now seat.
          let one = own p d seat (after.current p now) in
          record {
            copy = one.copy;
            is = own_copied p d seat (after.current p now);
            since = let up = stop.begun.epoch in let from = one.after.epoch in omega (arith, up, from);
            drive = one.drive ∙ sym (id_same base v after.same p);
          };
      former = former_low v after;
      others = stop.elsewhere.others;
    }

    -- ---- the state that stands

    -- a drive that says it
    record IsLeader (k q : ℕ) (copy : Copied) : Type 0 where
      seat : f.seats k ≡ Some q
      current : is_current base k ≡ true
      is : (ids q).copied ≡ Some copy
      state : copy.state ≡ u
      after : OnlyMarksSince base copy.state

    -- one of the places that are current once the record is written: the state that stands is no earlier than its copy's
    stands_late : base.epoch ≤ u.epoch
    stands_late =
        let p = stop.someone.0 in
        let d = stop.someone.1 in
        let seat = stop.someone.3 in
        let now = stop.after.current p stop.someone.2 in
        let one = own p d seat now in
        let from = one.after.epoch in
        let most = no_later_epoch u one.copy (stop.says.latest p one.copy (few p d seat) one.is) in
        omega (arith, from, most)

    -- a place that wasn't current when the call began has an earlier copy at most: where it has no log slice nothing is decoded
    former_less : (k : ℕ) (copy : Copied) → k < 16 → is_current base k ≡ false → decoded (c (log_slice k) 0) ≡ Ok copy → copy.state.epoch < base.epoch
    former_less k copy low old is = elim (cases_lt 0 (sectors_of t (log_slice k))) [
      | inl has ↦ (since k low has).former copy old is
      | inr none ↦
          absurd (nothing_decodes copy (ap decoded (sym (reads_none k 0 none)) ∙ is))
    ]

    leads : (k : ℕ) (copy : Copied) → k < 16 → copy_in c k ≡ Some copy → copy.state ≡ u → (q : ℕ) × IsLeader k q copy
    leads k copy low here state = elim (cases_Bool (is_current base k)) [
      | inr old ↦
          let less = former_less k copy low old block in
          let same : copy.state.epoch ≡ u.epoch = ap (λ (z : State). z.epoch) state in
          let late = stands_late in
          absurd (omega (arith, less, same, late))
      | inl now ↦
          let drive = decoded_seat k copy now block in
          let one = own k drive.0 drive.1 now in
          let same : one.copy ≡ copy = some_same one.copy copy (sym (ap result_ok one.is) ∙ ap result_ok block) in (
            drive.0,
            record {
              seat = drive.1;
              current = now;
              is = own_copied k drive.0 drive.1 now ∙ ap Some same;
              state = state;
              after = subst (λ (z : Copied). OnlyMarksSince base z.state) same one.after;
            },
          )
    ]
      where
        block : decoded (c (log_slice k) 0) ≡ Ok copy
        block = ok_of (decoded (c (log_slice k) 0)) copy here

    leader : (k : ℕ) × (q : ℕ) × (copy : Copied) × IsLeader k q copy
    unfolding state_in
    leader = of (foremost epoch_of (map (copy_in c) (range_with_len 0 16))) refl stop.says.stood_is
      where
        of : (o : Option Copied) → foremost epoch_of (map (copy_in c) (range_with_len 0 16)) ≡ o → option_map (λ copy. copy.state) o ≡ Some u
            → (k : ℕ) × (q : ℕ) × (copy : Copied) × IsLeader k q copy
        of None none at = absurd (none-some u at)
        of (Some copy) some at =
            let from = foremost_from epoch_of (copy_in c) 0 16 copy some in
            let one = leads from.0 copy (let low = from.1 in omega (arith, low)) from.2 (some_same copy.state u at) in
            (from.0, one.0, copy, one.1)

    -- it came of the state with which the call began
    stood_after : OnlyMarksSince base u
    stood_after = subst (OnlyMarksSince base) leader.3.state leader.3.after

    -- and no later than the one that is brought
    stood_early : (s ≡ u) ⊎ (u.epoch < s.epoch)
    stood_early = elim stop.says.next [ inl same ↦ inl same | inr brought ↦ inr brought.later ]

    stood_room : u.epoch < 2 ^ 63 - 1
    stood_room =
        let room = most in
        elim stood_early [
          | inl same ↦ (let epoch : s.epoch ≡ u.epoch = ap (λ (z : State). z.epoch) same in omega (arith, room, epoch))
          | inr less ↦ omega (arith, room, less)
        ]

    -- a disk that is no drive of the pool says no later state
    other_early : (q : ℕ) (copy : Copied) → q < f.disks.count → (f.identities q).copied ≡ Some copy → IsNoLater u copy
    other_early q copy low here = elim (stop.is.copies q copy low here) [
      | inl less ↦ inl (let up = stop.begun.epoch in let late = stood_after.epoch in omega (arith, less, up, late))
      | inr was ↦ elim (after_then f.state base u stop.begun stood_after).raised [
        | inl same ↦ inr (was ∙ sym same)
        | inr (inl later) ↦ inl (subst (λ (z : State). z.epoch < u.epoch) (sym was) later)
        | inr (inr most) ↦ absurd (let room = stood_room in omega (arith, room, most))
      ]
    ]

    no_later : (q : ℕ) (copy : Copied) → q < f.disks.count → (ids q).copied ≡ Some copy → IsNoLater u copy
    no_later q copy low here = elim (seated_or q) [
      | inl one ↦ elim (cases_Bool (is_current base one.0)) [
        | inl now ↦ stop.says.latest one.0 copy (few one.0 q one.1) (decoded_there one.0 q one.1 now copy here)
        | inr old ↦ inl (let less = former one.0 q copy one.1 old here in let up = stood_after.epoch in omega (arith, less, up))
      ]
      | inr none ↦ other_early q copy low (sym (ap (λ (z : Identity). z.copied) (stop.elsewhere.others q none low)) ∙ here)
    ]

    newest_now : newest f.disks ids ≡ Some u
    newest_now =
        newest_latest (λ d. (ids d).copied) f.disks.count leader.1 leader.2 u (ahead_of leader.0 leader.1 leader.3.seat).low leader.3.is leader.3.state no_later

    -- ---- logs

    seats_by : (v : State) → OnlyMarksSince base v → (p : ℕ) → is_current v p ≡ true → seat_of v f.disks ids p ≡ f.seats p
    seats_by v after p now = seats_now f v i (says_seats v after) p now

    -- the log slices of current places are those of the tables
    log_same : (p k : ℕ) → is_current u p ≡ true → logs_of f.disks (seat_of u f.disks ids) i (log_slice p) k ≡ c (log_slice p) k
    log_same p k now = by (f.seats p) refl
      where
        was : is_current base p ≡ true
        was = stood_after.current p now

        seats : ℕ → Option ℕ
        seats = seat_of u f.disks ids

        read : Option ℕ → List ℕ
        read o = option_map_or (λ e. option_map_or (λ (x : Extent). i e (x.first + k)) (log_extent (f.disks.sectors e)) []) o []

        of_place : place_of (log_slice p) ≡ p
        of_place = omega arith

        of_test : (b : Bool) → read (seats (place_of (log_slice p))) ≡ [] → (if b then read (seats (place_of (log_slice p))) else []) ≡ []
        of_test true none = none
        of_test false none = refl

        by : (o : Option ℕ) → f.seats p ≡ o → logs_of f.disks seats i (log_slice p) k ≡ c (log_slice p) k
        by None free =
            of_test ((slice_of (log_slice p) == 0) && nat_lt k log_sectors) (ap (λ q. read (seats q)) of_place ∙ ap read (seats_by u stood_after p now ∙ free))
            ∙ sym (reads_none p k (let nothing = stop.slices.unseated (log_slice p) (ap (is_current base) of_place ∙ was) (ap f.seats of_place ∙ free) in omega (arith, nothing)))
        by (Some d) has =
            let of_log : slice_of (log_slice p) ≡ 0 = omega arith in
            elim (cases_lt k log_sectors) [
              | inl low ↦
                  ap₂ (λ (n : ℕ) (b : Bool). if (n == 0) && b then read (seats (place_of (log_slice p))) else []) of_log (lt-ltb k log_sectors low)
                  ∙ ap (λ q. read (seats q)) of_place
                  ∙ ap read (seats_by u stood_after p now ∙ has)
                  ∙ ap (λ (b : Bool). option_map_or (λ (x : Extent). i d (x.first + k)) (if b then Some (record { first = state_sector; sectors = log_sectors }) else None) [])
                  (le-leb arrays_first (f.disks.sectors d) (room p d has was))
                  ∙ sym (reads p d has was k low)
              | inr past ↦
                  ap₂ (λ (n : ℕ) (b : Bool). if (n == 0) && b then read (seats (place_of (log_slice p))) else []) of_log (le-ltb k log_sectors past)
                  ∙ sym (reads_none p k (let size = many p d has was in omega (arith, past, size)))
            ]

    show : ShowLogs f.disks i c u s
    show = record {
      newest_is = newest_now;
      logs = λ p k now apart. log_same p k now;
      former = λ a p at now joins.
          same_below (sectors_of t) c (logs_of f.disks (seat_of u f.disks ids) i) s stop.says a p at joins (log_same p gate_sector now);
      seats = λ p stays. seats_by s stop.after p stays.now ∙ sym (seats_by u stood_after p stays.was);
      gates = λ p d joins seat long.
          sym (reads p d (sym (seats_by s stop.after p joins.now) ∙ seat) (stop.after.current p joins.now) gate_sector (omega arith));
    }

    -- the disks as they stand
    abbrev before : Standing
    before = standing_by f.disks i u

    stands : standing f.disks i ≡ Some before
    stands = stands_now f.disks i c (sectors_of t) s stop.says show

    targets : before.targets ≡ pending (deciding c) c
    targets = targets_are f.disks i c (sectors_of t) s stop.says show

    seated : seated_state before.targets u ≡ s
    seated = seated_is f.disks i c (sectors_of t) s stop.says show

    logs_sound : HasSoundLogs f.disks i
    logs_sound = says_sound f.disks i c (sectors_of t) s stop.says show

    -- where nothing is brought, a place whose drive says the state is current
    leads_now : (k q : ℕ) (copy : Copied) → s ≡ u → IsLeader k q copy → is_current s k ≡ true
    unfolding replayed
    leads_now k q copy same leads = elim (cases_Bool (is_current s k)) [ inl now ↦ now | inr past ↦ absurd (never past (look (pending (deciding held) held) (log_slice k) 0) refl) ]
      where
        held : Image
        held = c

        epoch : copy.state.epoch ≡ s.epoch
        epoch = ap (λ (z : State). z.epoch) (leads.state ∙ sym same)

        here : decoded (held (log_slice k) 0) ≡ Ok copy
        here = decoded_there k q leads.seat leads.current copy leads.is

        put_as : (o : Option (List ℕ)) → look (pending (deciding held) held) (log_slice k) 0 ≡ o → replayed (sectors_of t) held (log_slice k) 0 ≡ unwrap_or o (held (log_slice k) 0)
        put_as o is =
            ap (λ (b : Bool). if b then unwrap_or (look (pending (deciding held) held) (log_slice k) 0) (held (log_slice k) 0) else held (log_slice k) 0)
            (lt-ltb 0 (sectors_of t (log_slice k)) (let size = many k q leads.seat leads.current in omega (arith, size)))
            ∙ ap (λ (o : Option (List ℕ)). unwrap_or o (held (log_slice k) 0)) is

        never : is_current s k ≡ false → (o : Option (List ℕ)) → look (pending (deciding held) held) (log_slice k) 0 ≡ o → ⊥
        never past None none = (let less = stop.says.copies.earlier k copy (few k q leads.seat) past (ap decoded (put_as None none) ∙ here) in omega (arith, less, epoch))
        never past (Some w) some =
            (let own = stop.says.brings k w some in
            let less =
            stop.says.copies.earlier k (record { state = s; own = k }) (few k q leads.seat) past (ap decoded (put_as (Some w) some) ∙ own) in
            omega (arith, less))

    -- a drive of a current place says the state that stands
    leader_now : HasLeader f s u i
    leader_now = elim stop.says.next [
      | inl same ↦
          let one = leader in
          record {
            place = one.0;
            disk = one.1;
            own = one.2.own;
            current = leads_now one.0 one.1 one.2 same one.3;
            seat = one.3.seat;
            copy = one.3.is ∙ ap (λ (z : State). Some (record { state = z; own = one.2.own })) one.3.state;
            room = room one.0 one.1 one.3.seat one.3.current;
          }
      | inr brought ↦
          let p = brought.copy.0 in
          let copy = brought.copy.2 in
          let was = stop.after.current p brought.copy.1.now in
          let drive = decoded_seat p (record { state = u; own = copy.own }) was copy.copy in
          record {
            place = p;
            disk = drive.0;
            own = copy.own;
            current = brought.copy.1.now;
            seat = drive.1;
            copy = copied_is p drive.0 drive.1 was i ∙ ap result_ok copy.copy;
            room = room p drive.0 drive.1 was;
          }
    ]

    former_stands : (r q p : ℕ) → f.seats r ≡ Some q → is_current s r ≡ false → is_current s p ≡ true → stands_for s (ids q) ≡ Some p → epoch_at (ids q) < s.epoch
    former_stands r q p other past now stands = elim (cases_Bool (is_current base r)) [
      | inl before ↦
          let same : r ≡ p = some_same r p (sym (names r q other before s stop.after) ∙ stands) in
          absurd (both_ways (is_current s r) past (ap (is_current s) same ∙ now))
      | inr old ↦ of old (ids q).copied refl
    ]
      where
        of : is_current base r ≡ false → (o : Option Copied) → (ids q).copied ≡ o → option_map_or epoch_of o 0 < s.epoch
        of old None none = (let least = stop.is.epoch in let up = stop.begun.epoch in let late = stop.after.epoch in omega (arith, least, up, late))
        of old (Some copy) some = (let less = former r q copy other old some in let late = stop.after.epoch in omega (arith, less, late))

    pub stands_by : StandFor f t s i
    stands_by = record {
      stood = u;
      stands = stands;
      targets = targets;
      seated = seated;
      logs = logs_sound;
      lower = says_lower f.disks i c (sectors_of t) s stop.says show;
      early = stood_early;
      seats = λ p now. seats_by s stop.after p now;
      latest = no_later;
      former = former_stands;
      leader = leader_now;
    }

-- what contents say as they stand that a stop inside a call leaves
pub stopped_stands : (f : Found) (t : Slices) (base s : State) (i : Image) (call : IsStopped f t base s i) → StandFor f t s i
stopped_stands f t base s i call = stands_by f t base s i call.stop call.room call.former call.since

-- What contents say as they stand that a stop leaves in which a new drive joins, once the record counts that brings the state with it: the state that stands may be the one
-- before yet, and drives that went in the commit keep the copies that they had.
use Rattle.std.proofs.Common.{◌≡◌, ◌≢◌, ◌⊎◌, ℕ, ◌+◌, ◌-◌, ◌<◌, ◌≤◌, ◌^◌, ◌==◌, ◌&&◌, Bool, true, false, if◌then◌else◌, map, List, [], Option, Some, None, Ok, option_map, unwrap_or, refl, sym, ap, ap₂, subst, ◌∙◌, inl, inr, le-leb, le-ltb, lt-ltb, arith}
use Rattle.std.specs.List.{range_with_len}
use Rattle.std.specs.Option.{option_map_or}
use Rattle.std.specs.Result.{result_ok}
use Rattle.std.proofs.lemmas.Bool.{cases_Bool, cases_eq, cases_lt, ne_eqb}
use Rattle.std.proofs.lemmas.Option.{none-some}
use Rattle.rack.specs.Seen.{Image}
use Rattle.rack.specs.Targets.{look}
use Rattle.slice_rack.specs.Slices.{Slices, sectors_of}
use Rattle.slice_rack.specs.Sliced.{sliced}
use Rattle.pool_state.specs.declared.contents.Copied.{Copied}
use Rattle.pool_state.specs.declared.contents.State.{State}
use Rattle.pool_state.specs.Sector.{decoded}
use Rattle.array_image.specs.Arrays.{replayed}
use Rattle.array_image.specs.Foremost.{foremost}
use Rattle.array_image.specs.Places.{arrays_first, log_sectors, log_slice, place_of, slice_of, state_sector}
use Rattle.array_image.specs.Record.{gate_sector, pending}
use Rattle.array_image.specs.States.{copy_in, epoch_of, is_current, state_in}
use Rattle.array_core.proofs.Stripped.{some_same}
use Rattle.log_laws.specs.Kept.{IsNoLater}
use Rattle.log_laws.specs.Saying.{PlaceJoins}
use Rattle.log_laws.specs.Standing.{deciding}
use Rattle.log_laws.proofs.Places.{stays_apart}
use Rattle.raid_laws.specs.Book.{OnlyMarksSince}
use Rattle.pool_scan.proofs.Seated.{foremost_from}
use Rattle.pool_image.specs.Disks.{Identities, identities_of, newest, seat_of, stands_for}
use Rattle.pool_image.specs.Drives.{Found}
use Rattle.pool_image.specs.Replay.{Extent, log_extent, logs_of}
use Rattle.pool_rest.specs.Moments.{IsNoneOrBelow}
use Rattle.pool_rest.specs.SoundLogs.{ShowLogs}
use Rattle.pool_rest.proofs.SaidLogs.{same_below, says_lower, says_sound, seated_is, stands_now, targets_are}
use Rattle.pool_model.specs.InService.{epoch_at}
use Rattle.pool_model.specs.Laid.{GoesBy, IsFormerYet, ShowsJoining}
use Rattle.pool_model.specs.Stopped.{HasLeader, SaysStopped, StandFor}
use Rattle.pool_model.proofs.Found.{newest_latest, ok_of}
use Rattle.pool_model.proofs.Logs.{there_in}
use Rattle.pool_model.proofs.Outset.{no_later_epoch}
use Rattle.pool_model.proofs.Stopped.{copied_is, decoded_seat, decoded_there, few, lies, many, nothing_decodes, on_place, reads, reads_none, room, seated_or}

module _ (h : Found) (u : Slices) (v next s : State) (place : ℕ) (i : Image) (stop : SaysStopped h u next s i) (shows : ShowsJoining h u v next s place i) where
  abbrev held : Image
  held = sliced u i

  abbrev ids : Identities
  ids = identities_of h.disks i

  -- the state that stands
  abbrev q : State
  q = stop.says.stood

  seat_current : (p d : ℕ) → h.seats p ≡ Some d → is_current next p ≡ true
  seat_current p d seat = subst (λ (z : State). is_current z p ≡ true) shows.state (stop.is.seated p d seat).current

  -- a drive of another place that was current has its own copy, of no earlier state than the one before
  record HasCopy (p d : ℕ) : Type 0 where
    copy : Copied
    block : decoded (held (log_slice p) 0) ≡ Ok copy
    since : v.epoch ≤ copy.state.epoch

  copy_there : (p d : ℕ) → p ≢ place → h.seats p ≡ Some d → is_current v p ≡ true → HasCopy p d
  copy_there p d other seat was =
      let now = shows.current p was in
      let small = few h u next s i stop p d seat in
      let there = there_in h u i stop.inside p d (on_place h u next s i stop p d seat now) (lies h u next s i stop p d seat now) in
      elim ((shows.joining p small there).own (ne_eqb p place other) was) [
        | inl one ↦ record { copy = one.copy; block = one.is; since = one.after.epoch }
        | inr one ↦ record { copy = one.copy; block = one.is; since = (let up = shows.later in let from = one.after.epoch in omega (arith, up, from)) }
      ]

  -- the state that stands is no earlier
  stands_late : v.epoch ≤ q.epoch
  stands_late =
      let p = shows.someone.0 in
      let drive = shows.present p (shows.current p shows.someone.2) in
      let one = copy_there p drive.0 shows.someone.1 drive.1 shows.someone.2 in
      let from = one.since in
      let most = no_later_epoch q one.copy (stop.says.latest p one.copy (few h u next s i stop p drive.0 drive.1) one.block) in
      omega (arith, from, most)

  -- a place that says it is current by the state with the drive, and it came of that one or of the one before
  record Leads (k : ℕ) (copy : Copied) : Type 0 where
    disk : ℕ
    seat : h.seats k ≡ Some disk
    current : is_current next k ≡ true
    is : (ids disk).copied ≡ Some copy
    after : OnlyMarksSince v copy.state ⊎ OnlyMarksSince next copy.state

  leads : (k : ℕ) (copy : Copied) → k < 16 → copy_in held k ≡ Some copy → copy.state ≡ q → Leads k copy
  leads k copy low here state = elim (cases_lt 0 (sectors_of u (log_slice k))) [
    | inr none ↦ absurd (nothing_decodes copy (ap decoded (sym (reads_none h u next s i stop k 0 none)) ∙ block))
    | inl has ↦ elim (cases_Bool (is_current v k)) [
      | inl was ↦ elim (cases_Bool (k == place)) [
        | inl new ↦
            let now = shows.current k was in
            let one = (shows.joining k low has).joins copy (inl new) now block in
            of now (inr (subst (λ (z : Copied). OnlyMarksSince next z.state) (same one.copy one.is) one.after))
        | inr other ↦ elim ((shows.joining k low has).own other was) [
          | inl one ↦ of (shows.current k was) (inl (subst (λ (z : Copied). OnlyMarksSince v z.state) (same one.copy one.is) one.after))
          | inr one ↦ of (shows.current k was) (inr (subst (λ (z : Copied). OnlyMarksSince next z.state) (same one.copy one.is) one.after))
        ]
      ]
      | inr old ↦ elim (cases_Bool (is_current next k)) [
        | inl now ↦
            let one = (shows.joining k low has).joins copy (inr old) now block in
            of now (inr (subst (λ (z : Copied). OnlyMarksSince next z.state) (same one.copy one.is) one.after))
        | inr past ↦
            let less = (shows.joining k low has).former copy old past block in
            let epoch : copy.state.epoch ≡ q.epoch = ap (λ (z : State). z.epoch) state in
            let late = stands_late in
            absurd (omega (arith, less, epoch, late))
      ]
    ]
  ]
    where
      block : decoded (held (log_slice k) 0) ≡ Ok copy
      block = ok_of (decoded (held (log_slice k) 0)) copy here

      same : (other : Copied) → decoded (held (log_slice k) 0) ≡ Ok other → other ≡ copy
      same other is = some_same other copy (sym (ap result_ok is) ∙ ap result_ok block)

      of : is_current next k ≡ true → OnlyMarksSince v copy.state ⊎ OnlyMarksSince next copy.state → Leads k copy
      of now after =
          let drive = shows.present k now in
          record {
            disk = drive.0;
            seat = drive.1;
            current = now;
            is = copied_is h u next s i stop k drive.0 drive.1 now i ∙ ap result_ok block;
            after = after;
          }

  leader : (k : ℕ) × (copy : Copied) × (k < 16) × (copy.state ≡ q) × Leads k copy
  unfolding state_in
  leader = of (foremost epoch_of (map (copy_in held) (range_with_len 0 16))) refl stop.says.stood_is
    where
      of : (o : Option Copied) → foremost epoch_of (map (copy_in held) (range_with_len 0 16)) ≡ o → option_map (λ copy. copy.state) o ≡ Some q
          → (k : ℕ) × (copy : Copied) × (k < 16) × (copy.state ≡ q) × Leads k copy
      of None none at = absurd (none-some q at)
      of (Some copy) some at =
          let from = foremost_from epoch_of (copy_in held) 0 16 copy some in
          let low : from.0 < 16 = (let most = from.1 in omega (arith, most)) in
          let state : copy.state ≡ q = some_same copy.state q at in
          (from.0, copy, low, state, leads from.0 copy low from.2 state)

  stood_after : OnlyMarksSince v q ⊎ OnlyMarksSince next q
  stood_after = subst (λ (z : State). OnlyMarksSince v z ⊎ OnlyMarksSince next z) leader.3 leader.4.after

  -- a place that is current by it is so by the state with the drive
  stood_current : (p : ℕ) → is_current q p ≡ true → is_current next p ≡ true
  stood_current p now = elim stood_after [ inl after ↦ shows.current p (after.current p now) | inr after ↦ after.current p now ]

  stood_early : (s ≡ q) ⊎ (q.epoch < s.epoch)
  stood_early = elim stop.says.next [ inl same ↦ inl same | inr brought ↦ inr brought.later ]

  stood_room : q.epoch < 2 ^ 63 - 1
  stood_room =
      let room = shows.room in
      elim stood_early [
        | inl same ↦ (let epoch : s.epoch ≡ q.epoch = ap (λ (z : State). z.epoch) same in omega (arith, room, epoch))
        | inr less ↦ omega (arith, room, less)
      ]

  -- ---- the newest state

  other_early : (copy : Copied) → IsNoLater v copy → IsNoLater q copy
  other_early copy is = elim stood_after [
    | inr after ↦
        inl (let most = no_later_epoch v copy is in let up = shows.later in let from = after.epoch in omega (arith, most, up, from))
    | inl after ↦ elim is [
      | inl less ↦ inl (let from = after.epoch in omega (arith, less, from))
      | inr was ↦ elim after.raised [
        | inl same ↦ inr (was ∙ sym same)
        | inr (inl later) ↦ inl (subst (λ (z : State). z.epoch < q.epoch) (sym was) later)
        | inr (inr most) ↦ absurd (let room = stood_room in omega (arith, room, most))
      ]
    ]
  ]

  no_later : (d : ℕ) (copy : Copied) → d < h.disks.count → (ids d).copied ≡ Some copy → IsNoLater q copy
  no_later d copy low here = elim (seated_or h u next s i stop d) [
    | inl one ↦
        stop.says.latest one.0 copy (few h u next s i stop one.0 d one.1)
        (decoded_there h u next s i stop one.0 d one.1 (seat_current one.0 d one.1) copy here)
    | inr none ↦ other_early copy (shows.strangers d copy none low here)
  ]

  newest_now : newest h.disks ids ≡ Some q
  newest_now =
      newest_latest (λ d. (ids d).copied) h.disks.count leader.4.disk leader.1 q (stop.is.seated leader.0 leader.4.disk leader.4.seat).low leader.4.is leader.3 no_later

  -- ---- logs

  -- by the state that stands a place has the drive that it has, or it is the one that has its former drive yet
  stood_goes : (p : ℕ) → is_current q p ≡ true → GoesBy v next place q p ⊎ ((p ≡ place) × IsFormerYet h.disks u q s place i)
  stood_goes p now = elim stood_after [
    | inr late ↦ inl (inr late)
    | inl after ↦ elim (cases_eq p place) [
      | inr other ↦ inl (inl (after, other))
      | inl same ↦ elim (shows.former q stop.says.stood_is after (subst (λ k. is_current q k ≡ true) same now)) [
        | inl late ↦ inl (inr late)
        | inr yet ↦ inr (same, yet)
      ]
    ]
  ]

  seats_by : (r : State) (p : ℕ) → GoesBy v next place r p → is_current next p ≡ true → is_current r p ≡ true → seat_of r h.disks ids p ≡ h.seats p
  seats_by r p goes still now = let drive = shows.present p still in shows.seats r p drive.0 goes now drive.1 ∙ sym drive.1

  seats_stood : (p : ℕ) → is_current q p ≡ true → GoesBy v next place q p → seat_of q h.disks ids p ≡ h.seats p
  seats_stood p now goes = seats_by q p goes (stood_current p now) now

  seats_then : (p : ℕ) → is_current s p ≡ true → seat_of s h.disks ids p ≡ h.seats p
  seats_then p now = seats_by s p (inr stop.after) (stop.after.current p now) now

  -- the log slices of current places are those of the tables
  log_same : (p k : ℕ) → is_current q p ≡ true → GoesBy v next place q p → logs_of h.disks (seat_of q h.disks ids) i (log_slice p) k ≡ held (log_slice p) k
  log_same p k now goes = let drive = shows.present p was in at drive.0 drive.1
    where
      was : is_current next p ≡ true
      was = stood_current p now

      seats : ℕ → Option ℕ
      seats = seat_of q h.disks ids

      read : Option ℕ → List ℕ
      read o = option_map_or (λ e. option_map_or (λ (x : Extent). i e (x.first + k)) (log_extent (h.disks.sectors e)) []) o []

      of_place : place_of (log_slice p) ≡ p
      of_place = omega arith

      at : (d : ℕ) → h.seats p ≡ Some d → logs_of h.disks (seat_of q h.disks ids) i (log_slice p) k ≡ held (log_slice p) k
      at d has =
          let of_log : slice_of (log_slice p) ≡ 0 = omega arith in
          elim (cases_lt k log_sectors) [
            | inl low ↦
                ap₂ (λ (n : ℕ) (b : Bool). if (n == 0) && b then read (seats (place_of (log_slice p))) else []) of_log (lt-ltb k log_sectors low)
                ∙ ap (λ z. read (seats z)) of_place
                ∙ ap read (seats_stood p now goes ∙ has)
                ∙ ap (λ (b : Bool). option_map_or (λ (x : Extent). i d (x.first + k)) (if b then Some (record { first = state_sector; sectors = log_sectors }) else None) [])
                (le-leb arrays_first (h.disks.sectors d) (room h u next s i stop p d has was))
                ∙ sym (reads h u next s i stop p d has was k low)
            | inr past ↦
                ap₂ (λ (n : ℕ) (b : Bool). if (n == 0) && b then read (seats (place_of (log_slice p))) else []) of_log (le-ltb k log_sectors past)
                ∙ sym (reads_none h u next s i stop p k (let size = many h u next s i stop p d has was in omega (arith, past, size)))
          ]

  show : ShowLogs h.disks i held q s
  show = record {
    newest_is = newest_now;
    logs = λ p k now apart. elim (stood_goes p now) [
      | inl goes ↦ log_same p k now goes
      | inr yet ↦ absurd (apart (subst (PlaceJoins q s) (sym yet.0) yet.1.joins))
    ];
    former = λ a p at now joins. elim (stood_goes p now) [
      | inl goes ↦
          same_below (sectors_of u) held (logs_of h.disks (seat_of q h.disks ids) i) s stop.says a p at joins (log_same p gate_sector now goes)
      | inr yet ↦
          subst (λ k. IsNoneOrBelow a.gate.number (logs_of h.disks (seat_of q h.disks ids) i (log_slice k) gate_sector)) (sym yet.0) (yet.1.lower a at)
    ];
    seats = λ p stays. elim (stood_goes p stays.was) [
      | inl goes ↦ seats_then p stays.now ∙ sym (seats_stood p stays.was goes)
      | inr yet ↦ absurd (stays_apart q s p stays (subst (PlaceJoins q s) (sym yet.0) yet.1.joins))
    ];
    gates = λ p d joins seat long.
        sym (reads h u next s i stop p d (sym (seats_then p joins.now) ∙ seat) (stop.after.current p joins.now) gate_sector (omega arith));
  }

  -- ---- drives whose places aren't current

  -- A copy there is earlier: none of the state that is brought is pending for it.
  past_low : (k : ℕ) (copy : Copied) → k < 16 → is_current s k ≡ false → 0 < sectors_of u (log_slice k) → decoded (held (log_slice k) 0) ≡ Ok copy → copy.state.epoch < s.epoch
  unfolding replayed
  past_low k copy low past has here = by (look (pending (deciding held) held) (log_slice k) 0) refl
    where
      put_as : (o : Option (List ℕ)) → look (pending (deciding held) held) (log_slice k) 0 ≡ o → replayed (sectors_of u) held (log_slice k) 0 ≡ unwrap_or o (held (log_slice k) 0)
      put_as o is =
          ap (λ (b : Bool). if b then unwrap_or (look (pending (deciding held) held) (log_slice k) 0) (held (log_slice k) 0) else held (log_slice k) 0)
          (lt-ltb 0 (sectors_of u (log_slice k)) has)
          ∙ ap (λ (o : Option (List ℕ)). unwrap_or o (held (log_slice k) 0)) is

      by : (o : Option (List ℕ)) → look (pending (deciding held) held) (log_slice k) 0 ≡ o → copy.state.epoch < s.epoch
      by None none = stop.says.copies.earlier k copy low past (ap decoded (put_as None none) ∙ here)
      by (Some w) some =
          (let own = stop.says.brings k w some in
          let less = stop.says.copies.earlier k (record { state = s; own = k }) low past (ap decoded (put_as (Some w) some) ∙ own) in
          absurd (omega (arith, less)))

  there : (p d : ℕ) → h.seats p ≡ Some d → 0 < sectors_of u (log_slice p)
  there p d seat =
      let now = seat_current p d seat in
      there_in h u i stop.inside p d (on_place h u next s i stop p d seat now) (lies h u next s i stop p d seat now)

  former_low : (r x p : ℕ) → h.seats r ≡ Some x → is_current s r ≡ false → is_current s p ≡ true → stands_for s (ids x) ≡ Some p → epoch_at (ids x) < s.epoch
  former_low r x p seat past now stands = of (ids x).copied refl
    where
      of : (o : Option Copied) → (ids x).copied ≡ o → option_map_or epoch_of o 0 < s.epoch
      of None none = (let least = stop.is.epoch in let up = stop.begun.epoch in let late = stop.after.epoch in omega (arith, least, up, late))
      of (Some copy) some =
          past_low r copy (few h u next s i stop r x seat) past (there r x seat)
          (decoded_there h u next s i stop r x seat (seat_current r x seat) copy some)

  -- a drive of a place that is current by the state that is brought says the one that stands
  leader_now : HasLeader h s q i
  leader_now = elim stop.says.next [
    | inl same ↦
        let one = leader.4 in
        record {
          place = leader.0;
          disk = one.disk;
          own = leader.1.own;
          current = elim (cases_Bool (is_current s leader.0)) [
            | inl now ↦ now
            | inr past ↦
                let less =
                past_low leader.0 leader.1 leader.2 past (there leader.0 one.disk one.seat)
                (decoded_there h u next s i stop leader.0 one.disk one.seat one.current leader.1 one.is) in
                let epoch : leader.1.state.epoch ≡ s.epoch = ap (λ (z : State). z.epoch) (leader.3 ∙ sym same) in
                absurd (omega (arith, less, epoch))
          ];
          seat = one.seat;
          copy = one.is ∙ ap (λ (z : State). Some (record { state = z; own = leader.1.own })) leader.3;
          room = room h u next s i stop leader.0 one.disk one.seat one.current;
        }
    | inr brought ↦
        let p = brought.copy.0 in
        let copy = brought.copy.2 in
        let was = stop.after.current p brought.copy.1.now in
        let drive = decoded_seat h u next s i stop p (record { state = q; own = copy.own }) was copy.copy in
        record {
          place = p;
          disk = drive.0;
          own = copy.own;
          current = brought.copy.1.now;
          seat = drive.1;
          copy = copied_is h u next s i stop p drive.0 drive.1 was i ∙ ap result_ok copy.copy;
          room = room h u next s i stop p drive.0 drive.1 was;
        }
  ]

  pub joining_stands : StandFor h u s i
  joining_stands = record {
    stood = q;
    stands = stands_now h.disks i held (sectors_of u) s stop.says show;
    targets = targets_are h.disks i held (sectors_of u) s stop.says show;
    seated = seated_is h.disks i held (sectors_of u) s stop.says show;
    logs = says_sound h.disks i held (sectors_of u) s stop.says show;
    lower = says_lower h.disks i held (sectors_of u) s stop.says show;
    early = stood_early;
    seats = seats_then;
    latest = no_later;
    former = former_low;
    leader = leader_now;
  }

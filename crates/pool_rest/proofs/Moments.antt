-- The replayed contents of the drives stay at each moment of a replay.
use Rattle.std.proofs.Common.{◌≡◌, ◌⊎◌, ℕ, ◌+◌, ◌<◌, ◌≤◌, ◌==◌, Bool, true, false, nat_le, nat_lt, ltb-true, if◌then◌else◌, List, [], filter, Option, Some, None, unwrap_or, inl, inr, refl, sym, ap, subst, ◌∙◌, lt-ltb, leb-true, eq-eqb, arith}
use Rattle.std.specs.Option.{option_map_or}
use Rattle.std.specs.List.{range_with_len}
use Rattle.std.proofs.lemmas.Bool.{and_from, and_parts, both_ways, cases_lt}
use Rattle.rack.specs.Values.{MayLeave}
use Rattle.rack.specs.Seen.{Image, RackView, IsLive, IsPick}
use Rattle.rack.specs.Moments.{Leaves}
use Rattle.rack.specs.Joins.{leaves_then, leaves_weaker}
use Rattle.rack.specs.Targets.{look, put}
use Rattle.slice_rack.specs.Slices.{Slices, disk_of, first_of, seat_of, sectors_of}
use Rattle.slice_rack.specs.Sliced.{sliced, slices_of}
use Rattle.slice_rack.specs.Laws.{disk_below, sector_below}
use Rattle.gpt_table.specs.Changes.{the_table}
use Rattle.pool_state.specs.declared.contents.State.{State}
use Rattle.array_image.specs.Arrays.{replayed}
use Rattle.array_image.specs.Left.{reading}
use Rattle.array_image.specs.Places.{arrays_first, log_sectors, log_slice, place_of, slice_of}
use Rattle.array_image.specs.Record.{gate_sector}
use Rattle.array_image.specs.States.{is_current, state_in}
use Rattle.array_image.proofs.Frames.{state_same}
use Rattle.array_image.proofs.Replays.{SameLogs, replayed_same}
use Rattle.pool_image.specs.Alike.{drive_gate}
use Rattle.pool_image.specs.Replay.{extent_by}
use Rattle.log_laws.specs.View.{LogView, is_left, left_of, names}
use Rattle.log_laws.specs.Commits.{Stands}
use Rattle.log_laws.specs.Opening.{CanReplay, Replays}
use Rattle.log_laws.specs.Saying.{PlaceJoins, PlaceStays}
use Rattle.log_laws.specs.Standing.{IsLogPart}
use Rattle.commit_log.proofs.Amid.{replayed_as}
use Rattle.commit_log.proofs.Fewer.{filter_names, names_filter}
use Rattle.log_laws.proofs.Places.{does_stay, is_stays, stays_is, stays_or_joins}
use Rattle.commit_log.proofs.Replayable.{pending_named}
use Rattle.commit_log.proofs.Story.{logs_named}
use Rattle.pool_scan.specs.declared.Known.{Known}
use Rattle.pool_scan.specs.Choosing.{seat_by}
use Rattle.pool_scan.proofs.Seated.{seat_by_stands}
use Rattle.pool_scan.specs.Scanning.{AllTold, IsUnfaulted, now_in}
use Rattle.pool_rest.specs.Moments.{AreOfDrives, BringsState, GivesNow, IsGateBelow, KeepsReplayed}
use Rattle.pool_rest.specs.Resting.{AreSingle}
use Rattle.pool_rest.specs.Standing.{FindsAll, IsLaid, IsLasting}
use Rattle.pool_rest.proofs.Fewer.{at_fewer, finds_fewer}
use Rattle.pool_rest.proofs.Joining.{joining_can_replay}
use Rattle.pool_rest.proofs.Sliced.{SameAt, replayed_outside, replayed_sized, same_lies, same_sliced, sliced_inside, sliced_outside, stands_amid}
use Rattle.pool_rest.proofs.OnDrives.{OnDrives, log_first, past_none, slice_lies, sliced_place}

-- ---- one replay

module _ {x w y : RackView} {known : List Known} {s : State} {t v : Slices} {on unread closing lost : List ℕ} {l : LogView}
    (parts : OnDrives x w y known s t v on unread closing lost l) (free : IsUnfaulted x y) (told : AllTold x) (lasts : IsLasting x) (single : AreSingle x)
    (u : Slices) (of : AreOfDrives x (seat_by s known) u) where
  -- ---- the slices of the replay are those of the drives

  seats : (p : ℕ) → p < 16 → seat_of v p ≡ seat_of u p
  seats p few = parts.cut.seats p ∙ parts.laid.seats p few ∙ sym (of.seated p few)

  same_at : (k : ℕ) → k < 272 → (slice_of k ≡ 0) ⊎ (0 < sectors_of u k) → SameAt u v k
  same_at k few some = by (seat_of u (place_of k)) refl
    where
      seat : seat_of v (place_of k) ≡ seat_of u (place_of k)
      seat = seats (place_of k) (omega (arith, few))

      disk : disk_of v k ≡ disk_of u k
      disk = ap (λ (o : Option ℕ). unwrap_or o 0) seat

      by : (o : Option ℕ) → seat_of u (place_of k) ≡ o → SameAt u v k
      by None none =
          let here = of.orderly.seated k none in
          let there = parts.orderly.seated k (seat ∙ none) in
          record { sectors = there ∙ sym here; first = λ more. absurd (omega (arith, more, here)); disk = λ more. disk }
      by (Some d) is =
          same_lies u v k (extent_by (x.sectors d) (the_table (x.sectors d) (now_in x d)) (slice_of k))
          (of.lies k d few is some)
          (slice_lies parts free k d few (seat ∙ is) (told d (of.inside.seats (place_of k) d is))) disk

  logs_same : (p : ℕ) → SameAt u v (log_slice p)
  logs_same p = elim (cases_lt p 16) [
    | inl few ↦ same_at (log_slice p) (omega (arith, few)) (inl (omega arith))
    | inr past ↦
        let here = of.beyond (log_slice p) (omega (arith, past)) in
        let there = past_none parts (log_slice p) (omega (arith, past)) in
        record { sectors = there ∙ sym here; first = λ more. absurd (omega (arith, more, here)); disk = λ more. absurd (omega (arith, more, here)) }
  ]

  pub same_logs : (i : Image) → SameLogs (sliced u i) (sliced v i)
  same_logs i p j = same_sliced u v i (log_slice p) j (logs_same p)

  few_of : (k j : ℕ) → j < sectors_of u k → k < 272
  few_of k j low = elim (cases_lt k 272) [ inl few ↦ few | inr past ↦ (let none = of.beyond k past in absurd (omega (arith, low, none))) ]

  -- replayed, they give the same
  move : (i : Image) (k j : ℕ) → j < sectors_of u k → replayed (sectors_of u) (sliced u i) k j ≡ replayed (sectors_of v) (sliced v i) k j
  move i k j low =
      let same = same_at k (few_of k j low) (inr (omega (arith, low))) in
      replayed_sized (sectors_of u) (sectors_of v) (sliced u i) k j (sym same.sectors)
      ∙ replayed_same (sectors_of v) (sliced u i) (sliced v i) k j (same_logs i) (same_sliced u v i k j same)

  -- ---- what the drives hold when the replay begins

  told_w : AllTold w
  told_w d there = parts.reads.stays.told d (told d (subst (λ n. d < n) parts.reads.stays.disks there))

  unspent_w : (d j : ℕ) → w.spent d j ≡ false
  unspent_w d j = parts.reads.stays.lasts lasts.lasting d j (lasts.unspent d j)

  pub live_w : (k j : ℕ) → j < sectors_of v k → IsLive (slices_of v w) (slices_of v w) k j
  live_w k j low = record {
    disk = elim (cases_lt k 272) [ inl few ↦ few | inr past ↦ (let none = past_none parts k past in absurd (omega (arith, low, none))) ];
    sector = low;
    is_told = told_w (disk_of v k) (disk_below v w k j parts.orderly parts.inside low);
    unspent = unspent_w (disk_of v k) (first_of v k + j);
  }

  live_x : (d j : ℕ) → d < w.disks → j < w.sectors d → IsLive x w d j
  live_x d j disk sector = record {
    disk = disk;
    sector = sector;
    is_told = told d (subst (λ n. d < n) parts.reads.stays.disks disk);
    unspent = unspent_w d j;
  }

  -- each sector has one value, which no read has changed
  pub one_value : (d j : ℕ) (b : List ℕ) → d < w.disks → j < w.sectors d → MayLeave (w.held d j) b → b ≡ (x.held d j).current
  one_value d j b disk sector may =
      single d j (subst (λ n. d < n) parts.reads.stays.disks disk) (subst (λ n. j < n) (parts.reads.stays.sectors d) sector) b
      ((parts.reads.keeps.held d j (live_x d j disk sector)).within b may)

  now_w : (d j : ℕ) → d < w.disks → j < w.sectors d → (w.held d j).current ≡ (x.held d j).current
  now_w d j disk sector = (parts.reads.keeps.held d j (live_x d j disk sector)).current

  -- the contents that are replayed
  abbrev held : Image
  held = sliced v (now_in x)

  stands_held : (c : Image) → Stands (slices_of v w) c → (k j : ℕ) → j < sectors_of v k → c k j ≡ held k j
  stands_held c stands k j low =
      one_value (disk_of v k) (first_of v k + j) (c k j) (disk_below v w k j parts.orderly parts.inside low) (sector_below v w k j parts.inside low)
      (stands.picks k j (live_w k j low))
      ∙ sym (sliced_inside v (now_in x) k j low)

  -- images that a stop leaves before anything is written
  early : (i : Image) → ((d j : ℕ) → d < w.disks → j < w.sectors d → i d j ≡ (x.held d j).current) → Stands (slices_of v w) (sliced v i)
  early i same = record {
    picks = λ k j live.
        let disk = disk_below v w k j parts.orderly parts.inside live.sector in
        let sector = sector_below v w k j parts.inside live.sector in
        inl (sliced_inside v i k j live.sector ∙ same (disk_of v k) (first_of v k + j) disk sector ∙ sym (now_w (disk_of v k) (first_of v k + j) disk sector));
    inside = λ p j past. sliced_outside v i (log_slice p) j past;
  }

  module _ (can : CanReplay l (slices_of v w)) where
    -- what replaying gives
    abbrev pub given : Image
    given = put (sectors_of v) l.pending held

    before_gives : (c : Image) → Stands (slices_of v w) c → (k j : ℕ) → j < sectors_of v k → replayed (sectors_of v) c k j ≡ given k j
    before_gives c stands k j low =
        replayed_as (slices_of v w) c l.pending k j (can.same c (stands_amid l.pending (slices_of v w) c stands))
        ∙ ap (λ b. if nat_lt j (sectors_of v k) then unwrap_or (look l.pending k j) b else b) (stands_held c stands k j low)

    pub amid_gives : (c : Image) → Replays (slices_of v w) c → (k j : ℕ) → (IsLogPart k j → ⊥) → j < sectors_of v k → replayed (sectors_of v) c k j ≡ given k j
    amid_gives c replays k j part low = replays.same k j part ∙ before_gives replays.before replays.stands k j low

    -- what a stop leaves after it
    after_stands : (i : Image) → ((k j : ℕ) → j < sectors_of v k → MayLeave (y.held (disk_of v k) (first_of v k + j)) (i (disk_of v k) (first_of v k + j)))
        → Stands (slices_of v y) (sliced v i)
    after_stands i may = record {
      picks = λ k j live. subst (MayLeave (y.held (disk_of v k) (first_of v k + j))) (sym (sliced_inside v i k j live.sector)) (may k j live.sector);
      inside = λ p j past. sliced_outside v i (log_slice p) j past;
    }

    now_gives : (k j : ℕ) → (IsLogPart k j → ⊥) → j < sectors_of v k → replayed (sectors_of v) (sliced v (now_in y)) k j ≡ given k j
    now_gives = amid_gives (sliced v (now_in y)) (parts.call.after can (sliced v (now_in y)) (after_stands (now_in y) (λ k j low. inl refl)))

    gives : (i : Image) → ((k j : ℕ) → (IsLogPart k j → ⊥) → j < sectors_of v k → replayed (sectors_of v) (sliced v i) k j ≡ given k j) → GivesNow u y i
    gives i is k j part = elim (cases_lt j (sectors_of u k)) [
      | inr past ↦
          replayed_outside (sectors_of u) (sliced u i) k j past ∙ sliced_outside u i k j past
          ∙ sym (replayed_outside (sectors_of u) (sliced u (now_in y)) k j past ∙ sliced_outside u (now_in y) k j past)
      | inl low ↦
          let size = (same_at k (few_of k j low) (inr (omega (arith, low)))).sectors in
          let there : j < sectors_of v k = omega (arith, low, size) in
          move i k j low ∙ is k j part there ∙ sym (now_gives k j part there) ∙ sym (move (now_in y) k j low)
    ]

    early_gives : (i : Image) → ((d j : ℕ) → d < w.disks → j < w.sectors d → i d j ≡ (x.held d j).current) → GivesNow u y i
    early_gives i same = gives i (λ k j part low. before_gives (sliced v i) (early i same) k j low)

    picked : (i : Image) → ((d j : ℕ) → d < w.disks → j < w.sectors d → MayLeave (x.held d j) (i d j)) → GivesNow u y i
    picked i may =
        early_gives i (λ d j disk sector.
        single d j (subst (λ n. d < n) parts.reads.stays.disks disk) (subst (λ n. j < n) (parts.reads.stays.sectors d) sector) (i d j) (may d j disk sector))

    during : x.traced → Leaves x y (GivesNow u y)
    during traced =
        let stops = parts.apart.stops (parts.reads.stays.traced traced) in
        leaves_then (GivesNow u y)
        (leaves_weaker (IsPick x w x.held) (GivesNow u y) (λ i pick. picked i (λ d j disk sector. pick d j (live_x d j disk sector))) (parts.reads.keeps.stops traced))
        (record {
          later = stops.later;
          kept = stops.kept;
          past = stops.past;
          new = λ k i since until stop.
              gives i (amid_gives (sliced v i)
              ((parts.call.stops (parts.reads.stays.traced traced) can).new k (sliced v i) since until (i, stop, λ d j. refl) (λ p j past. sliced_outside v i (log_slice p) j past)));
        })

    pub replay_keeps : KeepsReplayed x y u
    replay_keeps = record {
      first = λ i pick.
          picked i (λ d j disk sector.
          pick d j (record {
            disk = subst (λ n. d < n) parts.reads.stays.disks disk;
            sector = subst (λ n. j < n) (parts.reads.stays.sectors d) sector;
            is_told = told d (subst (λ n. d < n) parts.reads.stays.disks disk);
            unspent = lasts.unspent d j;
          }));
      during = during;
      last = λ i pick.
          gives i (amid_gives (sliced v i) (parts.call.after can (sliced v i)
          (after_stands i (λ k j low.
          let disk = disk_below v w k j parts.orderly parts.inside low in
          let sector = sector_below v w k j parts.inside low in
          let stays = parts.apart.stays in
          pick (disk_of v k) (first_of v k + j) (record {
            disk = subst (λ n. disk_of v k < n) (sym stays.disks) disk;
            sector = subst (λ n. first_of v k + j < n) (sym (stays.sectors (disk_of v k))) sector;
            is_told = stays.told (disk_of v k) (told_w (disk_of v k) disk);
            unspent = stays.lasts (parts.reads.stays.lasting lasts.lasting) (disk_of v k) (first_of v k + j) (unspent_w (disk_of v k) (first_of v k + j));
          })))));
    }

  -- ---- the record that was found

  module _ (s0 : State) (t0 : Slices) (on0 : List ℕ) (is_pending : Bool) (laid : IsLaid x known s0 t0 on0) (finds : FindsAll x t0 on0 l is_pending None)
      (brings : BringsState x known s0 s l on0 (reading (slices_of t0 x))) (state : state_in (sliced u (now_in x)) ≡ Some s0) where
    -- a place that is replayed has its disk, and is current
    seat_is : (p : ℕ) → 0 < sectors_of v (log_slice p) → (p < 16) × (seat_by s known p ≡ Some (disk_of v (log_slice p)))
    seat_is p some =
        let place : place_of (log_slice p) ≡ p = omega arith in
        let at = sliced_place parts (log_slice p) some in
        let few = at.0 in
        (omega (arith, few, place), ap (seat_by s known) (sym place) ∙ at.1)

    current_is : (p : ℕ) → 0 < sectors_of v (log_slice p) → is_current s p ≡ true
    current_is p some = (seat_by_stands s known p (disk_of v (log_slice p)) (seat_is p some).1).2

    there : (p : ℕ) → names on p ≡ true → 0 < sectors_of v (log_slice p)
    there p named =
        let test = and_parts (nat_lt p 16) (nat_lt 0 (sectors_of t (log_slice p))) (sym (parts.laid.places p) ∙ named) in
        subst (λ n. 0 < n) (sym (parts.cut.sectors (log_slice p) (omega arith))) (ltb-true 0 (sectors_of t (log_slice p)) test.1)

    -- those that stay
    abbrev both : List ℕ
    both = filter (does_stay s0 s) on

    was : (p : ℕ) → names both p ≡ true → PlaceStays s0 s p × (0 < sectors_of v (log_slice p))
    was p named = (let of = names_filter (does_stay s0 s) on p named in (stays_is s0 s p of.0, there p of.1))

    named_there : (p : ℕ) → PlaceStays s0 s p → 0 < sectors_of v (log_slice p) → names both p ≡ true
    named_there p stays some =
        filter_names (does_stay s0 s) on p (is_stays s0 s p stays)
        (parts.laid.places p
        ∙ and_from (nat_lt p 16) (nat_lt 0 (sectors_of t (log_slice p))) (lt-ltb p 16 (seat_is p some).0)
        (lt-ltb 0 (sectors_of t (log_slice p)) (subst (λ n. 0 < n) (parts.cut.sectors (log_slice p) (omega arith)) some)))

    log_size : (p : ℕ) → p < 16 → sectors_of v (log_slice p) ≡ option_map_or (λ d. if nat_le arrays_first (x.sectors d) then log_sectors else 0) (seat_by s known p) 0
    log_size p few =
        let place : place_of (log_slice p) ≡ p = omega arith in
        let slice : slice_of (log_slice p) ≡ 0 = omega arith in
        parts.cut.sectors (log_slice p) slice ∙ parts.laid.sectors (log_slice p) (omega (arith, few, place))
        ∙ ap (λ b. if b then option_map_or (λ d. if nat_le arrays_first (x.sectors d) then log_sectors else 0) (seat_by s known (place_of (log_slice p))) 0 else 0) (eq-eqb (slice_of (log_slice p)) 0 slice)
        ∙ ap (λ q. option_map_or (λ d. if nat_le arrays_first (x.sectors d) then log_sectors else 0) (seat_by s known q) 0) place

    same_size : (p : ℕ) → p < 16 → PlaceStays s0 s p → sectors_of v (log_slice p) ≡ sectors_of t0 (log_slice p)
    same_size p few stays =
        let place : place_of (log_slice p) ≡ p = omega arith in
        let low : place_of (log_slice p) < 16 = omega (arith, few, place) in
        parts.cut.sectors (log_slice p) (omega arith) ∙ parts.laid.sectors (log_slice p) low
        ∙ ap (λ o. if slice_of (log_slice p) == 0 then option_map_or (λ d. if nat_le arrays_first (x.sectors d) then log_sectors else 0) o 0 else 0)
        (ap (seat_by s known) place ∙ brings.seats p stays ∙ ap (seat_by s0 known) (sym place))
        ∙ sym (laid.sectors (log_slice p) (omega (arith, few)))

    kept_log : (p : ℕ) → names both p ≡ true → SameAt t0 v (log_slice p)
    kept_log p named =
        let before = was p named in
        let few = (seat_is p before.1).0 in
        let size = same_size p few before.0 in
        let place : place_of (log_slice p) ≡ p = omega arith in
        let low : place_of (log_slice p) < 16 = omega (arith, few, place) in
        record {
          sectors = size;
          first = λ more. log_first parts (log_slice p) (omega arith) (omega (arith, more, size)) ∙ sym (laid.firsts (log_slice p) more);
          disk = λ more.
              ap (λ (o : Option ℕ). unwrap_or o 0)
              (parts.cut.seats (place_of (log_slice p)) ∙ parts.laid.seats (place_of (log_slice p)) low
              ∙ (ap (seat_by s known) place ∙ brings.seats p before.0 ∙ ap (seat_by s0 known) (sym place)) ∙ sym (laid.seats (place_of (log_slice p)) low));
        }

    fewer : (p : ℕ) → names both p ≡ true → names on0 p ≡ true
    fewer p named =
        let before = was p named in
        let some = before.1 in
        let size = (kept_log p named).sectors in
        laid.places p
        ∙ and_from (is_current s0 p) (nat_lt 0 (sectors_of t0 (log_slice p))) before.0.was
        (lt-ltb 0 (sectors_of t0 (log_slice p)) (omega (arith, some, size)))

    few_named : (p : ℕ) → names on0 p ≡ true → p < 16
    few_named p named = (logs_named (sectors_of t0) on0 p laid.whole named).0

    -- the slices read as before
    read_x : (k j : ℕ) → reading (slices_of v w) k j ≡ sliced v (now_in x) k j
    read_x k j = elim (cases_lt j (sectors_of v k)) [
      | inr past ↦ sliced_outside v (now_in w) k j past ∙ sym (sliced_outside v (now_in x) k j past)
      | inl low ↦
          sliced_inside v (now_in w) k j low
          ∙ now_w (disk_of v k) (first_of v k + j) (disk_below v w k j parts.orderly parts.inside low) (sector_below v w k j parts.inside low)
          ∙ sym (sliced_inside v (now_in x) k j low)
    ]

    agree : (p j : ℕ) → names both p ≡ true → 0 < j → j < log_sectors → reading (slices_of v w) (log_slice p) j ≡ reading (slices_of t0 x) (log_slice p) j
    agree p j named some below = read_x (log_slice p) j ∙ sym (same_sliced t0 v (now_in x) (log_slice p) j (kept_log p named))

    -- the place that the record is read from is replayed too
    at_kept : names both brings.at.place ≡ true
    at_kept =
        let p = brings.at.place in
        let at = pending_named (left_of on0 []) (reading (slices_of t0 x)) brings.at brings.source in
        let named : names on0 p ≡ true = (and_parts (names on0 p) true (names_filter (is_left on0 []) (range_with_len 0 16) p at.0).0).0 in
        let log = logs_named (sectors_of t0) on0 p laid.whole named in
        let size = same_size p log.0 brings.left in
        let full = log.1 in
        named_there p brings.left (omega (arith, size, full))

    -- a drive that joins has a lower gate
    gate_joins : (p : ℕ) → names both p ≡ false → 0 < sectors_of v (log_slice p)
        → IsGateBelow brings.at.gate.number (reading (slices_of v w) (log_slice p) gate_sector)
    gate_joins p out some =
        let seat = seat_is p some in
        let d = disk_of v (log_slice p) in
        let room = by (nat_le arrays_first (x.sectors d)) refl (log_size p seat.0 ∙ ap (λ o. option_map_or (λ d. if nat_le arrays_first (x.sectors d) then log_sectors else 0) o 0) seat.1) in
        let first = log_first parts (log_slice p) (omega arith) some in
        let gate : first_of v (log_slice p) + gate_sector ≡ drive_gate = omega (arith, first) in
        subst (IsGateBelow brings.at.gate.number)
        (sym (read_x (log_slice p) gate_sector
        ∙ sliced_inside v (now_in x) (log_slice p) gate_sector (let size = room.1 in omega (arith, size))
        ∙ ap (now_in x d) gate))
        (brings.joins p d joins seat.1 room.0)
      where
        joins : PlaceJoins s0 s p
        joins = elim (stays_or_joins s0 s p (current_is p some)) [
          | inl stays ↦ absurd (both_ways (names both p) out (named_there p stays some))
          | inr new ↦ new
        ]

        by : (b : Bool) → nat_le arrays_first (x.sectors (disk_of v (log_slice p))) ≡ b
            → sectors_of v (log_slice p) ≡ (if nat_le arrays_first (x.sectors (disk_of v (log_slice p))) then log_sectors else 0)
            → (arrays_first ≤ x.sectors (disk_of v (log_slice p))) × (sectors_of v (log_slice p) ≡ log_sectors)
        by true room is = (leb-true arrays_first (x.sectors (disk_of v (log_slice p))) room, is ∙ ap (λ b. if b then log_sectors else 0) room)
        by false short is = absurd (let none = is ∙ ap (λ b. if b then log_sectors else 0) short in omega (arith, some, none))

    pub source_there : 0 < sectors_of v (log_slice brings.at.place)
    source_there = (was brings.at.place at_kept).1

    -- so it may be replayed, whichever state stands meanwhile
    pub brought_can : CanReplay l (slices_of v w)
    brought_can =
        joining_can_replay l both s0 s (slices_of v w) is_pending brings.at
        (parts.reads.stays.lasting lasts.lasting) (λ k j low. live_w k j low)
        (λ p j low b may.
        let disk = disk_below v w (log_slice p) j parts.orderly parts.inside low in
        let sector = sector_below v w (log_slice p) j parts.inside low in
        one_value (disk_of v (log_slice p)) (first_of v (log_slice p) + j) b disk sector may ∙ sym (now_w (disk_of v (log_slice p)) (first_of v (log_slice p) + j) disk sector))
        (state_same (reading (slices_of v w)) (sliced u (now_in x)) (λ p. read_x (log_slice p) 0 ∙ sym (same_logs (now_in x) p 0)) ∙ state)
        (λ p named. (seat_is p (was p named).1).0)
        (λ p named. ((was p named).0.was, (was p named).0.now))
        gate_joins
        (finds_fewer l on0 both (reading (slices_of t0 x)) (reading (slices_of v w)) is_pending brings.at few_named fewer agree brings.source at_kept finds)
        (at_fewer l on0 both (reading (slices_of t0 x)) (reading (slices_of v w)) is_pending brings.at few_named fewer agree brings.source at_kept finds)
        at_kept brings.next brings.copies

    pub brought_keeps : KeepsReplayed x y u
    brought_keeps = replay_keeps brought_can

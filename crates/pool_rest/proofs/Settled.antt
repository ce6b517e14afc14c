-- Nothing is pending once a record is replayed.
--
-- Let `before` be how the disks stood, with a pending record, and `s` the state that the record brings, or without one that which
-- stood. Let the logs be sound (`IsSoundLog`), and the replay write all targets and close the gate of each place that stays and has a
-- log slice, with the record's number.
--
-- 1. Targets land on the state's sector of a disk, or in its arrays' part. So the disks' tables stay, and a disk keeps its copy or gets
--    one of `s` and of the place whose disk it is by `s`. Such a disk stands for that place as before: by its old id it was the drive of
--    this place in the list of `s`, so its new copy names the same id.
-- 2. So each place has the same candidates by `s`. Only the epoch of the disk that was taken has risen, to that of `s`, which is the
--    highest: each place has the disk by `s` that it had.
-- 3. `s` is the newest state then. Where it stood before, its copies displace none of a higher epoch. Where it is later, the place that
--    the record was read from stays, so it has one disk by both states, where a copy of `s` lands.
-- 4. So the gates that decide are those of the places of `s`. One that stays has its disk of before, and a closed gate of the record's
--    number. One that joins has no gate, or one of no greater number. As the place that the record was read from stays, the record's number
--    is the greatest, and not all of its gates are open: nothing is pending.
-- 5. All these gates are well formed, so no log is damaged.
--
-- Without the last premise of `IsSoundLog` 4 fails: a place that joins, whose gate is open with a greater number
-- than the record's, makes another record pending. Sound images don't exclude it: their rules say nothing of gates.
use Rattle.std.proofs.Common.{◌≡◌, ◌⊎◌, ℕ, ◌+◌, ◌<◌, ◌≤◌, ◌==◌, ◌&&◌, ◌||◌, not, Bool, true, false, nat_le, if◌then◌else◌, is_none, List, [], length, map, Option, Some, None, refl, sym, ap, subst, ◌∙◌, inl, inr, arith, eq-eqb, option_map, leb-true, le-leb}
use Rattle.std.specs.Option.{option_map_or, option_and_then}
use Rattle.std.specs.Result.{result_ok}
use Rattle.std.specs.List.{list_all, range_with_len}
use Rattle.std.proofs.lemmas.Bool.{both_ways}
use Rattle.std.proofs.lemmas.Option.{none-some, cond_some}
use Rattle.rack.specs.Seen.{Image}
use Rattle.pool_state.specs.declared.contents.Copied.{Copied}
use Rattle.pool_state.specs.declared.contents.State.{State}
use Rattle.array_image.specs.Foremost.{foremost}
use Rattle.array_image.specs.Places.{log_slice, state_sector, log_sectors, arrays_first}
use Rattle.array_image.specs.Record.{Gate, GateAt, gate_sector, gate_of, gate_in, gates_in, is_there, is_open_if_of, pending_at, damaged_log}
use Rattle.array_image.specs.States.{is_current, current_places}
use Rattle.pool_image.specs.Disks.{Disks, identities_of, newest, seat_of}
use Rattle.pool_image.specs.Replay.{Extent, Standing, standing_by}
use Rattle.pool_image.specs.Alike.{drive_gate, is_bad_block}
use Rattle.pool_image.proofs.Identities.{seat_inside}
use Rattle.log_laws.specs.Saying.{PlaceJoins, PlaceStays}
use Rattle.log_laws.specs.View.{names}
use Rattle.commit_log.specs.Scans.{number_of}
use Rattle.commit_log.proofs.Amid.{no_gate_in_nothing}
use Rattle.commit_log.proofs.Deciding.{gate_at, all_at, pending_is_decisive}
use Rattle.log_laws.proofs.Counting.{few_drives, is_listed}
use Rattle.commit_log.proofs.Fewer.{names_filter, filter_names, current_of_all, pending_most}
use Rattle.log_laws.proofs.Naming.{names_range}
use Rattle.log_laws.proofs.Places.{stays_or_joins, stays_same}
use Rattle.commit_log.proofs.Replayable.{pending_named}
use Rattle.commit_log.proofs.Undamaged.{whole_from}
use Rattle.commit_log.proofs.Replaying.{pending_sound}
use Rattle.pool_rest.specs.Resting.{replayed_on}
use Rattle.pool_rest.specs.SoundLogs.{IsSoundLog}
use Rattle.pool_rest.proofs.BroughtCopies.{seats_still, newest_still, newest_later}
use Rattle.pool_rest.proofs.LaterCopies.{newest_latest}
use Rattle.pool_rest.proofs.SameMeaning.{log_read, log_gate, seat_gate}

-- ---- gates that decide

-- a gate is closed, or of a number up to this one
abbrev pub IsOver : ℕ → Gate → Type 0
IsOver number g = (g.is_open ≡ false) ⊎ (g.number ≤ number)

-- a pending record's gates of its number are open
pub open_all : (c : Image) (ps : List ℕ) (a : GateAt) → pending_at ps c ≡ Some a → list_all (is_open_if_of a.gate.number) (map (gate_at c) ps) ≡ true
unfolding pending_at
open_all c ps a is = of_foremost (pending_is_decisive c ps a is) is
  where
    of_foremost : foremost number_of (map (gate_at c) ps) ≡ Some a
        → option_and_then (λ x. if list_all (is_open_if_of x.gate.number) (gates_in ps c) then Some x else None) (foremost number_of (map (gate_at c) ps)) ≡ Some a
        → list_all (is_open_if_of a.gate.number) (map (gate_at c) ps) ≡ true
    of_foremost front at =
        (cond_some (list_all (is_open_if_of a.gate.number) (gates_in ps c)) a a
        (sym (ap (option_and_then (λ x. if list_all (is_open_if_of x.gate.number) (gates_in ps c) then Some x else None)) front) ∙ at)).0

-- where one gate is closed with a number that no open one exceeds, nothing is pending
pub none_open : (c : Image) (ps : List ℕ) (number q : ℕ) → names ps q ≡ true → gate_in c q ≡ Some (record { is_open = false; number = number })
    → ((p : ℕ) (g : Gate) → names ps p ≡ true → gate_in c p ≡ Some g → IsOver number g)
    → pending_at ps c ≡ None
none_open c ps number q named closed over = of_pending (pending_at ps c) refl
  where
    opened : (number : ℕ) (g : Gate) → (not (g.number == number) || g.is_open) ≡ true → g.number ≡ number → g.is_open ≡ true
    opened number g is same = by (g.number == number) (eq-eqb g.number number same) is
      where
        by : (b : Bool) → b ≡ true → (not b || g.is_open) ≡ true → g.is_open ≡ true
        by true eq at = at
        by false eq at = absurd (both_ways false refl eq)

    gate_here : (p : ℕ) (g : Gate) → gate_in c p ≡ Some g → gate_at c p ≡ Some (record { place = p; gate = g })
    gate_here p g is = ap (option_map (λ g. record { place = p; gate = g })) is

    is_closed : (a : GateAt) → pending_at ps c ≡ Some a → a.gate.number ≡ number → ⊥
    is_closed a is same =
        let test : is_open_if_of a.gate.number (gate_at c q) ≡ true = all_at (is_open_if_of a.gate.number) (gate_at c) ps q (open_all c ps a is) named in
        both_ways false refl
        (opened a.gate.number (record { is_open = false; number = number }) (sym (ap (is_open_if_of a.gate.number) (gate_here q _ closed)) ∙ test) (sym same))

    of_pending : (o : Option GateAt) → pending_at ps c ≡ o → pending_at ps c ≡ None
    of_pending None is = is
    of_pending (Some a) is =
        let at = pending_named ps c a is in
        let most : number ≤ a.gate.number = pending_most c ps a is q (record { place = q; gate = record { is_open = false; number = number } }) named (gate_here q _ closed) in
        elim (over a.place a.gate at.0 at.1) [
          | inl shut ↦
              absurd (both_ways a.gate.is_open shut
              (opened a.gate.number a.gate
              (sym (ap (is_open_if_of a.gate.number) (gate_here a.place a.gate at.1)) ∙ all_at (is_open_if_of a.gate.number) (gate_at c) ps a.place (open_all c ps a is) at.0)
              refl))
          | inr low ↦ absurd (is_closed a is (omega (arith, low, most)))
        ]

-- ---- what the disks hold

module _ (disks : Disks) (c e : Image) (st s : State)
    (newest_before : newest disks (identities_of disks c) ≡ Some st)
    (sound : IsSoundLog disks c (standing_by disks c st) s)
    (few_before : length st.drives.items ≤ 16)
    (late : (p : ℕ) → seat_of s disks (identities_of disks e) p ≡ seat_of s disks (identities_of disks (replayed_on disks s (standing_by disks c st).targets c)) p)
    (newest_late : newest disks (identities_of disks e) ≡ newest disks (identities_of disks (replayed_on disks s (standing_by disks c st).targets c)))
    (a : GateAt) (source : pending_at (current_places st) (standing_by disks c st).logs ≡ Some a) where
  abbrev before : Standing
  before = standing_by disks c st

  low : (d : ℕ) (copy : Copied) → d < disks.count → (identities_of disks c d).copied ≡ Some copy → copy.state.epoch ≤ s.epoch
  low d copy there is =
      let most = newest_latest disks (identities_of disks c) st d copy newest_before there is in
      elim sound.next [
        | inl same ↦ (let epoch = ap (λ (u : State). u.epoch) same in omega (arith, most, epoch))
        | inr next ↦ (let later = next.later in omega (arith, most, later))
      ]

  pub seats_same : (p : ℕ) → seat_of s disks (identities_of disks e) p ≡ seat_of s disks (identities_of disks c) p
  seats_same p =
      late p
      ∙ seats_still disks c s before.targets (pending_sound (current_places st) before.logs).valid (pending_sound (current_places st) before.logs).apart sound.copies low p

  -- the disk of a place that the record is read from
  read_from : (gate_of (log_gate disks c (seat_of st disks (identities_of disks c) a.place)) ≡ Some a.gate)
      → (d : ℕ) × (seat_of st disks (identities_of disks c) a.place ≡ Some d) × (arrays_first ≤ disks.sectors d)
  read_from is = of_seat (seat_of st disks (identities_of disks c) a.place) refl is
    where
      of_room : (d : ℕ) (b : Bool) → nat_le arrays_first (disks.sectors d) ≡ b
          → gate_of (option_map_or (λ (x : Extent). c d (x.first + gate_sector)) (if b then Some (record { first = state_sector; sectors = log_sectors }) else None) []) ≡ Some a.gate
          → arrays_first ≤ disks.sectors d
      of_room d true room at = leb-true arrays_first (disks.sectors d) room
      of_room d false room at = absurd (none-some a.gate (sym no_gate_in_nothing ∙ at))

      of_seat : (o : Option ℕ) → seat_of st disks (identities_of disks c) a.place ≡ o → gate_of (log_gate disks c o) ≡ Some a.gate
          → (d : ℕ) × (seat_of st disks (identities_of disks c) a.place ≡ Some d) × (arrays_first ≤ disks.sectors d)
      of_seat None seat at = absurd (none-some a.gate (sym no_gate_in_nothing ∙ at))
      of_seat (Some d) seat at = (d, seat, of_room d (nat_le arrays_first (disks.sectors d)) refl at)

  source_named : (names (current_places st) a.place ≡ true) × (gate_in before.logs a.place ≡ Some a.gate)
  source_named = pending_named (current_places st) before.logs a source

  source_disk : (d : ℕ) × (seat_of st disks (identities_of disks c) a.place ≡ Some d) × (arrays_first ≤ disks.sectors d)
  source_disk = read_from (ap gate_of (sym (log_read disks st (identities_of disks c) c a.place)) ∙ source_named.1)

  current_of : (u : State) (p : ℕ) → length u.drives.items ≤ 16 → names (current_places u) p ≡ true → is_current u p ≡ true
  current_of u p few named = (names_filter (is_current u) (range_with_len 0 16) p (sym (ap (λ ps. names ps p) (current_of_all u few)) ∙ named)).0

  named_of : (u : State) (p : ℕ) → length u.drives.items ≤ 16 → is_current u p ≡ true → names (current_places u) p ≡ true
  named_of u p few current =
      ap (λ ps. names ps p) (current_of_all u few)
      ∙ filter_names (is_current u) (range_with_len 0 16) p current (names_range 0 16 p (omega arith) (let listed = is_listed u p current in omega (arith, listed, few)))

  source_current : is_current st a.place ≡ true
  source_current = current_of st a.place few_before source_named.0

  source_stays : PlaceStays st s a.place
  source_stays =
      elim sound.next [
        | inl same ↦ stays_same st s a.place same source_current
        | inr next ↦ next.source a source
      ]

  source_seat : seat_of s disks (identities_of disks c) a.place ≡ Some source_disk.0
  source_seat = sound.seats a.place source_stays ∙ source_disk.1

  -- its gate is the one that the record is read from
  pub source_gate : (d : ℕ) × (seat_of s disks (identities_of disks c) a.place ≡ Some d) × (gate_of (c d drive_gate) ≡ Some a.gate)
  source_gate = (
    source_disk.0,
    source_seat,
    ap gate_of (sym (seat_gate disks st (identities_of disks c) c a.place source_disk.0 source_disk.1 source_disk.2)) ∙ source_named.1,
  )

  -- the state that the record brings is the newest then
  pub newest_now : newest disks (identities_of disks e) ≡ Some s
  newest_now =
      newest_late
      ∙ elim sound.next [
        | inl same ↦
            newest_still disks c s before.targets (pending_sound (current_places st) before.logs).valid (pending_sound (current_places st) before.logs).apart sound.copies low
            (newest_before ∙ ap Some (sym same))
        | inr next ↦
            let copy = next.copy a source in
            newest_later disks c s before.targets (pending_sound (current_places st) before.logs).valid (pending_sound (current_places st) before.logs).apart sound.copies low
            st newest_before next.later a.place source_disk.0 copy.0 (seat_inside st disks (identities_of disks c) a.place source_disk.0 source_disk.1) source_seat source_disk.2 copy.1
      ]

  few : length s.drives.items ≤ 16
  few =
      elim sound.next [
        | inl same ↦ subst (λ (u : State). length u.drives.items ≤ 16) (sym same) few_before
        | inr next ↦ (let copy = next.copy a source in few_drives copy.0 (record { state = s; own = a.place }) (ap result_ok (sound.copies a.place copy.0 copy.1)))
      ]

  module _ (number : ℕ) (numbered : a.gate.number ≡ number)
      (shut : (p d : ℕ) → is_current st p ≡ true → is_current s p ≡ true → seat_of st disks (identities_of disks c) p ≡ Some d → seat_of s disks (identities_of disks c) p ≡ Some d
      → arrays_first ≤ disks.sectors d → gate_of (e d drive_gate) ≡ Some (record { is_open = false; number = number }))
      (kept : (d : ℕ) → d < disks.count → arrays_first ≤ disks.sectors d
      → (e d drive_gate ≡ c d drive_gate) ⊎ ((g : Gate) × (gate_of (e d drive_gate) ≡ Some g) × (g.is_open ≡ false))) where
    abbrev after : Standing
    after = standing_by disks e s

    -- what the gate of a current place is
    abbrev IsPast : List ℕ → Type 0
    IsPast block = (is_bad_block block ≡ false) × ((g : Gate) → gate_of block ≡ Some g → IsOver number g)

    nothing_past : IsPast []
    nothing_past = (refl, λ g is. absurd (none-some g (sym no_gate_in_nothing ∙ is)))

    closed_past : (block : List ℕ) (g : Gate) → gate_of block ≡ Some g → g.is_open ≡ false → IsPast block
    closed_past block g is shut = (
      ap (λ (o : Option Gate). is_there block && is_none o) is ∙ and_false (is_there block),
      λ h at. inl (ap (λ (k : Gate). k.is_open) (some_gate h g (sym at ∙ is)) ∙ shut),
    )
      where
        and_false : (b : Bool) → (b && false) ≡ false
        and_false true = refl
        and_false false = refl

        some_gate : (h k : Gate) → Some h ≡ Some k → h ≡ k
        some_gate h k same = (cc)

    gate_past : (p : ℕ) → is_current s p ≡ true → IsPast (after.logs (log_slice p) gate_sector)
    gate_past p current =
        subst IsPast (sym (log_read disks s (identities_of disks e) e p ∙ ap (log_gate disks e) (seats_same p)))
        (of_seat (seat_of s disks (identities_of disks c) p) refl)
      where
        of_state : (d : ℕ) → seat_of s disks (identities_of disks c) p ≡ Some d → arrays_first ≤ disks.sectors d
            → PlaceStays st s p ⊎ PlaceJoins st s p → IsPast (e d drive_gate)
        of_state d seat room (inl stays) =
            closed_past (e d drive_gate) (record { is_open = false; number = number })
            (shut p d stays.was current (sym (sound.seats p stays) ∙ seat) seat room) refl
        of_state d seat room (inr joins) =
            elim (kept d (seat_inside s disks (identities_of disks c) p d seat) room) [
              | inr closed ↦ closed_past (e d drive_gate) closed.0 closed.1 closed.2
              | inl same ↦
                  let up = sound.joining a p d source joins seat room in
                  subst IsPast (sym same) (up.formed, λ g is. inr (let most = up.low g is in omega (arith, most, numbered)))
            ]

        of_room : (d : ℕ) → seat_of s disks (identities_of disks c) p ≡ Some d → (b : Bool) → nat_le arrays_first (disks.sectors d) ≡ b
            → IsPast (option_map_or (λ (x : Extent). e d (x.first + gate_sector)) (if b then Some (record { first = state_sector; sectors = log_sectors }) else None) [])
        of_room d seat true room = of_state d seat (leb-true arrays_first (disks.sectors d) room) (stays_or_joins st s p current)
        of_room d seat false room = nothing_past

        of_seat : (o : Option ℕ) → seat_of s disks (identities_of disks c) p ≡ o → IsPast (log_gate disks e o)
        of_seat None seat = nothing_past
        of_seat (Some d) seat = of_room d seat (nat_le arrays_first (disks.sectors d)) refl

    source_closed : gate_in after.logs a.place ≡ Some (record { is_open = false; number = number })
    source_closed =
        ap gate_of (log_read disks s (identities_of disks e) e a.place ∙ ap (log_gate disks e) (seats_same a.place ∙ source_seat)
        ∙ ap (λ b. option_map_or (λ (x : Extent). e source_disk.0 (x.first + gate_sector)) (if b then Some (record { first = state_sector; sectors = log_sectors }) else None) [])
        (le-leb arrays_first (disks.sectors source_disk.0) source_disk.2))
        ∙ shut a.place source_disk.0 source_current source_stays.now source_disk.1 source_seat source_disk.2

    pub none_now : pending_at (current_places s) after.logs ≡ None
    none_now =
        none_open after.logs (current_places s) number a.place (named_of s a.place few source_stays.now) source_closed
        (λ p g named is. (gate_past p (current_of s p few named)).1 g is)

    pub whole_now : damaged_log (current_places s) after.logs ≡ None
    whole_now =
        whole_from after.logs (current_places s) (λ p named. (gate_past p (current_of s p few named)).0)
        (λ x is. absurd (none-some x (sym none_now ∙ is)))

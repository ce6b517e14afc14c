-- The payloads of a pending record are sectors of the disks: so each sector has 512 bytes after a replay where each had before it.
use Rattle.std.proofs.Common.{◌≡◌, ℕ, zero, suc, ◌+◌, ◌<◌, ◌≤◌, ◌==◌, ◌%◌, ◌&&◌, Bool, true, false, nat_le, nat_lt, if◌then◌else◌, List, [], ◌∷◌, map, codes, bytes_eq, replicate, Option, Some, None, unwrap_or, refl, sym, ap, subst, ◌∙◌, inl, inr, arith, eq-eqb, lt-ltb, leb-true}
use Rattle.std.specs.Option.{option_or, option_map_or, option_and_then}
use Rattle.std.specs.List.{list_all, list_any, filter_map, cons_option, range_with_len}
use Rattle.std.proofs.lemmas.Bool.{cases_eq, and_parts}
use Rattle.std.proofs.lemmas.Option.{none-some, cond_some}
use Rattle.rack.specs.Values.{IsSector, IsSingle}
use Rattle.rack.specs.Seen.{Image, RackView}
use Rattle.rack.specs.Targets.{Target, is_at, look}
use Rattle.shr_base.specs.Blocks.{number_at, bytes_at, put_at}
use Rattle.shr_base.specs.Crc.{crc32_of}
use Rattle.array_image.specs.Places.{place_of, slice_of, log_slice, state_sector, log_sectors, arrays_first}
use Rattle.array_image.specs.Record.{Gate, GateAt, gate_sector, gate_of, gate_in, half_of, log_bytes, target_at, is_target, are_apart, is_bad_gate, record_of, record_in, pending_at, pending}
use Rattle.array_image.specs.States.{current_places}
use Rattle.pool_image.specs.Disks.{Disks, Identities, Seats, disks_of, identities_of, seat_of}
use Rattle.pool_image.specs.Replay.{Extent, Standing, log_extent, extent_by, logs_of, standing, brought_state, landed, written}
use Rattle.pool_image.specs.Alike.{drive_gate}
use Rattle.pool_image.proofs.Identities.{seat_inside}
use Rattle.pool_image.proofs.Rested.{stood_by}
use Rattle.commit_log.proofs.Amid.{slice_of_log, place_of_log, no_gate_in_nothing}
use Rattle.commit_log.proofs.Replayable.{pending_named}
use Rattle.pool_scan.specs.Scanning.{now_in}
use Rattle.pool_rest.specs.Resting.{AreSectors, AreSingle, AreSteady, RestsSo}

-- each target has the bytes of a sector
abbrev AreSized : List Target → Type 0
AreSized [] = Unit {0}
AreSized (x ∷ xs) = IsSector x.bytes × AreSized xs

-- ---- lists of targets

sized_map : (f : ℕ → Target) (m n : ℕ) → ((k : ℕ) → k < m + n → IsSector (f k).bytes) → AreSized (map f (range_with_len m n))
sized_map f m zero each = tt
sized_map f m (suc n) each = (each m (omega arith), sized_map f (m + 1) n (λ k below. each k (omega (arith, below))))

sized_filtered : (f : Target → Option Target) (xs : List Target) → ((z w : Target) → f z ≡ Some w → w.bytes ≡ z.bytes) → AreSized xs → AreSized (filter_map f xs)
sized_filtered f [] same sized = tt
sized_filtered f (x ∷ xs) same sized = of_first (f x) refl (sized_filtered f xs same sized.1)
  where
    of_first : (o : Option Target) → f x ≡ o → AreSized (filter_map f xs) → AreSized (cons_option o (filter_map f xs))
    of_first None is others = others
    of_first (Some w) is others = (subst IsSector (sym (same x w is)) sized.0, others)

sized_look : (xs : List Target) (d t : ℕ) (v : List ℕ) → AreSized xs → look xs d t ≡ Some v → IsSector v
unfolding look
sized_look [] d t v sized is = absurd (none-some v is)
sized_look (x ∷ xs) d t v sized is = of_others (look xs d t) (λ last. sized_look xs d t v sized.1 last) is
  where
    some_same : (u w : List ℕ) → Some u ≡ Some w → u ≡ w
    some_same u w same = (cc)

    of_test : (b : Bool) → (if b then Some x.bytes else None) ≡ Some v → IsSector v
    of_test true at = subst IsSector (some_same x.bytes v at) sized.0
    of_test false at = absurd (none-some v at)

    of_others : (o : Option (List ℕ)) → (o ≡ Some v → IsSector v) → option_or o (if is_at d t x then Some x.bytes else None) ≡ Some v → IsSector v
    of_others None last at = of_test (is_at d t x) at
    of_others (Some u) last at = last at

-- ---- the payloads of a record

half_most : (b : Bool) → (if b then 8 else 4100) ≤ 4100
half_most true = omega arith
half_most false = omega arith

sized_if : (word numbered some summed sound : Bool) (count : ℕ) (f : ℕ → Target) (xs : List Target)
    → ((k : ℕ) → k < 3996 → IsSector (f k).bytes)
    → (if word && (numbered && (some && (nat_le count 3996 && (summed && sound)))) then Some (map f (range_with_len 0 count)) else None) ≡ Some xs
    → AreSized xs
sized_if word numbered some summed sound count f xs each is =
    let found = cond_some (word && (numbered && (some && (nat_le count 3996 && (summed && sound))))) (map f (range_with_len 0 count)) xs is in
    let counted = (and_parts numbered _ (and_parts word _ found.0).1).1 in
    let few : count ≤ 3996 = leb-true count 3996 (and_parts (nat_le count 3996) _ (and_parts some _ counted).1).0 in
    subst AreSized found.1 (sized_map f 0 count (λ k below. each k (omega (arith, below, few))))

-- they are sectors of the slice that it is read from
record_sized : (number : ℕ) (slice : ℕ → List ℕ) (xs : List Target) → ((u : ℕ) → u < log_sectors → IsSector (slice u)) → record_of number slice ≡ Some xs → AreSized xs
unfolding record_of
record_sized number slice xs each is =
    let head : List ℕ = log_bytes slice (half_of number) 96 in
    let count : ℕ = number_at 12 4 head in
    let half : half_of number ≤ 4100 = half_most (number % 2 == 0) in
    sized_if (bytes_eq (bytes_at 0 8 head) (codes "SHRBODY1")) (number_at 16 8 head == number) (nat_le 1 count)
    (number_at 8 4 head == crc32_of (put_at 8 4 (replicate 4 0) (log_bytes slice (half_of number) (96 + count))))
    (list_all is_target (map (target_at slice (half_of number) head) (range_with_len 0 count)) && are_apart (map (target_at slice (half_of number) head) (range_with_len 0 count)))
    count (target_at slice (half_of number) head) xs (λ k below. each (half_of number + 96 + k) (omega (arith, half, below))) is

-- so are those of the pending one, where the slices of places with a gate have sectors
pending_sized : (ps : List ℕ) (c : Image) → ((p u : ℕ) (g : Gate) → gate_in c p ≡ Some g → u < log_sectors → IsSector (c (log_slice p) u)) → AreSized (pending ps c)
unfolding pending
pending_sized ps c each =
    of_record (list_any (is_bad_gate c) ps) (option_and_then (λ a. record_in c a.place a.gate.number) (pending_at ps c)) (of_gate (pending_at ps c) refl)
  where
    of_gate : (o : Option GateAt) → pending_at ps c ≡ o → (xs : List Target) → option_and_then (λ a. record_in c a.place a.gate.number) o ≡ Some xs → AreSized xs
    of_gate None at xs is = absurd (none-some xs is)
    of_gate (Some a) at xs is =
        record_sized a.gate.number (c (log_slice a.place)) xs (λ u below. each a.place u a.gate (pending_named ps c a at).1 below) is

    of_record : (bad : Bool) (o : Option (List Target)) → ((xs : List Target) → o ≡ Some xs → AreSized xs) → AreSized (if bad then [] else unwrap_or o [])
    of_record true o has = tt
    of_record false None has = tt
    of_record false (Some xs) has = has xs refl

-- ---- on the drives

-- a place with a gate has a disk with its whole log slice
logs_sized : (disks : Disks) (seats : Seats) (c : Image) → ((p d : ℕ) → seats p ≡ Some d → d < disks.count)
    → ((d t : ℕ) → d < disks.count → t < disks.sectors d → IsSector (c d t))
    → (p u : ℕ) (g : Gate) → gate_in (logs_of disks seats c) p ≡ Some g → u < log_sectors → IsSector (logs_of disks seats c (log_slice p) u)
logs_sized disks seats c inside sized p u g gate below =
    subst IsSector (sym (at u below)) (of_seat (seats p) refl (sym (ap gate_of (at gate_sector (omega arith))) ∙ gate))
  where
    shown : Option ℕ → ℕ → List ℕ
    shown o t = option_map_or (λ d. option_map_or (λ (e : Extent). c d (e.first + t)) (log_extent (disks.sectors d)) []) o []

    at : (t : ℕ) → t < log_sectors → logs_of disks seats c (log_slice p) t ≡ shown (seats p) t
    at t low =
        ap (λ b. if b && nat_lt t log_sectors then shown (seats (place_of (log_slice p))) t else []) (eq-eqb (slice_of (log_slice p)) 0 (slice_of_log p))
        ∙ ap (λ b. if b then shown (seats (place_of (log_slice p))) t else []) (lt-ltb t log_sectors low)
        ∙ ap (λ q. shown (seats q) t) (place_of_log p)

    of_room : (d : ℕ) → d < disks.count → (b : Bool) → nat_le arrays_first (disks.sectors d) ≡ b
        → gate_of (option_map_or (λ (e : Extent). c d (e.first + gate_sector)) (if b then Some (record { first = state_sector; sectors = log_sectors }) else None) []) ≡ Some g
        → IsSector (option_map_or (λ (e : Extent). c d (e.first + u)) (if b then Some (record { first = state_sector; sectors = log_sectors }) else None) [])
    of_room d disk true room has = sized d (state_sector + u) disk (let much = leb-true arrays_first (disks.sectors d) room in omega (arith, much, below))
    of_room d disk false room has = absurd (none-some g (sym no_gate_in_nothing ∙ has))

    of_seat : (o : Option ℕ) → seats p ≡ o → gate_of (shown o gate_sector) ≡ Some g → IsSector (shown o u)
    of_seat None seat has = absurd (none-some g (sym no_gate_in_nothing ∙ has))
    of_seat (Some d) seat has = of_room d (inside p d seat) (nat_le arrays_first (disks.sectors d)) refl has

-- a target that lands keeps its payload
landed_bytes : (disks : Disks) (ids : Identities) (seats : Seats) (z w : Target) → landed disks ids seats z ≡ Some w → w.bytes ≡ z.bytes
landed_bytes disks ids seats z w is = of_seat (seats (place_of z.disk)) is
  where
    of_test : (b : Bool) (d first : ℕ) → (if b then Some (record { disk = d; sector = first + z.sector; bytes = z.bytes }) else None) ≡ Some w → w.bytes ≡ z.bytes
    of_test true d first at = sym (ap (λ (o : Option Target). option_map_or (λ x. x.bytes) o []) at)
    of_test false d first at = absurd (none-some w at)

    of_extent : (d : ℕ) (o : Option Extent)
        → option_and_then (λ (e : Extent). if nat_lt z.sector e.sectors then Some (record { disk = d; sector = e.first + z.sector; bytes = z.bytes }) else None) o ≡ Some w
        → w.bytes ≡ z.bytes
    of_extent d None at = absurd (none-some w at)
    of_extent d (Some e) at = of_test (nat_lt z.sector e.sectors) d e.first at

    of_seat : (o : Option ℕ)
        → option_and_then
        (λ d. option_and_then
        (λ (e : Extent). if nat_lt z.sector e.sectors then Some (record { disk = d; sector = e.first + z.sector; bytes = z.bytes }) else None)
        (extent_by (disks.sectors d) (ids d).table (slice_of z.disk))) o ≡ Some w
        → w.bytes ≡ z.bytes
    of_seat None at = absurd (none-some w at)
    of_seat (Some d) at = of_extent d (extent_by (disks.sectors d) (ids d).table (slice_of z.disk)) at

-- the record that is pending on disks
standing_sized : (disks : Disks) (c : Image) (x : Standing) → standing disks c ≡ Some x
    → ((d t : ℕ) → d < disks.count → t < disks.sectors d → IsSector (c d t)) → AreSized x.targets
standing_sized disks c x stands sized =
    let by = stood_by disks c x stands in
    let ids : Identities = identities_of disks c in
    subst (λ (y : Standing). AreSized y.targets) (sym by.2)
    (pending_sized (current_places by.0) (logs_of disks (seat_of by.0 disks ids) c)
    (logs_sized disks (seat_of by.0 disks ids) c (λ p d seat. seat_inside by.0 disks ids p d seat) sized))

pub written_sized : (disks : Disks) (c : Image) (x : Standing) → standing disks c ≡ Some x
    → ((d t : ℕ) → d < disks.count → t < disks.sectors d → IsSector (c d t))
    → (d t : ℕ) → d < disks.count → t < disks.sectors d → IsSector (written disks x c d t)
written_sized disks c x stands sized d t disk sector =
    subst IsSector (sym (ap (λ b. if b then unwrap_or (look targets d t) (c d t) else c d t) (lt-ltb t (disks.sectors d) sector)))
    (of_look (look targets d t) refl)
  where
    landing : Target → Option Target
    landing = landed disks x.identities (seat_of (unwrap_or (brought_state x.targets) x.state) disks x.identities)

    targets : List Target
    targets = filter_map landing x.targets

    of_look : (o : Option (List ℕ)) → look targets d t ≡ o → IsSector (unwrap_or o (c d t))
    of_look None is = sized d t disk sector
    of_look (Some v) is =
        sized_look targets d t v
        (sized_filtered landing x.targets
        (λ z w at. landed_bytes disks x.identities (seat_of (unwrap_or (brought_state x.targets) x.state) disks x.identities) z w at)
        (standing_sized disks c x stands sized))
        is

-- where each sector of the disks had one value and 512 bytes
pub steady_after : (a b : RackView) → b.disks ≡ a.disks → ((d : ℕ) → b.sectors d ≡ a.sectors d) → RestsSo a b → AreSingle a → AreSectors a → AreSteady b
steady_after a b disks sectors rests single sized = record {
  single = λ d t disk sector. elim (cases_eq t drive_gate) [
    | inr no_gate ↦ rests.rests.single d t (in_a d disk) (on_a d t sector) no_gate (single d t (in_a d disk) (on_a d t sector))
    | inl gate ↦ subst (λ k. IsSingle (b.held d k)) (sym gate) (one d disk (subst (λ k. k < b.sectors d) gate sector)).0
  ];
  sized = λ d t disk sector. elim (cases_eq t drive_gate) [
    | inr no_gate ↦
        subst IsSector (sym (rests.rests.contents d t (in_a d disk) (on_a d t sector) no_gate))
        (written_sized (disks_of a) (now_in a) rests.before rests.stands sized d t (in_a d disk) (on_a d t sector))
    | inl gate ↦ subst (λ k. IsSector (b.held d k).current) (sym gate) (one d disk (subst (λ k. k < b.sectors d) gate sector)).1
  ];
}
  where
    in_a : (d : ℕ) → d < b.disks → d < a.disks
    in_a d there = subst (λ n. d < n) disks there

    on_a : (d t : ℕ) → t < b.sectors d → t < a.sectors d
    on_a d t there = subst (λ n. t < n) (sectors d) there

    one : (d : ℕ) → d < b.disks → drive_gate < b.sectors d → IsSingle (b.held d drive_gate) × IsSector (b.held d drive_gate).current
    one d disk sector = elim (rests.rests.leaves d (in_a d disk) (on_a d drive_gate sector)) [
      | inl kept ↦ (
        λ v may. single d drive_gate (in_a d disk) (on_a d drive_gate sector) v (kept.within v may) ∙ sym kept.current,
        subst IsSector (sym kept.current) (sized d drive_gate (in_a d disk) (on_a d drive_gate sector)),
      )
      | inr shut ↦ (shut.single, shut.sized)
    ]

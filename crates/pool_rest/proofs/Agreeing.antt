-- Reads between the steps change nothing of what the disks say.
use Rattle.std.proofs.Common.{◌≡◌, ℕ, ◌+◌, ◌<◌, ◌≤◌, ◌==◌, ◌&&◌, Bool, true, false, nat_lt, nat_le, if◌then◌else◌, List, [], Option, Some, None, unwrap_or, option_map, refl, sym, ap, ap₂, subst, ◌∙◌, inl, inr, arith, ltb-true, leb-true, is_some}
use Rattle.std.specs.Option.{option_map_or, option_and_then}
use Rattle.std.specs.List.{filter_map}
use Rattle.std.proofs.lemmas.Bool.{and_parts}
use Rattle.rack.specs.Values.{IsSector, IsSingle, Keeps}
use Rattle.rack.specs.Seen.{Image, RackView, IsLive, SameRack}
use Rattle.rack.specs.Joins.{keeps_then}
use Rattle.rack.specs.Sequences.{OnlyReads}
use Rattle.rack.specs.Targets.{Target, look}
use Rattle.pool_state.specs.declared.contents.State.{State}
use Rattle.slice_rack.specs.Slices.{Slices}
use Rattle.array_image.specs.Places.{place_of, slice_of, log_sectors, state_sector, arrays_first}
use Rattle.array_image.specs.Record.{GateAt, gate_of, pending_at, pending, damaged_log}
use Rattle.array_image.specs.States.{current_places}
use Rattle.pool_image.specs.Disks.{Disks, Identity, Identities, disks_of, identities_of, seat_of}
use Rattle.pool_image.specs.Replay.{Extent, Standing, log_extent, extent_by, logs_of, landed, standing, standing_by, written}
use Rattle.pool_image.specs.Alike.{drive_gate, Agree}
use Rattle.pool_image.proofs.Identities.{agree_identities, newest_same, seat_same, seat_inside}
use Rattle.pool_image.proofs.Rested.{stood_by, written_none}
use Rattle.log_laws.specs.View.{LogView}
use Rattle.pool_scan.specs.Scanning.{AllTold, now_in}
use Rattle.pool_rest.specs.Standing.{IsLasting, StandsAs}
use Rattle.pool_rest.specs.Resting.{replayed_on, IsReplayed, Rests, StandsNow, seated_state}

-- ---- the disks of a rack

pub disks_same : (x y : RackView) → SameRack x y → disks_of y ≡ disks_of x
disks_same x y stays = ap₂ (λ count sectors. record { count = count; sectors = sectors }) stays.disks (λ i d. stays.sectors d i)

pub live_reads : (x y : RackView) → SameRack x y → AllTold x → IsLasting x → (d t : ℕ) → d < x.disks → t < x.sectors d → IsLive x y d t
live_reads x y stays told lasts d t disk sector = record {
  disk = subst (λ n. d < n) (sym stays.disks) disk;
  sector = subst (λ n. t < n) (sym (stays.sectors d)) sector;
  is_told = told d disk;
  unspent = stays.lasts lasts.lasting d t (lasts.unspent d t);
}

pub told_later : (x y : RackView) → SameRack x y → AllTold x → AllTold y
told_later x y stays told d there = stays.told d (told d (subst (λ n. d < n) stays.disks there))

pub lasting_later : (x y : RackView) → SameRack x y → IsLasting x → IsLasting y
lasting_later x y stays lasts = record { lasting = stays.lasting lasts.lasting; unspent = λ d t. stays.lasts lasts.lasting d t (lasts.unspent d t) }

pub reads_agree : (x y : RackView) → OnlyReads x y → AllTold x → IsLasting x → Agree (disks_of x) (now_in y) (now_in x)
reads_agree x y reads told lasts d t disk sector = (reads.keeps.held d t (live_reads x y reads.stays told lasts d t disk sector)).current

-- ---- what contents say that agree inside the disks

pub logs_agree : (disks : Disks) (c e : Image) (s : State) → Agree disks c e
    → logs_of disks (seat_of s disks (identities_of disks c)) c ≡ logs_of disks (seat_of s disks (identities_of disks e)) e
logs_agree disks c e s agree = λ i k t. same k t i
  where
    of_room : (t d : ℕ) → t < log_sectors → d < disks.count → (b : Bool) → nat_le arrays_first (disks.sectors d) ≡ b
        → option_map_or (λ (x : Extent). c d (x.first + t)) (if b then Some (record { first = state_sector; sectors = log_sectors }) else None) []
        ≡ option_map_or (λ (x : Extent). e d (x.first + t)) (if b then Some (record { first = state_sector; sectors = log_sectors }) else None) []
    of_room t d low there false room = refl
    of_room t d low there true room = agree d (state_sector + t) there (let long = leb-true arrays_first (disks.sectors d) room in omega (arith, low, long))

    of_seat : (k t : ℕ) → t < log_sectors → (o : Option ℕ) → seat_of s disks (identities_of disks e) (place_of k) ≡ o
        → option_map_or (λ d. option_map_or (λ (x : Extent). c d (x.first + t)) (log_extent (disks.sectors d)) []) o []
        ≡ option_map_or (λ d. option_map_or (λ (x : Extent). e d (x.first + t)) (log_extent (disks.sectors d)) []) o []
    of_seat k t low None seat = refl
    of_seat k t low (Some d) seat = of_room t d low (seat_inside s disks (identities_of disks e) (place_of k) d seat) (nat_le arrays_first (disks.sectors d)) refl

    of_test : (k t : ℕ) (b : Bool) → ((slice_of k == 0) && nat_lt t log_sectors) ≡ b
        → (if b then option_map_or (λ d. option_map_or (λ (x : Extent). c d (x.first + t)) (log_extent (disks.sectors d)) []) (seat_of s disks (identities_of disks c) (place_of k)) [] else [])
        ≡ (if b then option_map_or (λ d. option_map_or (λ (x : Extent). e d (x.first + t)) (log_extent (disks.sectors d)) []) (seat_of s disks (identities_of disks e) (place_of k)) [] else [])
    of_test k t false test = refl
    of_test k t true test =
        ap (λ o. option_map_or (λ d. option_map_or (λ (x : Extent). c d (x.first + t)) (log_extent (disks.sectors d)) []) o [])
        (seat_same disks (identities_of disks c) (identities_of disks e) (agree_identities disks c e agree) s (place_of k))
        ∙ of_seat k t (ltb-true t log_sectors (and_parts (slice_of k == 0) (nat_lt t log_sectors) test).1) (seat_of s disks (identities_of disks e) (place_of k)) refl

    same : (k t : ℕ) → logs_of disks (seat_of s disks (identities_of disks c)) c k t ≡ logs_of disks (seat_of s disks (identities_of disks e)) e k t
    same k t = of_test k t ((slice_of k == 0) && nat_lt t log_sectors) refl

pub stands_agree : (disks : Disks) (c e : Image) (s : State) → Agree disks e c → standing disks c ≡ Some (standing_by disks c s) → standing disks e ≡ Some (standing_by disks e s)
unfolding standing
stands_agree disks c e s agree stands =
    let by = stood_by disks c (standing_by disks c s) stands in
    let same : s ≡ by.0 = ap (λ (x : Standing). x.state) by.2 in
    ap (option_map (standing_by disks e))
    (newest_same disks (identities_of disks e) (identities_of disks c) (agree_identities disks e c agree) ∙ by.1 ∙ ap Some (sym same))

-- a target lands where it does
pub landed_agree : (disks : Disks) (i j : Identities) (s : State) → ((d : ℕ) → d < disks.count → i d ≡ j d)
    → landed disks i (seat_of s disks i) ≡ landed disks j (seat_of s disks j)
landed_agree disks i j s same = λ k z. each z k
  where
    at : Identities → Target → ℕ → Option Target
    at ids z d =
        option_and_then
        (λ (e : Extent). if nat_lt z.sector e.sectors then Some (record { disk = d; sector = e.first + z.sector; bytes = z.bytes }) else None)
        (extent_by (disks.sectors d) (ids d).table (slice_of z.disk))

    of_seat : (z : Target) (o : Option ℕ) → seat_of s disks j (place_of z.disk) ≡ o → option_and_then (at i z) o ≡ option_and_then (at j z) o
    of_seat z None seat = refl
    of_seat z (Some d) seat =
        ap (λ (id : Identity). option_and_then
        (λ (e : Extent). if nat_lt z.sector e.sectors then Some (record { disk = d; sector = e.first + z.sector; bytes = z.bytes }) else None)
        (extent_by (disks.sectors d) id.table (slice_of z.disk)))
        (same d (seat_inside s disks j (place_of z.disk) d seat))

    each : (z : Target) → landed disks i (seat_of s disks i) z ≡ landed disks j (seat_of s disks j) z
    each z = ap (option_and_then (at i z)) (seat_same disks i j same s (place_of z.disk)) ∙ of_seat z (seat_of s disks j (place_of z.disk)) refl

pub replayed_agree : (disks : Disks) (c e : Image) (s : State) (xs : List Target) → Agree disks c e
    → (d t : ℕ) → d < disks.count → t < disks.sectors d → replayed_on disks s xs c d t ≡ replayed_on disks s xs e d t
replayed_agree disks c e s xs agree d t disk sector =
    ap (λ (v : List ℕ). if nat_lt t (disks.sectors d) then unwrap_or (look (filter_map (landed disks (identities_of disks c) (seat_of s disks (identities_of disks c))) xs) d t) v else v) (agree d t disk sector)
    ∙ ap (λ (f : Target → Option Target). if nat_lt t (disks.sectors d) then unwrap_or (look (filter_map f xs) d t) (e d t) else e d t)
    (landed_agree disks (identities_of disks c) (identities_of disks e) s (agree_identities disks c e agree))

-- ---- reads after a step

pub stands_now : (y b : RackView) (s : State) (t : Slices) (m : LogView) (is_pending : Bool) (damaged : Option ℕ) → OnlyReads y b → AllTold y → IsLasting y
    → StandsAs y s t m is_pending damaged → StandsNow b s m is_pending damaged
stands_now y b s t m is_pending damaged reads told lasts stands =
    let agree : Agree (disks_of y) (now_in b) (now_in y) = reads_agree y b reads told lasts in
    let same : disks_of b ≡ disks_of y = disks_same y b reads.stays in
    let logs : logs_of (disks_of y) (seat_of s (disks_of y) (identities_of (disks_of y) (now_in b))) (now_in b) ≡ (standing_by (disks_of y) (now_in y) s).logs =
    logs_agree (disks_of y) (now_in b) (now_in y) s agree in
    let now : (standing_by (disks_of b) (now_in b) s).logs ≡ (standing_by (disks_of y) (now_in y) s).logs =
    ap (λ (disks : Disks). logs_of disks (seat_of s disks (identities_of disks (now_in b))) (now_in b)) same ∙ logs in
    record {
      stands =
          subst (λ (disks : Disks). standing disks (now_in b) ≡ Some (standing_by disks (now_in b) s)) (sym same)
          (stands_agree (disks_of y) (now_in y) (now_in b) s agree stands.stands);
      targets = stands.targets lasts ∙ ap (pending (current_places s)) (sym now);
      pending = stands.pending lasts ∙ ap (λ (c : Image). is_some (pending_at (current_places s) c)) (sym now);
      damaged_is = stands.damaged_is lasts ∙ ap (damaged_log (current_places s)) (sym now);
    }

pub replayed_later : (x y b : RackView) (before s : State) (xs : List Target) (number : ℕ) → SameRack x y → OnlyReads y b → AllTold x → IsLasting x
    → IsReplayed x y before s xs number → IsReplayed x b before s xs number
replayed_later x y b before s xs number stays reads told lasts is = record {
  contents = λ d t disk sector no_gate. (kept d t disk sector).current ∙ is.contents d t disk sector no_gate;
  single = λ d t disk sector no_gate one v may. is.single d t disk sector no_gate one v ((kept d t disk sector).within v may) ∙ sym (kept d t disk sector).current;
  no_gate = is.no_gate;
  gates = λ d disk sector. elim (is.gates d disk sector) [
    | inl same ↦ inl ((kept d drive_gate disk sector).current ∙ same)
    | inr shut ↦
        inr (record {
          place = shut.place;
          was = shut.was;
          is = shut.is;
          room = shut.room;
          gate = shut.gate;
          has = ap gate_of (kept d drive_gate disk sector).current ∙ shut.has;
          closed = shut.closed;
          number_is = shut.number_is;
        })
  ];
  leaves = λ d disk sector. elim (is.leaves d disk sector) [
    | inl same ↦ inl (keeps_then (x.held d drive_gate) (y.held d drive_gate) (b.held d drive_gate) same (kept d drive_gate disk sector))
    | inr shut ↦
        let keep = kept d drive_gate disk sector in
        inr (record {
          number = shut.number;
          each = λ v may. shut.each v (keep.within v may);
          single = λ v may. shut.single v (keep.within v may) ∙ sym keep.current;
          sized = subst IsSector (sym keep.current) shut.sized;
        })
  ];
}
  where
    kept : (d t : ℕ) → d < x.disks → t < x.sectors d → Keeps (y.held d t) (b.held d t)
    kept d t disk sector =
        reads.keeps.held d t
        (live_reads y b reads.stays (told_later x y stays told) (lasting_later x y stays lasts) d t
        (subst (λ n. d < n) (sym stays.disks) disk) (subst (λ n. t < n) (sym (stays.sectors d)) sector))

-- ---- since the start

pub rests_by : (a x b : RackView) (s : State) (xs : List Target) (number : ℕ) → OnlyReads a x → AllTold a → IsLasting a → IsReplayed x b s (seated_state xs s) xs number
    → xs ≡ (standing_by (disks_of a) (now_in a) s).targets
    → (source : GateAt) → pending_at (current_places s) (standing_by (disks_of a) (now_in a) s).logs ≡ Some source → source.gate.number ≡ number
    → Rests a b (standing_by (disks_of a) (now_in a) s)
rests_by a x b s xs number reads told lasts is targets source pends same_number = record {
  contents = λ d t disk sector no_gate. is.contents d t (in_x d disk) (on_x d t sector) no_gate ∙ same d t disk sector;
  single = λ d t disk sector no_gate one. is.single d t (in_x d disk) (on_x d t sector) no_gate (single d t disk sector one);
  no_gate = λ d disk sector. sym (same d drive_gate disk sector) ∙ is.no_gate d (in_x d disk) (on_x d drive_gate sector) ∙ agree d drive_gate disk sector;
  gates = λ d disk sector. elim (is.gates d (in_x d disk) (on_x d drive_gate sector)) [
    | inl kept ↦ inl (kept ∙ agree d drive_gate disk sector)
    | inr shut ↦
        inr (record {
          place = shut.place;
          seat =
              sym (seat_same (disks_of a) (identities_of (disks_of a) (now_in x)) (identities_of (disks_of a) (now_in a)) (agree_identities (disks_of a) (now_in x) (now_in a) agree) s shut.place)
              ∙ ap (λ (disks : Disks). seat_of s disks (identities_of disks (now_in x)) shut.place) (sym disks) ∙ shut.was;
          room = subst (λ n. arrays_first ≤ n) (reads.stays.sectors d) shut.room;
          gate = shut.gate;
          has = shut.has;
          closed = shut.closed;
          source = source;
          pends = pends;
          number_is = shut.number_is ∙ sym same_number;
        })
  ];
  leaves = λ d disk sector. elim (is.leaves d (in_x d disk) (on_x d drive_gate sector)) [
    | inl same ↦
        inl (keeps_then (a.held d drive_gate) (x.held d drive_gate) (b.held d drive_gate)
        (reads.keeps.held d drive_gate (live_reads a x reads.stays told lasts d drive_gate disk sector)) same)
    | inr shut ↦ inr shut
  ];
}
  where
    disks : disks_of x ≡ disks_of a
    disks = disks_same a x reads.stays

    agree : Agree (disks_of a) (now_in x) (now_in a)
    agree = reads_agree a x reads told lasts

    in_x : (d : ℕ) → d < a.disks → d < x.disks
    in_x d there = subst (λ n. d < n) (sym reads.stays.disks) there

    on_x : (d t : ℕ) → t < a.sectors d → t < x.sectors d
    on_x d t there = subst (λ n. t < n) (sym (reads.stays.sectors d)) there

    single : (d t : ℕ) → d < a.disks → t < a.sectors d → IsSingle (a.held d t) → IsSingle (x.held d t)
    single d t disk sector one v may =
        let kept = reads.keeps.held d t (live_reads a x reads.stays told lasts d t disk sector) in
        one v (kept.within v may) ∙ sym kept.current

    same : (d t : ℕ) → d < a.disks → t < a.sectors d
        → replayed_on (disks_of x) (seated_state xs s) xs (now_in x) d t ≡ written (disks_of a) (standing_by (disks_of a) (now_in a) s) (now_in a) d t
    same d t disk sector =
        ap (λ (dk : Disks). replayed_on dk (seated_state xs s) xs (now_in x) d t) disks
        ∙ replayed_agree (disks_of a) (now_in x) (now_in a) (seated_state xs s) xs agree d t disk sector
        ∙ ap (λ (ys : List Target). replayed_on (disks_of a) (seated_state ys s) ys (now_in a) d t) targets

-- nothing was to be replayed
pub rests_idle : (a b : RackView) (s : State) → OnlyReads a b → AllTold a → IsLasting a → (standing_by (disks_of a) (now_in a) s).targets ≡ []
    → Rests a b (standing_by (disks_of a) (now_in a) s)
rests_idle a b s reads told lasts none = record {
  contents = λ d t disk sector no_gate. agree d t disk sector ∙ same d t;
  single = λ d t disk sector no_gate one v may.
      let kept = reads.keeps.held d t (live_reads a b reads.stays told lasts d t disk sector) in
      one v (kept.within v may) ∙ sym kept.current;
  no_gate = λ d disk sector. sym (same d drive_gate);
  gates = λ d disk sector. inl (agree d drive_gate disk sector);
  leaves = λ d disk sector. inl (reads.keeps.held d drive_gate (live_reads a b reads.stays told lasts d drive_gate disk sector));
}
  where
    agree : Agree (disks_of a) (now_in b) (now_in a)
    agree = reads_agree a b reads told lasts

    same : (d t : ℕ) → now_in a d t ≡ written (disks_of a) (standing_by (disks_of a) (now_in a) s) (now_in a) d t
    same d t = ap (λ (c : Image). c d t) (sym (written_none (disks_of a) (standing_by (disks_of a) (now_in a) s) (now_in a) none))

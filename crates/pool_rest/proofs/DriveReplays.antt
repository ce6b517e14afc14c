-- What a replay on the drives leaves: the record written, gates closed, and who refused a call.
use Rattle.std.proofs.Common.{◌≡◌, ◌≢◌, ◌⊎◌, ℕ, ◌+◌, ◌<◌, ◌≤◌, ◌==◌, ◌||◌, Bool, true, false, nat_lt, nat_le, if◌then◌else◌, List, [], ◌∷◌, Option, Some, None, unwrap_or, refl, sym, ap, subst, ◌∙◌, inl, inr, arith, eq-eqb, lt-ltb, le-leb}
use Rattle.std.specs.Option.{option_map_or}
use Rattle.std.specs.List.{filter_map, list_all, range_with_len, slice_index}
use Rattle.std.proofs.lemmas.List.Folds.{list_any_at}
use Rattle.std.proofs.lemmas.Bool.{cases_Bool, cases_eq, both_ways, and_from}
use Rattle.rack.specs.Values.{IsSector, IsSingle, Keeps, MayLeave}
use Rattle.rack.specs.Seen.{RackView, IsLive, Rose}
use Rattle.rack.specs.Joins.{keeps_then, rose_early, rose_later, live_first}
use Rattle.rack.specs.Sequences.{OnlyReads, WritesOnly}
use Rattle.rack.specs.Targets.{Target, look}
use Rattle.rack.proofs.Writing.{only_then, only_quiet, only_weaker}
use Rattle.slice_rack.specs.Slices.{Slices, IsOrderly, seat_of, first_of, sectors_of, disk_of}
use Rattle.slice_rack.specs.Sliced.{slices_of}
use Rattle.slice_rack.specs.Runs.{IsSliced, Runs}
use Rattle.slice_rack.specs.Landing.{landing}
use Rattle.slice_rack.proofs.Running.{sliced_or}
use Rattle.pool_state.specs.declared.contents.State.{State}
use Rattle.array_image.specs.Places.{place_of, slice_of, log_slice, state_sector, log_sectors, arrays_first}
use Rattle.array_image.specs.Record.{gate_sector, gate_of, is_target}
use Rattle.pool_image.specs.Disks.{Identities, disks_of, identities_of}
use Rattle.pool_image.specs.Disks as disks
use Rattle.pool_image.specs.Replay.{landed}
use Rattle.pool_image.specs.Alike.{drive_gate}
use Rattle.log_laws.specs.View.{LogView, names}
use Rattle.log_laws.specs.Phases.{AreLogs}
use Rattle.log_laws.specs.Opening.{ReplayCall, IsShutting, HasWork}
use Rattle.commit_log.proofs.Deciding.{names_first}
use Rattle.commit_log.proofs.Story.{valid_apart, logs_named}
use Rattle.pool_scan.specs.declared.Known.{Known}
use Rattle.pool_scan.specs.Scanning.{AllTold, IsUnfaulted, now_in}
use Rattle.pool_scan.specs.Choosing.{AreOf, seat_by}
use Rattle.pool_scan.proofs.Seated.{seat_by_is}
use Rattle.pool_rest.specs.Laying.{IsLaidBelow}
use Rattle.pool_rest.specs.Members.{IsCutBelow}
use Rattle.pool_rest.specs.Standing.{IsLasting}
use Rattle.pool_rest.specs.Resting.{IsOfDrive, replayed_on, IsClosedOn, IsReplayed, LeavesShut, AreShut}
use Rattle.pool_rest.proofs.Laid.{laid_logs}
use Rattle.pool_rest.proofs.Meant.{none_listed}
use Rattle.pool_rest.proofs.OnDrives.{OnDrives, past_none, log_first, sliced_place, of_drive, no_unread, no_lost, landing_is, filter_same, live_slice, untouched, written_there, live_all, has_work_or, all_stays, no_target}

-- halves of logs keep their values
pub halves_kept : {x w y : RackView} {known : List Known} {s : State} {t u : Slices} {on unread closing lost : List ℕ} {l : LogView}
    → OnDrives x w y known s t u on unread closing lost l → list_all is_target l.pending ≡ true
    → (d i : ℕ) → IsLive x y d i → drive_gate < i → i < arrays_first → Keeps (x.held d i) (y.held d i)
halves_kept parts valid d i live past before =
    untouched parts d i live (λ same. absurd (omega (arith, same, past))) (no_target parts valid d i (omega (arith, past)) before)

pub replayed_drives : {x w y : RackView} {known : List Known} {before s : State} {t u : Slices} {on unread closing lost : List ℕ} {l : LogView}
    → OnDrives x w y known s t u on unread closing lost l → AllTold x → IsLasting x → IsUnfaulted x y
    → AreOf (disks_of x) (identities_of (disks_of x) (now_in x)) known
    → list_all is_target l.pending ≡ true
    → ((p : ℕ) → names closing p ≡ true → (names on p ≡ true) × (seat_by before known p ≡ seat_by s known p))
    → IsReplayed x y before s l.pending l.number
replayed_drives {x} {w} {y} {known} {before} {s} {t} {u} {on} {unread} {closing} {lost} {l} parts told lasts free are valid closes = record {
  contents = λ d i disk sector no_gate.
      contents d i disk sector no_gate (look (filter_map (landing u) l.pending) d i) refl;
  single = λ d i disk sector no_gate is. single d i disk sector no_gate is (look (filter_map (landing u) l.pending) d i) refl;
  no_gate = λ d disk there. put_is d drive_gate there ∙ ap (λ o. unwrap_or o (now_in x d drive_gate)) (no_target parts valid d drive_gate (omega arith) (omega arith));
  gates = λ d disk there. elim (gates d disk there) [ inl kept ↦ inl kept.current | inr shut ↦ inr shut.0 ];
  leaves = λ d disk there. elim (gates d disk there) [ inl kept ↦ inl kept | inr shut ↦ inr shut.1 ];
}
  where
    ids : Identities
    ids = identities_of (disks_of x) (now_in x)

    live : (d i : ℕ) → d < x.disks → i < x.sectors d → IsLive x y d i
    live d i disk sector = live_all x y (all_stays parts) told lasts d i disk sector

    targets : filter_map (landed (disks_of x) ids (disks.seat_of s (disks_of x) ids)) l.pending ≡ filter_map (landing u) l.pending
    targets = filter_same (landed (disks_of x) ids (disks.seat_of s (disks_of x) ids)) (landing u) l.pending valid (λ z few. landing_is parts free told are z few)

    put_is : (d i : ℕ) → i < x.sectors d → replayed_on (disks_of x) s l.pending (now_in x) d i ≡ unwrap_or (look (filter_map (landing u) l.pending) d i) (now_in x d i)
    put_is d i sector =
        ap (λ (b : Bool). if b then unwrap_or (look (filter_map (landed (disks_of x) ids (disks.seat_of s (disks_of x) ids)) l.pending) d i) (now_in x d i) else now_in x d i)
        (lt-ltb i (x.sectors d) sector)
        ∙ ap (λ (xs : List Target). unwrap_or (look xs d i) (now_in x d i)) targets

    contents : (d i : ℕ) → d < x.disks → i < x.sectors d → i ≢ drive_gate → (o : Option (List ℕ)) → look (filter_map (landing u) l.pending) d i ≡ o
        → now_in y d i ≡ replayed_on (disks_of x) s l.pending (now_in x) d i
    contents d i disk sector no_gate None none =
        (untouched parts d i (live d i disk sector) no_gate none).current ∙ sym (put_is d i sector ∙ ap (λ o. unwrap_or o (now_in x d i)) none)
    contents d i disk sector no_gate (Some v) is =
        written_there parts free valid d i v (live d i disk sector) is (now_in y d i) (inl refl) ∙ sym (put_is d i sector ∙ ap (λ o. unwrap_or o (now_in x d i)) is)

    single : (d i : ℕ) → d < x.disks → i < x.sectors d → i ≢ drive_gate → IsSingle (x.held d i) → (o : Option (List ℕ)) → look (filter_map (landing u) l.pending) d i ≡ o
        → IsSingle (y.held d i)
    single d i disk sector no_gate is None none v may =
        let kept = untouched parts d i (live d i disk sector) no_gate none in
        is v (kept.within v may) ∙ sym kept.current
    single d i disk sector no_gate is (Some w) has v may =
        let there = written_there parts free valid d i w (live d i disk sector) has in
        there v may ∙ sym (there (now_in y d i) (inl refl))

    no_one : lost ≡ []
    no_one = parts.call.gone.ordered ∙ none_listed (names lost) (range_with_len 0 16) (no_lost parts free)

    gates : (d : ℕ) → d < x.disks → drive_gate < x.sectors d → Keeps (x.held d drive_gate) (y.held d drive_gate) ⊎ (IsClosedOn before s x y l.number d × LeavesShut y d)
    gates d disk there = of_slice (sliced_or u d drive_gate (past_none parts))
      where
        here : IsLive x y d drive_gate
        here = live d drive_gate disk there

        now : IsLive w y d drive_gate
        now = record { disk = here.disk; sector = here.sector; is_told = parts.reads.stays.told d here.is_told; unspent = here.unspent }

        later : Keeps (w.held d drive_gate) (y.held d drive_gate) → Keeps (x.held d drive_gate) (y.held d drive_gate)
        later kept =
            keeps_then (x.held d drive_gate) (w.held d drive_gate) (y.held d drive_gate)
            (parts.reads.keeps.held d drive_gate (live_first parts.apart.stays here)) kept

        of_log : (is : IsSliced u d drive_gate []) → is.slice < 272 → slice_of is.slice ≡ 0 → is.at ≡ gate_sector
            → Keeps (x.held d drive_gate) (y.held d drive_gate) ⊎ (IsClosedOn before s x y l.number d × LeavesShut y d)
        of_log is few log at = of_work (has_work_or l) (cases_Bool (names closing (place_of is.slice)))
          where
            slice : is.slice ≡ log_slice (place_of is.slice)
            slice = omega (arith, log)

            no_target : look l.pending is.slice is.at ≡ None
            no_target = of_look (look l.pending is.slice is.at) refl
              where
                of_look : (o : Option (List ℕ)) → look l.pending is.slice is.at ≡ o → look l.pending is.slice is.at ≡ None
                of_look None none = none
                of_look (Some v) some = absurd (valid_apart l.pending is.slice is.at v valid some (log, omega (arith, at)))

            kept : (IsShutting l closing is.slice is.at → ⊥) → Keeps (x.held d drive_gate) (y.held d drive_gate)
            kept open_still =
                later
                (subst (λ e. Keeps (w.held e drive_gate) (y.held e drive_gate)) (sym is.disk_is)
                (subst (λ j. Keeps (w.held (disk_of u is.slice) j) (y.held (disk_of u is.slice) j)) (sym is.sector_is)
                (parts.call.apart is.slice is.at (live_slice parts d drive_gate [] is few now) open_still no_target)))

            here_too : (v : List ℕ) → MayLeave (y.held d drive_gate) v → MayLeave ((slices_of u y).held (log_slice (place_of is.slice)) gate_sector) v
            here_too v may =
                subst (λ k. MayLeave ((slices_of u y).held k gate_sector) v) slice
                (subst (λ j. MayLeave ((slices_of u y).held is.slice j) v) at
                (subst (λ j. MayLeave (y.held (disk_of u is.slice) j) v) is.sector_is (subst (λ e. MayLeave (y.held e drive_gate) v) is.disk_is may)))

            live_gate : IsLive (slices_of u w) (slices_of u y) (log_slice (place_of is.slice)) gate_sector
            live_gate =
                subst (λ k. IsLive (slices_of u w) (slices_of u y) k gate_sector) slice
                (subst (λ j. IsLive (slices_of u w) (slices_of u y) is.slice j) at (live_slice parts d drive_gate [] is few now))

            numbered : HasWork l → names closing (place_of is.slice) ≡ true → (v : List ℕ) → MayLeave (y.held d drive_gate) v
                → gate_of v ≡ Some (record { is_open = false; number = l.number })
            numbered work named v may = parts.call.gates work no_one (place_of is.slice) v named live_gate (here_too v may)

            shut : HasWork l → names closing (place_of is.slice) ≡ true → LeavesShut y d
            shut work named =
                let durable = parts.call.durable work no_one (place_of is.slice) named live_gate in
                let now_is = durable.0 (y.held d drive_gate).current (here_too (y.held d drive_gate).current (inl refl)) in
                record {
                  number = l.number;
                  each = numbered work named;
                  single = λ v may. durable.0 v (here_too v may) ∙ sym now_is;
                  sized = subst IsSector (sym now_is) durable.1;
                }

            of_work : HasWork l ⊎ (HasWork l → ⊥) → (names closing (place_of is.slice) ≡ true) ⊎ (names closing (place_of is.slice) ≡ false)
                → Keeps (x.held d drive_gate) (y.held d drive_gate) ⊎ (IsClosedOn before s x y l.number d × LeavesShut y d)
            of_work (inr idle) named = inl (kept (λ shut. idle shut.work))
            of_work (inl work) (inr other) = inl (kept (λ shut. both_ways (names closing (place_of is.slice)) other shut.named))
            of_work (inl work) (inl named) =
                let place : ℕ = place_of is.slice in
                let on_it = closes place named in
                let log_is = logs_named (sectors_of t) on place (laid_logs _ _ _ _ _ parts.laid) on_it.0 in
                let seat : seat_by s known place ≡ Some d = (sliced_place parts is.slice (omega (arith, is.within))).1 ∙ ap Some (sym is.disk_is) in
                let size : sectors_of u is.slice ≡ log_sectors = parts.cut.sectors is.slice log ∙ ap (sectors_of t) slice ∙ log_is.1 in
                let first : first_of u is.slice ≡ state_sector = log_first parts is.slice log (omega (arith, is.within)) in
                let ends : first_of u is.slice + sectors_of u is.slice ≤ w.sectors (disk_of u is.slice) = parts.inside.slices is.slice (omega (arith, is.within)) in
                let room : w.sectors (disk_of u is.slice) ≡ x.sectors d = parts.reads.stays.sectors (disk_of u is.slice) ∙ ap x.sectors (sym is.disk_is) in
                inr (
                  record {
                    place = place;
                    was = sym (seat_by_is (disks_of x) ids known are before place) ∙ on_it.1 ∙ seat;
                    is = sym (seat_by_is (disks_of x) ids known are s place) ∙ seat;
                    room = omega (arith, ends, size, first, room);
                    gate = record { is_open = false; number = l.number };
                    has = numbered work named (now_in y d drive_gate) (inl refl);
                    closed = refl;
                    number_is = refl;
                  },
                  shut work named,
                )

        of_slice : ((is : (v : List ℕ) → IsSliced u d drive_gate v) × ((v : List ℕ) → (is v).slice < 272)) ⊎ ((v : List ℕ) → IsSliced u d drive_gate v → ⊥)
            → Keeps (x.held d drive_gate) (y.held d drive_gate) ⊎ (IsClosedOn before s x y l.number d × LeavesShut y d)
        of_slice (inr nowhere) = inl (later (parts.apart.others d drive_gate now nowhere))
        of_slice (inl some) =
            let is : IsSliced u d drive_gate [] = some.0 [] in
            elim (cases_eq (slice_of is.slice) 0) [
              | inl log ↦
                  let first : first_of u is.slice ≡ state_sector = log_first parts is.slice log (omega (arith, is.within)) in
                  of_log is (some.1 []) log (omega (arith, first, is.sector_is))
              | inr member ↦
                  let within = parts.cut.within is.slice (omega (arith, member)) (omega (arith, is.within)) in
                  absurd (omega (arith, within.behind, is.sector_is))
            ]

-- ---- gates that were closed

-- all tables were read
pub unread_none : {x w y : RackView} {known : List Known} {s : State} {t u : Slices} {on unread closing lost : List ℕ} {l : LogView}
    → OnDrives x w y known s t u on unread closing lost l → IsUnfaulted x y → unread ≡ []
unread_none {unread = unread} parts free = none_named unread (no_unread parts free)
  where
    none_named : (ps : List ℕ) → ((p : ℕ) → names ps p ≡ false) → ps ≡ []
    none_named [] none = refl
    none_named (q ∷ ps) none = absurd (both_ways (names (q ∷ ps) q) (none q) (names_first q ps))

pub shut_drives : (before : State) {x w y : RackView} {known : List Known} {s : State} {t u : Slices} {on unread closing lost : List ℕ} {l : LogView}
    → OnDrives x w y known s t u on unread closing lost l → AllTold x → IsLasting x → IsUnfaulted x y → l.pending ≢ []
    → ((p : ℕ) → p < 16 → names on p ≡ true → seat_by before known p ≡ seat_by s known p → names closing p ≡ true)
    → AreShut x y known before s l.number
shut_drives before {x} {w} {y} {known} {s} {t} {u} {on} {unread} {closing} {lost} {l} parts told lasts free some all p d few was is room =
    ap gate_of read
    ∙ parts.call.gates (inl some) no_one p (((slices_of u y).held (log_slice p) gate_sector).current) named
    (live_slice parts d drive_gate [] sliced (omega (arith, few)) now) (inl refl)
  where
    size_laid : sectors_of t (log_slice p) ≡ log_sectors
    size_laid =
        parts.laid.sectors (log_slice p) (omega (arith, few))
        ∙ ap (λ b. if b then option_map_or (λ d. if nat_le arrays_first (x.sectors d) then log_sectors else 0) (seat_by s known (place_of (log_slice p))) 0 else 0)
        (eq-eqb (slice_of (log_slice p)) 0 (omega arith))
        ∙ ap (λ q. option_map_or (λ d. if nat_le arrays_first (x.sectors d) then log_sectors else 0) (seat_by s known q) 0) (omega arith)
        ∙ ap (λ o. option_map_or (λ d. if nat_le arrays_first (x.sectors d) then log_sectors else 0) o 0) is
        ∙ ap (λ b. if b then log_sectors else 0) (le-leb arrays_first (x.sectors d) room)

    size : sectors_of u (log_slice p) ≡ log_sectors
    size = parts.cut.sectors (log_slice p) (omega arith) ∙ size_laid

    on_it : names on p ≡ true
    on_it = parts.laid.places p ∙ and_from (nat_lt p 16) (nat_lt 0 (sectors_of t (log_slice p))) (lt-ltb p 16 few) (lt-ltb 0 (sectors_of t (log_slice p)) (omega (arith, size_laid)))

    named : names closing p ≡ true
    named = all p few on_it (was ∙ sym is)

    first : first_of u (log_slice p) ≡ state_sector
    first = log_first parts (log_slice p) (omega arith) (omega (arith, size))

    seat : seat_of u p ≡ Some d
    seat = parts.cut.seats p ∙ parts.laid.seats p few ∙ is

    disk : disk_of u (log_slice p) ≡ d
    disk = ap (λ q. unwrap_or (seat_of u q) 0) of_place ∙ ap (λ o. unwrap_or o 0) seat
      where
        of_place : place_of (log_slice p) ≡ p
        of_place = omega arith

    sliced : IsSliced u d drive_gate []
    sliced = record { slice = log_slice p; at = gate_sector; within = omega (arith, size); disk_is = sym disk; sector_is = omega (arith, first) }

    here : IsLive x y d drive_gate
    here =
        live_all x y (all_stays parts) told lasts d drive_gate (subst (λ n. d < n) parts.reads.stays.disks (parts.inside.seats p d seat))
        (omega (arith, room))

    now : IsLive w y d drive_gate
    now = record { disk = here.disk; sector = here.sector; is_told = parts.reads.stays.told d here.is_told; unspent = here.unspent }

    read : now_in y d drive_gate ≡ (((slices_of u y).held (log_slice p) gate_sector).current)
    read = ap (λ e. now_in y e drive_gate) (sym disk) ∙ ap (λ j. now_in y (disk_of u (log_slice p)) j) (omega (arith, first))

    no_one : lost ≡ []
    no_one = parts.call.gone.ordered ∙ none_listed (names lost) (range_with_len 0 16) (no_lost parts free)

-- ---- other clauses

-- the places whose gates are closed have whole log slices
pub closing_logs : (x w : RackView) (known : List Known) (s : State) (t u : Slices) (on unread closing : List ℕ)
    → IsLaidBelow x known s 16 t on → IsCutBelow x w 16 t u unread
    → ((p : ℕ) → names closing p ≡ true → names on p ≡ true) → AreLogs (sectors_of u) closing
closing_logs x w known s t u on unread closing laid cut closes j below =
    let p : ℕ = slice_index closing j in
    let named : names closing p ≡ true = list_any_at (λ q. q == p) closing j 0 below (eq-eqb p p refl) in
    let is = logs_named (sectors_of t) on p (laid_logs x known s t on laid) (closes p named) in
    (is.0, cut.sectors (log_slice p) (omega arith) ∙ is.1)

-- only sectors of the drives are written
pub only_drives : {x w y : RackView} {known : List Known} {s : State} {t u : Slices} {on unread closing lost : List ℕ} {l : LogView}
    → OnDrives x w y known s t u on unread closing lost l → WritesOnly x y (IsOfDrive x known s)
only_drives {x} {w} {y} {known} {s} {t} {u} parts =
    only_then (IsOfDrive x known s) (only_quiet (IsOfDrive x known s) parts.reads.stays parts.reads.keeps)
    (only_weaker (IsSliced u) (IsOfDrive x known s) (λ d i v is. of_drive parts d i v is) parts.apart)

-- by the calls of a replay
pub on_drives : {R : Type 0} (seen : R → RackView) (r0 r1 r2 r3 r4 r5 : R) (own : Type 0) (known : List Known) (s : State) (t u v : Slices) (on unread closing lost : List ℕ) (l : LogView)
    → r1 ≡ r0 → r2 ≡ r1 → r5 ≡ r4
    → IsLaidBelow (seen r1) known s 16 t on → OnlyReads (seen r2) (seen r3) → IsCutBelow (seen r2) (seen r3) 16 t u unread
    → IsOrderly u → (slices_of u (seen r3)).fit → Runs u v (seen r3) (seen r4) own
    → ReplayCall l closing lost (slices_of u (seen r3)) (slices_of v (seen r4))
    → OnDrives (seen r0) (seen r3) (seen r5) known s t u on unread closing lost l
on_drives seen r0 r1 r2 r3 r4 r5 own known s t u v on unread closing lost l one two five laid reads cut orderly fit runs call = record {
  laid = subst (λ r. IsLaidBelow (seen r) known s 16 t on) one laid;
  reads = subst (λ r. OnlyReads (seen r) (seen r3)) (two ∙ one) reads;
  cut = subst (λ r. IsCutBelow (seen r) (seen r3) 16 t u unread) (two ∙ one) cut;
  orderly = orderly;
  inside = fit.1;
  apart = subst (λ r. WritesOnly (seen r3) (seen r) (IsSliced u)) (sym five) (runs.apart fit.0 fit.1);
  call =
      subst (λ r. ReplayCall l closing lost (slices_of u (seen r3)) (slices_of u (seen r))) (sym five)
      (subst (λ k. ReplayCall l closing lost (slices_of u (seen r3)) (slices_of k (seen r4))) runs.tables call);
}

-- the places that went, each with its cause
pub lost_cause : {x w y : RackView} {known : List Known} {s : State} {t u : Slices} {on unread closing lost : List ℕ} {l : LogView}
    → OnDrives x w y known s t u on unread closing lost l → (p d : ℕ) → p < 16 → (names unread p || names lost p) ≡ true → seat_by s known p ≡ Some d
    → Rose (x.faults d) (y.faults d)
lost_cause {x} {w} {y} {known} {s} {t} {u} {on} {unread} {closing} {lost} parts p d few named seat =
    of_list (names unread p) refl (subst (λ b. (b || names lost p) ≡ true) refl named)
  where
    has : seat_of u p ≡ Some d
    has = parts.cut.seats p ∙ parts.laid.seats p few ∙ seat

    some_same : (m n : ℕ) → Some m ≡ Some n → m ≡ n
    some_same m n same = (cc)

    of_list : (b : Bool) → names unread p ≡ b → (b || names lost p) ≡ true → Rose (x.faults d) (y.faults d)
    of_list true is either =
        let gone = parts.cut.refused p is in
        let same : gone.1 ≡ d = some_same gone.1 d (sym gone.2 ∙ has) in
        subst (λ e. Rose (x.faults e) (y.faults e)) same (rose_early x w y gone.1 parts.apart.stays gone.3)
    of_list false is either =
        let gone = parts.call.gone.cause p either in
        let same : disk_of u gone.0 ≡ d = ap (λ q. unwrap_or (seat_of u q) 0) gone.1 ∙ ap (λ o. unwrap_or o 0) has in
        subst (λ e. Rose (x.faults e) (y.faults e)) same (rose_later x w y (disk_of u gone.0) parts.reads.stays gone.2)

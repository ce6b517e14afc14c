-- A pool that was brought to rest means what it meant.
use Rattle.std.proofs.Common.{◌≡◌, ℕ, ◌+◌, ◌<◌, ◌≤◌, ◌==◌, ◌&&◌, ◌||◌, Bool, true, false, nat_lt, if◌then◌else◌, is_some, is_none, List, [], length, map, Option, Some, None, option_map, refl, sym, ap, ap₂, subst, ◌∙◌, inl, inr, arith, eq-eqb, le-leb}
use Rattle.std.specs.Option.{option_map_or}
use Rattle.std.specs.List.{list_all, range_with_len}
use Rattle.std.proofs.lemmas.Bool.{cases_Bool, both_ways}
use Rattle.rack.specs.Seen.{Image, RackView, SameRack}
use Rattle.rack.specs.Sequences.{OnlyReads}
use Rattle.rack.specs.Targets.{Target}
use Rattle.pool_state.specs.declared.contents.State.{State}
use Rattle.array_image.specs.Places.{place_of, slice_of, log_slice, log_sectors, state_sector, arrays_first}
use Rattle.array_image.specs.Record.{Gate, GateAt, gate_sector, gate_of, is_there, is_bad_gate, is_target, record_in, pending_at, is_bad_log, damaged_log}
use Rattle.array_image.specs.Foremost.{foremost}
use Rattle.array_image.specs.States.{is_current, current_places}
use Rattle.pool_image.specs.Disks.{Disks, Identity, Identities, all_disks, candidate, disks_of, identities_of, id_by, seat_of}
use Rattle.pool_image.specs.Replay.{Extent, Standing, log_extent, logs_of, standing, standing_by, written}
use Rattle.pool_image.specs.Meaning.{has_other_pool}
use Rattle.pool_image.specs.Alike.{drive_gate, is_bad_block, MeansTheSame}
use Rattle.pool_image.proofs.Identities.{agree_identities, same_but_gates}
use Rattle.pool_image.proofs.Rested.{stood_by, rested_means, agree_means}
use Rattle.log_laws.specs.View.{LogView, names}
use Rattle.log_laws.proofs.Counting.{is_listed}
use Rattle.log_laws.proofs.Naming.{names_range}
use Rattle.commit_log.proofs.Fewer.{filter_names, current_of_all}
use Rattle.commit_log.proofs.Undamaged.{whole_gates, whole_record}
use Rattle.commit_log.proofs.Replaying.{pending_sound}
use Rattle.pool_scan.specs.declared.Known.{Known}
use Rattle.pool_scan.specs.Scanning.{AllTold, now_in}
use Rattle.pool_scan.specs.Choosing.{AreOf}
use Rattle.pool_rest.specs.Standing.{IsLasting}
use Rattle.pool_rest.specs.Resting.{Rests, StandsNow}
use Rattle.pool_rest.proofs.Meant.{few_newest}
use Rattle.pool_rest.proofs.Agreeing.{disks_same, reads_agree, logs_agree}

-- ---- logs that aren't damaged

and_false : (b : Bool) → (b && false) ≡ false
and_false true = refl
and_false false = refl

pub bad_log_none : (s : State) (logs : Image) → damaged_log (current_places s) logs ≡ None → length s.drives.items ≤ 16
    → ((p : ℕ) → is_current s p ≡ false → logs (log_slice p) gate_sector ≡ [])
    → (p : ℕ) → is_bad_log (current_places s) logs p ≡ false
bad_log_none s logs whole few nothing p = ap₂ (λ a b. a || b) gate (of_pending (pending_at (current_places s) logs) refl)
  where
    gate : is_bad_gate logs p ≡ false
    gate =
        elim (cases_Bool (is_current s p)) [
          | inr out ↦ ap (λ (block : List ℕ). is_there block && is_none (gate_of block)) (nothing p out)
          | inl is ↦
              whole_gates logs (current_places s) p whole
              (ap (λ ps. names ps p) (current_of_all s few)
              ∙ filter_names (is_current s) (range_with_len 0 16) p is (names_range 0 16 p (omega arith) (let low = is_listed s p is in omega (arith, low, few))))
        ]

    of_pending : (o : Option GateAt) → pending_at (current_places s) logs ≡ o
        → option_map_or (λ a. (a.place == p) && is_none (record_in logs a.place a.gate.number)) o false ≡ false
    of_pending None is = refl
    of_pending (Some a) is = ap (λ (o : Option (List Target)). (a.place == p) && is_none o) (whole_record logs (current_places s) whole a is).1 ∙ and_false (a.place == p)

pub seat_none : (disks : Disks) (s : State) (i : Identities) (p : ℕ) → is_current s p ≡ false → seat_of s disks i p ≡ None
unfolding seat_of
seat_none disks s i p out =
    ap (λ (b : Bool). if b then option_map (λ k. k.disk) (foremost (λ k. k.epoch) (map (candidate s i p) (all_disks disks))) else None) out

-- what a log slice shows of the gate of a place
abbrev pub log_gate : Disks → Image → Option ℕ → List ℕ
log_gate disks c o = option_map_or (λ d. option_map_or (λ (x : Extent). c d (x.first + gate_sector)) (log_extent (disks.sectors d)) []) o []

pub log_read : (disks : Disks) (s : State) (i : Identities) (c : Image) (p : ℕ) → logs_of disks (seat_of s disks i) c (log_slice p) gate_sector ≡ log_gate disks c (seat_of s disks i p)
log_read disks s i c p =
    let of_place : place_of (log_slice p) ≡ p = omega arith in
    let first : slice_of (log_slice p) ≡ 0 = omega arith in
    ap (λ b. if b && nat_lt gate_sector log_sectors then log_gate disks c (seat_of s disks i (place_of (log_slice p))) else []) (eq-eqb (slice_of (log_slice p)) 0 first)
    ∙ ap (λ q. log_gate disks c (seat_of s disks i q)) of_place

-- a place that isn't current has none
pub no_log : (disks : Disks) (s : State) (i : Identities) (c : Image) (p : ℕ) → is_current s p ≡ false → logs_of disks (seat_of s disks i) c (log_slice p) gate_sector ≡ []
no_log disks s i c p out = log_read disks s i c p ∙ ap (log_gate disks c) (seat_none disks s i p out)

-- a seated place's gate is read from its disk
pub seat_gate : (disks : Disks) (s : State) (i : Identities) (c : Image) (p d : ℕ) → seat_of s disks i p ≡ Some d → arrays_first ≤ disks.sectors d
    → logs_of disks (seat_of s disks i) c (log_slice p) gate_sector ≡ c d drive_gate
seat_gate disks s i c p d seat room =
    log_read disks s i c p ∙ ap (log_gate disks c) seat
    ∙ ap (λ b. option_map_or (λ (x : Extent). c d (x.first + gate_sector)) (if b then Some (record { first = state_sector; sectors = log_sectors }) else None) [])
    (le-leb arrays_first (disks.sectors d) room)

-- ---- a record that was replayed

or_first : (a b : Bool) → (a || b) ≡ false → a ≡ false
or_first true b is = cc
or_first false b is = refl

no_pending : (o : Option GateAt) → false ≡ is_some o → o ≡ None
no_pending None is = refl
no_pending (Some a) is = absurd (both_ways (is_some (Some a)) (sym is) refl)

pub replayed_means : (a b : RackView) (st s : State) (m : LogView) → SameRack a b
    → standing (disks_of a) (now_in a) ≡ Some (standing_by (disks_of a) (now_in a) st)
    → damaged_log (current_places st) (standing_by (disks_of a) (now_in a) st).logs ≡ None
    → Rests a b (standing_by (disks_of a) (now_in a) st)
    → StandsNow b s m false None
    → has_other_pool (disks_of a) (standing_by (disks_of a) (now_in a) st) ≡ false
    → has_other_pool (disks_of b) (standing_by (disks_of b) (now_in b) s) ≡ false
    → MeansTheSame (disks_of a) (now_in a) (now_in b)
replayed_means a b st s m stays stands whole rests now one still_one =
    rested_means disks c e before after (record {
      stands = stands;
      stands_now = subst (λ (dk : Disks). standing dk e ≡ Some (standing_by dk e s)) same now.stands;
      same = same_but_gates disks e w rests.contents (λ d there sector. elim (rests.gates d there sector) [
        | inl kept ↦ inl (kept ∙ sym (rests.no_gate d there sector))
        | inr shut ↦ inr shut.room
      ]);
      idle =
          subst (λ (dk : Disks). pending_at (current_places s) (standing_by dk e s).logs ≡ None) same
          (no_pending (pending_at (current_places s) (standing_by (disks_of b) e s).logs) now.pending);
      gates = λ d there sector. elim (rests.gates d there sector) [
        | inl kept ↦ ap is_bad_block (kept ∙ sym (rests.no_gate d there sector))
        | inr shut ↦
            ap (λ (o : Option Gate). is_there (e d drive_gate) && is_none o) shut.has ∙ and_false (is_there (e d drive_gate))
            ∙ sym
            (ap is_bad_block (rests.no_gate d there sector ∙ sym (seat_gate disks st before.identities c shut.place d shut.seat shut.room))
            ∙ or_first (is_bad_gate before.logs shut.place) _ (logs shut.place))
      ];
      logs = logs;
      pools = subst (λ (dk : Disks). has_other_pool dk (standing_by dk e s) ≡ false) same still_one ∙ sym one;
    })
  where
    disks : Disks
    disks = disks_of a

    c : Image
    c = now_in a

    e : Image
    e = now_in b

    before : Standing
    before = standing_by (disks_of a) (now_in a) st

    after : Standing
    after = standing_by (disks_of a) (now_in b) s

    w : Image
    w = written (disks_of a) (standing_by (disks_of a) (now_in a) st) (now_in a)

    same : disks_of b ≡ disks_of a
    same = disks_same a b stays

    few : length st.drives.items ≤ 16
    few =
        let by = stood_by (disks_of a) (now_in a) (standing_by (disks_of a) (now_in a) st) stands in
        few_newest a st (by.1 ∙ ap (λ (x : Standing). Some x.state) (sym by.2))

    logs : (p : ℕ) → is_bad_log (current_places st) (standing_by (disks_of a) (now_in a) st).logs p ≡ false
    logs =
        bad_log_none st (standing_by (disks_of a) (now_in a) st).logs whole few
        (λ p out. no_log (disks_of a) st (identities_of (disks_of a) (now_in a)) (now_in a) p out)

-- ---- nothing was to be replayed

pub idle_means : (a b : RackView) (st : State) (m : LogView) (is_pending : Bool) (damaged : Option ℕ) → OnlyReads a b → AllTold a → IsLasting a
    → standing (disks_of a) (now_in a) ≡ Some (standing_by (disks_of a) (now_in a) st)
    → (standing_by (disks_of a) (now_in a) st).targets ≡ []
    → StandsNow b st m is_pending damaged
    → MeansTheSame (disks_of a) (now_in a) (now_in b)
idle_means a b st m is_pending damaged reads told lasts stands none now =
    agree_means (disks_of a) (now_in a) (now_in b) st stands
    (subst (λ (dk : Disks). standing dk (now_in b) ≡ Some (standing_by dk (now_in b) st)) (disks_same a b reads.stays) now.stands)
    (reads_agree a b reads told lasts)
    (logs_agree (disks_of a) (now_in b) (now_in a) st (reads_agree a b reads told lasts))
    none

-- ---- what a scan's list says after reads

pub are_later : (a x : RackView) (known : List Known) → OnlyReads a x → AllTold a → IsLasting a
    → AreOf (disks_of a) (identities_of (disks_of a) (now_in a)) known → AreOf (disks_of x) (identities_of (disks_of x) (now_in x)) known
are_later a x known reads told lasts are =
    subst (λ (dk : Disks). AreOf dk (identities_of dk (now_in x)) known) (sym (disks_same a x reads.stays)) (record {
      count = are.count;
      copied = λ d there. ap (λ (id : Identity). id.copied) (ids d there) ∙ are.copied d there;
      id = λ d there. ap (λ (id : Identity). id_by id.table id.copied) (ids d there) ∙ are.id d there;
    })
  where
    ids : (d : ℕ) → d < a.disks → identities_of (disks_of a) (now_in x) d ≡ identities_of (disks_of a) (now_in a) d
    ids = agree_identities (disks_of a) (now_in x) (now_in a) (reads_agree a x reads told lasts)

-- a pending record's targets are sectors that one may have
pub targets_valid : (a : RackView) (st : State) (xs : List Target) → xs ≡ (standing_by (disks_of a) (now_in a) st).targets → list_all is_target xs ≡ true
targets_valid a st xs is =
    ap (list_all is_target) is ∙ (pending_sound (current_places st) (standing_by (disks_of a) (now_in a) st).logs).valid

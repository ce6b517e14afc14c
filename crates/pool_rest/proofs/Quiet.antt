-- A pool whose logs were sound is quiet once it was brought to rest.
use Rattle.std.proofs.Common.{◌≡◌, ◌≢◌, ◌⊎◌, ℕ, suc, ◌+◌, ◌<◌, ◌≤◌, ◌==◌, ◌&&◌, not, Bool, true, false, nat_le, if◌then◌else◌, is_some, List, [], ◌∷◌, length, map, slice_get, codes, bytes_eq, replicate, Option, Some, None, refl, sym, ap, ap₂, subst, ◌∙◌, inl, inr, unwrap_or, arith, leb-true, lt-ltb}
use Rattle.std.specs.List.{filter_map, list_all, range_with_len}
use Rattle.std.proofs.lemmas.Bool.{cases_Bool, both_ways, and_parts}
use Rattle.std.proofs.lemmas.List.FromFn.{length-map-range_with_len}
use Rattle.std.proofs.lemmas.Option.{none-some, cond_some}
use Rattle.rack.specs.Seen.{Image, RackView, SameRack}
use Rattle.rack.specs.Joins.{stays_then}
use Rattle.rack.specs.Sequences.{OnlyReads}
use Rattle.rack.specs.Targets.{Target, look}
use Rattle.shr_base.specs.Blocks.{number_at, bytes_at, put_at}
use Rattle.shr_base.specs.Crc.{crc32_of}
use Rattle.pool_state.specs.declared.contents.State.{State}
use Rattle.slice_rack.specs.Slices.{Slices}
use Rattle.slice_rack.specs.Sliced.{slices_of}
use Rattle.array_image.specs.Left.{reading}
use Rattle.array_image.specs.Foremost.{foremost}
use Rattle.array_image.specs.Places.{log_slice, state_sector, arrays_first}
use Rattle.array_image.specs.Record.{Gate, GateAt, gate_of, half_of, log_bytes, target_at, is_target, are_apart, record_of, pending_at, pending, damaged_log}
use Rattle.array_image.specs.States.{is_current, current_places}
use Rattle.pool_image.specs.Disks.{Disks, Identity, disks_of, identities_of, newest, seat_of}
use Rattle.pool_image.specs.Replay.{Standing, landed, standing, standing_by, written}
use Rattle.pool_image.specs.Alike.{drive_gate, IsSameButGates, MeansTheSame}
use Rattle.pool_image.specs.Meaning.{has_other_pool}
use Rattle.pool_image.proofs.Identities.{newest_same, other_same, same_but_gates, seat_inside, seat_same}
use Rattle.pool_image.proofs.Rested.{stood_by}
use Rattle.log_laws.specs.Saying.{PlaceJoins}
use Rattle.log_laws.specs.View.{LogView, names}
use Rattle.log_laws.proofs.Counting.{is_listed}
use Rattle.commit_log.proofs.Deciding.{record_pending}
use Rattle.commit_log.proofs.Fewer.{current_of_all, names_filter}
use Rattle.log_laws.proofs.Places.{joins_none, stays_same}
use Rattle.commit_log.proofs.Replayable.{pending_named}
use Rattle.commit_log.proofs.Replaying.{pending_sound}
use Rattle.commit_log.proofs.Undamaged.{whole_gates, whole_record}
use Rattle.pool_scan.specs.declared.Known.{Known}
use Rattle.pool_scan.specs.Scanning.{AllTold, IsScan, IsUnfaulted, as_read, now_in}
use Rattle.pool_scan.specs.Choosing.{AreOf, has_pool_other_than}
use Rattle.pool_scan.proofs.Meant.{scan_meant, newest_meant, other_meant}
use Rattle.pool_scan.proofs.Seated.{seat_by_is}
use Rattle.shr_base.specs.declared.Id.{Id}
use Rattle.pool_rest.specs.declared.standing.FindFault.{FindFault}
use Rattle.pool_rest.specs.declared.standing.FindFault.TheVariants.{NoPool, TwoPools, Memory}
use Rattle.pool_rest.specs.Moments.{BringsNoState, BringsState, IsGateBelow, TakesLower}
use Rattle.pool_rest.specs.Standing.{IsLaid, IsLasting, StandsAs, IsCause, since}
use Rattle.pool_rest.specs.Resting.{AreShut, Rests, StandsNow, seated_state}
use Rattle.pool_rest.specs.SoundLogs.{HadGate, IsSoundLog, HasSoundLogs, IsSettled}
use Rattle.pool_rest.proofs.Agreeing.{disks_same, told_later, reads_agree, logs_agree}
use Rattle.pool_rest.proofs.BroughtCopies.{other_still, tables}
use Rattle.pool_rest.proofs.Joined.{some_at}
use Rattle.pool_rest.proofs.Landings.{where_landed}
use Rattle.pool_rest.proofs.Meant.{few_newest, pending_asked}
use Rattle.pool_rest.proofs.Settled.{newest_now, none_now, seats_same, source_gate, whole_now}

some_standing : (x y : Standing) → Some x ≡ Some y → x ≡ y
some_standing x y same = (cc)

some_state : (x y : State) → Some x ≡ Some y → x ≡ y
some_state x y same = (cc)

-- the state that a pool stands by
newest_of : (disks : Disks) (c : Image) (s : State) → standing disks c ≡ Some (standing_by disks c s) → newest disks (identities_of disks c) ≡ Some s
newest_of disks c s stands =
    let by = stood_by disks c (standing_by disks c s) stands in
    by.1 ∙ ap (λ (x : Standing). Some x.state) (sym by.2)

-- ---- records

-- a record has a target
no_empty : (word numbered few summed sound : Bool) (count : ℕ) (f : ℕ → Target)
    → (if word && (numbered && (nat_le 1 count && (few && (summed && sound)))) then Some (map f (range_with_len 0 count)) else None) ≡ Some [] → ⊥
no_empty word numbered few summed sound count f is =
    let found = cond_some (word && (numbered && (nat_le 1 count && (few && (summed && sound))))) (map f (range_with_len 0 count)) [] is in
    let some : 1 ≤ count = leb-true 1 count (and_parts (nat_le 1 count) _ (and_parts numbered _ (and_parts word _ found.0).1).1).0 in
    of_count count some found.1
  where
    of_count : (n : ℕ) → 1 ≤ n → map f (range_with_len 0 n) ≡ [] → ⊥
    of_count n some none = (let long : length (map f (range_with_len 0 n)) ≡ 0 = ap length none in omega (arith, some, long, length-map-range_with_len f 0 n))

record_some : (number : ℕ) (slice : ℕ → List ℕ) → record_of number slice ≡ Some [] → ⊥
unfolding record_of
record_some number slice is =
    let head : List ℕ = log_bytes slice (half_of number) 96 in
    let count : ℕ = number_at 12 4 head in
    let targets : List Target = map (target_at slice (half_of number) head) (range_with_len 0 count) in
    no_empty (bytes_eq (bytes_at 0 8 head) (codes "SHRBODY1")) (number_at 16 8 head == number) (nat_le count 3996)
    (number_at 8 4 head == crc32_of (put_at 8 4 (replicate 4 0) (log_bytes slice (half_of number) (96 + count))))
    (list_all is_target targets && are_apart targets) count (target_at slice (half_of number) head) is

-- where no log is damaged and no target is pending, no record is
pub none_at : (ps : List ℕ) (c : Image) → damaged_log ps c ≡ None → pending ps c ≡ [] → pending_at ps c ≡ None
none_at ps c whole none = of_pending (pending_at ps c) refl
  where
    of_pending : (o : Option GateAt) → pending_at ps c ≡ o → pending_at ps c ≡ None
    of_pending None is = is
    of_pending (Some a) is =
        let has = whole_record c ps whole a is in
        let empty : has.0 ≡ [] = sym (record_pending c ps a has.0 (λ p named. whole_gates c ps p whole named) is has.1) ∙ none in
        absurd (record_some a.gate.number (c (log_slice a.place)) (has.1 ∙ ap Some empty))

-- ---- nobody was passed over

pub none_flagged : (a x : RackView) (known : List Known) → IsScan a x known → IsUnfaulted a x → list_all (λ k. not k.gone) known ≡ true
none_flagged a x known scan free = all known (λ d k at gone. free d ((scan.each d k at).gone gone))
  where
    all : (ks : List Known) → ((d : ℕ) (k : Known) → slice_get ks d ≡ Some k → k.gone ≡ true → ⊥) → list_all (λ k. not k.gone) ks ≡ true
    all [] none = refl
    all (k ∷ ks) none =
        elim (cases_Bool k.gone) [
          | inl gone ↦ absurd (none 0 k refl gone)
          | inr there ↦ ap₂ (λ a b. not a && b) there (all ks (λ d j at gone. none (suc d) j at gone))
        ]

-- ---- a record was replayed

module _ (a x b : RackView) (known : List Known) (st : State) (m : LogView) (is_pending : Bool) (damaged : Option ℕ) (t : Slices)
    (reads : OnlyReads a x) (stays : SameRack x b) (scan : IsScan a x known) (some : m.pending ≢ [])
    (told : AllTold a) (lasts : IsLasting a) (free : IsUnfaulted a x)
    (stands : StandsAs a st t m is_pending damaged)
    (rests : Rests a b (standing_by (disks_of a) (now_in a) st))
    (sound : HasSoundLogs (disks_of a) (now_in a)) where
  abbrev disks : Disks
  disks = disks_of a

  abbrev c : Image
  c = now_in a

  abbrev e : Image
  e = now_in b

  abbrev before : Standing
  before = standing_by (disks_of a) (now_in a) st

  abbrev brought : State
  brought = seated_state (standing_by (disks_of a) (now_in a) st).targets st

  log : IsSoundLog disks c before brought
  log =
      subst (λ (y : Standing). IsSoundLog disks c y (seated_state y.targets y.state))
      (some_standing sound.before before (sym sound.stands ∙ stands.stands)) sound.log

  targets : m.pending ≡ before.targets
  targets = stands.targets lasts

  newest_before : newest disks (identities_of disks c) ≡ Some st
  newest_before = newest_of disks c st stands.stands

  source : (g : GateAt) × (pending_at (current_places st) before.logs ≡ Some g)
  source = some_at (current_places st) before.logs (λ none. some (targets ∙ none))

  are : AreOf disks (identities_of disks c) known
  are = scan_meant a x known scan told free

  same_contents : IsSameButGates disks e (written disks before c)
  same_contents =
      same_but_gates disks e (written disks before c) rests.contents
      (λ d there sector. elim (rests.gates d there sector) [
        | inl kept ↦ inl (kept ∙ sym (rests.no_gate d there sector))
        | inr shut ↦ inr shut.room
      ])

  late : (p : ℕ) → seat_of brought disks (identities_of disks e) p ≡ seat_of brought disks (identities_of disks (written disks before c)) p
  late = seat_same disks (identities_of disks e) (identities_of disks (written disks before c)) same_contents.identities brought

  newest_late : newest disks (identities_of disks e) ≡ newest disks (identities_of disks (written disks before c))
  newest_late = newest_same disks (identities_of disks e) (identities_of disks (written disks before c)) same_contents.identities

  few_before : length st.drives.items ≤ 16
  few_before = few_newest a st newest_before

  told_now : AllTold b
  told_now = told_later a b (stays_then reads.stays stays) told

  other_now : has_other_pool (disks_of a) (standing_by (disks_of a) (now_in a) st) ≡ false → has_pool_other_than brought.pool.0 disks (identities_of disks e) ≡ false
  other_now one =
      other_same disks (identities_of disks e) (identities_of disks (written disks before c)) same_contents.identities brought.pool.0
      ∙ other_still disks c brought before.targets (pending_sound (current_places st) before.logs).valid (pending_sound (current_places st) before.logs).apart log.copies
      (ap (λ (pool : Id). has_pool_other_than pool.0 disks (identities_of disks c)) log.pool ∙ one)

  newest_after : newest disks (identities_of disks e) ≡ Some brought
  newest_after = newest_now disks c e st brought newest_before log few_before late newest_late source.0 source.1

  -- each place has its disk still, and each disk its table
  pub seats_now : (p : ℕ) → seat_of brought disks (identities_of disks e) p ≡ seat_of brought disks (identities_of disks c) p
  seats_now = seats_same disks c e st brought newest_before log few_before late newest_late source.0 source.1

  pub tables_now : (d : ℕ) → d < disks.count → (identities_of disks e d).table ≡ (identities_of disks c d).table
  tables_now d there =
      ap (λ (i : Identity). i.table) (same_contents.identities d there)
      ∙ tables disks c brought before.targets (pending_sound (current_places st) before.logs).valid (pending_sound (current_places st) before.logs).apart log.copies d

  -- without a copy of a state the state stands, and no log was damaged
  pub state_still : ((p : ℕ) → look before.targets (log_slice p) 0 ≡ None) → brought ≡ st
  state_still none =
      elim log.next [
        | inl same ↦ same
        | inr later ↦ (let copy = later.copy source.0 source.1 in absurd (none-some copy.0 (sym (none source.0.place) ∙ copy.1)))
      ]

  -- it takes no drive in then
  pub lower_still : BringsNoState a → TakesLower a
  lower_still none y at g p d is joins seat room =
      absurd (subst (λ (y : Standing). PlaceJoins y.state (seated_state y.targets y.state) p → ⊥)
      (some_standing before y (sym stands.stands ∙ at))
      (joins_none st brought p (state_still (none before stands.stands)))
      joins)

  -- and no state's sector is written
  pub sector_still : BringsNoState a → (d : ℕ) → d < disks.count → state_sector < disks.sectors d → e d state_sector ≡ c d state_sector
  sector_still none d there room =
      rests.contents d state_sector there room (λ is. absurd (omega (arith, is)))
      ∙ ap (λ b. if b then unwrap_or (look landings d state_sector) (c d state_sector) else c d state_sector) (lt-ltb state_sector (disks.sectors d) room)
      ∙ of_look (look landings d state_sector) refl
    where
      landings : List Target
      landings = filter_map (landed disks (identities_of disks c) (seat_of brought disks (identities_of disks c))) before.targets

      of_look : (o : Option (List ℕ)) → look landings d state_sector ≡ o → unwrap_or (look landings d state_sector) (c d state_sector) ≡ c d state_sector
      of_look None at = ap (λ (o : Option (List ℕ)). unwrap_or o (c d state_sector)) at
      of_look (Some v) at =
          elim (where_landed disks (identities_of disks c) brought before.targets (pending_sound (current_places st) before.logs).valid (pending_sound (current_places st) before.logs).apart d state_sector v at) [
            | inl copy ↦ absurd (none-some v (sym (none before stands.stands copy.place) ∙ copy.target))
            | inr part ↦ absurd (omega (arith, part.0))
          ]

  -- the record brings that state, as the log finds it
  pub brings_state : (on : List ℕ) → IsLaid x known st t on → ((k u : ℕ) → k < 272 → reading (slices_of t x) k u ≡ before.logs k u)
      → TakesLower a → BringsState x known st brought m on (reading (slices_of t x))
  brings_state on laid logs lower = record {
    seats = λ p stays. seat_by_is disks (identities_of disks c) known are brought p ∙ log.seats p stays ∙ sym (seat_by_is disks (identities_of disks c) known are st p);
    copies = λ p u is. log.copies p u (sym (ap (λ xs. look xs (log_slice p) 0) targets) ∙ is);
    next = elim log.next [ inl same ↦ inl same | inr later ↦ inr later.later ];
    at = source.0;
    source = pending_asked x known st t on few_before laid before.logs logs ∙ source.1;
    left = elim log.next [
      | inl same ↦
          stays_same st brought source.0.place same
          (names_filter (is_current st) (range_with_len 0 16) source.0.place
          (sym (ap (λ ps. names ps source.0.place) (current_of_all st few_before)) ∙ (pending_named (current_places st) before.logs source.0 source.1).0)).0
      | inr later ↦ later.source source.0 source.1
    ];
    copy = elim log.next [
      | inl same ↦ inl same
      | inr later ↦
          let copy = later.copy source.0 source.1 in inr (copy.0, ap (λ xs. look xs (log_slice source.0.place) 0) targets ∙ copy.1)
    ];
    joins = λ p d joins seat room.
        let at : seat_of brought disks (identities_of disks c) p ≡ Some d = sym (seat_by_is disks (identities_of disks c) known are brought p) ∙ seat in
        let there : arrays_first ≤ a.sectors d = subst (λ n. arrays_first ≤ n) (reads.stays.sectors d) room in
        subst (IsGateBelow source.0.gate.number)
        (sym (reads_agree a x reads told lasts d drive_gate (seat_inside brought disks (identities_of disks c) p d at) (omega (arith, there))))
        (lower before stands.stands source.0 p d source.1 joins at there);
  }

  pub whole_before : damaged ≡ None
  whole_before = stands.damaged_is lasts ∙ log.whole

  -- whatever refuses a pool after the replay isn't there
  pub no_cause : (why : FindFault) → has_other_pool (disks_of a) (standing_by (disks_of a) (now_in a) st) ≡ false → IsUnfaulted a b → why ≢ Memory
      → IsCause (since a b) b why → ⊥
  no_cause NoPool one still found cause =
      none-some brought
      (sym (cause.2 told_now) ∙ newest_meant (since a b) b cause.0 cause.1 told_now still
      ∙ ap (λ (dk : Disks). newest dk (identities_of dk e)) (disks_same a b (stays_then reads.stays stays)) ∙ newest_after)
  no_cause TwoPools one still found cause =
      let two = cause.2 told_now in
      let same : two.0 ≡ brought =
      some_state two.0 brought
      (sym two.1 ∙ newest_meant (since a b) b cause.0 cause.1 told_now still
      ∙ ap (λ (dk : Disks). newest dk (identities_of dk e)) (disks_same a b (stays_then reads.stays stays)) ∙ newest_after) in
      both_ways false refl
      (sym (other_now one)
      ∙ ap (λ (dk : Disks). has_pool_other_than brought.pool.0 dk (identities_of dk e)) (sym (disks_same a b (stays_then reads.stays stays)))
      ∙ sym (other_meant (since a b) b brought.pool.0 cause.0 cause.1 told_now still)
      ∙ ap (λ (z : State). has_pool_other_than z.pool.0 (disks_of b) (as_read (since a b) cause.0)) (sym same) ∙ two.2)
  no_cause Memory one still found cause = found refl

  module _ (s : State) (l : LogView) (p_now : Bool) (d_now : Option ℕ) (shut : AreShut x b known st (seated_state m.pending st) m.number) (now : StandsNow b s l p_now d_now) where
    closed : (p d : ℕ) → is_current st p ≡ true → is_current brought p ≡ true → seat_of st disks (identities_of disks c) p ≡ Some d
        → seat_of brought disks (identities_of disks c) p ≡ Some d → arrays_first ≤ disks.sectors d → gate_of (e d drive_gate) ≡ Some (record { is_open = false; number = m.number })
    closed p d was is seat_was seat_is room =
        subst (λ z. AreShut x b known st z m.number) (ap (λ (xs : List Target). seated_state xs st) targets) shut
        p d (let listed = is_listed st p was in omega (arith, listed, few_before))
        (seat_by_is disks (identities_of disks c) known are st p ∙ seat_was) (seat_by_is disks (identities_of disks c) known are brought p ∙ seat_is)
        (subst (λ n. arrays_first ≤ n) (sym (reads.stays.sectors d)) room)

    kept : (d : ℕ) → d < disks.count → arrays_first ≤ disks.sectors d
        → (e d drive_gate ≡ c d drive_gate) ⊎ ((g : Gate) × (gate_of (e d drive_gate) ≡ Some g) × (g.is_open ≡ false))
    kept d there room =
        elim (rests.gates d there (omega (arith, room))) [
          | inl same ↦ inl same
          | inr shut ↦ inr (shut.gate, shut.has, shut.closed)
        ]

    pub settled_state : s ≡ brought
    settled_state =
        some_state s brought
        (sym (newest_of (disks_of b) e s now.stands)
        ∙ ap (λ (dk : Disks). newest dk (identities_of dk e)) (disks_same a b (stays_then reads.stays stays)) ∙ newest_after)

    none_after : pending_at (current_places s) (standing_by (disks_of b) e s).logs ≡ None
    none_after =
        ap₂ (λ (dk : Disks) (z : State). pending_at (current_places z) (standing_by dk e z).logs) (disks_same a b (stays_then reads.stays stays)) settled_state
        ∙ none_now disks c e st brought newest_before log few_before late newest_late source.0 source.1 m.number (stands.number lasts source.0 source.1) closed kept

    whole_after : damaged_log (current_places s) (standing_by (disks_of b) e s).logs ≡ None
    whole_after =
        ap₂ (λ (dk : Disks) (z : State). damaged_log (current_places z) (standing_by dk e z).logs) (disks_same a b (stays_then reads.stays stays)) settled_state
        ∙ whole_now disks c e st brought newest_before log few_before late newest_late source.0 source.1 m.number (stands.number lasts source.0 source.1) closed kept

    seats_after : (p : ℕ) → seat_of s (disks_of b) (identities_of (disks_of b) e) p ≡ seat_of brought disks (identities_of disks e) p
    seats_after p = ap₂ (λ (dk : Disks) (z : State). seat_of z dk (identities_of dk e) p) (disks_same a b (stays_then reads.stays stays)) settled_state

    -- gates were closed with the number of the one that the record was read from
    numbers_after : (p d : ℕ) (g : Gate) → seat_of s (disks_of b) (identities_of (disks_of b) e) p ≡ Some d → drive_gate < b.sectors d → gate_of (e d drive_gate) ≡ Some g
        → HadGate a b s g.number
    numbers_after p d g seat within has =
        elim (rests.gates d (seat_inside brought disks (identities_of disks e) p d (sym (seats_after p) ∙ seat))
        (subst (λ n. drive_gate < n) ((stays_then reads.stays stays).sectors d) within)) [
          | inl same ↦ record { place = p; disk = d; seat = seat; gate = g; has = ap gate_of (sym same) ∙ has; number_is = refl }
          | inr shut ↦
              let from = source_gate disks c e st brought newest_before log few_before late newest_late shut.source shut.pends in record {
                place = shut.source.place;
                disk = from.0;
                seat = seats_after shut.source.place ∙ seats_now shut.source.place ∙ from.1;
                gate = shut.source.gate;
                has = from.2;
                number_is = sym shut.number_is ∙ ap (λ (k : Gate). k.number) (some_gate shut.gate g (sym shut.has ∙ has));
              }
        ]
      where
        some_gate : (h k : Gate) → Some h ≡ Some k → h ≡ k
        some_gate h k same = (cc)

    pub settled_after : (p_now ≡ false → d_now ≡ None → MeansTheSame (disks_of a) (now_in a) (now_in b)) → IsSettled a b s p_now d_now
    settled_after means = record {
      idle = idle;
      whole = whole;
      state = λ y is. settled_state ∙ ap (λ (z : Standing). seated_state z.targets z.state) (some_standing before y (sym stands.stands ∙ is));
      none = none_after;
      means = means idle whole;
      numbers = numbers_after;
    }
      where
        idle : p_now ≡ false
        idle = now.pending ∙ ap is_some none_after

        whole : d_now ≡ None
        whole = now.damaged_is ∙ whole_after

-- ---- nothing was to be replayed

pub none_brought : (s : State) → s ≡ seated_state [] s
unfolding foremost
none_brought s = refl

pub settled_idle : (a b : RackView) (st : State) (t : Slices) (m : LogView) (is_pending : Bool) (damaged : Option ℕ) → OnlyReads a b → AllTold a → IsLasting a
    → StandsAs a st t m is_pending damaged → StandsNow b st m is_pending damaged → m.pending ≡ [] → HasSoundLogs (disks_of a) (now_in a)
    → MeansTheSame (disks_of a) (now_in a) (now_in b) → IsSettled a b st is_pending damaged
settled_idle a b st t m is_pending damaged reads told lasts stands now none sound means = record {
  idle = now.pending ∙ ap is_some none_after;
  whole = now.damaged_is ∙ ap (damaged_log (current_places st)) logs_now ∙ log.whole;
  state = λ y is. none_brought st ∙ ap (λ (xs : List Target). seated_state xs st) (sym empty) ∙ ap (λ (z : Standing). seated_state z.targets z.state) (some_standing before y (sym stands.stands ∙ is));
  none = none_after;
  means = means;
  numbers = λ p d g seat within has. record {
    place = p;
    disk = d;
    seat = seat;
    gate = g;
    has =
        ap gate_of (sym (reads_agree a b reads told lasts d drive_gate
        (subst (λ n. d < n) reads.stays.disks (seat_inside st (disks_of b) (identities_of (disks_of b) (now_in b)) p d seat))
        (subst (λ n. drive_gate < n) (reads.stays.sectors d) within))) ∙ has;
    number_is = refl;
  };
}
  where
    before : Standing
    before = standing_by (disks_of a) (now_in a) st

    log : IsSoundLog (disks_of a) (now_in a) (standing_by (disks_of a) (now_in a) st) (seated_state (standing_by (disks_of a) (now_in a) st).targets st)
    log =
        subst (λ (y : Standing). IsSoundLog (disks_of a) (now_in a) y (seated_state y.targets y.state))
        (some_standing sound.before (standing_by (disks_of a) (now_in a) st) (sym sound.stands ∙ stands.stands)) sound.log

    empty : (standing_by (disks_of a) (now_in a) st).targets ≡ []
    empty = sym (stands.targets lasts) ∙ none

    logs_now : (standing_by (disks_of b) (now_in b) st).logs ≡ (standing_by (disks_of a) (now_in a) st).logs
    logs_now =
        ap (λ (dk : Disks). (standing_by dk (now_in b) st).logs) (disks_same a b reads.stays)
        ∙ logs_agree (disks_of a) (now_in b) (now_in a) st (reads_agree a b reads told lasts)

    none_after : pending_at (current_places st) (standing_by (disks_of b) (now_in b) st).logs ≡ None
    none_after = ap (pending_at (current_places st)) logs_now ∙ none_at (current_places st) (standing_by (disks_of a) (now_in a) st).logs log.whole empty

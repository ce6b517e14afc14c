-- A step of a reshape by one commit, or refused (array_sync's Stepping, for any next truth and members that join).
use Rattle.std.proofs.Common.{◌-◌, ◌^◌, ◌%◌, ◌⊎◌, ◌≡◌, ◌≢◌, ℕ, ◌+◌, ◌<◌, ◌≤◌, slice_get, length, Bool, true, false, ◌||◌, List, [], ◌∷◌, ◌++◌, Some, unwrap_or, refl, sym, ap, subst, ◌∙◌, inl, inr, eq-eqb, arith}
use Rattle.std.proofs.lemmas.Bool.{both_ways}
use Rattle.rack.specs.Values.{Values, IsSingle}
use Rattle.rack.specs.Seen.{Image, RackView, IsLive}
use Rattle.rack.specs.Targets.{Target, look}
use Rattle.rack.specs.Sequences.{IsPayload, OnlyReads}
use Rattle.shr_base.specs.declared.Id.{Id}
use Rattle.md_super.specs.declared.superblock.Super.{Super}
use Rattle.pool_state.specs.declared.contents.State.{State}
use Rattle.array_image.specs.Places.{member_slice, super_sector, data_sector}
use Rattle.array_image.specs.Record.{are_apart}
use Rattle.array_image.specs.Arrays.{Member, replayed}
use Rattle.array_image.specs.SoundArray.{IsWrittenSuper, first_unsynced}
use Rattle.array_image.specs.Held.{Among, IsSynced, current_in}
use Rattle.array_image.specs.Left.{IsLeft, PicksLogs}
use Rattle.log_laws.specs.View.{LogView, names, next_number}
use Rattle.log_laws.specs.Commits.{CommitCall}
use Rattle.log_laws.specs.Standing.{IsReady, SomeoneDecides}
use Rattle.log_laws.specs.Kept.{LogInvariant, gone_with}
use Rattle.log_laws.proofs.KeptAfter.{kept_more}
use Rattle.commit_log.proofs.Story.{payload_is}
use Rattle.array_model.specs.declared.Seat.{Seat}
use Rattle.array_model.specs.declared.Seat.TheVariants.{Missing}
use Rattle.array_model.specs.View.{View, IsArray, LosesPlaces, has_gone, is_missing_seat, place_at, sectors_of, shape_of, spent_in}
use Rattle.array_model.specs.Says.{ArrayInvariant, IsOpen}
use Rattle.array_model.specs.Members.{HasSlices, IsSameButSeats, Notes, slice_on}
use Rattle.array_model.specs.ArrayCalls.{IncludesSpent, HasFields}
use Rattle.array_model.proofs.Keeping.{left_before, live_on, open_after}
use Rattle.array_model.proofs.Looking.{look_payload}
use Rattle.array_model.proofs.Moves.{CallRefines, moves_then}
use Rattle.array_model.proofs.Noting.{covers_before, holds_noted, losing_by, losing_of, read_acts}
use Rattle.array_model.proofs.Reading.{missing_before}
use Rattle.array_model.proofs.RowWrites.{gone_none}
use Rattle.array_model.proofs.Views.{either_of, fault_early, fault_later}
use Rattle.array_core.specs.Pool.{MayCommit, MayLog}
use Rattle.array_core.specs.Staging.{AddsSupersOf, HasRowRebuilds}
use Rattle.array_core.specs.TruthHeld.{HasFewBits, HoldTruth}
use Rattle.array_core.proofs.LogWrites.{refused_kept}
use Rattle.array_core.proofs.RowCommits.{IsOwnData}
use Rattle.array_core.proofs.RowLists.{payload_left, payload_or}
use Rattle.array_core.proofs.Staged.{slot_on}
use Rattle.array_core.proofs.Stripped.{strip}
use Rattle.array_core.proofs.SupersLeft.{supers_reads}
use Rattle.array_core.proofs.TruthHeld.{hold_noted, live_now, reads_supers}
use Rattle.array_core.proofs.TruthStaged.{hold_committed, left_there}
use Rattle.sync_laws.specs.Steps.{as_it_was, done}
use Rattle.sync_laws.proofs.Copying.{apart_joined}
use Rattle.sync_laws.proofs.Owed.{SaysEither, among_payload}
use Rattle.sync_laws.proofs.Stepping.{read_moves}
use Rattle.sync_laws.proofs.Supers.{IsMemberSuper, supers_apart, supers_on}
use Rattle.reshape_laws.specs.Ahead.{ShapeMoves, changed}
use Rattle.reshape_laws.specs.Reshapes.{MayReshape, Reshapes}
use Rattle.reshape_laws.proofs.LoggedOn.{AreOnMembers, log_decides, log_kept, log_quiet, log_ready, nobody}
use Rattle.reshape_laws.proofs.Moved.{durable_now, moved}

-- ---- a step that was refused before its commit

pub refused_reshapes : (v g w : View) (number : ℕ) (on : List ℕ) (a b : RackView) (answered : Bool) → a.lasting → IsArray v → OnlyReads a b → Notes v w a b → answered ≡ false
    → Reshapes v g w number number on a b answered
refused_reshapes v g w number on a b answered lasting is_array reads notes refused = record {
  steps = record {
    is_done = false;
    answer = λ is. absurd (both_ways answered refused is);
    view = as_it_was notes;
    spent = λ rows y low alive. covers_before v w notes.lost (losing_by v w a b notes) (spent_in w) (λ k unspent. unspent) y alive;
  };
  kept_supers = λ none. supers_reads v.number a b lasting reads;
  undone = λ none s vals spent covers may. read_acts a b v w lasting reads is_array notes s (shape_of v) vals spent covers;
  moving = λ s vals spent covers may.
      let moves = read_moves s v g a b vals spent lasting reads in
      record {
        stays = moves.stays;
        leaves = moves.leaves;
        holds = λ holds. holds_noted v w a b b is_array notes s (shape_of v) vals spent covers (moves.holds holds).1;
        apart = moves.apart;
        calm = moves.calm;
        bounded = moves.bounded;
      };
  durable = λ none. absurd (both_ways false refl none);
  kept = λ s may. refused_kept s number w a b lasting reads may.commit.log;
  truth = λ bits told. hold_noted v w a b lasting is_array.few reads.stays notes (reads_supers a b reads);
}

-- ---- what a step is

-- a target is a sector of the data of a member of the next array that isn't missing
pub record IsDataOn (g : View) (d s : ℕ) (u : List ℕ) : Type 0 where
  pub position : ℕ
  pub low : position < g.truth.raid_disks
  pub there : slice_get g.seats position ≢ Some Missing
  pub disk : d ≡ slice_on g position
  pub sector : ℕ
  pub at : s ≡ data_sector + sector
  pub inside : sector < g.truth.size
  pub long : length u ≡ 512

-- A step makes another truth and other members of an array, and writes these sectors of its members' data. No value changes.
pub record Step (v : View) (next_truth : Super) (seats : List Seat) (devices : List Id) (resync : ℕ) (joins : Member → Type 0) (own_data : List Target) (a b : RackView) : Type 0 where
  pub is_array : IsArray v
  pub next : IsArray (changed v next_truth seats devices resync v.marked)
  pub on : (d t : ℕ) (u : List ℕ) → IsPayload own_data d t u → IsDataOn (changed v next_truth seats devices resync v.marked) d t u
  pub apart : are_apart own_data ≡ true
  pub keeps : (k : ℕ) → k < v.truth.raid_disks → (k < next_truth.raid_disks) × (place_at (changed v next_truth seats devices resync v.marked) k ≡ place_at v k)
  pub written : (v.truth.resync_offset ≡ 2 ^ 64 - 1) ⊎ (v.truth.resync_offset % 128 ≡ 0) → IsWrittenSuper v.number (strip v.truth) → IsWrittenSuper v.number next_truth
  pub unsynced : first_unsynced next_truth ≤ resync
  pub some : ℕ
  pub some_low : some < next_truth.raid_disks
  pub some_there : is_missing_seat (slot_on (changed v next_truth seats devices resync v.marked) some).seat ≡ false
  pub joiner : (m : Member) → joins m → Among m (shape_of (changed v next_truth seats devices resync v.marked)).members × (Among m (shape_of v).members → ⊥)
  pub settled :
      v.marked ≡ false → (s : State) (vals : ℕ → Values) (spent : ℕ → Bool) → ArrayInvariant s (shape_of v) v vals spent a → ArrayInvariant s (shape_of v) v vals spent b
      → IsSynced (shape_of v) v.number b.held
  pub rows : HasRowRebuilds v → HasRowRebuilds (changed v next_truth seats devices resync v.marked)
  pub live :
      HasRowRebuilds v → IsOpen (shape_of v) v.number a → IsOpen (shape_of (changed v next_truth seats devices resync v.marked)) v.number a
      → (d t : ℕ) (u : List ℕ) → IsPayload own_data d t u → IsLive a a d t
  pub moves :
      v.marked ≡ false → HasRowRebuilds v
      → (s : State) (vals : ℕ → Values) (spent : ℕ → Bool) → ArrayInvariant s (shape_of v) v vals spent a → ArrayInvariant s (shape_of v) v vals spent b
      → ShapeMoves v.number (shape_of v) (shape_of (changed v next_truth seats devices resync v.marked)) v.resync resync spent joins (current_in b.held) own_data

-- ---- its targets

module _ (v : View) (next_truth : Super) (seats : List Seat) (devices : List Id) (resync : ℕ) (joins : Member → Type 0) (supers own_data : List Target) (a b : RackView)
    (step : Step v next_truth seats devices resync joins own_data a b)
    (adds : AddsSupersOf (changed v next_truth seats devices resync v.marked) [] supers) where
  abbrev g : View
  g = changed v next_truth seats devices resync v.marked

  super_at : (d i : ℕ) (u : List ℕ) → IsPayload supers d i u → IsMemberSuper (changed v next_truth seats devices resync v.marked) d i u
  super_at d i u pay = supers_on g [] supers step.next adds d i u (subst (λ xs. IsPayload xs d i u) adds.appended pay)

  pub on_members : AreOnMembers (changed v next_truth seats devices resync v.marked) (supers ++ own_data)
  on_members d i u pay = elim (payload_or supers own_data d i u pay) [
    | inl super ↦ (let at = super_at d i u super in
        record { position = at.position; low = at.low; there = at.there; disk = at.disk; sector = inl at.sector })
    | inr own ↦ (let at = step.on d i u own in
        record { position = at.position; low = at.low; there = at.there; disk = at.disk; sector = inr (at.sector, at.at, at.inside) })
  ]

  pub own_is : IsOwnData v.number own_data
  own_is = record {
    own = λ d i u found.
        let at = step.on d i u (look_payload own_data d i u found) in
        let disk = at.disk in
        let sector = at.at in
        let few = step.is_array.few in
        (omega (arith, disk, few), omega (arith, sector));
    sized = λ d i u found. (step.on d i u (look_payload own_data d i u found)).long;
  }

  pub supers_once : are_apart supers ≡ true
  supers_once = ap are_apart adds.appended ∙ supers_apart g [] supers step.next adds

  pub all_apart : are_apart (supers ++ own_data) ≡ true
  all_apart =
      apart_joined supers own_data supers_once step.apart
      (λ d i u w super own.
      let first = (super_at d i u super).sector in
      let later = (step.on d i w own).at in
      omega (arith, first, later))

  pub of_supers : (d i : ℕ) (u : List ℕ) → look supers d i ≡ Some u
      → (k : ℕ) × (k < next_truth.raid_disks) × (d ≡ member_slice (place_at (changed v next_truth seats devices resync v.marked) k) v.number) × (i ≡ super_sector)
  of_supers d i u found =
      let at = super_at d i u (look_payload supers d i u found) in
      (at.position, at.low, at.disk, at.sector)

  pub all_live : (s : State) (w : View) (number : ℕ) (on : List ℕ) → HasSlices (changed v next_truth seats devices resync v.marked) a → MayCommit s v w number on a
      → ((d i : ℕ) (u : List ℕ) → IsPayload own_data d i u → IsLive a a d i)
      → (d i : ℕ) (u : List ℕ) → IsPayload (supers ++ own_data) d i u → IsLive a a d i
  all_live s w number on slices may own_live d i u pay = elim (payload_or supers own_data d i u pay) [ inl super ↦ super_live super | inr own ↦ own_live d i u own ]
    where
      super_live : IsPayload supers d i u → IsLive a a d i
      super_live super =
          let at = super_at d i u super in
          let placed = step.next.placed at.position at.low in
          let few : place_at g at.position < 16 = subst (λ (p : ℕ). p < 16) (sym (ap (λ o. unwrap_or o 16) placed.1)) placed.2 in
          let sectors = slices.sectors at.position at.low at.there in
          subst (λ e. IsLive a a e i) (sym at.disk)
          (subst (λ e. IsLive a a (slice_on g at.position) e) (sym at.sector)
          (may.renew.supers (place_at g at.position) few (omega (arith, sectors))))

-- ---- a step that was committed

or_first : (p q : Bool) → (p || q) ≡ false → p ≡ false
or_first true q is = absurd (both_ways true is refl)
or_first false q is = refl

none_named : (places : List ℕ) → ((p : ℕ) → names places p ≡ false) → places ≡ []
none_named [] none = refl
none_named (p ∷ places) none = absurd (both_ways (names (p ∷ places) p) (none p) (ap (λ (b : Bool). b || names places p) (eq-eqb p p refl)))

module _ (v u w : View) (next_truth : Super) (seats : List Seat) (devices : List Id) (resync : ℕ) (joins : Member → Type 0) (a b c : RackView) (l : LogView) (on lost : List ℕ) (supers own_data : List Target) (number after : ℕ)
    (step : Step v next_truth seats devices resync joins own_data a b)
    (adds : AddsSupersOf (changed v next_truth seats devices resync v.marked) [] supers) (added : l.added ≡ supers ++ own_data)
    (slices : HasSlices (changed v next_truth seats devices resync v.marked) a) (reads : OnlyReads a b) (notes : Notes v u a b)
    (commit : CommitCall l on lost b c)
    (same_g : IsSameButSeats (changed v next_truth seats devices resync v.marked) w)
    (loses_g : LosesPlaces (changed v next_truth seats devices resync v.marked) w (λ place. names lost place || notes.lost place))
    (number_is : l.number ≡ number) (after_is : after ≡ next_number l.number) where
  abbrev h : View
  h = changed v next_truth seats devices resync v.marked

  lasting : a.lasting
  lasting = slices.lasting

  is_array : IsArray v
  is_array = step.is_array

  left_w : (place : ℕ) → has_gone w place ≡ false → names lost place ≡ false
  left_w place none =
      or_first (names lost place) (notes.lost place)
      (or_first (names lost place || notes.lost place) (has_gone h place) (sym (loses_g.went place) ∙ none))

  members_on : AreOnMembers (changed v next_truth seats devices resync v.marked) l.added
  members_on = subst (AreOnMembers h) (sym added) (on_members v next_truth seats devices resync joins supers own_data a b step adds)

  may_log : (s : State) → MayReshape s v (changed v next_truth seats devices resync v.marked) w number on a → MayLog s (changed v next_truth seats devices resync v.marked) w l.number on a
  may_log s may = subst (λ k. MayLog s h w k on a) (sym number_is)
      (record { state = may.state; opened = may.opened; log = may.commit.log; room = may.commit.room; places = may.commit.places; someone = may.commit.someone })

  live_all : (s : State) → MayReshape s v (changed v next_truth seats devices resync v.marked) w number on a → (d i : ℕ) (x : List ℕ) → IsPayload l.added d i x → IsLive a a d i
  live_all s may d i x pay =
      all_live v next_truth seats devices resync joins supers own_data a b step adds s w number on slices may.commit
      (step.live may.commit.renew.rows may.commit.opened may.opened) d i x (subst (λ xs. IsPayload xs d i x) added pay)

  module _ (s : State) (vals : ℕ → Values) (spent : ℕ → Bool) (covers : IncludesSpent w spent) (may : MayReshape s v (changed v next_truth seats devices resync v.marked) w number on a) where
    abbrev Middle : Type 0
    Middle = ArrayInvariant s (shape_of v) v vals spent a × ArrayInvariant s (shape_of v) v vals spent b

    opened_b : Middle → IsOpen (shape_of (changed v next_truth seats devices resync v.marked)) v.number b
    opened_b held = open_after lasting reads.stays (shape_of h) v.number may.opened

    joined_b : Middle → (m : Member) → joins m → (i : ℕ) → i < m.reach
        → IsSingle (b.held (member_slice m.place v.number) (data_sector + i)) × (length (current_in b.held (member_slice m.place v.number) (data_sector + i)) ≡ 512)
    joined_b held m joining i counts =
        let who = step.joiner m joining in
        let first = may.joining m i who.0 who.1 counts in
        let keeps = reads.keeps.held (member_slice m.place v.number) (data_sector + i) (live_on lasting reads.stays (may.opened m i who.0 counts)) in
        (λ u leaves. first.0 u (keeps.within u leaves) ∙ sym keeps.current, ap length keeps.current ∙ first.1)

    moves_b : Middle → ShapeMoves v.number (shape_of v) (shape_of (changed v next_truth seats devices resync v.marked)) v.resync resync spent joins (current_in b.held) own_data
    moves_b held = step.moves may.unmarked may.commit.renew.rows s vals spent held.0 held.1

    single_b : Middle → IsSynced (shape_of v) v.number b.held
    single_b held = step.settled may.unmarked s vals spent held.0 held.1

    ready : IsReady l on b
    ready = log_ready s h w a b c l on lost step.next lasting reads members_on (live_all s may) commit (may_log s may) left_w

    decides : SomeoneDecides l.added on lost b
    decides = log_decides s h w a b c l on lost step.next lasting reads members_on (live_all s may) commit (may_log s may) left_w

    kept_log : LogInvariant s (next_number l.number) (gone_with nobody lost) c
    kept_log = log_kept s h w a b c l on lost step.next lasting reads members_on (live_all s may) commit (may_log s may) left_w

    quiet : (i : Image) → PicksLogs b i → (d t : ℕ) → replayed b.sectors i d t ≡ i d t
    quiet = log_quiet s h w a b c l on lost step.next lasting reads members_on (live_all s may) commit (may_log s may) left_w

    pub commit_moves : CallRefines v.number b c Middle (SaysEither s v (changed v next_truth seats devices resync v.marked) a vals spent) (ArrayInvariant s (shape_of (changed v next_truth seats devices resync v.marked)) w vals spent c)
    commit_moves =
        moved s v w next_truth seats devices resync v.marked joins a b c l on lost (λ place. names lost place || notes.lost place) supers own_data
        is_array step.next may.commit.renew.fresh may.unmarked
        commit ready decides kept_log quiet
        (λ r left. left_before lasting reads.stays (λ d t live. reads.keeps.held d t live) r left)
        added (ap are_apart added ∙ all_apart v next_truth seats devices resync joins supers own_data a b step adds) adds
        (supers_once v next_truth seats devices resync joins supers own_data a b step adds) (of_supers v next_truth seats devices resync joins supers own_data a b step adds)
        step.keeps
        (own_is v next_truth seats devices resync joins supers own_data a b step adds)
        may.state (step.rows may.commit.renew.rows) (step.written may.whole) step.unsynced
        step.some step.some_low step.some_there
        (losing_of h w (λ place. names lost place || notes.lost place) same_g loses_g)
        (λ place none. or_first (names lost place) (notes.lost place) none)
        (λ none. none_named lost (λ place. left_w place (gone_none w none place)))
        vals spent covers Middle (λ held. held.1) single_b opened_b joined_b moves_b

    pub all_moves : CallRefines v.number a c (ArrayInvariant s (shape_of v) v vals spent a) (SaysEither s v (changed v next_truth seats devices resync v.marked) a vals spent) (ArrayInvariant s (shape_of (changed v next_truth seats devices resync v.marked)) w vals spent c)
    all_moves =
        moves_then v.number a b c (ArrayInvariant s (shape_of v) v vals spent a) Middle (ArrayInvariant s (shape_of h) w vals spent c) (SaysEither s v h a vals spent)
        lasting (λ d t live other. reads.keeps.held d t live) (read_moves s v h a b vals spent lasting reads) commit_moves

    pub all_durable : ArrayInvariant s (shape_of v) v vals spent a → (r : Image) → IsLeft c r → HasFields s v.number next_truth r
    all_durable held r left =
        durable_now s v w next_truth seats devices resync v.marked joins a b c l on lost (λ place. names lost place || notes.lost place) supers own_data
        is_array step.next may.commit.renew.fresh may.unmarked
        commit ready decides kept_log quiet
        (λ q early. left_before lasting reads.stays (λ d t live. reads.keeps.held d t live) q early)
        added (ap are_apart added ∙ all_apart v next_truth seats devices resync joins supers own_data a b step adds) adds
        (supers_once v next_truth seats devices resync joins supers own_data a b step adds) (of_supers v next_truth seats devices resync joins supers own_data a b step adds)
        step.keeps
        (own_is v next_truth seats devices resync joins supers own_data a b step adds)
        may.state (step.rows may.commit.renew.rows) (step.written may.whole) step.unsynced
        step.some step.some_low step.some_there
        (losing_of h w (λ place. names lost place || notes.lost place) same_g loses_g)
        (λ place none. or_first (names lost place) (notes.lost place) none)
        (λ none. none_named lost (λ place. left_w place (gone_none w none place)))
        vals spent covers Middle (λ both. both.1) single_b opened_b joined_b moves_b
        ((read_moves s v h a b vals spent lasting reads).holds held) r left

  noted_g : Notes (changed v next_truth seats devices resync v.marked) w a c
  noted_g = record {
    same = same_g;
    lost = λ place. names lost place || notes.lost place;
    loses = loses_g;
    cause = λ place is_lost. elim (either_of (names lost place) (notes.lost place) is_lost) [
      | inl later ↦ fault_later a b c place reads.stays (commit.gone.cause place later)
      | inr early ↦ fault_early a b c place commit.stays (notes.cause place early)
    ];
  }

  all_kept : (s : State) → MayReshape s v (changed v next_truth seats devices resync v.marked) w number on a → LogInvariant s after (has_gone w) c
  all_kept s may =
      subst (λ k. LogInvariant s k (has_gone w) c) (sym after_is)
      (kept_more s (next_number l.number) (gone_with nobody lost) (has_gone w) c
      (λ place named. loses_g.went place ∙ ap (λ (p : Bool). (p || notes.lost place) || has_gone h place) named)
      (log_kept s h w a b c l on lost step.next lasting reads members_on (live_all s may) commit (may_log s may) left_w))

  all_truth : HasFewBits next_truth → ((k : ℕ) → k < next_truth.raid_disks → slice_get seats k ≢ Some Missing → IsLive a a (slice_on (changed v next_truth seats devices resync v.marked) k) super_sector) → HoldTruth w c
  all_truth bits told =
      hold_committed h l [] supers adds step.next
      (λ x among.
      payload_is l.added x.disk x.sector x.bytes (ap are_apart added ∙ all_apart v next_truth seats devices resync joins supers own_data a b step adds)
      (subst (λ xs. IsPayload xs x.disk x.sector x.bytes) (sym added)
      (payload_left supers own_data x.disk x.sector x.bytes
      (subst (λ xs. IsPayload xs x.disk x.sector x.bytes) (sym adds.appended) (among_payload adds.targets x among)))))
      w on lost b c (reads.stays.lasting lasting) bits commit same_g.number same_g.truth
      (λ k low there. (
        missing_before h w k (λ place. names lost place || notes.lost place) loses_g there,
        or_first (names lost (place_at h k)) (notes.lost (place_at h k))
            (left_there h w (λ place. names lost place || notes.lost place) k step.next loses_g low there),
      ))
      (λ k low there. live_now a b (slice_on h k) super_sector lasting reads.stays (told k low there))

  pub committed_reshapes : (answered : Bool)
      → (HasRowRebuilds v → (y : ℕ) → y < sectors_of v → spent_in (changed v next_truth seats devices resync v.marked) y ≡ false → spent_in v y ≡ false)
      → (HasFewBits v.truth → HasFewBits next_truth)
      → Reshapes v (changed v next_truth seats devices resync v.marked) w number after on a c answered
  committed_reshapes answered unspent_step few_bits = record {
    steps = record {
      is_done = true;
      answer = λ ok. refl;
      view = done noted_g;
      spent = λ rows y low alive.
          unspent_step rows y low
          (covers_before h w (λ place. names lost place || notes.lost place) (losing_of h w _ same_g loses_g) (spent_in w) (λ k unspent. unspent) y alive);
    };
    kept_supers = λ none. absurd (both_ways true none refl);
    undone = λ none. absurd (both_ways true none refl);
    moving = λ s vals spent covers may.
        let moves = all_moves s vals spent covers may in
        record { stays = moves.stays; leaves = moves.leaves; holds = moves.holds; apart = moves.apart; calm = moves.calm; bounded = moves.bounded };
    durable = λ is_done s vals spent covers may held r left. all_durable s vals spent covers may held r left;
    kept = all_kept;
    truth = λ bits told held. all_truth (few_bits bits) told;
  }

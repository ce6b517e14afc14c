-- A step of an array by one commit, or refused: what it does to the array.
use Rattle.std.proofs.Common.{◌≡◌, ◌≢◌, ℕ, ◌+◌, ◌-◌, ◌*◌, ◌<◌, ◌≤◌, ◌^◌, slice_get, length, Bool, true, false, ◌||◌, List, [], ◌∷◌, ◌++◌, Some, unwrap_or, refl, sym, ap, subst, ◌∙◌, inl, inr, eq-eqb, le-ltb, ltb-false, arith}
use Rattle.std.proofs.lemmas.Bool.{both_ways}
use Rattle.rack.specs.Values.{Values}
use Rattle.rack.specs.Seen.{Image, RackView, IsLive, IsPick}
use Rattle.rack.specs.Joins.{leaves_weaker}
use Rattle.rack.specs.Targets.{Target, look}
use Rattle.rack.specs.Sequences.{IsPayload, OnlyReads}
use Rattle.pool_state.specs.declared.contents.State.{State}
use Rattle.array_image.specs.Places.{member_slice, super_sector, data_sector}
use Rattle.array_image.specs.Record.{are_apart}
use Rattle.array_image.specs.Arrays.{Member, replayed}
use Rattle.array_image.specs.Even.{AreEven}
use Rattle.array_image.specs.SoundArray.{first_unsynced}
use Rattle.array_image.specs.Held.{Among, IsSynced, current_in}
use Rattle.array_image.specs.Marks.{lowered}
use Rattle.array_model.specs.Rows.{written}
use Rattle.array_image.specs.Left.{IsInside, IsLeft, PicksLogs}
use Rattle.array_image.specs.Spent.{wanting}
use Rattle.log_laws.specs.View.{LogView, names, next_number}
use Rattle.log_laws.specs.Commits.{CommitCall}
use Rattle.log_laws.specs.Standing.{IsReady, SomeoneDecides}
use Rattle.log_laws.specs.Kept.{LogInvariant, gone_with}
use Rattle.log_laws.proofs.KeptAfter.{kept_more}
use Rattle.commit_log.proofs.Story.{payload_is}
use Rattle.array_model.specs.declared.Seat.{Seat}
use Rattle.array_model.specs.declared.Seat.TheVariants.{Missing}
use Rattle.array_model.specs.Stages.{IsStateOf}
use Rattle.array_model.specs.View.{View, IsArray, LosesPlaces, has_gone, is_missing_seat, is_whole_array, place_at, shape_of, spent_in}
use Rattle.array_model.specs.Says.{ArrayInvariant, IsOpen}
use Rattle.array_model.specs.Members.{HasSlices, IsSameButSeats, Notes, members_of, slice_on}
use Rattle.array_model.specs.ArrayCalls.{IncludesSpent, ImageInCall, HasFields}
use Rattle.array_model.proofs.Keeping.{keeping_calls, left_before, logs_of, open_after, pick_before}
use Rattle.array_model.proofs.Looking.{look_payload}
use Rattle.array_model.proofs.Moves.{CallRefines, moves_then}
use Rattle.array_model.proofs.Noting.{covers_before, holds_noted, losing_by, losing_of}
use Rattle.array_model.proofs.Reading.{missing_before}
use Rattle.array_model.proofs.RowWrites.{gone_none}
use Rattle.array_model.proofs.Spared.{wanting_more}
use Rattle.array_model.proofs.Views.{either_of, fault_early, fault_later, loses_then, members_then}
use Rattle.array_core.specs.Pool.{MayCommit}
use Rattle.array_core.specs.Staging.{AddsSupersOf, HasRowRebuilds}
use Rattle.array_core.specs.TruthHeld.{HasFewBits, HoldTruth}
use Rattle.array_core.proofs.Staged.{slot_on}
use Rattle.array_core.proofs.LogWrites.{refused_kept}
use Rattle.array_core.proofs.RowCommits.{IsOwnData}
use Rattle.array_core.proofs.RowLists.{payload_left, payload_or}
use Rattle.array_core.proofs.TruthHeld.{hold_noted, live_now, reads_supers}
use Rattle.array_core.proofs.TruthStaged.{hold_committed, left_there}
use Rattle.sync_laws.specs.Rows.{lacks_row}
use Rattle.sync_laws.specs.Steps.{MayStep, Steps, as_it_was, done}
use Rattle.sync_laws.proofs.Copying.{apart_joined}
use Rattle.sync_laws.proofs.Logged.{AreOnMembers, log_decides, log_kept, log_quiet, log_ready, nobody}
use Rattle.sync_laws.proofs.Moved.{data_after, durable_now, kept_now, moved, settled_now}
use Rattle.sync_laws.proofs.Owed.{RowMoves, SaysEither, among_payload, restated}
use Rattle.sync_laws.proofs.Supers.{IsMemberSuper, supers_apart, supers_on}

-- ---- reads

-- during them contents say the array as before, with superblocks from before
pub read_moves : (s : State) (v g : View) (a b : RackView) (vals : ℕ → Values) (spent : ℕ → Bool) → a.lasting → OnlyReads a b
    → CallRefines v.number a b (ArrayInvariant s (shape_of v) v vals spent a) (SaysEither s v g a vals spent) (ArrayInvariant s (shape_of v) v vals spent a × ArrayInvariant s (shape_of v) v vals spent b)
read_moves s v g a b vals spent lasting reads =
    let keeps = keeping_calls a b lasting reads.stays reads.keeps s (shape_of v) v vals spent in
    let H : Type 0 = ArrayInvariant s (shape_of v) v vals spent a in
    record {
      stays = keeps.stays;
      leaves = λ traced.
          leaves_weaker (IsPick a b a.held) (λ c. IsInside a.sectors c → ImageInCall v.number a b (λ r. H → SaysEither s v g a vals spent r) c)
          (λ c pick inside.
          let picks = pick_before lasting reads.stays c inside pick in
          record {
            before = replayed a.sectors c;
            left = (c, picks, λ d t. refl);
            others = λ d t apart. refl;
            own = λ holds. inl (holds.shape.says (replayed a.sectors c) (c, picks, λ d t. refl), (replayed a.sectors c, (c, picks, λ d t. refl), λ place. refl));
            whole = λ whole. whole;
            calm = λ calm. calm c (logs_of c picks);
            bounded = λ bounded. bounded c (logs_of c picks);
          })
          (reads.keeps.stops traced);
      holds = λ holds. (holds, keeps.holds holds);
      apart = keeps.apart;
      calm = keeps.calm;
      bounded = keeps.bounded;
    }

-- ---- a row that was refused before its commit

pub refused_steps : (v g w : View) (number : ℕ) (on : List ℕ) (a b : RackView) (answered : Bool) → a.lasting → IsArray v → OnlyReads a b → Notes v w a b → answered ≡ false
    → Steps v g w number number on a b answered
refused_steps v g w number on a b answered lasting is_array reads notes refused = record {
  is_done = false;
  answer = λ is. absurd (both_ways answered refused is);
  view = as_it_was notes;
  idle = λ none. reads;
  spent = λ rows y alive. covers_before v w notes.lost (losing_by v w a b notes) (spent_in w) (λ k unspent. unspent) y alive;
  moving = λ s vals spent covers may.
      let moves = read_moves s v g a b vals spent lasting reads in
      record {
        stays = moves.stays;
        leaves = moves.leaves;
        holds = λ holds. holds_noted v w a b b is_array notes s (shape_of v) vals spent covers (moves.holds holds).1;
        apart = moves.apart;
        calm = moves.calm;
        bounded = moves.bounded;
      };
  durable = λ none. absurd (both_ways false refl none);
  kept = λ s may. refused_kept s number w a b lasting reads may.commit.log;
  truth = λ bits. hold_noted v w a b lasting is_array.few reads.stays notes (reads_supers a b reads);
}

-- ---- what a step is

-- a target is a sector of a member's data
pub record IsDataOn (v : View) (d s : ℕ) (u : List ℕ) : Type 0 where
  pub position : ℕ
  pub low : position < v.truth.raid_disks
  pub there : slice_get v.seats position ≢ Some Missing
  pub disk : d ≡ slice_on v position
  pub sector : ℕ
  pub at : s ≡ data_sector + sector
  pub inside : sector < v.truth.size
  pub long : length u ≡ 512

-- A step makes another truth and other seats of an array, and writes these sectors of its members' data. It keeps the values of the
-- sectors that aren't spent in maps that it can have.
pub record Step (v : View) (events offset resync : ℕ) (seats : List Seat) (marked : Bool) (own_data : List Target) (a b : RackView) (needs : (ℕ → Bool) → Type 0) : Type 0 where
  pub is_array : IsArray v
  pub next : IsArray (restated v events offset resync seats marked)
  pub on : (d t : ℕ) (u : List ℕ) → IsPayload own_data d t u → IsDataOn v d t u
  pub apart : are_apart own_data ≡ true
  pub present : (k : ℕ) → slice_get seats k ≢ Some Missing → slice_get v.seats k ≢ Some Missing
  pub more : v.truth.events ≤ events
  pub unsynced : first_unsynced (record v.truth { events = events; resync_offset = offset }) ≤ resync
  pub some : ℕ
  pub some_low : some < v.truth.raid_disks
  pub some_there : is_missing_seat (slot_on (restated v events offset resync seats marked) some).seat ≡ false
  pub settled :
      (v.marked ≡ true → is_whole_array v ≡ true) → (s : State) (vals : ℕ → Values) (spent : ℕ → Bool) → needs spent → ArrayInvariant s (shape_of v) v vals spent b
      → IsSynced (shape_of v) v.number b.held
  pub unmarked : (v.marked ≡ true → is_whole_array v ≡ true) → marked ≡ false
  pub state : (s : State) → IsStateOf v s → v.truth.events < 2 ^ 63 - 1 → IsStateOf (restated v events offset resync seats marked) s
  pub rows : HasRowRebuilds v → HasRowRebuilds (restated v events offset resync seats marked)
  pub live :
      HasRowRebuilds v → IsOpen (shape_of v) v.number a → IsOpen (shape_of (restated v events offset resync seats marked)) v.number a
      → (d t : ℕ) (u : List ℕ) → IsPayload own_data d t u → IsLive a a d t
  pub moves :
      HasRowRebuilds v → IsOpen (shape_of v) v.number a
      → ((m : Member) (t : ℕ) → Among m (shape_of v).members → t < m.reach → length (current_in b.held (member_slice m.place v.number) (data_sector + t)) ≡ 512)
      → AreEven (shape_of v) v.number v.resync (current_in b.held)
      → (spent : ℕ → Bool) → needs spent → RowMoves v (shape_of (restated v events offset resync seats marked)) resync spent (current_in b.held) own_data

-- ---- its targets

module _ {needs : (ℕ → Bool) → Type 0} (v : View) (events offset resync : ℕ) (seats : List Seat) (marked : Bool) (supers own_data : List Target) (a b : RackView)
    (step : Step v events offset resync seats marked own_data a b needs)
    (adds : AddsSupersOf (restated v events offset resync seats marked) [] supers) where
  abbrev after_step : View
  after_step = restated v events offset resync seats marked

  super_at : (d t : ℕ) (u : List ℕ) → IsPayload supers d t u → IsMemberSuper (restated v events offset resync seats marked) d t u
  super_at d t u pay = supers_on after_step [] supers step.next adds d t u (subst (λ xs. IsPayload xs d t u) adds.appended pay)

  -- each is on a member that isn't missing
  pub on_members : AreOnMembers v (supers ++ own_data)
  on_members d t u pay = elim (payload_or supers own_data d t u pay) [
    | inl super ↦ (let at = super_at d t u super in
        record { position = at.position; low = at.low; there = step.present at.position at.there; disk = at.disk; sector = inl at.sector })
    | inr own ↦ (let at = step.on d t u own in
        record { position = at.position; low = at.low; there = at.there; disk = at.disk; sector = inr (at.sector, at.at, at.inside) })
  ]

  pub own_is : IsOwnData v.number own_data
  own_is = record {
    own = λ d t u found.
        let at = step.on d t u (look_payload own_data d t u found) in
        let disk = at.disk in
        let sector = at.at in
        let few = step.is_array.few in
        (omega (arith, disk, few), omega (arith, sector));
    sized = λ d t u found. (step.on d t u (look_payload own_data d t u found)).long;
  }

  pub supers_once : are_apart supers ≡ true
  supers_once = ap are_apart adds.appended ∙ supers_apart after_step [] supers step.next adds

  pub all_apart : are_apart (supers ++ own_data) ≡ true
  all_apart =
      apart_joined supers own_data supers_once step.apart
      (λ d t u w super own.
      let first = (super_at d t u super).sector in
      let later = (step.on d t w own).at in
      omega (arith, first, later))

  pub of_supers : (d t : ℕ) (u : List ℕ) → look supers d t ≡ Some u → (k : ℕ) × (k < v.truth.raid_disks) × (d ≡ member_slice (place_at v k) v.number) × (t ≡ super_sector)
  of_supers d t u found =
      let at = super_at d t u (look_payload supers d t u found) in
      (at.position, at.low, at.disk, at.sector)

  -- and told
  pub all_live : (s : State) (w : View) (number : ℕ) (on : List ℕ) → HasSlices v a → MayCommit s v w number on a
      → ((d t : ℕ) (u : List ℕ) → IsPayload own_data d t u → IsLive a a d t)
      → (d t : ℕ) (u : List ℕ) → IsPayload (supers ++ own_data) d t u → IsLive a a d t
  all_live s w number on slices may own_live d t u pay = elim (payload_or supers own_data d t u pay) [ inl super ↦ super_live super | inr own ↦ own_live d t u own ]
    where
      super_live : IsPayload supers d t u → IsLive a a d t
      super_live super =
          let at = super_at d t u super in
          let placed = step.is_array.placed at.position at.low in
          let few : place_at v at.position < 16 = subst (λ (p : ℕ). p < 16) (sym (ap (λ o. unwrap_or o 16) placed.1)) placed.2 in
          let sectors = slices.sectors at.position at.low (step.present at.position at.there) in
          subst (λ e. IsLive a a e t) (sym at.disk)
          (subst (λ e. IsLive a a (slice_on v at.position) e) (sym at.sector)
          (may.renew.supers (place_at v at.position) few (omega (arith, sectors))))

-- ---- a step that was committed

or_first : (p q : Bool) → (p || q) ≡ false → p ≡ false
or_first true q is = absurd (both_ways true is refl)
or_first false q is = refl

none_named : (places : List ℕ) → ((p : ℕ) → names places p ≡ false) → places ≡ []
none_named [] none = refl
none_named (p ∷ places) none = absurd (both_ways (names (p ∷ places) p) (none p) (ap (λ (b : Bool). b || names places p) (eq-eqb p p refl)))

-- a row that lacks nobody after losses lacked nobody before them
pub lacks_before : (v u : View) (a b : RackView) (row : ℕ) → Notes v u a b → lacks_row u row ≡ false → lacks_row v row ≡ false
lacks_before v u a b row notes lacks =
    let t = row * 128 + 127 in
    let more : wanting t (members_of v) ≤ wanting t (members_of u) =
    subst (λ (ms : List Member). wanting t (members_of v) ≤ wanting t ms) (sym (members_then v u notes.lost notes.same.truth notes.loses))
    (wanting_more notes.lost t (members_of v)) in
    let none : wanting t (members_of u) ≤ 0 = ltb-false 0 (wanting t (members_of u)) lacks in
    le-ltb 0 (wanting t (members_of v)) (omega (arith, more, none))

module _ {needs : (ℕ → Bool) → Type 0} (v u z w : View) (events offset resync : ℕ) (seats : List Seat) (marked : Bool) (a b c : RackView) (l : LogView) (on lost : List ℕ) (supers own_data : List Target) (number after : ℕ)
    (step : Step v events offset resync seats marked own_data a b needs)
    (adds : AddsSupersOf (restated v events offset resync seats marked) [] supers) (added : l.added ≡ supers ++ own_data)
    (slices : HasSlices v a) (reads : OnlyReads a b) (notes : Notes v u a b)
    (commit : CommitCall l on lost b c) (same_z : IsSameButSeats u z) (loses_z : LosesPlaces u z (names lost))
    (same_g : IsSameButSeats (restated v events offset resync seats marked) w)
    (next_loses : (gone : ℕ → Bool) → LosesPlaces v z gone → LosesPlaces (restated v events offset resync seats marked) w gone)
    (number_is : l.number ≡ number) (after_is : after ≡ next_number l.number) where
  abbrev g : View
  g = restated v events offset resync seats marked

  lasting : a.lasting
  lasting = slices.lasting

  is_array : IsArray v
  is_array = step.is_array

  loses_g : LosesPlaces (restated v events offset resync seats marked) w (λ place. names lost place || notes.lost place)
  loses_g = next_loses (λ place. names lost place || notes.lost place) (loses_then v u z notes.lost (names lost) notes.same.truth notes.loses loses_z)

  left_w : (place : ℕ) → has_gone w place ≡ false → names lost place ≡ false
  left_w place none =
      or_first (names lost place) (notes.lost place)
      (or_first (names lost place || notes.lost place) (has_gone g place) (sym (loses_g.went place) ∙ none))

  members_on : AreOnMembers v l.added
  members_on = subst (AreOnMembers v) (sym added) (on_members v events offset resync seats marked supers own_data a b step adds)

  may_log : (s : State) → MayCommit s v w number on a → MayCommit s v w l.number on a
  may_log s may = subst (λ k. MayCommit s v w k on a) (sym number_is) may

  live_all : (s : State) → MayStep s v (restated v events offset resync seats marked) w number on a → (d t : ℕ) (x : List ℕ) → IsPayload l.added d t x → IsLive a a d t
  live_all s may d t x pay =
      all_live v events offset resync seats marked supers own_data a b step adds s w number on slices may.commit
      (step.live may.commit.renew.rows may.commit.opened may.opened) d t x (subst (λ xs. IsPayload xs d t x) added pay)

  module _ (s : State) (vals : ℕ → Values) (spent : ℕ → Bool) (covers : IncludesSpent w spent) (may : MayStep s v (restated v events offset resync seats marked) w number on a) (meets : needs spent) where
    abbrev Middle : Type 0
    Middle = ArrayInvariant s (shape_of v) v vals spent a × ArrayInvariant s (shape_of v) v vals spent b

    opened_b : Middle → IsOpen (shape_of (restated v events offset resync seats marked)) v.number b
    opened_b held = open_after lasting reads.stays (shape_of g) v.number may.opened

    moves_b : Middle → RowMoves v (shape_of (restated v events offset resync seats marked)) resync spent (current_in b.held) own_data
    moves_b held = step.moves may.commit.renew.rows held.0.shape.open_slices held.1.shape.sized held.1.shape.even spent meets

    single_b : Middle → IsSynced (shape_of v) v.number b.held
    single_b held = step.settled may.commit.steady s vals spent meets held.1

    ready : IsReady l on b
    ready = log_ready s v w a b c l on lost is_array lasting reads members_on (live_all s may) commit (may_log s may.commit) left_w

    decides : SomeoneDecides l.added on lost b
    decides = log_decides s v w a b c l on lost is_array lasting reads members_on (live_all s may) commit (may_log s may.commit) left_w

    kept_log : LogInvariant s (next_number l.number) (gone_with nobody lost) c
    kept_log = log_kept s v w a b c l on lost is_array lasting reads members_on (live_all s may) commit (may_log s may.commit) left_w

    quiet : (i : Image) → PicksLogs b i → (d t : ℕ) → replayed b.sectors i d t ≡ i d t
    quiet = log_quiet s v w a b c l on lost is_array lasting reads members_on (live_all s may) commit (may_log s may.commit) left_w

    commit_moves : CallRefines v.number b c Middle (SaysEither s v (restated v events offset resync seats marked) a vals spent) (ArrayInvariant s (shape_of (restated v events offset resync seats marked)) w vals spent c)
    commit_moves =
        moved s v w events offset resync seats marked a b c l on lost (λ place. names lost place || notes.lost place) supers own_data
        is_array step.next may.commit.renew.fresh (step.unmarked may.commit.steady)
        commit ready decides kept_log quiet
        (λ r left. left_before lasting reads.stays (λ d t live. reads.keeps.held d t live) r left)
        added (ap are_apart added ∙ all_apart v events offset resync seats marked supers own_data a b step adds) adds
        (supers_once v events offset resync seats marked supers own_data a b step adds) (of_supers v events offset resync seats marked supers own_data a b step adds)
        (own_is v events offset resync seats marked supers own_data a b step adds)
        (step.state s may.commit.renew.state may.commit.renew.events) (step.rows may.commit.renew.rows) step.more may.whole step.unsynced
        step.some step.some_low step.some_there
        (losing_of g w (λ place. names lost place || notes.lost place) same_g loses_g)
        (λ place none. or_first (names lost place) (notes.lost place) none)
        (λ none. none_named lost (λ place. left_w place (gone_none w none place)))
        vals spent covers Middle (λ held. held.1) single_b opened_b moves_b

    pub all_moves : CallRefines v.number a c (ArrayInvariant s (shape_of v) v vals spent a) (SaysEither s v (restated v events offset resync seats marked) a vals spent) (ArrayInvariant s (shape_of (restated v events offset resync seats marked)) w vals spent c)
    all_moves =
        moves_then v.number a b c (ArrayInvariant s (shape_of v) v vals spent a) Middle (ArrayInvariant s (shape_of g) w vals spent c) (SaysEither s v g a vals spent)
        lasting (λ d t live other. reads.keeps.held d t live) (read_moves s v g a b vals spent lasting reads) commit_moves

    pub all_durable : ArrayInvariant s (shape_of v) v vals spent a → (r : Image) → IsLeft c r → HasFields s v.number (restated v events offset resync seats marked).truth r
    all_durable held r left =
        durable_now s v w events offset resync seats marked a b c l on lost (λ place. names lost place || notes.lost place) supers own_data
        is_array step.next may.commit.renew.fresh (step.unmarked may.commit.steady)
        commit ready decides kept_log quiet
        (λ q early. left_before lasting reads.stays (λ d t live. reads.keeps.held d t live) q early)
        added (ap are_apart added ∙ all_apart v events offset resync seats marked supers own_data a b step adds) adds
        (supers_once v events offset resync seats marked supers own_data a b step adds) (of_supers v events offset resync seats marked supers own_data a b step adds)
        (own_is v events offset resync seats marked supers own_data a b step adds)
        (step.state s may.commit.renew.state may.commit.renew.events) (step.rows may.commit.renew.rows) step.more may.whole step.unsynced
        step.some step.some_low step.some_there
        (losing_of g w (λ place. names lost place || notes.lost place) same_g loses_g)
        (λ place none. or_first (names lost place) (notes.lost place) none)
        (λ none. none_named lost (λ place. left_w place (gone_none w none place)))
        vals spent covers Middle (λ both. both.1) single_b opened_b moves_b
        ((read_moves s v g a b vals spent lasting reads).holds held) r left

    pub all_data : ArrayInvariant s (shape_of v) v vals spent a → (r : Image) → IsLeft c r → (m : Member) (t : ℕ) → Among m (shape_of (restated v events offset resync seats marked)).members → t < m.reach
        → r (member_slice m.place v.number) (data_sector + t) ≡ written own_data (current_in b.held) (member_slice m.place v.number) (data_sector + t)
    all_data held =
        data_after s v w events offset resync seats marked a b c l on lost (λ place. names lost place || notes.lost place) supers own_data
        is_array step.next may.commit.renew.fresh (step.unmarked may.commit.steady)
        commit ready decides kept_log quiet
        (λ q early. left_before lasting reads.stays (λ d t live. reads.keeps.held d t live) q early)
        added (ap are_apart added ∙ all_apart v events offset resync seats marked supers own_data a b step adds) adds
        (supers_once v events offset resync seats marked supers own_data a b step adds) (of_supers v events offset resync seats marked supers own_data a b step adds)
        (own_is v events offset resync seats marked supers own_data a b step adds)
        (step.state s may.commit.renew.state may.commit.renew.events) (step.rows may.commit.renew.rows) step.more may.whole step.unsynced
        step.some step.some_low step.some_there
        (losing_of g w (λ place. names lost place || notes.lost place) same_g loses_g)
        (λ place none. or_first (names lost place) (notes.lost place) none)
        (λ none. none_named lost (λ place. left_w place (gone_none w none place)))
        vals spent covers Middle (λ both. both.1) single_b opened_b moves_b
        ((read_moves s v g a b vals spent lasting reads).holds held)

    pub all_current : ArrayInvariant s (shape_of v) v vals spent a → (m : Member) (t : ℕ) → Among m (shape_of (restated v events offset resync seats marked)).members → t < m.reach
        → (names lost m.place || notes.lost m.place) ≡ false
        → current_in c.held (member_slice m.place v.number) (data_sector + t) ≡ written own_data (current_in b.held) (member_slice m.place v.number) (data_sector + t)
    all_current held =
        kept_now s v w events offset resync seats marked a b c l on lost (λ place. names lost place || notes.lost place) supers own_data
        is_array step.next may.commit.renew.fresh (step.unmarked may.commit.steady)
        commit ready decides kept_log quiet
        (λ q early. left_before lasting reads.stays (λ d t live. reads.keeps.held d t live) q early)
        added (ap are_apart added ∙ all_apart v events offset resync seats marked supers own_data a b step adds) adds
        (supers_once v events offset resync seats marked supers own_data a b step adds) (of_supers v events offset resync seats marked supers own_data a b step adds)
        (own_is v events offset resync seats marked supers own_data a b step adds)
        (step.state s may.commit.renew.state may.commit.renew.events) (step.rows may.commit.renew.rows) step.more may.whole step.unsynced
        step.some step.some_low step.some_there
        (losing_of g w (λ place. names lost place || notes.lost place) same_g loses_g)
        (λ place none. or_first (names lost place) (notes.lost place) none)
        (λ none. none_named lost (λ place. left_w place (gone_none w none place)))
        vals spent covers Middle (λ both. both.1) single_b opened_b moves_b
        ((read_moves s v g a b vals spent lasting reads).holds held)

    pub all_settled : ArrayInvariant s (shape_of v) v vals spent a → IsSynced (lowered (λ place. names lost place || notes.lost place) (shape_of (restated v events offset resync seats marked))) v.number c.held
    all_settled held =
        settled_now s v w events offset resync seats marked a b c l on lost (λ place. names lost place || notes.lost place) supers own_data
        is_array step.next may.commit.renew.fresh (step.unmarked may.commit.steady)
        commit ready decides kept_log quiet
        (λ q early. left_before lasting reads.stays (λ d t live. reads.keeps.held d t live) q early)
        added (ap are_apart added ∙ all_apart v events offset resync seats marked supers own_data a b step adds) adds
        (supers_once v events offset resync seats marked supers own_data a b step adds) (of_supers v events offset resync seats marked supers own_data a b step adds)
        (own_is v events offset resync seats marked supers own_data a b step adds)
        (step.state s may.commit.renew.state may.commit.renew.events) (step.rows may.commit.renew.rows) step.more may.whole step.unsynced
        step.some step.some_low step.some_there
        (losing_of g w (λ place. names lost place || notes.lost place) same_g loses_g)
        (λ place none. or_first (names lost place) (notes.lost place) none)
        (λ none. none_named lost (λ place. left_w place (gone_none w none place)))
        vals spent covers Middle (λ both. both.1) single_b opened_b moves_b
        ((read_moves s v g a b vals spent lasting reads).holds held)

  pub noted_g : Notes (restated v events offset resync seats marked) w a c
  noted_g = record {
    same = same_g;
    lost = λ place. names lost place || notes.lost place;
    loses = loses_g;
    cause = λ place is_lost. elim (either_of (names lost place) (notes.lost place) is_lost) [
      | inl later ↦ fault_later a b c place reads.stays (commit.gone.cause place later)
      | inr early ↦ fault_early a b c place commit.stays (notes.cause place early)
    ];
  }

  pub all_kept : (s : State) → MayStep s v (restated v events offset resync seats marked) w number on a → LogInvariant s after (has_gone w) c
  all_kept s may =
      subst (λ k. LogInvariant s k (has_gone w) c) (sym after_is)
      (kept_more s (next_number l.number) (gone_with nobody lost) (has_gone w) c
      (λ place named. loses_g.went place ∙ ap (λ (p : Bool). (p || notes.lost place) || has_gone g place) named)
      (log_kept s v w a b c l on lost is_array lasting reads members_on (live_all s may) commit (may_log s may.commit) left_w))

  -- the commit has all superblocks
  all_truth : HasFewBits v.truth → HoldTruth v a → HoldTruth w c
  all_truth bits held =
      hold_committed (restated v events offset resync seats marked) l [] supers adds step.next
      (λ x among.
      payload_is l.added x.disk x.sector x.bytes (ap are_apart added ∙ all_apart v events offset resync seats marked supers own_data a b step adds)
      (subst (λ xs. IsPayload xs x.disk x.sector x.bytes) (sym added)
      (payload_left supers own_data x.disk x.sector x.bytes
      (subst (λ xs. IsPayload xs x.disk x.sector x.bytes) (sym adds.appended) (among_payload adds.targets x among)))))
      w on lost b c (reads.stays.lasting lasting) bits commit same_g.number same_g.truth
      (λ k low there. (
        missing_before (restated v events offset resync seats marked) w k (λ place. names lost place || notes.lost place) loses_g there,
        or_first (names lost (place_at v k)) (notes.lost (place_at v k))
            (left_there (restated v events offset resync seats marked) w (λ place. names lost place || notes.lost place) k step.next loses_g low there),
      ))
      (λ k low there. live_now a b (slice_on v k) super_sector lasting reads.stays (held k low (step.present k there)).live)

  pub committed_steps : (answered : Bool) → ((spent : ℕ → Bool) → needs spent)
      → (HasRowRebuilds v → (y : ℕ) → spent_in (restated v events offset resync seats marked) y ≡ false → spent_in v y ≡ false) → Steps v (restated v events offset resync seats marked) w number after on a c answered
  committed_steps answered meets unspent_step = record {
    is_done = true;
    answer = λ ok. refl;
    view = done noted_g;
    idle = λ none. absurd (both_ways true none refl);
    spent = λ rows y alive.
        unspent_step rows y
        (covers_before g w (λ place. names lost place || notes.lost place) (losing_of g w _ same_g loses_g) (spent_in w) (λ k unspent. unspent) y alive);
    moving = λ s vals spent covers may.
        let moves = all_moves s vals spent covers may (meets spent) in
        record { stays = moves.stays; leaves = moves.leaves; holds = moves.holds; apart = moves.apart; calm = moves.calm; bounded = moves.bounded };
    durable = λ is_done s vals spent covers may held r left. all_durable s vals spent covers may (meets spent) held r left;
    kept = all_kept;
    truth = all_truth;
  }

-- What is added to the log for rows of zeros, as a whole.
use Rattle.std.proofs.Common.{◌≡◌, ◌≢◌, ℕ, ◌+◌, ◌-◌, ◌*◌, ◌/◌, ◌<◌, ◌≤◌, ◌^◌, Bool, true, false, ◌==◌, ◌&&◌, ◌||◌, not, nat_lt, if◌then◌else◌, List, [], ◌++◌, length, slice_get, Some, refl, sym, ap, ap₂, subst, ◌∙◌, inl, inr, ltb-true, ltb-false, eqb-true, arith}
use Rattle.std.proofs.lemmas.Bool.{and_parts, both_ways, cases_Bool}
use Rattle.std.proofs.lemmas.List.{length-append}
use Rattle.std.specs.List.{list_all}
use Rattle.rack.specs.Seen.{RackView, IsLive}
use Rattle.rack.specs.Targets.{Target, look}
use Rattle.rack.specs.Sequences.{IsPayload}
use Rattle.raid_map.specs.LeftSymmetric.{row_at}
use Rattle.md_super.specs.declared.superblock.Super.{Super}
use Rattle.array_image.specs.Places.{data_sector}
use Rattle.array_image.specs.Record.{are_apart, is_target}
use Rattle.array_image.specs.SoundArray.{first_unsynced}
use Rattle.array_image.specs.Arrays.{Member, Shape, value_by}
use Rattle.array_image.specs.Held.{Among, IsSynced, current_in}
use Rattle.array_image.specs.Marks.{lowered}
use Rattle.array_image.specs.Spent.{wanting}
use Rattle.log_laws.specs.View.{LogView, names, next_number}
use Rattle.log_laws.specs.Commits.{CommitCall}
use Rattle.log_laws.specs.Phases.{IsHad}
use Rattle.array_model.specs.declared.Seat.TheVariants.{Missing}
use Rattle.array_model.specs.View.{View, IsArray, LosesPlaces, is_whole_array, is_whole_seat, member_on, rows_of, shape_of}
use Rattle.array_model.specs.Says.{IsOpen}
use Rattle.array_model.specs.Members.{HasSlices, IsSameButSeats, Notes, members_of, slice_on}
use Rattle.array_image.specs.Supers.{is_reshaping}
use Rattle.array_model.proofs.Filled.{two_want}
use Rattle.array_model.proofs.Firsts.{member_among}
use Rattle.sync_laws.proofs.Owed.{RowMoves}
use Rattle.array_model.proofs.Noting.{length_members}
use Rattle.array_model.proofs.RowWrites.{part_on}
use Rattle.array_model.proofs.Views.{loses_nobody, loses_then, notes_none, same_view, shape_members, shape_then}
use Rattle.array_core.specs.declared.Change.{Change}
use Rattle.array_core.specs.Opening.{resync_by}
use Rattle.array_core.specs.Slots.{places_by}
use Rattle.array_core.specs.Staging.{AddsSupersOf}
use Rattle.array_core.specs.Superblocks.{adopted, adopted_resync, keeps_rows, raised, resynced_to}
use Rattle.array_core.specs.Writing.{KeepsElsewhere}
use Rattle.rack.proofs.Reading.{only_reads_start}
use Rattle.array_core.proofs.LogWrites.{refused_kept}
use Rattle.array_core.proofs.RowLists.{some_payload}
use Rattle.sync_laws.specs.Rows.{AddsCopies, AreCopies, AreZeros, OfCounting, counts_in, lacks_two}
use Rattle.sync_laws.specs.Steps.{Zeroes, as_it_was, done, offset_after, resynced, row_in, zeroed, zeroing}
use Rattle.sync_laws.proofs.Adopted.{adopted_kept}
use Rattle.sync_laws.proofs.Answering.{row_elsewhere}
use Rattle.sync_laws.proofs.Logged.{AreOnMembers, all_had, all_valid}
use Rattle.sync_laws.proofs.Stepping.{IsDataOn, Step, all_apart, all_current, all_data, all_durable, all_kept, all_moves, all_settled, on_members, read_moves}
use Rattle.sync_laws.proofs.Views.{IsUnsynced, keeps_none, next_array, next_rows, next_shape, next_state, next_unsynced, seat_there, slot_there}
use Rattle.sync_laws.proofs.Zeroed.{row_zeros, row_zeros_left, zero_moves}

same_shape : (v : View) → shape_of (zeroing v) ≡ shape_of v
unfolding shape_of
same_shape v = refl

raised_least : (n : ℕ) → n ≤ raised n
raised_least n = by (nat_lt n (2 ^ 63 - 1))
  where
    by : (b : Bool) → n ≤ (if b then n + 1 else n)
    by true = omega arith
    by false = omega arith

-- what the row call needs of an array
pub record IsYoung (v : View) (rows : ℕ) : Type 0 where
  pub is_array : IsArray v
  pub young : v.young ≡ true
  pub some : 0 < rows
  pub rows_left : first_unsynced v.truth + rows ≤ v.truth.size / 128

zeroing_array : (v : View) (rows : ℕ) → IsYoung v rows → IsArray (zeroing v)
zeroing_array v rows is =
    let old = is.is_array in
    record {
      few = old.few;
      level = old.level;
      least = old.least;
      most = old.most;
      seats = old.seats;
      devices = old.devices;
      small = old.small;
      whole_rows = old.whole_rows;
      placed = old.placed;
      synced = let row = is.rows_left in omega (arith, row);
      reshape = old.reshape;
    }

-- it is one whose rows are left to resync
unsynced : (v : View) (rows : ℕ) → IsYoung v rows → IsUnsynced (zeroing v) rows
unsynced v rows is = record { is_array = zeroing_array v rows is; grown = refl; some = is.some; rows_left = is.rows_left; unsynced = omega arith }

-- ---- the array of the change

adopted_is : (v z : View) (rows : ℕ) → IsYoung v rows → IsArray z → IsSameButSeats v z
    → adopted (resynced_to v (offset_after v (first_unsynced v.truth + rows))) z ≡ record z { truth = (zeroed v rows).truth; resync = rows_of v; marked = false }
adopted_is v z rows is z_array same =
    let c : Change = resynced_to v (offset_after v (first_unsynced v.truth + rows)) in
    let kept = adopted_kept c z z_array (ap places_by (sym same.truth)) refl in
    let keeps : keeps_rows z.truth (zeroed v rows).truth ≡ false = ap (λ (t : Super). keeps_rows t (zeroed v rows).truth) same.truth ∙ keeps_none (zeroing v) rows (unsynced v rows is) in
    let next : adopted_resync z.young z.resync z.truth (zeroed v rows).truth ≡ rows_of v =
    ap (λ (b : Bool). if b then z.resync else resync_by z.young (zeroed v rows).truth) keeps
    ∙ ap (λ (b : Bool). if b then v.truth.size / 128 else first_unsynced (zeroed v rows).truth) (same.young ∙ is.young) in
    let mark : (z.marked && keeps_rows z.truth (zeroed v rows).truth) ≡ false = ap (λ (b : Bool). z.marked && b) keeps ∙ and_false z.marked in
    λ i. record z { truth = (zeroed v rows).truth; seats = kept.0 i; devices = kept.1 i; resync = next i; marked = mark i }
  where
    and_false : (b : Bool) → (b && false) ≡ false
    and_false true = refl
    and_false false = refl

stage_is : (v : View) (rows : ℕ) → IsYoung v rows → adopted (resynced_to v (offset_after v (first_unsynced v.truth + rows))) v ≡ zeroed v rows
stage_is v rows is = adopted_is v v rows is is.is_array (same_view v)

module _ (v z w : View) (rows : ℕ) (is : IsYoung v rows) (z_array : IsArray z) (same : IsSameButSeats v z) (adopts : w ≡ adopted (resynced_to v (offset_after v (first_unsynced v.truth + rows))) z) where
  view_is : w ≡ record z { truth = (zeroed v rows).truth; resync = rows_of v; marked = false }
  view_is = adopts ∙ adopted_is v z rows is z_array same

  next_same : IsSameButSeats (resynced (zeroing v) rows) (zeroing w)
  next_same =
      subst (λ (x : View). IsSameButSeats (resynced (zeroing v) rows) (zeroing x)) (sym view_is)
      (record { number = same.number; truth = refl; devices = same.devices; resync = next_unsynced (zeroing v) rows (unsynced v rows is); young = refl; marked = refl })

  next_loses : (lost : ℕ → Bool) → LosesPlaces (zeroing v) (zeroing z) lost → LosesPlaces (resynced (zeroing v) rows) (zeroing w) lost
  next_loses lost loses =
      subst (λ (x : View). LosesPlaces (resynced (zeroing v) rows) (zeroing x) lost) (sym view_is) (record { seats = loses.seats; went = loses.went })

  real_same : IsSameButSeats (zeroed v rows) w
  real_same =
      subst (λ (x : View). IsSameButSeats (zeroed v rows) x) (sym view_is)
      (record { number = same.number; truth = refl; devices = same.devices; resync = refl; young = same.young; marked = refl })

  real_loses : (lost : ℕ → Bool) → LosesPlaces v z lost → LosesPlaces (zeroed v rows) w lost
  real_loses lost loses = subst (λ (x : View). LosesPlaces (zeroed v rows) x lost) (sym view_is) (record { seats = loses.seats; went = loses.went })

  pub zeros_lacks : (row : ℕ) → lacks_two w row ≡ lacks_two z row
  zeros_lacks row =
      ap (λ (x : View). lacks_two x row) view_is
      ∙ ap (λ (t : Super). lacks_two (record z { truth = record t { events = raised v.truth.events; resync_offset = offset_after v (first_unsynced v.truth + rows) }; resync = rows_of v; marked = false }) row) (sym same.truth)

-- ---- what is staged

pub record ZeroStaged (v : View) (rows : ℕ) (xs : List Target) : Type 0 where
  pub is : IsYoung v rows
  pub few : lacks_two v (first_unsynced v.truth) ≡ false
  pub supers : List Target
  pub own_data : List Target
  pub added : xs ≡ supers ++ own_data
  pub adds : AddsSupersOf (zeroed v rows) [] supers
  pub copies : AreCopies v (OfCounting v (first_unsynced v.truth * 128) (128 * rows) v.truth.raid_disks) AreZeros own_data

pub staged : (v : View) (rows row offset : ℕ) (c : Change) (x y z : List Target) → IsYoung v rows → row ≡ first_unsynced v.truth → offset ≡ offset_after v (row + rows) → c ≡ resynced_to v offset
    → lacks_two v row ≡ false → x ≡ [] → AddsSupersOf (adopted c v) x y → AddsCopies v (OfCounting v (row * 128) (128 * rows) v.truth.raid_disks) AreZeros (v.truth.raid_disks * 128 * rows) y z
    → ZeroStaged v rows z
staged v rows row offset c x y z is row_is offset_is change few empty adds copies =
    let next : adopted c v ≡ zeroed v rows =
    ap (λ (d : Change). adopted d v) (change ∙ ap (resynced_to v) (offset_is ∙ ap (λ (r : ℕ). offset_after v (r + rows)) row_is)) ∙ stage_is v rows is in
    record {
      is = is;
      few = subst (λ (r : ℕ). lacks_two v r ≡ false) row_is few;
      supers = y;
      own_data = copies.targets;
      added = copies.appended;
      adds = subst (λ (g : View). AddsSupersOf g [] y) next (subst (λ xs. AddsSupersOf (adopted c v) xs y) empty adds);
      copies = subst (λ (r : ℕ). AreCopies v (OfCounting v (r * 128) (128 * rows) v.truth.raid_disks) AreZeros copies.targets) row_is copies.copies;
    }

pub staged_room : (v : View) (rows row offset : ℕ) (c : Change) → IsYoung v rows → row ≡ first_unsynced v.truth → offset ≡ offset_after v (row + rows) → c ≡ resynced_to v offset → adopted c v ≡ zeroed v rows
staged_room v rows row offset c is row_is offset_is change =
    ap (λ (d : Change). adopted d v) (change ∙ ap (resynced_to v) (offset_is ∙ ap (λ (r : ℕ). offset_after v (r + rows)) row_is)) ∙ stage_is v rows is

pub zeroed_array : (v : View) (rows : ℕ) → IsYoung v rows → IsArray (zeroed v rows)
zeroed_array v rows is =
    let old = is.is_array in
    record {
      few = old.few;
      level = old.level;
      least = old.least;
      most = old.most;
      seats = old.seats;
      devices = old.devices;
      small = old.small;
      whole_rows = old.whole_rows;
      placed = old.placed;
      synced = omega arith;
      reshape = old.reshape;
    }

module _ (v : View) (rows : ℕ) (a : RackView) (xs : List Target) (row : ZeroStaged v rows xs) where
  -- one of the first two members counts
  one_counts : (j : ℕ) × (j < v.truth.raid_disks) × (counts_in v (first_unsynced v.truth) j ≡ true)
  one_counts =
      let t = first_unsynced v.truth * 128 + 127 in
      let least = row.is.is_array.least in
      elim (cases_Bool (nat_lt t (member_on v 0).reach)) [
        | inl is ↦ (0, omega (arith, least), is)
        | inr none ↦ elim (cases_Bool (nat_lt t (member_on v 1).reach)) [
          | inl is ↦ (1, omega (arith, least), is)
          | inr other ↦
              let ms = (shape_of v).members in
              let count : length ms ≡ v.truth.raid_disks = ap length (shape_members v) ∙ length_members v in
              let two = two_want t 0 1 ms (omega (arith, count, least)) (omega (arith, count, least)) (λ same. omega (arith, same))
              (ap (λ (m : Member). nat_lt t m.reach) (part_on v 0 (omega (arith, least))) ∙ none) (ap (λ (m : Member). nat_lt t m.reach) (part_on v 1 (omega (arith, least))) ∙ other) in
              let same : wanting t ms ≡ wanting t (members_of v) = ap (wanting t) (shape_members v) in
              let few = ltb-false 1 (wanting t (members_of v)) row.few in
              absurd (omega (arith, two, few, same))
        ]
      ]

  there : (j r : ℕ) → counts_in v r j ≡ true → slice_get v.seats j ≢ Some Missing
  there j r counts = seat_there v j (r * 128 + 127) (ltb-true (r * 128 + 127) (member_on v j).reach counts)

  data_on : (d t : ℕ) (u : List ℕ) → IsPayload row.own_data d t u → IsDataOn (zeroing v) d t u
  data_on d t u pay =
      let at = row.copies.on d t u pay in
      record {
        position = at.position;
        low = at.low;
        there = there at.position (row_at at.sector) at.inside.3;
        disk = at.disk;
        sector = at.sector;
        at = at.at;
        inside = (let last = at.inside.1 in let left = row.is.rows_left in let whole = row.is.is_array.whole_rows in omega (arith, last, left, whole));
        long = at.long;
      }

  -- what it needs of the map of spent sectors, and of the members
  abbrev Needs : (ℕ → Bool) → Type 0
  Needs spent = ((y : ℕ) → spent y ≡ false → row_in (zeroing v) y < first_unsynced v.truth) × IsSynced (shape_of (zeroing v)) v.number a.held

  copies_zeroing : AreCopies (zeroing v) (OfCounting (zeroing v) (first_unsynced v.truth * 128) (128 * rows) v.truth.raid_disks) AreZeros row.own_data
  copies_zeroing = record {
    on = λ d s u pay.
        let at = row.copies.on d s u pay in
        record { sector = at.sector; position = at.position; low = at.low; disk = at.disk; at = at.at; inside = at.inside; bytes = at.bytes; long = at.long };
    has = λ t j inside. row.copies.has t j inside;
    apart = row.copies.apart;
  }

  live_on : IsOpen (shape_of (zeroing v)) v.number a → (d t : ℕ) (u : List ℕ) → IsPayload row.own_data d t u → IsLive a a d t
  live_on opened d t u pay =
      let at = row.copies.on d t u pay in
      let counts = ltb-true (row_at at.sector * 128 + 127) (member_on v at.position).reach at.inside.3 in
      let among : Among (member_on v at.position) (shape_of (zeroing v)).members =
      subst (λ (ms : List Member). Among (member_on v at.position) ms) (sym (shape_members (zeroing v))) (member_among v at.position v.truth.raid_disks at.low) in
      subst (λ e. IsLive a a e t) (sym at.disk)
      (subst (λ e. IsLive a a (slice_on v at.position) e) (sym at.at)
      (opened (member_on v at.position) at.sector among (omega (arith, counts))))

  -- it isn't whole, so it isn't marked
  not_marked : (v.marked ≡ true → is_whole_array (zeroing v) ≡ true) → v.marked ≡ false
  not_marked steady = by v.marked refl
    where
      by : (b : Bool) → v.marked ≡ b → v.marked ≡ false
      by false is = is
      by true is =
          let whole = and_parts (list_all is_whole_seat v.seats) ((first_unsynced v.truth == rows_of v) && (not false && not (is_reshaping v.truth))) (steady is) in
          let synced = and_parts (first_unsynced v.truth == rows_of v) (not false && not (is_reshaping v.truth)) whole.1 in
          let same = eqb-true (first_unsynced v.truth) (rows_of v) synced.0 in
          let some = row.is.some in
          let left = row.is.rows_left in
          absurd (omega (arith, same, some, left))

  pub zero_step : Step (zeroing v) (raised v.truth.events) (offset_after v (first_unsynced v.truth + rows)) (first_unsynced v.truth + rows) v.seats false row.own_data a a Needs
  zero_step = record {
    is_array = zeroing_array v rows row.is;
    next = next_array (zeroing v) rows (unsynced v rows row.is);
    on = data_on;
    apart = row.copies.apart;
    present = λ k there. there;
    more = raised_least v.truth.events;
    unsynced = let first = next_unsynced (zeroing v) rows (unsynced v rows row.is) in omega (arith, first);
    some = one_counts.0;
    some_low = one_counts.1;
    some_there = slot_there (zeroing v) one_counts.0 (zeroing_array v rows row.is) one_counts.1 (there one_counts.0 (first_unsynced v.truth) one_counts.2);
    settled = λ steady s vals spent needs holds. needs.1;
    unmarked = λ steady. refl;
    state = λ s. next_state s (zeroing v) rows;
    rows = next_rows (zeroing v) rows;
    live = λ rebuilds opened also. live_on opened;
    moves = λ rebuilds opened sized even spent needs.
        subst (λ (f : Shape). RowMoves (zeroing v) f (first_unsynced v.truth + rows) spent (current_in a.held) row.own_data) (sym (next_shape (zeroing v) rows))
        (zero_moves (zeroing v) rows a row.own_data (zeroing_array v rows row.is) rebuilds copies_zeroing spent needs.0);
  }

  pub zero_members_on : AreOnMembers v xs
  zero_members_on d t u pay =
      let at = subst (AreOnMembers (zeroing v)) (sym row.added)
      (on_members (zeroing v) (raised v.truth.events) (offset_after v (first_unsynced v.truth + rows)) (first_unsynced v.truth + rows) v.seats false row.supers row.own_data a a zero_step row.adds) d t u pay in
      record { position = at.position; low = at.low; there = at.there; disk = at.disk; sector = at.sector }

  pub zero_valid : list_all is_target xs ≡ true
  zero_valid = all_valid v xs row.is.is_array zero_members_on

  pub zero_apart : are_apart xs ≡ true
  zero_apart =
      ap are_apart row.added
      ∙ all_apart (zeroing v) (raised v.truth.events) (offset_after v (first_unsynced v.truth + rows)) (first_unsynced v.truth + rows) v.seats false row.supers row.own_data a a zero_step row.adds

  pub zero_some : 0 < length xs
  zero_some =
      let counts = one_counts in
      let has = row.copies.has (first_unsynced v.truth * 128) counts.0 (omega arith, (let some = row.is.some in omega (arith, some)), counts.1, subst (λ (r : ℕ). counts_in v r counts.0 ≡ true) (let e : first_unsynced v.truth ≡ row_at (first_unsynced v.truth * 128) = omega arith in e) counts.2) in
      let some = some_payload row.own_data (slice_on v counts.0) (data_sector + first_unsynced v.truth * 128) has.0 has.1 in
      let sum : length xs ≡ length row.supers + length row.own_data = ap length row.added ∙ length-append row.supers row.own_data in
      omega (arith, some, sum)

  pub zero_had : HasSlices v a → (d s : ℕ) (u : List ℕ) → look xs d s ≡ Some u → IsHad a d s
  zero_had slices = all_had v a a xs slices (only_reads_start a slices.fit).stays zero_members_on

zeroing_slices : (v : View) (a : RackView) → HasSlices v a → HasSlices (zeroing v) a
zeroing_slices v a slices = record { fit = slices.fit; lasting = slices.lasting; disks = slices.disks; sectors = slices.sectors }

zeroing_same : (v z : View) → IsSameButSeats v z → IsSameButSeats (zeroing v) (zeroing z)
zeroing_same v z same = record { number = same.number; truth = same.truth; devices = same.devices; resync = ap first_unsynced same.truth; young = refl; marked = same.marked }

zeroing_loses : (v z : View) (lost : ℕ → Bool) → LosesPlaces v z lost → LosesPlaces (zeroing v) (zeroing z) lost
zeroing_loses v z lost loses = record { seats = loses.seats; went = loses.went }

-- nobody went in no call
abbrev no_notes : (v : View) (a : RackView) → Notes v v a a
no_notes v a = record { same = same_view v; lost = λ place. false; loses = loses_nobody v; cause = λ place is. absurd (both_ways false refl is) }

-- ---- the whole step

module _ (v z w : View) (a c : RackView) (l : LogView) (on lost : List ℕ) (rows number after : ℕ) (staged_row : ZeroStaged v rows l.added) (slices : HasSlices v a)
    (commit : CommitCall l on lost a c) (same : IsSameButSeats v z) (loses : LosesPlaces v z (names lost)) (z_array : IsArray z)
    (adopts : w ≡ adopted (resynced_to v (offset_after v (first_unsynced v.truth + rows))) z) (number_is : l.number ≡ number) (after_is : after ≡ next_number l.number) where
  same_g : IsSameButSeats (resynced (zeroing v) rows) (zeroing w)
  same_g = next_same v z w rows staged_row.is z_array same adopts

  loses_v : LosesPlaces v z (λ place. names lost place || false)
  loses_v = loses_then v v z (λ place. false) (names lost) refl (loses_nobody v) loses

  loses_g : LosesPlaces (resynced (zeroing v) rows) (zeroing w) (λ place. names lost place || false)
  loses_g = next_loses v z w rows staged_row.is z_array same adopts (λ place. names lost place || false) (zeroing_loses v z (λ place. names lost place || false) loses_v)

  real_noted : Notes (zeroed v rows) w a c
  real_noted = record {
    same = real_same v z w rows staged_row.is z_array same adopts;
    lost = λ place. names lost place || false;
    loses = real_loses v z w rows staged_row.is z_array same adopts (λ place. names lost place || false) loses_v;
    cause = λ place is_lost. commit.gone.cause place (named (names lost place) is_lost);
  }
    where
      named : (b : Bool) → (b || false) ≡ true → b ≡ true
      named true is = refl
      named false is = is

  pub zero_steps : (answered : Bool) → Zeroes v w rows number after on a c answered
  zero_steps answered = record {
    is_done = true;
    answer = λ ok. refl;
    view = done real_noted;
    moving = λ s vals spent may.
        let moves = all_moves (zeroing v) (zeroing v) (zeroing z) (zeroing w) (raised v.truth.events) (offset_after v (first_unsynced v.truth + rows)) (first_unsynced v.truth + rows) v.seats false a a c l on lost staged_row.supers staged_row.own_data number after
        (zero_step v rows a l.added staged_row) staged_row.adds staged_row.added (zeroing_slices v a slices) (only_reads_start a slices.fit) (no_notes (zeroing v) a)
        commit (zeroing_same v z same) (zeroing_loses v z (names lost) loses) same_g (λ lost_v loses_z. next_loses v z w rows staged_row.is z_array same adopts lost_v loses_z) number_is after_is
        s vals spent may.covers may.step (may.aside, may.single) in
        record { stays = moves.stays; leaves = moves.leaves; holds = moves.holds; apart = moves.apart; calm = moves.calm; bounded = moves.bounded };
    row = λ is_done s vals spent may held. record {
      durable =
          all_durable (zeroing v) (zeroing v) (zeroing z) (zeroing w) (raised v.truth.events) (offset_after v (first_unsynced v.truth + rows)) (first_unsynced v.truth + rows) v.seats false a a c l on lost staged_row.supers staged_row.own_data number after
          (zero_step v rows a l.added staged_row) staged_row.adds staged_row.added (zeroing_slices v a slices) (only_reads_start a slices.fit) (no_notes (zeroing v) a)
          commit (zeroing_same v z same) (zeroing_loses v z (names lost) loses) same_g (λ lost_v loses_z. next_loses v z w rows staged_row.is z_array same adopts lost_v loses_z) number_is after_is
          s vals spent may.covers may.step (may.aside, may.single) held;
      zeros = λ r left.
          row_zeros (zeroing v) rows a staged_row.own_data (zeroing_array v rows staged_row.is) may.step.commit.renew.rows (copies_zeroing v rows a l.added staged_row) r
          (λ m t among.
          all_data (zeroing v) (zeroing v) (zeroing z) (zeroing w) (raised v.truth.events) (offset_after v (first_unsynced v.truth + rows)) (first_unsynced v.truth + rows) v.seats false a a c l on lost staged_row.supers staged_row.own_data number after
          (zero_step v rows a l.added staged_row) staged_row.adds staged_row.added (zeroing_slices v a slices) (only_reads_start a slices.fit) (no_notes (zeroing v) a)
          commit (zeroing_same v z same) (zeroing_loses v z (names lost) loses) same_g (λ lost_v loses_z. next_loses v z w rows staged_row.is z_array same adopts lost_v loses_z) number_is after_is
          s vals spent may.covers may.step (may.aside, may.single) held r left m t
          (subst (λ (f : Shape). Among m f.members) (sym (next_shape (zeroing v) rows)) among));
      current = λ y row.
          ap₂ (λ (f : Shape) (n : ℕ). value_by f (current_in c.held) n y)
          (shape_then (resynced (zeroing v) rows) (zeroing w) (λ place. names lost place || false) same_g.truth loses_g ∙ ap (lowered (λ place. names lost place || false)) (next_shape (zeroing v) rows)) same_g.number
          ∙ row_zeros_left (zeroing v) rows a staged_row.own_data (zeroing_array v rows staged_row.is) may.step.commit.renew.rows (copies_zeroing v rows a l.added staged_row) (λ place. names lost place || false) (current_in c.held)
          (λ m t among.
          all_current (zeroing v) (zeroing v) (zeroing z) (zeroing w) (raised v.truth.events) (offset_after v (first_unsynced v.truth + rows)) (first_unsynced v.truth + rows) v.seats false a a c l on lost staged_row.supers staged_row.own_data number after
          (zero_step v rows a l.added staged_row) staged_row.adds staged_row.added (zeroing_slices v a slices) (only_reads_start a slices.fit) (no_notes (zeroing v) a)
          commit (zeroing_same v z same) (zeroing_loses v z (names lost) loses) same_g (λ lost_v loses_z. next_loses v z w rows staged_row.is z_array same adopts lost_v loses_z) number_is after_is
          s vals spent may.covers may.step (may.aside, may.single) held m t
          (subst (λ (f : Shape). Among m f.members) (sym (next_shape (zeroing v) rows)) among))
          y row;
      single =
          subst (λ (f : Shape). IsSynced f (zeroing w).number c.held) (sym (shape_then (resynced (zeroing v) rows) (zeroing w) (λ place. names lost place || false) same_g.truth loses_g))
          (subst (λ (n : ℕ). IsSynced (lowered (λ place. names lost place || false) (shape_of (resynced (zeroing v) rows))) n c.held) (sym same_g.number)
          (all_settled (zeroing v) (zeroing v) (zeroing z) (zeroing w) (raised v.truth.events) (offset_after v (first_unsynced v.truth + rows)) (first_unsynced v.truth + rows) v.seats false a a c l on lost staged_row.supers staged_row.own_data number after
          (zero_step v rows a l.added staged_row) staged_row.adds staged_row.added (zeroing_slices v a slices) (only_reads_start a slices.fit) (no_notes (zeroing v) a)
          commit (zeroing_same v z same) (zeroing_loses v z (names lost) loses) same_g (λ lost_v loses_z. next_loses v z w rows staged_row.is z_array same adopts lost_v loses_z) number_is after_is
          s vals spent may.covers may.step (may.aside, may.single) held));
    };
    kept =
        all_kept (zeroing v) (zeroing v) (zeroing z) (zeroing w) (raised v.truth.events) (offset_after v (first_unsynced v.truth + rows)) (first_unsynced v.truth + rows) v.seats false a a c l on lost staged_row.supers staged_row.own_data number after
        (zero_step v rows a l.added staged_row) staged_row.adds staged_row.added (zeroing_slices v a slices) (only_reads_start a slices.fit) (no_notes (zeroing v) a)
        commit (zeroing_same v z same) (zeroing_loses v z (names lost) loses) same_g (λ lost_v loses_z. next_loses v z w rows staged_row.is z_array same adopts lost_v loses_z) number_is after_is;
  }

-- a row that was refused before its commit
pub zero_refused : (v : View) (rows number : ℕ) (on : List ℕ) (a : RackView) (answered : Bool) → HasSlices v a → IsYoung v rows → answered ≡ false → Zeroes v v rows number number on a a answered
zero_refused v rows number on a answered slices is refused =
    let reads = only_reads_start a slices.fit in
    record {
      is_done = false;
      answer = λ ok. absurd (both_ways answered refused ok);
      view = as_it_was (notes_none v a a);
      moving = λ s vals spent may.
          let moves = read_moves s (zeroing v) (resynced (zeroing v) rows) a a vals spent slices.lasting reads in
          record { stays = moves.stays; leaves = moves.leaves; holds = λ held. held; apart = moves.apart; calm = moves.calm; bounded = moves.bounded };
      row = λ none. absurd (both_ways false refl none);
      kept = λ s may. refused_kept s number (zeroing v) a a slices.lasting reads may.commit.log;
    }

pub zero_leaves : (v : View) (rows : ℕ) (a c : RackView) (l : LogView) (on lost : List ℕ) → ZeroStaged v rows l.added → HasSlices v a → CommitCall l on lost a c → KeepsElsewhere false v on a c
zero_leaves v rows a c l on lost staged_row slices commit =
    row_elsewhere v l on lost a a c staged_row.is.is_array.few (only_reads_start a slices.fit) (zero_members_on v rows a l.added staged_row) commit

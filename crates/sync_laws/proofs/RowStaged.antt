-- What is added to the log for a row that is resynced, as a whole.
use Rattle.std.proofs.Common.{◌≡◌, ℕ, ◌+◌, ◌*◌, ◌<◌, ◌≤◌, ◌^◌, ◌-◌, nat_lt, if◌then◌else◌, Bool, true, false, not, List, [], ◌++◌, length, Some, refl, sym, ap, subst, append-nil, ◌∙◌, inl, inr, arith}
use Rattle.std.proofs.lemmas.Bool.{both_ways, cases_lt}
use Rattle.std.proofs.lemmas.List.{length-append}
use Rattle.std.specs.List.{list_all}
use Rattle.rack.specs.Seen.{RackView, IsLive}
use Rattle.rack.specs.Targets.{Target, look}
use Rattle.rack.specs.Sequences.{IsPayload, OnlyReads}
use Rattle.array_image.specs.Places.{data_sector, member_slice}
use Rattle.array_image.specs.Stripes.{width}
use Rattle.array_image.specs.Record.{are_apart, is_target}
use Rattle.array_image.specs.Arrays.{Member, Shape}
use Rattle.array_image.specs.Held.{Among, current_in}
use Rattle.log_laws.specs.View.{LogView, names, next_number}
use Rattle.log_laws.specs.Commits.{CommitCall}
use Rattle.log_laws.specs.Phases.{IsHad}
use Rattle.array_model.specs.View.{View, IsArray, LosesPlaces, member_on, shape_of}
use Rattle.array_model.specs.Says.{IsOpen}
use Rattle.array_model.specs.Members.{HasSlices, IsSameButSeats, Notes, row_layout, slice_on}
use Rattle.array_model.proofs.Firsts.{member_among}
use Rattle.array_model.proofs.Layouts.{row_layout_is}
use Rattle.array_model.proofs.Reading.{open_calls}
use Rattle.array_model.proofs.Views.{notes_none, same_view, same_view_then, shape_members}
use Rattle.array_core.specs.declared.Change.{Change}
use Rattle.array_core.specs.Staging.{AddsSupersOf}
use Rattle.array_core.specs.Superblocks.{adopted, raised, resynced_to}
use Rattle.array_core.specs.Writing.{KeepsElsewhere}
use Rattle.sync_laws.specs.Rows.{AddsCopies, AreAlike, AreCopies, IsCopy, IsRowSum, OfRow, lacks_row}
use Rattle.sync_laws.specs.Steps.{Steps, offset_after, resynced}
use Rattle.sync_laws.proofs.Agreeing.{all_counts}
use Rattle.sync_laws.proofs.Alike.{alike_moves}
use Rattle.sync_laws.proofs.Copying.{copies_by}
use Rattle.sync_laws.proofs.Answering.{row_elsewhere}
use Rattle.sync_laws.proofs.Logged.{AreOnMembers, all_had, all_valid}
use Rattle.sync_laws.proofs.Others.{lacks_first}
use Rattle.sync_laws.proofs.Stepping.{IsDataOn, Step, all_apart, committed_steps, lacks_before, on_members}
use Rattle.sync_laws.proofs.Owed.{RowMoves}
use Rattle.sync_laws.proofs.Resynced.{row_moves}
use Rattle.sync_laws.proofs.Summing.{sum_kept}
use Rattle.sync_laws.proofs.Supers.{supers_some}
use Rattle.sync_laws.proofs.Views.{IsUnsynced, all_there, is_steady, last_row, next_array, next_lacks, next_loses, next_rows, next_same, next_shape, next_state, next_unsynced, slot_there, stage_is, unspent_before}

raised_least : (n : ℕ) → n ≤ raised n
raised_least n = by (nat_lt n (2 ^ 63 - 1))
  where
    by : (b : Bool) → n ≤ (if b then n + 1 else n)
    by true = omega arith
    by false = omega arith

-- the superblocks that leave the rows after so many, and the sectors of these that are made of others, unless they agree already
pub record RowStaged (v : View) (rows : ℕ) (a : RackView) (xs : List Target) : Type 1 where
  pub is : IsUnsynced v rows
  pub lacks : lacks_row v (last_row v rows) ≡ false
  pub supers : List Target
  pub own_data : List Target
  pub added : xs ≡ supers ++ own_data
  pub adds : AddsSupersOf (resynced v rows) [] supers
  pub on : (d s : ℕ) (u : List ℕ) → IsPayload own_data d s u → IsCopy v (OfRow v (v.resync * 128) (128 * rows)) (IsRowSum v a) d s u
  pub apart : are_apart own_data ≡ true
  pub moves :
      (b : RackView) → OnlyReads a b → IsOpen (shape_of v) v.number a
      → ((m : Member) (t : ℕ) → Among m (shape_of v).members → t < m.reach → length (current_in b.held (member_slice m.place v.number) (data_sector + t)) ≡ 512)
      → (spent : ℕ → Bool) → RowMoves v (shape_of v) (v.resync + rows) spent (current_in b.held) own_data

-- what the rows' members make was so before reads
rows_before : (v : View) (a b : RackView) (row rows : ℕ) (xs ys : List Target) → IsArray v → a.lasting → OnlyReads a b → 0 < rows → lacks_row v (row + (rows - 1)) ≡ false
    → AddsCopies v (OfRow v (row * 128) (128 * rows)) (IsRowSum v b) (128 * rows) xs ys → AddsCopies v (OfRow v (row * 128) (128 * rows)) (IsRowSum v a) (128 * rows) xs ys
rows_before v a b row rows xs ys is_array lasting reads some lacks =
    let within = OfRow v (row * 128) (128 * rows) in
    copies_by v v within within (IsRowSum v b) (IsRowSum v a) (128 * rows) (128 * rows) xs ys (same_view v) (omega arith) (λ t j is. is) (λ t j is. is)
    (λ t j w inside bytes opened.
    let last = inside.1 in
    let most = (row_layout_is v t is_array).most in
    bytes (open_calls v v a b lasting reads (notes_none v a b) opened)
    ∙ sum_kept v v a b t (width (row_layout v t)) lasting reads (notes_none v a b) most
    (λ k low is. all_counts v (row + (rows - 1)) k t lacks (omega (arith, low, most)) (omega (arith, last, some))) opened)

pub staged : (v u : View) (a b e : RackView) (rows row offset : ℕ) (alike : Bool) (c : Change) (x y z : List Target) → IsUnsynced v rows → a.lasting → OnlyReads a b → row ≡ v.resync → offset ≡ offset_after v (row + rows)
    → c ≡ resynced_to v offset → x ≡ [] → AddsSupersOf (adopted c v) x y
    → (alike ≡ true → AreAlike v a (row * 128) (128 * rows) × (z ≡ y)) → (alike ≡ false → AddsCopies v (OfRow v (row * 128) (128 * rows)) (IsRowSum v b) (128 * rows) y z)
    → Notes v u b e → not (lacks_row u (row + (rows - 1))) ≡ true
    → RowStaged v rows a z
staged v u a b e rows row offset alike c x y z is lasting reads row_is offset_is change empty adds agree copies notes whole = by alike refl
  where
    next : adopted c v ≡ resynced v rows
    next = stage_is v rows c offset is (offset_is ∙ ap (λ (r : ℕ). offset_after v (r + rows)) row_is) change

    not_true : (b : Bool) → not b ≡ true → b ≡ false
    not_true true is = absurd (both_ways false refl is)
    not_true false is = refl

    here : lacks_row v (row + (rows - 1)) ≡ false
    here = lacks_before v u b e (row + (rows - 1)) notes (not_true (lacks_row u (row + (rows - 1))) whole)

    lacks : lacks_row v (last_row v rows) ≡ false
    lacks = subst (λ (r : ℕ). lacks_row v (r + (rows - 1)) ≡ false) row_is here

    supers_added : AddsSupersOf (resynced v rows) [] y
    supers_added = subst (λ (g : View). AddsSupersOf g [] y) next (subst (λ xs. AddsSupersOf (adopted c v) xs y) empty adds)

    by : (s : Bool) → alike ≡ s → RowStaged v rows a z
    by true same =
        let alike_rows = subst (λ (r : ℕ). AreAlike v a (r * 128) (128 * rows)) row_is (agree same).0 in
        record {
          is = is;
          lacks = lacks;
          supers = y;
          own_data = [];
          added = (agree same).1 ∙ sym (append-nil y);
          adds = supers_added;
          on = λ d s w none. absurd none;
          apart = refl;
          moves = λ b reads opened sized. alike_moves v rows is.some a b is.is_array lasting reads lacks alike_rows opened sized;
        }
    by false other =
        let added = rows_before v a b row rows y z is.is_array lasting reads is.some here (copies other) in
        let own = subst (λ (r : ℕ). AreCopies v (OfRow v (r * 128) (128 * rows)) (IsRowSum v a) added.targets) row_is added.copies in
        record {
          is = is;
          lacks = lacks;
          supers = y;
          own_data = added.targets;
          added = added.appended;
          adds = supers_added;
          on = own.on;
          apart = own.apart;
          moves = λ b reads opened sized. row_moves v rows is.some a b added.targets is.is_array lasting reads lacks own opened sized;
        }

module _ (v : View) (rows : ℕ) (a b : RackView) (xs : List Target) (row : RowStaged v rows a xs) (lasting : a.lasting) (reads : OnlyReads a b) where
  -- a sector that is made of others is one of a member's data
  data_on : (d t : ℕ) (u : List ℕ) → IsPayload row.own_data d t u → IsDataOn v d t u
  data_on d t u pay =
      let at = row.on d t u pay in
      record {
        position = at.position;
        low = at.low;
        there = all_there v (last_row v rows) at.position row.lacks at.low;
        disk = at.disk;
        sector = at.sector;
        at = at.at;
        inside = (let last = at.inside.1 in let left = row.is.rows_left in let whole = row.is.is_array.whole_rows in omega (arith, last, left, whole));
        long = at.long;
      }

  live_on : IsOpen (shape_of v) v.number a → (d t : ℕ) (u : List ℕ) → IsPayload row.own_data d t u → IsLive a a d t
  live_on opened d t u pay =
      let at = row.on d t u pay in
      let among : Among (member_on v at.position) (shape_of v).members =
      subst (λ (ms : List Member). Among (member_on v at.position) ms) (sym (shape_members v)) (member_among v at.position v.truth.raid_disks at.low) in
      subst (λ e. IsLive a a e t) (sym at.disk)
      (subst (λ e. IsLive a a (slice_on v at.position) e) (sym at.at)
      (opened (member_on v at.position) at.sector among (all_counts v (last_row v rows) at.position at.sector row.lacks at.low (let last = at.inside.1 in let some = row.is.some in omega (arith, last, some)))))

  low : 0 < v.truth.raid_disks
  low = let least = row.is.is_array.least in omega (arith, least)

  pub row_step : Step v (raised v.truth.events) (offset_after v (v.resync + rows)) (v.resync + rows) v.seats false row.own_data a b (λ spent. Unit {0})
  row_step = record {
    is_array = row.is.is_array;
    next = next_array v rows row.is;
    on = data_on;
    apart = row.apart;
    present = λ k there. there;
    more = raised_least v.truth.events;
    unsynced = let first = next_unsynced v rows row.is in omega (arith, first);
    some = 0;
    some_low = low;
    some_there = slot_there v 0 row.is.is_array low (all_there v (last_row v rows) 0 row.lacks low);
    settled = λ steady s vals spent meets holds. holds.shape.settled (is_steady v (last_row v rows) row.is.is_array row.lacks (let some = row.is.some in let left = row.is.rows_left in omega (arith, some, left)) steady);
    unmarked = λ steady. refl;
    state = λ s. next_state s v rows;
    rows = next_rows v rows;
    live = λ whole opened also. live_on opened;
    moves = λ whole opened sized even spent meets.
        subst (λ (f : Shape). RowMoves v f (v.resync + rows) spent (current_in b.held) row.own_data) (sym (next_shape v rows))
        (row.moves b reads opened sized spent);
  }

  pub row_members_on : AreOnMembers v xs
  row_members_on =
      subst (AreOnMembers v) (sym row.added)
      (on_members v (raised v.truth.events) (offset_after v (v.resync + rows)) (v.resync + rows) v.seats false row.supers row.own_data a b row_step row.adds)

  pub row_valid : list_all is_target xs ≡ true
  row_valid = all_valid v xs row.is.is_array row_members_on

  pub row_apart : are_apart xs ≡ true
  row_apart =
      ap are_apart row.added
      ∙ all_apart v (raised v.truth.events) (offset_after v (v.resync + rows)) (v.resync + rows) v.seats false row.supers row.own_data a b row_step row.adds

  pub row_some : 0 < length xs
  row_some =
      let some = supers_some (resynced v rows) [] row.supers (next_array v rows row.is) row.adds 0 low (slot_there v 0 row.is.is_array low (all_there v (last_row v rows) 0 row.lacks low)) in
      let count : length row.supers ≡ length row.adds.targets = ap length row.adds.appended in
      let sum : length xs ≡ length row.supers + length row.own_data = ap length row.added ∙ length-append row.supers row.own_data in
      omega (arith, some, count, sum)

  pub row_had : HasSlices v a → (d s : ℕ) (u : List ℕ) → look xs d s ≡ Some u → IsHad b d s
  row_had slices = all_had v a b xs slices reads.stays row_members_on

-- the whole step
pub row_steps : (v u z w : View) (a b c : RackView) (l : LogView) (on lost : List ℕ) (rows number after row offset : ℕ) (change : Change) (answered : Bool)
    → RowStaged v rows a l.added → HasSlices v a → OnlyReads a b → Notes v u a b → CommitCall l on lost b c → IsSameButSeats u z → LosesPlaces u z (names lost) → IsArray z
    → row ≡ v.resync → offset ≡ offset_after v (row + rows) → change ≡ resynced_to v offset → w ≡ adopted change z → l.number ≡ number → after ≡ next_number l.number
    → Steps v (resynced v rows) w number after on a c answered
row_steps v u z w a b c l on lost rows number after row offset change answered staged_row slices reads notes commit same loses z_array row_is offset_is change_is adopts number_is after_is =
    let row_s = staged_row in
    let adopted_w = adopts ∙ ap (λ (x : Change). adopted x z) (change_is ∙ ap (resynced_to v) (offset_is ∙ ap (λ (r : ℕ). offset_after v (r + rows)) row_is)) in
    let same_v = same_view_then v u z notes.same same in
    committed_steps v u z w (raised v.truth.events) (offset_after v (v.resync + rows)) (v.resync + rows) v.seats false a b c l on lost row_s.supers row_s.own_data number after
    (row_step v rows a b l.added row_s slices.lasting reads) row_s.adds row_s.added slices reads notes commit same loses
    (next_same v z w rows row_s.is z_array same_v adopted_w) (next_loses v z w rows row_s.is z_array same_v adopted_w)
    number_is after_is answered (λ spent. tt) (λ whole. unspent_before v rows row_s.is.some row_s.lacks)

pub row_leaves : (v : View) (rows : ℕ) (a b c : RackView) (l : LogView) (on lost : List ℕ) → RowStaged v rows a l.added → a.lasting → OnlyReads a b → CommitCall l on lost b c → KeepsElsewhere false v on a c
row_leaves v rows a b c l on lost staged_row lasting reads commit =
    row_elsewhere v l on lost a b c staged_row.is.is_array.few reads (row_members_on v rows a b l.added staged_row lasting reads) commit

-- rows that weren't begun: the first lacks a member where the last does
pub refused_lacks : (v u : View) (rows row : ℕ) (lost : ℕ → Bool) → 0 < rows → IsSameButSeats v u → LosesPlaces v u lost
    → (1 < rows → lacks_row v (row + (rows - 1)) ≡ false) → lacks_row u (row + (rows - 1)) ≡ true → lacks_row u row ≡ true
refused_lacks v u rows row lost some same loses had lacks =
    elim (cases_lt 1 rows) [
      | inl more ↦ lacks_first v u lost row (row + (rows - 1)) same.truth loses (had more) lacks
      | inr one ↦ (let e : row + (rows - 1) ≡ row = omega (arith, one) in subst (λ (r : ℕ). lacks_row u r ≡ true) e lacks)
    ]

-- whom the row lacks is whom it lacked before the change
pub row_lacks : (v z w : View) (rows row offset : ℕ) (change : Change) → IsUnsynced v rows → IsArray z → IsSameButSeats v z → row ≡ v.resync → offset ≡ offset_after v (row + rows) → change ≡ resynced_to v offset
    → w ≡ adopted change z → lacks_row w v.resync ≡ lacks_row z row
row_lacks v z w rows row offset change is z_array same row_is offset_is change_is adopts =
    next_lacks v z w rows is z_array same
    (adopts ∙ ap (λ (x : Change). adopted x z) (change_is ∙ ap (resynced_to v) (offset_is ∙ ap (λ (r : ℕ). offset_after v (r + rows)) row_is)))
    v.resync
    ∙ ap (lacks_row z) (sym row_is)

-- What is added to the log for a member's row that is rebuilt, as a whole.
use Rattle.std.proofs.Common.{◌≡◌, ◌≢◌, ℕ, zero, suc, ◌+◌, ◌-◌, ◌*◌, ◌/◌, ◌<◌, ◌≤◌, Bool, true, false, ◌==◌, ◌&&◌, ◌||◌, not, nat_lt, List, [], ◌∷◌, ◌++◌, length, slice_get, Option, Result, Some, None, Ok, Err, OnOk, IfErr, unwrap_or, refl, sym, ap, ap₂, subst, ◌∙◌, inl, inr, le-ltb, arith, lt-ltb}
use Rattle.std.proofs.lemmas.Bool.{both_ways, cases_eq, cases_lt, and_parts}
use Rattle.std.proofs.lemmas.List.{length-append}
use Rattle.std.specs.List.{list_all}
use Rattle.std.specs.Option.{option_map_or}
use Rattle.rack.specs.Seen.{RackView, IsLive}
use Rattle.rack.specs.Targets.{Target, look}
use Rattle.rack.specs.Sequences.{IsPayload, OnlyReads}
use Rattle.array_image.specs.Places.{data_sector}
use Rattle.array_image.specs.Record.{are_apart, is_target}
use Rattle.array_image.specs.SoundArray.{first_unsynced}
use Rattle.array_image.specs.Arrays.{Member, layout_at}
use Rattle.array_image.specs.Held.{Among}
use Rattle.array_image.specs.Supers.{is_reshaping}
use Rattle.log_laws.specs.View.{LogView, names, next_number}
use Rattle.log_laws.specs.Commits.{CommitCall}
use Rattle.log_laws.specs.Phases.{IsHad}
use Rattle.array_model.specs.declared.Seat.{Seat}
use Rattle.array_model.specs.declared.Seat.TheVariants.{Missing, Rebuilding}
use Rattle.array_model.specs.View.{View, IsArray, LosesPlaces, is_missing_seat, is_whole_array, is_whole_seat, member_on, rows_of, shape_of, spent_in}
use Rattle.array_model.specs.Says.{IsOpen}
use Rattle.array_model.specs.Members.{HasSlices, IsSameButSeats, Notes, slice_on, members_of}
use Rattle.array_model.proofs.Firsts.{member_among}
use Rattle.array_model.proofs.Views.{same_view_then, shape_members}
use Rattle.array_core.specs.declared.Change.{Change}
use Rattle.array_core.specs.declared.Spent.{Spent}
use Rattle.array_core.specs.Staging.{AddsSupersOf}
use Rattle.array_core.specs.Superblocks.{adopted, rebuilt_by}
use Rattle.array_core.specs.Writing.{KeepsElsewhere}
use Rattle.array_core.proofs.RowLists.{some_payload}
use Rattle.sync_laws.specs.Rows.{AddsCopies, AreCopies, IsGiven, OfMember, others_give, row_spent}
use Rattle.sync_laws.specs.Steps.{Steps, reach_on, rebuilt}
use Rattle.sync_laws.proofs.Answering.{row_elsewhere}
use Rattle.sync_laws.proofs.Logged.{AreOnMembers, all_had, all_valid}
use Rattle.sync_laws.proofs.Others.{OthersGive, give_after, give_now, spent_first, stays_lacking, unspent_others, others_few, same_wanting, unspent_few}
use Rattle.sync_laws.proofs.Rebuilt.{IsRebuilding, get_past, next_array, next_loses, next_rows, next_same, next_state, own_reach, own_seat, reach_before, rebuilt_there, row_change, stage_is, Outside, alike, last_of}
use Rattle.sync_laws.proofs.RebuiltRow.{rebuilt_moves}
use Rattle.sync_laws.proofs.Stepping.{IsDataOn, Step, all_apart, committed_steps, on_members}
use Rattle.sync_laws.proofs.Summing.{counted_before}
use Rattle.sync_laws.proofs.Views.{not_alone, seat_there}
use Rattle.raid_map.specs.LeftSymmetric.{row_at}
use Rattle.array_image.specs.Spent.{wanting, spent_with}
use Rattle.array_image.specs.Stripes.{Layout, sector_in}
use Rattle.array_model.proofs.Reading.{layout_same, spent_given}

-- the superblocks by which the member counts in its row, and the row's sectors
pub record MemberStaged (v : View) (place p to rows : ℕ) (a : RackView) (xs : List Target) : Type 0 where
  pub is : IsRebuilding v place p to rows
  pub unsynced : first_unsynced v.truth ≤ v.resync
  pub others : OthersGive v p (last_of to rows)
  pub supers : List Target
  pub own_data : List Target
  pub added : xs ≡ supers ++ own_data
  pub adds : AddsSupersOf (rebuilt v place rows) [] supers
  pub copies : AreCopies v (OfMember p to (128 * rows)) (IsGiven v a p) own_data

-- the row, and where the next one begins
pub row_start : (v : View) (place p to rows row : ℕ) → IsRebuilding v place p to rows → row ≡ to / 128 → row * 128 ≡ to
row_start v place p to rows row is row_is = let whole = is.whole in omega (arith, row_is, whole)

pub change_is : (v : View) (place p to rows row : ℕ) (c : Change) → IsRebuilding v place p to rows → row ≡ to / 128 → c ≡ rebuilt_by v place ((row + rows) * 128) → c ≡ row_change v place rows
change_is v place p to rows row c is row_is change =
    change ∙ ap (rebuilt_by v place) (let whole = is.whole in let reach = is.reach in let e : (row + rows) * 128 ≡ reach_on v place + 128 * rows = omega (arith, row_is, whole, reach) in e)

-- the others counted before losses
others_before : (v u : View) (a b : RackView) (place p to rows last : ℕ) → IsRebuilding v place p to rows → last ≡ last_of to rows → Notes v u a b → row_spent u last ≡ false → OthersGive v p (last_of to rows)
others_before v u a b place p to rows last is last_is notes unspent =
    let disks : u.truth.raid_disks ≡ v.truth.raid_disks = ap (λ t. t.raid_disks) notes.same.truth in
    let low = is.low in
    let reach = reach_before v place p to rows is in
    let whole = is.whole in
    let lacks : nat_lt (last * 128 + 127) (member_on u p).reach ≡ false =
    stays_lacking v u notes.lost p (last * 128 + 127) notes.same.truth notes.loses (le-ltb (last * 128 + 127) (member_on v p).reach (omega (arith, reach, last_is, whole))) in
    let now = unspent_others u p last (omega (arith, low, disks)) lacks unspent in
    let here : OthersGive v p last =
    record {
      counts = λ j inside other. counted_before v u a b j (last * 128 + 127) notes (now.counts j (omega (arith, inside, disks)) other);
      synced = (let synced = now.synced in let same = notes.same.resync in omega (arith, synced, same));
    } in
    subst (OthersGive v p) last_is here

pub staged : (v u : View) (a b : RackView) (place p to rows row : ℕ) (c : Change) (x y z : List Target) → IsRebuilding v place p to rows → first_unsynced v.truth ≤ v.resync → row ≡ to / 128
    → c ≡ rebuilt_by v place ((row + rows) * 128) → x ≡ [] → AddsSupersOf (adopted c v) x y → AddsCopies v (OfMember p (row * 128) (128 * rows)) (IsGiven v a p) (128 * rows) y z
    → Notes v u a b → not (row_spent u (row + (rows - 1))) ≡ true
    → MemberStaged v place p to rows a z
staged v u a b place p to rows row c x y z is unsynced row_is change empty adds copies notes had =
    let next : adopted c v ≡ rebuilt v place rows = ap (λ (d : Change). adopted d v) (change_is v place p to rows row c is row_is change) ∙ stage_is v place p to rows is in
    record {
      is = is;
      unsynced = unsynced;
      others = others_before v u a b place p to rows (row + (rows - 1)) is (ap (λ (r : ℕ). r + (rows - 1)) row_is) notes (not_true (row_spent u (row + (rows - 1))) had);
      supers = y;
      own_data = copies.targets;
      added = copies.appended;
      adds = subst (λ (g : View). AddsSupersOf g [] y) next (subst (λ xs. AddsSupersOf (adopted c v) xs y) empty adds);
      copies = subst (λ (first : ℕ). AreCopies v (OfMember p first (128 * rows)) (IsGiven v a p) copies.targets) (row_start v place p to rows row is row_is) copies.copies;
    }
  where
    not_true : (b : Bool) → not b ≡ true → b ≡ false
    not_true true is = absurd (both_ways false refl is)
    not_true false is = refl

whole_at : (seats : List Seat) (k : ℕ) (seat : Seat) → list_all is_whole_seat seats ≡ true → slice_get seats k ≡ Some seat → is_whole_seat seat ≡ true
whole_at [] k seat all is = absurd (let bad : None ≡ Some seat = is in cc)
whole_at (s ∷ seats) zero seat all is =
    let same : s ≡ seat = ap (λ o. unwrap_or o s) is in
    ap is_whole_seat (sym same) ∙ (and_parts (is_whole_seat s) (list_all is_whole_seat seats) all).0
whole_at (s ∷ seats) (suc k) seat all is = whole_at seats k seat (and_parts (is_whole_seat s) (list_all is_whole_seat seats) all).1 is

module _ (v : View) (place p to rows : ℕ) (a b : RackView) (xs : List Target) (row : MemberStaged v place p to rows a xs) (lasting : a.lasting) (reads : OnlyReads a b) where
  abbrev is : IsRebuilding v place p to rows
  is = row.is

  -- nobody is missing
  all_there : (k : ℕ) → slice_get v.seats k ≢ Some Missing
  all_there k gone = elim (cases_lt k v.truth.raid_disks) [
    | inr past ↦ (let count = row.is.is_array.seats in none_some (sym (get_past v.seats k (omega (arith, past, count))) ∙ gone))
    | inl low ↦ elim (cases_eq k p) [
      | inl same ↦ rebuilding_missing (sym row.is.seat ∙ ap (slice_get v.seats) (sym same) ∙ gone)
      | inr other ↦ seat_there v k (last_of to rows * 128 + 127) (row.others.counts k low other) gone
    ]
  ]
    where
      none_some : None ≡ Some Missing → ⊥
      none_some bad = both_ways true (ap (λ (o : Option Seat). option_map_or (λ s. false) o true) bad) refl

      rebuilding_missing : Some (Rebuilding to) ≡ Some Missing → ⊥
      rebuilding_missing bad = both_ways true (ap (λ o. option_map_or is_missing_seat o true) (sym bad)) refl

  -- it isn't whole, so it isn't marked
  not_marked : (v.marked ≡ true → is_whole_array v ≡ true) → v.marked ≡ false
  not_marked steady = by v.marked refl
    where
      by : (b : Bool) → v.marked ≡ b → v.marked ≡ false
      by false is = is
      by true is =
          let whole = and_parts (list_all is_whole_seat v.seats) ((v.resync == rows_of v) && (not v.young && not (is_reshaping v.truth))) (steady is) in
          absurd (both_ways true (sym (whole_at v.seats p (Rebuilding to) whole.0 row.is.seat)) refl)

  -- a sector of the row is one of the member's data
  data_on : (d t : ℕ) (u : List ℕ) → IsPayload row.own_data d t u → IsDataOn v d t u
  data_on d t u pay =
      let at = row.copies.on d t u pay in
      let last = at.inside.1 in
      let inside = row.is.inside in
      record {
        position = at.position;
        low = at.low;
        there = all_there at.position;
        disk = at.disk;
        sector = at.sector;
        at = at.at;
        inside = omega (arith, last, inside);
        long = at.long;
      }

  live_on : IsOpen (shape_of (rebuilt v place rows)) v.number a → (d t : ℕ) (u : List ℕ) → IsPayload row.own_data d t u → IsLive a a d t
  live_on opened d t u pay =
      let at = row.copies.on d t u pay in
      let last = at.inside.1 in
      let reach = own_reach v place p to rows row.is in
      let among : Among (member_on (rebuilt v place rows) p) (shape_of (rebuilt v place rows)).members =
      subst (λ (ms : List Member). Among (member_on (rebuilt v place rows) p) ms) (sym (shape_members (rebuilt v place rows))) (member_among (rebuilt v place rows) p v.truth.raid_disks row.is.low) in
      subst (λ e. IsLive a a e t) (sym (at.disk ∙ ap (slice_on v) at.inside.2))
      (subst (λ e. IsLive a a (slice_on v p) e) (sym at.at)
      (opened (member_on (rebuilt v place rows) p) at.sector among (omega (arith, last, reach))))

  -- what isn't spent after it wasn't before
  pub member_unspent : (y : ℕ) → spent_in (rebuilt v place rows) y ≡ false → spent_in v y ≡ false
  member_unspent y unspent =
      let t = sector_in (layout_at (shape_of v) y) y in
      let now : spent_in (rebuilt v place rows) y ≡ spent_with (wanting t (members_of (rebuilt v place rows))) (nat_lt (row_at t) v.resync) =
      spent_given (rebuilt v place rows) y t (ap (λ (l : Layout). sector_in l y) (sym (layout_same v (rebuilt v place rows) y refl))) in
      let outside : Outside to rows t → spent_in v y ≡ false =
      λ out.
      spent_given v y t refl
      ∙ ap (λ (k : ℕ). spent_with k (nat_lt (row_at t) v.resync)) (sym (same_wanting v (rebuilt v place rows) t refl (λ j low. alike v place p to rows row.is j t low (λ same. out))))
      ∙ sym now ∙ unspent in
      elim (cases_lt t to) [
        | inl early ↦ outside (inl early)
        | inr first ↦ elim (cases_lt t (to + 128 * rows)) [
          | inr late ↦ outside (inr late)
          | inl last ↦
              let whole = row.is.whole in
              let synced = row.others.synced in
              spent_given v y t refl
              ∙ unspent_few (wanting t (members_of v)) (nat_lt (row_at t) v.resync)
              (others_few v p t (λ j low other. let counts = row.others.counts j low other in omega (arith, counts, last, whole)))
              (lt-ltb (row_at t) v.resync (omega (arith, first, last, whole, synced)))
        ]
      ]

  pub member_step : Step v v.truth.events v.truth.resync_offset v.resync (rebuilt v place rows).seats v.marked row.own_data a b (λ spent. Unit {0})
  member_step = record {
    is_array = row.is.is_array;
    next = next_array v place p to rows row.is;
    on = data_on;
    apart = row.copies.apart;
    present = λ k there. all_there k;
    more = omega arith;
    unsynced = row.unsynced;
    some = p;
    some_low = row.is.low;
    some_there = ap (λ (o : Option Seat). is_missing_seat (unwrap_or o Missing)) (own_seat v place p to rows row.is) ∙ rebuilt_there v.truth.size (to + 128 * rows);
    settled = λ steady s vals spent meets holds. holds.shape.settled (ap₂ (λ (m n : Bool). m || n) (not_marked steady) (not_alone v row.is.is_array (all_there 0) (all_there 1)));
    unmarked = not_marked;
    state = λ s state room. next_state v place p to rows row.is s state;
    rows = next_rows v place p to rows row.is;
    live = λ whole opened also. live_on also;
    moves = λ whole opened sized even spent meets. rebuilt_moves v place p to rows row.is a b row.own_data lasting reads row.others row.copies opened sized spent;
  }

  pub member_on_members : AreOnMembers v xs
  member_on_members =
      subst (AreOnMembers v) (sym row.added)
      (on_members v v.truth.events v.truth.resync_offset v.resync (rebuilt v place rows).seats v.marked row.supers row.own_data a b member_step row.adds)

  pub member_valid : list_all is_target xs ≡ true
  member_valid = all_valid v xs row.is.is_array member_on_members

  pub member_apart : are_apart xs ≡ true
  member_apart =
      ap are_apart row.added
      ∙ all_apart v v.truth.events v.truth.resync_offset v.resync (rebuilt v place rows).seats v.marked row.supers row.own_data a b member_step row.adds

  pub member_some : 0 < length xs
  member_some =
      let has = row.copies.has to p (omega arith, omega arith, refl) in
      let some = some_payload row.own_data (slice_on v p) (data_sector + to) has.0 has.1 in
      let sum : length xs ≡ length row.supers + length row.own_data = ap length row.added ∙ length-append row.supers row.own_data in
      omega (arith, some, sum)

  pub member_had : HasSlices v a → (d s : ℕ) (u : List ℕ) → look xs d s ≡ Some u → IsHad b d s
  member_had slices = all_had v a b xs slices reads.stays member_on_members

-- the whole step
pub member_steps : (v u z w : View) (a b c : RackView) (l : LogView) (on lost : List ℕ) (place p to rows number after row : ℕ) (change : Change) (answered : Bool)
    → MemberStaged v place p to rows a l.added → HasSlices v a → OnlyReads a b → Notes v u a b → CommitCall l on lost b c → IsSameButSeats u z → LosesPlaces u z (names lost) → IsArray z
    → row ≡ to / 128 → change ≡ rebuilt_by v place ((row + rows) * 128) → w ≡ adopted change z → l.number ≡ number → after ≡ next_number l.number
    → Steps v (rebuilt v place rows) w number after on a c answered
member_steps v u z w a b c l on lost place p to rows number after row change answered staged_row slices reads notes commit same loses z_array row_is changed adopts number_is after_is =
    let is = staged_row.is in
    let same_v = same_view_then v u z notes.same same in
    let adopted_w : w ≡ adopted (row_change v place rows) z = adopts ∙ ap (λ (d : Change). adopted d z) (change_is v place p to rows row change is row_is changed) in
    committed_steps v u z w v.truth.events v.truth.resync_offset v.resync (rebuilt v place rows).seats v.marked a b c l on lost staged_row.supers staged_row.own_data number after
    (member_step v place p to rows a b l.added staged_row slices.lasting reads) staged_row.adds staged_row.added slices reads notes commit same loses
    (subst (λ (x : View). IsSameButSeats (rebuilt v place rows) x) (sym adopted_w) (next_same v place p to rows is z z_array same_v))
    (λ gone loses_v. subst (λ (x : View). LosesPlaces (rebuilt v place rows) x gone) (sym adopted_w) (next_loses v place p to rows is z z_array same_v gone loses_v))
    number_is after_is answered (λ spent. tt)
    (λ whole. member_unspent v place p to rows a b l.added staged_row slices.lasting reads)

pub member_leaves : (v : View) (place p to rows : ℕ) (a b c : RackView) (l : LogView) (on lost : List ℕ) → MemberStaged v place p to rows a l.added → a.lasting → OnlyReads a b → CommitCall l on lost b c
    → KeepsElsewhere false v on a c
member_leaves v place p to rows a b c l on lost staged_row lasting reads commit =
    row_elsewhere v l on lost a b c staged_row.is.is_array.few reads (member_on_members v place p to rows a b l.added staged_row lasting reads) commit

-- ---- the answer

-- whether the others give the row, by the array before the change and after it
pub gives_row : (v z w : View) (place p to rows row : ℕ) (change : Change) (lost : ℕ → Bool) → IsRebuilding v place p to rows → IsArray z → IsSameButSeats v z → LosesPlaces v z lost
    → row ≡ to / 128 → change ≡ rebuilt_by v place ((row + rows) * 128) → w ≡ adopted change z → others_give w place (to / 128) ≡ not (row_spent z row)
gives_row v z w place p to rows row change lost is z_array same loses row_is changed adopts =
    let start = row_start v place p to rows row is row_is in
    ap (λ (r : ℕ). others_give w place r) (sym row_is)
    ∙ ap (λ (x : View). others_give x place row) (adopts ∙ ap (λ (d : Change). adopted d z) (change_is v place p to rows row change is row_is changed))
    ∙ give_after v place p to rows is z same lost loses z_array row
    ∙ give_now v place p to rows is z same lost loses row (omega (arith, start))

-- and of a row that wasn't begun
pub gives_none : (v u : View) (place p to rows row : ℕ) (lost : ℕ → Bool) → IsRebuilding v place p to rows → IsSameButSeats v u → LosesPlaces v u lost → row ≡ to / 128
    → others_give u place (to / 128) ≡ not (row_spent u row)
gives_none v u place p to rows row lost is same loses row_is =
    let start = row_start v place p to rows row is row_is in
    ap (λ (r : ℕ). others_give u place r) (sym row_is) ∙ give_now v place p to rows is u same lost loses row (omega (arith, start))

-- rows that weren't begun: the first is spent where the last is
pub refused_spent : (v u : View) (place p to rows row : ℕ) (lost : ℕ → Bool) → IsRebuilding v place p to rows → IsSameButSeats v u → LosesPlaces v u lost → row ≡ to / 128
    → (1 < rows → row_spent v (row + (rows - 1)) ≡ false) → row_spent u (row + (rows - 1)) ≡ true → row_spent u row ≡ true
refused_spent v u place p to rows row lost is same loses row_is had spent =
    let start = row_start v place p to rows row is row_is in
    elim (cases_lt 1 rows) [
      | inl more ↦ spent_first v place p to rows is u same lost loses row (row + (rows - 1)) (omega (arith, start)) (omega arith) (had more) spent
      | inr one ↦ (let e : row + (rows - 1) ≡ row = omega (arith, one) in subst (λ (r : ℕ). row_spent u r ≡ true) e spent)
    ]

pub gives_ok : {X : Type 0} (spent gives : Bool) (r : Result X Spent) → gives ≡ not spent → OnOk r (spent ≡ false) → OnOk r (gives ≡ true)
gives_ok spent gives (Ok x) same served = same ∙ ap not served
gives_ok spent gives (Err e) same served = tt

pub gives_err : {X : Type 0} (spent gives : Bool) (m n : ℕ) (r : Result X Spent) → gives ≡ not spent → m ≡ n → IfErr r (λ e. (e.sector ≡ m) × (spent ≡ true)) → IfErr r (λ e. (e.sector ≡ n) × (gives ≡ false))
gives_err spent gives m n (Ok x) same sector refused = tt
gives_err spent gives m n (Err e) same sector refused = (refused.0 ∙ sector, same ∙ ap not refused.1)

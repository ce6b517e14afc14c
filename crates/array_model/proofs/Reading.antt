-- Members' sectors that are read one after the other.
use Rattle.std.proofs.Common.{◌≡◌, ℕ, ◌+◌, ◌<◌, ◌≤◌, Bool, true, false, ◌==◌, ◌&&◌, ◌||◌, not, nat_lt, if◌then◌else◌, List, [], map, take, slice_get, ◌≢◌, Some, None, option_map, unwrap_or, refl, sym, ap, ap₂, subst, ◌∙◌, eq-eqb, eqb-true, ltb-true, lt-ltb, arith, le-ltb, ◌*◌}
use Rattle.rack.specs.Seen.{Image, RackView, IsLive, SameRack, Rose}
use Rattle.rack.specs.Sequences.{OnlyReads}
use Rattle.array_image.specs.Places.{place_of, member_slice, data_sector}
use Rattle.array_image.specs.Stripes.{Layout, width, position_in, sector_in, given, at_position}
use Rattle.array_image.specs.Arrays.{Shape, column, layout_at, value_by, Member}
use Rattle.array_image.specs.Held.{Among, source_in, current_in}
use Rattle.array_image.specs.Spent.{wanting, spent_with}
use Rattle.raid_map.specs.LeftSymmetric.{row_at}
use Rattle.rack.specs.Values.{Values}
use Rattle.pool_state.specs.declared.contents.State.{State}
use Rattle.array_image.specs.Supers.{is_reshaping, new_row}
use Rattle.array_image.proofs.Sources.{source_value}
use Rattle.array_image.proofs.Marked.{among_lowered}
use Rattle.md_super.specs.declared.superblock.Super.{Super}
use Rattle.array_image.specs.Arrays.{place_with, final_layout, first_layout}
use Rattle.array_model.specs.declared.Seat.TheVariants.{Missing}
use Rattle.array_model.specs.View.{seat_unless, View, IsArray, LosesPlaces, HasFault, place_at, member_on, shape_of, spent_in}
use Rattle.array_model.specs.Says.{IsOpen}
use Rattle.array_model.specs.ArrayCalls.{IncludesSpent, ReadsArray}
use Rattle.array_model.specs.Members.{members_of, slice_on, HasSlices, IsSameButSeats, Notes, gathered, added, restored, row_layout}
use Rattle.array_model.proofs.Views.{members_then, shape_members, shape_then, member_then}
use Rattle.array_model.proofs.Keeping.{live_on, open_after, same_value, same_stripe, KeepsData}
use Rattle.array_model.proofs.Spared.{wanting_lost}
use Rattle.array_model.proofs.Noting.{read_acts, noted_value_of}
use Rattle.array_model.proofs.Firsts.{firsts, member_among, gathered_more, at_firsts, take_firsts}
use Rattle.array_image.specs.Marks.{unless_gone}
use Rattle.std.specs.Option.{option_map_or}
use Rattle.array_image.proofs.Losing.{column_none}

-- one place went, by a refused call of a member's slice
pub notes_one : (v w : View) (a b : RackView) (n : ℕ) → v.number < 16 → IsSameButSeats v w → LosesPlaces v w (λ p. p == place_at v n)
    → Rose (a.faults (slice_on v n)) (b.faults (slice_on v n)) → Notes v w a b
notes_one v w a b n few same loses rose = record {
  same = same;
  lost = λ p. p == place_at v n;
  loses = loses;
  cause = λ place is.
      let At : ℕ → Type 0 = λ p. HasFault a b p in
      let here : At (place_at v n) = (slice_on v n, at (place_at v n) few, rose) in
      subst At (sym (eqb-true place (place_at v n) is)) here;
}
  where
    at : (place : ℕ) → v.number < 16 → place_of (member_slice place v.number) ≡ place
    at place few = omega (arith, few)

-- one that counted is wanting then
pub wanting_noted : (v w : View) (n sector : ℕ) → n < v.truth.raid_disks → sector < (member_on v n).reach
    → IsSameButSeats v w → LosesPlaces v w (λ p. p == place_at v n)
    → wanting sector (members_of v) < wanting sector (members_of w)
wanting_noted v w n sector low counts same loses =
    let lost : ℕ → Bool = λ p. p == place_at v n in
    subst (λ ms. wanting sector (members_of v) < wanting sector ms) (sym (members_then v w lost same.truth loses))
    (wanting_lost lost sector (members_of v) (member_on v n) (member_among v n v.truth.raid_disks low) counts (eq-eqb (place_at v n) (place_at v n) refl))

-- the slices are still there
pub slice_same : (v w : View) (n : ℕ) → IsSameButSeats v w → slice_on w n ≡ slice_on v n
slice_same v w n same = ap₂ (λ (t : Super) (k : ℕ). member_slice (unwrap_or (place_with t.roles.items n) 16) k) same.truth same.number

pub missing_before : (v w : View) (n : ℕ) (lost : ℕ → Bool) → LosesPlaces v w lost → slice_get w.seats n ≢ Some Missing → slice_get v.seats n ≢ Some Missing
missing_before v w n lost loses other is = other (loses.seats n ∙ ap (option_map (seat_unless lost (place_at v n))) is ∙ by (lost (place_at v n)))
  where
    by : (b : Bool) → Some (if b then Missing else Missing) ≡ Some Missing
    by true = refl
    by false = refl

pub slices_then : (v w : View) (a b : RackView) → SameRack a b → Notes v w a b → HasSlices v a → HasSlices w b
slices_then v w a b stays notes slices =
    let disks : (t : Super) → t ≡ v.truth → (n : ℕ) → n < t.raid_disks → n < v.truth.raid_disks = λ t is n low. subst (λ (u : Super). n < u.raid_disks) is low in
    record {
      fit = stays.fit;
      lasting = stays.lasting slices.lasting;
      disks = λ n low other.
          subst (λ k. slice_on w n < k) (sym stays.disks)
          (subst (λ d. d < a.disks) (sym (slice_same v w n notes.same))
          (slices.disks n (disks w.truth notes.same.truth n low) (missing_before v w n notes.lost notes.loses other)));
      sectors = λ n low other.
          subst (λ k. data_sector + w.truth.size ≤ k) (sym (stays.sectors (slice_on w n)))
          (subst (λ (t : Super). data_sector + t.size ≤ a.sectors (slice_on w n)) (sym notes.same.truth)
          (subst (λ d. data_sector + v.truth.size ≤ a.sectors d) (sym (slice_same v w n notes.same))
          (slices.sectors n (disks w.truth notes.same.truth n low) (missing_before v w n notes.lost notes.loses other))));
    }

-- ---- what is read

-- a member's sector that was read is its column
pub column_read : (v : View) (a : RackView) (n sector : ℕ) (x : List ℕ) → n < v.truth.raid_disks → nat_lt sector (member_on v n).reach ≡ true
    → (a.told (slice_on v n) → x ≡ (a.held (slice_on v n) (data_sector + sector)).current)
    → IsOpen (shape_of v) v.number a
    → column (current_in a.held) v.number sector (member_on v n) ≡ Some x
column_read v a n sector x low counts value opened =
    let live = opened (member_on v n) sector (subst (λ ms. Among (member_on v n) ms) (sym (shape_members v)) (member_among v n v.truth.raid_disks low)) (ltb-true sector (member_on v n).reach counts) in
    ap (λ (b : Bool). if b then Some (current_in a.held (slice_on v n) (data_sector + sector)) else None) counts ∙ ap Some (sym (value live.is_told))

-- one that doesn't count has none
pub column_wanting : (v : View) (c : Image) (n sector : ℕ) → nat_lt sector (member_on v n).reach ≡ false → column c v.number sector (member_on v n) ≡ None
column_wanting v c n sector none = ap (λ (b : Bool). if b then Some (c (slice_on v n) (data_sector + sector)) else None) none

-- reads leave the columns
pub column_kept : (v : View) (a b : RackView) (n sector : ℕ) → a.lasting → OnlyReads a b → n < v.truth.raid_disks → IsOpen (shape_of v) v.number a
    → column (current_in b.held) v.number sector (member_on v n) ≡ column (current_in a.held) v.number sector (member_on v n)
column_kept v a b n sector lasting reads low opened =
    let d = slice_on v n in
    let t = data_sector + sector in
    let Goal : Bool → Type 0 = λ c. nat_lt sector (member_on v n).reach ≡ c → (if c then Some (current_in b.held d t) else None) ≡ (if c then Some (current_in a.held d t) else None) in
    let goal : Goal (nat_lt sector (member_on v n).reach) =
    elim (nat_lt sector (member_on v n).reach) as Goal [
      | true ↦ λ counts.
          ap Some (reads.keeps.held d t (live_on lasting reads.stays
          (opened (member_on v n) sector (subst (λ ms. Among (member_on v n) ms) (sym (shape_members v)) (member_among v n v.truth.raid_disks low)) (ltb-true sector (member_on v n).reach counts)))).current
      | false ↦ λ none. refl
    ] in
    goal refl

-- a sum of one member more
pub gathered_step : (v : View) (a b : RackView) (sector k : ℕ) (sum next : List ℕ) → a.lasting → k < v.truth.raid_disks → OnlyReads a b
    → (IsOpen (shape_of v) v.number a → sum ≡ gathered (current_in a.held) v.number sector (firsts v k))
    → (IsOpen (shape_of v) v.number b → next ≡ added (column (current_in b.held) v.number sector (member_on v k)) sum)
    → IsOpen (shape_of v) v.number a → next ≡ gathered (current_in a.held) v.number sector (firsts v (k + 1))
gathered_step v a b sector k sum next lasting low reads so_far here opened =
    here (open_after lasting reads.stays (shape_of v) v.number opened)
    ∙ ap₂ added (column_kept v a b k sector lasting reads low opened) (so_far opened)
    ∙ sym (gathered_more v (current_in a.held) v.number sector k)

-- what the first members of a layout give at a position
pub given_source : (v : View) (layout : Layout) (c : Image) (sector position k : ℕ) (x : List ℕ)
    → source_in layout sector position (members_of v) ≡ Some (member_on v k)
    → column c v.number sector (member_on v k) ≡ Some x
    → x ≡ given layout (map (column c v.number sector) (take (width layout) (members_of v))) position
given_source v layout c sector position k x source is =
    let found = source_value layout c v.number sector position (members_of v) (member_on v k) source in
    let counts = found.0.counts in
    let here : Some (c (slice_on v k) (data_sector + sector)) ≡ Some x =
    sym (ap (λ (b : Bool). if b then Some (c (slice_on v k) (data_sector + sector)) else None) (lt-ltb sector (member_on v k).reach counts)) ∙ is in
    sym (found.1 ∙ ap (λ o. unwrap_or o x) here)

-- the source of a sector counts there
pub source_counts_on : (v : View) (layout : Layout) (sector position k : ℕ) → source_in layout sector position (members_of v) ≡ Some (member_on v k) → sector < (member_on v k).reach
source_counts_on v layout sector position k source = (source_value layout (λ d t. []) v.number sector position (members_of v) (member_on v k) source).0.counts

-- ---- after losses

-- the members that are left are open
pub open_then : (v w : View) (a b : RackView) → IsSameButSeats v w → (lost : ℕ → Bool) → LosesPlaces v w lost → (x : RackView) → IsOpen (shape_of v) v.number x → IsOpen (shape_of w) w.number x
open_then v w a b same lost loses x opened m sector among counts =
    let shape = shape_then v w lost same.truth loses in
    let of = among_lowered lost sector (shape_of v).members m (subst (λ (s : Shape). Among m s.members) shape among) counts in
    subst (λ n. IsLive x x (member_slice m.place n) (data_sector + sector)) (sym same.number) (opened m sector of counts)

-- their values stay through reads
pub value_then : (v w : View) (a b : RackView) (x : ℕ) → a.lasting → OnlyReads a b → Notes v w a b → IsOpen (shape_of v) v.number a
    → value_by (shape_of w) (current_in b.held) w.number x ≡ value_by (shape_of w) (current_in a.held) v.number x
value_then v w a b x lasting reads notes opened =
    let left = open_then v w a b notes.same notes.lost notes.loses a opened in
    let keeps : KeepsData (shape_of w) w.number a.held b.held = λ m sector among counts. reads.keeps.held _ _ (live_on lasting reads.stays (left m sector among counts)) in
    same_value a.held b.held (shape_of w) w.number x keeps
    ∙ ap (λ n. value_by (shape_of w) (current_in a.held) n x) notes.same.number

-- what a row gives stays through reads
pub given_kept : (v w : View) (a b : RackView) (layout : Layout) (sector position : ℕ) → a.lasting → OnlyReads a b → IsSameButSeats v w → (lost : ℕ → Bool) → LosesPlaces v w lost
    → IsOpen (shape_of v) v.number a
    → given layout (map (column (current_in b.held) w.number sector) (take (width layout) (members_of w))) position
    ≡ given layout (map (column (current_in a.held) w.number sector) (take (width layout) (members_of w))) position
given_kept v w a b layout sector position lasting reads same_seats lost loses opened =
    let left = open_then v w a b same_seats lost loses a opened in
    let keeps : KeepsData (shape_of w) w.number a.held b.held = λ m t among counts. reads.keeps.held _ _ (live_on lasting reads.stays (left m t among counts)) in
    let same = same_stripe a.held b.held (shape_of w) w.number sector layout keeps in
    ap (λ stripe. given layout stripe position)
    (subst (λ ms. map (column (current_in b.held) w.number sector) (take (width layout) ms) ≡ map (column (current_in a.held) w.number sector) (take (width layout) ms)) (shape_members w) same)

-- the array's value, by what its row gives
pub value_given : (v : View) (c : Image) (x : ℕ) (layout : Layout) (sector position : ℕ)
    → layout ≡ layout_at (shape_of v) x → position ≡ position_in (layout_at (shape_of v) x) x → sector ≡ sector_in (layout_at (shape_of v) x) x
    → given layout (map (column c v.number sector) (take (width layout) (members_of v))) position ≡ value_by (shape_of v) c v.number x
unfolding value_by
value_given v c x layout sector position is_l is_p is_s =
    ap (λ (l : Layout). given l (map (column c v.number sector) (take (width l) (members_of v))) position) is_l
    ∙ ap₂ (λ s p. given (layout_at (shape_of v) x) (map (column c v.number s) (take (width (layout_at (shape_of v) x)) (members_of v))) p) is_s is_p
    ∙ ap (λ ms. given (layout_at (shape_of v) x) (map (column c v.number (sector_in (layout_at (shape_of v) x) x)) (take (width (layout_at (shape_of v) x)) ms)) (position_in (layout_at (shape_of v) x) x)) (sym (shape_members v))

-- whether a sector is spent, by its row
pub spent_given : (v : View) (x sector : ℕ) → sector ≡ sector_in (layout_at (shape_of v) x) x
    → spent_in v x ≡ spent_with (wanting sector (members_of v)) (nat_lt (row_at sector) v.resync)
spent_given v x sector is =
    ap (λ ms. spent_with (wanting (sector_in (layout_at (shape_of v) x) x) ms) (nat_lt (row_at (sector_in (layout_at (shape_of v) x) x)) v.resync)) (shape_members v)
    ∙ ap (λ s. spent_with (wanting s (members_of v)) (nat_lt (row_at s) v.resync)) (sym is)

-- two losses more make a row spent
pub lost_twice : (u v w : View) (sector : ℕ) → wanting sector (members_of u) < wanting sector (members_of v) → wanting sector (members_of v) < wanting sector (members_of w)
    → spent_with (wanting sector (members_of w)) (nat_lt (row_at sector) w.resync) ≡ true
lost_twice u v w sector first second =
    ap (λ (b : Bool). b || (nat_lt 0 (wanting sector (members_of w)) && not (nat_lt (row_at sector) w.resync)))
    (lt-ltb 1 (wanting sector (members_of w)) (omega (arith, first, second)))

-- the layouts are those of the truth
pub layout_same : (v w : View) (x : ℕ) → w.truth ≡ v.truth → layout_at (shape_of w) x ≡ layout_at (shape_of v) x
unfolding shape_of
layout_same v w x truth =
    ap (λ (t : Super). layout_at (record (shape_of v) { moved = final_layout t; layout = first_layout t; reached = if is_reshaping t then t.reshape_position else 0 }) x) truth

-- ---- the clause of a read

pub reads_array : (a b : RackView) (v w : View) (sector : ℕ) (into : List ℕ) → a.lasting → OnlyReads a b → IsArray v → Notes v w a b
    → (spent_in w sector ≡ false → IsOpen (shape_of v) v.number a → into ≡ value_by (shape_of w) (current_in a.held) v.number sector)
    → (s : State) (durable : Shape) (vals : ℕ → Values) (spent : ℕ → Bool) → IncludesSpent w spent
    → ReadsArray s v w spent a b durable vals sector into
reads_array a b v w sector into lasting reads is_array notes value s durable vals spent covers =
    record {
      acts = read_acts a b v w lasting reads is_array notes s durable vals spent covers;
      keeps = reads.keeps;
      value = λ holds alive.
          value (covers sector alive) holds.shape.open_left
          ∙ noted_value_of s durable v w vals spent a b a sector is_array notes covers holds alive
          ∙ holds.shape.current sector alive;
    }

-- and open after calls that write nothing
pub open_calls : (v w : View) (a b : RackView) → a.lasting → OnlyReads a b → Notes v w a b → IsOpen (shape_of v) v.number a → IsOpen (shape_of w) w.number b
open_calls v w a b lasting reads notes opened = open_after lasting reads.stays (shape_of w) w.number (open_then v w a b notes.same notes.lost notes.loses a opened)

-- one that went counts nowhere
pub reach_noted : (v w : View) (n : ℕ) → IsSameButSeats v w → LosesPlaces v w (λ p. p == place_at v n) → (member_on w n).reach ≡ 0
reach_noted v w n same loses =
    ap (λ (m : Member). m.reach)
    (member_then v w (λ p. p == place_at v n) n same.truth loses ∙ ap (λ b. unless_gone b (member_on v n)) (eq-eqb (place_at v n) (place_at v n) refl))

-- whoever doesn't count never counts again
pub wanting_stays : (v w : View) (a b : RackView) (n sector : ℕ) → Notes v w a b → nat_lt sector (member_on v n).reach ≡ false → nat_lt sector (member_on w n).reach ≡ false
wanting_stays v w a b n sector notes none =
    ap (λ (m : Member). nat_lt sector m.reach) (member_then v w notes.lost n notes.same.truth notes.loses) ∙ by (notes.lost (place_at v n))
  where
    by : (b : Bool) → nat_lt sector (if b then 0 else (member_on v n).reach) ≡ false
    by true = le-ltb sector 0 (omega arith)
    by false = none

-- ---- what a member has to hold

pub restored_own : (v : View) (c : Image) (layout : Layout) (sector position : ℕ) (x : List ℕ) → width layout ≤ v.truth.raid_disks → position < width layout
    → column c v.number sector (member_on v position) ≡ Some x
    → x ≡ restored layout (map (column c v.number sector) (take (width layout) (members_of v))) position
restored_own v c layout sector position x most low is =
    sym (ap (λ o. option_map_or (λ y. y) o (given layout (map (column c v.number sector) (take (width layout) (members_of v))) position))
    (ap (λ ms. at_position position (map (column c v.number sector) ms)) (take_firsts v (width layout) v.truth.raid_disks most) ∙ at_firsts v c sector position (width layout) low ∙ is))

pub restored_others : (v : View) (c : Image) (layout : Layout) (sector position : ℕ) (x : List ℕ) → width layout ≤ v.truth.raid_disks → position < width layout
    → nat_lt sector (member_on v position).reach ≡ false
    → x ≡ given layout (map (column c v.number sector) (take (width layout) (members_of v))) position
    → x ≡ restored layout (map (column c v.number sector) (take (width layout) (members_of v))) position
restored_others v c layout sector position x most low none is =
    is
    ∙ sym (ap (λ o. option_map_or (λ y. y) o (given layout (map (column c v.number sector) (take (width layout) (members_of v))) position))
    (ap (λ ms. at_position position (map (column c v.number sector) ms)) (take_firsts v (width layout) v.truth.raid_disks most) ∙ at_firsts v c sector position (width layout) low
    ∙ column_wanting v c position sector none))

-- its row's layout is that of the truth
pub row_layout_then : (v w : View) (sector : ℕ) → w.truth ≡ v.truth → row_layout w sector ≡ row_layout v sector
row_layout_then v w sector truth =
    ap (λ (t : Super). if is_reshaping t && nat_lt (row_at sector * new_row t) t.reshape_position then final_layout t else first_layout t) truth

-- a column that was read after reads is what it was before them
pub column_before : (v u : View) (a b : RackView) (n sector : ℕ) (x : List ℕ) → a.lasting → OnlyReads a b → IsSameButSeats v u → (lost : ℕ → Bool) → LosesPlaces v u lost
    → n < v.truth.raid_disks → IsOpen (shape_of v) v.number a
    → column (current_in b.held) u.number sector (member_on u n) ≡ Some x → column (current_in a.held) v.number sector (member_on v n) ≡ Some x
column_before v u a b n sector x lasting reads same lost loses low opened is =
    let c = current_in b.held in
    let here : column c v.number sector (unless_gone (lost (place_at v n)) (member_on v n)) ≡ Some x =
    ap₂ (λ (k : ℕ) (m : Member). column c k sector m) (sym same.number) (sym (member_then v u lost n same.truth loses)) ∙ is in
    let Goal : Bool → Type 0 = λ l. column c v.number sector (unless_gone l (member_on v n)) ≡ Some x → column c v.number sector (member_on v n) ≡ Some x in
    let goal : Goal (lost (place_at v n)) = elim (lost (place_at v n)) as Goal [
      | true ↦ λ some. absurd (none_some (sym (column_none c v.number sector (member_on v n)) ∙ some))
      | false ↦ λ some. some
    ] in
    sym (column_kept v a b n sector lasting reads low opened) ∙ goal here
  where
    none_some : None ≡ Some x → ⊥
    none_some same = cc

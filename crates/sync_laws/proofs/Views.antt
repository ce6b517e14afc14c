-- An array before and after a row is resynced.
use Rattle.std.proofs.Common.{◌≡◌, ◌≢◌, ◌⊎◌, ℕ, zero, suc, ◌+◌, ◌-◌, ◌*◌, ◌/◌, ◌%◌, ◌<◌, ◌≤◌, ◌^◌, Bool, true, false, ◌==◌, ◌&&◌, ◌||◌, not, nat_lt, nat_le, if◌then◌else◌, List, [], ◌∷◌, length, slice_get, Option, Some, None, unwrap_or, refl, sym, ap, ap₂, subst, ◌∙◌, inl, inr, eqb-true, lt-ltb, le-ltb, ltb-true, ltb-false, arith}
use Rattle.std.proofs.lemmas.Bool.{ne_eqb, and_parts, leb-true, cases_lt}
use Rattle.std.specs.List.{list_all}
use Rattle.std.specs.Option.{option_map_or}
use Rattle.md_super.specs.declared.superblock.Super.{Super}
use Rattle.md_super.specs.Profile.{is_mirror}
use Rattle.pool_state.specs.declared.contents.State.{State}
use Rattle.array_image.specs.Supers.{is_reshaping}
use Rattle.array_image.specs.SoundArray.{first_unsynced}
use Rattle.array_model.specs.declared.Seat.{Seat}
use Rattle.array_model.specs.declared.Seat.TheVariants.{Whole, Missing, Rebuilding}
use Rattle.array_model.specs.View.{View, IsArray, LosesPlaces, is_alone, is_missing_seat, is_whole_array, is_whole_seat, may_vary, member_on, present, rows_of, seat_reach, shape_of, spent_in}
use Rattle.array_model.specs.Members.{IsSameButSeats, members_of}
use Rattle.array_model.specs.Stages.{IsStateOf}
use Rattle.array_model.proofs.Views.{same_view}
use Rattle.array_core.specs.declared.Change.{Change}
use Rattle.array_core.specs.Opening.{resync_by}
use Rattle.array_core.specs.Slots.{places_by}
use Rattle.array_core.specs.Staging.{HasRowRebuilds}
use Rattle.array_core.specs.Superblocks.{adopted, adopted_resync, keeps_rows, raised, resynced_to}
use Rattle.array_core.proofs.Cleaning.{raised_more}
use Rattle.array_core.proofs.Staged.{slot_on}
use Rattle.sync_laws.specs.Rows.{lacks_row}
use Rattle.sync_laws.specs.Steps.{offset_after, resynced}
use Rattle.sync_laws.proofs.Adopted.{adopted_kept}
use Rattle.sync_laws.proofs.Agreeing.{all_counts}
use Rattle.raid_map.specs.LeftSymmetric.{row_at}
use Rattle.array_image.specs.Arrays.{layout_at}
use Rattle.array_image.specs.Stripes.{sector_in}
use Rattle.array_image.specs.Spent.{wanting, spent_with}
use Rattle.sync_laws.proofs.Summing.{wanting_later}

-- what a call of so many rows needs of an array, and what holds of it
pub record IsUnsynced (v : View) (rows : ℕ) : Type 0 where
  pub is_array : IsArray v
  pub grown : v.young ≡ false
  pub some : 0 < rows
  pub rows_left : v.resync + rows ≤ v.truth.size / 128
  pub unsynced : first_unsynced v.truth ≤ v.resync

-- the last of so many rows left to resync
abbrev pub last_row : View → (rows : ℕ) → ℕ
last_row v rows = v.resync + (rows - 1)

-- the truth once they are resynced
abbrev pub next_truth : View → (rows : ℕ) → Super
next_truth v rows = record v.truth { events = raised v.truth.events; resync_offset = offset_after v (v.resync + rows) }

-- ---- its offset

offset_by : (v : View) (rows : ℕ) (b : Bool) → nat_lt (v.resync + rows) (rows_of v) ≡ b → offset_after v (v.resync + rows) ≡ (if b then (v.resync + rows) * 128 else 2 ^ 64 - 1)
offset_by v rows b is = ap (λ (t : Bool). if t then (v.resync + rows) * 128 else 2 ^ 64 - 1) is

pub whole_offset : (v : View) (rows : ℕ) → (offset_after v (v.resync + rows) ≡ 2 ^ 64 - 1) ⊎ (offset_after v (v.resync + rows) % 128 ≡ 0)
whole_offset v rows = by (nat_lt (v.resync + rows) (rows_of v)) refl
  where
    by : (b : Bool) → nat_lt (v.resync + rows) (rows_of v) ≡ b → (offset_after v (v.resync + rows) ≡ 2 ^ 64 - 1) ⊎ (offset_after v (v.resync + rows) % 128 ≡ 0)
    by true is = let at = offset_by v rows true is in inr (omega (arith, at))
    by false is = inl (offset_by v rows false is)

-- what it leaves
pub next_unsynced : (v : View) (rows : ℕ) → IsUnsynced v rows → first_unsynced (next_truth v rows) ≡ v.resync + rows
next_unsynced v rows is = by (nat_lt (v.resync + rows) (rows_of v)) refl
  where
    first_by : (b : Bool) → nat_lt (offset_after v (v.resync + rows)) v.truth.size ≡ b → first_unsynced (next_truth v rows) ≡ (if b then offset_after v (v.resync + rows) / 128 else v.truth.size / 128)
    first_by b at = ap (λ (t : Bool). if t then offset_after v (v.resync + rows) / 128 else v.truth.size / 128) at

    by : (b : Bool) → nat_lt (v.resync + rows) (rows_of v) ≡ b → first_unsynced (next_truth v rows) ≡ v.resync + rows
    by true more =
        let at = offset_by v rows true more in
        let low : v.resync + rows < v.truth.size / 128 = ltb-true (v.resync + rows) (v.truth.size / 128) more in
        let whole = is.is_array.whole_rows in
        first_by true (lt-ltb (offset_after v (v.resync + rows)) v.truth.size (omega (arith, at, low, whole))) ∙ (let e : offset_after v (v.resync + rows) / 128 ≡ v.resync + rows = omega (arith, at) in e)
    by false last =
        let at = offset_by v rows false last in
        let high : v.truth.size / 128 ≤ v.resync + rows = ltb-false (v.resync + rows) (v.truth.size / 128) last in
        let row = is.rows_left in
        let small = is.is_array.small in
        first_by false (le-ltb (offset_after v (v.resync + rows)) v.truth.size (omega (arith, at, small))) ∙ (let e : v.truth.size / 128 ≡ v.resync + rows = omega (arith, high, row) in e)

-- and it is another one than before
other_offset : (v : View) (rows : ℕ) → IsUnsynced v rows → offset_after v (v.resync + rows) ≡ v.truth.resync_offset → ⊥
other_offset v rows is same =
    let next = next_unsynced v rows is in
    let first : first_unsynced (next_truth v rows) ≡ first_unsynced v.truth = ap (λ (o : ℕ). if nat_lt o v.truth.size then o / 128 else v.truth.size / 128) same in
    let unsynced = is.unsynced in
    omega (arith, next, first, unsynced)

pub keeps_none : (v : View) (rows : ℕ) → IsUnsynced v rows → keeps_rows v.truth (next_truth v rows) ≡ false
keeps_none v rows is = ap (λ (b : Bool). b && (v.truth.size == v.truth.size)) (ne_eqb (offset_after v (v.resync + rows)) v.truth.resync_offset (other_offset v rows is))

-- ---- the array of the change

-- by a view with other seats
pub adopted_is : (v z : View) (rows : ℕ) → IsUnsynced v rows → IsArray z → IsSameButSeats v z
    → adopted (resynced_to v (offset_after v (v.resync + rows))) z ≡ record z { truth = next_truth v rows; resync = v.resync + rows; marked = false }
adopted_is v z rows is z_array same =
    let c : Change = resynced_to v (offset_after v (v.resync + rows)) in
    let kept = adopted_kept c z z_array (ap places_by (sym same.truth)) refl in
    let keeps : keeps_rows z.truth (next_truth v rows) ≡ false = ap (λ (t : Super). keeps_rows t (next_truth v rows)) same.truth ∙ keeps_none v rows is in
    let young : z.young ≡ false = same.young ∙ is.grown in
    let next : adopted_resync z.young z.resync z.truth (next_truth v rows) ≡ v.resync + rows =
    ap (λ (b : Bool). if b then z.resync else resync_by z.young (next_truth v rows)) keeps
    ∙ ap (λ (b : Bool). if b then v.truth.size / 128 else first_unsynced (next_truth v rows)) young ∙ next_unsynced v rows is in
    let mark : (z.marked && keeps_rows z.truth (next_truth v rows)) ≡ false = ap (λ (b : Bool). z.marked && b) keeps ∙ and_false z.marked in
    λ i. record z {
      truth = next_truth v rows;
      seats = kept.0 i;
      devices = kept.1 i;
      resync = next i;
      marked = mark i;
    }
  where
    and_false : (b : Bool) → (b && false) ≡ false
    and_false true = refl
    and_false false = refl

pub next_array : (v : View) (rows : ℕ) → IsUnsynced v rows → IsArray (resynced v rows)
next_array v rows is =
    let old = is.is_array in
    record {
      few = old.few;
      level = old.level;
      least = old.least;
      most = old.most;
      seats = old.seats;
      devices = old.devices;
      small = old.small;
      whole_rows = old.whole_rows;
      placed = old.placed;
      synced = let row = is.rows_left in omega (arith, row);
      reshape = old.reshape;
    }

pub next_state : (s : State) (v : View) (rows : ℕ) → IsStateOf v s → v.truth.events < 2 ^ 63 - 1 → IsStateOf (resynced v rows) s
next_state s v rows state room =
    let raise = raised_more v.truth.events room in
    record {
      set = state.set;
      profile = state.profile;
      events = let more = raise.0 in omega (arith, more);
      events_end = raise.1;
      row = state.row;
      roles = state.roles;
      marks = state.marks;
    }

pub next_rows : (v : View) (rows : ℕ) → HasRowRebuilds v → HasRowRebuilds (resynced v rows)
next_rows v rows whole = whole

pub next_shape : (v : View) (rows : ℕ) → shape_of (resynced v rows) ≡ shape_of v
unfolding shape_of
next_shape v rows = refl

-- the places that went are lost in it too
module _ (v z w : View) (rows : ℕ) (is : IsUnsynced v rows) (z_array : IsArray z) (same : IsSameButSeats v z) (adopts : w ≡ adopted (resynced_to v (offset_after v (v.resync + rows))) z) where
  view_is : w ≡ record z { truth = next_truth v rows; resync = v.resync + rows; marked = false }
  view_is = adopts ∙ adopted_is v z rows is z_array same

  pub next_same : IsSameButSeats (resynced v rows) w
  next_same =
      subst (λ (x : View). IsSameButSeats (resynced v rows) x) (sym view_is)
      (record { number = same.number; truth = refl; devices = same.devices; resync = refl; young = same.young; marked = refl })

  pub next_loses : (lost : ℕ → Bool) → LosesPlaces v z lost → LosesPlaces (resynced v rows) w lost
  next_loses lost loses =
      subst (λ (x : View). LosesPlaces (resynced v rows) x lost) (sym view_is) (record { seats = loses.seats; went = loses.went })

  pub next_lacks : (row : ℕ) → lacks_row w row ≡ lacks_row z row
  next_lacks row =
      ap (λ (x : View). lacks_row x row) view_is
      ∙ ap (λ (t : Super). lacks_row (record z { truth = record t { events = raised v.truth.events; resync_offset = offset_after v (v.resync + rows) }; resync = v.resync + rows; marked = false }) row) (sym same.truth)

-- ---- members that are there

pub seat_there : (v : View) (j t : ℕ) → t < (member_on v j).reach → slice_get v.seats j ≢ Some Missing
seat_there v j t counts gone =
    let none : (member_on v j).reach ≡ 0 = ap (λ o. option_map_or (seat_reach v.truth.size) o 0) gone in omega (arith, counts, none)

pub all_there : (v : View) (row j : ℕ) → lacks_row v row ≡ false → j < v.truth.raid_disks → slice_get v.seats j ≢ Some Missing
all_there v row j lacks low = seat_there v j (row * 128) (all_counts v row j (row * 128) lacks low (omega arith))

pub slot_there : (v : View) (j : ℕ) → IsArray v → j < v.truth.raid_disks → slice_get v.seats j ≢ Some Missing → is_missing_seat (slot_on v j).seat ≡ false
slot_there v j is_array low there = by (slice_get v.seats j) there (λ none. past j v.seats none (let count = is_array.seats in omega (arith, low, count)))
  where
    by : (o : Option Seat) → o ≢ Some Missing → (o ≡ None → ⊥) → is_missing_seat (unwrap_or o Missing) ≡ false
    by None other some = absurd (some refl)
    by (Some Whole) other some = refl
    by (Some (Rebuilding to)) other some = refl
    by (Some Missing) other some = absurd (other refl)

    past : (k : ℕ) (seats : List Seat) → slice_get seats k ≡ None → k < length seats → ⊥
    past k [] none inside = omega (arith, inside)
    past zero (s ∷ seats) none inside = cc
    past (suc k) (s ∷ seats) none inside = past k seats none (omega (arith, inside))

-- two of them aren't alone
two_present : (seats : List Seat) → slice_get seats 0 ≢ Some Missing → slice_get seats 1 ≢ Some Missing → 2 ≤ length seats → 2 ≤ present seats
two_present [] one two long = absurd (omega (arith, long))
two_present (s ∷ []) one two long = absurd (omega (arith, long))
two_present (s ∷ t ∷ seats) one two long =
    by s t one two
  where
    first : (s : Seat) → Some s ≢ Some Missing → is_missing_seat s ≡ false
    first Whole other = refl
    first Missing other = absurd (other refl)
    first (Rebuilding to) other = refl

    by : (s t : Seat) → Some s ≢ Some Missing → Some t ≢ Some Missing → 2 ≤ present (s ∷ t ∷ seats)
    by s t other also =
        subst (λ (n : ℕ). 2 ≤ n)
        (sym (ap (λ (b : Bool). if b then present (t ∷ seats) else suc (present (t ∷ seats))) (first s other)
        ∙ ap (λ (b : Bool). suc (if b then present seats else suc (present seats))) (first t also)))
        (omega arith)

pub not_alone : (v : View) → IsArray v → slice_get v.seats 0 ≢ Some Missing → slice_get v.seats 1 ≢ Some Missing → is_alone v ≡ false
not_alone v is_array first second = ap (λ (b : Bool). is_mirror v.truth && b) (not_few (nat_le (present v.seats) 1) refl) ∙ and_false (is_mirror v.truth)
  where
    more : 2 ≤ present v.seats
    more =
        let least = is_array.least in
        let count = is_array.seats in
        two_present v.seats first second (omega (arith, least, count))

    not_few : (b : Bool) → nat_le (present v.seats) 1 ≡ b → nat_le (present v.seats) 1 ≡ false
    not_few false is = is
    not_few true is = let few = leb-true (present v.seats) 1 is in let two = more in absurd (omega (arith, few, two))

    and_false : (b : Bool) → (b && false) ≡ false
    and_false true = refl
    and_false false = refl

pub is_steady : (v : View) (last : ℕ) → IsArray v → lacks_row v last ≡ false → v.resync < v.truth.size / 128 → (v.marked ≡ true → is_whole_array v ≡ true) → may_vary v ≡ false
is_steady v last is_array lacks row steady =
    let least = is_array.least in
    ap₂ (λ (p q : Bool). p || q) (unmarked v.marked refl) (not_alone v is_array (all_there v last 0 lacks (omega (arith, least))) (all_there v last 1 lacks (omega (arith, least))))
  where
    unmarked : (b : Bool) → v.marked ≡ b → v.marked ≡ false
    unmarked false is = is
    unmarked true is =
        let whole = and_parts (list_all is_whole_seat v.seats) ((v.resync == rows_of v) && (not v.young && not (is_reshaping v.truth))) (steady is) in
        let synced = and_parts (v.resync == rows_of v) (not v.young && not (is_reshaping v.truth)) whole.1 in
        let same = eqb-true v.resync (rows_of v) synced.0 in
        absurd (omega (arith, same, row))

-- what is spent after it was before
pub unspent_before : (v : View) (rows : ℕ) → 0 < rows → lacks_row v (last_row v rows) ≡ false → (y : ℕ) → spent_in (resynced v rows) y ≡ false → spent_in v y ≡ false
unfolding shape_of
unspent_before v rows some lacks y unspent =
    let t = sector_in (layout_at (shape_of v) y) y in
    elim (cases_lt (row_at t) v.resync) [
      | inl less ↦
          ap (spent_with (wanting t (shape_of v).members)) (lt-ltb (row_at t) v.resync less ∙ sym (lt-ltb (row_at t) (v.resync + rows) (omega (arith, less)))) ∙ unspent
      | inr more ↦ elim (cases_lt (row_at t) (v.resync + rows)) [
        | inr past ↦ ap (spent_with (wanting t (shape_of v).members)) (le-ltb (row_at t) v.resync more ∙ sym (le-ltb (row_at t) (v.resync + rows) past)) ∙ unspent
        | inl here ↦
            let last = last_row v rows in
            let later = wanting_later t (last * 128 + 127) (members_of v) (omega (arith, here)) in
            let none : wanting (last * 128 + 127) (members_of v) ≡ 0 = none_wants (wanting (last * 128 + 127) (members_of v)) lacks in
            let here_none : wanting t (members_of v) ≡ 0 = omega (arith, later, none) in
            ap (λ (k : ℕ). spent_with k (nat_lt (row_at t) v.resync)) here_none
      ]
    ]
  where
    none_wants : (k : ℕ) → nat_lt 0 k ≡ false → k ≡ 0
    none_wants k is = let few = ltb-false 0 k is in omega (arith, few)

-- what is staged of it
pub stage_is : (v : View) (rows : ℕ) (c : Change) (offset : ℕ) → IsUnsynced v rows → offset ≡ offset_after v (v.resync + rows) → c ≡ resynced_to v offset → adopted c v ≡ resynced v rows
stage_is v rows c offset is at change =
    ap (λ (x : Change). adopted x v) change ∙ ap (λ (o : ℕ). adopted (resynced_to v o) v) at ∙ adopted_is v v rows is is.is_array (same_view v)

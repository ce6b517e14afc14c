-- The mark: superblocks that leave all rows to resync, written before rows are written past the log.
use Rattle.std.proofs.Common.{◌≡◌, ℕ, ◌/◌, ◌<◌, Bool, true, false, ◌==◌, ◌&&◌, ◌||◌, not, nat_le, count_by, filter, length, if◌then◌else◌, List, [], ◌∷◌, map, slice_get, Some, None, suc, unwrap_or, refl, sym, ap, ap₂, subst, ◌∙◌, inl, inr, arith}
use Rattle.std.specs.List.{list_all}
use Rattle.std.proofs.lemmas.Bool.{both_ways}
use Rattle.std.proofs.lemmas.List.Sums.{length-filter}
use Rattle.array_image.specs.Supers.{is_reshaping}
use Rattle.array_model.specs.declared.Seat.{Seat}
use Rattle.md_super.specs.Profile.{is_mirror}
use Rattle.array_model.specs.View.{View, is_missing_seat, is_whole_array, is_whole_seat, present, rows_of}
use Rattle.array_core.specs.declared.slots.Slot.{Slot}
use Rattle.array_core.specs.declared.Array.TheInside.{Inside}
use Rattle.array_core.specs.Model.{view_of}
use Rattle.array_core.specs.Settling.{Marks, unsynced, IsNewSuper, Readies, was_marked, now_marked, lost_one}
use Rattle.rack.specs.Values.{Values, MayLeave, append}
use Rattle.rack.specs.Seen.{Image, RackView}
use Rattle.rack.specs.Sequences.{WritesOnly}
use Rattle.pool_state.specs.declared.contents.State.{State}
use Rattle.array_image.specs.Arrays.{Shape, replayed}
use Rattle.array_model.specs.declared.Seat.TheVariants.{Whole, Missing, Rebuilding}
use Rattle.array_model.specs.View.{IsArray, shape_of, may_vary, is_alone}
use Rattle.array_model.specs.Says.{ImageShowsArray, ArrayInvariant}
use Rattle.array_model.specs.Members.{HasSlices, Notes}
use Rattle.array_model.proofs.Moves.{CallRefines, KeepsOthers, moves_then, moves_by, moves_of, acts_of}
use Rattle.array_model.proofs.DataFrames.{even_unsynced}
use Rattle.array_model.proofs.RowWrites.{whole_seat}
use Rattle.array_core.specs.Pool.{MayRenew}
use Rattle.array_core.specs.Superblocks.{raised}
use Rattle.array_core.proofs.Direct.{restated, renew_moves}
use Rattle.array_core.proofs.Cleaning.{raised_more, seats_kept, shape_kept}
use Rattle.array_model.specs.View.{IsNoted}
use Rattle.array_model.specs.ArrayCalls.{IncludesSpent, WritesArray, appended_at}
use Rattle.array_model.proofs.Noting.{losing_by, covers_before, holds_noted}
use Rattle.array_model.proofs.Keeping.{keeping_calls}
use Rattle.array_image.specs.Arrays.{value_by}
use Rattle.rack.specs.Joins.{may_leave-append}

-- ---- whether an array is whole

seats_all : (slots : List Slot) → list_all (λ s. is_whole_seat s.seat) slots ≡ list_all is_whole_seat (map (λ (s : Slot). s.seat) slots)
seats_all [] = refl
seats_all (s ∷ slots) = ap (λ (b : Bool). is_whole_seat s.seat && b) (seats_all slots)

pub whole_is : (a : Inside) (v : View) (whole resynced reshaping : Bool) → view_of a ≡ v → whole ≡ list_all (λ s. is_whole_seat s.seat) a.slots.items
    → resynced ≡ (v.resync == rows_of v) → reshaping ≡ is_reshaping a.truth
    → (whole && (resynced && (not a.young && not reshaping))) ≡ is_whole_array v
whole_is a v whole resynced reshaping is all rows shape =
    subst (λ (w : View). resynced ≡ (w.resync == rows_of w) → (whole && (resynced && (not a.young && not reshaping))) ≡ is_whole_array w) is
    (λ r i. (all ∙ seats_all a.slots.items) i && (r i && (not a.young && not (shape i)))) rows

-- how many members are there
pub present_seats : (slots : List Slot) → count_by (λ s. not (is_missing_seat s.seat)) slots ≡ present (map (λ (s : Slot). s.seat) slots)
present_seats slots = sym (length-filter (λ (s : Slot). not (is_missing_seat s.seat)) slots) ∙ filtered slots
  where
    filtered : (slots : List Slot) → length (filter (λ s. not (is_missing_seat s.seat)) slots) ≡ present (map (λ (s : Slot). s.seat) slots)
    filtered [] = refl
    filtered (s ∷ slots) = by s.seat (filtered slots)
      where
        by : (seat : Seat) → length (filter (λ s. not (is_missing_seat s.seat)) slots) ≡ present (map (λ (s : Slot). s.seat) slots)
            → length (if not (is_missing_seat seat) then s ∷ filter (λ s. not (is_missing_seat s.seat)) slots else filter (λ s. not (is_missing_seat s.seat)) slots)
            ≡ (if is_missing_seat seat then present (map (λ (s : Slot). s.seat) slots) else suc (present (map (λ (s : Slot). s.seat) slots)))
        by Whole rest = ap suc rest
        by Missing rest = rest
        by (Rebuilding to) rest = ap suc rest

pub alone_is : (a : Inside) (v : View) (count : ℕ) → view_of a ≡ v → is_mirror a.truth ≡ true → count ≡ count_by (λ s. not (is_missing_seat s.seat)) a.slots.items
    → nat_le count 1 ≡ is_alone v
alone_is a v count is mirrors counted =
    ap (λ n. nat_le n 1) (counted ∙ present_seats a.slots.items)
    ∙ ap (λ (b : Bool). b && nat_le (present (view_of a).seats) 1) (sym mirrors)
    ∙ ap is_alone is

pub readied : (v w : View) (a b : RackView) (r : Bool) → is_whole_array v ≡ true → v.went ≡ [] → v.marked ≡ false → r ≡ w.marked → Marks v w a b → Readies v w a b r
readied v w a b true whole fresh unmarked is marks = now_marked whole fresh unmarked (sym is) marks
readied v w a b false whole fresh unmarked is marks = lost_one whole fresh unmarked (sym is) marks

-- ---- the array in it

-- nothing but superblocks of its own was written
pub supers_others : (v : View) (a b : RackView) → v.number < 16 → WritesOnly a b (IsNewSuper v) → KeepsOthers v.number a b
supers_others v a b few only d t live other = only.others d t live (λ x new. let disk = new.disk in other (omega (arith, disk, few)))

-- the view of a mark, before those that went in it are noted
abbrev pub marked_by : Bool → View → View
marked_by mark v = restated (raised v.truth.events) 0 mark v

pub mark_notes : (v w : View) (a b : RackView) → Marks v w a b → Notes (marked_by w.marked v) w a b
mark_notes v w a b marks =
    let notes = marks.writes.notes in
    elim marks.either [
      | inl all ↦
          subst (λ (u : View). Notes (marked_by u.marked v) u a b) (sym all.1)
          (record {
            same = record { number = notes.same.number; truth = notes.same.truth; devices = notes.same.devices; resync = notes.same.resync; young = notes.same.young; marked = refl };
            lost = notes.lost;
            loses = record { seats = notes.loses.seats; went = notes.loses.went };
            cause = notes.cause;
          })
      | inr some ↦
          subst (λ (u : View). Notes (marked_by u.marked v) u a b) (sym some.1)
          (subst (λ (m : Bool). Notes (marked_by m v) marks.written a b) (sym notes.same.marked)
          (record {
            same = record { number = notes.same.number; truth = notes.same.truth; devices = notes.same.devices; resync = notes.same.resync; young = notes.same.young; marked = notes.same.marked };
            lost = notes.lost;
            loses = record { seats = notes.loses.seats; went = notes.loses.went };
            cause = notes.cause;
          }))
    ]

-- where it is marked nobody went
pub mark_all : (v w : View) (a b : RackView) → Marks v w a b → w.marked ≡ true → w.went ≡ []
mark_all v w a b marks marked =
    elim marks.either [
      | inl all ↦ ap (λ (u : View). u.went) all.1 ∙ all.0
      | inr some ↦ absurd (both_ways w.marked (ap (λ (u : View). u.marked) some.1 ∙ marks.writes.notes.same.marked) marked)
    ]

pub mark_moves : (s : State) (v w : View) (a b : RackView) → IsArray v → HasSlices v a → is_whole_array v ≡ true → v.marked ≡ false → Marks v w a b → MayRenew s v a
    → (vals : ℕ → Values) (spent : ℕ → Bool)
    → CallRefines v.number a b (ArrayInvariant s (shape_of v) v vals spent a) (ImageShowsArray s v.number (shape_of v) vals spent) (ArrayInvariant s (shape_of v) (marked_by w.marked v) vals spent b)
mark_moves s v w a b is_array slices whole unmarked marks may vals spent =
    let raise = raised_more v.truth.events may.events in
    let few = is_array.least in
    let first : 0 < v.truth.raid_disks = omega (arith, few) in
    let there : slice_get v.seats 0 ≡ Some Whole = whole_seat v 0 is_array whole first in
    renew_moves s v (raised v.truth.events) 0 false a b is_array may.state may.rows raise.0 raise.1 (inr refl) slices.lasting may.supers marks.writes.only
    w.marked (ArrayInvariant s (shape_of v) v vals spent a) vals spent may.fresh (λ h. h)
    (λ h c inside mix. even_unsynced (shape_of v) v.number (unsynced v).truth (replayed a.sectors c) refl)
    (λ h steady. h.shape.settled (steady_before v w unmarked steady))
    (λ is. refl)
    (λ is.
    let nobody = mark_written v w a b marks is in (
      0,
      record {
        low = first;
        present = λ gone. whole_there (sym there ∙ gone);
        inside = let size = slices.sectors 0 first (λ gone. whole_there (sym there ∙ gone)) in omega (arith, size);
        written = λ live x held. marks.writes.durable 0 first (λ gone. whole_there (sym there ∙ sym (seats_kept (unsynced v) marks.written marks.writes.notes.lost marks.writes.notes.loses nobody 0) ∙ gone)) live x held;
      },
    ))
  where
    whole_there : Some Whole ≡ Some Missing → ⊥
    whole_there same = cc

    steady_before : (v w : View) → v.marked ≡ false → may_vary (marked_by w.marked v) ≡ false → may_vary v ≡ false
    steady_before v w unmarked steady = by w.marked v.marked (is_alone v) unmarked steady
      where
        by : (now was alone : Bool) → was ≡ false → (now || alone) ≡ false → (was || alone) ≡ false
        by true was alone is steady = absurd (both_ways true steady refl)
        by false was alone is steady = ap (λ (b : Bool). b || alone) is ∙ steady

    mark_written : (v w : View) (a b : RackView) (marks : Marks v w a b) → w.marked ≡ true → marks.written.went ≡ []
    mark_written v w a b marks is =
        elim marks.either [
          | inl all ↦ all.0
          | inr some ↦ absurd (both_ways w.marked (ap (λ (u : View). u.marked) some.1 ∙ marks.writes.notes.same.marked) is)
        ]

seats_same : (xs ys : List Seat) → ((n : ℕ) → slice_get xs n ≡ slice_get ys n) → xs ≡ ys
seats_same [] [] same = refl
seats_same [] (y ∷ ys) same = let none : None ≡ Some y = same 0 in absurd (cc)
seats_same (x ∷ xs) [] same = let none : Some x ≡ None = same 0 in absurd (cc)
seats_same (x ∷ xs) (y ∷ ys) same = ap₂ (λ (z : Seat) zs. z ∷ zs) (ap (λ o. unwrap_or o x) (same 0)) (seats_same xs ys (λ n. same (suc n)))

-- an array that was whole is so where nobody went
pub notes_whole : (v w : View) (a b : RackView) → Notes v w a b → w.went ≡ [] → is_whole_array v ≡ true → is_whole_array w ≡ true
notes_whole v w a b notes fresh whole =
    let same = notes.same in
    let seats : w.seats ≡ v.seats = seats_same w.seats v.seats (seats_kept v w notes.lost notes.loses fresh) in
    (λ i. list_all is_whole_seat (seats i) && ((same.resync i == (same.truth i).size / 128) && (not (same.young i) && not (is_reshaping (same.truth i))))) ∙ whole

-- and once it is marked
pub mark_whole : (v w : View) (a b : RackView) → is_whole_array v ≡ true → Marks v w a b → w.marked ≡ true → is_whole_array w ≡ true
mark_whole v w a b whole marks marked = notes_whole (marked_by w.marked v) w a b (mark_notes v w a b marks) (mark_all v w a b marks marked) whole

pub restated_shape : (e o : ℕ) (m : Bool) (v : View) → shape_of (restated e o m v) ≡ shape_of v
unfolding shape_of
restated_shape e o m v = refl

pub restated_array : (e o : ℕ) (m : Bool) (v : View) → IsArray v → IsArray (restated e o m v)
restated_array e o m v is_array = record {
  few = is_array.few;
  level = is_array.level;
  least = is_array.least;
  most = is_array.most;
  seats = is_array.seats;
  devices = is_array.devices;
  small = is_array.small;
  whole_rows = is_array.whole_rows;
  placed = is_array.placed;
  synced = is_array.synced;
  reshape = is_array.reshape;
}

-- ---- rows past the log

-- values that a sector may leave it may leave once another is appended
pub says_appended : (s : State) (n : ℕ) (shape : Shape) (x : ℕ) (from : List ℕ) (vals : ℕ → Values) (spent : ℕ → Bool) (r : Image)
    → ImageShowsArray s n shape vals spent r → ImageShowsArray s n shape (appended_at x from vals) spent r
says_appended s n shape x from vals spent r says = record {
  shape_is = says.shape_is;
  value = λ y alive. more (y == x) (vals y) (value_by shape r n y) (says.value y alive);
  is_sound = says.is_sound;
}
  where
    more : (b : Bool) (h : Values) (u : List ℕ) → MayLeave h u → MayLeave (if b then append h from else h) u
    more true h u may = may_leave-append h from u may
    more false h u may = may

-- an array that is ready for them, as it was
record IsReady (s : State) (v u : View) (spent : ℕ → Bool) (a b : RackView) (vals : ℕ → Values) : Type 0 where
  pub moves : CallRefines v.number a b (ArrayInvariant s (shape_of v) v vals spent a) (ImageShowsArray s v.number (shape_of v) vals spent) (ArrayInvariant s (shape_of u) u vals spent b)
  pub others : KeepsOthers v.number a b
  pub shape : shape_of u ≡ shape_of v

ready_moves : (s : State) (v u : View) (a b : RackView) → IsArray v → IsArray u → HasSlices v a → Readies v u a b true → MayRenew s v a
    → (vals : ℕ → Values) (spent : ℕ → Bool) → IncludesSpent u spent → IsReady s v u spent a b vals
ready_moves s v u a b is_array now slices (was_marked whole fresh marked same reads) may vals spent covers =
    subst (λ (w : View). IsReady s v w spent a b vals) (sym same)
    (record {
      moves = moves_of s v v spent a b (shape_of v) vals (ImageShowsArray s v.number (shape_of v) vals spent) (shape_of v) vals (keeping_calls a b slices.lasting reads.stays reads.keeps s (shape_of v) v vals spent);
      others = λ d t live other. reads.keeps.held d t live;
      shape = refl;
    })
ready_moves s v u a b is_array now slices (now_marked whole fresh unmarked marked marks) may vals spent covers =
    let base = marked_by u.marked v in
    let notes = mark_notes v u a b marks in
    let none = mark_all v u a b marks marked in
    let shape : shape_of u ≡ shape_of v = shape_kept base u a b notes none ∙ restated_shape (raised v.truth.events) 0 u.marked v in
    let moves = mark_moves s v u a b is_array slices whole unmarked marks may vals spent in
    record {
      moves =
          moves_by v.number a b (ArrayInvariant s (shape_of v) v vals spent a) (ArrayInvariant s (shape_of v) v vals spent a) (ArrayInvariant s (shape_of v) base vals spent b) (ArrayInvariant s (shape_of u) u vals spent b)
          (ImageShowsArray s v.number (shape_of v) vals spent) (ImageShowsArray s v.number (shape_of v) vals spent) (λ h. h) (λ r p. p)
          (λ h. subst (λ (f : Shape). ArrayInvariant s f u vals spent b) (sym shape) (holds_noted base u a b b (restated_array (raised v.truth.events) 0 u.marked v is_array) notes s (shape_of v) vals spent covers h))
          moves;
      others = supers_others (unsynced v) a b is_array.few marks.writes.only;
      shape = shape;
    }

pub ready_writes : (s : State) (v u w : View) (a b c : RackView) → IsArray v → IsArray u → HasSlices v a → Readies v u a b true → MayRenew s v a
    → (vals : ℕ → Values) (spent : ℕ → Bool) (x : ℕ) (from : List ℕ) → IncludesSpent w spent → Notes u w b c
    → WritesArray s u w spent b c (shape_of u) vals x from
    → IsNoted v w a c
    → WritesArray s v w spent a c (shape_of v) vals x from
ready_writes s v u w a b c is_array now slices readies may vals spent x from covers notes writes noted =
    let ready = ready_moves s v u a b is_array now slices readies may vals spent (covers_before u w notes.lost (losing_by u w b c notes) spent covers) in
    let n = v.number in
    let number : u.number ≡ v.number = ready_number v u a b readies in
    let vals_now = appended_at x from vals in
    let P : Image → Type 0 = ImageShowsArray s n (shape_of v) vals_now spent in
    let first : CallRefines n a b (ArrayInvariant s (shape_of v) v vals spent a) P (ArrayInvariant s (shape_of u) u vals spent b) =
    moves_by n a b (ArrayInvariant s (shape_of v) v vals spent a) (ArrayInvariant s (shape_of v) v vals spent a) (ArrayInvariant s (shape_of u) u vals spent b) (ArrayInvariant s (shape_of u) u vals spent b)
    (ImageShowsArray s n (shape_of v) vals spent) P (λ h. h) (λ r. says_appended s n (shape_of v) x from vals spent r) (λ h. h) ready.moves in
    let second : CallRefines u.number b c (ArrayInvariant s (shape_of u) u vals spent b) (ImageShowsArray s u.number (shape_of u) vals_now spent) (ArrayInvariant s (shape_of u) w vals_now spent c) =
    moves_of s u w spent b c (shape_of u) vals (ImageShowsArray s u.number (shape_of u) vals_now spent) (shape_of u) vals_now writes in
    let here : CallRefines n b c (ArrayInvariant s (shape_of u) u vals spent b) P (ArrayInvariant s (shape_of v) w vals_now spent c) =
    subst (λ (f : Shape). CallRefines n b c (ArrayInvariant s (shape_of u) u vals spent b) (ImageShowsArray s n f vals_now spent) (ArrayInvariant s f w vals_now spent c)) ready.shape
    (subst (λ k. CallRefines k b c (ArrayInvariant s (shape_of u) u vals spent b) (ImageShowsArray s k (shape_of u) vals_now spent) (ArrayInvariant s (shape_of u) w vals_now spent c)) number second) in
    acts_of s v w spent a c (shape_of v) vals P (shape_of v) vals_now
    (moves_then n a b c (ArrayInvariant s (shape_of v) v vals spent a) (ArrayInvariant s (shape_of u) u vals spent b) (ArrayInvariant s (shape_of v) w vals_now spent c) P slices.lasting ready.others first here)
    noted
  where
    ready_number : (v u : View) (a b : RackView) → Readies v u a b true → u.number ≡ v.number
    ready_number v u a b (was_marked whole fresh marked same reads) = ap (λ (w : View). w.number) same
    ready_number v u a b (now_marked whole fresh unmarked marked marks) = (mark_notes v u a b marks).same.number

-- A write from its parts: an array that is marked first, if need be, and a row that is written past the log or by one commit.
use Rattle.std.proofs.Common.{◌≡◌, ◌≢◌, ℕ, ◌+◌, ◌<◌, ◌≤◌, Bool, true, false, ◌||◌, List, [], Some, refl, sym, ap, subst, ◌∙◌, inl, inr, lt-ltb, arith}
use Rattle.std.proofs.lemmas.Bool.{both_ways}
use Rattle.rack.specs.Values.{Values}
use Rattle.rack.specs.Seen.{Image, RackView, SameRack}
use Rattle.rack.specs.Joins.{keeps_then, leaves_weaker, live_first, live_second, stays_same, stays_then}
use Rattle.rack.specs.Sequences.{IsMix, OnlyReads, WritesOnly}
use Rattle.md_super.specs.declared.superblock.Super.{Super}
use Rattle.pool_state.specs.declared.contents.State.{State}
use Rattle.array_image.specs.Places.{data_sector, log_slice}
use Rattle.array_image.specs.Stripes.{capacity}
use Rattle.array_image.specs.Arrays.{Shape, first_layout}
use Rattle.log_laws.specs.Kept.{LogInvariant}
use Rattle.log_laws.proofs.KeptAfter.{kept_keeps, kept_more}
use Rattle.array_model.specs.declared.Seat.TheVariants.{Missing, Whole}
use Rattle.array_model.specs.View.{View, IsArray, IsNoted, has_gone, is_alone, is_whole_array, may_vary, member_on, sectors_of, shape_of}
use Rattle.array_model.specs.Says.{IsOpen, ImageShowsArray, ArrayInvariant}
use Rattle.array_model.specs.ArrayCalls.{WritesArray, appended_at}
use Rattle.array_model.specs.Members.{HasSlices, Notes, slice_on}
use Rattle.array_model.specs.Rows.{Wrote, refused, row}
use Rattle.array_model.proofs.Keeping.{keeping_calls, open_after}
use Rattle.array_model.proofs.Moves.{CallRefines, KeepsOthers, acts_of, moves_by, moves_of, moves_then}
use Rattle.array_model.proofs.Noting.{noted_by}
use Rattle.array_model.proofs.Reading.{slice_same, slices_then}
use Rattle.array_model.proofs.RowWrites.{whole_reach, whole_seat}
use Rattle.array_model.proofs.Views.{loses_nobody, notes_none, notes_then, same_view}
use Rattle.array_core.specs.Logging.{HasAll, is_due}
use Rattle.array_core.specs.Pool.{Goes, MayCommit, MayLog}
use Rattle.array_core.specs.Settling.{Marks, Readies, unsynced, was_marked, now_marked, lost_one, not_whole}
use Rattle.array_core.specs.Superblocks.{raised}
use Rattle.array_core.specs.TruthLeft.{LeavesSupers}
use Rattle.array_core.specs.Writing.{Base, WritesView, as_it_was, newly_marked}
use Rattle.array_core.proofs.Cleaning.{noted_restated, raised_more}
use Rattle.array_core.proofs.LogFrames.{kept_logs}
use Rattle.array_core.proofs.LogWrites.{reads_goes}
use Rattle.array_core.proofs.Marking.{mark_all, mark_moves, mark_notes, mark_whole, marked_by, notes_whole, restated_array, restated_shape, says_appended, supers_others}
use Rattle.array_core.proofs.RowLogged.{nobody}
use Rattle.array_core.proofs.SupersLeft.{supers_reads, supers_then}

-- ---- the frame

only_goes : (a b : RackView) (may : ℕ → ℕ → List ℕ → Type 0) → WritesOnly a b may → Goes a b
only_goes a b may only = record { stays = only.stays; leaves = λ traced. leaves_weaker (IsMix a b may) (λ c. Unit {0}) (λ c mix. tt) (only.stops traced) }

pub wrote_goes : (v w : View) (a b : RackView) (x : ℕ) (from : List ℕ) → Wrote v w a b x from → Goes a b
wrote_goes v w a b x from (row xs works owes) = only_goes a b _ works.puts.only
wrote_goes v w a b x from (refused reads notes lost) = reads_goes a b reads

pub ready_goes : (v u : View) (a b : RackView) (r : Bool) → Readies v u a b r → Goes a b
ready_goes v u a b r (was_marked whole fresh marked same reads) = reads_goes a b reads
ready_goes v u a b r (now_marked whole fresh unmarked marked marks) = only_goes a b _ marks.writes.only
ready_goes v u a b r (lost_one whole fresh unmarked lost marks) = only_goes a b _ marks.writes.only
ready_goes v u a b r (not_whole same reads why) = reads_goes a b reads

pub ready_others : (v u : View) (a b : RackView) (r : Bool) → v.number < 16 → Readies v u a b r → KeepsOthers v.number a b
ready_others v u a b r few (was_marked whole fresh marked same reads) = λ d t live other. reads.keeps.held d t live
ready_others v u a b r few (now_marked whole fresh unmarked marked marks) = supers_others (unsynced v) a b few marks.writes.only
ready_others v u a b r few (lost_one whole fresh unmarked lost marks) = supers_others (unsynced v) a b few marks.writes.only
ready_others v u a b r few (not_whole same reads why) = λ d t live other. reads.keeps.held d t live

-- the log of calls that wrote to the array's own slices alone
pub past_kept : (s : State) (number : ℕ) (v w : View) (a b : RackView) → a.lasting → SameRack a b → KeepsOthers v.number a b → LogInvariant s number nobody a → LogInvariant s number (has_gone w) b
past_kept s number v w a b lasting stays others kept =
    kept_more s number nobody (has_gone w) b (λ place is. absurd (both_ways false refl is))
    (kept_logs s number a b lasting stays (λ place t live. others (log_slice place) t live (λ own. absurd (omega (arith, own)))) kept)

-- ---- the view

-- a view by which the array goes before its losses are noted
pub record Viewed (v u : View) (a b : RackView) : Type 0 where
  pub base : View
  pub notes : Notes base u a b
  pub slices : HasSlices v a → HasSlices base a
  pub disks : base.truth.raid_disks ≡ v.truth.raid_disks
  pub size : base.truth.size ≡ v.truth.size
  pub number : base.number ≡ v.number
  pub sectors : sectors_of base ≡ sectors_of v
  pub same : (n : ℕ) → slice_on base n ≡ slice_on v n

marked_viewed : (v u : View) (a b : RackView) → Marks v u a b → Viewed v u a b
marked_viewed v u a b marks = record {
  base = marked_by u.marked v;
  notes = mark_notes v u a b marks;
  slices = λ slices. record { fit = slices.fit; lasting = slices.lasting; disks = slices.disks; sectors = slices.sectors };
  disks = refl;
  size = refl;
  number = refl;
  sectors = refl;
  same = λ n. refl;
}

same_viewed : (v u : View) (a b : RackView) → u ≡ v → Viewed v u a b
same_viewed v u a b same = record {
  base = v;
  notes = subst (λ (w : View). Notes v w a b) (sym same) (notes_none v a b);
  slices = λ slices. slices;
  disks = refl;
  size = refl;
  number = refl;
  sectors = refl;
  same = λ n. refl;
}

pub viewed : (v u : View) (a b : RackView) (r : Bool) → Readies v u a b r → Viewed v u a b
viewed v u a b r (was_marked whole fresh marked same reads) = same_viewed v u a b same
viewed v u a b r (now_marked whole fresh unmarked marked marks) = marked_viewed v u a b marks
viewed v u a b r (lost_one whole fresh unmarked lost marks) = marked_viewed v u a b marks
viewed v u a b r (not_whole same reads why) = same_viewed v u a b same

pub ready_slices : (v u : View) (a b : RackView) (r : Bool) → Readies v u a b r → HasSlices v a → HasSlices u b
ready_slices v u a b r readies slices =
    let view = viewed v u a b r readies in
    slices_then view.base u a b (ready_goes v u a b r readies).stays view.notes (view.slices slices)

pub ready_sectors : (v u : View) (a b : RackView) (r : Bool) → Readies v u a b r → sectors_of u ≡ sectors_of v
ready_sectors v u a b r readies =
    let view = viewed v u a b r readies in
    ap (λ (t : Super). capacity (first_layout t) t.size) view.notes.same.truth ∙ view.sectors

pub ready_all : (v u : View) (a b : RackView) (r : Bool) → IsArray v → Readies v u a b r → HasSlices v a → is_whole_array v ≡ true → HasAll u b
ready_all v u a b r is_array readies slices whole n low =
    let view = viewed v u a b r readies in
    let stays = (ready_goes v u a b r readies).stays in
    let truth = view.notes.same.truth in
    let inside : n < v.truth.raid_disks = subst (λ k. n < k) (ap (λ (t : Super). t.raid_disks) truth ∙ view.disks) low in
    let there : (o : _) → o ≡ Some Whole → o ≢ Some Missing = λ o is gone. whole_there (sym is ∙ gone) in
    let slice : slice_on u n ≡ slice_on v n = slice_same view.base u n view.notes.same ∙ view.same n in
    let seat = there _ (whole_seat v n is_array whole inside) in (
      subst (λ k. slice_on u n < k) (sym stays.disks) (subst (λ d. d < a.disks) (sym slice) (slices.disks n inside seat)),
      subst (λ k. data_sector + u.truth.size ≤ k) (sym (stays.sectors (slice_on u n)))
          (subst (λ d. data_sector + u.truth.size ≤ a.sectors d) (sym slice)
          (subst (λ k. data_sector + k ≤ a.sectors (slice_on v n)) (sym (ap (λ (t : Super). t.size) truth ∙ view.size)) (slices.sectors n inside seat))),
    )
  where
    whole_there : Some Whole ≡ Some Missing → ⊥
    whole_there same = cc

pub view_then : (v u w : View) (a b c : RackView) (r : Bool) → SameRack b c → Readies v u a b r → Notes u w b c → WritesView v w a c
view_then v u w a b c r stays (was_marked whole fresh marked same reads) notes =
    as_it_was (inr (inr marked)) (notes_then v v w a b c reads.stays stays (notes_none v a b) (subst (λ (k : View). Notes k w b c) same notes))
view_then v u w a b c r stays (now_marked whole fresh unmarked marked marks) notes =
    newly_marked whole fresh unmarked
    (subst (λ m. Notes (marked_by m v) w a c) (sym notes.same.marked) (notes_then (marked_by u.marked v) u w a b c marks.writes.only.stays stays (mark_notes v u a b marks) notes))
view_then v u w a b c r stays (lost_one whole fresh unmarked lost marks) notes =
    newly_marked whole fresh unmarked
    (subst (λ m. Notes (marked_by m v) w a c) (sym notes.same.marked) (notes_then (marked_by u.marked v) u w a b c marks.writes.only.stays stays (mark_notes v u a b marks) notes))
view_then v u w a b c r stays (not_whole same reads why) notes =
    as_it_was (elim why [ inl lacks ↦ inl lacks | inr went ↦ inr (inl went) ])
    (notes_then v v w a b c reads.stays stays (notes_none v a b) (subst (λ (k : View). Notes k w b c) same notes))

-- whoever went in a write is noted
pub view_noted : (v w : View) (a b : RackView) → a.fit → SameRack a b → WritesView v w a b → IsNoted v w a b
view_noted v w a b fit stays (as_it_was why notes) = noted_by v w a b notes
view_noted v w a b fit stays (newly_marked whole fresh unmarked notes) =
    noted_restated v v w (raised v.truth.events) 0 w.marked a a b (stays_same a fit) stays (notes_none v a a) notes

-- an array that was marked only if it was whole is so after a write in which nobody went
pub write_steady : (v w : View) (a b : RackView) → WritesView v w a b → (v.marked ≡ true → is_whole_array v ≡ true) → w.went ≡ [] → w.marked ≡ true → is_whole_array w ≡ true
write_steady v w a b (as_it_was why notes) steady fresh marked = notes_whole v w a b notes fresh (steady (sym notes.same.marked ∙ marked))
write_steady v w a b (newly_marked whole was unmarked notes) steady fresh marked = notes_whole (marked_by w.marked v) w a b notes fresh whole

-- ---- rows past the log

-- where rows may be written past the log the array is whole and marked
pub ready_now : (v u : View) (a b : RackView) → Readies v u a b true → (is_whole_array u ≡ true) × (u.marked ≡ true) × (u.went ≡ [])
ready_now v u a b (was_marked whole fresh marked same reads) =
    subst (λ (w : View). (is_whole_array w ≡ true) × (w.marked ≡ true) × (w.went ≡ [])) (sym same) (whole, marked, fresh)
ready_now v u a b (now_marked whole fresh unmarked marked marks) = (mark_whole v u a b whole marks marked, marked, mark_all v u a b marks marked)

others_then : (n : ℕ) (a b c : RackView) → SameRack a b → SameRack b c → KeepsOthers n a b → KeepsOthers n b c → KeepsOthers n a c
others_then n a b c first second one two d t live other = keeps_then _ _ _ (one d t (live_first second live) other) (two d t (live_second first live) other)

-- the log after a row past it
pub ready_kept : (s : State) (number : ℕ) (v u w : View) (a b c : RackView) (r : Bool) → v.number < 16 → a.lasting → Readies v u a b r → SameRack b c → KeepsOthers u.number b c
    → LogInvariant s number nobody a → LogInvariant s number (has_gone w) c
ready_kept s number v u w a b c r few lasting readies second others kept =
    let first = (ready_goes v u a b r readies).stays in
    let view = viewed v u a b r readies in
    past_kept s number v w a c lasting (stays_then first second)
    (others_then v.number a b c first second (ready_others v u a b r few readies) (subst (λ n. KeepsOthers n b c) (view.notes.same.number ∙ view.number) others)) kept

-- ---- what a commit begins with

pub record Based (s : State) (v u w : View) (number : ℕ) (on : List ℕ) (a b : RackView) : Type 0 where
  pub base : View
  pub same : base.number ≡ v.number
  pub shape : shape_of base ≡ shape_of v
  pub is_base : Base (is_whole_array v) base u
  pub may : MayLog s base w number on b
  pub moves :
      (vals : ℕ → Values) (spent : ℕ → Bool)
      → CallRefines v.number a b (ArrayInvariant s (shape_of v) v vals spent a) (ImageShowsArray s v.number (shape_of v) vals spent) (ArrayInvariant s (shape_of v) base vals spent b)

-- an array that isn't whole
same_based : (s : State) (v u w : View) (number : ℕ) (on : List ℕ) (a b : RackView) → IsArray v → HasSlices v a → is_alone v ≡ false → is_whole_array v ≡ false
    → u ≡ v → Readies v u a b false → MayCommit s v w number on a → SameRack a b → KeepsOthers v.number a b
    → ((vals : ℕ → Values) (spent : ℕ → Bool)
    → CallRefines v.number a b (ArrayInvariant s (shape_of v) v vals spent a) (ImageShowsArray s v.number (shape_of v) vals spent) (ArrayInvariant s (shape_of v) v vals spent b))
    → LogInvariant s number nobody b
    → Based s v u w number on a b
same_based s v u w number on a b is_array slices many lacks same readies may stays others moves log = record {
  base = v;
  same = refl;
  shape = refl;
  is_base = subst (λ (k : View). Base (is_whole_array v) v k) (sym same) (record {
    is_array = is_array;
    fresh = may.renew.fresh;
    steady = unmarked v.marked refl;
    same = same_view v;
    lost = nobody;
    loses = loses_nobody v;
    due = λ j t low small. ap (λ (all : Bool). is_due all v j t) lacks;
  });
  may = record {
    state = may.renew.state;
    opened = open_after slices.lasting stays (shape_of v) v.number may.opened;
    log = log;
    room = may.room;
    places = may.places;
    someone = may.someone;
  };
  moves = moves;
}
  where
    unmarked : (m : Bool) → v.marked ≡ m → may_vary v ≡ false
    unmarked true is = absurd (both_ways (is_whole_array v) lacks (may.steady is))
    unmarked false is = ap (λ (m : Bool). m || is_alone v) is ∙ many

-- one that was whole, and lost a place while it was marked
marked_based : (s : State) (v u w : View) (number : ℕ) (on : List ℕ) (a b : RackView) → IsArray v → HasSlices v a → is_alone v ≡ false → is_whole_array v ≡ true
    → v.marked ≡ false → u.marked ≡ false → Marks v u a b → MayCommit s v w number on a → Based s v u w number on a b
marked_based s v u w number on a b is_array slices many whole unmarked lost marks may =
    let e = raised v.truth.events in
    let base = marked_by u.marked v in
    let raise = raised_more v.truth.events may.renew.events in
    let notes = mark_notes v u a b marks in
    let shape = restated_shape e 0 u.marked v in
    let stays = marks.writes.only.stays in
    let state = may.renew.state in
    record {
      base = base;
      same = refl;
      shape = shape;
      is_base = record {
        is_array = restated_array e 0 u.marked v is_array;
        fresh = may.renew.fresh;
        steady = ap (λ (m : Bool). m || is_alone v) lost ∙ many;
        same = notes.same;
        lost = notes.lost;
        loses = notes.loses;
        due = λ j t low small.
            ap (λ (all : Bool). is_due all u j t) whole
            ∙ sym (lt-ltb t (member_on v j).reach (let reach = whole_reach v j (whole_seat v j is_array whole low) in omega (arith, small, reach)));
      };
      may = record {
        state = record {
          set = state.set;
          profile = state.profile;
          events = let more = raise.0 in omega (arith, more);
          events_end = raise.1;
          row = state.row;
          roles = state.roles;
          marks = state.marks;
        };
        opened = subst (λ (f : Shape). IsOpen f v.number b) (sym shape) (open_after slices.lasting stays (shape_of v) v.number may.opened);
        log = kept_logs s number a b slices.lasting stays (λ place t live. supers_others (unsynced v) a b is_array.few marks.writes.only (log_slice place) t live (λ own. absurd (omega (arith, own)))) may.log;
        room = may.room;
        places = may.places;
        someone = may.someone;
      };
      moves = λ vals spent. mark_moves s v u a b is_array slices whole unmarked marks may.renew vals spent;
    }

pub ready_based : (s : State) (v u w : View) (number : ℕ) (on : List ℕ) (a b : RackView) → IsArray v → HasSlices v a → is_alone v ≡ false → Readies v u a b false
    → MayCommit s v w number on a → Based s v u w number on a b
ready_based s v u w number on a b is_array slices many (lost_one whole fresh unmarked lost marks) may = marked_based s v u w number on a b is_array slices many whole unmarked lost marks may
ready_based s v u w number on a b is_array slices many (not_whole same reads why) may =
    let lacks : is_whole_array v ≡ false = elim why [ inl is ↦ is | inr went ↦ absurd (went may.renew.fresh) ] in
    same_based s v u w number on a b is_array slices many lacks same (not_whole same reads why) may reads.stays (λ d t live other. reads.keeps.held d t live)
    (λ vals spent.
    moves_of s v v spent a b (shape_of v) vals (ImageShowsArray s v.number (shape_of v) vals spent) (shape_of v) vals (keeping_calls a b slices.lasting reads.stays reads.keeps s (shape_of v) v vals spent))
    (kept_keeps s number nobody a b slices.lasting reads.stays reads.keeps may.log)

-- a row that is changed by one commit then
pub logged_acts : (s : State) (v u w : View) (number : ℕ) (on : List ℕ) (a b c : RackView) (x : ℕ) (from : List ℕ)
    → IsArray v → HasSlices v a → is_alone v ≡ false → Readies v u a b false → MayCommit s v w number on a → IsNoted v w a c
    → (vals : ℕ → Values) (spent : ℕ → Bool)
    → ((base : View) → Base (is_whole_array v) base u → MayLog s base w number on b
    → CallRefines base.number b c (ArrayInvariant s (shape_of base) base vals spent b) (ImageShowsArray s base.number (shape_of base) (appended_at x from vals) spent)
    (ArrayInvariant s (shape_of base) w (appended_at x from vals) spent c))
    → WritesArray s v w spent a c (shape_of v) vals x from
logged_acts s v u w number on a b c x from is_array slices many readies may noted vals spent logged =
    let based = ready_based s v u w number on a b is_array slices many readies may in
    let n = v.number in
    let base = based.base in
    let H : Type 0 = ArrayInvariant s (shape_of v) v vals spent a in
    let P : Image → Type 0 = ImageShowsArray s n (shape_of v) (appended_at x from vals) spent in
    let Middle : Type 0 = ArrayInvariant s (shape_of v) base vals spent b in
    let Q : Type 0 = ArrayInvariant s (shape_of v) w (appended_at x from vals) spent c in
    let first : CallRefines n a b H P Middle =
    moves_by n a b H H Middle Middle (ImageShowsArray s n (shape_of v) vals spent) P (λ h. h) (λ r. says_appended s n (shape_of v) x from vals spent r) (λ h. h) (based.moves vals spent) in
    let second : CallRefines n b c Middle P Q =
    subst (λ (f : Shape). CallRefines n b c (ArrayInvariant s f base vals spent b) (ImageShowsArray s n f (appended_at x from vals) spent) (ArrayInvariant s f w (appended_at x from vals) spent c)) based.shape
    (subst (λ k. CallRefines k b c (ArrayInvariant s (shape_of base) base vals spent b) (ImageShowsArray s k (shape_of base) (appended_at x from vals) spent) (ArrayInvariant s (shape_of base) w (appended_at x from vals) spent c))
    based.same (logged base based.is_base based.may)) in
    acts_of s v w spent a c (shape_of v) vals P (shape_of v) (appended_at x from vals)
    (moves_then n a b c H Middle Q P slices.lasting (ready_others v u a b false is_array.few readies) first second) noted

-- ---- superblocks of an array that isn't whole

pub ready_whole : (v u : View) (a b : RackView) → Readies v u a b true → is_whole_array v ≡ true
ready_whole v u a b (was_marked whole fresh marked same reads) = whole
ready_whole v u a b (now_marked whole fresh unmarked marked marks) = whole

ready_reads : (v u : View) (a b : RackView) → is_whole_array v ≡ false → Readies v u a b false → OnlyReads a b
ready_reads v u a b lacks (lost_one whole fresh unmarked lost marks) = absurd (both_ways (is_whole_array v) lacks whole)
ready_reads v u a b lacks (not_whole same reads why) = reads

pub logged_left : (s : State) (v u w : View) (number : ℕ) (on : List ℕ) (a b c : RackView) → IsArray v → HasSlices v a → is_alone v ≡ false → is_whole_array v ≡ false
    → Readies v u a b false → MayCommit s v w number on a
    → ((base : View) → Base (is_whole_array v) base u → MayLog s base w number on b → LeavesSupers base.number b c) → LeavesSupers v.number a c
logged_left s v u w number on a b c is_array slices many lacks readies may logged =
    let based = ready_based s v u w number on a b is_array slices many readies may in
    let reads = ready_reads v u a b lacks readies in
    supers_then v.number a b c reads.stays (supers_reads v.number a b slices.lasting reads)
    (subst (λ k. LeavesSupers k b c) based.same (logged based.base based.is_base based.may))

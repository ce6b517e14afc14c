-- The works of a growth, by what the calls of the arrays and of the volume say.
use Rattle.std.specs.Prelude.{IfErr, IfOk, OnOk, Result, is_ok, unwrap_or}
use Rattle.std.proofs.Common.{◌≡◌, ◌⊎◌, ℕ, zero, suc, ◌+◌, ◌*◌, ◌^◌, ◌<◌, ◌≤◌, ◌==◌, ◌&&◌, if◌then◌else◌, Bool, true, false, List, [], ◌∷◌, slice_get, Some, None, Ok, Err, refl, sym, ap, subst, ◌∙◌, inl, inr, arith}
use Rattle.std.proofs.lemmas.Bool.{both_ways, cases_Bool, cases_eq, eq-eqb, ne_eqb}
use Rattle.rack.specs.Joins.{leaves_same, leaves_weaker, rose_before, rose_since, stays_same}
use Rattle.rack.specs.Sequences.{IsMix, WritesOnly}
use Rattle.array_core.proofs.LogWrites.{goes_then}
use Rattle.array_core.specs.Pool.{Goes}
use Rattle.rack.specs.Seen.{Rose, RackView}
use Rattle.rack.specs.Shelf.{KeepsShelf, Shelf, keeps_shelf_same, keeps_shelf_then}
use Rattle.slice_rack.specs.Slices.{disk_of, place_of, seat_of}
use Rattle.slice_rack.specs.SliceRack.{below_of, tables}
use Rattle.array_image.specs.Places.{log_slice}
use Rattle.array_image.specs.States.{is_current}
use Rattle.array_model.specs.View.{View as ArrayView, HasFault as HasDriveFault}
use Rattle.growth_laws.specs.Losses.{LosesBook}
use Rattle.transition_laws.specs.Changes.{changed}
use Rattle.growth_laws.specs.Growing.{GetsLonger, Grows, GrowsBy, Lacks, Turns, is_due as is_due_to_grow, lacks}
use Rattle.growth_laws.proofs.Losing.{as_long, longer_then, loses_nothing}
use Rattle.log_laws.proofs.Kept.{place_of_log}
use Rattle.lvm_group.specs.Runs.{Linear, extents_of, place_of as place_of_extent}
use Rattle.lvm_group.specs.Volume.{linear}
use Rattle.pool_state.specs.declared.contents.State.{State}
use Rattle.pool_state.specs.declared.contents.Work.{Work}
use Rattle.pool_state.specs.declared.contents.Work.TheVariants.{Resync, Rebuild, TakeOver, Begin, Reshape, Finish, Make, Zero, Ready, Extend, Close}
use Rattle.raid_laws.proofs.Whole.{heeded_left}
use Rattle.raid_laws.specs.Book.{IsSameBook}
use Rattle.raid_laws.specs.Moves.{AreCaused, IsHeeded, OnlyFailures, RaisesBy}
use Rattle.raid_laws.specs.Raid.{Raid, is_left}
use Rattle.raid_laws.specs.Runs.{RaidRuns}
use Rattle.raid_laws.specs.Works.{Does, StepsOne, array_of, is_due}
use Rattle.sync_laws.specs.Steps.{rebuilt, resynced}
use Rattle.raid_rack.specs.RaidRack.{IsFit, KeepsRack, SliceRuns, arrays_in, one_done, raid_in, raid_seen, slices_in, slices_seen, written_in}
use Rattle.raid_rack.specs.declared.arrays.RaidRack.{RaidRack}
use Rattle.raid_rack.specs.declared.works.Stuck.{Stuck}
use Rattle.raid_rack.proofs.Raises.{raises_more, raises_none}
use Rattle.pool.specs.declared.Pool.{Pool}
use Rattle.pool.specs.Calls.{DriveWent}
use Rattle.pool.specs.Growing.{DoesMany, DoesWorks, HasNone, IsDone, IsRefused, IsRefusedGrowth, IsRefusedRow, KeepsGrowing, LacksIn, StopsGrowing, TriesFirst, TriesWork, change_in, linear_after, more, most_grown, none}
use Rattle.pool.specs.Moment.{moment_of}
use Rattle.pool.specs.View.{View, arrays_of, bay_in, book, slices_shown, view, volume}
use Rattle.pool.specs.Works.{works_by, works_of}
use Rattle.pool.proofs.Extends.{inside_longer}
use Rattle.pool.proofs.Keeping.{not_left}
use Rattle.pool.proofs.Reached.{reached_stays, with_arrays}
use Rattle.pool.proofs.Serving.{KeepNames}
use Rattle.pool.proofs.InRow.{works_then}
use Rattle.pool.proofs.Stepping.{SaysOf, lacks_row}

-- ---- what works keep

-- a fault of a place's slices is one of its drive
went_by : (x y : View) (place : ℕ) → ((p : ℕ) → seat_of y.slices p ≡ seat_of x.slices p) → HasDriveFault (slices_shown x) (slices_shown y) place → DriveWent x y place
went_by x y place seats fault =
    subst (λ (d : ℕ). Rose (x.bay.faults d) (y.bay.faults d)) (ap (λ p. unwrap_or (seat_of x.slices p) 0) (fault.1 ∙ sym (place_of_log place)))
    (subst (λ (d : ℕ). Rose (x.bay.faults (disk_of x.slices fault.0)) (y.bay.faults d)) (ap (λ o. unwrap_or o 0) (seats (place_of fault.0))) fault.2)

pub keeps_by : (x y : View) → (volume x).fit → (volume y).fit → GetsLonger (book x) (book y) → ((p : ℕ) → seat_of y.slices p ≡ seat_of x.slices p) → Goes x.bay y.bay
    → KeepsShelf x.shelf y.shelf → AreCaused (book x) (book y) (slices_shown x) (slices_shown y) → (k : ℕ) → k ≤ 2 ^ 20 → RaisesBy k (book x) (book y) → KeepsGrowing 1 x y
keeps_by x y fit after longer seats goes shelf caused k few raises = record {
  fit = after;
  longer = longer;
  seats = seats;
  goes = goes;
  shelf = shelf;
  marks = λ place was now.
      inl (went_by x y place seats (caused.cause place (heeded_left (book x) place fit.0.heeded was) (not_left (book y) place now)));
  raises = raises_more k (most_grown * 1) (book x) (book y) (omega (arith, few)) raises;
}

-- calls that wrote sectors
pub goes_of : {a b : RackView} {may : ℕ → ℕ → List ℕ → Type 0} → WritesOnly a b may → Goes a b
goes_of {a} {b} {may} only = record { stays = only.stays; leaves = λ traced. leaves_weaker (IsMix a b may) (λ c. Unit {0}) (λ c at. tt) (only.stops traced) }

-- arrays that are as they were
same_long : (v : Raid) → GetsLonger v v
same_long v = as_long v v refl (λ n low. refl)

-- none is done
pub keeps_none : (x : View) → (volume x).fit → KeepsGrowing 0 x x
keeps_none x fit = record {
  fit = fit;
  longer = same_long (book x);
  seats = λ p. refl;
  goes = record { stays = stays_same x.bay fit.0.running.set.fit.0; leaves = λ traced. leaves_same x.bay (λ c. Unit {0}) };
  shelf = keeps_shelf_same x.shelf;
  marks = λ place was now. absurd (both_ways (is_current (book x).state place) now was);
  raises = raises_none (book x);
}

-- more than were done
pub keeps_more : (j k : ℕ) (x y : View) → j ≤ k → KeepsGrowing j x y → KeepsGrowing k x y
keeps_more j k x y few keeps = record {
  fit = keeps.fit;
  longer = keeps.longer;
  seats = keeps.seats;
  goes = keeps.goes;
  shelf = keeps.shelf;
  marks = keeps.marks;
  raises = raises_more (most_grown * j) (most_grown * k) (book x) (book y) (omega (arith, few)) keeps.raises;
}

-- works in a row
pub keeps_then : (n : ℕ) (x y z : View) → KeepsGrowing n x y → KeepsGrowing 1 y z → KeepsGrowing (n + 1) x z
keeps_then n x y z one two = record {
  fit = two.fit;
  longer = longer_then (book x) (book y) (book z) one.longer two.longer;
  seats = λ p. two.seats p ∙ one.seats p;
  goes = goes_then x.bay y.bay z.bay one.goes two.goes;
  shelf = keeps_shelf_then x.shelf y.shelf z.shelf one.shelf two.shelf;
  marks = λ place was now.
      elim (cases_Bool (is_current (book y).state place)) [
        | inl still ↦ elim (two.marks place still now) [ inl rose ↦ inl (later place rose) | inr never ↦ absurd never ]
        | inr gone ↦ elim (one.marks place was gone) [ inl rose ↦ inl (rose_before (two.goes.stays.faults _) rose) | inr never ↦ absurd never ]
      ];
  raises = record {
    number = let a = one.raises.number in let b = two.raises.number in omega (arith, a, b);
    epoch = let a = one.raises.epoch in let b = two.raises.epoch in omega (arith, a, b);
    events = λ k low.
        let grown = one.longer.made in
        let a = one.raises.events k low in
        let b = two.raises.events k (omega (arith, low, grown)) in
        omega (arith, a, b);
  };
}
  where
    later : (place : ℕ) → DriveWent y z place → DriveWent x z place
    later place rose =
        rose_since (one.goes.stays.faults _)
        (subst (λ (d : ℕ). Rose (y.bay.faults d) (z.bay.faults d)) (ap (λ o. unwrap_or o 0) (one.seats (place_of (log_slice place)))) rose)

-- ---- works that are done in a row

-- no work is first where none is left
none_first : (works : List Work) (work : Work) → works ≡ [] → slice_get works 0 ≡ Some work → ⊥
none_first works work empty first = let bad : None ≡ Some work = sym (ap (λ (ws : List Work). slice_get ws 0) empty) ∙ first in cc bad

pub many_none : (x : View) → DoesMany 0 (moment_of x) (moment_of x)
many_none x = inl none

-- nothing is done after them
still_done : (x y z : View) (n : ℕ) → HasNone y z → DoesWorks n x.linear (book x) y.linear (book y) → DoesWorks n x.linear (book x) z.linear (book z)
still_done x y z n left done =
    subst (λ (l : Linear). DoesWorks n x.linear (book x) l (book z)) (sym left.1)
    (subst (λ (v : Raid). DoesWorks n x.linear (book x) y.linear v) (sym left.2) done)

still_none : (y z : View) → HasNone y z → works_of z ≡ []
still_none y z left = ap (λ (l : Linear). works_by l (book z)) left.1 ∙ ap (λ (v : Raid). works_by y.linear v) left.2 ∙ left.0

-- a row of them begins with the first
first_in : (n : ℕ) (l m : Linear) (v w : Raid) → 0 < n → DoesWorks n l v m w → (work : Work) × (slice_get (works_by l v) 0 ≡ Some work)
first_in zero l m v w any none = absurd (omega (arith, any))
first_in (suc zero) l m v w any (more none last) = (last.work, last.first)
first_in (suc (suc n)) l m v w any (more rest last) = first_in (suc n) l _ v _ (omega arith) rest

pub many_then : (n k : ℕ) (x y z : View) → 0 < k → DoesMany n (moment_of x) (moment_of y) → HasNone y z ⊎ DoesWorks k y.linear (book y) z.linear (book z)
    → DoesMany (n + k) (moment_of x) (moment_of z)
many_then n k x y z any (inl done) (inr works) =
    inl (subst (λ j. DoesWorks j x.linear (book x) z.linear (book z)) (omega arith) (works_then n k x.linear y.linear z.linear (book x) (book y) (book z) done works))
many_then n k x y z any (inl done) (inl left) = inr (n, omega arith, still_done x y z n left done, still_none y z left)
many_then n k x y z any (inr over) (inl left) = inr (over.0, (let few = over.1 in omega (arith, few)), still_done x y z over.0 left over.2, still_none y z left)
many_then n k x y z any (inr over) (inr works) =
    let first = first_in k y.linear z.linear (book y) (book z) any works in
    absurd (none_first (works_of y) first.0 over.3 first.1)

-- a work can't be done once so many are
pub stops_behind : {R : Type 0} (seen : R → RackView) (shelf : R → Shelf) (runs : R → R → Type 0) (most k : ℕ) (p r : Pool R) (mid : Raid) (work : Work) (array : ℕ) → k < most
    → (volume (view seen shelf p)).fit → KeepsGrowing 1 (view seen shelf p) (view seen shelf r) → (view seen shelf r).linear ≡ (view seen shelf p).linear
    → DoesWorks k (view seen shelf p).linear (book (view seen shelf p)) (view seen shelf p).linear mid → slice_get (works_by (view seen shelf p).linear mid) 0 ≡ Some work
    → IsRefused seen runs (view seen shelf p).slices (bay_in p) (view seen shelf p).linear work mid (book (view seen shelf r)) array
    → StopsGrowing most (view seen shelf p) (view seen shelf r) runs array
stops_behind seen shelf runs most k p r mid work array few fit keeps still done first refused =
    let x = view seen shelf p in
    let z = view seen shelf r in
    record {
      works = k;
      few = few;
      mid = mid;
      done = subst (λ (l : Linear). DoesWorks k x.linear (book x) l mid) (sym still) done;
      work = work;
      first = subst (λ (l : Linear). slice_get (works_by l mid) 0 ≡ Some work) (sym still) first;
      slices = x.slices;
      seats = λ place. refl;
      bay = bay_in p;
      between = ((keeps_none x fit).goes, keeps.goes);
      stuck = subst (λ (l : Linear). IsRefused seen runs x.slices (bay_in p) l work mid (book z) array) (sym still) refused;
    }

-- a work is the first one
pub first_tried : {R : Type 0} (seen : R → RackView) (shelf : R → Shelf) (runs : R → R → Type 0) (most : ℕ) (p q : Pool R) (work : Work) (r : Result (Unit {0}) Stuck) → 0 < most
    → (volume (view seen shelf p)).fit → slice_get (works_of (view seen shelf p)) 0 ≡ Some work → TriesWork work (view seen shelf p) (view seen shelf q) runs (bay_in p) r
    → TriesFirst most (view seen shelf p) (view seen shelf q) runs (one_done r)
first_tried seen shelf runs most p q work r any fit first tries = record { keeps = tries.keeps; some = some_of r; done = done_of r tries; stuck = stuck_of r tries }
  where
    some_of : (r : Result (Unit {0}) Stuck) → IfOk (one_done r) (λ count. (0 < count) × (count ≤ most))
    some_of (Err e) = tt
    some_of (Ok u) = (omega arith, omega (arith, any))

    done_of : (r : Result (Unit {0}) Stuck) → TriesWork work (view seen shelf p) (view seen shelf q) runs (bay_in p) r
        → IfOk (one_done r)
        (λ count.
        HasNone (view seen shelf p) (view seen shelf q)
        ⊎ DoesWorks count (view seen shelf p).linear (book (view seen shelf p)) (view seen shelf q).linear (book (view seen shelf q)))
    done_of (Err e) tries = tt
    done_of (Ok u) tries = inr (more none (record { work = work; first = first; done = tries.done.0; linear = tries.done.1 }))

    stuck_of : (r : Result (Unit {0}) Stuck) → TriesWork work (view seen shelf p) (view seen shelf q) runs (bay_in p) r
        → IfErr (one_done r) (λ e. StopsGrowing most (view seen shelf p) (view seen shelf q) runs e.array)
    stuck_of (Ok u) tries = tt
    stuck_of (Err e) tries =
        stops_behind seen shelf runs most 0 p q (book (view seen shelf p)) work e.array any fit tries.keeps tries.stuck.0 none first tries.stuck.1

-- none is left
pub none_tried : (most : ℕ) (x : View) (runs : x.bays.one → x.bays.one → Type 0) → 0 < most → (volume x).fit → slice_get (works_of x) 0 ≡ None
    → TriesFirst most x x runs (Ok most)
none_tried most x runs any fit none_left = record {
  keeps = keeps_more 0 1 x x (omega arith) (keeps_none x fit);
  some = (any, omega arith);
  done = inl (empty (works_of x) none_left, refl, refl);
  stuck = tt;
}
  where
    empty : (works : List Work) → slice_get works 0 ≡ None → works ≡ []
    empty [] is = refl
    empty (work ∷ works) is = absurd (let bad : Some work ≡ None = is in cc bad)

-- where none is left, none is first behind works in a row
none_behind : (n : ℕ) (l m : Linear) (v w : Raid) (work : Work) → DoesWorks n l v m w → works_by l v ≡ [] → slice_get (works_by m w) 0 ≡ Some work → ⊥
none_behind zero l m v w work none empty first = none_first (works_by l v) work empty first
none_behind (suc n) l m v w work done empty first =
    let one = first_in (suc n) l m v w (omega arith) done in none_first (works_by l v) one.0 empty one.1

-- it can't be done, or one of those behind it
pub stops_growing : {R : Type 0} (seen : R → RackView) (shelf : R → Shelf) (runs : R → R → Type 0) (n most count : ℕ) (p q r : Pool R) (array : ℕ) → n + most ≤ count
    → KeepsGrowing n (view seen shelf p) (view seen shelf q) → DoesMany n (moment_of (view seen shelf p)) (moment_of (view seen shelf q))
    → StopsGrowing most (view seen shelf q) (view seen shelf r) runs array → StopsGrowing count (view seen shelf p) (view seen shelf r) runs array
stops_growing seen shelf runs n most count p q r array few before (inr over) stops =
    let y = view seen shelf q in
    absurd (none_behind stops.works y.linear (view seen shelf r).linear (book y) stops.mid stops.work stops.done over.3 stops.first)
stops_growing seen shelf runs n most count p q r array few before (inl done) stops =
    let x = view seen shelf p in
    let y = view seen shelf q in
    let z = view seen shelf r in
    let fewer = stops.few in
    record {
      works = stops.works + n;
      few = omega (arith, few, fewer);
      mid = stops.mid;
      done = works_then n stops.works x.linear y.linear z.linear (book x) (book y) stops.mid done stops.done;
      work = stops.work;
      first = stops.first;
      slices = stops.slices;
      seats = λ place. stops.seats place ∙ before.seats place;
      bay = stops.bay;
      between = (goes_then x.bay y.bay (seen stops.bay) before.goes stops.between.0, stops.between.1);
      stuck = stops.stuck;
    }

-- ---- a work that the arrays do

-- by its change
pub turned_done : (seconds : ℕ) (work : Work) (L : Raid → Raid → Type 0) (v w : Raid) → Turns (change_in seconds work) L v w true → IsDone work v w
turned_done seconds work L v w turns =
    let after = subst (λ t. LosesBook (if t then changed (change_in seconds work turns.mid) turns.mid else turns.mid) w) (turns.answer refl) turns.after in
    record {
      seconds = seconds;
      mid = turns.mid;
      before = turns.before;
      same = after.marks.same;
      current = after.marks.current;
      after = record { arrays = after.arrays; plan = after.plan };
    }

-- a step of one array
step_done : (work : Work) (v w : Raid) (a b : RackView) (m : ℕ) (next : ArrayView) → (changed (change_in 0 work v) v).state ≡ v.state
    → ((n : ℕ) → (changed (change_in 0 work v) v).arrays n ≡ (if n == m then next else v.arrays n))
    → StepsOne v w a b m next true → IsDone work v w
step_done work v w a b m next same is steps = record {
  seconds = 0;
  mid = v;
  before = loses_nothing v;
  same = subst (λ (s : State). IsSameBook s w.state) (sym same) steps.brings.book.same;
  current = λ place now. subst (λ (s : State). is_current s place ≡ true) (sym same) (steps.brings.book.current place now);
  after = record {
    arrays = λ n low.
        subst (λ (u : ArrayView). OnlyFailures u (w.arrays n)) (sym (is n))
        (subst (λ (t : Bool). OnlyFailures (if t then next else v.arrays n) (w.arrays n)) (and_true (n == m) steps.is_done (steps.answer refl))
        (steps.arrays n (subst (λ (s : State). n < s.made) same low)));
    plan = steps.plan ∙ sym (ap (λ (s : State). s.plan) same);
  };
}
  where
    and_true : (t d : Bool) → d ≡ true → (t && d) ≡ t
    and_true true d is = is
    and_true false d is = refl

-- a row of an array, or the end of a plan
pub row_done : (work : Work) (v w : Raid) (a b : RackView) → is_due v work ≡ true → Does work 1 v w a b {E = Stuck} (Ok 1) → IsDone work v w
row_done (Resync m) v w a b due does =
    step_done (Resync m) v w a b m (resynced (v.arrays m) 1) refl (λ n. refl)
    (subst (λ rows. StepsOne v w a b m (resynced (v.arrays m) rows) true) (sym does.rows.answer) does.rows.steps)
row_done (Rebuild m place) v w a b due does =
    step_done (Rebuild m place) v w a b m (rebuilt (v.arrays m) place 1) refl (λ n. refl)
    (subst (λ rows. StepsOne v w a b m (rebuilt (v.arrays m) place rows) true) (sym does.rows.answer) does.rows.steps)
row_done (TakeOver m) v w a b due does = absurd does
row_done (Begin m place) v w a b due does = absurd does
row_done (Reshape m) v w a b due does = absurd does
row_done (Finish m) v w a b due does = absurd does
row_done (Make m height) v w a b due does = absurd does
row_done (Zero m) v w a b due does = absurd does
row_done (Ready m) v w a b due does = absurd does
row_done Extend v w a b due does = absurd does
row_done Close v w a b due does =
    let book = does.1.brings.book in
    record {
      seconds = 0;
      mid = v;
      before = loses_nothing v;
      same = record { pool = book.same.pool; extent = book.same.extent; drives = book.same.drives; plan = inl does.1.plan; made = book.same.made; joined = book.same.joined; serial = book.same.serial };
      current = book.current;
      after = record { arrays = does.1.arrays; plan = does.1.plan };
    }

-- losses alone, for the extension changes no array
pub extend_done : (v w : Raid) → LosesBook v w → IsDone Extend v w
extend_done v w loses = record {
  seconds = 0;
  mid = v;
  before = loses_nothing v;
  same = loses.marks.same;
  current = loses.marks.current;
  after = record {
    arrays = λ n low. subst (λ (u : ArrayView). OnlyFailures u (w.arrays n)) (sym (own n)) (loses.arrays n low);
    plan = loses.plan;
  };
}
  where
    own : (n : ℕ) → (if n == 0 then v.arrays 0 else v.arrays n) ≡ v.arrays n
    own n = elim (cases_eq n 0) [
      | inl same ↦ ap (λ t. if t then v.arrays 0 else v.arrays n) (eq-eqb n 0 same) ∙ ap v.arrays (sym same)
      | inr other ↦ ap (λ t. if t then v.arrays 0 else v.arrays n) (ne_eqb n 0 other)
    ]

-- ---- what a work of a growth keeps

pub grown_keeps : {R : Type 0} (seen : R → RackView) (shelf : R → Shelf) (runs : R → R → Type 0) (names : KeepNames shelf runs) (p : Pool R) (new : RaidRack R) (work : Work)
    → (volume (view seen shelf p)).fit → (ok : Bool) → (is_due_to_grow (raid_in (arrays_of p)) work ≡ false → (ok ≡ false) × (new ≡ arrays_of p))
    → (is_due_to_grow (raid_in (arrays_of p)) work ≡ true
    → GetsLonger (raid_in (arrays_of p)) (raid_in new) × AreCaused (raid_in (arrays_of p)) (raid_in new) (slices_seen seen (arrays_of p)) (slices_seen seen new))
    → IsFit (arrays_in new) (slices_seen seen new) → (k : ℕ) → k ≤ 2 ^ 20 → RaisesBy k (raid_in (arrays_of p)) (raid_in new)
    → ((place : ℕ) → seat_of (tables (slices_in new)) place ≡ seat_of (view seen shelf p).slices place) → Goes (view seen shelf p).bay (seen (below_of (slices_in new)))
    → runs (bay_in p) (below_of (slices_in new)) → KeepsGrowing 1 (view seen shelf p) (view seen shelf (with_arrays p new))
grown_keeps {R} seen shelf runs names p new work fit ok idle grows after k few raises seats goes ran =
    keeps_by (view seen shelf p) (view seen shelf (with_arrays p new)) fit (
      after,
      inside_longer (linear p.volume) _ _ (view seen shelf p).refused (view seen shelf (with_arrays p new)).refused (raid_in (arrays_of p)) (raid_in new) (slices_seen seen (arrays_of p)) (slices_seen seen new)
          longer fit.1 low,
    )
    longer seats goes (names (bay_in p) (below_of (slices_in new)) ran) caused k few raises
  where
    longer : GetsLonger (raid_in (arrays_of p)) (raid_in new)
    longer = elim (cases_Bool (is_due_to_grow (raid_in (arrays_of p)) work)) [
      | inl due ↦ (grows due).0
      | inr not_due ↦ subst (λ (k : RaidRack R). GetsLonger (raid_in (arrays_of p)) (raid_in k)) (sym (idle not_due).1) (same_long (raid_in (arrays_of p)))
    ]

    caused : AreCaused (raid_in (arrays_of p)) (raid_in new) (slices_seen seen (arrays_of p)) (slices_seen seen new)
    caused = elim (cases_Bool (is_due_to_grow (raid_in (arrays_of p)) work)) [
      | inl due ↦ (grows due).1
      | inr not_due ↦
          subst (λ (k : RaidRack R). AreCaused (raid_in (arrays_of p)) (raid_in k) (slices_seen seen (arrays_of p)) (slices_seen seen k)) (sym (idle not_due).1)
          (record { left = λ place is. is; cause = λ place was now. absurd (both_ways (is_left (raid_in (arrays_of p)) place) now was) })
    ]

    low : (e : ℕ) → e < extents_of (linear p.volume).runs → (place_of_extent (linear p.volume).runs e).array < (raid_in (arrays_of p)).state.made
    low e below = let own = fit.1.placed e below in let most = fit.1.arrays in omega (arith, own, most)

-- ---- a work of the arrays, tried

module _ {R : Type 0} (seen : R → RackView) (shelf : R → Shelf) (runs : R → R → Type 0) (names : KeepNames shelf runs) (p : Pool R) (new : RaidRack R) (work : Work)
    (fit : (volume (view seen shelf p)).fit) (r : Result (Unit {0}) Stuck) (same : linear p.volume ≡ linear_after work (linear p.volume) (raid_in (arrays_of p))) where
  abbrev x : View
  x = view seen shelf p

  abbrev y : View
  y = view seen shelf (with_arrays p new)

  -- a row, or the end of a plan
  pub row_tried : SaysOf seen work 1 r (one_done r) (arrays_of p) new → KeepsRack (raid_seen seen (arrays_of p)) (raid_seen seen new) → SliceRuns seen runs (slices_in (arrays_of p)) (slices_in new)
      → RaidRuns (written_in (arrays_of p)) (written_in new) (raid_in (arrays_of p)) (raid_in new) (slices_seen seen (arrays_of p)) (slices_seen seen new)
      → RaisesBy 18 (raid_in (arrays_of p)) (raid_in new)
      → ((w : Raid) (array : ℕ) → array ≡ array_of work → IsRefusedRow work (book x) w → IsRefused seen runs x.slices (bay_in p) x.linear work (book x) w array)
      → TriesWork work x y runs (bay_in p) r
  row_tried says keeps ran runs_on raises refused = record {
    keeps =
        keeps_by x y fit (reached_stays seen shelf p new fit keeps).fit (as_long (book x) (book y) runs_on.book.same.made (λ n low. keeps.stays.sectors n))
        (λ place. ap (λ t. seat_of t place) ran.tables) (goes_of (ran.apart fit.0.running.set.fit.0 fit.0.running.set.fit.1)) (names (bay_in p) (bay_in (with_arrays p new)) ran.below)
        runs_on.caused 18 (omega arith) raises;
    done = done_of r says;
    stuck = stuck_of r says;
  }
    where
      done_of : (r : Result (Unit {0}) Stuck) → SaysOf seen work 1 r (one_done r) (arrays_of p) new → OnOk r (IsDone work (book x) (book y) × (y.linear ≡ linear_after work x.linear (book x)))
      done_of (Err e) says = tt
      done_of (Ok u) says =
          elim (cases_Bool (is_due (book x) work)) [
            | inl due ↦ (row_done work (book x) (book y) (slices_shown x) (slices_shown y) due (says.does due), same)
            | inr idle ↦ absurd (both_ways true (says.idle idle).0 refl)
          ]

      stuck_of : (r : Result (Unit {0}) Stuck) → SaysOf seen work 1 r (one_done r) (arrays_of p) new
          → IfErr r (λ e. (y.linear ≡ x.linear) × IsRefused seen runs x.slices (bay_in p) x.linear work (book x) (book y) e.array)
      stuck_of (Ok u) says = tt
      stuck_of (Err e) says = (
        refl,
        refused (book y) e.array says.named
            (elim (cases_Bool (is_due (book x) work)) [
              | inl due ↦ inr (lacks_row (book x) (book y) (slices_shown x) (slices_shown y) work 1 e (says.does due))
              | inr idle ↦ inl (idle, ap raid_in (says.idle idle).1)
            ]),
      )

  -- a work of a growth
  pub growth_tried : (seconds : ℕ) (L : Raid → Raid → Type 0) → ((mid w : Raid) → L mid w → LacksIn seen runs x.slices (bay_in p) work mid w)
      → (is_due_to_grow (book x) work ≡ false → (is_ok r ≡ false) × (new ≡ arrays_of p))
      → (is_due_to_grow (book x) work ≡ true → GrowsBy (change_in seconds work) L (book x) (raid_in new) (slices_shown x) (slices_seen seen new) (is_ok r))
      → IfErr r (λ e. e.array ≡ array_of work) → IsFit (arrays_in new) (slices_seen seen new) → (k : ℕ) → k ≤ 2 ^ 20 → RaisesBy k (book x) (raid_in new)
      → ((place : ℕ) → seat_of (tables (slices_in new)) place ≡ seat_of x.slices place) → Goes x.bay (seen (below_of (slices_in new))) → runs (bay_in p) (below_of (slices_in new))
      → ((w : Raid) (array : ℕ) → array ≡ array_of work → IsRefusedGrowth seen runs x.slices (bay_in p) work (book x) w → IsRefused seen runs x.slices (bay_in p) x.linear work (book x) w array)
      → TriesWork work x y runs (bay_in p) r
  growth_tried seconds L lacking idle grows named after k few raises seats goes ran refused = record {
    keeps = grown_keeps seen shelf runs names p new work fit (is_ok r) idle (λ due. ((grows due).longer, (grows due).caused)) after k few raises seats goes ran;
    done = done_of r idle grows;
    stuck = stuck_of r idle grows named;
  }
    where
      done_of : (r : Result (Unit {0}) Stuck) → (is_due_to_grow (book x) work ≡ false → (is_ok r ≡ false) × (new ≡ arrays_of p))
          → (is_due_to_grow (book x) work ≡ true → GrowsBy (change_in seconds work) L (book x) (raid_in new) (slices_shown x) (slices_seen seen new) (is_ok r))
          → OnOk r (IsDone work (book x) (book y) × (y.linear ≡ linear_after work x.linear (book x)))
      done_of (Err e) idle grows = tt
      done_of (Ok u) idle grows =
          elim (cases_Bool (is_due_to_grow (book x) work)) [
            | inl due ↦ (turned_done seconds work L (book x) (book y) (grows due).turns, same)
            | inr not_due ↦ absurd (both_ways true (idle not_due).0 refl)
          ]

      stuck_of : (r : Result (Unit {0}) Stuck) → (is_due_to_grow (book x) work ≡ false → (is_ok r ≡ false) × (new ≡ arrays_of p))
          → (is_due_to_grow (book x) work ≡ true → GrowsBy (change_in seconds work) L (book x) (raid_in new) (slices_shown x) (slices_seen seen new) (is_ok r))
          → IfErr r (λ e. e.array ≡ array_of work)
          → IfErr r (λ e. (y.linear ≡ x.linear) × IsRefused seen runs x.slices (bay_in p) x.linear work (book x) (book y) e.array)
      stuck_of (Ok u) idle grows named = tt
      stuck_of (Err e) idle grows named = (
        refl,
        refused (book y) e.array named
            (elim (cases_Bool (is_due_to_grow (book x) work)) [
              | inl due ↦
                  let turns = (grows due).turns in
                  inr (seconds, record { mid = turns.mid; before = turns.before; is_done = turns.is_done; answer = turns.answer; after = turns.after; refused = λ is. lacking turns.mid (book y) (turns.refused is) })
              | inr not_due ↦ inl (not_due, ap raid_in (idle not_due).1)
            ]),
      )

-- what is said of a young array that gets ready
pub ready_grows : (n : ℕ) (v w : Raid) (a b : RackView) (ok : Bool) → IsHeeded v → (ok ≡ false → (w ≡ v) × (lacks v n ≡ true)) → (ok ≡ true → Grows (Ready n) (Lacks (Ready n)) v w a b true)
    → Grows (Ready n) (Lacks (Ready n)) v w a b ok
ready_grows n v w a b true heeded stuck grows = grows refl
ready_grows n v w a b false heeded stuck grows =
    let is = stuck refl in
    subst (λ (k : Raid). Grows (Ready n) (Lacks (Ready n)) v k a b false) (sym is.0)
    (record {
      turns = record { mid = v; before = loses_nothing v; is_done = false; answer = λ no. absurd (both_ways false refl no); after = loses_nothing v; refused = λ no. is.1 };
      caused = record { left = λ place is. is; cause = λ place was now. absurd (both_ways (is_left v place) now was) };
      heeded = heeded;
      longer = same_long v;
    })

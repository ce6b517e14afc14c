-- Rows that one commit has done, as works in a row: each is the first that is left by the book after the one before it.
use Rattle.std.specs.List.{range_with_len}
use Rattle.std.specs.Option.{option_map_or}
use Rattle.std.proofs.Common.{◌≡◌, ℕ, zero, suc, ◌+◌, ◌-◌, ◌*◌, ◌<◌, ◌≤◌, ◌==◌, ◌&&◌, nat_lt, Bool, true, false, if◌then◌else◌, List, [], length, map, slice_get, Option, Some, refl, sym, ap, subst, ◌∙◌, inl, inr, arith, eq-eqb, lt-ltb, ne_eqb}
use Rattle.std.proofs.lemmas.Bool.{cases_eq}
use Rattle.rack.specs.Seen.{RackView}
use Rattle.array_image.specs.States.{is_current}
use Rattle.array_model.specs.View.{View as ArrayView, IsArray, rows_of}
use Rattle.sync_laws.specs.Steps.{HasRowLeft, reach_on, rebuilt, resynced, rows_left}
use Rattle.pool_state.specs.declared.contents.State.{State}
use Rattle.pool_state.specs.declared.contents.Work.{Work}
use Rattle.pool_state.specs.declared.contents.Work.TheVariants.{Resync, Rebuild}
use Rattle.growth_laws.proofs.Losing.{loses_nothing}
use Rattle.growth_laws.proofs.Steps.{stepped_other, stepped_own}
use Rattle.growth_plan.specs.declared.ArrayNow.{ArrayNow}
use Rattle.growth_plan.specs.Doing.{change, rows_rebuilt, rows_resynced}
use Rattle.growth_plan.specs.Works.{works_left}
use Rattle.growth_plan.proofs.FirstRows.{rebuild_stays, rebuilds_place, resync_stays}
use Rattle.growth_plan.proofs.OneArray.{put}
use Rattle.lvm_group.specs.Runs.{Linear, extents_of}
use Rattle.raid_laws.specs.Book.{IsSameBook, after_same}
use Rattle.raid_laws.specs.Losing.{only_same, only_then}
use Rattle.raid_laws.specs.Moves.{OnlyFailures}
use Rattle.raid_laws.specs.Raid.{Raid}
use Rattle.raid_laws.specs.Works.{StepsOne, stepped}
use Rattle.transition_laws.specs.Changes.{changed, with_view}
use Rattle.pool.specs.Growing.{DoesWorks, IsDone, change_in, linear_after, more, none}
use Rattle.pool.specs.Keeping.{KeepsWorks}
use Rattle.pool.specs.Works.{array_now, arrays_now, progress_by, rebuilding_in, works_by}
use Rattle.pool.proofs.Counted.{first_by, now_at_number}
use Rattle.pool.proofs.Counting.{now_resynced, one_changed}
use Rattle.pool.proofs.Rebuilding.{first_by_number, now_more, rebuilt_more, rows_before}

-- ---- one array, changed again and again

-- the array after so many changes
abbrev times : (ArrayView → ArrayView) → ℕ → ArrayView → ArrayView
times next zero u = u
times next (suc n) u = next (times next n u)

-- the book after so many of one array
abbrev by_rows : (ArrayView → ArrayView) → (m n : ℕ) → Raid → Raid
by_rows next m zero v = v
by_rows next m (suc n) v = with_view (by_rows next m n v) m (next ((by_rows next m n v).arrays m))

state_by : (next : ArrayView → ArrayView) (m n : ℕ) (v : Raid) → (by_rows next m n v).state ≡ v.state
state_by next m zero v = refl
state_by next m (suc n) v = state_by next m n v

own_by : (next : ArrayView → ArrayView) (m n : ℕ) (v : Raid) → (by_rows next m n v).arrays m ≡ times next n (v.arrays m)
own_by next m zero v = refl
own_by next m (suc n) v =
    stepped_own (by_rows next m n v) m (next ((by_rows next m n v).arrays m)) ∙ ap next (own_by next m n v)

other_by : (next : ArrayView → ArrayView) (m n : ℕ) (v : Raid) (k : ℕ) → (k ≡ m → ⊥) → (by_rows next m n v).arrays k ≡ v.arrays k
other_by next m zero v k other = refl
other_by next m (suc n) v k other =
    stepped_other (by_rows next m n v) m (next ((by_rows next m n v).arrays m)) k other ∙ other_by next m n v k other

-- the arrays' standing after them
now_by : (next : ArrayView → ArrayView) (m n : ℕ) (v : Raid) (to : ArrayNow → ArrayNow)
    → array_now v.state.extent (times next n (v.arrays m)) ≡ to (array_now v.state.extent (v.arrays m))
    → arrays_now (by_rows next m n v) ≡ change m to (arrays_now v)
now_by next m n v to is =
    ap (λ (s : State). map (λ k. array_now s.extent ((by_rows next m n v).arrays k)) (range_with_len 0 s.made)) (state_by next m n v)
    ∙ one_changed (λ k. array_now v.state.extent (v.arrays k)) (λ k. array_now v.state.extent ((by_rows next m n v).arrays k)) to m v.state.made
    (λ k low same.
    ap (λ j. array_now v.state.extent ((by_rows next m n v).arrays j)) same ∙ ap (array_now v.state.extent) (own_by next m n v) ∙ is
    ∙ ap (λ j. to (array_now v.state.extent (v.arrays j))) (sym same))
    (λ k low other. ap (array_now v.state.extent) (other_by next m n v k other))

-- and the works that are left
pub works_after : (l : Linear) (next : ArrayView → ArrayView) (m n : ℕ) (v : Raid) (to : ArrayNow → ArrayNow) → 0 < length v.state.drives.items
    → array_now v.state.extent (times next n (v.arrays m)) ≡ to (array_now v.state.extent (v.arrays m))
    → works_by l (by_rows next m n v) ≡ works_left v.state (put (progress_by l v) (change m to (arrays_now v)))
works_after l next m n v to some is =
    let with : State → List ArrayNow → List Work = λ s xs. works_left s (record { arrays = record { items = xs }; extents = extents_of l.runs }) in
    ap (λ (s : State). if nat_lt 0 (length s.drives.items) then with s (arrays_now (by_rows next m n v)) else []) (state_by next m n v)
    ∙ ap (λ (b : Bool). if b then with v.state (arrays_now (by_rows next m n v)) else []) (lt-ltb 0 (length v.state.drives.items) some)
    ∙ ap (with v.state) (now_by next m n v to is)

-- ---- works in a row

-- a work with nothing around it
done_alone : (work : Work) (b : Raid) → IsDone work b (changed (change_in 0 work b) b)
done_alone work b = record {
  seconds = 0;
  mid = b;
  before = loses_nothing b;
  same = (after_same (changed (change_in 0 work b) b).state).same;
  current = λ place is. is;
  after = record { arrays = λ n low. only_same _ _ refl; plan = refl };
}

-- works and more of them
pub works_then : (k n : ℕ) (l m o : Linear) (v w z : Raid) → DoesWorks k l v m w → DoesWorks n m w o z → DoesWorks (n + k) l v o z
works_then k zero l m o v w z one none = subst (λ j. DoesWorks j l v m w) (let e : k ≡ 0 + k = omega arith in e) one
works_then k (suc n) l m o v w z one (more rest last) =
    subst (λ j. DoesWorks j l v o z) (let e : suc (n + k) ≡ suc n + k = omega arith in e) (more (works_then k n _ _ _ _ _ _ one rest) last)

-- Rows of array m, each of which is the first work then, and all of them together.
module _ (l : Linear) (v w : Raid) (a b : RackView) (m : ℕ) (work : Work) (next : ArrayView → ArrayView) (big : ArrayView) (rows : ℕ)
    (changes : (u : Raid) → changed (change_in 0 work u) u ≡ with_view u m (next (u.arrays m)))
    (still : (u : Raid) → linear_after work l u ≡ l)
    (first : (i : ℕ) → i ≤ rows → slice_get (works_by l (by_rows next m i v)) 0 ≡ Some work)
    (alike : OnlyFailures (times next (suc rows) (v.arrays m)) big)
    (steps : StepsOne v w a b m big true) where
  before : (i : ℕ) → i ≤ rows → DoesWorks i l v l (by_rows next m i v)
  before zero few = none
  before (suc i) few =
      more (before i (omega (arith, few)))
      (record {
        work = work;
        first = first i (omega (arith, few));
        done = subst (IsDone work (by_rows next m i v)) (changes (by_rows next m i v)) (done_alone work (by_rows next m i v));
        linear = sym (still (by_rows next m i v));
      })

  only : (n : ℕ) → n < v.state.made → OnlyFailures ((by_rows next m (suc rows) v).arrays n) (w.arrays n)
  only n low =
      let after = subst (λ d. OnlyFailures (stepped v m big d n) (w.arrays n)) (steps.answer refl) (steps.arrays n low) in
      elim (cases_eq n m) [
        | inl same ↦
            only_then _ big (w.arrays n)
            (subst (λ k. OnlyFailures ((by_rows next m (suc rows) v).arrays k) big) (sym same)
            (subst (λ (u : ArrayView). OnlyFailures u big) (sym (own_by next m (suc rows) v)) alike))
            (subst (λ (u : ArrayView). OnlyFailures u (w.arrays n)) (at_own n same) after)
        | inr other ↦
            subst (λ (u : ArrayView). OnlyFailures u (w.arrays n)) (at_other n other ∙ sym (other_by next m (suc rows) v n other)) after
      ]
    where
      both : (t : Bool) → (n == m) ≡ t → stepped v m big true n ≡ (if t then big else v.arrays n)
      both true is = ap (λ t. if t && true then big else v.arrays n) is
      both false is = ap (λ t. if t && true then big else v.arrays n) is

      at_own : (n : ℕ) → n ≡ m → stepped v m big true n ≡ big
      at_own n same = ap (λ t. if t && true then big else v.arrays n) (eq-eqb n m same)

      at_other : (n : ℕ) → (n ≡ m → ⊥) → stepped v m big true n ≡ v.arrays n
      at_other n other = ap (λ t. if t && true then big else v.arrays n) (ne_eqb n m other)

  last : IsDone work (by_rows next m rows v) w
  last =
      let mid = by_rows next m rows v in
      let after = by_rows next m (suc rows) v in
      let is : changed (change_in 0 work mid) mid ≡ after = changes mid in
      let same : after.state ≡ v.state = state_by next m (suc rows) v in
      record {
        seconds = 0;
        mid = mid;
        before = loses_nothing mid;
        same = subst (λ (u : Raid). IsSameBook u.state w.state) (sym is) (subst (λ s. IsSameBook s w.state) (sym same) steps.brings.book.same);
        current = subst (λ (u : Raid). (place : ℕ) → is_current w.state place ≡ true → is_current u.state place ≡ true) (sym is)
            (subst (λ s. (place : ℕ) → is_current w.state place ≡ true → is_current s place ≡ true) (sym same) steps.brings.book.current);
        after = subst (λ (u : Raid). KeepsWorks u w) (sym is) (record {
          arrays = λ n low. only n (subst (λ (s : State). n < s.made) same low);
          plan = steps.plan ∙ sym (ap (λ (s : State). s.plan) same);
        });
      }

  pub rows_in_row : DoesWorks (suc rows) l v l w
  rows_in_row = more (before rows (omega arith)) (record { work = work; first = first rows (omega arith); done = last; linear = sym (still (by_rows next m rows v)) })

-- ---- rows that are resynced

resynced_by : (n : ℕ) (u : ArrayView) → OnlyFailures (times (λ z. resynced z 1) n u) (resynced u n)
resynced_by zero u = record {
  same = record {
    number = refl;
    geometry = record { set = refl; level = refl; size = refl; disks = refl; roles = refl; features = refl; position = refl };
    devices = refl;
    resync = omega arith;
    young = refl;
  };
  seats = λ k. inl refl;
}
resynced_by (suc n) u =
    let rest = resynced_by n u in
    let z = times (λ y. resynced y 1) n u in
    record {
      same = record {
        number = rest.same.number;
        geometry = record {
          set = rest.same.geometry.set;
          level = rest.same.geometry.level;
          size = rest.same.geometry.size;
          disks = rest.same.geometry.disks;
          roles = rest.same.geometry.roles;
          features = rest.same.geometry.features;
          position = rest.same.geometry.position;
        };
        devices = rest.same.devices;
        resync = (let same : u.resync + n ≡ z.resync = rest.same.resync in omega (arith, same));
        young = rest.same.young;
      };
      seats = rest.seats;
    }

resync_now : (extent n : ℕ) (u : ArrayView) → u.young ≡ false
    → array_now extent (times (λ z. resynced z 1) n u) ≡ rows_resynced n (array_now extent u)
resync_now extent zero u grown = ap (λ (k : ℕ). record (array_now extent u) { resync = k }) (let e : (array_now extent u).resync ≡ (array_now extent u).resync - 0 = omega arith in e)
resync_now extent (suc n) u grown =
    let z = times (λ y. resynced y 1) n u in
    now_resynced extent 1 z (sym (resynced_by n u).same.young ∙ grown)
    ∙ ap (rows_resynced 1) (resync_now extent n u grown)
    ∙ ap (λ (k : ℕ). record (array_now extent u) { resync = k })
    (let e : (array_now extent u).resync - n - 1 ≡ (array_now extent u).resync - suc n = omega arith in e)

pub resyncs_in_row : (l : Linear) (v w : Raid) (a b : RackView) (m rows : ℕ) → 0 < length v.state.drives.items → m < v.state.made → (v.arrays m).young ≡ false
    → slice_get (works_by l v) 0 ≡ Some (Resync m) → 0 < rows → rows ≤ rows_of (v.arrays m) - (v.arrays m).resync
    → StepsOne v w a b m (resynced (v.arrays m) rows) true → DoesWorks rows l v l w
resyncs_in_row l v w a b m zero some low grown first any few steps = absurd (omega (arith, any))
resyncs_in_row l v w a b m (suc rows) some low grown first any few steps =
    rows_in_row l v w a b m (Resync m) (λ u. resynced u 1) (resynced (v.arrays m) (suc rows)) rows (λ u. refl) (λ u. refl)
    (λ i less.
    ap (λ (ws : List Work). slice_get ws 0)
    (works_after l (λ u. resynced u 1) m i v (rows_resynced i) some (resync_now v.state.extent i (v.arrays m) grown))
    ∙ resync_stays v.state (progress_by l v) m i (first_by l v (Resync m) some first)
    (subst (λ (o : Option ArrayNow). i < option_map_or (λ (x : ArrayNow). x.resync) o 0) (sym (now_at_number v m low)) (omega (arith, few, less))))
    (resynced_by (suc rows) (v.arrays m)) steps

-- ---- rows that are rebuilt

-- one by one they are what they are at once
rebuilt_by : (u : ArrayView) (place n : ℕ) → IsArray u → HasRowLeft u place → times (λ z. rebuilt z place 1) (suc n) u ≡ rebuilt u place (suc n)
rebuilt_by u place zero is_array has = refl
rebuilt_by u place (suc n) is_array has =
    ap (λ (z : ArrayView). rebuilt z place 1) (rebuilt_by u place n is_array has) ∙ rebuilt_more u place (suc n) is_array has
    ∙ ap (rebuilt u place) (let e : suc n + 1 ≡ suc (suc n) = omega arith in e)

-- the array is said to rebuild the place
rebuilding_at : (l : Linear) (v : Raid) (m place : ℕ) → 0 < length v.state.drives.items → m < v.state.made → IsArray (v.arrays m) → HasRowLeft (v.arrays m) place
    → slice_get (works_by l v) 0 ≡ Some (Rebuild m place) → rebuilding_in (v.arrays m) ≡ Some place
rebuilding_at l v m place some low is_array has first =
    first_by_number (v.arrays m) place 0 is_array has
    (sym (ap (λ (o : Option ArrayNow). option_map_or (λ (x : ArrayNow). x.rebuilding) o 0) (now_at_number v m low))
    ∙ rebuilds_place v.state (progress_by l v) m place (first_by l v (Rebuild m place) some first))

-- a row of it is the first work until the last one is done
rebuild_first_at : (l : Linear) (v : Raid) (m place rows : ℕ) → 0 < length v.state.drives.items → m < v.state.made → IsArray (v.arrays m) → HasRowLeft (v.arrays m) place
    → slice_get (works_by l v) 0 ≡ Some (Rebuild m place) → rows < rows_left (v.arrays m) place
    → slice_get (works_by l (by_rows (λ z. rebuilt z place 1) m rows v)) 0 ≡ Some (Rebuild m place)
rebuild_first_at l v m place zero some low is_array has first few = first
rebuild_first_at l v m place (suc i) some low is_array has first few =
    let u = v.arrays m in
    let left = has.left in
    let whole = has.whole in
    let size = is_array.whole_rows in
    let rebuilding = rebuilding_at l v m place some low is_array has first in
    let more : (reach_on u place + 128 * suc i == u.truth.size) ≡ false =
    ne_eqb (reach_on u place + 128 * suc i) u.truth.size (λ all. omega (arith, all, few, left)) in
    let before = rows_before u place (suc i) is_array has rebuilding in
    ap (λ (ws : List Work). slice_get ws 0)
    (works_after l (λ z. rebuilt z place 1) m (suc i) v (rows_rebuilt (suc i)) some
    (ap (array_now v.state.extent) (rebuilt_by u place i is_array has) ∙ now_more u place (suc i) is_array has rebuilding (omega (arith, few)) more v.state.extent))
    ∙ rebuild_stays v.state (progress_by l v) m place (suc i) (first_by l v (Rebuild m place) some first)
    (subst (λ (o : Option ArrayNow). suc i < option_map_or (λ (x : ArrayNow). x.rebuild) o 0) (sym (now_at_number v m low)) (omega (arith, few, before)))

pub rebuilds_in_row : (l : Linear) (v w : Raid) (a b : RackView) (m place rows : ℕ) → 0 < length v.state.drives.items → m < v.state.made → IsArray (v.arrays m) → HasRowLeft (v.arrays m) place
    → slice_get (works_by l v) 0 ≡ Some (Rebuild m place) → 0 < rows → rows ≤ rows_left (v.arrays m) place
    → StepsOne v w a b m (rebuilt (v.arrays m) place rows) true → DoesWorks rows l v l w
rebuilds_in_row l v w a b m place zero some low is_array has first any few steps = absurd (omega (arith, any))
rebuilds_in_row l v w a b m place (suc rows) some low is_array has first any few steps =
    rows_in_row l v w a b m (Rebuild m place) (λ z. rebuilt z place 1) (rebuilt (v.arrays m) place (suc rows)) rows (λ u. refl) (λ u. refl)
    (λ i less. rebuild_first_at l v m place i some low is_array has first (omega (arith, less, few)))
    (only_same (times (λ z. rebuilt z place 1) (suc rows) (v.arrays m)) (rebuilt (v.arrays m) place (suc rows)) (sym (rebuilt_by (v.arrays m) place rows is_array has)))
    steps

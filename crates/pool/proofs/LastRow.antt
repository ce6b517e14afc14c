-- Rows of one array that one commit has done, as works in a row: losses that were met before the commit come before the last of them.
use Rattle.std.proofs.Common.{◌≡◌, ℕ, zero, suc, ◌<◌, ◌≤◌, ◌==◌, Bool, true, false, if◌then◌else◌, slice_get, Some, refl, sym, ap, subst, ◌∙◌, arith}
use Rattle.array_image.specs.States.{is_current}
use Rattle.array_model.specs.View.{View as ArrayView}
use Rattle.array_core.specs.Superblocks.{raised}
use Rattle.growth_laws.specs.Growing.{Lacks, Turns}
use Rattle.growth_laws.specs.Losses.{LosesBook}
use Rattle.growth_laws.proofs.Losing.{loses_nothing}
use Rattle.growth_laws.proofs.Steps.{stepped_own}
use Rattle.lvm_group.specs.Runs.{Linear}
use Rattle.pool_state.specs.declared.contents.State.{State}
use Rattle.pool_state.specs.declared.contents.Work.{Work}
use Rattle.raid_laws.specs.Book.{IsSameBook, after_same}
use Rattle.raid_laws.specs.Losing.{only_same, only_then}
use Rattle.raid_laws.specs.Moves.{OnlyFailures}
use Rattle.raid_laws.specs.Raid.{Raid}
use Rattle.transition_laws.specs.Changes.{Change, changed, steps, with_view}
use Rattle.pool.specs.Growing.{DoesWorks, IsDone, change_in, linear_after, more, none}
use Rattle.pool.specs.Keeping.{KeepsWorks}
use Rattle.pool.specs.Works.{works_by}

-- ---- one array among others

only_at : (t : Bool) (a b x y : ArrayView) → OnlyFailures a b → OnlyFailures x y → OnlyFailures (if t then a else x) (if t then b else y)
only_at true a b x y own other = own
only_at false a b x y own other = other

-- an array that is changed again
only_again : (t : Bool) (a b c x : ArrayView) → OnlyFailures a c → OnlyFailures (if t then a else (if t then b else x)) (if t then c else x)
only_again true a b c x own = own
only_again false a b c x own = only_same x x refl

events_at : (t : Bool) (a b x y : ArrayView) → a.truth.events ≤ b.truth.events → x.truth.events ≤ y.truth.events
    → (if t then a else x).truth.events ≤ (if t then b else y).truth.events
events_at true a b x y own other = own
events_at false a b x y own other = other

events_again : (t : Bool) (a b c x : ArrayView) (n : ℕ) → a.truth.events ≡ c.truth.events → (if t then c else x).truth.events ≤ n
    → (if t then a else (if t then b else x)).truth.events ≤ n
events_again true a b c x n same few = subst (λ k. k ≤ n) (sym same) few
events_again false a b c x n same few = few

-- ---- rows of one kind

-- What rows of a kind do to array m: `next rows` is the array once so many are done, and `still rows` is the same with the events that it had.
pub record AreRows (m : ℕ) (work : Work) (change : ℕ → Raid → Change) (next still : ℕ → ArrayView → ArrayView) : Type 0 where
  pub changes : (rows : ℕ) (v : Raid) → change rows v ≡ steps m (next rows (v.arrays m))
  pub own : (v : Raid) → change_in 0 work v ≡ steps m (next 1 (v.arrays m))
  pub linear : (l : Linear) (v : Raid) → l ≡ linear_after work l v
  pub raises : (rows : ℕ) (u : ArrayView) → (next rows u).truth.events ≡ raised u.truth.events
  pub stays : (rows : ℕ) (u : ArrayView) → (still rows u).truth.events ≡ u.truth.events
  pub alike : (rows : ℕ) (u : ArrayView) → OnlyFailures (next rows u) (still rows u)
  pub further : (rows : ℕ) (u : ArrayView) → OnlyFailures (next 1 (still rows u)) (next (suc rows) u)
  pub both : (rows : ℕ) (u w : ArrayView) → OnlyFailures u w → OnlyFailures (still rows u) (still rows w)

-- Some rows are done, and this is what the one behind them turns.
pub record LastRow (l : Linear) (v : Raid) (work : Work) (rows : ℕ) (w : Raid) (answered : Bool) : Type 0 where
  pub at : Raid
  pub done : DoesWorks rows l v l at
  pub first : slice_get (works_by l at) 0 ≡ Some work
  pub turns : Turns (change_in 0 work) (Lacks work) at w answered

-- the book after some rows of array m, whose events stay
abbrev pub after_rows : (still : ℕ → ArrayView → ArrayView) (m rows : ℕ) → Raid → Raid
after_rows still m rows v = with_view v m (still rows (v.arrays m))

pub own_after : (still : ℕ → ArrayView → ArrayView) (m rows : ℕ) (v : Raid) → (after_rows still m rows v).arrays m ≡ still rows (v.arrays m)
own_after still m rows v = stepped_own v m (still rows (v.arrays m))

module _ (m : ℕ) (work : Work) (change : ℕ → Raid → Change) (next still : ℕ → ArrayView → ArrayView) (are : AreRows m work change next still) where
  -- losses are the same by them
  loses_after : (rows : ℕ) (v mid : Raid) → m < v.state.made → LosesBook v mid → LosesBook (after_rows still m rows v) (after_rows still m rows mid)
  loses_after rows v mid low loses = record {
    marks = loses.marks;
    plan = loses.plan;
    arrays = λ n inside.
        only_at (n == m) (still rows (v.arrays m)) (still rows (mid.arrays m)) (v.arrays n) (mid.arrays n) (are.both rows (v.arrays m) (mid.arrays m) (loses.arrays m low)) (loses.arrays n inside);
    number = loses.number;
    events = λ n inside.
        events_at (n == m) (still rows (v.arrays m)) (still rows (mid.arrays m)) (v.arrays n) (mid.arrays n)
        (let before = are.stays rows (v.arrays m) in let after = are.stays rows (mid.arrays m) in let rise = loses.events m low in omega (arith, before, after, rise))
        (loses.events n inside);
  }

  -- the last row of them
  loses_last : (rows : ℕ) (mid w : Raid) → LosesBook (changed (change (suc rows) mid) mid) w
      → LosesBook (changed (change_in 0 work (after_rows still m rows mid)) (after_rows still m rows mid)) w
  loses_last rows mid w given =
      let u = mid.arrays m in
      let at = after_rows still m rows mid in
      let before = still rows u in
      let own = next 1 before in
      let all = next (suc rows) u in
      let loses = subst (λ (k : Change). LosesBook (changed k mid) w) (are.changes (suc rows) mid) given in
      let events : own.truth.events ≡ all.truth.events = are.raises 1 before ∙ ap raised (are.stays rows u) ∙ sym (are.raises (suc rows) u) in
      subst (λ (k : Change). LosesBook (changed k at) w) (sym (are.own at))
      (subst (λ (z : ArrayView). LosesBook (with_view at m (next 1 z)) w) (sym (own_after still m rows mid))
      (record {
        marks = loses.marks;
        plan = loses.plan;
        arrays = λ n low.
            only_then (if n == m then own else (if n == m then before else mid.arrays n)) (if n == m then all else mid.arrays n) (w.arrays n)
            (only_again (n == m) own before all (mid.arrays n) (are.further rows u)) (loses.arrays n low);
        number = loses.number;
        events = λ n low. events_again (n == m) own before all (mid.arrays n) (w.arrays n).truth.events events (loses.events n low);
      }))

  -- ---- rows in a row

  row_done : (b w : Raid) → w.state ≡ b.state
      → ((n : ℕ) → n < b.state.made → OnlyFailures ((with_view b m (next 1 (b.arrays m))).arrays n) (w.arrays n)) → IsDone work b w
  row_done b w same only = record {
    seconds = 0;
    mid = b;
    before = loses_nothing b;
    same = subst (λ (k : Change). IsSameBook (changed k b).state w.state) (sym (are.own b)) (subst (λ (s : State). IsSameBook b.state s) (sym same) (after_same b.state).same);
    current = subst (λ (k : Change). (place : ℕ) → is_current w.state place ≡ true → is_current (changed k b).state place ≡ true) (sym (are.own b))
        (λ place now. ap (λ (s : State). is_current s place) (sym same) ∙ now);
    after = subst (λ (k : Change). KeepsWorks (changed k b) w) (sym (are.own b)) (record { arrays = only; plan = ap (λ (s : State). s.plan) same });
  }

  first_one : (v : Raid) → IsDone work v (after_rows still m 1 v)
  first_one v =
      row_done v (after_rows still m 1 v) refl
      (λ n low. only_at (n == m) (next 1 (v.arrays m)) (still 1 (v.arrays m)) (v.arrays n) (v.arrays n) (are.alike 1 (v.arrays m)) (only_same (v.arrays n) (v.arrays n) refl))

  one_more : (rows : ℕ) (v : Raid) → IsDone work (after_rows still m rows v) (after_rows still m (suc rows) v)
  one_more rows v =
      let u = v.arrays m in
      let before = still rows u in
      let all = still (suc rows) u in
      row_done (after_rows still m rows v) (after_rows still m (suc rows) v) refl
      (λ n low.
      subst (λ (z : ArrayView). OnlyFailures (if n == m then next 1 z else (if n == m then before else v.arrays n)) (if n == m then all else v.arrays n)) (sym (own_after still m rows v))
      (only_again (n == m) (next 1 before) before all (v.arrays n)
      (only_then (next 1 before) (next (suc rows) u) all (are.further rows u) (are.alike (suc rows) u))))

  -- Rows of array m by the book v, which are the first works until the last of them is done.
  module _ (l : Linear) (v : Raid) (left : ℕ) (low : m < v.state.made) (first : slice_get (works_by l v) 0 ≡ Some work)
      (first_at : (rows : ℕ) → rows < left → slice_get (works_by l (after_rows still m rows v)) 0 ≡ Some work)
      (lacking : (rows : ℕ) (mid w : Raid) → LosesBook v mid → Lacks work mid w → Lacks work (after_rows still m rows mid) w) where
    before : (rows : ℕ) → rows < left → DoesWorks (suc rows) l v l (after_rows still m (suc rows) v)
    before zero few = more none (record { work = work; first = first; done = first_one v; linear = are.linear l v })
    before (suc rows) few =
        more (before rows (omega (arith, few)))
        (record { work = work; first = first_at (suc rows) few; done = one_more (suc rows) v; linear = are.linear l (after_rows still m (suc rows) v) })

    pub last_row : (rows : ℕ) (w : Raid) (answered : Bool) → rows < left → (turns : Turns (change (suc rows)) (Lacks work) v w answered) → turns.is_done ≡ true
        → LastRow l v work rows w answered
    last_row zero w answered few turns is =
        let mid = turns.mid in
        let same : change 1 mid ≡ change_in 0 work mid = are.changes 1 mid ∙ sym (are.own mid) in
        record {
          at = v;
          done = none;
          first = first;
          turns = record {
            mid = mid;
            before = turns.before;
            is_done = turns.is_done;
            answer = turns.answer;
            after = subst (λ (k : Change). LosesBook (if turns.is_done then changed k mid else mid) w) same turns.after;
            refused = turns.refused;
          };
        }
    last_row (suc rows) w answered few turns is =
        let mid = turns.mid in
        let after = subst (λ (t : Bool). LosesBook (if t then changed (change (suc (suc rows)) mid) mid else mid) w) is turns.after in
        record {
          at = after_rows still m (suc rows) v;
          done = before rows (omega (arith, few));
          first = first_at (suc rows) few;
          turns = record {
            mid = after_rows still m (suc rows) mid;
            before = loses_after (suc rows) v mid low turns.before;
            is_done = true;
            answer = λ ok. refl;
            after = loses_last (suc rows) mid w after;
            refused = λ no. lacking (suc rows) mid w turns.before (turns.refused no);
          };
        }

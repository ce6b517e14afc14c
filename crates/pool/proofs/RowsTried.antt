-- Rows are tried, as many as one commit takes: what the call of the arrays says, reached through the volume.
use Rattle.std.specs.Prelude.{IfErr, IfOk, Result, is_ok, nat_lt, not}
use Rattle.std.proofs.Common.{◌≡◌, ◌⊎◌, ℕ, zero, suc, ◌-◌, ◌<◌, ◌≤◌, ◌==◌, ◌&&◌, if◌then◌else◌, Bool, true, false, slice_get, Some, Ok, Err, refl, sym, ap, subst, inl, inr, ltb-true, arith}
use Rattle.std.proofs.lemmas.Bool.{and_parts, both_ways, cases_Bool}
use Rattle.rack.specs.Seen.{RackView}
use Rattle.rack.specs.Shelf.{Shelf}
use Rattle.array_model.specs.View.{rows_of}
use Rattle.array_image.specs.SoundArray.{first_unsynced}
use Rattle.array_image.specs.Supers.{is_reshaping}
use Rattle.sync_laws.specs.Steps.{DoesRows}
use Rattle.growth_laws.proofs.Losing.{as_long}
use Rattle.growth_laws.specs.Growing.{GrowsBy, Lacks, Turns, is_due as is_due_to_grow, is_synced, moves, whole_position, zeroes}
use Rattle.growth_laws.proofs.Zeroed.{has_row_to_zero}
use Rattle.growth_laws.specs.Losses.{LosesBook}
use Rattle.reshape_laws.specs.Ahead.{next_row}
use Rattle.transition_laws.specs.Changes.{Change, changed}
use Rattle.lvm_group.specs.Runs.{Linear}
use Rattle.pool_state.specs.declared.contents.Work.{Work}
use Rattle.pool_state.specs.declared.contents.Work.TheVariants.{Resync, Rebuild, TakeOver, Begin, Reshape, Finish, Make, Zero, Ready, Extend, Close}
use Rattle.raid_laws.specs.Moves.{RaisesBy}
use Rattle.raid_laws.specs.Raid.{Raid}
use Rattle.raid_laws.specs.Runs.{RaidRuns}
use Rattle.raid_laws.specs.Works.{Does, array_of, is_due, is_whole_row}
use Rattle.raid_rack.proofs.Rebuilt.{row_left}
use Rattle.raid_rack.proofs.Resynced.{grown}
use Rattle.raid_rack.specs.RaidRack.{IsFit, KeepsRack, SliceRuns, arrays_in, raid_in, raid_seen, slices_in, slices_seen, written_in}
use Rattle.raid_rack.specs.declared.arrays.RaidRack.{RaidRack}
use Rattle.raid_rack.specs.declared.works.Stuck.{Stuck}
use Rattle.slice_rack.specs.Slices.{seat_of}
use Rattle.pool.specs.declared.Pool.{Pool}
use Rattle.pool.specs.Growing.{DoesWorks, HasNone, IsRefused, IsRefusedRow, KeepsGrowing, StopsGrowing, TriesFirst, change_in, is_row, linear_after, more, none}
use Rattle.pool.specs.View.{View, arrays_of, bay_in, book, slices_shown, view, volume}
use Rattle.pool.specs.Works.{is_rebuilding_on, works_of}
use Rattle.pool.proofs.Grows.{goes_of, grown_keeps, keeps_by, stops_behind, turned_done}
use Rattle.pool.proofs.InRow.{rebuilds_in_row, resyncs_in_row}
use Rattle.pool.proofs.LastRow.{LastRow}
use Rattle.pool.proofs.MovedRows.{last_moved}
use Rattle.pool.proofs.ZeroedRows.{last_zeroed}
use Rattle.pool.proofs.Reached.{reached_stays, with_arrays}
use Rattle.pool.proofs.Serving.{KeepNames, Laws}
use Rattle.pool.proofs.Stepping.{SaysOf, lacks_row, some_done, some_drive}
use Rattle.pool.proofs.Trying.{goes_on, seats_on}

module _ {R : Type 0} (seen : R → RackView) (shelf : R → Shelf) (runs : R → R → Type 0) (laws : Laws seen) (names : KeepNames shelf runs) (p : Pool R) (new : RaidRack R) (work : Work) (most : ℕ)
    (fit : (volume (view seen shelf p)).fit) (first : slice_get (works_of (view seen shelf p)) 0 ≡ Some work) (any : 0 < most) where
  abbrev x : View
  x = view seen shelf p

  abbrev y : View
  y = view seen shelf (with_arrays p new)

  -- the rows that were done, one after the other
  rows_done : (work : Work) → slice_get (works_of (view seen shelf p)) 0 ≡ Some work → is_row work ≡ true → is_due (book x) work ≡ true → (k : ℕ)
      → Does work most (book x) (book y) (slices_shown x) (slices_shown y) {E = Stuck} (Ok k) → DoesWorks k x.linear (book x) x.linear (book y)
  rows_done (Resync m) first row due k does =
      let v = book x in
      let parts = and_parts (nat_lt m v.state.made) (nat_lt (v.arrays m).resync (rows_of (v.arrays m))) due in
      let low = ltb-true m v.state.made parts.0 in
      let left = ltb-true (v.arrays m).resync (rows_of (v.arrays m)) parts.1 in
      subst (λ n. DoesWorks n x.linear (book x) x.linear (book y)) (sym does.rows.answer)
      (resyncs_in_row x.linear v (book y) (slices_shown x) (slices_shown y) m does.rows.rows (some_drive x.linear v (Resync m) first) low
      (grown v.state m (v.arrays m) (slices_shown x) (fit.0.running.set.arrays m low) left) first does.rows.some does.rows.left does.rows.steps)
  rows_done (Rebuild m place) first row due k does =
      let v = book x in
      let parts = and_parts (nat_lt m v.state.made) (is_rebuilding_on (v.arrays m) place && is_whole_row (v.arrays m).truth.resync_offset) due in
      let own = and_parts (is_rebuilding_on (v.arrays m) place) (is_whole_row (v.arrays m).truth.resync_offset) parts.1 in
      let low = ltb-true m v.state.made parts.0 in
      let seated = fit.0.running.set.arrays m low in
      subst (λ n. DoesWorks n x.linear (book x) x.linear (book y)) (sym does.rows.answer)
      (rebuilds_in_row x.linear v (book y) (slices_shown x) (slices_shown y) m place does.rows.rows (some_drive x.linear v (Rebuild m place) first) low seated.is_array
      (row_left v.state m (v.arrays m) (slices_shown x) place seated own.0) first does.rows.some does.rows.left does.rows.steps)
  rows_done (TakeOver m) first row due k does = absurd does
  rows_done (Begin m place) first row due k does = absurd does
  rows_done (Reshape m) first row due k does = absurd does
  rows_done (Finish m) first row due k does = absurd does
  rows_done (Make m height) first row due k does = absurd does
  rows_done (Zero m) first row due k does = absurd does
  rows_done (Ready m) first row due k does = absurd does
  rows_done Extend first row due k does = absurd does
  rows_done Close first row due k does = absurd (both_ways false refl row)

  -- why the first was refused
  refused : (work : Work) → is_row work ≡ true → (w : Raid) (array : ℕ) → array ≡ array_of work → IsRefusedRow work (book x) w
      → IsRefused seen runs x.slices (bay_in p) x.linear work (book x) w array
  refused (Resync m) row w array named why = (named, why)
  refused (Rebuild m place) row w array named why = (named, why)
  refused (TakeOver m) row w array named why = absurd (both_ways false refl row)
  refused (Begin m place) row w array named why = absurd (both_ways false refl row)
  refused (Reshape m) row w array named why = absurd (both_ways false refl row)
  refused (Finish m) row w array named why = absurd (both_ways false refl row)
  refused (Make m height) row w array named why = absurd (both_ways false refl row)
  refused (Zero m) row w array named why = absurd (both_ways false refl row)
  refused (Ready m) row w array named why = absurd (both_ways false refl row)
  refused Extend row w array named why = absurd (both_ways false refl row)
  refused Close row w array named why = absurd (both_ways false refl row)

  pub rows_tried : (r : Result ℕ Stuck) → is_row work ≡ true → SaysOf seen work most r r (arrays_of p) new
      → KeepsRack (raid_seen seen (arrays_of p)) (raid_seen seen new) → SliceRuns seen runs (slices_in (arrays_of p)) (slices_in new)
      → RaidRuns (written_in (arrays_of p)) (written_in new) (raid_in (arrays_of p)) (raid_in new) (slices_seen seen (arrays_of p)) (slices_seen seen new)
      → RaisesBy 18 (raid_in (arrays_of p)) (raid_in new) → TriesFirst most x y runs r
  rows_tried r row says keeps ran runs_on raises = record {
    keeps = kept;
    some = some_done seen shelf runs laws names p new work most fit first any r says;
    done = done_of r says;
    stuck = stuck_of kept r says;
  }
    where
      done_of : (r : Result ℕ Stuck) → SaysOf seen work most r r (arrays_of p) new → IfOk r (λ count. HasNone x y ⊎ DoesWorks count x.linear (book x) y.linear (book y))
      done_of (Err e) says = tt
      done_of (Ok k) says =
          elim (cases_Bool (is_due (book x) work)) [
            | inl due ↦ inr (rows_done work first row due k (says.does due))
            | inr idle ↦ absurd (both_ways true (says.idle idle).0 refl)
          ]

      kept : KeepsGrowing 1 x y
      kept =
          keeps_by x y fit (reached_stays seen shelf p new fit keeps).fit (as_long (book x) (book y) runs_on.book.same.made (λ n low. keeps.stays.sectors n))
          (λ place. ap (λ t. seat_of t place) ran.tables) (goes_of (ran.apart fit.0.running.set.fit.0 fit.0.running.set.fit.1)) (names (bay_in p) (bay_in (with_arrays p new)) ran.below)
          runs_on.caused 18 (omega arith) raises

      stuck_of : KeepsGrowing 1 x y → (r : Result ℕ Stuck) → SaysOf seen work most r r (arrays_of p) new → IfErr r (λ e. StopsGrowing most x y runs e.array)
      stuck_of kept (Ok k) says = tt
      stuck_of kept (Err e) says =
          stops_behind seen shelf runs most 0 p (with_arrays p new) (book x) work e.array any fit kept refl none first
          (refused work row (book y) e.array says.named
          (elim (cases_Bool (is_due (book x) work)) [
            | inl due ↦ inr (lacks_row (book x) (book y) (slices_shown x) (slices_shown y) work most e (says.does due))
            | inr idle ↦ inl (idle, ap raid_in (says.idle idle).1)
          ]))

-- ---- rows of a growth

-- What a call of the arrays says of rows of array m, which are works of this kind: `change rows` is the change of so many, of as many as are left by the book before it.
pub record RowsSay {R : Type 0} (seen : R → RackView) (runs : R → R → Type 0) (work : Work) (m : ℕ) (change : ℕ → Raid → Change) (left : Raid → ℕ) (most : ℕ) (r : Result ℕ Stuck) (old new : RaidRack R)
    : Type 0 where
  pub idle : is_due_to_grow (raid_in old) work ≡ false → (is_ok r ≡ false) × (new ≡ old)
  pub grows :
      is_due_to_grow (raid_in old) work ≡ true
      → DoesRows (λ rows. GrowsBy (change rows) (Lacks work) (raid_in old) (raid_in new) (slices_seen seen old) (slices_seen seen new)) (left (raid_in old)) most r
  pub named : IfErr r (λ e. e.array ≡ m)
  pub fit : IsFit (arrays_in new) (slices_seen seen new)
  pub raises : RaisesBy 18 (raid_in old) (raid_in new)
  pub ran : SliceRuns seen runs (slices_in old) (slices_in new)

module _ {R : Type 0} (seen : R → RackView) (shelf : R → Shelf) (runs : R → R → Type 0) (names : KeepNames shelf runs) (p : Pool R) (new : RaidRack R) (work : Work) (m : ℕ)
    (change : ℕ → Raid → Change) (left : Raid → ℕ) (most : ℕ)
    (fit : (volume (view seen shelf p)).fit) (first : slice_get (works_of (view seen shelf p)) 0 ≡ Some work) (any : 0 < most)
    (quiet : (l : Linear) (v : Raid) → l ≡ linear_after work l v)
    (refuses : (v w : Raid) (array : ℕ) → array ≡ m
    → ((is_due_to_grow v work ≡ false) × (w ≡ v)) ⊎ ((seconds : ℕ) × Turns (change_in seconds work) (Lacks work) v w false)
    → IsRefused seen runs (view seen shelf p).slices (bay_in p) (view seen shelf p).linear work v w array)
    (last : is_due_to_grow (book (view seen shelf p)) work ≡ true → (rows : ℕ) (w : Raid) (ok : Bool) → rows < left (book (view seen shelf p))
    → (turns : Turns (change (suc rows)) (Lacks work) (book (view seen shelf p)) w ok) → turns.is_done ≡ true
    → LastRow (view seen shelf p).linear (book (view seen shelf p)) work rows w ok) where
  abbrev a : View
  a = view seen shelf p

  abbrev b : View
  b = view seen shelf (with_arrays p new)

  all_done : is_due_to_grow (book a) work ≡ true → (rows : ℕ) → 0 < rows → rows ≤ left (book a) → Turns (change rows) (Lacks work) (book a) (book b) true
      → DoesWorks rows a.linear (book a) b.linear (book b)
  all_done due zero some few turns = absurd (omega (arith, some))
  all_done due (suc rows) some few turns =
      let one = last due rows (book b) true (omega (arith, few)) turns (turns.answer refl) in
      more one.done (record { work = work; first = one.first; done = turned_done 0 work (Lacks work) one.at (book b) one.turns; linear = quiet a.linear one.at })

  stops : is_due_to_grow (book a) work ≡ true → KeepsGrowing 1 a b → (rows array : ℕ) → array ≡ m → 0 < rows → rows ≤ most → rows ≤ left (book a)
      → Turns (change rows) (Lacks work) (book a) (book b) false → StopsGrowing most a b runs array
  stops due kept zero array named some few inside turns = absurd (omega (arith, some))
  stops due kept (suc rows) array named some few inside turns =
      elim (cases_Bool turns.is_done) [
        | inl is ↦
            let one = last due rows (book b) false (omega (arith, inside)) turns is in
            stops_behind seen shelf runs most rows p (with_arrays p new) one.at work array (omega (arith, few)) fit kept refl one.done one.first
            (refuses one.at (book b) array named (inr (0, one.turns)))
        | inr idle ↦
            let mid = turns.mid in
            stops_behind seen shelf runs most 0 p (with_arrays p new) (book a) work array any fit kept refl none first
            (refuses (book a) (book b) array named (inr (
              0,
              record {
                mid = mid;
                before = turns.before;
                is_done = false;
                answer = λ ok. ok;
                after = subst (λ (t : Bool). LosesBook (if t then changed (change (suc rows) mid) mid else mid) (book b)) idle turns.after;
                refused = turns.refused;
              },
            )))
      ]

  pub growth_rows_tried : (r : Result ℕ Stuck) → RowsSay seen runs work m change left most r (arrays_of p) new → TriesFirst most a b runs r
  growth_rows_tried r says = record { keeps = kept r says; some = some_of r says; done = done_of r says; stuck = stuck_of r says }
    where
      -- as one work of the growth is tried
      kept : (r : Result ℕ Stuck) → RowsSay seen runs work m change left most r (arrays_of p) new → KeepsGrowing 1 a b
      kept r says =
          grown_keeps seen shelf runs names p new work fit (is_ok r) says.idle (λ due. ((says.grows due).steps.longer, (says.grows due).steps.caused)) says.fit 18 (omega arith)
          says.raises (seats_on seen runs (arrays_of p) new says.ran) (goes_on seen runs (arrays_of p) new fit.0 says.ran) says.ran.below

      some_of : (r : Result ℕ Stuck) → RowsSay seen runs work m change left most r (arrays_of p) new → IfOk r (λ count. (0 < count) × (count ≤ most))
      some_of (Err e) says = tt
      some_of (Ok k) says =
          elim (cases_Bool (is_due_to_grow (book a) work)) [
            | inl due ↦
                let does = says.grows due in
                let is = does.answer in
                let some = does.some in
                let few = does.few in (omega (arith, some, is), omega (arith, few, is))
            | inr idle ↦ absurd (both_ways true (says.idle idle).0 refl)
          ]

      done_of : (r : Result ℕ Stuck) → RowsSay seen runs work m change left most r (arrays_of p) new → IfOk r (λ count. HasNone a b ⊎ DoesWorks count a.linear (book a) b.linear (book b))
      done_of (Err e) says = tt
      done_of (Ok k) says =
          elim (cases_Bool (is_due_to_grow (book a) work)) [
            | inl due ↦
                let does = says.grows due in
                inr (subst (λ n. DoesWorks n a.linear (book a) b.linear (book b)) (sym does.answer) (all_done due does.rows does.some does.left does.steps.turns))
            | inr idle ↦ absurd (both_ways true (says.idle idle).0 refl)
          ]

      stuck_of : (r : Result ℕ Stuck) → RowsSay seen runs work m change left most r (arrays_of p) new → IfErr r (λ e. StopsGrowing most a b runs e.array)
      stuck_of (Ok k) says = tt
      stuck_of (Err e) says =
          elim (cases_Bool (is_due_to_grow (book a) work)) [
            | inl due ↦
                let does = says.grows due in
                stops due (kept (Err e) says) does.rows e.array says.named does.some does.few does.left does.steps.turns
            | inr idle ↦
                stops_behind seen shelf runs most 0 p (with_arrays p new) (book a) work e.array any fit (kept (Err e) says) refl none first
                (refuses (book a) (book b) e.array says.named (inl (idle, ap raid_in (says.idle idle).1)))
          ]

module _ {R : Type 0} (seen : R → RackView) (shelf : R → Shelf) (runs : R → R → Type 0) (names : KeepNames shelf runs) (p : Pool R) (new : RaidRack R) (m most : ℕ)
    (fit : (volume (view seen shelf p)).fit) (any : 0 < most) where
  abbrev v : Raid
  v = book (view seen shelf p)

  -- rows of a reshape
  pub moves_tried : slice_get (works_of (view seen shelf p)) 0 ≡ Some (Reshape m) → (r : Result ℕ Stuck)
      → RowsSay seen runs (Reshape m) m (moves m) (λ u. rows_of (u.arrays m) - next_row (u.arrays m)) most r (arrays_of p) new
      → TriesFirst most (view seen shelf p) (view seen shelf (with_arrays p new)) runs r
  moves_tried first r says =
      growth_rows_tried seen shelf runs names p new (Reshape m) m (moves m) (λ u. rows_of (u.arrays m) - next_row (u.arrays m)) most fit first any (λ l u. refl)
      (λ u w array named why. (named, why)) last r says
    where
      last : is_due_to_grow v (Reshape m) ≡ true → (rows : ℕ) (w : Raid) (ok : Bool) → rows < rows_of (v.arrays m) - next_row (v.arrays m)
          → (turns : Turns (moves m (suc rows)) (Lacks (Reshape m)) v w ok) → turns.is_done ≡ true → LastRow (view seen shelf p).linear v (Reshape m) rows w ok
      last due rows w ok few turns is =
          let u = v.arrays m in
          let parts = and_parts (is_synced v m) (is_reshaping u.truth && nat_lt u.truth.reshape_position (whole_position u)) due in
          let low = ltb-true m v.state.made (and_parts (nat_lt m v.state.made) (not u.young && (u.resync == rows_of u)) parts.0).0 in
          let on = (and_parts (is_reshaping u.truth) (nat_lt u.truth.reshape_position (whole_position u)) parts.1).0 in
          last_moved (view seen shelf p).linear v m (some_drive (view seen shelf p).linear v (Reshape m) first) low (fit.0.running.set.arrays m low).is_array on first rows w ok few turns is

  -- rows of a young array
  pub zeros_tried : slice_get (works_of (view seen shelf p)) 0 ≡ Some (Zero m) → (r : Result ℕ Stuck)
      → RowsSay seen runs (Zero m) m (zeroes m) (λ u. rows_of (u.arrays m) - first_unsynced (u.arrays m).truth) most r (arrays_of p) new
      → TriesFirst most (view seen shelf p) (view seen shelf (with_arrays p new)) runs r
  zeros_tried first r says =
      growth_rows_tried seen shelf runs names p new (Zero m) m (zeroes m) (λ u. rows_of (u.arrays m) - first_unsynced (u.arrays m).truth) most fit first any (λ l u. refl)
      (λ u w array named why. (named, why)) last r says
    where
      last : is_due_to_grow v (Zero m) ≡ true → (rows : ℕ) (w : Raid) (ok : Bool) → rows < rows_of (v.arrays m) - first_unsynced (v.arrays m).truth
          → (turns : Turns (zeroes m (suc rows)) (Lacks (Zero m)) v w ok) → turns.is_done ≡ true → LastRow (view seen shelf p).linear v (Zero m) rows w ok
      last due rows w ok few turns is =
          let has = has_row_to_zero v m due in
          let seated = fit.0.running.set.arrays m has.low in
          last_zeroed (view seen shelf p).linear v m (some_drive (view seen shelf p).linear v (Zero m) first) has.low seated.is_array has.young (seated.is_of_pool.zeroed has.young) first rows w ok few
          turns is

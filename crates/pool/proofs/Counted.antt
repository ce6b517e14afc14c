-- What is left after works that are done where no drive is lost.
use Rattle.std.specs.List.{range_with_len}
use Rattle.std.proofs.Common.{◌≡◌, ℕ, ◌+◌, ◌-◌, ◌<◌, ◌≤◌, ◌^◌, ◌==◌, ◌&&◌, nat_lt, Bool, true, false, if◌then◌else◌, List, [], drop, length, map, slice_get, Option, Some, IfSome, option_map, Ok, inl, inr, refl, sym, ap, subst, ◌∙◌, arith, eq-eqb, ne_eqb, lt-ltb, eqb-true, ltb-true}
use Rattle.std.proofs.lemmas.Bool.{both_ways, and_parts, cases_eq}
use Rattle.std.proofs.lemmas.List.{length-map}
use Rattle.std.proofs.lemmas.Option.{slice_get-map, slice_get_within}
use Rattle.std.specs.Option.{option_map_or}
use Rattle.array_core.proofs.Rules.{get_range}
use Rattle.arrayvec.specs.ArrayVec.{ArrayVec}
use Rattle.shr_base.specs.declared.Id.{Id}
use Rattle.rack.specs.Seen.{RackView}
use Rattle.pool_state.specs.declared.contents.Plan.{Plan}
use Rattle.pool_state.specs.declared.contents.Plan.TheVariants.{Nothing}
use Rattle.pool_state.specs.declared.contents.State.{State}
use Rattle.pool_state.specs.declared.contents.Work.{Work}
use Rattle.pool_state.specs.declared.contents.Work.TheVariants.{Resync, Rebuild, TakeOver, Begin, Reshape, Finish, Make, Zero, Ready, Extend, Close}
use Rattle.array_image.specs.States.{is_current}
use Rattle.array_model.specs.declared.Seat.{Seat}
use Rattle.array_model.specs.declared.Seat.TheVariants.{Missing}
use Rattle.array_model.specs.View.{View, is_missing_seat, rows_of}
use Rattle.sync_laws.specs.Steps.{rebuilt, resynced, rows_left}
use Rattle.growth_plan.specs.declared.ArrayNow.{ArrayNow}
use Rattle.growth_plan.specs.declared.Progress.{Progress}
use Rattle.growth_plan.specs.Doing.{HasOneLayer, after, change, is_of_layer, rows_rebuilt, rows_resynced}
use Rattle.growth_plan.specs.Works.{works_left}
use Rattle.growth_plan.proofs.Done.{first_done}
use Rattle.growth_plan.proofs.FirstRows.{first_rebuilds, first_resyncs}
use Rattle.growth_plan.proofs.OneArray.{put}
use Rattle.lvm_group.specs.Runs.{Linear, extents_of}
use Rattle.raid_laws.specs.Book.{IsSameBook, drive_of}
use Rattle.raid_laws.specs.Moves.{IsHeeded, IsSet, OnlyFailures}
use Rattle.raid_laws.specs.Raid.{Raid}
use Rattle.raid_rack.specs.RaidRack.{no_super}
use Rattle.raid_laws.specs.Works.{ClosesPlan, Does, StepsOne, is_due, is_whole_row, stepped}
use Rattle.raid_rack.specs.declared.works.Stuck.{Stuck}
use Rattle.raid_rack.proofs.Rebuilt.{next_rebuilt, row_left}
use Rattle.pool.specs.Works.{array_now, arrays_now, is_rebuilding_on, progress_by, works_by, HasRowsAlone}
use Rattle.pool.proofs.Books.{is_book}
use Rattle.pool.proofs.Counting.{none_changed, now_resynced, now_same, one_changed}
use Rattle.pool.proofs.Quiet.{is_missing, seats_same, state_same}
use Rattle.pool.proofs.Rebuilding.{is_first, now_rebuilt, rows_before, was_rebuilt}

-- ---- members

-- whether a member is being rebuilt, by what that goes by
rebuilding_by : ArrayVec ℕ → ℕ → List Seat → List Id → ℕ → Bool
rebuilding_by roles disks seats devices place = is_rebuilding_on (record {
  number = 0;
  truth = record no_super { roles = roles; raid_disks = disks };
  seats = seats;
  devices = devices;
  went = [];
  resync = 0;
  young = false;
  marked = false;
}) place

rebuilding_as : (v : View) (place : ℕ) → is_rebuilding_on v place ≡ rebuilding_by v.truth.roles v.truth.raid_disks v.seats v.devices place
unfolding rebuilding_by
rebuilding_as v place = refl

alike : (f : ArrayVec ℕ → ℕ → List Seat → List Id → Bool) {r1 r2 : ArrayVec ℕ} {d1 d2 : ℕ} {t1 t2 : List Seat} {e1 e2 : List Id}
    → r1 ≡ r2 → d1 ≡ d2 → t1 ≡ t2 → e1 ≡ e2 → f r1 d1 t1 e1 ≡ f r2 d2 t2 e2
alike f r d t e = cc

rebuilding_same : (u w : View) → OnlyFailures u w → w.seats ≡ u.seats → (place : ℕ) → is_rebuilding_on w place ≡ is_rebuilding_on u place
rebuilding_same u w only seats place =
    rebuilding_as w place
    ∙ alike (λ r d t e. rebuilding_by r d t e place) only.same.geometry.roles only.same.geometry.disks seats only.same.devices
    ∙ sym (rebuilding_as u place)

-- ---- a call

-- Two moments between which no drive is lost, and by what the arrays stand at the second one.
module _ (l : Linear) (v w : Raid) (a b : RackView) (before : IsSet v a) (after_set : IsSet w b) (heeded : IsHeeded v) (still : IsHeeded w)
    (book : IsSameBook v.state w.state) (marks : (p : ℕ) → is_current w.state p ≡ is_current v.state p) (alone : HasRowsAlone v)
    (next : ℕ → View) (only : (n : ℕ) → n < v.state.made → OnlyFailures (next n) (w.arrays n))
    (roles : (n : ℕ) → (next n).truth.roles ≡ (v.arrays n).truth.roles) (disks : (n : ℕ) → (next n).truth.raid_disks ≡ (v.arrays n).truth.raid_disks)
    (missing : (n k : ℕ) → n < v.state.made → slice_get (v.arrays n).seats k ≡ Some Missing → slice_get (next n).seats k ≡ Some Missing)
    (less : (n p : ℕ) → n < v.state.made → is_rebuilding_on (next n) p ≡ true → is_rebuilding_on (v.arrays n) p ≡ true)
    (young : (n : ℕ) → (next n).young ≡ (v.arrays n).young) where
  low : (n : ℕ) → n < v.state.made → n < w.state.made
  low n inside = subst (λ k. n < k) (sym book.made) inside

  seats_at : (n : ℕ) → n < v.state.made → (w.arrays n).seats ≡ (next n).seats
  seats_at n inside =
      seats_same v.state w.state n (v.arrays n) (next n) (w.arrays n) a b (before.arrays n inside) (after_set.arrays n (low n inside))
      (heeded n inside) (still n (low n inside)) marks (only n inside) (roles n) (disks n)
      (λ k. missing n k inside)

  now_at : (n : ℕ) → n < v.state.made → array_now w.state.extent (w.arrays n) ≡ array_now v.state.extent (next n)
  now_at n inside =
      ap (λ e. array_now e (w.arrays n)) book.extent
      ∙ now_same v.state.extent (next n) (w.arrays n) (only n inside) (seats_at n inside) (young n ∙ alone.grown n inside)

  still_alone : HasRowsAlone w
  still_alone = record {
    grown = λ n inside.
        let here : n < v.state.made = subst (λ k. n < k) book.made inside in
        (only n here).same.young ∙ young n ∙ alone.grown n here;
    one = λ n inside p q first second.
        let here : n < v.state.made = subst (λ k. n < k) book.made inside in
        let was : (k : ℕ) → is_rebuilding_on (w.arrays n) k ≡ true → is_rebuilding_on (v.arrays n) k ≡ true =
        λ k is. less n k here (sym (rebuilding_same (next n) (w.arrays n) (only n here) (seats_at n here) k) ∙ is) in
        alone.one n here p q (was p first) (was q second);
  }

  -- the works that are left are those of the book after it, by the plan that is left
  left_as : (xs : List ArrayNow) (plan : Plan) → w.state.plan ≡ plan
      → map (λ n. array_now w.state.extent (w.arrays n)) (range_with_len 0 v.state.made) ≡ xs
      → works_left w.state (progress_by l w) ≡ works_left (record v.state { plan = plan }) (record { arrays = record { items = xs }; extents = extents_of l.runs })
  left_as xs plan ends are =
      let with : List ArrayNow → Progress = λ ys. record { arrays = record { items = ys }; extents = extents_of l.runs } in
      let sames : arrays_now w ≡ xs = ap (λ k. map (λ n. array_now w.state.extent (w.arrays n)) (range_with_len 0 k)) book.made ∙ are in
      ap (λ ys. works_left w.state (with ys)) sames
      ∙ ap (λ (s : State). works_left s (with xs)) (state_same v.state w.state book marks ∙ ap (λ (p : Plan). record v.state { plan = p }) ends)

-- ---- a work that is done

-- what it leaves, or several at once: the other works, and no other kind of work of the arrays
pub record AreFewer (l : Linear) (count : ℕ) (v w : Raid) : Type 0 where
  pub rest : works_by l w ≡ drop count (works_by l v)
  pub alone : HasRowsAlone w

-- the book after it has the rest of the works left
rest_left : (l : Linear) (v w : Raid) (count : ℕ) → 0 < length v.state.drives.items → IsSameBook v.state w.state
    → works_left w.state (progress_by l w) ≡ drop count (works_left v.state (progress_by l v))
    → works_by l w ≡ drop count (works_by l v)
rest_left l v w count some same is =
    let p = progress_by l v in
    let listed = lt-ltb 0 (length v.state.drives.items) some in
    let many : length w.state.drives.items ≡ length v.state.drives.items =
    sym (length-map w.state.drives.items drive_of) ∙ ap length same.drives ∙ length-map v.state.drives.items drive_of in
    let own : works_by l v ≡ works_left v.state p = ap (λ b. if b then works_left v.state p else []) listed in
    let new : works_by l w ≡ works_left w.state (progress_by l w) =
    ap (λ n. if nat_lt 0 n then works_left w.state (progress_by l w) else []) many
    ∙ ap (λ b. if b then works_left w.state (progress_by l w) else []) listed in
    new ∙ is ∙ ap (drop count) (sym own)

-- the first work, by the book
pub first_by : (l : Linear) (v : Raid) (work : Work) → 0 < length v.state.drives.items → slice_get (works_by l v) 0 ≡ Some work
    → slice_get (works_left v.state (progress_by l v)) 0 ≡ Some work
first_by l v work some first =
    let p = progress_by l v in
    let own : works_by l v ≡ works_left v.state p = ap (λ b. if b then works_left v.state p else []) (lt-ltb 0 (length v.state.drives.items) some) in
    ap (λ (ws : List Work). slice_get ws 0) (sym own) ∙ first

-- an array's standing, by its number
pub now_at_number : (v : Raid) (m : ℕ) → m < v.state.made → slice_get (arrays_now v) m ≡ Some (array_now v.state.extent (v.arrays m))
now_at_number v m low =
    slice_get-map (λ n. array_now v.state.extent (v.arrays n)) (range_with_len 0 v.state.made) m
    ∙ ap (option_map (λ n. array_now v.state.extent (v.arrays n))) (get_range 0 v.state.made m low)
    ∙ ap (λ n. Some (array_now v.state.extent (v.arrays n))) (let e : 0 + m ≡ m = omega arith in e)

-- an array of a step, by its number
stepped_at : (v : Raid) (m : ℕ) (next : View → View) (n : ℕ) → stepped v m (next (v.arrays m)) true n ≡ (if n == m then (next (v.arrays n)) else v.arrays n)
stepped_at v m next n = by (n == m) refl
  where
    by : (t : Bool) → (n == m) ≡ t → (if t && true then (next (v.arrays m)) else v.arrays n) ≡ (if t then (next (v.arrays n)) else v.arrays n)
    by true is = ap (λ k. next (v.arrays k)) (sym (eqb-true n m is))
    by false is = refl

-- A step of array m that makes another of it, which stands by so many works less.
module _ (l : Linear) (v w : Raid) (a b : RackView) (count : ℕ) (m : ℕ) (next : View → View) (to : ArrayNow → ArrayNow)
    (set : IsSet v a) (heeded : IsHeeded v) (some : 0 < length v.state.drives.items) (small : extents_of l.runs < 2 ^ 52) (alone : HasRowsAlone v)
    (marks : (p : ℕ) → is_current w.state p ≡ is_current v.state p)
    (inside : m < v.state.made) (steps : StepsOne v w a b m (next (v.arrays m)) true)
    (truth : (u : View) → (next u).truth.roles ≡ u.truth.roles) (disks : (u : View) → (next u).truth.raid_disks ≡ u.truth.raid_disks)
    (young : (u : View) → (next u).young ≡ u.young)
    (missing : (k : ℕ) → slice_get (v.arrays m).seats k ≡ Some Missing → slice_get (next (v.arrays m)).seats k ≡ Some Missing)
    (less : (p : ℕ) → is_rebuilding_on (next (v.arrays m)) p ≡ true → is_rebuilding_on (v.arrays m) p ≡ true)
    (now : array_now v.state.extent (next (v.arrays m)) ≡ to (array_now v.state.extent (v.arrays m)))
    (gone : works_left v.state (put (progress_by l v) (change m to (arrays_now v))) ≡ drop count (works_left v.state (progress_by l v))) where
  abbrev made : ℕ → View
  made = stepped v m (next (v.arrays m)) true

  only : (n : ℕ) → n < v.state.made → OnlyFailures (made n) (w.arrays n)
  only n low = subst (λ d. OnlyFailures (stepped v m (next (v.arrays m)) d n) (w.arrays n)) (steps.answer refl) (steps.arrays n low)

  here : (n : ℕ) → n ≡ m → made n ≡ next (v.arrays m)
  here n is = stepped_at v m next n ∙ ap (λ t. if t then (next (v.arrays n)) else v.arrays n) (eq-eqb n m is) ∙ ap (λ k. next (v.arrays k)) is

  other : (n : ℕ) → (n ≡ m → ⊥) → made n ≡ v.arrays n
  other n not = stepped_at v m next n ∙ ap (λ t. if t then (next (v.arrays n)) else v.arrays n) (ne_eqb n m not)

  kept : {X : Type 0} (f : View → X) → ((u : View) → f (next u) ≡ f u) → (n : ℕ) → f (made n) ≡ f (v.arrays n)
  kept f same n =
      elim (cases_eq n m) [
        | inl is ↦ ap f (here n is) ∙ same (v.arrays m) ∙ ap (λ k. f (v.arrays k)) (sym is)
        | inr not ↦ ap f (other n not)
      ]

  missing_at : (n k : ℕ) → n < v.state.made → slice_get (v.arrays n).seats k ≡ Some Missing → slice_get (made n).seats k ≡ Some Missing
  missing_at n k low gone =
      elim (cases_eq n m) [
        | inl is ↦ ap (λ (u : View). slice_get u.seats k) (here n is) ∙ missing k (ap (λ j. slice_get (v.arrays j).seats k) (sym is) ∙ gone)
        | inr not ↦ ap (λ (u : View). slice_get u.seats k) (other n not) ∙ gone
      ]

  less_at : (n p : ℕ) → n < v.state.made → is_rebuilding_on (made n) p ≡ true → is_rebuilding_on (v.arrays n) p ≡ true
  less_at n p low rebuilds =
      elim (cases_eq n m) [
        | inl is ↦
            ap (λ j. is_rebuilding_on (v.arrays j) p) is ∙ less p (sym (ap (λ (u : View). is_rebuilding_on u p) (here n is)) ∙ rebuilds)
        | inr not ↦ sym (ap (λ (u : View). is_rebuilding_on u p) (other n not)) ∙ rebuilds
      ]

  counted : AreFewer l count v w
  counted =
      let same = steps.brings.book.same in
      let f : ℕ → ArrayNow = λ n. array_now v.state.extent (v.arrays n) in
      let roles_at = kept {X = ArrayVec ℕ} (λ u. u.truth.roles) truth in
      let disks_at = kept {X = ℕ} (λ u. u.truth.raid_disks) disks in
      let young_at = kept {X = Bool} (λ u. u.young) young in
      let at = now_at l v w a b set steps.brings.set heeded steps.heeded same marks alone made only roles_at disks_at missing_at less_at young_at in
      let changed = one_changed f (λ n. array_now w.state.extent (w.arrays n)) to m v.state.made
      (λ n low is. at n low ∙ ap (array_now v.state.extent) (here n is) ∙ now ∙ ap (λ k. to (array_now v.state.extent (v.arrays k))) (sym is))
      (λ n low not. at n low ∙ ap (array_now v.state.extent) (other n not)) in
      record {
        rest = rest_left l v w count some same
            (left_as l v w a b set steps.brings.set heeded steps.heeded same marks alone made only roles_at disks_at missing_at less_at young_at
            (change m to (arrays_now v)) v.state.plan steps.plan changed
            ∙ gone);
        alone = still_alone l v w a b set steps.brings.set heeded steps.heeded same marks alone made only roles_at disks_at missing_at less_at young_at;
      }

-- rows are resynced
resync_counted : (l : Linear) (v w : Raid) (a b : RackView) (m rows : ℕ) → IsSet v a → IsHeeded v → 0 < length v.state.drives.items → extents_of l.runs < 2 ^ 52
    → HasRowsAlone v → slice_get (works_by l v) 0 ≡ Some (Resync m) → ((p : ℕ) → is_current w.state p ≡ is_current v.state p)
    → m < v.state.made → rows ≤ rows_of (v.arrays m) - (v.arrays m).resync → StepsOne v w a b m (resynced (v.arrays m) rows) true → AreFewer l rows v w
resync_counted l v w a b m rows set heeded some small alone first marks inside few steps =
    counted l v w a b rows m (λ u. resynced u rows) (rows_resynced rows) set heeded some small alone marks inside steps
    (λ u. refl) (λ u. refl) (λ u. refl) (λ k gone. gone)
    (λ p is. sym (rebuilding_as (resynced (v.arrays m) rows) p ∙ sym (rebuilding_as (v.arrays m) p)) ∙ is)
    (now_resynced v.state.extent rows (v.arrays m) (alone.grown m inside))
    (first_resyncs v.state (progress_by l v) m rows (first_by l v (Resync m) some first)
    (subst (λ (o : Option ArrayNow). rows ≤ option_map_or (λ (x : ArrayNow). x.resync) o 0) (sym (now_at_number v m inside)) few))

-- rows are rebuilt
rebuild_counted : (l : Linear) (v w : Raid) (a b : RackView) (m place rows : ℕ) → IsSet v a → IsHeeded v → 0 < length v.state.drives.items → extents_of l.runs < 2 ^ 52
    → HasRowsAlone v → slice_get (works_by l v) 0 ≡ Some (Rebuild m place) → ((p : ℕ) → is_current w.state p ≡ is_current v.state p)
    → m < v.state.made → is_rebuilding_on (v.arrays m) place ≡ true → rows ≤ rows_left (v.arrays m) place
    → StepsOne v w a b m (rebuilt (v.arrays m) place rows) true → AreFewer l rows v w
rebuild_counted l v w a b m place rows set heeded some small alone first marks inside rebuilds few steps =
    let u = v.arrays m in
    let seated = set.arrays m inside in
    let has = row_left v.state m u a place seated rebuilds in
    let one = alone.one m inside in
    let next = next_rebuilt v.state m u a place rows seated has few in
    let count = seated.is_array.seats in
    let before = rows_before u place rows seated.is_array has (is_first u place rows seated.is_array has few one) in
    counted l v w a b rows m (λ u. rebuilt u place rows) (rows_rebuilt rows) set heeded some small alone marks inside steps
    (λ u. refl) (λ u. refl) (λ u. refl)
    (λ k gone.
    let low = slice_get_within u.seats k Missing gone in
    is_missing (slice_get (rebuilt u place rows).seats k)
    (next.seated.marks k (omega (arith, low, count)) ∙ sym (seated.marks k (omega (arith, low, count))) ∙ ap (option_map is_missing_seat) gone))
    (was_rebuilt u place rows seated.is_array has)
    (now_rebuilt u place rows seated.is_array has few one v.state.extent)
    (first_rebuilds v.state (progress_by l v) m place rows (first_by l v (Rebuild m place) some first)
    (subst (λ (o : Option ArrayNow). rows ≤ option_map_or (λ (x : ArrayNow). x.rebuild) o 0) (sym (now_at_number v m inside)) (omega (arith, few, before))))

-- the plan ends
close_counted : (l : Linear) (v w : Raid) (a b : RackView) → IsSet v a → IsHeeded v → 0 < length v.state.drives.items → extents_of l.runs < 2 ^ 52
    → HasRowsAlone v → slice_get (works_by l v) 0 ≡ Some Close → ((p : ℕ) → is_current w.state p ≡ is_current v.state p)
    → ClosesPlan v w a b → AreFewer l 1 v w
close_counted l v w a b set heeded some small alone first marks does =
    let same = does.brings.book.same in
    let now = now_at l v w a b set does.brings.set heeded does.heeded same marks alone v.arrays does.arrays (λ n. refl) (λ n. refl) (λ n k low gone. gone) (λ n p low is. is)
    (λ n. refl) in
    let p = progress_by l v in
    let ends = subst (λ (o : Option Work). IfSome o (λ work. (is_of_layer work ≡ true → HasOneLayer v.state p.arrays.items)
    → works_left (after work v.state p).state (after work v.state p).progress ≡ drop 1 (works_left v.state p)))
    (first_by l v Close some first) (first_done v.state p (is_book l v a set some small)) in
    record {
      rest = rest_left l v w 1 some same
          (left_as l v w a b set does.brings.set heeded does.heeded same marks alone v.arrays does.arrays (λ n. refl) (λ n. refl) (λ n k low gone. gone) (λ n p low is. is)
          (λ n. refl)
          (arrays_now v) Nothing does.plan
          (none_changed (λ n. array_now v.state.extent (v.arrays n)) (λ n. array_now w.state.extent (w.arrays n)) v.state.made now)
          ∙ ends (λ of. absurd (both_ways false refl of)));
      alone = still_alone l v w a b set does.brings.set heeded does.heeded same marks alone v.arrays does.arrays (λ n. refl) (λ n. refl) (λ n k low gone. gone) (λ n p low is. is)
          (λ n. refl);
    }

-- Any work, with those after it: where no drive is lost and so many are answered to be done, they are so many less.
pub work_counted : (l : Linear) (v w : Raid) (a b : RackView) (work : Work) (most count : ℕ) → IsSet v a → IsHeeded v → 0 < length v.state.drives.items → extents_of l.runs < 2 ^ 52
    → HasRowsAlone v → slice_get (works_by l v) 0 ≡ Some work → ((p : ℕ) → is_current w.state p ≡ is_current v.state p)
    → is_due v work ≡ true → Does work most v w a b {E = Stuck} (Ok count) → AreFewer l count v w
work_counted l v w a b (Resync m) most count set heeded some small alone first marks due does =
    let parts = and_parts (nat_lt m v.state.made) (nat_lt (v.arrays m).resync (rows_of (v.arrays m))) due in
    subst (λ n. AreFewer l n v w) (sym does.rows.answer)
    (resync_counted l v w a b m does.rows.rows set heeded some small alone first marks (ltb-true m v.state.made parts.0) does.rows.left does.rows.steps)
work_counted l v w a b (Rebuild m place) most count set heeded some small alone first marks due does =
    let parts = and_parts (nat_lt m v.state.made) (is_rebuilding_on (v.arrays m) place && is_whole_row (v.arrays m).truth.resync_offset) due in
    let own = and_parts (is_rebuilding_on (v.arrays m) place) (is_whole_row (v.arrays m).truth.resync_offset) parts.1 in
    subst (λ n. AreFewer l n v w) (sym does.rows.answer)
    (rebuild_counted l v w a b m place does.rows.rows set heeded some small alone first marks (ltb-true m v.state.made parts.0) own.0 does.rows.left does.rows.steps)
work_counted l v w a b (TakeOver m) most count set heeded some small alone first marks due does = absurd does
work_counted l v w a b (Begin m place) most count set heeded some small alone first marks due does = absurd does
work_counted l v w a b (Reshape m) most count set heeded some small alone first marks due does = absurd does
work_counted l v w a b (Finish m) most count set heeded some small alone first marks due does = absurd does
work_counted l v w a b (Make m height) most count set heeded some small alone first marks due does = absurd does
work_counted l v w a b (Zero m) most count set heeded some small alone first marks due does = absurd does
work_counted l v w a b (Ready m) most count set heeded some small alone first marks due does = absurd does
work_counted l v w a b Extend most count set heeded some small alone first marks due does = absurd does
work_counted l v w a b Close most count set heeded some small alone first marks due does =
    subst (λ n. AreFewer l n v w) (sym does.0) (close_counted l v w a b set heeded some small alone first marks does.1)

-- The code that zeroes rows of a young array, as a change of the book with the losses of its call.
use Rattle.std.proofs.Common.{◌≡◌, ◌⊎◌, ℕ, ◌+◌, ◌-◌, ◌*◌, ◌/◌, ◌<◌, ◌≤◌, Bool, true, false, ◌||◌, not, map, Result, Ok, Err, is_ok, IfOk, IfErr, refl, sym, ap, subst, ◌∙◌, inl, inr, le-ltb, arith}
use Rattle.std.proofs.lemmas.Bool.{both_ways, cases_Bool, ltb-false}
use Rattle.std.specs.List.{range_with_len}
use Rattle.rack.specs.Seen.{RackView}
use Rattle.pool_state.specs.declared.contents.Work.TheVariants.{Zero}
use Rattle.array_image.specs.Spent.{wanting}
use Rattle.array_image.specs.SoundArray.{first_unsynced}
use Rattle.array_model.specs.View.{View, member_on, rows_of}
use Rattle.array_model.specs.Members.{members_of}
use Rattle.sync_laws.specs.Rows.{lacks_two}
use Rattle.sync_laws.specs.Steps.{if_done, zeroed}
use Rattle.raid_rack.specs.declared.arrays.Arrays.{Arrays}
use Rattle.raid_rack.specs.declared.works.Stuck.{Stuck}
use Rattle.raid_rack.specs.RaidRack.{raid_by}
use Rattle.raid_laws.specs.Raid.{Raid}
use Rattle.raid_laws.specs.Moves.{OnlyFailures, Mends}
use Rattle.raid_laws.proofs.Over.{not_true, or_parts}
use Rattle.raid_rack.proofs.Grown.{HasCalled}
use Rattle.raid_rack.proofs.Mended.{not_of_false}
use Rattle.raid_rack.proofs.Resynced.{done_alone, told_rows, wanting_less}
use Rattle.growth_laws.specs.Growing.{GrowsBy, Lacks, ZeroesNext, is_ended, zeroes}
use Rattle.growth_laws.specs.Losses.{LosesBook}
use Rattle.transition_laws.specs.Changes.{changed, steps}
use Rattle.growth_laws.proofs.Steps.{CallsTo, grows_one, step_as_long, stepped_own}

-- two members that don't lack a row after losses didn't before them
pub lacks_two_less : (u w : View) (row : ℕ) → OnlyFailures u w → lacks_two w row ≡ false → lacks_two u row ≡ false
lacks_two_less u w row only lacks =
    let t = row * 128 + 127 in
    let less = subst (λ n. wanting t (members_of u) ≤ wanting t (map (member_on w) (range_with_len 0 n))) (sym only.same.geometry.disks) (wanting_less u w t 0 u.truth.raid_disks only) in
    let none : wanting t (members_of w) ≤ 1 = ltb-false 1 (wanting t (members_of w)) lacks in
    le-ltb 1 (wanting t (members_of u)) (omega (arith, less, none))

-- the call, and the mending after it
zero_grows : (a b c : Arrays) (x y z : RackView) (n rows : ℕ) (is_done did answered : Bool) → HasCalled a b x y n (zeroed ((raid_by a).arrays n) rows) is_done → n < b.state.made
    → (did ≡ true → is_done ≡ true)
    → (did ≡ false → lacks_two ((raid_by b).arrays n) (first_unsynced ((raid_by a).arrays n).truth) ≡ true)
    → Mends (raid_by b) (raid_by c) y z
    → answered ≡ not (is_ended (raid_by c) || lacks_two ((raid_by c).arrays n) (first_unsynced ((raid_by a).arrays n).truth))
    → GrowsBy (zeroes n rows) (Lacks (Zero n)) (raid_by a) (raid_by c) x z answered
zero_grows a b c x y z n rows is_done did answered one low answer refused mends answered_is =
    let v = raid_by a in
    let w = raid_by c in
    let u = v.arrays n in
    let row = first_unsynced u.truth in
    let lost = is_ended w || lacks_two (w.arrays n) row in
    grows_one (zeroes n rows) (Lacks (Zero n)) v (raid_by b) w n (zeroed u rows) x y z is_done answered refl one.stays one.calls
    (λ ok.
    let few = (or_parts (is_ended w) (lacks_two (w.arrays n) row) (not_true lost (sym answered_is ∙ ok))).1 in
    elim (cases_Bool did) [
      | inl made ↦ answer made
      | inr none ↦ absurd (both_ways (lacks_two ((raid_by b).arrays n) row) (lacks_two_less ((raid_by b).arrays n) (w.arrays n) row (mends.moves.arrays n low) few) (refused none))
    ])
    mends (step_as_long v n (zeroed u rows) refl) (λ no. not_of_false lost (sym answered_is ∙ no))

-- THE SAME FOR ROWS, where it is answered how many they are
pub zeros_answered : (a b c : Arrays) (x y z : RackView) (n most rows : ℕ) (is_done : Bool) {E : Type 0} (did : Result ℕ E) (result : Result ℕ Stuck) (stuck : Bool)
    → 0 < rows → rows ≤ most → rows ≤ rows_of ((raid_by a).arrays n) - first_unsynced ((raid_by a).arrays n).truth → IfOk did (λ k. k ≡ rows)
    → HasCalled a b x y n (zeroed ((raid_by a).arrays n) rows) is_done → n < b.state.made → (is_ok did ≡ true → is_done ≡ true)
    → (is_ok did ≡ false → lacks_two ((raid_by b).arrays n) (first_unsynced ((raid_by a).arrays n).truth) ≡ true) → Mends (raid_by b) (raid_by c) y z
    → stuck ≡ (is_ended (raid_by c) || lacks_two ((raid_by c).arrays n) (first_unsynced ((raid_by a).arrays n).truth))
    → IfOk result (λ k. (did ≡ Ok k) × (stuck ≡ false)) → IfErr result (λ e. (is_ok did ≡ false) ⊎ (stuck ≡ true))
    → ZeroesNext n most (raid_by a) (raid_by c) x z result
zeros_answered a b c x y z n most rows is_done did result stuck some few left number one low answer refused mends stuck_is told refuses = record {
  rows = rows;
  some = some;
  few = few;
  left = left;
  steps = zero_grows a b c x y z n rows is_done (is_ok did) (is_ok result) one low answer refused mends (by result told refuses);
  answer = told_rows did rows result number (done_alone did stuck result told);
}
  where
    lost : Bool
    lost = is_ended (raid_by c) || lacks_two ((raid_by c).arrays n) (first_unsynced ((raid_by a).arrays n).truth)

    -- a call that is refused lacked two members of its row, and it does so after the losses
    by : (r : Result ℕ Stuck) → IfOk r (λ k. (did ≡ Ok k) × (stuck ≡ false)) → IfErr r (λ e. (is_ok did ≡ false) ⊎ (stuck ≡ true)) → is_ok r ≡ not lost
    by (Ok k) told refuses = sym (ap not (sym stuck_is ∙ told.1))
    by (Err e) told (inr is) = sym (ap not (sym stuck_is ∙ is))
    by (Err e) told (inl none) = elim (cases_Bool lost) [
      | inl lacking ↦ sym (ap not lacking)
      | inr has ↦
          let row = first_unsynced ((raid_by a).arrays n).truth in
          let few = (or_parts (is_ended (raid_by c)) (lacks_two ((raid_by c).arrays n) row) has).1 in
          absurd (both_ways (lacks_two ((raid_by b).arrays n) row) (lacks_two_less ((raid_by b).arrays n) ((raid_by c).arrays n) row (mends.moves.arrays n low) few) (refused none))
    ]

-- one row at most is one
pub one_zeroed : (n : ℕ) (v w : Raid) (x y : RackView) {E : Type 0} (result : Result ℕ E) → ZeroesNext n 1 v w x y result → GrowsBy (zeroes n 1) (Lacks (Zero n)) v w x y (is_ok result)
one_zeroed n v w x y result does =
    let some = does.some in
    let few = does.few in
    subst (λ (rows : ℕ). GrowsBy (zeroes n rows) (Lacks (Zero n)) v w x y (is_ok result)) (let one : does.rows ≡ 1 = omega (arith, some, few) in one) does.steps

-- the array has as many rows after the call
pub called_rows : (v w : Raid) (n rows : ℕ) (x y : RackView) (is_done : Bool) → CallsTo v w n (zeroed (v.arrays n) rows) x y is_done → n < v.state.made
    → rows_of (w.arrays n) ≡ rows_of (v.arrays n)
called_rows v w n rows x y is_done call low = of is_done call.book
  where
    of : (d : Bool) → LosesBook (if_done d v (changed (steps n (zeroed (v.arrays n) rows)) v)) w → rows_of (w.arrays n) ≡ rows_of (v.arrays n)
    of false book = ap (λ k. k / 128) (book.arrays n low).same.geometry.size
    of true book = ap (λ k. k / 128) (book.arrays n low).same.geometry.size ∙ ap rows_of (stepped_own v n (zeroed (v.arrays n) rows))

-- The code of a growth: a call of one array that makes another one of it, and the mending after it.
use Rattle.std.proofs.Common.{◌&&◌, ◌≡◌, ◌⊎◌, ℕ, ◌+◌, ◌-◌, ◌<◌, ◌≤◌, Bool, true, false, ◌||◌, not, nat_lt, if◌then◌else◌, List, map, set, length, get_or, Result, Ok, Err, is_ok, IfOk, IfErr, refl, sym, ap, subst, ◌∙◌, inl, inr, le-ltb, arith}
use Rattle.std.proofs.lemmas.Bool.{both_ways, cases_Bool, cases_lt, ltb-false}
use Rattle.std.proofs.lemmas.List.{same_lists}
use Rattle.std.proofs.lemmas.Option.{slice_get-get_or}
use Rattle.std.proofs.lemmas.List.FromFn.{get_or-map-range_with_len, length-map-range_with_len}
use Rattle.std.specs.List.{list_all, range_with_len}
use Rattle.arrayvec.specs.ArrayVec.{ArrayVec}
use Rattle.rack.specs.Seen.{RackView, SameRack}
use Rattle.pool_state.specs.declared.contents.Work.TheVariants.{Reshape}
use Rattle.array_image.specs.Places.{log_sectors, log_slice}
use Rattle.array_image.specs.Spent.{wanting}
use Rattle.array_image.specs.States.{current_places}
use Rattle.log_laws.specs.View.{LogView}
use Rattle.array_model.specs.View.{IsArray, View, has_gone, member_on, present, rows_of}
use Rattle.array_core.specs.Pool.{Goes}
use Rattle.array_core.specs.Seats.{names}
use Rattle.array_model.specs.Members.{members_of}
use Rattle.array_core.specs.Superblocks.{raised}
use Rattle.sync_laws.specs.Steps.{Stepped, as_it_was, done, if_done}
use Rattle.shr_base.specs.declared.Id.{Id}
use Rattle.reshape_laws.specs.Ahead.{next_row}
use Rattle.reshape_laws.specs.Reshapes.{Reshapes, joined, lacks_joined, lacks_two}
use Rattle.raid_laws.specs.Moves.{IsHeeded, OnlyFailures, Mends}
use Rattle.raid_laws.specs.Raid.{Raid}
use Rattle.raid_laws.proofs.Noted.{current_few}
use Rattle.raid_laws.proofs.Whole.{heeded_left}
use Rattle.transition_laws.specs.Changes.{Change, changed, steps}
use Rattle.growth_laws.specs.Growing.{GetsLonger, GrowsBy, Lacks, MakesReshape, MakesTurn, MovesRows, is_ended, lacks, moves, views_of}
use Rattle.transition_laws.specs.Reshaping.{FitsReshape}
use Rattle.growth_laws.proofs.Becoming.{IsAtRest}
use Rattle.growth_laws.proofs.ReshapeMakes.{KeepsMembers, ReshapeCall}
use Rattle.growth_laws.proofs.Steps.{CallsTo, MayBecome, calls_to, grows_one, reshapes_one}
use Rattle.raid_rack.specs.declared.arrays.Arrays.{Arrays}
use Rattle.raid_rack.specs.declared.works.Stuck.{Stuck}
use Rattle.raid_rack.specs.RaidRack.{IsRunning, no_array, raid_by}
use Rattle.raid_rack.proofs.Ended.{all_wanting}
use Rattle.raid_rack.proofs.Mended.{not_of_false, not_of_true, on_named}
use Rattle.raid_rack.proofs.Raises.{raised_up}
use Rattle.raid_rack.proofs.Resynced.{done_alone, told_rows, wanting_less}
use Rattle.raid_rack.proofs.Sent.{low_named}
use Rattle.raid_rack.proofs.Steps.{length_set, same_element, set_other, set_own}

-- the arrays below `made` are the list
pub views_items : (a : Arrays) → length a.all.items ≡ a.state.made → views_of (raid_by a) ≡ a.all.items
views_items a count =
    let f : ℕ → View = λ n. get_or a.all.items n no_array in
    let long = length-map-range_with_len f 0 a.state.made in
    same_lists (views_of (raid_by a)) a.all.items (long ∙ sym count)
    (λ k d low.
    get_or-map-range_with_len f 0 a.state.made k k d (omega (arith, low, long)) (omega arith)
    ∙ same_element a.all.items a.all.items k no_array d refl (omega (arith, low, long, count)))

-- ---- members that are missing

-- an array that doesn't lack two after losses didn't before them
pub two_less : (u w : View) → OnlyFailures u w → lacks_two w ≡ false → lacks_two u ≡ false
two_less u w only few =
    let t = u.truth.size - 1 in
    let size = only.same.geometry.size in
    let after : wanting (u.truth.size - 1) (members_of w) ≤ 1 =
    subst (λ n. wanting (n - 1) (members_of w) ≤ 1) size (ltb-false 1 (wanting (w.truth.size - 1) (members_of w)) few) in
    let less =
    subst (λ n. wanting (u.truth.size - 1) (members_of u) ≤ wanting (u.truth.size - 1) (map (member_on w) (range_with_len 0 n))) (sym only.same.geometry.disks)
    (wanting_less u w (u.truth.size - 1) 0 u.truth.raid_disks only) in
    le-ltb 1 (wanting (u.truth.size - 1) (members_of u)) (omega (arith, less, after))

-- nor does an array of which a step can be done
pub not_lacking : (w : Raid) (n : ℕ) → lacks w n ≡ false → lacks_two (w.arrays n) ≡ false
not_lacking w n is = by (is_ended w) (lacks_two (w.arrays n)) is
  where
    by : (b c : Bool) → (b || c) ≡ false → c ≡ false
    by true c is = absurd (both_ways true is refl)
    by false c is = is

-- where it is so after the mending, the call wasn't refused: it is refused of an array that lacks two alone
pub done_by : (u : View) (w : Raid) (n : ℕ) (ok : Bool) → (ok ≡ false → lacks_two u ≡ true) → OnlyFailures u (w.arrays n) → lacks w n ≡ false → ok ≡ true
done_by u w n ok refused only is = elim (cases_Bool ok) [
  | inl is_done ↦ is_done
  | inr none ↦ absurd (both_ways (lacks_two u) (two_less u (w.arrays n) only (not_lacking w n is)) (refused none))
]

-- what isn't clean can't be done
pub not_clean : (b c : Bool) → c ≡ false → (b && c) ≡ false
not_clean true c is = is
not_clean false c is = refl

-- ---- the call

-- the arrays after a call of one of them
pub record HasCalled (a b : Arrays) (x y : RackView) (n : ℕ) (next : View) (is_done : Bool) : Type 0 where
  pub calls : CallsTo (raid_by a) (raid_by b) n next x y is_done
  pub running : IsRunning b y
  pub stays : SameRack x y

pub has_called : (step : View → View) (a : Arrays) (all : ArrayVec View) (log : LogView) (x y : RackView) (n number : ℕ) (old u : View) (is_done : Bool)
    → IsRunning a x → IsHeeded (raid_by a) → old ≡ get_or a.all.items n no_array → all.items ≡ set a.all.items n u → number ≡ a.log.number → number ≤ log.number
    → MayBecome (raid_by a) n (step ((raid_by a).arrays n)) x → SameRack x y → Stepped old (step old) u x y is_done
    → HasCalled a (record a { all = all; log = log }) x y n (step ((raid_by a).arrays n)) is_done
has_called step a all log x y n number old u is_done running heeded old_is all_is number_is later may stays view =
    let f : ℕ → View = λ k. get_or all.items k no_array in
    let v = raid_by a in
    let low = may.low in
    let own : f n ≡ u = ap (λ ys. get_or ys n no_array) all_is ∙ set_own a.all.items n u no_array (let count = running.count in omega (arith, low, count)) in
    let others : (k : ℕ) → (k ≡ n → ⊥) → f k ≡ v.arrays k = λ k other. ap (λ ys. get_or ys k no_array) all_is ∙ set_other a.all.items n k u no_array other in
    let at : Stepped (v.arrays n) (step (v.arrays n)) (f n) x y is_done =
    subst (λ (z : View). Stepped z (step z) (f n) x y is_done) old_is (subst (λ (z : View). Stepped old (step old) z x y is_done) (sym own) view) in
    let calls = calls_to v f n log.number (step (v.arrays n)) x y is_done
    (record { set = running.set; heeded = heeded; may = may; others = others; stays = stays; later = subst (λ k. k ≤ log.number) number_is later; view = at }) in
    record {
      calls = calls;
      stays = stays;
      running = record { count = ap length all_is ∙ length_set a.all.items n u ∙ running.count; set = calls.set };
    }

-- what was called in it is the array's
pub called_own : (a : Arrays) (all : ArrayVec View) (n : ℕ) (u : View) → length a.all.items ≡ a.state.made → n < a.state.made → all.items ≡ set a.all.items n u
    → get_or all.items n no_array ≡ u
called_own a all n u count low all_is = ap (λ ys. get_or ys n no_array) all_is ∙ set_own a.all.items n u no_array (omega (arith, low, count))

-- a place of the log's commits has its log slice
pub logs_there : (a : Arrays) (x : RackView) (on : List ℕ) (j : ℕ) → IsRunning a x → IsHeeded (raid_by a) → on ≡ current_places a.state → j < length on
    → (get_or on j 0 < 16) × (x.sectors (log_slice (get_or on j 0)) ≡ log_sectors)
logs_there a x on j running heeded on_is low =
    let current = on_named a.state on j (get_or on j 0) on_is (slice_get-get_or on j 0 low) in
    (current_few a.state (get_or on j 0) running.set.few current, running.set.logs (get_or on j 0) (heeded_left (raid_by a) (get_or on j 0) heeded current))

-- a step raises events by one at most
pub step_events : (old next u : View) (x y : RackView) (is_done : Bool) → next.truth.events ≡ raised old.truth.events → Stepped old next u x y is_done
    → u.truth.events ≤ old.truth.events + 1
step_events old next u x y false is (as_it_was notes) = let e = ap (λ t. t.events) notes.same.truth in omega (arith, e)
step_events old next u x y true is (done notes) = let e = ap (λ t. t.events) notes.same.truth in let up = raised_up old.truth.events in omega (arith, e, is, up)

-- the call makes no array
called_made : (a b : Arrays) (x y : RackView) (n : ℕ) (next : View) (is_done : Bool) → HasCalled a b x y n next is_done → b.state.made ≡ a.state.made
called_made a b x y n next is_done called = by is_done called.calls.book.marks.same.made
  where
    by : (e : Bool) → b.state.made ≡ (if_done e (raid_by a) (changed (steps n next) (raid_by a))).state.made → b.state.made ≡ a.state.made
    by true same = same
    by false same = same

-- where it is so after the mending, the call wasn't refused
called_ok : (a b c : Arrays) (x y z : RackView) (n : ℕ) (next u : View) (is_done ok : Bool) → n < a.state.made → HasCalled a b x y n next is_done → get_or b.all.items n no_array ≡ u
    → (ok ≡ false → lacks_two u ≡ true) → Mends (raid_by b) (raid_by c) y z → lacks (raid_by c) n ≡ false → ok ≡ true
called_ok a b c x y z n next u is_done ok low called own refused mends none =
    let there : n < b.state.made = subst (λ k. n < k) (sym (called_made a b x y n next is_done called)) low in
    done_by u (raid_by c) n ok refused (subst (λ (k : View). OnlyFailures k ((raid_by c).arrays n)) own (mends.moves.arrays n there)) none

-- THE CALL AND THE MENDING AFTER IT, where it is answered by what the array lacks then
pub grows_answered : (change : Raid → Change) (Lacking : Raid → Raid → Type 0) (a b c : Arrays) (x y z : RackView) (n : ℕ) (next u : View) (is_done ok answered : Bool)
    → change (raid_by a) ≡ steps n next → n < a.state.made → HasCalled a b x y n next is_done → get_or b.all.items n no_array ≡ u
    → (ok ≡ true → is_done ≡ true) → (ok ≡ false → lacks_two u ≡ true) → Mends (raid_by b) (raid_by c) y z → GetsLonger (raid_by a) (changed (steps n next) (raid_by a))
    → answered ≡ not (lacks (raid_by c) n) → (lacks (raid_by c) n ≡ true → Lacking (raid_by a) (raid_by c))
    → GrowsBy change Lacking (raid_by a) (raid_by c) x z answered
grows_answered change Lacking a b c x y z n next u is_done ok answered change_is low called own answer refused mends longer is lacking =
    grows_one change Lacking (raid_by a) (raid_by b) (raid_by c) n next x y z is_done answered change_is called.stays called.calls
    (λ done_is. answer (called_ok a b c x y z n next u is_done ok low called own refused mends (not_of_true (lacks (raid_by c) n) (sym is ∙ done_is))))
    mends longer (λ refuses. lacking (not_of_false (lacks (raid_by c) n) (sym is ∙ refuses)))

-- ---- a step of a reshape, and what contents hold in it

pub reshape_call : (step : View → View) (a : Arrays) (all : ArrayVec View) (log : LogView) (x y : RackView) (n number : ℕ) (old u : View) (on : List ℕ) (answered : Bool)
    → IsRunning a x → IsHeeded (raid_by a) → IsAtRest (raid_by a) n → MayBecome (raid_by a) n (step ((raid_by a).arrays n)) x
    → KeepsMembers ((raid_by a).arrays n) (step ((raid_by a).arrays n)) x → old ≡ get_or a.all.items n no_array → all.items ≡ set a.all.items n u
    → number ≡ a.log.number → number ≤ log.number → on ≡ current_places a.state → list_all (λ place. nat_lt place 16) u.went ≡ true → Goes x y
    → Reshapes old (step old) u number log.number on x y answered
    → ReshapeCall (raid_by a) (λ k. get_or all.items k no_array) (step ((raid_by a).arrays n)) log.number n x y on answered
reshape_call step a all log x y n number old u on answered running heeded rest may keeps old_is all_is number_is later on_is few goes reshapes =
    let f : ℕ → View = λ k. get_or all.items k no_array in
    let v = raid_by a in
    let low = rest.low in
    let own : f n ≡ u = called_own a all n u running.count low all_is in
    record {
      set = running.set;
      heeded = heeded;
      rest = rest;
      may = may;
      keeps = keeps;
      others = λ k other. ap (λ ys. get_or ys k no_array) all_is ∙ set_other a.all.items n k u no_array other;
      goes = goes;
      later = subst (λ k. k ≤ log.number) number_is later;
      on_is = on_is;
      few = λ p went. low_named u.went p few (subst (λ (z : View). has_gone z p ≡ true) own went);
      reshapes =
          subst (λ (z : View). Reshapes z (step z) (f n) v.number log.number on x y answered) old_is
          (subst (λ (z : View). Reshapes old (step old) z v.number log.number on x y answered) (sym own)
          (subst (λ k. Reshapes old (step old) u k log.number on x y answered) number_is reshapes));
    }

pub reshape_answered : (change : Raid → Change) (Lacking : Raid → Raid → Type 0) (a c : Arrays) (all : ArrayVec View) (log : LogView) (x y z : RackView) (n : ℕ) (next u : View) (on : List ℕ) (ok answered : Bool)
    (call : ReshapeCall (raid_by a) (λ k. get_or all.items k no_array) next log.number n x y on ok) → change (raid_by a) ≡ steps n next → get_or all.items n no_array ≡ u
    → (ok ≡ false → lacks_two u ≡ true) → Mends (raid_by (record a { all = all; log = log })) (raid_by c) y z → GetsLonger (raid_by a) (changed (steps n next) (raid_by a))
    → answered ≡ not (lacks (raid_by c) n) → (lacks (raid_by c) n ≡ true → Lacking (raid_by a) (raid_by c))
    → MakesTurn (steps n next) call.reshapes.steps.is_done (FitsReshape (raid_by a) n) (raid_by a) (raid_by c) x z
    → MakesReshape change Lacking n (raid_by a) (raid_by c) x z answered
reshape_answered change Lacking a c all log x y z n next u on ok answered call change_is own refused mends longer is lacking turn =
    let f : ℕ → View = λ k. get_or all.items k no_array in
    let is_done = call.reshapes.steps.is_done in
    let calls =
    calls_to (raid_by a) f n log.number next x y is_done
    (record { set = call.set; heeded = call.heeded; may = call.may; others = call.others; stays = call.goes.stays; later = call.later; view = call.reshapes.steps.view }) in
    reshapes_one change Lacking (raid_by a) (raid_by (record a { all = all; log = log })) (raid_by c) n next x y z is_done answered change_is call.goes.stays calls
    (λ done_is. call.reshapes.steps.answer (done_by u (raid_by c) n ok refused
    (subst (λ (k : View). OnlyFailures k ((raid_by c).arrays n)) own (mends.moves.arrays n call.may.low)) (not_of_true (lacks (raid_by c) n) (sym is ∙ done_is))))
    mends longer (λ refuses. lacking (not_of_false (lacks (raid_by c) n) (sym is ∙ refuses))) turn

-- THE SAME FOR ROWS, where it is answered how many they are
pub rows_answered : (a c : Arrays) (all : ArrayVec View) (log : LogView) (x y z : RackView) (n most : ℕ) (next : ℕ → View) (u : View) (on : List ℕ) {E : Type 0} (did : Result ℕ E) (result : Result ℕ Stuck) (rows : ℕ)
    → 0 < rows → rows ≤ most → rows ≤ rows_of ((raid_by a).arrays n) - next_row ((raid_by a).arrays n) → IfOk did (λ k. k ≡ rows)
    → (call : ReshapeCall (raid_by a) (λ k. get_or all.items k no_array) (next rows) log.number n x y on (is_ok did)) → moves n rows (raid_by a) ≡ steps n (next rows) → get_or all.items n no_array ≡ u
    → (is_ok did ≡ false → lacks_two u ≡ true) → Mends (raid_by (record a { all = all; log = log })) (raid_by c) y z → GetsLonger (raid_by a) (changed (steps n (next rows)) (raid_by a))
    → (stuck : Bool) → stuck ≡ lacks (raid_by c) n → IfOk result (λ k. (did ≡ Ok k) × (stuck ≡ false)) → IfErr result (λ e. (is_ok did ≡ false) ⊎ (stuck ≡ true))
    → MakesTurn (steps n (next rows)) call.reshapes.steps.is_done (FitsReshape (raid_by a) n) (raid_by a) (raid_by c) x z
    → MovesRows n most (raid_by a) (raid_by c) x z result
rows_answered a c all log x y z n most next u on did result rows some few left number call change_is own refused mends longer stuck stuck_is told refuses turn = record {
  rows = rows;
  some = some;
  few = few;
  left = left;
  steps =
      reshape_answered (moves n rows) (Lacks (Reshape n)) a c all log x y z n (next rows) u on (is_ok did) (is_ok result) call change_is own refused mends longer
      (by result told refuses) (λ lacking. lacking) turn;
  answer = told_rows did rows result number (done_alone did stuck result told);
}
  where
    by : (r : Result ℕ Stuck) → IfOk r (λ k. (did ≡ Ok k) × (stuck ≡ false)) → IfErr r (λ e. (is_ok did ≡ false) ⊎ (stuck ≡ true)) → is_ok r ≡ not (lacks (raid_by c) n)
    by (Ok k) told refuses = sym (ap not (sym stuck_is ∙ told.1))
    by (Err e) told (inr is) = sym (ap not (sym stuck_is ∙ is))
    by (Err e) told (inl none) = elim (cases_Bool (lacks (raid_by c) n)) [
      | inl lacking ↦ sym (ap not lacking)
      | inr has ↦
          absurd (both_ways (is_ok did) none
          (done_by u (raid_by c) n (is_ok did) refused (subst (λ (k : View). OnlyFailures k ((raid_by c).arrays n)) own (mends.moves.arrays n call.may.low)) has))
    ]

-- one row at most is one
pub one_moved : (n : ℕ) (v w : Raid) (x y : RackView) {E : Type 0} (result : Result ℕ E) → MovesRows n 1 v w x y result → MakesReshape (moves n 1) (Lacks (Reshape n)) n v w x y (is_ok result)
one_moved n v w x y result does =
    let some = does.some in
    let few = does.few in
    subst (λ (rows : ℕ). MakesReshape (moves n rows) (Lacks (Reshape n)) n v w x y (is_ok result)) (let one : does.rows ≡ 1 = omega (arith, some, few) in one) does.steps

-- ---- a drive that joins

-- what a call asks for by these places and this drive is what the book asks for
pub begun_view : (old u : View) (on places : List ℕ) (place : ℕ) (drive id : Id) (x y : RackView) (is_done : Bool) → on ≡ places → drive ≡ id
    → Stepped old (joined old on place drive) u x y is_done → Stepped old (joined old places place id) u x y is_done
begun_view old u on places place drive id x y is_done on_is drive_is view =
    subst (λ (ps : List ℕ). Stepped old (joined old ps place id) u x y is_done) on_is
    (subst (λ (d : Id). Stepped old (joined old on place d) u x y is_done) drive_is view)

pub begun_reshapes : (old u : View) (number after : ℕ) (on places : List ℕ) (place : ℕ) (drive id : Id) (x y : RackView) (ok : Bool) → on ≡ places → drive ≡ id
    → Reshapes old (joined old on place drive) u number after on x y ok → Reshapes old (joined old places place id) u number after on x y ok
begun_reshapes old u number after on places place drive id x y ok on_is drive_is reshapes =
    subst (λ (ps : List ℕ). Reshapes old (joined old ps place id) u number after on x y ok) on_is
    (subst (λ (d : Id). Reshapes old (joined old on place d) u number after on x y ok) drive_is reshapes)

-- an array that doesn't lack two members has one
pub some_member : (u : View) (on : List ℕ) (place : ℕ) → IsArray u → lacks_joined u on place ≡ false → 0 < present u.seats
some_member u on place is_array few =
    let most = ltb-false 1 ((if names on place then 0 else 1) + wanting (u.truth.size - 1) (members_of u)) few in
    elim (cases_lt 0 (present u.seats)) [
      | inl some ↦ some
      | inr none ↦
          let all = all_wanting u (u.truth.size - 1) 0 u.truth.raid_disks (let e : present u.seats ≡ 0 = omega (arith, none) in e) in
          let two = is_array.least in
          absurd (omega (arith, most, all, two))
    ]

-- where nobody was lacking with the place before the call, it is refused of an array that lacks two after it
pub refused_after : {E : Type 0} (before after : Bool) (P : E → Type 0) (r : Result (Unit {0}) E) → IfErr r (λ e. P e × ((before ≡ true) ⊎ (after ≡ true)))
    → before ≡ false → is_ok r ≡ false → after ≡ true
refused_after before after P (Ok x) refused none is = absurd (both_ways true is refl)
refused_after before after P (Err e) refused none is = elim refused.1 [
  | inl early ↦ absurd (both_ways before none early)
  | inr late ↦ late
]

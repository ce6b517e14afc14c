-- The code of works of maintenance: rows that are resynced, and the end of a plan.
use Rattle.std.proofs.Common.{◌≡◌, ℕ, zero, suc, ◌+◌, ◌*◌, ◌<◌, ◌≤◌, Bool, true, false, ◌==◌, ◌&&◌, ◌||◌, not, List, [], ◌∷◌, length, get_or, slice_get, Some, option_map, Result, Ok, Err, is_ok, IfOk, IfErr, ◌⊎◌, ◌-◌, refl, sym, ap, ap₂, subst, ◌∙◌, inl, inr, eq-eqb, eqb-true, lt-ltb, arith}
use Rattle.std.proofs.lemmas.Bool.{both_ways, and_from, and_parts, cases_lt}
use Rattle.std.proofs.lemmas.Option.{slice_get_past}
use Rattle.std.specs.Option.{option_map_or}
use Rattle.std.specs.List.{list_all, list_any, range_with_len}
use Rattle.arrayvec.specs.ArrayVec.{ArrayVec}
use Rattle.rack.specs.Seen.{RackView, SameRack}
use Rattle.rack.specs.Joins.{keeps_same, leaves_same, stays_same}
use Rattle.rack.specs.Targets.{Target, look}
use Rattle.pool_state.specs.declared.contents.Plan.TheVariants.{Nothing}
use Rattle.pool_state.specs.Valid.{is_valid}
use Rattle.pool_state.specs.declared.contents.State.{State}
use Rattle.array_image.specs.Places.{log_sectors, log_slice, slice_of, super_sector}
use Rattle.array_image.specs.Record.{are_apart, is_target}
use Rattle.array_image.specs.States.{current_places, is_current}
use Rattle.log_laws.specs.View.{LogView, next_number, names}
use Rattle.log_laws.specs.Commits.{CommitCall}
use Rattle.log_laws.specs.Phases.{IsHad}
use Rattle.array_model.specs.Stages.{AmongTargets}
use Rattle.array_image.specs.Spent.{wanting}
use Rattle.array_model.specs.View.{View, IsArray, present, rows_of}
use Rattle.array_model.specs.Members.{members_of}
use Rattle.array_core.specs.Seats.{gone as without}
use Rattle.sync_laws.specs.Rows.{lacks_row}
use Rattle.sync_laws.specs.Steps.{DoesRows, resynced}
use Rattle.raid_rack.specs.declared.arrays.Arrays.{Arrays}
use Rattle.raid_laws.specs.Losses.{AddsCopies, AreCopiesOn}
use Rattle.raid_laws.specs.Raid.{Raid, gone_in, is_empty, is_left, is_failed, is_used_up, held_in, spent_of, StopsInside}
use Rattle.raid_laws.specs.Laws.{live_parts}
use Rattle.raid_laws.specs.Moves.{AreCaused, ChangesData, IsHeeded, IsSet, KeepsArrays, Mends, RaisesBy}
use Rattle.transition_laws.specs.Changes.{changed, closed as plan_ends}
use Rattle.transition_laws.specs.Losses.{IsRunOf, MakesLosses}
use Rattle.growth_laws.specs.Growing.{AnyValues, MakesTurn}
use Rattle.growth_laws.proofs.Turning.{ClosesBook, closing_book, emptied_book, turn_then}
use Rattle.raid_rack.specs.RaidRack.{IsFit, IsRunning, raid_by, no_array}
use Rattle.pool_state.specs.declared.contents.Work.{Work}
use Rattle.pool_state.specs.declared.contents.Work.TheVariants.{Resync, Rebuild, TakeOver, Begin, Reshape, Finish, Make, Zero, Ready, Extend, Close}
use Rattle.raid_laws.specs.Works.{ClosesPlan, Does, Resyncs, StepsOne, closed, is_stuck, is_plan}
use Rattle.raid_rack.specs.declared.works.Stuck.{Stuck}
use Rattle.raid_laws.proofs.Added.{names_current}
use Rattle.raid_laws.proofs.Adding.{copies_apart, copies_from}
use Rattle.transition_laws.proofs.ClosedParts.{close_brings}
use Rattle.array_core.specs.TruthHeld.{HoldTruth}
use Rattle.array_core.proofs.TruthHeld.{hold_supers}
use Rattle.raid_rack.proofs.Truths.{hold_gone}
use Rattle.raid_laws.proofs.Losing.{only_gone}
use Rattle.raid_laws.specs.Truths.{KeepsTruths}
use Rattle.raid_laws.proofs.Closing.{IsClosing, after_closed, closed_raid, closing_cause, closing_left, closing_none, closing_set, seated_closed, valid_closed}
use Rattle.raid_laws.specs.Losing.{arrays_then, only_same}
use Rattle.raid_rack.proofs.Mended.{each_get, each_sectors, on_named}
use Rattle.raid_laws.proofs.Moving.{brings_then, caused_then}
use Rattle.raid_laws.proofs.Noted.{current_few}
use Rattle.raid_laws.proofs.Elements.{all_among, look_among}
use Rattle.raid_rack.proofs.Ended.{all_wanting}
use Rattle.raid_laws.proofs.Over.{not_true, or_parts}
use Rattle.raid_rack.proofs.Raises.{raised_up, raises_then}
use Rattle.raid_rack.proofs.Resynced.{HasStepped, grown, lacks_then, resynced_settled}
use Rattle.raid_rack.proofs.Serving.{whole_call}
use Rattle.raid_laws.proofs.Whole.{before_amid, heeded_left}

-- ---- a row that is resynced

-- what isn't stuck lacks nobody in the row
pub unstuck : (v : Raid) (n row : ℕ) → not (is_stuck v n row) ≡ true → (is_failed v n ≡ false) × (lacks_row (v.arrays n) row ≡ false)
unstuck v n row is = or_parts (is_failed v n) (lacks_row (v.arrays n) row) (not_true (is_stuck v n row) is)

-- the code's test is the definition's
pub stuck_by_code : (v : Raid) (n row : ℕ) (ended lacks : Bool) → IsArray (v.arrays n) → ended ≡ (is_empty v || is_used_up v) → lacks ≡ lacks_row (v.arrays n) row
    → (ended || lacks) ≡ is_stuck v n row
stuck_by_code v n row ended lacks is_array ended_is lacks_is =
    ap₂ (λ b c. b || c) ended_is lacks_is
    ∙ of (is_empty v) (is_used_up v) (present (v.arrays n).seats == 0) (lacks_row (v.arrays n) row)
    (λ none.
    let all = all_wanting (v.arrays n) (row * 128 + 127) 0 (v.arrays n).truth.raid_disks (eqb-true (present (v.arrays n).seats) 0 none) in
    let two = is_array.least in
    lt-ltb 0 (wanting (row * 128 + 127) (members_of (v.arrays n))) (omega (arith, all, two)))
  where
    of : (e u p s : Bool) → (p ≡ true → s ≡ true) → ((e || u) || s) ≡ ((e || (u || p)) || s)
    of true u p s all = refl
    of false true p s all = refl
    of false false true s all = all refl
    of false false false s all = refl

-- rows that aren't stuck are done, and they are stuck where the first was refused
pub resyncs_rows : (a b c : Arrays) (x y z : RackView) (m most : ℕ) {E : Type 0} (did : Result ℕ E) (result : Result ℕ Stuck) → m < a.state.made
    → (rows : ℕ) → HasStepped a b x y m (resynced ((raid_by a).arrays m) rows) (λ u. lacks_row u ((raid_by a).arrays m).resync) (is_ok did)
    → Mends (raid_by b) (raid_by c) y z
    → (stuck : Bool) → stuck ≡ is_stuck (raid_by c) m ((raid_by a).arrays m).resync
    → IfOk result (λ k. (did ≡ Ok k) × (stuck ≡ false)) → IfErr result (λ e. (is_ok did ≡ false) ⊎ (stuck ≡ true))
    → is_ok result ≡ not (is_stuck (raid_by c) m ((raid_by a).arrays m).resync)
resyncs_rows a b c x y z m most did (Ok k) low rows one mends stuck stuck_is done refused = sym (ap not (sym stuck_is ∙ done.1))
resyncs_rows a b c x y z m most did (Err e) low rows one mends stuck stuck_is done refused =
    let row = ((raid_by a).arrays m).resync in
    let made = subst (λ k. m < k) (sym one.brings.book.same.made) low in
    elim refused [
      | inr is ↦ sym (ap not (sym stuck_is ∙ is))
      | inl none ↦
          sym (ap not (or_second (is_failed (raid_by c) m) (lacks_row ((raid_by c).arrays m) row)
          (lacks_then ((raid_by b).arrays m) ((raid_by c).arrays m) row (mends.moves.arrays m made) (one.refused none))))
    ]
  where
    or_second : (b c : Bool) → c ≡ true → (b || c) ≡ true
    or_second true c is = refl
    or_second false c is = is

pub resyncs_one : (a b : Arrays) (x y : RackView) (m most : ℕ) (result : Result ℕ Stuck) → IsFit a x → IsFit b y → StopsInside y
    → m < a.state.made → ((raid_by a).arrays m).resync < rows_of ((raid_by a).arrays m)
    → DoesRows (λ rows. StepsOne (raid_by a) (raid_by b) x y m (resynced ((raid_by a).arrays m) rows)) (rows_of ((raid_by a).arrays m) - ((raid_by a).arrays m).resync) most result
    → is_ok result ≡ not (is_stuck (raid_by b) m ((raid_by a).arrays m).resync)
    → Resyncs (raid_by a) (raid_by b) x y m most result
resyncs_one a b x y m most result fit after inside low row rows answer =
    let v = raid_by a in
    let w = raid_by b in
    let young = grown a.state m (v.arrays m) x (fit.running.set.arrays m low) row in
    record {
      rows = rows;
      answer = answer;
      durable = λ ok told.
          let goes = (unstuck w m (v.arrays m).resync (sym answer ∙ ok)).0 in
          rows.steps.durable (rows.steps.answer ok) (resynced_settled (v.arrays m) rows.rows young) young (held_in v x m) (spent_of w m) told.joined goes
          (λ y alive. (live_parts w m y alive).1)
          (before_amid v w x y (held_in v x) (whole_call a b x y (λ n vals. vals) fit after rows.steps.brings inside) m told goes);
    }

-- ---- one work

-- where one was asked for, it is answered that one is done
pub one_work : (work : Work) (v w : Raid) (a b : RackView) (k : ℕ) → Does work 1 v w a b {E = Stuck} (Ok k) → Does work 1 v w a b {E = Stuck} (Ok 1)
one_work work v w a b k does = subst (λ (n : ℕ). Does work 1 v w a b {E = Stuck} (Ok n)) (number work does) does
  where
    of_rows : {does : ℕ → Bool → Type 0} {left : ℕ} → DoesRows does left 1 {E = Stuck} (Ok k) → k ≡ 1
    of_rows rows = let is = rows.answer in let some = rows.some in let few = rows.few in omega (arith, is, some, few)

    number : (work : Work) → Does work 1 v w a b {E = Stuck} (Ok k) → k ≡ 1
    number (Resync m) does = of_rows does.rows
    number (Rebuild m place) does = of_rows does.rows
    number (TakeOver m) does = absurd does
    number (Begin m place) does = absurd does
    number (Reshape m) does = absurd does
    number (Finish m) does = absurd does
    number (Make m height) does = absurd does
    number (Zero m) does = absurd does
    number (Ready m) does = absurd does
    number Extend does = absurd does
    number Close does = does.0

-- ---- the end of a plan

-- nobody is left: the plan ends in this run alone
emptied_brings : (v : Raid) (x : RackView) → IsSet v x → IsHeeded v → ((p : ℕ) → is_current v.state p ≡ false)
    → ChangesData v (record v { state = closed v.state }) x x (λ n vals. vals)
emptied_brings v x set heeded nobody =
    let w : Raid = record v { state = closed v.state } in
    let none : (p : ℕ) → is_left w p ≡ false = λ p. ap (λ (b : Bool). b && not (gone_in w p)) (nobody p) in
    let over : (n : ℕ) → is_failed w n ≡ false → ⊥ = λ n goes.
    both_ways (is_failed w n) goes (ap (λ (b : Bool). not b || (is_used_up w || (present (w.arrays n).seats == 0))) (all_none (is_left w) 0 16 none)) in
    record {
      stays = stays_same x set.fit;
      set = record {
        fit = set.fit;
        lasting = set.lasting;
        disks = set.disks;
        few = set.few;
        most = set.most;
        valid = λ p low. valid_closed v.state p (set.valid p low);
        logs = λ p left. absurd (both_ways (is_left w p) (none p) left);
        arrays = λ n low. seated_closed v.state n (v.arrays n) x (set.arrays n low);
        marked = set.marked;
      };
      book = after_closed v.state;
      leaves = λ traced. leaves_same x (λ c. Unit {0});
      number = omega arith;
      events = λ n low. omega arith;
      sectors = λ n. refl;
      unwritten = λ d t live gone. keeps_same (x.held d t);
      still = λ n low goes. absurd (over n goes);
      spent = λ n y low alive. alive;
      parts = λ n vals spent joined low goes covers. absurd (over n goes);
      rows = λ n vals spent unwritten joined low goes covers amid rows. absurd (over n goes);
      lacking = λ n vals spent joined low goes covers amid leaves. absurd (over n goes);
    }
  where
    all_none : (f : ℕ → Bool) (a k : ℕ) → ((p : ℕ) → f p ≡ false) → list_any f (range_with_len a k) ≡ false
    all_none f a zero none = refl
    all_none f a (suc k) none = ap₂ (λ b c. b || c) (none a) (all_none f (a + 1) k none)

-- what a commit without the plan makes of the arrays, or what is changed in this run alone
pub record HasClosed (a b : Arrays) (x y : RackView) : Type 0 where
  pub stays : SameRack x y
  pub made : b.state.made ≡ a.state.made
  pub brings : is_plan a.state.plan ≡ true → ChangesData (raid_by a) (raid_by b) x y (λ n vals. vals)
  pub caused : AreCaused (raid_by a) (raid_by b) x y
  pub arrays : KeepsArrays (raid_by a) (raid_by b)
  pub plan : b.state.plan ≡ Nothing
  pub running : IsRunning b y
  pub raises : RaisesBy 1 (raid_by a) (raid_by b)
  pub truths : KeepsTruths (raid_by a) (raid_by b) x y
  pub book : ClosesBook (raid_by a) (raid_by b) x y

pub closes_empty : (a : Arrays) (t : State) (log : LogView) (on : List ℕ) (x : RackView) → IsRunning a x → IsHeeded (raid_by a)
    → t ≡ closed a.state → on ≡ current_places t → length on ≡ 0 → log.number ≡ a.log.number
    → HasClosed a (record a { state = t; log = log }) x x
closes_empty a t log on x running heeded t_is on_is empty number =
    let v = raid_by a in
    let nobody : (p : ℕ) → is_current v.state p ≡ false =
    λ p. sym (names_current (closed a.state) p) ∙ ap (λ ps. names ps p) (sym (ap current_places t_is) ∙ sym on_is ∙ nothing on empty) in
    let brings = emptied_brings v x running.set heeded nobody in
    let back = sym t_is in
    let number_back = sym number in
    let whole : record v { state = closed v.state } ≡ raid_by (record a { state = t; log = log }) =
    λ i. record { state = back i; arrays = v.arrays; number = number_back i } in
    let up = raised_up a.state.epoch in
    let epoch = ap (λ (s : State). s.epoch) t_is in
    record {
      stays = brings.stays;
      made = ap (λ (s : State). s.made) t_is;
      brings = λ due. subst (λ (w : Raid). ChangesData v w x x (λ n vals. vals)) whole brings;
      caused = subst (λ (w : Raid). AreCaused v w x x) whole (record {
        left = λ p is. absurd (both_ways (is_current v.state p) (nobody p) (and_parts (is_current v.state p) (not (gone_in v p)) is).0);
        cause = λ p was now. absurd (both_ways (is_current v.state p) (nobody p) (and_parts (is_current v.state p) (not (gone_in v p)) was).0);
      });
      arrays = λ n low. only_same (v.arrays n) (v.arrays n) refl;
      truths = λ n low held. held;
      book = emptied_book v (raid_by (record a { state = t; log = log })) x running.set nobody (sym whole);
      plan = ap (λ (s : State). s.plan) t_is;
      running = record {
        count = running.count ∙ sym (ap (λ (s : State). s.made) t_is);
        set = subst (λ (w : Raid). IsSet w x) whole brings.set;
      };
      raises = record { number = omega (arith, number); epoch = omega (arith, up, epoch); events = λ n low. omega arith };
    }
  where
    nothing : (xs : List ℕ) → length xs ≡ 0 → xs ≡ []
    nothing [] is = refl
    nothing (x ∷ xs) is = absurd (omega (arith, is))

-- the commit, and who went in it noted
pub closing_of : (a : Arrays) (all : ArrayVec View) (t : State) (l : LogView) (on gone : List ℕ) (x y : RackView) → IsRunning a x → IsHeeded (raid_by a)
    → t ≡ closed a.state → on ≡ current_places t → AddsCopies t on [] l.added → l.number ≡ a.log.number → CommitCall l on gone x y
    → ((n : ℕ) → slice_get all.items n ≡ option_map (without gone) (slice_get a.all.items n))
    → IsClosing (raid_by a) on gone l (λ n. get_or all.items n no_array) x y
closing_of a all t l on gone x y running heeded t_is on_is copies number call each = record {
  set = running.set;
  heeded = heeded;
  copies = subst (λ (s : State). AddsCopies s on [] l.added) t_is copies;
  number = number;
  on_is = on_is ∙ ap current_places t_is;
  call = call;
  arrays = λ n low. each_get (without gone) a.all.items all.items n each (let same = running.count in omega (arith, low, same));
  sectors = λ n. each_sectors (without gone) a.all.items all.items n (λ u. refl) each;
}

-- superblocks aren't among its targets
close_truths : (v : Raid) (on gone : List ℕ) (l : LogView) (f : ℕ → View) (b c : RackView) → IsClosing v on gone l f b c
    → KeepsTruths v (closed_raid v (next_number l.number) f) b c
close_truths v on gone l f b c commit n low held =
    let u = v.arrays n in
    let is_array = (commit.set.arrays n low).is_array in
    subst (λ (w : View). HoldTruth w c) (sym (commit.arrays n low))
    (hold_gone u gone c is_array
    (hold_supers u b c commit.set.lasting is_array.few commit.call.stays
    (λ d own live.
    commit.call.apart d super_sector live (λ part. own part.0)
    (closing_none v on gone l f b c commit d super_sector (λ p named disk first. absurd (omega (arith, first)))))
    held))

pub has_closed : (a : Arrays) (all : ArrayVec View) (t : State) (log l : LogView) (on gone : List ℕ) (x y : RackView) → IsRunning a x
    → IsClosing (raid_by a) on gone l (λ n. get_or all.items n no_array) x y
    → t ≡ closed a.state → length all.items ≡ length a.all.items → log.number ≡ next_number l.number
    → HasClosed a (record a { state = t; all = all; log = log }) x y
has_closed a all t log l on gone x y running commit t_is count number =
    let v = raid_by a in
    let f : ℕ → View = λ n. get_or all.items n no_array in
    let back = sym t_is in
    let number_back = sym number in
    let whole : closed_raid v (next_number l.number) f ≡ raid_by (record a { state = t; all = all; log = log }) =
    λ i. record { state = back i; arrays = f; number = number_back i } in
    let up = raised_up a.state.epoch in
    let epoch = ap (λ (s : State). s.epoch) t_is in
    let next = raised_up l.number in
    let same = commit.number in
    record {
      stays = commit.call.stays;
      made = ap (λ (s : State). s.made) t_is;
      brings = λ due.
          subst (λ (w : Raid). ChangesData v w x y (λ n vals. vals)) whole
          (close_brings v on gone l f x y commit (λ none. both_ways (is_plan v.state.plan) (ap is_plan none) due));
      caused = subst (λ (w : Raid). AreCaused v w x y) whole (record { left = closing_left v on gone l f x y commit; cause = closing_cause v on gone l f x y commit });
      arrays = λ n low. only_gone (v.arrays n) (f n) gone (commit.set.arrays n low).is_array (commit.arrays n low);
      truths = subst (λ (w : Raid). KeepsTruths v w x y) whole (close_truths v on gone l f x y commit);
      book = subst (λ (w : Raid). ClosesBook v w x y) whole (closing_book v on gone l f x y commit);
      plan = ap (λ (s : State). s.plan) t_is;
      running = record {
        count = count ∙ running.count ∙ sym (ap (λ (s : State). s.made) t_is);
        set = subst (λ (w : Raid). IsSet w y) whole (closing_set v on gone l f x y commit);
      };
      raises = record {
        number = omega (arith, number, next, same);
        epoch = omega (arith, up, epoch);
        events = λ n low. let e = ap (λ (u : View). u.truth.events) (commit.arrays n low) in omega (arith, e);
      };
    }

pub closes_one : (a b c : Arrays) (x y z : RackView) → HasClosed a b x y → Mends (raid_by b) (raid_by c) y z → is_plan a.state.plan ≡ true
    → ClosesPlan (raid_by a) (raid_by c) x z
closes_one a b c x y z one mends due = record {
  brings = brings_then (raid_by a) (raid_by b) (raid_by c) x y z (λ n vals. vals) (one.brings due) mends.moves;
  caused = caused_then (raid_by a) (raid_by b) (raid_by c) x y z one.stays mends.moves.stays one.caused
      (record { left = mends.moves.left; cause = mends.moves.cause });
  heeded = mends.heeded;
  arrays = arrays_then (raid_by a) (raid_by b) (raid_by c) one.made one.arrays mends.moves.arrays;
  plan = mends.moves.plan ∙ one.plan;
}

-- and this is all that it makes of the book
pub closes_turn : (a b c : Arrays) (x y z : RackView) → HasClosed a b x y → ((d : Raid) → IsRunOf d (raid_by b) → MakesLosses d (raid_by b) (raid_by c) y z) → is_plan a.state.plan ≡ true
    → MakesTurn plan_ends true AnyValues (raid_by a) (raid_by c) x z
closes_turn a b c x y z one losses due =
    turn_then plan_ends AnyValues (raid_by a) (raid_by b) (raid_by c) x y z (λ vals fits. one.book.makes due vals) (losses (changed plan_ends (raid_by a)) one.book.run)

pub closes_alone : (a b : Arrays) (x y : RackView) → IsHeeded (raid_by b) → HasClosed a b x y → is_plan a.state.plan ≡ true → ClosesPlan (raid_by a) (raid_by b) x y
closes_alone a b x y heeded one due = record { brings = one.brings due; caused = one.caused; heeded = heeded; arrays = one.arrays; plan = one.plan }

pub closes_raise : (a b c : Arrays) (x y : RackView) → HasClosed a b x y → RaisesBy 17 (raid_by b) (raid_by c) → RaisesBy 18 (raid_by a) (raid_by c)
closes_raise a b c x y one two = raises_then 1 17 (raid_by a) (raid_by b) (raid_by c) one.made one.raises two

-- the places that it is written on are valid ones of the state, and their log slices are there
pub close_places : (a : Arrays) (t : State) (on : List ℕ) (j p : ℕ) (x : RackView) → IsRunning a x → IsHeeded (raid_by a) → t ≡ closed a.state
    → on ≡ current_places t → slice_get on j ≡ Some p
    → (is_valid t p ≡ true) × (p < 16) × (x.sectors (log_slice p) ≡ log_sectors)
close_places a t on j p x running heeded t_is on_is at =
    let current : is_current a.state p ≡ true = ap (λ (s : State). is_current s p) (sym t_is) ∙ on_named t on j p on_is at in (
      ap (λ (s : State). is_valid s p) t_is ∙ valid_closed a.state p (running.set.valid p (low p current)),
      current_few a.state p running.set.few current,
      running.set.logs p (heeded_left (raid_by a) p heeded current),
    )
  where
    low : (q : ℕ) → is_current a.state q ≡ true → q < length a.state.drives.items
    low q current =
        elim (cases_lt q (length a.state.drives.items)) [
          | inl below ↦ below
          | inr past ↦
              absurd (both_ways (is_current a.state q)
              (ap (λ o. option_map_or (λ drive. not drive.missing) o false) (slice_get_past a.state.drives.items q past)) current)
        ]

-- ---- what its commit asks

-- the copies of a state that are to be committed, on all its current places
pub record AreCopied (t : State) (on : List ℕ) (l : LogView) (x : RackView) : Type 0 where
  pub few : length t.drives.items ≤ 16
  pub disks : x.disks ≡ 272
  pub logs : (p : ℕ) → is_current t p ≡ true → x.sectors (log_slice p) ≡ log_sectors
  pub on_is : on ≡ current_places t
  pub copies : AddsCopies t on [] l.added

pub closed_copied : (a : Arrays) (t : State) (on : List ℕ) (l : LogView) (x : RackView) → IsRunning a x → IsHeeded (raid_by a) → t ≡ closed a.state
    → on ≡ current_places t → AddsCopies t on [] l.added → AreCopied t on l x
closed_copied a t on l x running heeded t_is on_is copies = record {
  few = subst (λ (s : State). length s.drives.items ≤ 16) (sym t_is) running.set.few;
  disks = running.set.disks;
  logs = λ p current. running.set.logs p (heeded_left (raid_by a) p heeded (ap (λ (s : State). is_current s p) (sym t_is) ∙ current));
  on_is = on_is;
  copies = copies;
}

module _ (t : State) (on : List ℕ) (l : LogView) (x : RackView) (copied : AreCopied t on l x) where
  are_copies : AreCopiesOn t on l.added
  are_copies = subst (AreCopiesOn t on) (sym copied.copies.appended) copied.copies.copies

  -- a copy is on a current place, which has its log slice
  copy_place : (y : Target) → AmongTargets y l.added → (p : ℕ) × (p < 16) × (y.disk ≡ log_slice p) × (y.sector ≡ 0) × (x.sectors (log_slice p) ≡ log_sectors)
  copy_place y among =
      let copy = copies_from t on l.added y are_copies among in
      let p = copy.place in
      let current : is_current t p ≡ true = sym (names_current t p) ∙ ap (λ ps. names ps p) (sym copied.on_is) ∙ copy.named in
      (p, current_few t p copied.few current, copy.copy.disk, copy.copy.sector, copied.logs p current)

  pub copies_valid : list_all is_target l.added ≡ true
  copies_valid =
      all_among is_target l.added
      (λ y among.
      let at = copy_place y among in
      let few = at.1 in
      let disk = at.2 in
      and_from _ _ (lt-ltb y.disk 272 (omega (arith, disk, few))) (or_second (not (slice_of y.disk == 0)) (y.sector == 0) (eq-eqb y.sector 0 at.3)))
    where
      or_second : (b c : Bool) → c ≡ true → (b || c) ≡ true
      or_second true c is = refl
      or_second false c is = is

  pub copies_distinct : are_apart l.added ≡ true
  unfolding current_places
  copies_distinct =
      copies_apart t (is_current t) 0 (length t.drives.items) l.added (subst (λ ps. AreCopiesOn t ps l.added) copied.on_is are_copies)

  pub copies_had : (d s : ℕ) (w : List ℕ) → look l.added d s ≡ Some w → IsHad x d s
  copies_had d s w is =
      let found = look_among l.added d s w is in
      let at = copy_place found.0 found.1 in
      let few = at.1 in
      let disk = at.2 in
      let here = found.2 in
      let disks = copied.disks in
      let sectors = at.4 in
      let first = at.3 in
      let sector = found.3 in (
        omega (arith, disk, here, few, disks),
        subst (λ e. s < x.sectors e) (sym disk ∙ here) (omega (arith, sectors, first, sector)),
      )

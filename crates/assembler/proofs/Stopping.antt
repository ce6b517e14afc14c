-- What stops leave while a pool's arrays are made: gates are closed, tables are made to agree, and places without a disk are marked.
use Rattle.std.proofs.Common.{◌≡◌, ℕ, ◌<◌, ◌&&◌, not, is_none, is_some, List, [], slice_get, Option, Some, None, sym, ap, ap₂, subst, ◌∙◌, arith}
use Rattle.rack.specs.Joins.{keeps_same, leaves_same, leaves_then, leaves_weaker, stays_same}
use Rattle.rack.specs.Moments.{Leaves}
use Rattle.rack.specs.Seen.{Image, IsPick, RackView, SameRack}
use Rattle.rack.specs.Sequences.{OnlyReads, WritesOnly}
use Rattle.rack.proofs.Writing.{only_none}
use Rattle.slice_rack.specs.Runs.{IsSliced, inside_still}
use Rattle.slice_rack.specs.Slices.{IsOrderly, Slices, seat_of}
use Rattle.slice_rack.specs.Sliced.{IsInside, slices_of}
use Rattle.pool_state.specs.declared.contents.State.{State}
use Rattle.array_image.specs.States.{current_places, is_current}
use Rattle.array_model.specs.View.{IsArray, View}
use Rattle.array_core.specs.Seats.{gone, names, restarted}
use Rattle.log_laws.specs.Opening.{ReplayCall}
use Rattle.log_laws.specs.View.{LogView}
use Rattle.pool_image.specs.Disks.{disks_of}
use Rattle.pool_image.specs.Drives.{Found}
use Rattle.pool_image.proofs.Founds.{truths_same}
use Rattle.pool_scan.specs.Scanning.{now_in}
use Rattle.pool_scan.proofs.Valid.{valid_places}
use Rattle.pool_check.specs.declared.Checked.{Checked}
use Rattle.pool_check.specs.Checking.{IsChecked}
use Rattle.pool_check.specs.Refusing.{is_well}
use Rattle.pool_rest.specs.Resting.{IsIdle, IsOfDrive}
use Rattle.raid_laws.specs.Book.{OnlyMarksSince, after_same}
use Rattle.raid_laws.specs.Moves.{IsSet, Mends}
use Rattle.raid_laws.specs.Raid.{Raid}
use Rattle.raid_laws.proofs.Noted.{current_few}
use Rattle.pool_model.specs.InService.{IsOutset}
use Rattle.pool_model.specs.Left.{NoStraySuperblock, AreElsewhere, IsPickOutsideSlices}
use Rattle.pool_model.specs.Openings.{HaveGoodTables, RecoversInOpening}
use Rattle.pool_model.specs.Pools.{AreSlicesOf}
use Rattle.pool_model.specs.Stopped.{LieApart}
use Rattle.pool_model.proofs.Amid.{IsReady}
use Rattle.pool_model.proofs.Found.{IsFound, found_is}
use Rattle.pool_model.proofs.Landing.{tables_apart}
use Rattle.pool_model.proofs.OnePool.{one_after, one_rested}
use Rattle.pool_model.proofs.Openings.{opened_same}
use Rattle.pool_model.proofs.Outset.{outset_of}
use Rattle.pool_model.proofs.Rereading.{same_apart}
use Rattle.pool_model.proofs.SameAlone.{good_same, own_alone, same_back, same_self}
use Rattle.pool_model.proofs.Settled.{IsIdlePool, idle_pool}
use Rattle.assembler_laws.specs.Holding.{HoldPool, HoldsArrays}
use Rattle.assembler_laws.specs.Members.{AreMembers}
use Rattle.assembler.specs.Rested.{HoldRested}
use Rattle.assembler.specs.Sound.{HoldSound}
use Rattle.assembler.specs.Volume.{AllLive}
use Rattle.assembler_laws.specs.Writing.{IsSlicedOrTable}
use Rattle.assembler_laws.proofs.Alone.{alone_off, unsliced}
use Rattle.assembler_laws.proofs.Closed.{StandOver, at_rest, geometry_now, gone_unseated, idle, on, own, stand_closed, stand_still}
use Rattle.assembler.proofs.Elsewhere.{elsewhere}
use Rattle.assembler.proofs.Gates.{IsClosedSo, closing_so}
use Rattle.assembler_laws.proofs.Lies.{slices_lie, slices_same}
use Rattle.assembler.proofs.Making.{by_list}
use Rattle.assembler.proofs.Marked.{marked_leaves}
use Rattle.assembler_laws.proofs.Marks.{marks_of, some_is}
use Rattle.assembler.proofs.Mended.{IsMended, mended_reads, mended_stays, rack_keeps, rack_writes}

disks_still : (a b : RackView) → SameRack a b → disks_of a ≡ disks_of b
disks_still a b stays = ap₂ (λ count sectors. record { count = count; sectors = sectors }) (sym stays.disks) (λ i d. sym (stays.sectors d) i)

-- nothing is called
still_reads : (y : RackView) → y.fit → OnlyReads y y
still_reads y fit = record {
  stays = stays_same y fit;
  keeps = record { held = λ d u live. keeps_same (y.held d u); stops = λ traced. leaves_same y (IsPick y y y.held) };
}

-- The disks y hold the pool e at rest, as they were checked, which is f but for gates. They are b once gates are closed, d once tables agree, and z once the arrays v are w,
-- on which the places without a disk are marked.
module _ (f e : Found) (s : State) (t : Slices) (y b d z : RackView) (went places : List ℕ) (checked : Checked) (absent : List ℕ) (orderly : IsOrderly t) (l : LogView)
    (holds : HoldPool s t y l f) (found : IsChecked (is_well None) f checked) (members : AreMembers s t y checked absent) (rest : HoldRested y f e)
    (rules : (n : ℕ) (u : View) → slice_get checked.arrays.items n ≡ Some u → IsArray u)
    (v w : Raid) (state : v.state ≡ s) (number : v.number ≡ l.number)
    (are : (n : ℕ) (u : View) → slice_get checked.arrays.items n ≡ Some u → v.arrays n ≡ gone places (restarted u)) (nobody : places ≡ absent)
    (mended : IsMended s t y b d checked.agreed went places) (closed : absent ≡ [] → ReplayCall l (current_places s) [] (slices_of t y) (slices_of t b))
    (still : (absent ≡ [] → ⊥) → b ≡ y)
    (settles : (g : Found) → HoldSound b g → IsIdle b → HaveGoodTables g → LieApart g → ((p : ℕ) → seat_of t p ≡ g.seats p) → NoStraySuperblock g (now_in b) → b.traced
    → Leaves b d (RecoversInOpening g 0))
    (marking : WritesOnly d z (IsSliced t)) (set : IsSet v (slices_of t b)) (marks : Mends v w (slices_of t d) (slices_of t z))
    (made : HoldsArrays f w (slices_of t y) (slices_of t z)) (alive : AllLive w)
    (marked : (p : ℕ) → is_current w.state p ≡ (is_current s p && not (names absent p))) (traced : y.traced) where
  -- ---- the pool

  at : IsFound e × (e.disks ≡ disks_of y)
  at = found_is (disks_of y) (now_in y) e rest.sound.found_is

  outset : IsOutset e
  outset = outset_of e at.0 rest.sound.sound

  idle_y : IsIdlePool (disks_of y) (now_in y) e
  idle_y = idle_pool (disks_of y) (now_in y) e rest.sound.found_is rest.idle rest.sound.logs

  same_state : v.state ≡ e.state
  same_state = state ∙ sym holds.pool.state ∙ sym rest.same.state

  seats : (p : ℕ) → seat_of t p ≡ e.seats p
  seats p = sym (holds.pool.seats p) ∙ sym (rest.same.seats p)

  small : (n : ℕ) → n < e.state.made → n < f.state.joined
  small n low = (let all = rest.joined in let is = ap (λ (k : State). k.joined) rest.same.state in omega (arith, low, all, is))

  -- ---- gates

  stand : StandOver f v (slices_of t b)
  stand =
      by_list absent
      (λ none. stand_closed f s t y checked absent places orderly l holds found members rules v state number are nobody none (slices_of t b) (closed none))
      (λ some.
      subst (λ (k : RackView). StandOver f v (slices_of t k)) (sym (still some))
      (stand_still f s t y checked absent places orderly l holds found members rules v state number are nobody some))

  gates : IsClosedSo e y b
  gates =
      by_list absent
      (λ none.
      closing_so f e t y checked absent orderly l (own f s t y checked absent places orderly l holds found members rules v state number are nobody) rest holds.pool.seats holds.log.none
      (idle f s t y checked absent places orderly l holds found members rules v state number are nobody).on (at_rest f s t y checked absent places orderly l holds found members rules v state number are nobody).opened
      (at_rest f s t y checked absent places orderly l holds found members rules v state number are nobody).none b mended.closing
      (subst (λ (k : State). ReplayCall l (current_places k) [] (slices_of t y) (slices_of t b)) (sym holds.pool.state) (closed none)) stand.idle)
      (λ some.
      subst (IsClosedSo e y) (sym (still some))
      (record { now = e; same = same_self e; sound = rest.sound; idle = rest.idle; leaves = λ traced. leaves_same y (RecoversInOpening e 0) }))

  abbrev g : Found
  g = gates.now

  idle_b : IsIdlePool (disks_of b) (now_in b) g
  idle_b = idle_pool (disks_of b) (now_in b) g gates.sound.found_is gates.idle gates.sound.logs

  -- ---- tables

  alone_y : NoStraySuperblock e e.contents
  alone_y = subst (NoStraySuperblock e) (ap (λ (h : Found). h.contents) idle_y.same) rest.alone

  alone_b : NoStraySuperblock g (now_in b)
  alone_b = subst (NoStraySuperblock g) (sym (ap (λ (h : Found). h.contents) idle_b.same)) (own_alone e g gates.same outset.made.1 outset.truths alone_y)

  settling : Leaves b d (RecoversInOpening e 0)
  settling =
      leaves_weaker (RecoversInOpening g 0) (RecoversInOpening e 0)
      (λ i. opened_same e g 0 i gates.same (one_rested (disks_of y) (now_in y) e rest.sound.found_is rest.sound.logs (disks_of b) (now_in b) g idle_b gates.same))
      (settles g gates.sound gates.idle (good_same e g gates.same rest.good) (same_apart e g gates.same (tables_apart e rest.tables)) (λ p. seats p ∙ sym (gates.same.seats p)) alone_b (mended.closing.stays.traced traced))

  -- ---- marks

  stays : SameRack y d
  stays = mended_stays s t y b d went places checked absent orderly members mended

  inside : IsInside t d
  inside = inside_still stays members.fit.1

  none_now : WritesOnly d d (IsSliced t)
  none_now = only_none d (IsSliced t) stays.fit

  few : (p disk : ℕ) → seat_of t p ≡ Some disk → p < 16
  few p disk seat = current_few s p (valid_places s 0 members.valid).1 (members.current p disk seat)

  writes : WritesOnly y d (IsSlicedOrTable y d t)
  writes = rack_writes s t y b d went places checked absent orderly members mended d none_now

  -- outside the slices the disks say what they said
  as_before : (i : Image) → IsPickOutsideSlices t d i → AreElsewhere e i
  as_before =
      elsewhere s s t y y y d d checked absent [] orderly members
      (only_none y (IsOfDrive y [] s) members.fit.0) (still_reads y members.fit.0)
      writes none_now
      rest.sound.steady rest.sound.steady e e (same_self e) at.1 (λ k. ap (λ (h : Found). h.identities k) (sym idle_y.same)) seats
      (λ p disk seat. rack_keeps s t y b d went places checked absent orderly members mended d none_now p disk (few p disk seat) seat)

  slices : AreSlicesOf e t
  slices =
      slices_same e f (same_back f e rest.same) t
      (slices_lie f t y checked absent orderly (own f s t y checked absent places orderly l holds found members rules v state number are nobody) holds.steady
      (on f s t y checked absent places orderly l holds found members rules v state number are nobody) found.opened)

  -- and no superblock of an array stands there on a drive that is no member of it
  lone : (i : Image) → IsPickOutsideSlices t d i → NoStraySuperblock e i
  lone =
      alone_off e t y d rest.alone rest.sound.steady at.1 (λ p disk seat. members.fit.1.seats p disk (seats p ∙ seat))
      (unsliced e t orderly slices outset.made.1 outset.truths) y d writes

  ready : IsReady e t v d
  ready = record {
    disks = at.1 ∙ disks_still y d stays;
    outset = outset;
    slices = slices;
    after = subst (OnlyMarksSince e.state) (sym same_state) (after_same e.state);
    joined = rest.joined;
    geometry = λ n u low truth.
        geometry_now f s t y checked absent places orderly l holds found members rules v state number are nobody n u (small n low) (sym (truths_same f e rest.same n) ∙ truth);
    elsewhere = as_before;
  }

  marks_are : (p : ℕ) → is_current w.state p ≡ (is_current e.state p && is_some (e.seats p))
  marks_are p =
      marked p
      ∙ marks_of (is_current s p) (is_none (seat_of t p)) (names absent p) (members.absent_is p)
      ∙ ap (λ b. is_current s p && b) (some_is (seat_of t p))
      ∙ ap₂ (λ (r : State) (o : Option ℕ). is_current r p && is_some o) (sym holds.pool.state ∙ sym rest.same.state) (seats p)

  marking_now : Leaves d z (RecoversInOpening e 0)
  marking_now =
      marked_leaves e f rest.same t v w (slices_of t y) b d z stand set (mended_reads s t y b d went places checked absent orderly members mended) marks made alive
      (gone_unseated f s t y checked absent places orderly l holds found members rules v state number are nobody)
      at.0 (one_after (disks_of y) (now_in y) e rest.sound.found_is rest.sound.logs) ready same_state rest.tables lone orderly inside (stays.lasting members.lasting) marking marks_are (stays.traced traced)

  pub making_leaves : Leaves y z (RecoversInOpening e 0)
  making_leaves = leaves_then (RecoversInOpening e 0) (leaves_then (RecoversInOpening e 0) (gates.leaves traced) settling) marking_now

-- The commit that ends the plan as a part of a call: what it does to each array that is tracked then.
use Rattle.std.proofs.Common.{◌≡◌, ℕ, ◌<◌, ◌==◌, Bool, true, false, List, [], ◌∷◌, Some, refl, sym, ap, subst, ◌∙◌, eq-eqb, eqb-true, arith, inr}
use Rattle.std.proofs.lemmas.Bool.{both_ways}
use Rattle.rack.specs.Values.{Values}
use Rattle.rack.specs.Seen.{Image, RackView}
use Rattle.rack.specs.Moments.{Leaves}
use Rattle.rack.specs.Joins.{leaves_weaker}
use Rattle.md_super.specs.declared.superblock.Super.{Super}
use Rattle.pool_state.specs.declared.contents.Plan.TheVariants.{Nothing}
use Rattle.array_image.specs.Arrays.{Shape, replayed}
use Rattle.array_image.specs.Left.{IsInside, IsLeft, NothingPending, Picks}
use Rattle.array_image.specs.States.{is_current}
use Rattle.array_image.specs.Supers.{truth_in}
use Rattle.log_laws.specs.Kept.{LogInvariant}
use Rattle.log_laws.specs.View.{LogView, names, next_number}
use Rattle.log_laws.proofs.HeldCopies.{kept_holds}
use Rattle.array_model.specs.ArrayCalls.{IncludesSpent}
use Rattle.array_model.specs.View.{View, may_vary, shape_of}
use Rattle.raid_laws.specs.Frames.{HasFrame, frame_of}
use Rattle.raid_laws.specs.Laws.{stood_left}
use Rattle.raid_laws.specs.Marking.{Part, TiedBetween}
use Rattle.raid_laws.specs.Moves.{ChangesData, IsTrackedInCall}
use Rattle.raid_laws.specs.Raid.{InvariantInCall, Raid, gone_in, is_failed}
use Rattle.raid_laws.specs.Reach.{reach_same}
use Rattle.raid_laws.specs.Rows.{KeepsLacking, KeepsRows, LackingFrom, LeavesFrom, LeavesLacking, LeavesRows}
use Rattle.raid_laws.specs.Works.{closed}
use Rattle.raid_laws.proofs.Changed.{PartAmid, part_if}
use Rattle.raid_laws.proofs.Closing.{IsClosing, after_closed, closed_raid, closing_further, closing_losing, closing_set, closing_unwritten}
use Rattle.raid_laws.proofs.EachImage.{HasEach}
use Rattle.raid_laws.proofs.LackingRows.{lacking_by}
use Rattle.raid_laws.proofs.Losing.{only_gone}
use Rattle.raid_laws.proofs.Marking.{brings_since, logs_commit}
use Rattle.raid_laws.proofs.Noted.{kept_marked, left_reach, losing_spent, noted_clear}
use Rattle.raid_laws.proofs.Over.{over_still}
use Rattle.raid_laws.proofs.Rows.{rows_by}
use Rattle.raid_laws.proofs.Since.{kept_since}
use Rattle.raid_laws.proofs.Whole.{heeded_gone}
use Rattle.transition_laws.specs.Changes.{changed, closed as plan_ends}
use Rattle.transition_laws.specs.Holds.{HoldsBook, HoldsMembers, IsPromised, RestsArray, Stands, StandsArray}
use Rattle.transition_laws.specs.Makes.{HoldsAlong, Makes, Suits}
use Rattle.transition_laws.proofs.ClosedMakes.{close_makes, closing_committing}
use Rattle.transition_laws.proofs.CommitMakes.{commit_called}
use Rattle.transition_laws.proofs.Committing.{commits}
use Rattle.transition_laws.proofs.Follows.{Follows, along_follows, follows_change, follows_same}
use Rattle.transition_laws.proofs.MomentsOf.{frame_at, lacking_at, promise_of, rows_at}
use Rattle.transition_laws.proofs.Shown.{stands_book}
use Rattle.transition_laws.proofs.Standing.{stood_of}

module _ (v : Raid) (on gone : List ℕ) (l : LogView) (f : ℕ → View) (b c : RackView) (commit : IsClosing v on gone l f b c) (due : v.state.plan ≡ Nothing → ⊥)
    (n : ℕ) (vals : ℕ → Values) (spent : ℕ → Bool) (low : n < v.state.made)
    (goes : is_failed (closed_raid v (next_number l.number) f) n ≡ false) (covers : IncludesSpent (f n) spent) (amid : IsTrackedInCall v b n vals spent) where
  none_gone : (p : ℕ) → is_current v.state p ≡ true → gone_in v p ≡ false
  none_gone p current = heeded_gone v commit.heeded p

  -- images go by its shape
  stood : InvariantInCall v.state (shape_of (v.arrays n)) vals spent (gone_in v) v b n
  stood = subst (λ (s : Shape). InvariantInCall v.state s vals spent (gone_in v) v b n) (amid.marked none_gone) amid.stood

  log : LogInvariant v.state v.number (λ q. false) b
  log = kept_marked v.state v.number (gone_in v) (λ q. false) b none_gone stood.log

  live : (n == n) ≡ true
  live = eq-eqb n n refl

  own : (P : ℕ → Type 0) (k : ℕ) → (k == n) ≡ true → P n → P k
  own P k is at = subst P (sym (eqb-true k n is)) at

  module _ (kept lacks : Bool) (kept_rows : kept ≡ true → LeavesRows v b n) (lacking_rows : lacks ≡ true → LeavesLacking v b n) where
    rests : (i : Image) → Picks b i → RestsArray v.state (v.arrays n) (promise_of n spent kept lacks v.state) n vals (replayed b.sectors i)
    rests i picks =
        let r : Image = replayed b.sectors i in
        let left : IsLeft b r = (i, picks, λ d t. refl) in
        let at = stood_left v.state (shape_of (v.arrays n)) vals spent (gone_in v) v b n i stood picks in
        let own_truth : (u : Super) → truth_in v.state r n ≡ Some u → truth_in v.state r (v.arrays n).number ≡ Some u =
        λ u is. subst (λ k. truth_in v.state r k ≡ Some u) (sym stood.number) is in
        record {
          shows = record {
            says = at.1;
            rows = λ old is u truth. (kept_rows is).images r left v.state u at.0 truth;
            lacks = λ old is lacking u truth. (lacking_rows is).images r left v.state (shape_of (v.arrays n)) u at.0 at.1.shape_is lacking truth;
          };
          truth = λ u is. stood.holds.truth r left u (own_truth u is);
          mark = λ marked u is. stood.holds.mark marked r left u (own_truth u is);
          alone = λ place current other. stood.holds.alone r left place current other;
        }

    array : StandsArray (v.arrays n) (v.arrays n) n vals (promise_of n spent kept lacks v.state) b
    array = record {
      number = stood.number;
      book_number = stood.number;
      few = let most = commit.set.most in omega (arith, low, most);
      written = stood.written;
      members = subst (λ k. HoldsMembers k (shape_of (v.arrays n)) (shape_of (v.arrays n)) (v.arrays n).resync (may_vary (v.arrays n)) vals spent b) stood.number
          (let held = stood.holds.shape in record {
            open_slices = held.open_slices;
            open_left = held.open_left;
            still = held.still;
            within = held.within;
            current = held.current;
            sized = held.sized;
            even = held.even;
            settled = held.settled;
          });
      single = λ young. absurd (both_ways false refl young);
      closed = λ none. subst (λ k. NothingPending k b) stood.number (stood.holds.closed none);
      truth = record { fields = refl; events = omega arith };
      mark = λ is. is;
      roles = refl;
      disks = refl;
      sectors = λ y. refl;
    }

    stands : Stands v v (promise_of n spent kept lacks v.state) (λ k. vals) b
    stands = record {
      few = stood.few;
      one = low;
      log = stood.log;
      someone = stood.someone;
      copies = kept_holds v.state v.number b log;
      since = kept_since v.state v.number b log;
      same = refl;
      images = λ i picks k is made.
          own (λ j. RestsArray v.state (v.arrays j) (promise_of n spent kept lacks v.state) j vals (replayed b.sectors i)) k is (rests i picks);
      arrays = λ k is made. own (λ j. StandsArray (v.arrays j) (v.arrays j) j vals (promise_of n spent kept lacks v.state) b) k is array;
      alike = λ marked k is made. record { shape = refl; frame = refl; resync = refl; young = refl };
      slices = amid.slices;
    }

    suits : Suits (promise_of n spent kept lacks v.state) (plan_ends ∷ []) v
    suits = record {
      free = λ k is. refl;
      owned = (λ q u current is. brings_since v.state (closed v.state) (after_closed v.state) q u current is, tt);
      growing = inr (tt, tt);
    }

    promised : IsPromised (promise_of n spent kept lacks v.state) (closed_raid v (next_number l.number) f)
    promised = record {
      is_one = live;
      goes = λ k is made. own (λ j. is_failed (closed_raid v (next_number l.number) f) j ≡ false) k is goes;
      covers = λ k is made. own (λ j. IncludesSpent (f j) spent) k is covers;
    }

    makes : Makes (plan_ends ∷ []) v v (closed_raid v (next_number l.number) f) (λ k. vals) (λ k. vals) b c
    makes = close_makes v on gone l f b c commit due (λ k. vals)

    after : Stands (changed plan_ends v) (closed_raid v (next_number l.number) f) (promise_of n spent kept lacks v.state) (λ k. vals) c
    after = makes.after (promise_of n spent kept lacks v.state) suits promised stands

    -- what is said of the book that contents hold is said of each stop in it
    moments : (P : Image → Type 0)
        → ((i : Image) (u : Raid) → Follows v u → Follows u (changed plan_ends v) → n < u.state.made → HoldsBook u (promise_of n spent kept lacks v.state) (λ k. vals) b.sectors i → P i)
        → b.traced → Leaves b c (λ i. IsInside b.sectors i → P i)
    moments P from traced =
        leaves_weaker (λ i. IsInside b.sectors i → HoldsAlong (plan_ends ∷ []) v (promise_of n spent kept lacks v.state) (λ k. vals) b.sectors i) (λ i. IsInside b.sectors i → P i)
        (λ i along inside.
        let at = along_follows (plan_ends ∷ []) v (λ u. HoldsBook u (promise_of n spent kept lacks v.state) (λ k. vals) b.sectors i) (tt, tt) (along inside) in
        from i at.0 at.1 at.2 (subst (λ m. n < m) (sym at.1.after.same.made) low) at.3)
        (makes.stops (promise_of n spent kept lacks v.state) suits promised stands traced)

    -- and after it
    each : (P : Image → Type 0)
        → ((i : Image) (u : Raid) (sectors : ℕ → ℕ) → Follows v u → n < u.state.made → HoldsBook u (promise_of n spent kept lacks v.state) (λ k. vals) sectors i → P (replayed sectors i))
        → HasEach P b c
    each P from = record {
      leaves = moments (λ i. P (replayed b.sectors i)) (λ i u first last made holds. from i u b.sectors first made holds);
      after = λ r left.
          subst P (λ i d t. sym (left.2 d t) i)
          (from left.0 (changed plan_ends v) c.sectors (follows_change plan_ends v tt) low
          (stands_book (changed plan_ends v) (closed_raid v (next_number l.number) f) (promise_of n spent kept lacks v.state) (λ k. vals) c after left.0 left.1));
    }

  no_rows : false ≡ true → LeavesRows v b n
  no_rows is = absurd (both_ways false refl is)

  no_lacking : false ≡ true → LeavesLacking v b n
  no_lacking is = absurd (both_ways false refl is)

  part : Part v.state (closed v.state) (shape_of (v.arrays n)) (shape_of (v.arrays n)) vals vals spent (gone_in v) (gone_in (closed_raid v (next_number l.number) f))
      v (closed_raid v (next_number l.number) f) b c n
  part = record {
    stays = commit.call.stays;
    book = after_closed v.state;
    leaves = moments false false no_rows no_lacking
        (λ i. InvariantInCall v.state (shape_of (v.arrays n)) vals spent (gone_in v) v b n
        → TiedBetween v.state (closed v.state) (shape_of (v.arrays n)) (shape_of (v.arrays n)) n vals spent (replayed b.sectors i))
        (λ i u first last made holds given. record {
          says = record {
            state = u.state;
            is_state = holds.log.is_state;
            later = first.after;
            sooner = last.after;
            shape = shape_of (u.arrays n);
            says = (holds.arrays n live made).says;
          };
          from = (first.views n).reach;
          to = (last.views n).reach;
        });
    reach = reach_same (is_current (closed v.state)) (shape_of (v.arrays n));
    holds = λ given.
        stood_of (changed plan_ends v) (closed_raid v (next_number l.number) f) (promise_of n spent false false v.state) (λ k. vals) c (after false false no_rows no_lacking) n live low refl stood.joined;
    logs = λ copies given.
        logs_commit v.state (closed v.state) (gone_in v) l on gone b c
        (commit_called plan_ends v v (closed_raid v (next_number l.number) f) (λ k. vals) l on gone b c
        (commits plan_ends v v.number v.arrays on gone l f b c (closing_committing v on gone l f b c commit due))
        (promise_of n spent false false v.state) (promised false false no_rows no_lacking) (stands false false no_rows no_lacking))
        (after_closed v.state) (subst (λ k. LogInvariant v.state k (gone_in v) b) (sym commit.number) stood.log) copies;
    frame = λ g before given. record {
      leaves = moments false false no_rows no_lacking (λ i. HasFrame g n (replayed b.sectors i))
          (λ i u first last made holds.
          subst (λ k. HasFrame k n (replayed b.sectors i)) before
          (frame_at v u (changed plan_ends v) (promise_of n spent false false v.state) (λ k. vals) b.sectors i n first last holds live made));
      after = ap frame_of (closing_losing v on gone l f b c commit n low).truth ∙ before;
    };
  }

  close_part : PartAmid v (closed_raid v (next_number l.number) f) b c n vals vals spent amid.durable
  close_part = record {
    after = shape_of (v.arrays n);
    part = subst
        (λ (first : Shape). Part v.state (closed v.state) first (shape_of (v.arrays n)) vals vals spent (gone_in v) (gone_in (closed_raid v (next_number l.number) f))
        v (closed_raid v (next_number l.number) f) b c n)
        (sym (amid.marked none_gone)) part;
    marked = λ are. sym ((after false false no_rows no_lacking).alike are n live low).shape;
    noted =
        left_reach (closed_raid v (next_number l.number) f) n (v.arrays n) c low ((closing_set v on gone l f b c commit).arrays n low)
        (only_gone (v.arrays n) (f n) gone (commit.set.arrays n low).is_array (commit.arrays n low));
  }

  close_rows : LeavesRows v b n → KeepsRows v (closed_raid v (next_number l.number) f) b c n
  close_rows rows =
      rows_by v (closed_raid v (next_number l.number) f) b c n (noted_clear gone (v.arrays n) (f n) (commit.arrays n low)) rows
      (each true false (λ is. rows) no_lacking (LeavesFrom (v.arrays n).resync n)
      (λ i u sectors first made holds.
      rows_at v u u (promise_of n spent true false v.state) (λ k. vals) sectors i n first (follows_same u) holds live made rows.young refl))

  close_lacking : LeavesLacking v b n → KeepsLacking v (closed_raid v (next_number l.number) f) b c n
  close_lacking leaves =
      let clear = noted_clear gone (v.arrays n) (f n) (commit.arrays n low) in
      lacking_by v (closed_raid v (next_number l.number) f) b c n clear.resync clear.young leaves
      (each false true no_rows (λ is. leaves) (LackingFrom (v.arrays n).resync n)
      (λ i u sectors first made holds.
      lacking_at v u u (promise_of n spent false true v.state) (λ k. vals) sectors i n first (follows_same u) holds live made leaves.young refl))

-- ---- the part for all

pub close_brings : (v : Raid) (on gone : List ℕ) (l : LogView) (f : ℕ → View) (b c : RackView) → IsClosing v on gone l f b c → (v.state.plan ≡ Nothing → ⊥)
    → ChangesData v (closed_raid v (next_number l.number) f) b c (λ n vals. vals)
close_brings v on gone l f b c commit due =
    let w = closed_raid v (next_number l.number) f in
    let further = closing_further v on gone l f b c commit in
    record {
      stays = commit.call.stays;
      set = closing_set v on gone l f b c commit;
      book = after_closed v.state;
      leaves = commit.call.leaves;
      number = further.number;
      events = further.events;
      sectors = commit.sectors;
      unwritten = closing_unwritten v on gone l f b c commit;
      still = λ n low goes. over_still v w further n low goes;
      spent = λ n y low alive.
          losing_spent (v.arrays n) (f n) (names gone) (commit.set.arrays n low).is_array (closing_losing v on gone l f b c commit n low) y alive;
      parts = λ n vals spent joined low goes covers.
          part_if v w b c n vals vals spent commit.call.stays commit.set.lasting commit.call.leaves
          (λ amid. close_part v on gone l f b c commit due n vals spent low goes covers amid);
      rows = λ n vals spent unwritten joined low goes covers amid rows. close_rows v on gone l f b c commit due n vals spent low goes covers amid rows;
      lacking = λ n vals spent joined low goes covers amid leaves. close_lacking v on gone l f b c commit due n vals spent low goes covers amid leaves;
    }

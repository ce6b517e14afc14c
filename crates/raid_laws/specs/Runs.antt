-- What calls in a row of a rack of arrays do to its book and to images of its slices.
use Rattle.std.proofs.Common.{◌≡◌, ℕ, ◌<◌, ◌≤◌, Bool, true, false, Option, Some, unwrap_or, refl, sym, ap, subst, inl, inr, ◌∙◌, arith}
use Rattle.std.proofs.lemmas.Bool.{cases_Bool, both_ways}
use Rattle.rack.specs.Seen.{Image, RackView}
use Rattle.rack.specs.Moments.{Leaves}
use Rattle.rack.specs.Joins.{keeps_same, keeps_then, leaves_same, leaves_then, leaves_weaker, rose_before, rose_since}
use Rattle.md_super.specs.declared.superblock.Super.{Super}
use Rattle.pool_state.specs.declared.contents.State.{State}
use Rattle.array_image.specs.Places.{place_of}
use Rattle.array_image.specs.Left.{IsInside}
use Rattle.array_image.specs.States.{is_current, state_in}
use Rattle.array_image.specs.Supers.{truth_in}
use Rattle.array_image.specs.SoundArray.{IsSoundArray}
use Rattle.array_image.specs.Arrays.{Shape, shape_in, replayed}
use Rattle.array_model.specs.View.{shape_of}
use Rattle.raid_laws.specs.Book.{OnlyMarksSince, after_same, after_then}
use Rattle.raid_laws.specs.Frames.{Frame, HasFrame, frame_of}
use Rattle.raid_laws.specs.Logs.{LogsBetween}
use Rattle.raid_laws.specs.Since.{HoldsSince, KeepsSince, since_still, since_then}
use Rattle.raid_laws.specs.Moves.{AreCaused, KeepsMarked}
use Rattle.raid_laws.specs.Reach.{KeepsReach, ReachBetween, reach_same, reach_then}
use Rattle.raid_laws.specs.Raid.{Raid, is_left, is_failed, IsTracked}
use Rattle.raid_laws.specs.Truths.{KeepsTruths}
use Rattle.raid_laws.specs.Rows.{KeepsLacking, KeepsRows, LackingFrom, LeavesFrom, LeavesLacking, LeavesRows, lacking_then, rows_then}

-- Replayed contents have a state between two, and by it an array whose superblocks agree.
pub record IsBetween (s t : State) (n : ℕ) (r : Image) : Type 0 where
  pub state : State
  pub is_state : state_in r ≡ Some state
  pub later : OnlyMarksSince s state
  pub sooner : OnlyMarksSince state t
  pub shape : Shape
  pub shape_is : shape_in state r n ≡ Some shape
  pub is_sound : (u : Super) → truth_in state r n ≡ Some u → IsSoundArray state r n u

-- What stops in a call leave of an array that was told and isn't over after it: by a state between, its superblocks agree, no log is
-- damaged and the copies of the state agree, and its size and its members' places are those before the call. Copies that were such as calls leave that
-- began with an earlier state stay so. An array that isn't over after it wasn't so before it, and one that was told is told after it.
pub record CrashInvariant (v w : Raid) (a b : RackView) : Type 0 where
  pub still : (n : ℕ) → is_failed w n ≡ false → is_failed v n ≡ false
  pub told : (n : ℕ) → IsTracked v a n → IsTracked w b n
  pub images :
      (n : ℕ) → IsTracked v a n → is_failed w n ≡ false → a.traced
      → Leaves a b (λ c. IsBetween v.state w.state n (replayed a.sectors c))
  pub logs : (n : ℕ) → IsTracked v a n → is_failed w n ≡ false → a.traced → Leaves a b (LogsBetween v.state w.state a.sectors)
  pub since :
      (n : ℕ) (base : State) → IsTracked v a n → is_failed w n ≡ false → OnlyMarksSince base v.state → HoldsSince base a
      → KeepsSince base a b
  pub framed : (n : ℕ) → IsTracked v a n → is_failed w n ≡ false → frame_of (w.arrays n).truth ≡ frame_of (v.arrays n).truth
  pub frames : (n : ℕ) → IsTracked v a n → is_failed w n ≡ false → a.traced → Leaves a b (λ c. HasFrame (frame_of (v.arrays n).truth) n (replayed a.sectors c))
  -- and its members count at least as far as before the call and are there where they were, and no further than after it, by the marks
  -- of the state that contents have and of the one after the call
  pub reach : (n : ℕ) → IsTracked v a n → is_failed w n ≡ false → a.traced → Leaves a b (λ c. ReachBetween v w n (replayed a.sectors c))
  pub reached : (n : ℕ) → IsTracked v a n → is_failed w n ≡ false → KeepsReach w.state (shape_of (v.arrays n)) (shape_of (w.arrays n))
  -- Where a member is lacking by the state that contents have, they leave no rows to resync but those that were left before the call.
  pub lacking : (n : ℕ) → IsTracked v a n → is_failed w n ≡ false → LeavesLacking v a n → KeepsLacking v w a b n

-- Marks are added and nothing else of the book, each with its cause; what stops leave meanwhile has marks between those before and
-- those after. What is told stays so. `p` and `q` are the arrays that were written before it and after it.
pub record RaidRuns (p q : ℕ → Bool) (v w : Raid) (a b : RackView) : Type 0 where
  pub book : OnlyMarksSince v.state w.state
  -- nor do the log's number and events fall
  pub number : v.number ≤ w.number
  pub events : (n : ℕ) → n < v.state.made → (v.arrays n).truth.events ≤ (w.arrays n).truth.events
  pub sectors : (d : ℕ) → b.sectors d ≡ a.sectors d
  pub faults : (d : ℕ) → a.faults d ≤ b.faults d
  pub traced : a.traced → b.traced
  pub disks : b.disks ≡ a.disks
  pub told_below : (d : ℕ) → a.told d → b.told d
  pub unspent : (d t : ℕ) → b.spent d t ≡ false → a.spent d t ≡ false
  -- a drive that is marked missing isn't written again
  pub unwritten : KeepsMarked v a b
  pub caused : AreCaused v w a b
  -- an array that isn't written leaves no rows to resync but those that are left in it
  pub written : (n : ℕ) → q n ≡ false → p n ≡ false
  pub rows : (n : ℕ) → q n ≡ false → IsTracked v a n → is_failed w n ≡ false → LeavesRows v a n → KeepsRows v w a b n
  -- of arrays that were told: the book and superblocks by a state between, logs, copies and frames
  pub moments : CrashInvariant v w a b
  -- superblocks that said an array's truth do so after it
  pub truths : KeepsTruths v w a b

-- so it is where nothing is called
pub moments_same : (v : Raid) (x : RackView) → CrashInvariant v v x x
moments_same v x = record {
  still = λ n goes. goes;
  told = λ n told. told;
  images = λ n told goes traced. leaves_same x (λ c. IsBetween v.state v.state n (replayed x.sectors c));
  logs = λ n told goes traced. leaves_same x (LogsBetween v.state v.state x.sectors);
  since = λ n base told goes after holds. since_still base x holds;
  framed = λ n told goes. refl;
  frames = λ n told goes traced. leaves_same x (λ c. HasFrame (frame_of (v.arrays n).truth) n (replayed x.sectors c));
  reach = λ n told goes traced. leaves_same x (λ c. ReachBetween v v n (replayed x.sectors c));
  reached = λ n told goes. reach_same (is_current v.state) (shape_of (v.arrays n));
  lacking = λ n told goes leaves. record {
    later = omega arith;
    leaves = λ traced. leaves_same x (λ c. IsInside x.sectors c → LackingFrom (v.arrays n).resync n (replayed x.sectors c));
    after = leaves;
  };
}

-- no call is a run
pub raid_runs_same : (p : ℕ → Bool) (v : Raid) (x : RackView) → RaidRuns p p v v x x
raid_runs_same p v x =
    record {
      book = after_same v.state;
      number = omega arith;
      events = λ n low. omega arith;
      sectors = λ d. refl;
      faults = λ d. omega arith;
      traced = λ traced. traced;
      disks = refl;
      told_below = λ d told. told;
      unspent = λ d t unspent. unspent;
      unwritten = λ d t live gone. keeps_same (x.held d t);
      caused = record { left = λ place is. is; cause = λ place was now. absurd (both_ways (is_left v place) now was) };
      written = λ n not. not;
      rows = λ n not told goes rows. record {
        later = omega arith;
        leaves = λ traced. leaves_same x (λ c. IsInside x.sectors c → LeavesFrom (v.arrays n).resync n (replayed x.sectors c));
        after = rows;
      };
      truths = λ n low held. held;
      moments = moments_same v x;
    }

between_sooner : (s t u : State) (n : ℕ) (r : Image) → OnlyMarksSince t u → IsBetween s t n r → IsBetween s u n r
between_sooner s t u n r after at = record {
  state = at.state;
  is_state = at.is_state;
  later = at.later;
  sooner = after_then at.state t u at.sooner after;
  shape = at.shape;
  shape_is = at.shape_is;
  is_sound = at.is_sound;
}

between_later : (s t u : State) (n : ℕ) (r : Image) → OnlyMarksSince s t → IsBetween t u n r → IsBetween s u n r
between_later s t u n r after at = record {
  state = at.state;
  is_state = at.is_state;
  later = after_then s t at.state after at.later;
  sooner = at.sooner;
  shape = at.shape;
  shape_is = at.shape_is;
  is_sound = at.is_sound;
}

marked_still : (was is : Bool) → was ≡ false → (is ≡ true → was ≡ true) → is ≡ false
marked_still was true gone before = absurd (both_ways was gone (before refl))
marked_still was false gone before = refl

-- calls in a row keep them so
pub moments_then : (v w z : Raid) (a b c : RackView) → CrashInvariant v w a b → CrashInvariant w z b c → OnlyMarksSince v.state w.state → OnlyMarksSince w.state z.state
    → ((d : ℕ) → b.sectors d ≡ a.sectors d) → (a.traced → b.traced) → CrashInvariant v z a c
moments_then v w z a b c one two book after sectors_same still_traced = record {
  still = λ n goes. one.still n (two.still n goes);
  told = λ n told. two.told n (one.told n told);
  images = λ n told goes traced.
      leaves_then
      (λ i. IsBetween v.state z.state n (replayed a.sectors i))
      (leaves_weaker
      (λ i. IsBetween v.state w.state n (replayed a.sectors i))
      (λ i. IsBetween v.state z.state n (replayed a.sectors i))
      (λ i at. between_sooner v.state w.state z.state n (replayed a.sectors i) after at)
      (one.images n told (two.still n goes) traced))
      (leaves_weaker
      (λ i. IsBetween w.state z.state n (replayed b.sectors i))
      (λ i. IsBetween v.state z.state n (replayed a.sectors i))
      (λ i at.
      subst (λ (sectors : ℕ → ℕ). IsBetween v.state z.state n (replayed sectors i)) (λ k d. sectors_same d k)
      (between_later v.state w.state z.state n (replayed b.sectors i) book at))
      (two.images n (one.told n told) goes (still_traced traced)));
  logs = λ n told goes traced.
      leaves_then (LogsBetween v.state z.state a.sectors)
      (leaves_weaker (LogsBetween v.state w.state a.sectors) (LogsBetween v.state z.state a.sectors)
      (λ i at. record { state = at.state; later = at.later; sooner = after_then at.state w.state z.state at.sooner after; says = at.says })
      (one.logs n told (two.still n goes) traced))
      (leaves_weaker (LogsBetween w.state z.state b.sectors) (LogsBetween v.state z.state a.sectors)
      (λ i at.
      subst (λ (sectors : ℕ → ℕ). LogsBetween v.state z.state sectors i) (λ k d. sectors_same d k)
      (record { state = at.state; later = after_then v.state w.state at.state book at.later; sooner = at.sooner; says = at.says }))
      (two.logs n (one.told n told) goes (still_traced traced)));
  framed = λ n told goes. two.framed n (one.told n told) goes ∙ one.framed n told (two.still n goes);
  frames = λ n told goes traced.
      let g : Frame = frame_of (v.arrays n).truth in
      leaves_then (λ i. HasFrame g n (replayed a.sectors i))
      (one.frames n told (two.still n goes) traced)
      (leaves_weaker (λ i. HasFrame (frame_of (w.arrays n).truth) n (replayed b.sectors i)) (λ i. HasFrame g n (replayed a.sectors i))
      (λ i frame.
      subst (λ (sectors : ℕ → ℕ). HasFrame g n (replayed sectors i)) (λ k d. sectors_same d k)
      (subst (λ (k : Frame). HasFrame k n (replayed b.sectors i)) (one.framed n told (two.still n goes)) frame))
      (two.frames n (one.told n told) goes (still_traced traced)));
  reach = λ n told goes traced.
      let u = shape_of (v.arrays n) in
      let x = shape_of (w.arrays n) in
      let y = shape_of (z.arrays n) in
      let late = two.images n (one.told n told) goes (still_traced traced) in
      let from = two.reach n (one.told n told) goes (still_traced traced) in
      let Goal : Image → Type 0 = λ i. ReachBetween v z n (replayed a.sectors i) in
      leaves_then Goal
      (leaves_weaker (λ i. ReachBetween v w n (replayed a.sectors i)) Goal
      (λ i at s shape state is.
      let both = at s shape state is in
      (both.0, reach_then (is_current w.state) (is_current z.state) shape x y after.current both.1 (two.reached n (one.told n told) goes)))
      (one.reach n told (two.still n goes) traced))
      (record {
        later = late.later;
        kept = late.kept;
        past = late.past;
        new = λ k i since until stopped.
            subst (λ (sectors : ℕ → ℕ). ReachBetween v z n (replayed sectors i)) (λ j d. sectors_same d j)
            (λ s shape state is.
            let at = late.new k i since until stopped in
            let both = from.new k i since until stopped s shape state is in
            let same : at.state ≡ s = ap (λ (o : Option State). unwrap_or o s) (sym at.is_state ∙ state) in
            let later : OnlyMarksSince w.state s = subst (OnlyMarksSince w.state) same at.later in
            (reach_then (is_current w.state) (is_current s) u x shape later.current (one.reached n told (two.still n goes)) both.0, both.1));
      });
  reached = λ n told goes.
      reach_then (is_current w.state) (is_current z.state) (shape_of (v.arrays n)) (shape_of (w.arrays n)) (shape_of (z.arrays n)) after.current
      (one.reached n told (two.still n goes)) (two.reached n (one.told n told) goes);
  lacking = λ n told goes leaves.
      let first = one.lacking n told (two.still n goes) leaves in
      lacking_then v w z a b c n sectors_same still_traced first (two.lacking n (one.told n told) goes first.after);
  since = λ n base told goes since holds.
      let early = one.since n base told (two.still n goes) since holds in
      since_then base a b c sectors_same still_traced early
      (two.since n base (one.told n told) goes (after_then base v.state w.state since book) early.holds);
}

-- runs in a row are one
pub raid_runs_then : (p q r : ℕ → Bool) (v w z : Raid) (a b c : RackView) → RaidRuns p q v w a b → RaidRuns q r w z b c → RaidRuns p r v z a c
raid_runs_then p q r v w z a b c one two =
    record {
      book = after_then v.state w.state z.state one.book two.book;
      number = let first = one.number in let second = two.number in omega (arith, first, second);
      events = λ n low.
          let first = one.events n low in
          let second = two.events n (subst (λ k. n < k) (sym one.book.same.made) low) in
          omega (arith, first, second);
      sectors = λ d. two.sectors d ∙ one.sectors d;
      faults = λ d. let first = one.faults d in let second = two.faults d in omega (arith, first, second);
      traced = λ traced. two.traced (one.traced traced);
      disks = two.disks ∙ one.disks;
      told_below = λ d told. two.told_below d (one.told_below d told);
      unspent = λ d t unspent. one.unspent d t (two.unspent d t unspent);
      unwritten = λ d t live gone.
          keeps_then (a.held d t) (b.held d t) (c.held d t)
          (one.unwritten d t
          (record {
            disk = subst (λ k. d < k) two.disks live.disk;
            sector = subst (λ k. t < k) (two.sectors d) live.sector;
            is_told = live.is_told;
            unspent = two.unspent d t live.unspent;
          }) gone)
          (two.unwritten d t
          (record { disk = live.disk; sector = live.sector; is_told = one.told_below d live.is_told; unspent = live.unspent })
          (marked_still (is_current v.state (place_of d)) (is_current w.state (place_of d)) gone (one.book.current (place_of d))));
      caused = record {
        left = λ place is. one.caused.left place (two.caused.left place is);
        cause = λ place was gone.
            elim (cases_Bool (is_left w place)) [
              | inl mid ↦ let fault = two.caused.cause place mid gone in (fault.0, fault.1, rose_since (one.faults fault.0) fault.2)
              | inr early ↦ let fault = one.caused.cause place was early in (fault.0, fault.1, rose_before (two.faults fault.0) fault.2)
            ];
      };
      written = λ n not. one.written n (two.written n not);
      rows = λ n not told goes rows.
          let first = one.rows n (two.written n not) told (two.moments.still n goes) rows in
          rows_then v w z a b c n one.sectors one.traced first (two.rows n not (one.moments.told n told) goes first.after);
      truths = λ n low held. two.truths n (subst (λ k. n < k) (sym one.book.same.made) low) (one.truths n low held);
      moments = moments_then v w z a b c one.moments two.moments one.book two.book one.sectors one.traced;
    }

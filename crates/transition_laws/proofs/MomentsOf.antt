-- What raid_laws says of calls follows where they make changes of the book.
use Rattle.std.proofs.Common.{◌≡◌, ℕ, ◌<◌, ◌≤◌, Bool, true, false, ◌==◌, List, ◌∷◌, Some, refl, sym, ap, subst, ◌∙◌, eq-eqb, eqb-true, arith, inr, []}
use Rattle.std.proofs.lemmas.Bool.{both_ways}
use Rattle.rack.specs.Values.{Values}
use Rattle.rack.specs.Seen.{Image, RackView}
use Rattle.rack.specs.Moments.{Leaves}
use Rattle.rack.specs.Joins.{leaves_weaker}
use Rattle.md_super.specs.declared.superblock.Super.{Super}
use Rattle.pool_state.specs.declared.contents.State.{State}
use Rattle.array_image.specs.Arrays.{Shape, replayed, shape_in}
use Rattle.array_image.specs.States.{is_current, state_in}
use Rattle.array_image.specs.Supers.{truth_in}
use Rattle.array_image.specs.Left.{IsInside, IsLeft}
use Rattle.array_model.specs.ArrayCalls.{IncludesSpent}
use Rattle.array_model.specs.View.{shape_of, spent_in}
use Rattle.raid_laws.specs.Book.{after_same, after_then, OnlyMarksSince}
use Rattle.transition_laws.specs.Changes.{AreKeeping, by, Change, changed}
use Rattle.raid_laws.specs.Frames.{frame_of, HasFrame}
use Rattle.transition_laws.specs.Holds.{begun, HoldsBook, IsFrom, IsPromised, IsSameArrayAs, Promise, ShowsArray, Stands}
use Rattle.array_core.specs.Superblocks.{is_settled}
use Rattle.array_core.specs.Contents.{lacking_in}
use Rattle.raid_laws.specs.Logs.{LogsBetween}
use Rattle.transition_laws.specs.Makes.{AreOwned, IsFree, Makes, Suits}
use Rattle.raid_laws.specs.Runs.{IsBetween, CrashInvariant}
use Rattle.raid_laws.specs.Raid.{AreLive, held_in, is_failed, IsTracked, Raid, spent_of, InvariantInCall, StopsInside}
use Rattle.raid_laws.specs.Reach.{KeepsReach, KeepsReachOn, ReachBetween}
use Rattle.raid_laws.specs.Rows.{KeepsLacking, KeepsRows, LackingFrom, LeavesFrom, LeavesLacking, LeavesRows}
use Rattle.raid_laws.specs.Since.{AreSince, HoldsSince, KeepsSince}
use Rattle.transition_laws.proofs.Follows.{along_follows, Follows, follows_change, follows_by, follows_same}
use Rattle.raid_laws.proofs.Frames.{says_frame, view_frame}
use Rattle.array_core.proofs.Stripped.{some_same}
use Rattle.raid_laws.proofs.Marking.{brings_since}
use Rattle.raid_laws.proofs.Since.{kept_since}
use Rattle.raid_laws.specs.Moves.{AreMarked, IsHeeded, IsSet}
use Rattle.raid_laws.proofs.Over.{or_from, or_parts}
use Rattle.transition_laws.proofs.Standing.{stood_of}
use Rattle.transition_laws.proofs.Tracked.{tracked_stands}
use Rattle.raid_laws.proofs.Whole.{heeded_gone, stood_own}
use Rattle.transition_laws.proofs.Shown.{stands_book}

-- ---- contents that hold a book between two

module _ (v u e : Raid) (p : Promise) (vals : ℕ → ℕ → Values) (sectors : ℕ → ℕ) (c : Image) (n : ℕ) (first : Follows v u) (last : Follows u e)
    (holds : HoldsBook u p vals sectors c) (live : p.live n ≡ true) (low : n < u.state.made) where
  shows : ShowsArray u.state (u.arrays n) p n (vals n) (replayed sectors c)
  shows = holds.arrays n live low

  -- their state is the book's
  truth_at : (s : State) (t : Super) → state_in (replayed sectors c) ≡ Some s → truth_in s (replayed sectors c) n ≡ Some t → truth_in u.state (replayed sectors c) n ≡ Some t
  truth_at s t state is = subst (λ (q : State). truth_in q (replayed sectors c) n ≡ Some t) (some_same s u.state (sym state ∙ holds.log.is_state)) is

  shape_at : (s : State) (shape : Shape) → state_in (replayed sectors c) ≡ Some s → shape_in s (replayed sectors c) n ≡ Some shape → shape ≡ shape_of (u.arrays n)
  shape_at s shape state is =
      some_same shape (shape_of (u.arrays n))
      (sym is ∙ ap (λ (q : State). shape_in q (replayed sectors c) n) (some_same s u.state (sym state ∙ holds.log.is_state)) ∙ shows.says.shape_is)

  pub image_of : IsBetween v.state e.state n (replayed sectors c)
  image_of = record {
    state = u.state;
    is_state = holds.log.is_state;
    later = first.after;
    sooner = last.after;
    shape = shape_of (u.arrays n);
    shape_is = shows.says.shape_is;
    is_sound = shows.says.is_sound;
  }

  pub log_of : LogsBetween v.state e.state sectors c
  log_of = record { state = u.state; later = first.after; sooner = last.after; says = holds.log }

  pub frame_at : HasFrame (frame_of (v.arrays n).truth) n (replayed sectors c)
  frame_at s t state is =
      says_frame u.state n (shape_of (u.arrays n)) (replayed sectors c) t shows.says.shape_is (truth_at s t state is) ∙ view_frame (u.arrays n) ∙ (first.views n).frame

  pub reach_at : (w : Raid) → w.state ≡ e.state → shape_of (w.arrays n) ≡ shape_of (e.arrays n) → ReachBetween v w n (replayed sectors c)
  reach_at w same shape_same s shape state is =
      let here = shape_at s shape state is in (
        subst (λ (q : State). KeepsReach q (shape_of (v.arrays n)) shape) (some_same u.state s (sym holds.log.is_state ∙ state))
            (subst (KeepsReachOn (is_current u.state) (shape_of (v.arrays n))) (sym here) (first.views n).reach),
        subst (λ (q : State). KeepsReach q shape (shape_of (w.arrays n))) (sym same)
            (subst (λ (z : Shape). KeepsReachOn (is_current e.state) z (shape_of (w.arrays n))) (sym here)
            (subst (KeepsReachOn (is_current e.state) (shape_of (u.arrays n))) (sym shape_same) (last.views n).reach)),
      )

  pub lacking_at : (v.arrays n).young ≡ false → p.lacks n ≡ true → LackingFrom (v.arrays n).resync n (replayed sectors c)
  lacking_at young wanted s shape t state is lacks truth =
      let more = (first.views n).resync in
      let at = shows.lacks ((first.views n).young ∙ young) wanted (subst (λ (z : Shape). 0 < lacking_in z) (shape_at s shape state is) lacks) t (truth_at s t state truth) in
      omega (arith, more, at)

  pub rows_at : (v.arrays n).young ≡ false → p.kept n ≡ true → LeavesFrom (v.arrays n).resync n (replayed sectors c)
  rows_at young kept s t state truth = let more = (first.views n).resync in let at = shows.rows ((first.views n).young ∙ young) kept t (truth_at s t state truth) in omega (arith, more, at)

-- ---- calls

-- a promise of one array
abbrev pub promise_of : ℕ → (ℕ → Bool) → (kept lacks : Bool) → State → Promise
promise_of n spent kept lacks base = record { live = λ k. k == n; one = n; spent = λ k. spent; growing = false; kept = λ k. kept; lacks = λ k. lacks; origin = begun base }

-- Calls between which nobody has gone who isn't marked, and that make changes of the book.
pub record IsCalled (xs : List Change) (v w : Raid) (a b : RackView) : Type 0 where
  pub vals : ℕ → ℕ → Values
  pub makes : Makes xs v v w (held_in v a) vals a b
  pub keeping : AreKeeping xs v
  pub inside : StopsInside b
  pub before : AreMarked v
  pub marked : AreMarked w
  pub still : (n : ℕ) → is_failed w n ≡ false → is_failed v n ≡ false
  pub low : (n : ℕ) → is_failed w n ≡ false → n < w.state.made
  pub low_before : (n : ℕ) → is_failed w n ≡ false → n < v.state.made
  pub few : w.state.made ≤ 16
  pub joined : w.state.joined ≡ v.state.joined
  -- for what arrays hold after them
  pub heeded : IsHeeded w
  pub set : IsSet w b
  pub spares : (n y : ℕ) → is_failed w n ≡ false → spent_in (w.arrays n) y ≡ false → spent_in (v.arrays n) y ≡ false

-- the spent map that a promise of array n goes by
abbrev pub Covered : (v w : Raid) → ℕ → (ℕ → Bool) → Type 0
Covered v w n spent = (y : ℕ) → spent y ≡ false → (spent_of v n y ≡ false) × (spent_in (w.arrays n) y ≡ false)

-- each book that changes lead to came of the first one's state
owned_by : (p : Promise) (base : State) (xs : List Change) (v : Raid) → AreKeeping xs v → p.origin ≡ begun base → OnlyMarksSince base v.state → AreOwned p xs v
owned_by p base [] v keeping origin after = tt
owned_by p base (x ∷ xs) v keeping origin after =
    let next = after_then base v.state (changed x v).state after (follows_change x v keeping.0).after in (
      λ q u current is. subst (λ o. IsFrom o q u) (sym origin) (brings_since base (changed x v).state next q u current is),
      owned_by p base xs (changed x v) keeping.1 origin next,
    )

module _ (xs : List Change) (v w : Raid) (a b : RackView) (called : IsCalled xs v w a b)
    (n : ℕ) (told : IsTracked v a n) (goes : is_failed w n ≡ false) (spent : ℕ → Bool) (covered : Covered v w n spent) (kept lacks : Bool) (base : State)
    (free : IsFree (promise_of n spent kept lacks base) xs) (after_base : OnlyMarksSince base v.state) (since : HoldsSince base a)
    (kept_rows : kept ≡ true → LeavesRows v a n) (lacking_rows : lacks ≡ true → LeavesLacking v a n) where
  own : (P : ℕ → Type 0) (k : ℕ) → (k == n) ≡ true → P n → P k
  own P k is at = subst P (sym (eqb-true k n is)) at

  promised : IsPromised (promise_of n spent kept lacks base) w
  promised = record {
    is_one = eq-eqb n n refl;
    goes = λ k is low. own (λ j. is_failed w j ≡ false) k is goes;
    covers = λ k is low. own (λ j. IncludesSpent (w.arrays j) spent) k is (λ y alive. (covered y alive).1);
  }

  -- it is among those that are made, before and after
  low_before : n < v.state.made
  low_before = called.low_before n goes

  -- an array that is told stands by the book
  stands : Stands v v (promise_of n spent kept lacks base) (held_in v a) a
  stands = tracked_stands v (promise_of n spent kept lacks base) (held_in v a) a (record {
    marked = called.before;
    few = λ k is low. own (λ j. j < 16) k is (let low = called.low n goes in let few = called.few in omega (arith, low, few));
    live = eq-eqb n n refl;
    one = low_before;
    goes = λ k is low. own (λ j. is_failed v j ≡ false) k is (called.still n goes);
    grown = λ k is low. refl;
    tracked = λ k is low. own (λ j. IsTracked v a j) k is told;
    covers = λ k y is low alive. own (λ j. spent_of v j y ≡ false) k is (covered y alive).0;
    values = λ k y is low alive. refl;
    since = since;
    rows = λ k is low wanted. own (λ j. LeavesRows v a j) k is (kept_rows wanted);
    lacks = λ k is low wanted. own (λ j. LeavesLacking v a j) k is (lacking_rows wanted);
  })

  owned : AreOwned (promise_of n spent kept lacks base) xs v
  owned = owned_by (promise_of n spent kept lacks base) base xs v called.keeping refl after_base

  suits : Suits (promise_of n spent kept lacks base) xs v
  suits = record { free = free; owned = owned; growing = inr called.keeping }

  after : Stands (by xs v) w (promise_of n spent kept lacks base) called.vals b
  after = called.makes.after (promise_of n spent kept lacks base) suits promised stands

  -- what is said of the book that contents hold is said of each stop
  pub each_moment : (P : Image → Type 0)
      → ((c : Image) (u : Raid) → Follows v u → Follows u (by xs v) → n < u.state.made → HoldsBook u (promise_of n spent kept lacks base) called.vals a.sectors c → P c) → a.traced → Leaves a b P
  each_moment P from traced =
      let all = called.makes.stops (promise_of n spent kept lacks base) suits promised stands traced in
      record {
        later = all.later;
        kept = all.kept;
        past = all.past;
        new = λ k c since until stopped.
            let inside : IsInside a.sectors c = λ d t out. called.inside k c stopped d t (subst (λ m. m ≤ t) (sym (called.makes.stays.sectors d)) out) in
            let at = along_follows xs v (λ u. HoldsBook u (promise_of n spent kept lacks base) called.vals a.sectors c) called.keeping (all.new k c since until stopped inside) in
            from c at.0 at.1 at.2 (subst (λ m. n < m) (sym at.1.after.same.made) low_before) at.3;
      }

  low_by : n < (by xs v).state.made
  low_by = subst (λ (s : State). n < s.made) after.same (called.low n goes)

  same_state : w.state ≡ (by xs v).state
  same_state = after.same

  same_array : IsSameArrayAs ((by xs v).arrays n) (w.arrays n)
  same_array = after.alike called.marked n (eq-eqb n n refl) low_by

  pub images : a.traced → Leaves a b (λ c. IsBetween v.state w.state n (replayed a.sectors c))
  images = each_moment (λ c. IsBetween v.state w.state n (replayed a.sectors c))
      (λ c u first last low holds.
      subst (λ (s : State). IsBetween v.state s n (replayed a.sectors c)) (sym same_state)
      (image_of v u (by xs v) (promise_of n spent kept lacks base) called.vals a.sectors c n first last holds (eq-eqb n n refl) low))

  pub logs : a.traced → Leaves a b (LogsBetween v.state w.state a.sectors)
  logs = each_moment (LogsBetween v.state w.state a.sectors)
      (λ c u first last low holds.
      subst (λ (s : State). LogsBetween v.state s a.sectors c) (sym same_state)
      (log_of v u (by xs v) (promise_of n spent kept lacks base) called.vals a.sectors c n first last holds (eq-eqb n n refl) low))

  pub sinces : KeepsSince base a b
  sinces = record {
    leaves = λ traced.
        leaves_weaker (AreSince base a.sectors) (λ c. IsInside a.sectors c → AreSince base a.sectors c) (λ c is inside. is)
        (each_moment (AreSince base a.sectors) (λ c u first last low holds. holds.since) traced);
    holds = after.since;
  }

  pub frames : a.traced → Leaves a b (λ c. HasFrame (frame_of (v.arrays n).truth) n (replayed a.sectors c))
  frames = each_moment (λ c. HasFrame (frame_of (v.arrays n).truth) n (replayed a.sectors c))
      (λ c u first last low holds. frame_at v u (by xs v) (promise_of n spent kept lacks base) called.vals a.sectors c n first last holds (eq-eqb n n refl) low)

  pub framed : frame_of (w.arrays n).truth ≡ frame_of (v.arrays n).truth
  framed = same_array.frame ∙ ((follows_by xs v called.keeping).views n).frame

  pub reach : a.traced → Leaves a b (λ c. ReachBetween v w n (replayed a.sectors c))
  reach = each_moment (λ c. ReachBetween v w n (replayed a.sectors c))
      (λ c u first last low holds.
      reach_at v u (by xs v) (promise_of n spent kept lacks base) called.vals a.sectors c n first last holds (eq-eqb n n refl) low w same_state same_array.shape)

  pub reached : KeepsReach w.state (shape_of (v.arrays n)) (shape_of (w.arrays n))
  reached =
      subst (λ (s : State). KeepsReach s (shape_of (v.arrays n)) (shape_of (w.arrays n))) (sym same_state)
      (subst (KeepsReachOn (is_current (by xs v).state) (shape_of (v.arrays n))) (sym same_array.shape) ((follows_by xs v called.keeping).views n).reach)

  resync_later : (v.arrays n).resync ≤ (w.arrays n).resync
  resync_later = let more = ((follows_by xs v called.keeping).views n).resync in let same = same_array.resync in omega (arith, more, same)

  young_after : (v.arrays n).young ≡ false → (w.arrays n).young ≡ false
  young_after young = same_array.young ∙ ((follows_by xs v called.keeping).views n).young ∙ young

  -- what holds of contents that hold the last book holds after them
  pub each_after : (P : ℕ → Image → Type 0)
      → ((c : Image) → HoldsBook (by xs v) (promise_of n spent kept lacks base) called.vals b.sectors c → P ((by xs v).arrays n).resync (replayed b.sectors c))
      → (r : Image) → IsLeft b r → P (w.arrays n).resync r
  each_after P from r left =
      subst (P (w.arrays n).resync) (λ i d t. sym (left.2 d t) i)
      (subst (λ k. P k (replayed b.sectors left.0)) (sym same_array.resync)
      (from left.0 (stands_book (by xs v) w (promise_of n spent kept lacks base) called.vals b after left.0 left.1)))

  pub lacking : lacks ≡ true → (v.arrays n).young ≡ false → KeepsLacking v w a b n
  lacking is young = record {
    later = resync_later;
    leaves = λ traced.
        leaves_weaker (λ c. LackingFrom (v.arrays n).resync n (replayed a.sectors c)) (λ c. IsInside a.sectors c → LackingFrom (v.arrays n).resync n (replayed a.sectors c))
        (λ c from inside. from)
        (each_moment (λ c. LackingFrom (v.arrays n).resync n (replayed a.sectors c))
        (λ c u first last low holds. lacking_at v u (by xs v) (promise_of n spent kept lacks base) called.vals a.sectors c n first last holds (eq-eqb n n refl) low young is)
        traced);
    after = record {
      young = young_after young;
      images = each_after (λ k. LackingFrom k n)
          (λ c holds. let e = by xs v in lacking_at e e e (promise_of n spent kept lacks base) called.vals b.sectors c n (follows_same e) (follows_same e) holds (eq-eqb n n refl) low_by (((follows_by xs v called.keeping).views n).young ∙ young) is);
    };
  }

  pub rows : kept ≡ true → (v.arrays n).young ≡ false → is_settled (w.arrays n) ≡ true → KeepsRows v w a b n
  rows is young settled = record {
    later = resync_later;
    leaves = λ traced.
        leaves_weaker (λ c. LeavesFrom (v.arrays n).resync n (replayed a.sectors c)) (λ c. IsInside a.sectors c → LeavesFrom (v.arrays n).resync n (replayed a.sectors c))
        (λ c from inside. from)
        (each_moment (λ c. LeavesFrom (v.arrays n).resync n (replayed a.sectors c))
        (λ c u first last low holds. rows_at v u (by xs v) (promise_of n spent kept lacks base) called.vals a.sectors c n first last holds (eq-eqb n n refl) low young is)
        traced);
    after = record {
      settled = settled;
      young = young_after young;
      images = each_after (λ k. LeavesFrom k n)
          (λ c holds. let e = by xs v in rows_at e e e (promise_of n spent kept lacks base) called.vals b.sectors c n (follows_same e) (follows_same e) holds (eq-eqb n n refl) low_by (((follows_by xs v called.keeping).views n).young ∙ young) is);
    };
  }

-- ---- the record of raid_laws

none_free : (n : ℕ) (spent : ℕ → Bool) (lacks : Bool) (base : State) (xs : List Change) → IsFree (promise_of n spent false lacks base) xs
none_free n spent lacks base xs k is = absurd (both_ways false refl is)

nothing : (v w : Raid) (n : ℕ) → Covered v w n (λ y. true)
nothing v w n y alive = absurd (both_ways true alive refl)

no_rows : (v : Raid) (a : RackView) (n : ℕ) → false ≡ true → LeavesRows v a n
no_rows v a n is = absurd (both_ways false refl is)

no_lacking : (v : Raid) (a : RackView) (n : ℕ) → false ≡ true → LeavesLacking v a n
no_lacking v a n is = absurd (both_ways false refl is)

-- what is spent after them is what is promised of none before
spent_covered : (xs : List Change) (v w : Raid) (a b : RackView) → IsCalled xs v w a b → (n : ℕ) → is_failed w n ≡ false → Covered v w n (spent_of w n)
spent_covered xs v w a b called n goes y alive =
    let own = (or_parts (is_failed w n) (spent_in (w.arrays n) y) alive).1 in
    (or_from (is_failed v n) (spent_in (v.arrays n) y) (called.still n goes) (called.spares n y goes own), own)

-- an array that was told is told
told_of : (xs : List Change) (v w : Raid) (a b : RackView) → IsCalled xs v w a b → (n : ℕ) → IsTracked v a n → IsTracked w b n
told_of xs v w a b called n told = record {
  joined = subst (λ k. n < k) (sym called.joined) told.joined;
  stood = λ goes.
      let e = by xs v in
      let p = promise_of n (spent_of w n) false false v.state in
      let began = kept_since v.state v.number a (told.stood (called.still n goes)).log in
      let now =
      after xs v w a b called n told goes (spent_of w n) (spent_covered xs v w a b called n goes) false false v.state (none_free n (spent_of w n) false v.state xs)
      (after_same v.state) began (no_rows v a n) (no_lacking v a n) in
      let live = eq-eqb n n refl in
      let vals = called.vals n in
      let made : n < e.state.made = subst (λ (s : State). n < s.made) now.same (called.low n goes) in
      let ready : n < e.state.joined = subst (λ (s : State). n < s.joined) now.same (subst (λ m. n < m) (sym called.joined) told.joined) in
      let shape = (now.alike called.marked n live made).shape in
      stood_own w b n vals called.heeded called.set (called.low n goes)
      (subst (λ (s : State). InvariantInCall s (shape_of (w.arrays n)) vals (spent_of w n) (λ place. false) w b n) (sym now.same)
      (subst (λ (s : Shape). InvariantInCall e.state s vals (spent_of w n) (λ place. false) w b n) (sym shape)
      (subst (λ g. InvariantInCall e.state (shape_of (e.arrays n)) vals (spent_of w n) g w b n) (λ i q. heeded_gone w called.heeded q i)
      (stood_of e w p called.vals b now n live made refl ready))));
  slices = λ goes.
      let began = kept_since v.state v.number a (told.stood (called.still n goes)).log in
      let now =
      after xs v w a b called n told goes (spent_of w n) (spent_covered xs v w a b called n goes) false false v.state (none_free n (spent_of w n) false v.state xs)
      (after_same v.state) began (no_rows v a n) (no_lacking v a n) in
      subst (λ (s : State). AreLive s.made b) (sym now.same) now.slices;
}

pub moments_of : (xs : List Change) (v w : Raid) (a b : RackView) → IsCalled xs v w a b → CrashInvariant v w a b
moments_of xs v w a b called =
    let all : ℕ → Bool = λ y. true in
    let began : (n : ℕ) → IsTracked v a n → is_failed w n ≡ false → HoldsSince v.state a = λ n told goes. kept_since v.state v.number a (told.stood (called.still n goes)).log in
    let free = none_free in
    record {
      still = called.still;
      told = told_of xs v w a b called;
      images = λ n told goes.
          images xs v w a b called n told goes all (nothing v w n) false false v.state (none_free n all false v.state xs) (after_same v.state) (began n told goes) (no_rows v a n) (no_lacking v a n);
      logs = λ n told goes.
          logs xs v w a b called n told goes all (nothing v w n) false false v.state (none_free n all false v.state xs) (after_same v.state) (began n told goes) (no_rows v a n) (no_lacking v a n);
      since = λ n base told goes after holds.
          sinces xs v w a b called n told goes all (nothing v w n) false false base (none_free n all false base xs) after holds (no_rows v a n) (no_lacking v a n);
      framed = λ n told goes.
          framed xs v w a b called n told goes all (nothing v w n) false false v.state (none_free n all false v.state xs) (after_same v.state) (began n told goes) (no_rows v a n) (no_lacking v a n);
      frames = λ n told goes.
          frames xs v w a b called n told goes all (nothing v w n) false false v.state (none_free n all false v.state xs) (after_same v.state) (began n told goes) (no_rows v a n) (no_lacking v a n);
      reach = λ n told goes.
          reach xs v w a b called n told goes all (nothing v w n) false false v.state (none_free n all false v.state xs) (after_same v.state) (began n told goes) (no_rows v a n) (no_lacking v a n);
      reached = λ n told goes.
          reached xs v w a b called n told goes all (nothing v w n) false false v.state (none_free n all false v.state xs) (after_same v.state) (began n told goes) (no_rows v a n) (no_lacking v a n);
      lacking = λ n told goes leaves.
          lacking xs v w a b called n told goes all (nothing v w n) false true v.state (none_free n all true v.state xs) (after_same v.state) (began n told goes) (no_rows v a n) (λ is. leaves) refl leaves.young;
    }

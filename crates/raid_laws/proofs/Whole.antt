-- A whole call, from what it does to each array.
use Rattle.std.proofs.Common.{◌≡◌, ℕ, ◌<◌, ◌≤◌, Bool, true, false, not, Option, Some, unwrap_or, refl, sym, ap, subst, ◌∙◌, inl, inr}
use Rattle.std.proofs.lemmas.Bool.{cases_Bool, cases_lt, both_ways, and_from}
use Rattle.rack.specs.Values.{Values, Keeps}
use Rattle.rack.specs.Seen.{Held, Image, RackView}
use Rattle.rack.specs.Moments.{Leaves}
use Rattle.pool_state.specs.declared.contents.State.{State}
use Rattle.array_image.specs.Arrays.{Shape, replayed, shape_in}
use Rattle.array_image.specs.Held.{held_by}
use Rattle.array_image.specs.States.{is_current}
use Rattle.array_model.specs.View.{has_gone, is_whole_array, shape_of, spent_in}
use Rattle.array_model.specs.Says.{ArrayInvariant}
use Rattle.array_core.specs.Seats.{names}
use Rattle.raid_laws.specs.Raid.{Raid, gone_in, is_left, is_failed, spent_of, held_in, InvariantInCall, StopsInside, IsTracked}
use Rattle.raid_laws.specs.Marking.{TiedBetween}
use Rattle.raid_laws.specs.Reach.{KeepsReach, ReachBetween, reach_same}
use Rattle.raid_laws.specs.Acts.{RaidStays, RaidActs}
use Rattle.raid_laws.specs.Agreeing.{HasOwnRows}
use Rattle.raid_laws.specs.Moves.{IsTrackedInCall, IsHeeded, IsMarkedWhole, IsSet, ChangesData, SubCall}
use Rattle.raid_laws.proofs.Noted.{gone_some}
use Rattle.raid_laws.proofs.Over.{or_from}
use Rattle.raid_laws.specs.Laws.{live_parts}
use Rattle.raid_laws.proofs.Own.{between_value}
use Rattle.raid_laws.proofs.Sourced.{sourced}
use Rattle.raid_laws.proofs.Told.{own_holds, own_keeps, fewer_stood}

-- ---- between calls

pub heeded_gone : (v : Raid) → IsHeeded v → (p : ℕ) → gone_in v p ≡ false
heeded_gone v heeded p =
    elim (cases_Bool (gone_in v p)) [
      | inl is ↦
          let at = gone_some v p is in
          absurd (both_ways (has_gone (v.arrays at.1.0) p) (ap (λ ps. names ps p) (heeded at.1.0 at.1.1)) at.1.2)
      | inr none ↦ none
    ]

-- so a current place is left
pub heeded_left : (v : Raid) (p : ℕ) → IsHeeded v → is_current v.state p ≡ true → is_left v p ≡ true
heeded_left v p heeded current = and_from (is_current v.state p) (not (gone_in v p)) current (ap not (heeded_gone v heeded p))

-- so an array that this run has marked is whole
pub heeded_whole : (v : Raid) (n : ℕ) → IsHeeded v → IsMarkedWhole v n → (v.arrays n).marked ≡ true → is_whole_array (v.arrays n) ≡ true
heeded_whole v n heeded whole marked =
    elim (whole marked) [
      | inl all ↦ all
      | inr some ↦ absurd (both_ways (gone_in v some.0) (heeded_gone v heeded some.0) some.2)
    ]

-- so an array has its own rows
pub own_rows : (v : Raid) (x : RackView) (n : ℕ) → IsSet v x → IsHeeded v → n < v.state.made → HasOwnRows (v.arrays n)
own_rows v x n set heeded low =
    let seated = set.arrays n low in
    record {
      is_array = seated.is_array;
      rows = λ young part.
          elim (seated.is_of_pool.synced young part) [
            | inl rows ↦ rows
            | inr some ↦ absurd (both_ways (has_gone (v.arrays n) some.0) (ap (λ ps. names ps some.0) (heeded n low)) some.2)
          ];
    }

-- an array between calls, as one at some point of a call
pub told_amid : (v : Raid) (x : RackView) (n : ℕ) (spent : ℕ → Bool) → IsHeeded v → IsTracked v x n → is_failed v n ≡ false
    → ((y : ℕ) → spent y ≡ false → spent_of v n y ≡ false) → IsTrackedInCall v x n (held_in v x n) spent
told_amid v x n spent heeded told goes fewer =
    record {
      durable = shape_of (v.arrays n);
      stood = subst (λ g. InvariantInCall v.state (shape_of (v.arrays n)) (held_in v x n) spent g v x n) (λ i p. sym (heeded_gone v heeded p) i)
          (fewer_stood v.state (shape_of (v.arrays n)) (held_in v x n) (spent_of v n) spent (λ place. false) v x n fewer (told.stood goes));
      slices = told.slices goes;
      marked = λ are. refl;
      noted = reach_same (is_left v) (shape_of (v.arrays n));
    }

-- and the other way round, by its own shape
pub amid_stood : (v : Raid) (x : RackView) (n : ℕ) (vals : ℕ → Values) (spent : ℕ → Bool) → IsHeeded v → IsTrackedInCall v x n vals spent
    → InvariantInCall v.state (shape_of (v.arrays n)) vals spent (λ place. false) v x n
amid_stood v x n vals spent heeded amid =
    subst (λ g. InvariantInCall v.state (shape_of (v.arrays n)) vals spent g v x n) (λ i p. heeded_gone v heeded p i)
    (subst (λ (shape : Shape). InvariantInCall v.state shape vals spent (gone_in v) v x n) (amid.marked (λ p current. heeded_gone v heeded p)) amid.stood)

-- an array that stands between calls stands so with what its sectors hold
pub stood_own : (v : Raid) (x : RackView) (n : ℕ) (vals : ℕ → Values) → IsHeeded v → IsSet v x → n < v.state.made
    → InvariantInCall v.state (shape_of (v.arrays n)) vals (spent_of v n) (λ place. false) v x n
    → InvariantInCall v.state (shape_of (v.arrays n)) (held_in v x n) (spent_of v n) (λ place. false) v x n
stood_own v x n vals heeded set low stood =
    let source = sourced (v.arrays n) (spent_of v n) x (set.arrays n low).is_array (heeded_whole v n heeded (set.marked n low))
    (λ y alive. (live_parts v n y alive).1) stood.holds.shape.settled in
    record {
      joined = stood.joined;
      few = stood.few;
      number = stood.number;
      log = stood.log;
      someone = stood.someone;
      written = stood.written;
      holds = subst (λ k. ArrayInvariant v.state (shape_of (v.arrays n)) (v.arrays n) (held_by (shape_of (v.arrays n)) x.held k) (spent_of v n) x) stood.number
          (own_holds v.state (v.arrays n) vals (spent_of v n) x source stood.holds);
    }

-- and these are among the values with which it stands
pub stood_keeps : (v : Raid) (x : RackView) (n y : ℕ) (vals : ℕ → Values) → InvariantInCall v.state (shape_of (v.arrays n)) vals (spent_of v n) (λ place. false) v x n
    → spent_of v n y ≡ false → Keeps (vals y) (held_in v x n y)
stood_keeps v x n y vals stood alive =
    subst (λ k. Keeps (vals y) (held_by (shape_of (v.arrays n)) x.held k y)) stood.number
    (own_keeps v.state (v.arrays n) vals (spent_of v n) x y stood.holds.shape alive)

-- ---- a whole call

-- what it does to the arrays that are ready for the volume, where the pool isn't at its end after it
pub record IsWholeCall (v w : Raid) (a b : RackView) (vals : Held) : Type 0 where
  pub stays : RaidStays v w a b
  pub leaves : a.traced → Leaves a b (λ c. Unit {0})
  pub still : (n : ℕ) → is_failed w n ≡ false → is_failed v n ≡ false
  pub joined : w.state.joined ≡ v.state.joined
  pub low : (n : ℕ) → is_failed w n ≡ false → n < w.state.made
  pub before : IsHeeded v
  pub after : IsHeeded w
  pub set : IsSet w b
  pub parts : (n : ℕ) → n < v.state.joined → is_failed w n ≡ false → SubCall v w a b n (held_in v a n) (vals n) (spent_of w n)

-- how far members count by the shape that contents say
pub tied_reach : (v w : Raid) (n : ℕ) (vals : ℕ → Values) (spent : ℕ → Bool) (r : Image)
    → TiedBetween v.state w.state (shape_of (v.arrays n)) (shape_of (w.arrays n)) n vals spent r → ReachBetween v w n r
tied_reach v w n vals spent r at s shape state is =
    let by = at.says in
    let same : by.state ≡ s = ap (λ (o : Option State). unwrap_or o s) (sym by.is_state ∙ state) in
    let same_shape : by.shape ≡ shape =
    ap (λ (o : Option Shape). unwrap_or o shape) (sym by.says.shape_is ∙ subst (λ (k : State). shape_in k r n ≡ Some shape) (sym same) is) in (
      subst (λ (k : State). KeepsReach k (shape_of (v.arrays n)) shape) same (subst (λ (z : Shape). KeepsReach by.state (shape_of (v.arrays n)) z) same_shape at.from),
      subst (λ (z : Shape). KeepsReach w.state z (shape_of (w.arrays n))) same_shape at.to,
    )

module _ (v w : Raid) (a b : RackView) (vals : Held) (call : IsWholeCall v w a b vals) where
  -- what an array that was told stands for before it and after it
  pub before_amid : (n : ℕ) → IsTracked v a n → is_failed w n ≡ false → IsTrackedInCall v a n (held_in v a n) (spent_of w n)
  before_amid n told goes = told_amid v a n (spent_of w n) call.before told (call.still n goes) (λ y alive. call.stays.spent n y alive)

  after_amid : (n : ℕ) → IsTracked v a n → is_failed w n ≡ false → IsTrackedInCall w b n (vals n) (spent_of w n)
  after_amid n told goes = (call.parts n told.joined goes).holds (before_amid n told goes)

  -- images go by the run's own shape before it, and after it
  pub ends_by : (X : Shape → Shape → Type 0) (n : ℕ) (told : IsTracked v a n) (goes : is_failed w n ≡ false)
      → X (before_amid n told goes).durable ((call.parts n told.joined goes).holds (before_amid n told goes)).durable → X (shape_of (v.arrays n)) (shape_of (w.arrays n))
  ends_by X n told goes by =
      subst (λ (last : Shape). X (shape_of (v.arrays n)) last) (((call.parts n told.joined goes).holds (before_amid n told goes)).marked (λ p current. heeded_gone w call.after p))
      (subst (λ (first : Shape). X first ((call.parts n told.joined goes).holds (before_amid n told goes)).durable)
      ((before_amid n told goes).marked (λ p current. heeded_gone v call.before p)) by)

  after_stood : (n : ℕ) → IsTracked v a n → is_failed w n ≡ false → InvariantInCall w.state (shape_of (w.arrays n)) (vals n) (spent_of w n) (λ place. false) w b n
  after_stood n told goes = amid_stood w b n (vals n) (spent_of w n) call.after (after_amid n told goes)

  -- the same, with what its sectors hold
  own_stood : (n : ℕ) → IsTracked v a n → is_failed w n ≡ false
      → InvariantInCall w.state (shape_of (w.arrays n)) (held_in w b n) (spent_of w n) (λ place. false) w b n
  own_stood n told goes = stood_own w b n (vals n) call.after call.set (call.low n goes) (after_stood n told goes)

  pub raid_acts : RaidActs v w a b vals
  raid_acts =
      record {
        stays = call.stays;
        told = λ n told.
            record {
              joined = subst (λ k. n < k) (sym call.joined) told.joined;
              stood = λ goes. own_stood n told goes;
              slices = λ goes. (after_amid n told goes).slices;
            };
        leaves = λ traced.
            let all = call.leaves traced in
            record {
              later = all.later;
              kept = all.kept;
              past = all.past;
              new = λ k c after until stopped n y told alive.
                  let goes = (live_parts w n y alive).0 in
                  between_value v.state w.state n (vals n) (spent_of w n) (replayed a.sectors c) y
                  (((call.parts n told.joined goes).leaves traced).new k c after until stopped
                  (λ d t out. call.stays.inside k c stopped d t (subst (λ i. i ≤ t) (sym (call.stays.below.sectors d)) out))
                  (before_amid n told goes)).says
                  alive;
            };
        held = λ n y told alive. stood_keeps w b n y (vals n) (after_stood n told (live_parts w n y alive).0) alive;
      }

-- a call that may write
pub brings_whole : (v w : Raid) (a b : RackView) (now : ℕ → (ℕ → Values) → ℕ → Values) → ChangesData v w a b now → IsHeeded v → IsHeeded w → StopsInside b
    → ((n : ℕ) → w.state.made ≤ n → is_failed w n ≡ true) → IsWholeCall v w a b (λ n. now n (held_in v a n))
brings_whole v w a b now brings before after inside none =
    record {
      stays = record {
        below = brings.stays;
        lasting = brings.set.lasting;
        inside = inside;
        made = brings.book.same.made;
        sectors = brings.sectors;
        spent = λ n y alive.
            let parts = live_parts w n y alive in
            or_from (is_failed v n) (spent_in (v.arrays n) y) (brings.still n (low n parts.0) parts.0) (brings.spent n y (low n parts.0) parts.1);
      };
      leaves = brings.leaves;
      still = λ n goes. brings.still n (low n goes) goes;
      joined = brings.book.same.joined;
      low = λ n goes. subst (λ k. n < k) (sym brings.book.same.made) (low n goes);
      before = before;
      after = after;
      set = brings.set;
      parts = λ n joined goes. brings.parts n (held_in v a n) (spent_of w n) joined (low n goes) goes (λ y alive. (live_parts w n y alive).1);
    }
  where
    low : (n : ℕ) → is_failed w n ≡ false → n < v.state.made
    low n goes = elim (cases_lt n w.state.made) [
      | inl below ↦ subst (λ k. n < k) brings.book.same.made below
      | inr past ↦ absurd (both_ways (is_failed w n) goes (none n past))
    ]

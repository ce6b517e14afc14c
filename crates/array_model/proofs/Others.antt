-- A call of one array leaves every other array what it held.
use Rattle.std.proofs.Common.{◌≡◌, ◌≢◌, ◌⊎◌, ℕ, ◌+◌, ◌<◌, Bool, true, false, ◌==◌, ◌&&◌, ◌||◌, nat_lt, length, if◌then◌else◌, Some, refl, sym, ap, subst, ◌∙◌, inl, inr, eq-eqb, eqb-true, ltb-true, ltb-false, arith, []}
use Rattle.std.proofs.lemmas.Bool.{both_ways}
use Rattle.rack.specs.Values.{Values, MayLeave, Keeps}
use Rattle.rack.specs.Seen.{Image, RackView, IsLive, SameRack}
use Rattle.pool_state.specs.declared.contents.State.{State}
use Rattle.array_image.specs.Places.{slice_of, log_slice, member_slice, data_sector}
use Rattle.array_image.specs.Arrays.{Shape, replayed}
use Rattle.array_image.specs.States.{state_in}
use Rattle.array_image.proofs.Frames.{Agree, supers_same, truth_by_supers, state_same, shape_same, value_same}
use Rattle.array_image.proofs.Replays.{replayed_as_is}
use Rattle.array_image.proofs.SoundFrames.{sound_same}
use Rattle.array_model.specs.View.{View, shape_of, may_vary}
use Rattle.array_image.specs.Left.{reading, Picks, IsLeft, IsApart, PendingOnlyFor}
use Rattle.array_model.specs.Says.{IsOpen, ShapeInvariant, ArrayInvariant}
use Rattle.array_model.proofs.Keeping.{reading_live, reading_outside, inside_before, logs_of, KeepsData, live_on, live_after, open_after, same_value, held_kept, even_kept, settled_kept}

-- the sectors of another array are apart
pub other_apart : (n m place t : ℕ) → n < 16 → m < 16 → (m ≡ n → ⊥) → IsApart n (member_slice place m) t
other_apart n m place t few also other =
    (λ same. absurd (other (omega (arith, few, also, same))), inl (λ none. absurd (omega (arith, also, none))))

-- contents that keep the sectors apart from an array, and have those of it as they read
apart_only : (n : ℕ) (x : RackView) (c : Image) → Image
apart_only n x c d t = if (slice_of d == n + 1) || ((slice_of d == 0) && nat_lt 0 t) then reading x d t else c d t

-- a test of one that is apart
not_apart : (n d t : ℕ) → IsApart n d t → ((slice_of d == n + 1) || ((slice_of d == 0) && nat_lt 0 t)) ≡ true → ⊥
not_apart n d t apart is =
    let Goal : Bool → Bool → Bool → Type 0 = λ own log later. (slice_of d == n + 1) ≡ own → (slice_of d == 0) ≡ log → nat_lt 0 t ≡ later → (own || (log && later)) ≡ true → ⊥ in
    let goal : Goal (slice_of d == n + 1) (slice_of d == 0) (nat_lt 0 t) =
    elim (slice_of d == n + 1) as (λ own. Goal own (slice_of d == 0) (nat_lt 0 t)) [
      | true ↦ λ own log later now. apart.0 (eqb-true (slice_of d) (n + 1) own)
      | false ↦ elim (slice_of d == 0) as (λ log. Goal false log (nat_lt 0 t)) [
        | false ↦ λ own log later now. both_ways false refl now
        | true ↦ λ own log later now.
            elim apart.1 [
              | inl other ↦ other (eqb-true (slice_of d) 0 log)
              | inr first ↦ absurd (omega (arith, first, ltb-true 0 t (later ∙ now)))
            ]
      ]
    ] in
    goal refl refl refl is

-- and of one that isn't
is_apart : (n d t : ℕ) → ((slice_of d == n + 1) || ((slice_of d == 0) && nat_lt 0 t)) ≡ false → IsApart n d t
is_apart n d t isnt =
    let parts = or_false (slice_of d == n + 1) ((slice_of d == 0) && nat_lt 0 t) isnt in
    (λ same. both_ways (slice_of d == n + 1) parts.0 (eq-eqb (slice_of d) (n + 1) same), log_part (slice_of d == 0) (nat_lt 0 t) refl refl parts.1)
  where
    or_false : (p q : Bool) → (p || q) ≡ false → (p ≡ false) × (q ≡ false)
    or_false true q is = absurd (both_ways true is refl)
    or_false false q is = (refl, is)

    log_part : (log later : Bool) → (slice_of d == 0) ≡ log → nat_lt 0 t ≡ later → (log && later) ≡ false → (slice_of d ≢ 0) ⊎ (t ≡ 0)
    log_part false later at after now = inl (λ same. both_ways (slice_of d == 0) at (eq-eqb (slice_of d) 0 same))
    log_part true false at after now = inr (let low = ltb-false 0 t after in omega arith)
    log_part true true at after now = absurd (both_ways true now refl)

apart_kept : (n : ℕ) (x : RackView) (c : Image) (d t : ℕ) → IsApart n d t → c d t ≡ apart_only n x c d t
unfolding apart_only
apart_kept n x c d t apart =
    let Goal : Bool → Type 0 = λ b. ((slice_of d == n + 1) || ((slice_of d == 0) && nat_lt 0 t)) ≡ b → c d t ≡ (if b then reading x d t else c d t) in
    let goal : Goal ((slice_of d == n + 1) || ((slice_of d == 0) && nat_lt 0 t)) =
    elim ((slice_of d == n + 1) || ((slice_of d == 0) && nat_lt 0 t)) as Goal [
      | true ↦ λ is. absurd (not_apart n d t apart is)
      | false ↦ λ no. refl
    ] in
    goal refl

-- they are picks of what was held before
apart_picks : {a b : RackView} (n : ℕ) → a.lasting → SameRack a b
    → ((d t : ℕ) → IsLive a b d t → IsApart n d t → Keeps (a.held d t) (b.held d t))
    → (c : Image) → Picks b c → Picks a (apart_only n a c)
unfolding apart_only
apart_picks {a} {b} n lasting stays keeps c picks =
    record {
      picks = λ d t live.
          let over = live_on lasting stays live in
          let Goal : Bool → Type 0 = λ test. ((slice_of d == n + 1) || ((slice_of d == 0) && nat_lt 0 t)) ≡ test → MayLeave (a.held d t) (if test then reading a d t else c d t) in
          let goal : Goal ((slice_of d == n + 1) || ((slice_of d == 0) && nat_lt 0 t)) =
          elim ((slice_of d == n + 1) || ((slice_of d == 0) && nat_lt 0 t)) as Goal [
            | true ↦ λ is. inl (reading_live a d t live)
            | false ↦ λ no. (keeps d t over (is_apart n d t no)).within (c d t) (picks.picks d t (live_after stays over))
          ] in
          goal refl;
      inside = λ d t out.
          elim ((slice_of d == n + 1) || ((slice_of d == 0) && nat_lt 0 t)) as (λ test. (if test then reading a d t else c d t) ≡ []) [
            | true ↦ reading_outside a d t out
            | false ↦ inside_before stays c picks.inside d t out
          ];
    }

-- Contents that a stop leaves after a call of array n are, apart from it, such as one before might leave.
pub apart_left : {a b : RackView} (n : ℕ) → a.lasting → SameRack a b
    → ((d t : ℕ) → IsLive a b d t → IsApart n d t → Keeps (a.held d t) (b.held d t))
    → PendingOnlyFor n a → PendingOnlyFor n b
    → (r : Image) → IsLeft b r → (e : Image) × IsLeft a e × ((d t : ℕ) → IsApart n d t → r d t ≡ e d t)
apart_left {a} {b} n lasting stays keeps calm calm_now r left =
    let c = left.0 in
    let before : Image = apart_only n a c in
    let picks = apart_picks n lasting stays keeps c left.1 in (
      replayed a.sectors before,
      (before, picks, λ d t. refl),
      λ d t apart.
          left.2 d t
          ∙ replayed_as_is b.sectors c _ _ (calm_now c (logs_of c left.1) d t apart)
          ∙ apart_kept n a c d t apart
          ∙ sym (replayed_as_is a.sectors before _ _ (calm before (logs_of before picks) d t apart)),
    )

-- Every other array m holds after a call of array n what it held before it.
pub other_holds : {a b : RackView} (n m : ℕ) → n < 16 → m < 16 → (m ≡ n → ⊥)
    → a.lasting → SameRack a b
    → ((d t : ℕ) → IsLive a b d t → IsApart n d t → Keeps (a.held d t) (b.held d t))
    → PendingOnlyFor n a → PendingOnlyFor n b
    → (s : State) (durable noted : Shape) (resync : ℕ) (vary : Bool) (vals : ℕ → Values) (spent : ℕ → Bool)
    → ShapeInvariant s m durable noted resync vary vals spent a → ShapeInvariant s m durable noted resync vary vals spent b
other_holds {a} {b} n m few also other lasting stays keeps calm calm_now s durable noted resync vary vals spent holds =
    let sectors_keep : (shape : Shape) → IsOpen shape m a → KeepsData shape m a.held b.held =
    λ shape is_open o sector among counts.
    keeps (member_slice o.place m) (data_sector + sector) (live_on lasting stays (is_open o sector among counts)) (other_apart n m o.place (data_sector + sector) few also other) in
    let left = sectors_keep noted holds.open_left in
    record {
      open_slices = open_after lasting stays durable m holds.open_slices;
      open_left = open_after lasting stays noted m holds.open_left;
      says = λ r left_b.
          let at = apart_left n lasting stays keeps calm calm_now r left_b in
          let e : Image = at.0 in
          let agree : Agree m r e = λ place t. at.2 (member_slice place m) t (other_apart n m place t few also other) in
          let says = holds.says e at.1 in
          record {
            shape_is = shape_same s r e m agree ∙ says.shape_is;
            value = λ x unspent. subst (MayLeave (vals x)) (sym (value_same durable r e m x agree)) (says.value x unspent);
            is_sound = λ t is. sound_same s r e m t agree (says.is_sound t (sym (truth_by_supers s r e m (supers_same s r e m agree)) ∙ is));
          };
      still = λ c picks_b o sector among counts.
          replayed_as_is b.sectors c _ _ (calm_now c (logs_of c picks_b) (member_slice o.place m) (data_sector + sector) (other_apart n m o.place (data_sector + sector) few also other));
      within = λ y unspent u now. holds.within y unspent u (held_kept a.held b.held durable m y (sectors_keep durable holds.open_slices) u now);
      current = λ y unspent. same_value a.held b.held noted m y left ∙ holds.current y unspent;
      sized = λ o sector among counts. ap length (left o sector among counts).current ∙ holds.sized o sector among counts;
      even = even_kept a.held b.held noted m resync left holds.even;
      settled = λ steady. settled_kept a.held b.held noted m left (holds.settled steady);
    }

-- the same, with its mark and what is pending for it
pub other_holds_all : {a b : RackView} (n : ℕ) (v : View) → n < 16 → v.number < 16 → (v.number ≡ n → ⊥)
    → a.lasting → SameRack a b
    → ((d t : ℕ) → IsLive a b d t → IsApart n d t → Keeps (a.held d t) (b.held d t))
    → PendingOnlyFor n a → PendingOnlyFor n b
    → (s : State) (durable : Shape) (vals : ℕ → Values) (spent : ℕ → Bool)
    → ArrayInvariant s durable v vals spent a → ArrayInvariant s durable v vals spent b
other_holds_all {a} {b} n v few also other lasting stays keeps calm calm_now s durable vals spent holds =
    let m = v.number in
    -- the array's slices that a stop after the call leaves, one before it might
    let same : (r : Image) → IsLeft b r → (e : Image) × IsLeft a e × Agree m r e =
    λ r left_b.
    let c = left_b.0 in
    let kept = apart_only n a c in
    let picks : Picks a kept = apart_picks n lasting stays keeps c left_b.1 in (
      replayed a.sectors kept,
      (kept, picks, λ d u. refl),
      λ place u.
          let apart = other_apart n m place u few also other in
          left_b.2 (member_slice place m) u
          ∙ replayed_as_is b.sectors c _ _ (calm_now c (logs_of c left_b.1) (member_slice place m) u apart)
          ∙ apart_kept n a c (member_slice place m) u apart
          ∙ sym (replayed_as_is a.sectors kept _ _ (calm kept (logs_of kept picks) (member_slice place m) u apart)),
    ) in
    record {
      shape = other_holds n m few also other lasting stays keeps calm calm_now s durable (shape_of v) v.resync (may_vary v) vals spent holds.shape;
      mark = λ marked r left_b t is.
          let at = same r left_b in
          holds.mark marked at.0 at.1 t (sym (truth_by_supers s r at.0 m (supers_same s r at.0 m at.2)) ∙ is);
      truth = λ r left_b t is.
          let at = same r left_b in
          holds.truth at.0 at.1 t (sym (truth_by_supers s r at.0 m (supers_same s r at.0 m at.2)) ∙ is);
      alone = λ r left_b place current foreign.
          let at = same r left_b in
          supers_same s r at.0 m at.2 place ∙ holds.alone at.0 at.1 place current foreign;
      closed = λ none c picks_b place t. replayed_as_is b.sectors c _ _ (calm_now c picks_b (member_slice place m) t (other_apart n m place t few also other));
    }

-- the states' sectors are apart from every array
pub state_apart : (n place : ℕ) → IsApart n (log_slice place) 0
state_apart n place = (λ same. absurd (omega (arith, same)), inr refl)

-- and the state stays
pub state_kept : {a b : RackView} (n : ℕ)
    → a.lasting → SameRack a b
    → ((d t : ℕ) → IsLive a b d t → IsApart n d t → Keeps (a.held d t) (b.held d t))
    → PendingOnlyFor n a → PendingOnlyFor n b
    → (s : State) → ((r : Image) → IsLeft a r → state_in r ≡ Some s) → (r : Image) → IsLeft b r → state_in r ≡ Some s
state_kept {a} {b} n lasting stays keeps calm calm_now s is r left =
    let c = left.0 in
    let before = apart_only n a c in
    let picks : Picks a before = apart_picks n lasting stays keeps c left.1 in
    state_same r (replayed a.sectors before)
    (λ place.
    let apart = state_apart n place in
    left.2 (log_slice place) 0
    ∙ replayed_as_is b.sectors c _ _ (calm_now c (logs_of c left.1) (log_slice place) 0 apart)
    ∙ apart_kept n a c (log_slice place) 0 apart
    ∙ sym (replayed_as_is a.sectors before _ _ (calm before (logs_of before picks) (log_slice place) 0 apart)))
    ∙ is (replayed a.sectors before) (before, picks, λ d t. refl)

-- The parts of a call of one array, one after the other.
use Rattle.std.proofs.Common.{◌≡◌, ℕ, ◌+◌, ◌≤◌, Bool, true, false, ◌==◌, if◌then◌else◌, [], refl, sym, ap, subst, ◌∙◌, inl, eq-eqb}
use Rattle.std.proofs.lemmas.Bool.{both_ways}
use Rattle.rack.specs.Values.{Values, MayLeave, Keeps}
use Rattle.rack.specs.Seen.{Image, RackView, IsLive, SameRack}
use Rattle.rack.specs.Moments.{Leaves}
use Rattle.rack.specs.Joins.{keeps_then, leaves_weaker, leaves_then, stays_then, live_first, live_second}
use Rattle.pool_state.specs.declared.contents.State.{State}
use Rattle.array_image.specs.Places.{slice_of, log_slice}
use Rattle.array_image.specs.Arrays.{Shape, replayed}
use Rattle.array_image.proofs.Replays.{SameLogs, replayed_same, whole_same}
use Rattle.array_image.specs.Left.{reading, IsInside, Picks, IsApart, TargetsExist, PendingOnlyFor, TargetsInside}
use Rattle.array_model.specs.View.{View, IsNoted}
use Rattle.array_model.specs.Says.{ArrayInvariant}
use Rattle.array_model.specs.ArrayCalls.{ArrayCall, ImageInCall}
use Rattle.array_model.proofs.Keeping.{reading_live, reading_outside, live_on, live_after, logs_before}
use Rattle.array_model.proofs.OwnWrites.{without_own, kept_other, log_other}

-- A part of a call of array n: where H holds before it, contents have P at each moment of it, and Q holds after it.
pub record CallRefines (n : ℕ) (a b : RackView) (H : Type 0) (P : Image → Type 0) (Q : Type 0) : Type 0 where
  pub stays : SameRack a b
  pub leaves : a.traced → Leaves a b (λ c. IsInside a.sectors c → ImageInCall n a b (λ r. H → P r) c)
  pub holds : H → Q
  pub apart : (d t : ℕ) → IsLive a b d t → IsApart n d t → Keeps (a.held d t) (b.held d t)
  pub calm : PendingOnlyFor n a → PendingOnlyFor n b
  pub bounded : TargetsExist a → TargetsExist b

-- nothing was written outside an array's slices
abbrev pub KeepsOthers : ℕ → RackView → RackView → Type 0
KeepsOthers n a b = (d t : ℕ) → IsLive a b d t → (slice_of d ≡ n + 1 → ⊥) → Keeps (a.held d t) (b.held d t)

-- contents from after such a part, with the array's slices as they read before it
picks_early : (n : ℕ) (a b : RackView) (c : Image) → a.lasting → SameRack a b → KeepsOthers n a b → Picks b c → Picks a (without_own n a c)
picks_early n a b c lasting stays keeps picks =
    record {
      picks = λ d t live.
          let over = live_on lasting stays live in
          let Goal : Bool → Type 0 = λ test. (slice_of d == n + 1) ≡ test → MayLeave (a.held d t) (if test then reading a d t else c d t) in
          let goal : Goal (slice_of d == n + 1) = elim (slice_of d == n + 1) as Goal [
            | true ↦ λ is. inl (reading_live a d t live)
            | false ↦ λ no.
                (keeps d t over (λ own. both_ways (slice_of d == n + 1) no (eq-eqb (slice_of d) (n + 1) own))).within (c d t)
                (picks.picks d t (live_after stays over))
          ] in
          goal refl;
      inside = λ d t out.
          elim (slice_of d == n + 1) as (λ test. (if test then reading a d t else c d t) ≡ []) [
            | true ↦ reading_outside a d t out
            | false ↦ picks.inside d t (subst (λ k. k ≤ t) (sym (stays.sectors d)) out)
          ];
    }

turns_early : (n : ℕ) (a b c : RackView) (H Q : Type 0) (P : Image → Type 0) (i : Image)
    → a.lasting → SameRack a b → KeepsOthers n a b → (H → Q) → ImageInCall n b c (λ r. Q → P r) i → ImageInCall n a c (λ r. H → P r) i
turns_early n a b c H Q P i lasting stays keeps next turn =
    let e = turn.left.0 in
    let early = without_own n a e in
    let logs : SameLogs e early = λ place u. kept_other n a e (log_slice place) u (log_other place n) in
    let now : (j : Image) (d t : ℕ) → replayed b.sectors j d t ≡ replayed a.sectors j d t =
    λ j d t. ap (λ (sectors : ℕ → ℕ). replayed sectors j d t) (λ k q. stays.sectors q k) in
    record {
      before = replayed a.sectors early;
      left = (early, picks_early n a b e lasting stays keeps turn.left.1, λ d t. refl);
      others = λ d t apart.
          sym (now i d t) ∙ turn.others d t apart ∙ turn.left.2 d t ∙ now e d t ∙ replayed_same a.sectors e early d t logs (kept_other n a e d t apart.0);
      own = λ holds. subst (λ (sectors : ℕ → ℕ). P (replayed sectors i)) (λ k d. stays.sectors d k) (turn.own (next holds));
      whole = λ whole. turn.whole (whole_same e early logs whole);
      calm = λ calm. turn.calm (λ j picks. calm j (logs_before lasting stays (λ place u live. keeps (log_slice place) u live (log_other place n)) j picks));
      bounded = λ bounded.
          let same : b.sectors ≡ a.sectors = λ k d. stays.sectors d k in
          subst (λ (sectors : ℕ → ℕ). TargetsInside sectors i) same
          (turn.bounded
          (λ j picks.
          subst (λ (sectors : ℕ → ℕ). TargetsInside sectors j) (sym same)
          (bounded j (logs_before lasting stays (λ place u live. keeps (log_slice place) u live (log_other place n)) j picks))));
    }

-- Two parts in a row are one, where the first wrote to the array's own slices alone.
pub moves_then : (n : ℕ) (a b c : RackView) (H Q R : Type 0) (P : Image → Type 0)
    → a.lasting → KeepsOthers n a b → CallRefines n a b H P Q → CallRefines n b c Q P R → CallRefines n a c H P R
moves_then n a b c H Q R P lasting keeps one two =
    let Goal : Image → Type 0 = λ i. IsInside a.sectors i → ImageInCall n a c (λ r. H → P r) i in
    record {
      stays = stays_then one.stays two.stays;
      leaves = λ traced.
          leaves_then Goal
          (leaves_weaker (λ i. IsInside a.sectors i → ImageInCall n a b (λ r. H → P r) i) Goal
          (λ i turn inside. let t = turn inside in record { before = t.before; left = t.left; others = t.others; own = t.own; whole = t.whole; calm = t.calm; bounded = t.bounded })
          (one.leaves traced))
          (leaves_weaker (λ i. IsInside b.sectors i → ImageInCall n b c (λ r. Q → P r) i) Goal
          (λ i turn inside.
          turns_early n a b c H Q P i lasting one.stays keeps one.holds (turn (λ d t out. inside d t (subst (λ k. k ≤ t) (one.stays.sectors d) out))))
          (two.leaves (one.stays.traced traced)));
      holds = λ holds. two.holds (one.holds holds);
      apart = λ d t live apart. keeps_then _ _ _ (one.apart d t (live_first two.stays live) apart) (two.apart d t (live_second one.stays live) apart);
      calm = λ calm. two.calm (one.calm calm);
      bounded = λ bounded. two.bounded (one.bounded bounded);
    }

-- a part by more and for less
pub moves_by : (n : ℕ) (a b : RackView) (G H Q R : Type 0) (O P : Image → Type 0)
    → (G → H) → ((r : Image) → O r → P r) → (Q → R) → CallRefines n a b H O Q → CallRefines n a b G P R
moves_by n a b G H Q R O P before during after moves =
    record {
      stays = moves.stays;
      leaves = λ traced.
          leaves_weaker (λ i. IsInside a.sectors i → ImageInCall n a b (λ r. H → O r) i) (λ i. IsInside a.sectors i → ImageInCall n a b (λ r. G → P r) i)
          (λ i turn inside.
          let t = turn inside in
          record {
            before = t.before;
            left = t.left;
            others = t.others;
            own = λ holds. during (replayed a.sectors i) (t.own (before holds));
            whole = t.whole;
            calm = t.calm;
            bounded = t.bounded;
          })
          (moves.leaves traced);
      holds = λ holds. after (moves.holds (before holds));
      apart = moves.apart;
      calm = moves.calm;
      bounded = moves.bounded;
    }

-- ---- the clause of a call

pub moves_of : (s : State) (v w : View) (spent : ℕ → Bool) (a b : RackView) (durable : Shape) (vals : ℕ → Values) (during : Image → Type 0) (after : Shape) (vals_after : ℕ → Values)
    → ArrayCall s v w spent a b durable vals during after vals_after
    → CallRefines v.number a b (ArrayInvariant s durable v vals spent a) during (ArrayInvariant s after w vals_after spent b)
moves_of s v w spent a b durable vals during after vals_after acts =
    record { stays = acts.stays; leaves = acts.leaves; holds = acts.holds; apart = acts.apart; calm = acts.calm; bounded = acts.bounded }

pub acts_of : (s : State) (v w : View) (spent : ℕ → Bool) (a b : RackView) (durable : Shape) (vals : ℕ → Values) (during : Image → Type 0) (after : Shape) (vals_after : ℕ → Values)
    → CallRefines v.number a b (ArrayInvariant s durable v vals spent a) during (ArrayInvariant s after w vals_after spent b) → IsNoted v w a b
    → ArrayCall s v w spent a b durable vals during after vals_after
acts_of s v w spent a b durable vals during after vals_after moves noted =
    record { stays = moves.stays; noted = noted; leaves = moves.leaves; holds = moves.holds; apart = moves.apart; calm = moves.calm; bounded = moves.bounded }

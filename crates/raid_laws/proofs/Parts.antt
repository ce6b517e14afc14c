-- Parts of a call in a row, and the calls of arrays as parts: each seen from one array.
use Rattle.std.proofs.Common.{◌≡◌, ℕ, ◌<◌, Bool, true, false, Some, refl, sym, ap, subst, ◌∙◌, inl, inr, arith}
use Rattle.rack.specs.Values.{Values}
use Rattle.rack.specs.Seen.{Image, RackView}
use Rattle.rack.specs.Joins.{leaves_weaker}
use Rattle.pool_state.specs.declared.contents.State.{State}
use Rattle.array_image.specs.Places.{log_slice, member_slice}
use Rattle.array_image.specs.States.{state_in, is_current}
use Rattle.array_image.specs.Arrays.{Shape, replayed, shape_in}
use Rattle.array_image.specs.Left.{IsInside, IsApart}
use Rattle.array_image.proofs.Frames.{Agree, state_same}
use Rattle.log_laws.specs.Kept.{LogInvariant}
use Rattle.log_laws.specs.Saying.{HoldsCopies}
use Rattle.log_laws.proofs.Kept.{stands_of, kept_replayed}
use Rattle.array_model.specs.View.{View}
use Rattle.array_model.specs.Says.{ImageShowsArray, ArrayInvariant}
use Rattle.array_model.specs.ArrayCalls.{ArrayCall, ImageInCall}
use Rattle.array_model.proofs.Moves.{CallRefines as CallMoves, moves_by, moves_of}
use Rattle.array_model.proofs.Others.{other_holds_all}
use Rattle.raid_laws.specs.Book.{after_same}
use Rattle.raid_laws.specs.Raid.{Raid, InvariantInCall, IsWritten}
use Rattle.raid_laws.specs.Frames.{Frame, HasFrame, KeepsFrame, frame_of}
use Rattle.raid_laws.specs.Logs.{KeepsLogs}
use Rattle.raid_laws.specs.Marking.{Part, TiedBetween}
use Rattle.raid_laws.specs.Reach.{KeepsReach, reach_same}
use Rattle.raid_laws.specs.Laws.{stood_left}
use Rattle.raid_laws.proofs.Frames.{frame_same, left_frame, shape_frame, shaped_frame}
use Rattle.raid_laws.proofs.Logs.{kept_calm, logs_call}
use Rattle.raid_laws.proofs.Own.{says_same, tied_at}

-- ---- a call of the array itself

-- contents that turn in an array's slices alone have the state from before
pub turned_state : (s : State) (durable : Shape) (vals : ℕ → Values) (spent gone : ℕ → Bool) (v : Raid) (a b : RackView) (n m : ℕ) (P : Image → Type 0) (c : Image)
    → InvariantInCall s durable vals spent gone v a n → ImageInCall m a b P c → state_in (replayed a.sectors c) ≡ Some s
turned_state s durable vals spent gone v a b n m P c stood turns =
    let before = turns.left.0 in
    state_same (replayed a.sectors c) (replayed a.sectors before)
    (λ place.
    turns.others (log_slice place) 0 (λ same. absurd (omega (arith, same)), inr refl)
    ∙ turns.left.2 (log_slice place) 0)
    ∙ kept_replayed s v.number gone a before stood.someone.0 stood.log (stands_of before turns.left.1) stood.someone.1 stood.someone.2

-- contents say an array whose sectors hold these values, by some shape between these two, of the frame of the first
pub record SaysSome (s : State) (n : ℕ) (first last : Shape) (vals : ℕ → Values) (spent : ℕ → Bool) (r : Image) : Type 0 where
  pub shape : Shape
  pub says : ImageShowsArray s n shape vals spent r
  pub framed : shape_frame shape ≡ shape_frame first
  pub from : KeepsReach s first shape
  pub to : KeepsReach s shape last

-- a call of an array, in which contents say its values
pub acts_some : (s : State) (v w : View) (spent : ℕ → Bool) (a b : RackView) (durable : Shape) (vals now : ℕ → Values)
    → ArrayCall s v w spent a b durable vals (ImageShowsArray s v.number durable now spent) durable now
    → CallMoves v.number a b (ArrayInvariant s durable v vals spent a) (SaysSome s v.number durable durable now spent) (ArrayInvariant s durable w now spent b)
acts_some s v w spent a b durable vals now acts =
    let H : Type 0 = ArrayInvariant s durable v vals spent a in
    let Q : Type 0 = ArrayInvariant s durable w now spent b in
    let same : KeepsReach s durable durable = reach_same (is_current s) durable in
    moves_by v.number a b H H Q Q (ImageShowsArray s v.number durable now spent) (SaysSome s v.number durable durable now spent)
    (λ holds. holds) (λ r says. record { shape = durable; says = says; framed = refl; from = same; to = same }) (λ holds. holds)
    (moves_of s v w spent a b durable vals (ImageShowsArray s v.number durable now spent) durable now acts)

-- Such a call keeps the array's frame, where its shape has it.
pub frame_by : (s : State) (first last : Shape) (g : Frame) (durable : Shape) (vals now : ℕ → Values) (spent gone : ℕ → Bool) (v : Raid) (w : View) (a b : RackView) (n : ℕ) (Q : Type 0)
    → CallMoves (v.arrays n).number a b (ArrayInvariant s durable (v.arrays n) vals spent a) (SaysSome s (v.arrays n).number first last now spent) Q
    → shape_frame first ≡ g → frame_of w.truth ≡ g → InvariantInCall s durable vals spent gone v a n → KeepsFrame g n w a b
frame_by s first last g durable vals now spent gone v w a b n Q moves same after stood =
    let H : Type 0 = ArrayInvariant s durable (v.arrays n) vals spent a in
    let P : Image → Type 0 = SaysSome s (v.arrays n).number first last now spent in
    record {
      leaves = λ traced.
          leaves_weaker
          (λ c. IsInside a.sectors c → ImageInCall (v.arrays n).number a b (λ r. H → P r) c)
          (λ c. IsInside a.sectors c → HasFrame g n (replayed a.sectors c))
          (λ c turn inside.
          let turns = turn inside in
          let own = turns.own stood.holds in
          shaped_frame g s n own.shape (replayed a.sectors c)
          (turned_state s durable vals spent gone v a b n (v.arrays n).number (λ r. H → P r) c stood turns)
          (subst (λ k. shape_in s (replayed a.sectors c) k ≡ Some own.shape) stood.number own.says.shape_is) (own.framed ∙ same))
          (moves.leaves traced);
      after = after;
    }

-- Such a call is a part for the array itself.
pub part_by : (s : State) (durable after : Shape) (vals now : ℕ → Values) (spent gone gone_now : ℕ → Bool) (v w : Raid) (a b : RackView) (n : ℕ)
    → KeepsReach s durable after
    → CallMoves (v.arrays n).number a b (ArrayInvariant s durable (v.arrays n) vals spent a) (SaysSome s (v.arrays n).number durable after now spent) (ArrayInvariant s after (w.arrays n) now spent b)
    → (w.arrays n).number ≡ (v.arrays n).number
    → (LogInvariant s v.number gone a → LogInvariant s w.number gone_now b)
    → ((place : ℕ) × (is_current s place ≡ true) × (gone_now place ≡ false))
    → (IsWritten (v.arrays n) → IsWritten (w.arrays n))
    → (HoldsCopies s a → InvariantInCall s durable vals spent gone v a n → KeepsLogs s s a b)
    → ((g : Frame) → frame_of (v.arrays n).truth ≡ g → InvariantInCall s durable vals spent gone v a n → KeepsFrame g n (w.arrays n) a b)
    → Part s s durable after vals now spent gone gone_now v w a b n
part_by s durable after vals now spent gone gone_now v w a b n reach moves number log someone written logs frame =
    let H : Type 0 = ArrayInvariant s durable (v.arrays n) vals spent a in
    let P : Image → Type 0 = SaysSome s (v.arrays n).number durable after now spent in
    record {
      stays = moves.stays;
      book = after_same s;
      leaves = λ traced.
          leaves_weaker
          (λ c. IsInside a.sectors c → ImageInCall (v.arrays n).number a b (λ r. H → P r) c)
          (λ c. IsInside a.sectors c → InvariantInCall s durable vals spent gone v a n → TiedBetween s s durable after n now spent (replayed a.sectors c))
          (λ c turn inside stood.
          let turns = turn inside in
          let own = turns.own stood.holds in
          tied_at s durable after n own.shape now spent (replayed a.sectors c)
          (turned_state s durable vals spent gone v a b n (v.arrays n).number (λ r. H → P r) c stood turns) own.from own.to
          (subst (λ k. ImageShowsArray s k own.shape now spent (replayed a.sectors c)) stood.number own.says))
          (moves.leaves traced);
      reach = reach;
      holds = λ stood.
          record {
            joined = stood.joined;
            few = stood.few;
            number = number ∙ stood.number;
            log = log stood.log;
            someone = someone;
            written = written stood.written;
            holds = moves.holds stood.holds;
          };
      logs = logs;
      frame = frame;
    }

pub part_own : (s : State) (durable : Shape) (vals now : ℕ → Values) (spent gone gone_now : ℕ → Bool) (v w : Raid) (a b : RackView) (n : ℕ)
    → ArrayCall s (v.arrays n) (w.arrays n) spent a b durable vals (ImageShowsArray s (v.arrays n).number durable now spent) durable now
    → (LogInvariant s v.number gone a → LogInvariant s w.number gone_now b)
    → ((place : ℕ) × (is_current s place ≡ true) × (gone_now place ≡ false))
    → (IsWritten (v.arrays n) → IsWritten (w.arrays n))
    → (HoldsCopies s a → InvariantInCall s durable vals spent gone v a n → KeepsLogs s s a b)
    → ((g : Frame) → frame_of (v.arrays n).truth ≡ g → InvariantInCall s durable vals spent gone v a n → KeepsFrame g n (w.arrays n) a b)
    → Part s s durable durable vals now spent gone gone_now v w a b n
part_own s durable vals now spent gone gone_now v w a b n acts log someone written logs frame =
    part_by s durable durable vals now spent gone gone_now v w a b n (reach_same (is_current s) durable) (acts_some s (v.arrays n) (w.arrays n) spent a b durable vals now acts) acts.noted.same.number
    log someone written logs frame

-- ---- a call of another array

-- the slices of another array are apart
other_slices : (m n place t : ℕ) → m < 16 → n < 16 → (n ≡ m → ⊥) → IsApart m (member_slice place n) t
other_slices m n place t few also other =
    (λ same. absurd (other (omega (arith, few, also, same))), inl (λ none. absurd (omega (arith, also, none))))

-- A call of array m, in which the view of array n stays: n gives its values at each moment, and stands.
pub part_other : (s : State) (durable : Shape) (vals : ℕ → Values) (spent gone gone_now : ℕ → Bool) (v w : Raid) (a b : RackView) (n m : ℕ) (H Q : Type 0) (during : Image → Type 0)
    → m < 16 → n < 16 → (n ≡ m → ⊥) → (v.arrays m).number ≡ m → w.arrays n ≡ v.arrays n
    → a.lasting
    → ((p : ℕ) → is_current s p ≡ true → gone p ≡ false)
    → CallMoves (v.arrays m).number a b H during Q
    → (LogInvariant s v.number gone a → LogInvariant s w.number gone_now b)
    → ((place : ℕ) × (is_current s place ≡ true) × (gone_now place ≡ false))
    → Part s s durable durable vals vals spent gone gone_now v w a b n
part_other s durable vals spent gone gone_now v w a b n m H Q during few also other number same lasting all acts log someone =
    record {
      stays = acts.stays;
      book = after_same s;
      leaves = λ traced.
          leaves_weaker
          (λ c. IsInside a.sectors c → ImageInCall (v.arrays m).number a b (λ r. H → during r) c)
          (λ c. IsInside a.sectors c → InvariantInCall s durable vals spent gone v a n → TiedBetween s s durable durable n vals spent (replayed a.sectors c))
          (λ c turn inside stood.
          let turns = turn inside in
          let before = turns.left.0 in
          let left = stood_left s durable vals spent gone v a n before stood turns.left.1 in
          let agree : Agree n (replayed a.sectors c) (replayed a.sectors before) =
          λ place t.
          turns.others (member_slice place n) t (subst (λ k. IsApart k (member_slice place n) t) (sym number) (other_slices m n place t few also other))
          ∙ turns.left.2 (member_slice place n) t in
          tied_at s durable durable n durable vals spent (replayed a.sectors c)
          (turned_state s durable vals spent gone v a b n (v.arrays m).number (λ r. H → during r) c stood turns)
          (reach_same (is_current s) durable) (reach_same (is_current s) durable)
          (says_same s n durable vals spent (replayed a.sectors c) (replayed a.sectors before) agree left.1))
          (acts.leaves traced);
      reach = reach_same (is_current s) durable;
      holds = λ stood.
          let calm = kept_calm s v.number gone a (v.arrays m).number stood.log all in
          record {
            joined = stood.joined;
            few = stood.few;
            number = ap (λ (u : View). u.number) same ∙ stood.number;
            log = log stood.log;
            someone = someone;
            written = subst IsWritten (sym same) stood.written;
            holds = subst (λ (u : View). ArrayInvariant s durable u vals spent b) (sym same)
                (other_holds_all (v.arrays m).number (v.arrays n) (subst (λ k. k < 16) (sym number) few) (subst (λ k. k < 16) (sym stood.number) also)
                (λ is. other (sym stood.number ∙ is ∙ number)) lasting acts.stays acts.apart calm (acts.calm calm) s durable vals spent stood.holds);
          };
      logs = λ copies stood. logs_call s v.number gone (v.arrays m).number a b H Q during lasting all acts stood.log stood.someone copies;
      frame = λ g framed stood. record {
        leaves = λ traced.
            leaves_weaker
            (λ c. IsInside a.sectors c → ImageInCall (v.arrays m).number a b (λ r. H → during r) c)
            (λ c. IsInside a.sectors c → HasFrame g n (replayed a.sectors c))
            (λ c turn inside.
            let turns = turn inside in
            let before = turns.left.0 in
            let agree : Agree n (replayed a.sectors c) (replayed a.sectors before) =
            λ place t.
            turns.others (member_slice place n) t (subst (λ k. IsApart k (member_slice place n) t) (sym number) (other_slices m n place t few also other))
            ∙ turns.left.2 (member_slice place n) t in
            let state =
            turned_state s durable vals spent gone v a b n (v.arrays m).number (λ r. H → during r) c stood turns
            ∙ sym (stood_left s durable vals spent gone v a n before stood turns.left.1).0 in
            frame_same g n (replayed a.sectors c) (replayed a.sectors before) state agree (left_frame g s durable vals spent gone v a n before framed stood turns.left.1))
            (acts.leaves traced);
        after = ap (λ (u : View). frame_of u.truth) same ∙ framed;
      };
    }

-- A loss: it is noted, the arrays are settled, and one commit marks it.
use Rattle.std.proofs.Common.{◌≡◌, ℕ, ◌+◌, ◌<◌, ◌≤◌, Bool, true, false, if◌then◌else◌, List, [], ◌∷◌, map, take, length, Some, None, unwrap_or, refl, sym, ap, ap₂, subst, ◌∙◌, inl, inr, arith}
use Rattle.rack.specs.Values.{Values, MayLeave}
use Rattle.rack.specs.Seen.{Image, RackView, SameRack}
use Rattle.md_super.specs.declared.superblock.Super.{Super}
use Rattle.pool_state.specs.declared.contents.State.{State}
use Rattle.array_image.specs.Places.{member_slice, data_sector}
use Rattle.array_image.specs.Stripes.{width, position_in, sector_in, there, AgreeIn}
use Rattle.array_image.specs.Arrays.{Member, Shape, place_with, column, layout_at, value_by, shape_in, replayed}
use Rattle.array_image.specs.Supers.{super_in, truth_in}
use Rattle.raid_map.specs.LeftSymmetric.{row_at}
use Rattle.array_image.specs.Held.{Among, current_in, held_of, PicksData, IsSynced}
use Rattle.array_image.specs.Even.{AreEven}
use Rattle.array_image.specs.SoundArray.{IsSoundArray}
use Rattle.array_image.specs.Marks.{unless_gone, lower, lowered}
use Rattle.array_image.proofs.Settled.{settled_value, among_take}
use Rattle.array_image.proofs.Sources.{held_single, held_current, source_counts}
use Rattle.array_image.proofs.Marked.{among_lowered}
use Rattle.array_image.proofs.Noted.{AllButOne, take_lower, noted_value}
use Rattle.array_model.specs.View.{View, IsNoted, shape_of, may_vary}
use Rattle.array_image.specs.Left.{Picks, IsLeft, NothingPending}
use Rattle.array_model.specs.Says.{IsOpen, HoldsData, ShapeInvariant, ArrayInvariant, IsEarlier}
use Rattle.array_model.specs.ArrayCalls.{Keeping}
use Rattle.array_model.proofs.Keeping.{KeepsData, same_value, even_kept, settled_kept, open_after}

-- ---- noting

-- members that all count without the lost places aren't lost
kept_columns : (lost : ℕ → Bool) (c : Image) (array sector : ℕ) (members : List Member)
    → ((m : Member) → Among m (map (lower lost) members) → sector < m.reach)
    → (map (column c array sector) (map (lower lost) members) ≡ map (column c array sector) members)
    × ((m : Member) → Among m members → sector < m.reach)
kept_columns lost c array sector [] count = (refl, λ m among. absurd among)
kept_columns lost c array sector (first ∷ others) count =
    let rest = kept_columns lost c array sector others (λ m among. count m (inr among)) in
    let Goal : Bool → Type 0 = λ b. sector < (if b then 0 else first.reach)
    → (column c array sector (unless_gone b first) ≡ column c array sector first) × (sector < first.reach) in
    let goal : Goal (lost first.place) =
    elim (lost first.place) as Goal [
      | true ↦ λ counts. absurd (omega (arith, counts))
      | false ↦ λ counts. (refl, counts)
    ] in
    let head = goal (count (lower lost first) (inl refl)) in (
      ap₂ (λ v vs. v ∷ vs) head.0 rest.0,
      λ m among. elim among [ inl here ↦ subst (λ (o : Member). sector < o.reach) (sym here) head.1 | inr later ↦ rest.1 m later ],
    )

pub even_noted : (lost : ℕ → Bool) (shape : Shape) (array resync : ℕ) (c : Image) → AreEven shape array resync c → AreEven (lowered lost shape) array resync c
even_noted lost shape array resync c even x inside synced counts =
    let layout = layout_at shape x in
    let sector = sector_in layout x in
    let taken = take_lower lost (width layout) shape.members in
    let kept = kept_columns lost c array sector (take (width layout) shape.members) (λ m among. counts m (subst (λ (ms : List Member). Among m ms) (sym taken) among)) in
    subst (λ stripe. AgreeIn layout (there stripe))
    (sym (ap (map (column c array sector)) taken ∙ kept.0))
    (even x inside synced kept.1)

-- Places that answered Gone are noted: the array holds what it held, for the sectors whose values those that are left give.
pub noted_holds : (s : State) (n : ℕ) (durable noted : Shape) (resync : ℕ) (marked : Bool) (vals : ℕ → Values) (spent spent_now : ℕ → Bool) (x : RackView) (lost : ℕ → Bool)
    → ShapeInvariant s n durable noted resync marked vals spent x
    → ((y : ℕ) → spent_now y ≡ false → spent y ≡ false)
    → ((y : ℕ) → spent_now y ≡ false → value_by (lowered lost noted) (current_in x.held) n y ≡ value_by noted (current_in x.held) n y)
    → ShapeInvariant s n durable (lowered lost noted) resync marked vals spent_now x
noted_holds s n durable noted resync marked vals spent spent_now x lost holds fewer same =
    record {
      open_slices = holds.open_slices;
      open_left = λ m sector among counts. holds.open_left m sector (among_lowered lost sector noted.members m among counts) counts;
      says = λ r left.
          let says = holds.says r left in
          record { shape_is = says.shape_is; value = λ y unspent. says.value y (fewer y unspent); is_sound = says.is_sound };
      still = λ c picks m sector among counts. holds.still c picks m sector (among_lowered lost sector noted.members m among counts) counts;
      within = λ y unspent u left keeps.
          holds.within y (fewer y unspent) u left
          (λ m is. let found = source_counts durable y m is in among_lowered lost (sector_in (layout_at durable y) y) noted.members m (keeps m is) found.counts);
      current = λ y unspent. same y unspent ∙ holds.current y (fewer y unspent);
      sized = λ m sector among counts. holds.sized m sector (among_lowered lost sector noted.members m among counts) counts;
      even = even_noted lost noted n resync (current_in x.held) holds.even;
      settled = λ unmarked m sector among counts. holds.settled unmarked m sector (among_lowered lost sector noted.members m among counts) counts;
    }

-- ---- marking

-- contents that a stop may leave, replayed, pick of the members that are left
pub left_picks : (n : ℕ) (noted : Shape) (x : RackView)
    → IsOpen noted n x
    → ((c : Image) → Picks x c → (m : Member) (sector : ℕ) → Among m noted.members → sector < m.reach
    → replayed x.sectors c (member_slice m.place n) (data_sector + sector) ≡ c (member_slice m.place n) (data_sector + sector))
    → (r : Image) → IsLeft x r → PicksData noted n x.held r
left_picks n noted x is_open still r left m sector among counts =
    subst (MayLeave (held_of x.held n sector m))
    (sym (left.2 (member_slice m.place n) (data_sector + sector) ∙ still left.0 left.1 m sector among counts))
    (left.1.picks (member_slice m.place n) (data_sector + sector) (is_open m sector among counts))

-- an array's data, without what images say
pub data_of : {s : State} {n : ℕ} {durable noted : Shape} {resync : ℕ} {vary : Bool} {vals : ℕ → Values} {spent : ℕ → Bool} {x : RackView}
    → ShapeInvariant s n durable noted resync vary vals spent x → HoldsData n noted resync vals spent x
data_of holds = record { open_left = holds.open_left; current = holds.current; sized = holds.sized; even = holds.even }

-- The commit of a mark: once the members that are left are synced, and it has written superblocks and states that give the
-- array without the lost places, the array holds for the new state what it held for the old one.
pub marked_holds : (t : State) (n : ℕ) (noted : Shape) (resync : ℕ) (marked_now : Bool) (vals : ℕ → Values) (spent : ℕ → Bool) (x y : RackView)
    → HoldsData n noted resync vals spent x
    → IsSynced noted n x.held
    → x.lasting → SameRack x y
    → KeepsData noted n x.held y.held
    → ((c : Image) → Picks y c → (m : Member) (sector : ℕ) → Among m noted.members → sector < m.reach
    → replayed y.sectors c (member_slice m.place n) (data_sector + sector) ≡ c (member_slice m.place n) (data_sector + sector))
    → ((r : Image) → IsLeft y r → (shape_in t r n ≡ Some noted) × ((u : Super) → truth_in t r n ≡ Some u → IsSoundArray t r n u))
    → ShapeInvariant t n noted noted resync marked_now vals spent y
marked_holds t n noted resync marked_now vals spent x y holds settled lasting stays keeps still staged =
    let now_y = settled_kept x.held y.held noted n keeps settled in
    let current : (z : ℕ) → spent z ≡ false → value_by noted (current_in y.held) n z ≡ (vals z).current =
    λ z unspent. same_value x.held y.held noted n z keeps ∙ holds.current z unspent in
    let is_open = open_after lasting stays noted n holds.open_left in
    record {
      open_slices = is_open;
      open_left = is_open;
      says = λ r left.
          record {
            shape_is = (staged r left).0;
            value = λ z unspent. inl (settled_value noted n y.held r now_y (left_picks n noted y is_open still r left) z ∙ current z unspent);
            is_sound = (staged r left).1;
          };
      still = still;
      within = λ z unspent u left keeps. inl (held_single noted n y.held z now_y u left ∙ held_current noted n y.held z ∙ current z unspent);
      current = current;
      sized = λ m sector among counts. ap length (keeps m sector among counts).current ∙ holds.sized m sector among counts;
      even = even_kept x.held y.held noted n resync keeps holds.even;
      settled = λ unmarked. now_y;
    }

-- ---- calls that meet a loss

-- what must hold of a sector that isn't spent, if places are lost: its stripe has all members but one, and isn't left to resync
pub record IsSpared (lost : ℕ → Bool) (shape : Shape) (resync x : ℕ) : Type 0 where
  pub but : AllButOne lost (sector_in (layout_at shape x) x) (take (width (layout_at shape x)) shape.members)
  pub inside : sector_in (layout_at shape x) x < shape.size
  pub synced : row_at (sector_in (layout_at shape x) x) < resync
  pub position : position_in (layout_at shape x) x < length (take (width (layout_at shape x)) shape.members)
  pub two : 2 ≤ length (take (width (layout_at shape x)) shape.members)

-- those that are left give its current value
pub spared_value : (s : State) (n : ℕ) (durable noted : Shape) (resync : ℕ) (vary : Bool) (vals : ℕ → Values) (spent : ℕ → Bool) (x : RackView) (lost : ℕ → Bool) (y : ℕ)
    → ShapeInvariant s n durable noted resync vary vals spent x
    → IsSpared lost noted resync y
    → value_by (lowered lost noted) (current_in x.held) n y ≡ value_by noted (current_in x.held) n y
spared_value s n durable noted resync vary vals spent x lost y holds spared =
    noted_value lost noted n resync (current_in x.held) y holds.even spared.but spared.inside spared.synced
    (λ o among counts. holds.sized o (sector_in (layout_at noted y) y) (among_take (width (layout_at noted y)) noted.members o among) counts)
    spared.position spared.two

-- the number, the rows and the mark are as before
pub record IsLosing (v w : View) (lost : ℕ → Bool) : Type 0 where
  pub number : w.number ≡ v.number
  pub truth : w.truth ≡ v.truth
  pub resync : w.resync ≡ v.resync
  pub shape : shape_of w ≡ lowered lost (shape_of v)
  pub vary : may_vary w ≡ false → may_vary v ≡ false
  pub marked : w.marked ≡ true → v.marked ≡ true
  pub went : w.went ≡ [] → v.went ≡ []

varied : (s : State) (n : ℕ) (durable noted : Shape) (resync : ℕ) (was now : Bool) (vals : ℕ → Values) (spent : ℕ → Bool) (x : RackView)
    → (now ≡ false → was ≡ false)
    → ShapeInvariant s n durable noted resync was vals spent x → ShapeInvariant s n durable noted resync now vals spent x
varied s n durable noted resync was now vals spent x still holds =
    record {
      open_slices = holds.open_slices;
      open_left = holds.open_left;
      says = holds.says;
      still = holds.still;
      within = holds.within;
      current = holds.current;
      sized = holds.sized;
      even = holds.even;
      settled = λ steady. holds.settled (still steady);
    }

-- what an array holds by its view, after a loss is noted
pub losing_holds : (s : State) (durable : Shape) (v w : View) (vals : ℕ → Values) (spent : ℕ → Bool) (x : RackView) (lost : ℕ → Bool)
    → IsLosing v w lost
    → ((y : ℕ) → spent y ≡ false → value_by (lowered lost (shape_of v)) (current_in x.held) v.number y ≡ value_by (shape_of v) (current_in x.held) v.number y)
    → ArrayInvariant s durable v vals spent x → ArrayInvariant s durable w vals spent x
losing_holds s durable v w vals spent x lost losing same holds =
    record {
      shape =
          subst (λ n. ShapeInvariant s n durable (shape_of w) w.resync (may_vary w) vals spent x) (sym losing.number)
          (subst (λ r. ShapeInvariant s v.number durable (shape_of w) r (may_vary w) vals spent x) (sym losing.resync)
          (subst (λ (shape : Shape). ShapeInvariant s v.number durable shape v.resync (may_vary w) vals spent x) (sym losing.shape)
          (varied s v.number durable (lowered lost (shape_of v)) v.resync (may_vary v) (may_vary w) vals spent x losing.vary
          (noted_holds s v.number durable (shape_of v) v.resync (may_vary v) vals spent spent x lost holds.shape (λ y unspent. unspent) same))));
      mark = λ marked r left t is. holds.mark (losing.marked marked) r left t (subst (λ n. truth_in s r n ≡ Some t) losing.number is);
      alone = λ r left place current other.
          subst (λ n. super_in s r n place ≡ None) (sym losing.number)
          (holds.alone r left place current
          (λ n few at. other n (subst (λ (u : Super). n < u.raid_disks) (sym losing.truth) few)
          (ap (λ (u : Super). unwrap_or (place_with u.roles.items n) 16) losing.truth ∙ at)));
      closed = λ none. subst (λ n. NothingPending n x) (sym losing.number) (holds.closed (losing.went none));
      truth = λ r left t is. subst (IsEarlier t) (sym losing.truth) (holds.truth r left t (subst (λ n. truth_in s r n ≡ Some t) losing.number is));
    }

-- Any run of calls that brings no value, in which places went: the array keeps what it says and holds, without them.
pub losing_calls : (a b : RackView) (s : State) (durable : Shape) (v w : View) (vals : ℕ → Values) (spent : ℕ → Bool) (lost : ℕ → Bool)
    → Keeping s v v spent a b durable vals
    → IsNoted v w a b
    → IsLosing v w lost
    → (ArrayInvariant s durable v vals spent b → (y : ℕ) → spent y ≡ false
    → value_by (lowered lost (shape_of v)) (current_in b.held) v.number y ≡ value_by (shape_of v) (current_in b.held) v.number y)
    → Keeping s v w spent a b durable vals
losing_calls a b s durable v w vals spent lost kept noted losing same =
    record {
      stays = kept.stays;
      noted = noted;
      leaves = kept.leaves;
      holds = λ holds.
          let after = kept.holds holds in
          losing_holds s durable v w vals spent b lost losing (same after) after;
      apart = kept.apart;
      calm = kept.calm;
      bounded = kept.bounded;
    }

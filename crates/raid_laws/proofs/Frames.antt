-- Parts of a call keep the frames of arrays.
use Rattle.std.proofs.Common.{◌≡◌, ℕ, ◌-◌, ◌≤◌, ◌==◌, bit_and, int_eq, pos, if◌then◌else◌, Bool, ◌∷◌, [], Option, Some, List, map, option_map, unwrap_or, refl, sym, ap, subst, ◌∙◌}
use Rattle.std.specs.List.{range_with_len}
use Rattle.std.proofs.lemmas.Nat.{and_assoc}
use Rattle.rack.specs.Calls.{KeepsAll}
use Rattle.rack.specs.Joins.{leaves_same, leaves_then, leaves_weaker}
use Rattle.rack.specs.Seen.{Image, IsPick, RackView, SameRack}
use Rattle.rack.specs.Values.{Values}
use Rattle.md_super.specs.declared.superblock.Super.{Super}
use Rattle.pool_state.specs.declared.contents.State.{State}
use Rattle.array_image.specs.Arrays.{Member, Shape, final_layout, first_layout, member_in, place_with, replayed, shape_by, shape_in}
use Rattle.array_image.specs.Left.{IsInside, Picks}
use Rattle.array_image.specs.SoundArray.{array_fields}
use Rattle.array_image.specs.States.{state_in}
use Rattle.array_image.specs.Stripes.{mirror, parity}
use Rattle.array_image.specs.Supers.{truth_in}
use Rattle.array_image.proofs.Frames.{Agree, supers_same, truth_by_supers}
use Rattle.array_model.specs.Says.{IsEarlier}
use Rattle.array_model.specs.View.{HasGeometry, View, member_on, shape_of}
use Rattle.array_model.proofs.Keeping.{pick_before}
use Rattle.raid_laws.specs.Frames.{Frame, HasFrame, KeepsFrame, frame_of}
use Rattle.raid_laws.specs.Laws.{stood_left}
use Rattle.raid_laws.specs.Raid.{Raid, InvariantInCall}

some_same : {X : Type 0} (x y : X) → Some x ≡ Some y → x ≡ y
some_same x y same = cc

-- ---- frames of shapes and of superblocks

abbrev pub shape_frame : Shape → Frame
shape_frame shape = record { size = shape.size; layout = shape.layout; places = map (λ (m : Member). m.place) shape.members }

map_places : (f : ℕ → Member) (ks : List ℕ) → map (λ (m : Member). m.place) (map f ks) ≡ map (λ k. (f k).place) ks
map_places f [] = refl
map_places f (k ∷ ks) = ap (λ ps. (f k).place ∷ ps) (map_places f ks)

shape_by_frame : (s : State) (r : Image) (n : ℕ) (t : Super) → shape_frame (shape_by s r n t) ≡ frame_of t
unfolding shape_by
shape_by_frame s r n t = ap (λ ps. record { size = t.size; layout = first_layout t; places = ps }) (map_places (member_in s r n t) (range_with_len 0 t.raid_disks))

pub view_frame : (v : View) → shape_frame (shape_of v) ≡ frame_of v.truth
unfolding shape_of
view_frame v = ap (λ ps. record { size = v.truth.size; layout = first_layout v.truth; places = ps }) (map_places (member_on v) (range_with_len 0 v.truth.raid_disks))

-- the truth of contents that have a shape
pub says_frame : (s : State) (n : ℕ) (shape : Shape) (r : Image) (t : Super) → shape_in s r n ≡ Some shape → truth_in s r n ≡ Some t → frame_of t ≡ shape_frame shape
says_frame s n shape r t has is =
    sym (shape_by_frame s r n t)
    ∙ ap shape_frame (some_same (shape_by s r n t) shape (sym (ap (λ (o : Option Super). option_map (shape_by s r n) o) is) ∙ has))

-- a superblock's fields of the array have its layout: the mark of a reshape is one of them
stripped_layout : (t : Super) → first_layout (array_fields t) ≡ first_layout t
stripped_layout t = ap (λ (k : ℕ). if k == 4 then parity (t.raid_disks - 1) else final_layout t) (and_assoc 4 t.feature_map 0xfffffffd)

stripped_frame : (t : Super) → frame_of (array_fields t) ≡ frame_of t
stripped_frame t = ap (λ l. record { size = t.size; layout = l; places = map (λ k. unwrap_or (place_with t.roles.items k) 16) (range_with_len 0 t.raid_disks) }) (stripped_layout t)

pub fields_frame : (t u : Super) → array_fields t ≡ array_fields u → frame_of t ≡ frame_of u
fields_frame t u same = sym (stripped_frame t) ∙ ap frame_of same ∙ stripped_frame u

pub earlier_frame : (t u : Super) → IsEarlier t u → frame_of t ≡ frame_of u
earlier_frame t u earlier = sym (stripped_frame t) ∙ ap frame_of earlier.fields ∙ stripped_frame u

pub geometry_frame : (t u : Super) → HasGeometry t u → frame_of u ≡ frame_of t
geometry_frame t u same =
    λ i. record {
      size = same.size i;
      layout = if bit_and (same.features i) 4 == 4 then parity (same.disks i - 1) else if int_eq (same.level i) (pos 1) then mirror (same.disks i) else parity (same.disks i);
      places = map (λ k. unwrap_or (place_with (same.roles i).items k) 16) (range_with_len 0 (same.disks i));
    }

-- ---- contents

-- contents of the same state whose superblocks of the array are the same
pub frame_same : (g : Frame) (n : ℕ) (r e : Image) → state_in r ≡ state_in e → Agree n r e → HasFrame g n e → HasFrame g n r
frame_same g n r e state agree frame s t is truth = frame s t (sym state ∙ is) (sym (truth_by_supers s r e n (supers_same s r e n agree)) ∙ truth)

-- what a stop leaves
pub left_frame : (g : Frame) (s : State) (durable : Shape) (vals : ℕ → Values) (spent gone : ℕ → Bool) (v : Raid) (x : RackView) (n : ℕ) (c : Image)
    → frame_of (v.arrays n).truth ≡ g → InvariantInCall s durable vals spent gone v x n → Picks x c → HasFrame g n (replayed x.sectors c)
left_frame g s durable vals spent gone v x n c framed stood picks q t is truth =
    let r : Image = replayed x.sectors c in
    let state = (stood_left s durable vals spent gone v x n c stood picks).0 in
    let same : q ≡ s = some_same q s (sym is ∙ state) in
    earlier_frame t (v.arrays n).truth
    (stood.holds.truth r (c, picks, λ d u. refl) t
    (subst (λ k. truth_in s r k ≡ Some t) (sym stood.number) (subst (λ (k : State). truth_in k r n ≡ Some t) same truth)))
    ∙ framed

-- contents of a state that say a shape of this frame
pub shaped_frame : (g : Frame) (s : State) (n : ℕ) (shape : Shape) (r : Image) → state_in r ≡ Some s → shape_in s r n ≡ Some shape → shape_frame shape ≡ g → HasFrame g n r
shaped_frame g s n shape r state has framed q t is truth =
    let same : q ≡ s = some_same q s (sym is ∙ state) in
    says_frame s n shape r t has (subst (λ (k : State). truth_in k r n ≡ Some t) same truth) ∙ framed

-- contents of a state by which other contents' truth has this frame
pub known_frame : (g : Frame) (n : ℕ) (t : State) (r e : Image) → state_in r ≡ Some t → Agree n r e
    → ((u : Super) → truth_in t e n ≡ Some u → frame_of u ≡ g) → HasFrame g n r
known_frame g n t r e state agree framed q u is truth =
    let same : q ≡ t = some_same q t (sym is ∙ state) in
    framed u (sym (truth_by_supers t r e n (supers_same t r e n agree)) ∙ subst (λ (k : State). truth_in k r n ≡ Some u) same truth)

-- ---- parts

pub frame_still : (g : Frame) (n : ℕ) (w : View) (x : RackView) → frame_of w.truth ≡ g → KeepsFrame g n w x x
frame_still g n w x after = record { leaves = λ traced. leaves_same x (λ c. IsInside x.sectors c → HasFrame g n (replayed x.sectors c)); after = after }

pub frame_then : (g : Frame) (n : ℕ) (w z : View) (a b c : RackView) → SameRack a b → KeepsFrame g n w a b → KeepsFrame g n z b c → KeepsFrame g n z a c
frame_then g n w z a b c stays one two = record {
  leaves = λ traced.
      leaves_then
      (λ i. IsInside a.sectors i → HasFrame g n (replayed a.sectors i))
      (one.leaves traced)
      (leaves_weaker
      (λ i. IsInside b.sectors i → HasFrame g n (replayed b.sectors i))
      (λ i. IsInside a.sectors i → HasFrame g n (replayed a.sectors i))
      (λ i frame inside.
      subst (λ (sectors : ℕ → ℕ). HasFrame g n (replayed sectors i)) (λ k d. stays.sectors d k)
      (frame (λ d t out. inside d t (subst (λ k. k ≤ t) (stays.sectors d) out))))
      (two.leaves (stays.traced traced)));
  after = two.after;
}

-- calls that bring no value
pub frame_read : (g : Frame) (s : State) (durable : Shape) (vals : ℕ → Values) (spent gone : ℕ → Bool) (v : Raid) (w : View) (a b : RackView) (n : ℕ)
    → a.lasting → SameRack a b → KeepsAll a b → frame_of (v.arrays n).truth ≡ g → frame_of w.truth ≡ g → InvariantInCall s durable vals spent gone v a n → KeepsFrame g n w a b
frame_read g s durable vals spent gone v w a b n lasting stays keeps before after stood = record {
  leaves = λ traced.
      leaves_weaker (IsPick a b a.held) (λ c. IsInside a.sectors c → HasFrame g n (replayed a.sectors c))
      (λ c pick inside. left_frame g s durable vals spent gone v a n c before stood (pick_before lasting stays c inside pick))
      (keeps.stops traced);
  after = after;
}

-- Rows that images leave to resync of an array of which a member is lacking, over parts of a call.
use Rattle.std.proofs.Common.{◌≡◌, ℕ, zero, suc, ◌+◌, ◌<◌, ◌≤◌, Bool, true, false, not, count_by, if◌then◌else◌, map, Option, Some, unwrap_or, refl, sym, ap, subst, ◌∙◌, inl, inr, arith}
use Rattle.std.specs.Option.{option_map_or}
use Rattle.std.specs.List.{range_with_len}
use Rattle.std.proofs.lemmas.List.Sums.{sum_by-cons}
use Rattle.rack.specs.Seen.{Image, RackView}
use Rattle.rack.specs.Sequences.{OnlyReads}
use Rattle.md_super.specs.declared.superblock.Super.{Super}
use Rattle.pool_state.specs.declared.contents.State.{State}
use Rattle.array_image.specs.Arrays.{Member, Shape, shape_in}
use Rattle.array_image.specs.Left.{PendingOnlyFor}
use Rattle.array_image.specs.SoundArray.{first_unsynced}
use Rattle.array_image.specs.States.{state_in}
use Rattle.array_image.specs.Supers.{truth_in}
use Rattle.array_image.proofs.Frames.{Agree, SameSupers, shape_by_supers, supers_same, truth_by_supers}
use Rattle.array_model.specs.View.{View, IsArray, is_whole_array, is_whole_seat, member_on, shape_of}
use Rattle.array_model.proofs.Moves.{CallRefines as CallMoves}
use Rattle.array_model.proofs.RowWrites.{whole_seat}
use Rattle.array_core.specs.Contents.{lacking_in}
use Rattle.array_core.specs.TruthLeft.{HasTruthOf}
use Rattle.raid_laws.specs.Raid.{Raid}
use Rattle.raid_laws.specs.Rows.{KeepsLacking, LackingFrom, LeavesFrom, LeavesLacking}
use Rattle.raid_laws.proofs.EachImage.{HasBefore, HasEach, each_other, each_read, each_still}
use Rattle.raid_laws.proofs.Rows.{KeepsClear}

-- ---- images

-- contents that have the same superblocks of an array by each state, and the same state
pub lacking_supers : (row n : ℕ) (r e : Image) → state_in r ≡ state_in e → ((s : State) → SameSupers s n r e) → LackingFrom row n e → LackingFrom row n r
lacking_supers row n r e states same from s shape t state is lacks truth =
    from s shape t (sym states ∙ state) (sym (shape_by_supers s r e n (same s)) ∙ is) lacks (sym (truth_by_supers s r e n (same s)) ∙ truth)

pub lacking_same : (row n : ℕ) (r e : Image) → state_in r ≡ state_in e → Agree n r e → LackingFrom row n e → LackingFrom row n r
lacking_same row n r e states agree = lacking_supers row n r e states (λ s. supers_same s r e n agree)

-- contents that leave these rows whether a member is lacking or not
pub lacking_all : (row n : ℕ) (r : Image) → LeavesFrom row n r → LackingFrom row n r
lacking_all row n r from s shape t state is lacks truth = from s t state truth

-- ---- a whole array

-- where all members are whole, none is lacking
none_lacks : (member : ℕ → Member) (a m : ℕ) → ((k : ℕ) → a ≤ k → k < a + m → (member k).is_whole ≡ true) → count_by (λ k. not k.is_whole) (map member (range_with_len a m)) ≡ 0
none_lacks member a zero whole = refl
none_lacks member a (suc m) whole =
    sum_by-cons (λ (k : Member). if not k.is_whole then 1 else 0) (member a) (map member (range_with_len (a + 1) m))
    ∙ ap (λ (b : Bool). (if not b then 1 else 0) + count_by (λ k. not k.is_whole) (map member (range_with_len (a + 1) m))) (whole a (omega arith) (omega arith))
    ∙ ap (λ n. 0 + n) (none_lacks member (a + 1) m (λ k least low. whole k (omega (arith, least)) (omega (arith, low))))

pub whole_lacks : (u : View) → IsArray u → is_whole_array u ≡ true → lacking_in (shape_of u) ≡ 0
unfolding shape_of
whole_lacks u is_array whole =
    none_lacks (member_on u) 0 u.truth.raid_disks (λ k least low. ap (λ o. option_map_or is_whole_seat o false) (whole_seat u k is_array whole (omega (arith, low))))

same_state : (s t : State) (r : Image) → state_in r ≡ Some s → state_in r ≡ Some t → t ≡ s
same_state s t r is also = ap (λ (o : Option State). unwrap_or o t) (sym also ∙ is)

same_shape : (s t : State) (first last : Shape) (n : ℕ) (r : Image) → t ≡ s → shape_in s r n ≡ Some first → shape_in t r n ≡ Some last → last ≡ first
same_shape s t first last n r same is also =
    ap (λ (o : Option Shape). unwrap_or o last) (sym (subst (λ k. shape_in k r n ≡ Some last) same also) ∙ is)

-- contents that have the shape of a whole array
pub lacking_whole : (row n : ℕ) (s : State) (u : View) (r : Image) → IsArray u → is_whole_array u ≡ true → state_in r ≡ Some s → shape_in s r n ≡ Some (shape_of u)
    → LackingFrom row n r
lacking_whole row n s u r is_array whole state_is shape_is at shape t state is lacks truth =
    let shaped = same_shape s at (shape_of u) shape n r (same_state s at r state_is state) shape_is is in
    let none = whole_lacks u is_array whole in
    let some : 0 < lacking_in (shape_of u) = subst (λ (z : Shape). 0 < lacking_in z) shaped lacks in
    absurd (omega (arith, some, none))

-- contents of a shape whose truth is that of contents from before, of the same shape, or a new one
pub lacking_truth : (row n : ℕ) (s : State) (first : Shape) (a : RackView) (new : Super → Type 0) (r : Image) → state_in r ≡ Some s → shape_in s r n ≡ Some first
    → HasBefore (λ e. (state_in e ≡ Some s) × (shape_in s e n ≡ Some first)) a → HasBefore (LackingFrom row n) a
    → ((t : Super) → new t → row ≤ first_unsynced t) → HasTruthOf s n a new r → LackingFrom row n r
lacking_truth row n s first a new r state_is shape_is before images fresh truths at shape t state is lacks truth =
    let same = same_state s at r state_is state in
    let shaped = same_shape s at first shape n r same shape_is is in
    elim (truths t (subst (λ k. truth_in k r n ≡ Some t) same truth)) [
      | inl old ↦
          let e = before old.0 old.1 in
          images old.0 old.1 s first t e.0 e.1 (subst (λ (z : Shape). 0 < lacking_in z) shaped lacks) old.2
      | inr now ↦ fresh t now
    ]

-- ---- parts

-- a part that resyncs no row
pub lacking_by : (v w : Raid) (a b : RackView) (n : ℕ) → (w.arrays n).resync ≡ (v.arrays n).resync → (w.arrays n).young ≡ (v.arrays n).young → LeavesLacking v a n
    → HasEach (LackingFrom (v.arrays n).resync n) a b → KeepsLacking v w a b n
lacking_by v w a b n resync young leaves each = record {
  later = omega (arith, resync);
  leaves = each.leaves;
  after = record {
    young = young ∙ leaves.young;
    images = λ r left. subst (λ k. LackingFrom k n r) (sym resync) (each.after r left);
  };
}

-- where nothing is called
pub lacking_still : (v w : Raid) (x : RackView) (n : ℕ) → KeepsClear (v.arrays n) (w.arrays n) → LeavesLacking v x n → KeepsLacking v w x x n
lacking_still v w x n clear leaves = lacking_by v w x x n clear.resync clear.young leaves (each_still (LackingFrom (v.arrays n).resync n) x leaves.images)

-- calls that write nothing
pub lacking_read : (v w : Raid) (a b : RackView) (n : ℕ) → a.lasting → OnlyReads a b → KeepsClear (v.arrays n) (w.arrays n) → LeavesLacking v a n → KeepsLacking v w a b n
lacking_read v w a b n lasting reads clear leaves = lacking_by v w a b n clear.resync clear.young leaves (each_read (LackingFrom (v.arrays n).resync n) a b lasting reads leaves.images)

-- a call of another array
pub lacking_other : (v w : Raid) (a b : RackView) (n m : ℕ) (H Q : Type 0) (during : Image → Type 0)
    → m < 16 → n < 16 → (n ≡ m → ⊥) → (v.arrays m).number ≡ m → w.arrays n ≡ v.arrays n → a.lasting
    → CallMoves (v.arrays m).number a b H during Q → PendingOnlyFor (v.arrays m).number a
    → LeavesLacking v a n → KeepsLacking v w a b n
lacking_other v w a b n m H Q during few also other number same lasting acts calm leaves =
    lacking_by v w a b n (ap (λ (u : View). u.resync) same) (ap (λ (u : View). u.young) same) leaves
    (each_other (LackingFrom (v.arrays n).resync n) a b n (v.arrays m).number H Q during (lacking_same (v.arrays n).resync n)
    (subst (λ j. j < 16) (sym number) few) also (λ is. other (is ∙ number)) lasting acts calm leaves.images)

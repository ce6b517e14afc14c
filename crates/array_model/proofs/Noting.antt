-- Calls of members that bring no value, in which places may go.
use Rattle.std.proofs.Common.{◌≡◌, ℕ, zero, suc, ◌+◌, ◌-◌, ◌<◌, ◌≤◌, Bool, true, false, ◌&&◌, ◌||◌, not, nat_lt, if◌then◌else◌, List, [], ◌∷◌, take, length, refl, sym, ap, subst, ◌∙◌, arith}
use Rattle.std.specs.List.{range_with_len}
use Rattle.rack.specs.Values.{Values}
use Rattle.rack.specs.Seen.{RackView}
use Rattle.rack.specs.Sequences.{OnlyReads}
use Rattle.md_super.specs.declared.superblock.Super.{Super}
use Rattle.md_super.specs.Profile.{is_mirror}
use Rattle.pool_state.specs.declared.contents.State.{State}
use Rattle.raid_map.proofs.Rows.{row_members_differ}
use Rattle.raid_map.specs.LeftSymmetric.{row_at}
use Rattle.array_image.specs.Stripes.{Layout, mirror, parity, width, position_in, sector_in}
use Rattle.array_image.specs.Supers.{is_reshaping}
use Rattle.array_image.specs.Arrays.{Member, Shape, layout_at, final_layout, first_layout, value_by}
use Rattle.array_image.specs.Held.{current_in}
use Rattle.array_image.specs.Marks.{lowered}
use Rattle.array_image.specs.Spent.{spent_by, spent_with}
use Rattle.array_image.proofs.Losing.{length_map}
use Rattle.array_model.specs.View.{View, IsArray, IsNoted, HasGeometry, LosesPlaces, shape_of, spent_in}
use Rattle.array_model.specs.Says.{ArrayInvariant}
use Rattle.array_model.specs.ArrayCalls.{Keeping, IncludesSpent}
use Rattle.array_model.specs.Members.{IsSameButSeats, members_of, Notes}
use Rattle.array_model.proofs.Views.{same_geometry, shape_then, vary_then, fresh_then}
use Rattle.array_model.proofs.Keeping.{keeping_calls}
use Rattle.array_model.proofs.Losses.{IsLosing, losing_calls, losing_holds}
use Rattle.array_model.proofs.Spared.{IsLaidOut, lost_value, at_most_one, synced_row, wanting_more}

pub shape_noted : (v w : View) (a b : RackView) (notes : Notes v w a b) → shape_of w ≡ lowered notes.lost (shape_of v)
shape_noted v w a b notes = shape_then v w notes.lost notes.same.truth notes.loses

pub losing_of : (v w : View) (lost : ℕ → Bool) → IsSameButSeats v w → LosesPlaces v w lost → IsLosing v w lost
losing_of v w lost same loses = record {
  number = same.number;
  truth = same.truth;
  resync = same.resync;
  shape = shape_then v w lost same.truth loses;
  vary = vary_then v w lost same.truth same.marked loses;
  marked = λ is. sym same.marked ∙ is;
  went = fresh_then v w lost loses;
}

pub losing_by : (v w : View) (a b : RackView) (notes : Notes v w a b) → IsLosing v w notes.lost
losing_by v w a b notes = losing_of v w notes.lost notes.same notes.loses

pub noted_by : (v w : View) (a b : RackView) → Notes v w a b → IsNoted v w a b
noted_by v w a b notes = record {
  same = record { number = notes.same.number; geometry = subst (λ (t : Super). HasGeometry v.truth t) (sym notes.same.truth) (same_geometry v.truth); devices = notes.same.devices; resync = notes.same.resync; young = notes.same.young };
  lost = notes.lost;
  loses = notes.loses;
  cause = notes.cause;
}

-- ---- how an array is laid out

length_range : (a n : ℕ) → length (range_with_len a n) ≡ n
length_range a zero = refl
length_range a (suc n) = ap suc (length_range (a + 1) n)

pub length_members : (v : View) → length (members_of v) ≡ v.truth.raid_disks
length_members v = length_map _ (range_with_len 0 v.truth.raid_disks) ∙ length_range 0 v.truth.raid_disks

-- a layout of some members
pub record IsLayoutOf (n : ℕ) (layout : Layout) : Type 0 where
  pub least : 2 ≤ width layout
  pub most : width layout ≤ n
  pub count : n ≤ 16

pub low_position : (n : ℕ) (layout : Layout) (x : ℕ) → IsLayoutOf n layout → position_in layout x < width layout
low_position n (mirror k) x is = let least = is.least in omega (arith, least)
low_position n (parity k) x is =
    let most = is.most in let count = is.count in
    (row_members_differ k (record { least = is.least; most = omega (arith, most, count) })).is_member x

pub final_is : (v : View) → IsArray v → IsLayoutOf v.truth.raid_disks (final_layout v.truth)
final_is v is_array = by (is_mirror v.truth) is_array.most
  where
    by : (b : Bool) → v.truth.raid_disks ≤ (if b then 2 else 16) → IsLayoutOf v.truth.raid_disks (if b then mirror v.truth.raid_disks else parity v.truth.raid_disks)
    by true few = record { least = is_array.least; most = omega arith; count = omega (arith, few) }
    by false few = record { least = is_array.least; most = omega arith; count = few }

pub first_is : (v : View) → IsArray v → IsLayoutOf v.truth.raid_disks (first_layout v.truth)
first_is v is_array = by (is_reshaping v.truth) (λ is. (is_array.reshape is).1)
  where
    by : (b : Bool) → (b ≡ true → 3 ≤ v.truth.raid_disks) → IsLayoutOf v.truth.raid_disks (if b then parity (v.truth.raid_disks - 1) else final_layout v.truth)
    by true reshape =
        let three = reshape refl in
        let count = (final_is v is_array).count in
        record { least = omega (arith, three); most = omega arith; count = count }
    by false reshape = final_is v is_array

pub layout_is : (v : View) (x : ℕ) → IsArray v → IsLayoutOf v.truth.raid_disks (layout_at (shape_of v) x)
unfolding shape_of
layout_is v x is_array = if_is _ (final_is v is_array) (first_is v is_array)
  where
    if_is : {n : ℕ} {k l : Layout} (b : Bool) → IsLayoutOf n k → IsLayoutOf n l → IsLayoutOf n (if b then k else l)
    if_is true one other = one
    if_is false one other = other

pub length_taken : (k : ℕ) (members : List Member) → k ≤ length members → length (take k members) ≡ k
length_taken zero members low = refl
length_taken (suc k) [] low = absurd (omega (arith, low))
length_taken (suc k) (m ∷ others) low = ap suc (length_taken k others (omega (arith, low)))

pub laid_out : (v : View) → IsArray v → IsLaidOut (shape_of v) v.resync
unfolding shape_of
laid_out v is_array =
    let taken : (x : ℕ) → length (take (width (layout_at (shape_of v) x)) (shape_of v).members) ≡ width (layout_at (shape_of v) x) =
    λ x. let most = (layout_is v x is_array).most in length_taken _ (members_of v) (omega (arith, most, length_members v)) in
    record {
      fits = λ x. let low = low_position v.truth.raid_disks (layout_at (shape_of v) x) x (layout_is v x is_array) in omega (arith, low, taken x);
      two = λ x. let least = (layout_is v x is_array).least in omega (arith, least, taken x);
      synced = λ sector row. let rows = is_array.synced in omega (arith, row, rows);
    }

-- ---- reads and syncs

-- a sector that isn't spent after the calls isn't without the lost places
pub unspent_then : (v w : View) (lost : ℕ → Bool) → IsLosing v w lost → (y : ℕ) → spent_in w y ≡ false → spent_by (lowered lost (shape_of v)) v.resync y ≡ false
unspent_then v w lost losing y unspent =
    subst (λ r. spent_by (lowered lost (shape_of v)) r y ≡ false) losing.resync
    (subst (λ (shape : Shape). spent_by shape w.resync y ≡ false) losing.shape unspent)

-- those that are left give the array's current values
pub noted_value_of : (s : State) (durable : Shape) (v w : View) (vals : ℕ → Values) (spent : ℕ → Bool) (a b x : RackView) (y : ℕ)
    → IsArray v → Notes v w a b → IncludesSpent w spent → ArrayInvariant s durable v vals spent x → spent y ≡ false
    → value_by (shape_of w) (current_in x.held) v.number y ≡ value_by (shape_of v) (current_in x.held) v.number y
noted_value_of s durable v w vals spent a b x y is_array notes covers holds alive =
    ap (λ (shape : Shape). value_by shape (current_in x.held) v.number y) (shape_noted v w a b notes)
    ∙ lost_value notes.lost (shape_of v) v.number v.resync (current_in x.held) y (laid_out v is_array) holds.shape.even holds.shape.sized
    (unspent_then v w notes.lost (losing_by v w a b notes) y (covers y alive))

-- Calls that bring no value and in which places went: the array keeps what it says and holds.
pub read_acts : (a b : RackView) (v w : View) → a.lasting → OnlyReads a b → IsArray v → Notes v w a b
    → (s : State) (durable : Shape) (vals : ℕ → Values) (spent : ℕ → Bool) → IncludesSpent w spent
    → Keeping s v w spent a b durable vals
read_acts a b v w lasting reads is_array notes s durable vals spent covers =
    losing_calls a b s durable v w vals spent notes.lost
    (keeping_calls a b lasting reads.stays reads.keeps s durable v vals spent)
    (noted_by v w a b notes) (losing_by v w a b notes)
    (λ holds y alive.
    lost_value notes.lost (shape_of v) v.number v.resync (current_in b.held) y (laid_out v is_array) holds.shape.even holds.shape.sized
    (unspent_then v w notes.lost (losing_by v w a b notes) y (covers y alive)))

-- ---- what holds before and after a loss is noted

pub spent_fewer : (m n : ℕ) (synced : Bool) → m ≤ n → spent_with n synced ≡ false → spent_with m synced ≡ false
spent_fewer zero n synced low unspent = refl
spent_fewer (suc zero) n synced low unspent = ap (λ b. nat_lt 1 1 || (nat_lt 0 1 && not b)) (synced_row n synced (omega (arith, low)) unspent)
spent_fewer (suc (suc m)) n synced low unspent = let one = at_most_one n synced unspent in absurd (omega (arith, one, low))

-- a map that has each sector that is spent after a loss has each that was spent before it
pub covers_before : (v w : View) (lost : ℕ → Bool) → IsLosing v w lost → (spent : ℕ → Bool) → IncludesSpent w spent → IncludesSpent v spent
covers_before v w lost losing spent covers y alive =
    spent_fewer _ _ (nat_lt (row_at (sector_in (layout_at (shape_of v) y) y)) v.resync)
    (wanting_more lost (sector_in (layout_at (shape_of v) y) y) (shape_of v).members)
    (unspent_then v w lost losing y (covers y alive))

-- what an array holds, it holds without the places that it lost
pub holds_lost : (v w : View) (lost : ℕ → Bool) (x : RackView) → IsArray v → IsLosing v w lost
    → (s : State) (durable : Shape) (vals : ℕ → Values) (spent : ℕ → Bool) → IncludesSpent w spent
    → ArrayInvariant s durable v vals spent x → ArrayInvariant s durable w vals spent x
holds_lost v w lost x is_array losing s durable vals spent covers holds =
    losing_holds s durable v w vals spent x lost losing
    (λ y alive.
    lost_value lost (shape_of v) v.number v.resync (current_in x.held) y (laid_out v is_array) holds.shape.even holds.shape.sized
    (unspent_then v w lost losing y (covers y alive)))
    holds

-- and so once the places that went are noted
pub holds_noted : (v w : View) (a b x : RackView) → IsArray v → Notes v w a b
    → (s : State) (durable : Shape) (vals : ℕ → Values) (spent : ℕ → Bool) → IncludesSpent w spent
    → ArrayInvariant s durable v vals spent x → ArrayInvariant s durable w vals spent x
holds_noted v w a b x is_array notes s durable vals spent covers holds =
    holds_lost v w notes.lost x is_array (losing_by v w a b notes) s durable vals spent covers holds

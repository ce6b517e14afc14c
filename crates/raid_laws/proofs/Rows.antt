-- Rows that images leave to resync, over parts of a call.
use Rattle.std.proofs.Common.{◌≡◌, ℕ, ◌-◌, ◌*◌, ◌/◌, ◌^◌, ◌<◌, ◌≤◌, Bool, true, false, nat_lt, if◌then◌else◌, refl, sym, ap, subst, ◌∙◌, inl, inr, eq-eqb, eqb-true, lt-ltb, le-ltb, arith}
use Rattle.std.proofs.lemmas.Bool.{cases_lt}
use Rattle.rack.specs.Seen.{Image, RackView}
use Rattle.rack.specs.Sequences.{OnlyReads}
use Rattle.array_image.specs.Left.{PendingOnlyFor}
use Rattle.md_super.specs.declared.superblock.Super.{Super}
use Rattle.array_image.specs.States.{state_in}
use Rattle.array_image.specs.Supers.{is_unclean}
use Rattle.array_image.specs.SoundArray.{first_unsynced}
use Rattle.array_image.proofs.Frames.{Agree, supers_same, truth_by_supers}
use Rattle.array_model.specs.View.{View, IsArray, IsSameArray, rows_of}
use Rattle.array_model.specs.Members.{IsSameButSeats}
use Rattle.array_model.proofs.Moves.{CallRefines as CallMoves}
use Rattle.array_core.specs.Superblocks.{is_settled, left_offset, settled}
use Rattle.raid_laws.specs.Raid.{Raid}
use Rattle.raid_laws.specs.Rows.{KeepsRows, LeavesFrom, LeavesRows}
use Rattle.raid_laws.proofs.EachImage.{HasEach, each_other, each_read, each_still}
use Rattle.raid_laws.proofs.Seated.{view_with}

-- contents that agree in an array's superblocks and the states leave the same rows
pub from_same : (row n : ℕ) (r e : Image) → state_in r ≡ state_in e → Agree n r e → LeavesFrom row n e → LeavesFrom row n r
from_same row n r e states agree from s t state truth =
    from s t (sym states ∙ state) (sym (truth_by_supers s r e n (supers_same s r e n agree)) ∙ truth)

-- ---- what a truth leaves

-- an array that is settled leaves the rows that are left
pub left_old : (u : View) → u.young ≡ false → left_offset u ≡ (if nat_lt u.resync (rows_of u) then u.resync * 128 else 2 ^ 64 - 1)
left_old u young =
    ap (λ (b : Bool). if b then (if is_unclean u.truth then u.truth.resync_offset else 2 ^ 64 - 1) else if nat_lt u.resync (rows_of u) then u.resync * 128 else 2 ^ 64 - 1) young

-- an array that has lost members alone leaves what it left
pub left_same : (u w : View) → IsSameArray u w → u.young ≡ false → left_offset w ≡ left_offset u
left_same u w same young =
    left_old w (same.young ∙ young)
    ∙ (λ i. if nat_lt (same.resync i) (same.geometry.size i / 128) then same.resync i * 128 else 2 ^ 64 - 1)
    ∙ sym (left_old u young)

rows_by_offset : (offset size resync : ℕ) → (offset < size → resync ≤ offset / 128) → (size ≤ offset → resync ≤ size / 128)
    → resync ≤ (if nat_lt offset size then offset / 128 else size / 128)
rows_by_offset offset size resync less more =
    elim (cases_lt offset size) [
      | inl low ↦ subst (λ (b : Bool). resync ≤ (if b then offset / 128 else size / 128)) (sym (lt-ltb offset size low)) (less low)
      | inr high ↦ subst (λ (b : Bool). resync ≤ (if b then offset / 128 else size / 128)) (sym (le-ltb offset size high)) (more high)
    ]

-- so does each truth of its size that leaves this offset
pub left_rows : (u : View) (t : Super) → IsArray u → u.young ≡ false → t.resync_offset ≡ left_offset u → t.size ≡ u.truth.size → u.resync ≤ first_unsynced t
left_rows u t is_array young is size =
    let at = is ∙ left_old u young in
    let small = is_array.small in
    let synced = is_array.synced in
    elim (cases_lt u.resync (rows_of u)) [
      | inl low ↦
          let e = at ∙ ap (λ (b : Bool). if b then u.resync * 128 else 2 ^ 64 - 1) (lt-ltb u.resync (rows_of u) low) in
          rows_by_offset t.resync_offset t.size u.resync (λ below. omega (arith, e)) (λ past. omega (arith, synced, size))
      | inr high ↦
          let e = at ∙ ap (λ (b : Bool). if b then u.resync * 128 else 2 ^ 64 - 1) (le-ltb u.resync (rows_of u) high) in
          rows_by_offset t.resync_offset t.size u.resync (λ below. absurd (omega (arith, e, small, below, size))) (λ past. omega (arith, synced, size))
    ]

pub settled_rows : (u : View) → IsArray u → u.young ≡ false → is_settled u ≡ true → u.resync ≤ first_unsynced u.truth
settled_rows u is_array young is = left_rows u u.truth is_array young (eqb-true u.truth.resync_offset (left_offset u) is) refl

-- and just those, where it leaves no fewer
pub settled_just : (u : View) → IsArray u → u.young ≡ false → is_settled u ≡ true → first_unsynced u.truth ≤ u.resync → first_unsynced u.truth ≡ u.resync
settled_just u is_array young is less = same (first_unsynced u.truth) u.resync less (settled_rows u is_array young is)
  where
    same : (a b : ℕ) → a ≤ b → b ≤ a → a ≡ b
    same a b less more = omega (arith, less, more)

-- what a call makes of an array whose truth leaves the rows that are left
pub record KeepsClear (u w : View) : Type 0 where
  pub resync : w.resync ≡ u.resync
  pub young : w.young ≡ u.young
  pub settled : u.young ≡ false → is_settled u ≡ true → is_settled w ≡ true

pub clear_same : (u w : View) → w ≡ u → KeepsClear u w
clear_same u w same = record {
  resync = ap (λ (z : View). z.resync) same;
  young = ap (λ (z : View). z.young) same;
  settled = λ young is. ap is_settled same ∙ is;
}

pub clear_seats : (u w : View) → IsSameButSeats u w → KeepsClear u w
clear_seats u w same = record { resync = same.resync; young = same.young; settled = λ young is. ap is_settled (view_with u w same) ∙ is }

pub clear_settled : (u z : View) → IsSameButSeats u z → KeepsClear u (settled z)
clear_settled u z same = record {
  resync = same.resync;
  young = same.young;
  settled = λ young is.
      let now = same.young ∙ young in
      eq-eqb (left_offset z) (left_offset (settled z)) (left_old z now ∙ sym (left_old (settled z) now));
}

-- what a part makes of the array, and what images leave of its rows
pub rows_by : (v w : Raid) (a b : RackView) (n : ℕ) → KeepsClear (v.arrays n) (w.arrays n) → LeavesRows v a n → HasEach (LeavesFrom (v.arrays n).resync n) a b → KeepsRows v w a b n
rows_by v w a b n clear rows each = record {
  later = let same = clear.resync in omega (arith, same);
  leaves = each.leaves;
  after = record {
    settled = clear.settled rows.young rows.settled;
    young = clear.young ∙ rows.young;
    images = λ r left. subst (λ k. LeavesFrom k n r) (sym clear.resync) (each.after r left);
  };
}

-- ---- parts

-- where nothing is called
pub rows_still : (v w : Raid) (x : RackView) (n : ℕ) → KeepsClear (v.arrays n) (w.arrays n) → LeavesRows v x n → KeepsRows v w x x n
rows_still v w x n clear rows = rows_by v w x x n clear rows (each_still (LeavesFrom (v.arrays n).resync n) x rows.images)

-- calls that write nothing
pub rows_read : (v w : Raid) (a b : RackView) (n : ℕ) → a.lasting → OnlyReads a b → KeepsClear (v.arrays n) (w.arrays n) → LeavesRows v a n → KeepsRows v w a b n
rows_read v w a b n lasting reads clear rows = rows_by v w a b n clear rows (each_read (LeavesFrom (v.arrays n).resync n) a b lasting reads rows.images)

-- a call of another array
pub rows_other : (v w : Raid) (a b : RackView) (n m : ℕ) (H Q : Type 0) (during : Image → Type 0)
    → m < 16 → n < 16 → (n ≡ m → ⊥) → (v.arrays m).number ≡ m → w.arrays n ≡ v.arrays n → a.lasting
    → CallMoves (v.arrays m).number a b H during Q → PendingOnlyFor (v.arrays m).number a
    → LeavesRows v a n → KeepsRows v w a b n
rows_other v w a b n m H Q during few also other number same lasting acts calm rows =
    rows_by v w a b n (clear_same (v.arrays n) (w.arrays n) same) rows
    (each_other (LeavesFrom (v.arrays n).resync n) a b n (v.arrays m).number H Q during (from_same (v.arrays n).resync n)
    (subst (λ j. j < 16) (sym number) few) also (λ is. other (is ∙ number)) lasting acts calm rows.images)

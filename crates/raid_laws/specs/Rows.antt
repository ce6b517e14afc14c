-- Rows that images leave to resync.
use Rattle.std.proofs.Common.{◌≡◌, ℕ, ◌<◌, ◌≤◌, true, false, Some, subst, arith}
use Rattle.rack.specs.Seen.{Image, RackView}
use Rattle.rack.specs.Moments.{Leaves}
use Rattle.rack.specs.Joins.{leaves_then, leaves_weaker}
use Rattle.md_super.specs.declared.superblock.Super.{Super}
use Rattle.pool_state.specs.declared.contents.State.{State}
use Rattle.array_image.specs.States.{state_in}
use Rattle.array_image.specs.Supers.{truth_in}
use Rattle.array_image.specs.SoundArray.{first_unsynced}
use Rattle.array_image.specs.Arrays.{Shape, replayed, shape_in}
use Rattle.array_image.specs.Left.{IsInside, IsLeft}
use Rattle.array_core.specs.Contents.{lacking_in}
use Rattle.array_core.specs.Superblocks.{is_settled}
use Rattle.raid_laws.specs.Raid.{Raid}

-- contents leave no row of array n to resync below this one
abbrev pub LeavesFrom : ℕ → ℕ → Image → Type 0
LeavesFrom row n r = (s : State) (t : Super) → state_in r ≡ Some s → truth_in s r n ≡ Some t → row ≤ first_unsynced t

pub from_lower : (j k n : ℕ) (r : Image) → j ≤ k → LeavesFrom k n r → LeavesFrom j n r
from_lower j k n r lower from s t state truth = let at = from s t state truth in omega (arith, lower, at)

-- An array that isn't young leaves no rows to resync but those that are left in it: neither by its truth, since this run hasn't
-- marked it, nor in any image.
pub record LeavesRows (v : Raid) (x : RackView) (n : ℕ) : Type 0 where
  pub settled : is_settled (v.arrays n) ≡ true
  pub young : (v.arrays n).young ≡ false
  pub images : (r : Image) → IsLeft x r → LeavesFrom (v.arrays n).resync n r

-- nor does it at any moment of a part of a call, and after it, where fewer may be left
pub record KeepsRows (v w : Raid) (a b : RackView) (n : ℕ) : Type 0 where
  pub later : (v.arrays n).resync ≤ (w.arrays n).resync
  pub leaves : a.traced → Leaves a b (λ c. IsInside a.sectors c → LeavesFrom (v.arrays n).resync n (replayed a.sectors c))
  pub after : LeavesRows w b n

-- parts in a row
pub rows_then : (v w z : Raid) (a b c : RackView) (n : ℕ) → ((d : ℕ) → b.sectors d ≡ a.sectors d) → (a.traced → b.traced) → KeepsRows v w a b n → KeepsRows w z b c n → KeepsRows v z a c n
rows_then v w z a b c n sectors traced_on one two = record {
  later = let first = one.later in let second = two.later in omega (arith, first, second);
  leaves = λ traced.
      leaves_then
      (λ i. IsInside a.sectors i → LeavesFrom (v.arrays n).resync n (replayed a.sectors i))
      (one.leaves traced)
      (leaves_weaker
      (λ i. IsInside b.sectors i → LeavesFrom (w.arrays n).resync n (replayed b.sectors i))
      (λ i. IsInside a.sectors i → LeavesFrom (v.arrays n).resync n (replayed a.sectors i))
      (λ i from inside.
      subst (λ (size : ℕ → ℕ). LeavesFrom (v.arrays n).resync n (replayed size i)) (λ k d. sectors d k)
      (from_lower (v.arrays n).resync (w.arrays n).resync n (replayed b.sectors i) one.later
      (from (λ d t out. inside d t (subst (λ k. k ≤ t) (sectors d) out)))))
      (two.leaves (traced_on traced)));
  after = two.after;
}

-- ---- where a member is lacking

-- contents by whose state a member of array n is missing or being rebuilt leave no row of it to resync below this one
abbrev pub LackingFrom : ℕ → ℕ → Image → Type 0
LackingFrom row n r =
    (s : State) (shape : Shape) (t : Super) → state_in r ≡ Some s → shape_in s r n ≡ Some shape → 0 < lacking_in shape → truth_in s r n ≡ Some t
    → row ≤ first_unsynced t

pub lacking_lower : (j k n : ℕ) (r : Image) → j ≤ k → LackingFrom k n r → LackingFrom j n r
lacking_lower j k n r lower from s shape t state is lacks truth = let at = from s shape t state is lacks truth in omega (arith, lower, at)

-- Where a member of an array that isn't young is lacking, images leave no rows to resync but those that are left in it: so no mark of this run's.
pub record LeavesLacking (v : Raid) (x : RackView) (n : ℕ) : Type 0 where
  pub young : (v.arrays n).young ≡ false
  pub images : (r : Image) → IsLeft x r → LackingFrom (v.arrays n).resync n r

-- nor do they at any moment of a part of a call, by the states that they have then, and after it
pub record KeepsLacking (v w : Raid) (a b : RackView) (n : ℕ) : Type 0 where
  pub later : (v.arrays n).resync ≤ (w.arrays n).resync
  pub leaves : a.traced → Leaves a b (λ c. IsInside a.sectors c → LackingFrom (v.arrays n).resync n (replayed a.sectors c))
  pub after : LeavesLacking w b n

-- parts in a row
pub lacking_then : (v w z : Raid) (a b c : RackView) (n : ℕ) → ((d : ℕ) → b.sectors d ≡ a.sectors d) → (a.traced → b.traced) → KeepsLacking v w a b n → KeepsLacking w z b c n
    → KeepsLacking v z a c n
lacking_then v w z a b c n sectors traced_on one two = record {
  later = let first = one.later in let second = two.later in omega (arith, first, second);
  leaves = λ traced.
      leaves_then
      (λ i. IsInside a.sectors i → LackingFrom (v.arrays n).resync n (replayed a.sectors i))
      (one.leaves traced)
      (leaves_weaker
      (λ i. IsInside b.sectors i → LackingFrom (w.arrays n).resync n (replayed b.sectors i))
      (λ i. IsInside a.sectors i → LackingFrom (v.arrays n).resync n (replayed a.sectors i))
      (λ i from inside.
      subst (λ (size : ℕ → ℕ). LackingFrom (v.arrays n).resync n (replayed size i)) (λ k d. sectors d k)
      (lacking_lower (v.arrays n).resync (w.arrays n).resync n (replayed b.sectors i) one.later
      (from (λ d t out. inside d t (subst (λ k. k ≤ t) (sectors d) out)))))
      (two.leaves (traced_on traced)));
  after = two.after;
}

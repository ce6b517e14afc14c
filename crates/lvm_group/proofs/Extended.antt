-- A volume that was extended.
use Rattle.std.proofs.Common.{◌≡◌, ◌^◌, ℕ, ◌<◌, ◌≤◌, true, List, ap, subst, arith, length}
use Rattle.std.specs.Prelude.{nat_le}
use Rattle.std.specs.List.{list_all}
use Rattle.std.proofs.lemmas.Bool.{leb-true}
use Rattle.std.proofs.lemmas.Nat.{mul-le}
use Rattle.rack.specs.Seen.{RackView}
use Rattle.lvm_group.specs.declared.runs.Run.{Run}
use Rattle.lvm_group.specs.Runs.{IsOrderly, Linear, extents_of}
use Rattle.lvm_group.specs.Shown.{IsInside, total}
use Rattle.lvm_group.specs.Group.{all_apart, linear_in}
use Rattle.lvm_group.specs.Growth.{fits, grown, is_within, pieces}
use Rattle.lvm_group.specs.Own.{HoldAll, in_row, own_group}
use Rattle.lvm_group.proofs.Counted.{no_more_sectors}
use Rattle.lvm_group.proofs.GrownRuns.{grown_apart, grown_row, grown_within}
use Rattle.lvm_group.proofs.OwnGroup.{own_inside, own_orderly}
use Rattle.lvm_group.proofs.OwnText.{IsWritable, own_is_own, runs_back}
use Rattle.lvm_group.proofs.Passed.{both}

-- a volume has few extents
pub small_extents : (l : Linear) (a : RackView) → IsOrderly l → IsInside l a → extents_of l.runs < 2 ^ 52
small_extents l a orderly inside =
    let most = no_more_sectors l a orderly inside in
    let small = inside.small in
    let sized = orderly.sized in
    let grows = mul-le (extents_of l.runs) 1 (extents_of l.runs) l.extent (omega arith) (omega arith) in
    omega arith

pub fits_parts : (runs : List Run) (numbers : List ℕ) → fits runs numbers ≡ true → (list_all (is_within numbers) runs ≡ true) × (length (grown runs numbers) ≤ 1024)
unfolding fits
fits_parts runs numbers fitting =
    let parts = both (list_all (is_within numbers) runs) (nat_le (length (grown runs numbers)) 1024) fitting in
    (parts.0, leb-true (length (grown runs numbers)) 1024 parts.1)

-- what its group is written of
pub next_writable : (extent joined : ℕ) (sectors : ℕ → ℕ) (seqno : ℕ) (numbers : List ℕ) (runs : List Run) → length numbers ≤ 16 → length numbers ≤ joined → HoldAll extent sectors 0 numbers → seqno < 2 ^ 63
    → in_row 0 runs ≡ true → all_apart runs ≡ true → fits runs numbers ≡ true → IsWritable extent joined sectors seqno numbers (grown runs numbers)
next_writable extent joined sectors seqno numbers runs few joins holds room row apart fitting =
    let parts = fits_parts runs numbers fitting in
    record {
      few = few;
      joins = joins;
      holds = holds;
      room = room;
      row = grown_row 0 (extents_of runs) runs (pieces 0 runs numbers) (omega arith) row;
      apart = grown_apart runs numbers apart parts.0;
      within = grown_within runs numbers parts.0;
      short = parts.1;
    }

pub next_linear : (pool : List ℕ) (extent joined : ℕ) (sectors : ℕ → ℕ) (seqno : ℕ) (numbers : List ℕ) (runs : List Run) → length numbers ≤ 16 → fits runs numbers ≡ true
    → linear_in joined (own_group pool extent sectors seqno numbers (grown runs numbers)) ≡ record { extent = extent; arrays = joined; runs = grown runs numbers }
next_linear pool extent joined sectors seqno numbers runs few fitting =
    ap (λ (runs : List Run). record { extent = extent; arrays = joined; runs = runs }) (runs_back numbers (grown runs numbers) few (grown_within runs numbers (fits_parts runs numbers fitting).0))

-- it is orderly
pub next_orderly : (pool : List ℕ) (extent joined : ℕ) (sectors : ℕ → ℕ) (seqno : ℕ) (numbers : List ℕ) (runs : List Run) → 0 < extent → length numbers ≤ 16 → fits runs numbers ≡ true
    → IsWritable extent joined sectors seqno numbers (grown runs numbers) → IsOrderly (record { extent = extent; arrays = joined; runs = grown runs numbers })
next_orderly pool extent joined sectors seqno numbers runs some few fitting is =
    subst IsOrderly (next_linear pool extent joined sectors seqno numbers runs few fitting)
    (own_orderly pool extent joined sectors (own_group pool extent sectors seqno numbers (grown runs numbers)) some (own_is_own pool extent joined sectors seqno numbers (grown runs numbers) is))

-- and lies inside its arrays
pub next_inside : (pool : List ℕ) (extent joined : ℕ) (a : RackView) (seqno : ℕ) (numbers : List ℕ) (runs : List Run) → length numbers ≤ 16 → joined ≤ a.disks → total a.sectors a.disks < 2 ^ 52 → fits runs numbers ≡ true
    → IsWritable extent joined a.sectors seqno numbers (grown runs numbers) → IsInside (record { extent = extent; arrays = joined; runs = grown runs numbers }) a
next_inside pool extent joined a seqno numbers runs few arrays small fitting is =
    subst (λ (l : Linear). IsInside l a) (next_linear pool extent joined a.sectors seqno numbers runs few fitting)
    (own_inside pool extent joined (own_group pool extent a.sectors seqno numbers (grown runs numbers)) a (own_is_own pool extent joined a.sectors seqno numbers (grown runs numbers) is) arrays small)

-- Each drive of a new pool has its parts.
use Rattle.std.proofs.Common.{◌≡◌, ◌≢◌, ℕ, ◌+◌, ◌<◌, [], sym, ◌∙◌, subst, length, arith}
use Rattle.rack.specs.Seen.{IsLive, RackView, SameRack}
use Rattle.rack.specs.Joins.{live_second, stays_then}
use Rattle.rack.specs.Sequences.{WritesOnly}
use Rattle.gpt_table.specs.Disk.{Contents, now_on}
use Rattle.array_image.specs.Places.{data_sector, state_sector, super_sector}
use Rattle.pool_format.specs.declared.Birth.{Birth}
use Rattle.pool_format.specs.declared.planning.NewPool.{NewPool}
use Rattle.pool_format.specs.Plan.{HasRoom, IsPlan}
use Rattle.pool_format.specs.Data.{IsMemberData, array_sector}
use Rattle.new_array.specs.Supers.{role_of}
use Rattle.pool_format.specs.Parts.{new_super}
use Rattle.pool_format.specs.Drives.{HasParts, HoldsTable, IsBlockOf, IsNewDrive, IsWhole, LeavesClosed, LeavesLaid, LeavesState, gate_at}
use Rattle.pool_format.specs.Writing.{InClosings, InLayings, InStates}
use Rattle.pool_format.proofs.Laying.{member_inside, table_apart, table_on_disk}
use Rattle.pool_format.proofs.Leaving.{closing_apart, laid_still, stands, states_slices, table_agrees}

-- ---- disks that are whole

-- a disk that is whole has live sectors
pub whole_live : (a b : RackView) (d s : ℕ) → SameRack a b → a.lasting → IsWhole a d → s < a.sectors d → IsLive a b d s
whole_live a b d s stays lasting whole within = record {
  disk = subst (λ k. d < k) (sym stays.disks) whole.disk;
  sector = subst (λ k. s < k) (sym (stays.sectors d)) within;
  is_told = whole.is_told;
  unspent = stays.lasts lasting d s (whole.unspent s within);
}

-- and stays whole
pub whole_then : (a b : RackView) (d : ℕ) → SameRack a b → a.lasting → IsWhole a d → IsWhole b d
whole_then a b d stays lasting whole = record {
  disk = subst (λ k. d < k) (sym stays.disks) whole.disk;
  is_told = stays.told d whole.is_told;
  unspent = λ s within. stays.lasts lasting d s (whole.unspent s (subst (λ k. s < k) (stays.sectors d) within));
}

-- what holds of whole disks after some calls holds of those that were whole before them
pub parts_first : (plan : NewPool) (birth : Birth) (a m : RackView) → SameRack a m → a.lasting → (d : ℕ) → IsWhole a d → (c : Contents)
    → (IsWhole m d → HasParts plan birth d (m.sectors d) c) → HasParts plan birth d (a.sectors d) c
parts_first plan birth a m stays lasting d whole c parts =
    subst (λ n. HasParts plan birth d n c) (stays.sectors d) (parts (whole_then a m d stays lasting whole))

module _ (plan : NewPool) (birth : Birth) (x : RackView) (is : IsPlan plan) (room : HasRoom plan x) (d : ℕ) (disk : d < x.disks) where
  low_drive : d < length plan.units.items
  low_drive = let disks = room.disks in omega (arith, disk, disks)

  logs_in : (s : ℕ) → s < 10240 → s < x.sectors d
  logs_in s below = let logs = room.logs d disk in omega (arith, logs, below)

  -- the parts are said by the sectors but that of the state
  pub parts_agree : (c e : Contents) → ((s : ℕ) → s < x.sectors d → s ≢ state_sector → c s ≡ e s) → HasParts plan birth d (x.sectors d) c → HasParts plan birth d (x.sectors d) e
  parts_agree c e same parts = record {
    table = parts_table;
    gate = sym (same gate_at (logs_in gate_at (omega arith)) (λ at. omega (arith, at))) ∙ parts.gate;
    supers = λ n a at among.
        let first = (is.each n a at).first in
        let fits = (member_inside plan x is room n d a at among).fits in
        subst (IsBlockOf (new_super birth a n d)) (same (a.first + super_sector) (omega (arith, fits)) (λ here. omega (arith, first, here))) (parts.supers n a at among);
    member_data = λ n a at among s below.
        let first = (is.each n a at).first in
        let fits = (member_inside plan x is room n d a at among).fits in
        subst (IsMemberData (length a.members.items) (array_sector plan birth n) (role_of a.members.items d) s)
        (same (a.first + data_sector + s) (omega (arith, fits, below)) (λ here. omega (arith, first, here))) (parts.member_data n a at among s below);
  }
    where
      parts_table : HoldsTable plan birth d (x.sectors d) e
      parts_table =
          table_agrees plan birth d (x.sectors d) c e
          (λ s of.
          same s (table_on_disk (x.sectors d) s (let logs = room.logs d disk in omega (arith, logs)) of)
          (λ at. table_apart plan x is room d s of (states_slices plan is d s [] (low_drive, at)))) parts.table

-- ---- the drives

module _ (plan : NewPool) (birth : Birth) (a m b : RackView) (is : IsPlan plan) (room : HasRoom plan a) (lasting : a.lasting)
    (laying : WritesOnly a m (InLayings plan a.sectors)) (closing : WritesOnly m b (InClosings plan)) where
  all : SameRack a b
  all = stays_then laying.stays closing.stays

  -- a disk that is whole has all parts that its place is to have, once it is laid and closed
  pub drive_filled : (d : ℕ) → IsWhole a d → LeavesLaid plan birth d a m → LeavesClosed plan birth d m b → HasParts plan birth d (a.sectors d) (now_on b d)
  drive_filled d whole laid closed =
      let kept = laid_still plan birth d (InClosings plan) laying.stays closing (λ s v of end. closing_apart plan is a room d s v of end) laid in
      record {
        table = kept.table (λ s of. live_at s (table_on_disk (a.sectors d) s (let logs = room.logs d whole.disk in omega (arith, logs)) of));
        gate = closed.gate (live_second laying.stays (live_at gate_at (logs_in plan birth a is room d whole.disk gate_at (omega arith))));
        supers = λ k e at among.
            closed.supers k e at among
            (live_second laying.stays (live_at (e.first + super_sector) (let fits = (member_inside plan a is room k d e at among).fits in omega (arith, fits))));
        member_data = λ k e at among s below.
            kept.members k e at among s below (live_at (e.first + data_sector + s) (let fits = (member_inside plan a is room k d e at among).fits in omega (arith, fits, below)));
      }
    where
      live_at : (s : ℕ) → s < a.sectors d → IsLive a b d s
      live_at s within = whole_live a b d s all lasting whole within

-- and its copy of the state, once that is written
pub drive_new : (plan : NewPool) (birth : Birth) (a m b : RackView) → IsPlan plan → HasRoom plan a → a.lasting → (filled : SameRack a m) → (said : WritesOnly m b (InStates plan)) → (d : ℕ)
    → IsWhole a d → HasParts plan birth d (a.sectors d) (now_on m d) → LeavesState plan birth d m b → IsNewDrive plan birth d (a.sectors d) (now_on b d)
drive_new plan birth a m b is room lasting filled said d whole parts state =
    let all = stays_then filled said.stays in
    record {
      parts =
          parts_agree plan birth a is room d whole.disk (now_on m d) (now_on b d)
          (λ s within other.
          sym (stands (InStates plan) d s said (live_second filled (whole_live a b d s all lasting whole within)) (λ v may. other may.1))) parts;
      state = state.state (live_second filled (whole_live a b d state_sector all lasting whole (logs_in plan birth a is room d whole.disk state_sector (omega arith))));
    }

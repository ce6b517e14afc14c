-- A new drive that was written and isn't taken in: to the slices its writes are reads.
use Rattle.std.proofs.Common.{◌≢◌, ℕ, List, Some, refl, inl, inr}
use Rattle.rack.specs.Seen.{RackView, Rose, SameRack}
use Rattle.rack.specs.Joins.{rose_since}
use Rattle.rack.proofs.Writing.{only_then, only_weaker}
use Rattle.rack.specs.Sequences.{WritesOnly}
use Rattle.gpt_table.specs.declared.Table.{Table}
use Rattle.slice_rack.specs.Slices.{Slices, IsOrderly, seat_of, disk_of}
use Rattle.slice_rack.specs.Sliced.{IsInside, slices_of}
use Rattle.slice_rack.specs.Runs.{IsSliced, inside_still}
use Rattle.raid_rack.specs.declared.arrays.Arrays.{Arrays}
use Rattle.raid_laws.specs.Book.{after_same}
use Rattle.raid_laws.specs.Enlisting.{HasLost, IsNotWhole, IsRefused, IsWrittenBy}
use Rattle.raid_laws.specs.Laws.{stops_inside}
use Rattle.raid_laws.specs.Moves.{Mends, ChangesNoData, RaisesBy}
use Rattle.raid_laws.specs.NewDrive.{IsOfDrive}
use Rattle.raid_rack.specs.RaidRack.{IsFit, IsRunning, raid_by}
use Rattle.raid_laws.specs.Runs.{CrashInvariant}
use Rattle.raid_laws.proofs.Moving.{moves_bring, moves_then}
use Rattle.raid_rack.proofs.Serving.{moments_call}
use Rattle.raid_laws.specs.Truths.{KeepsTruths}
use Rattle.raid_laws.specs.Unlost.{KeepsUnlost}
use Rattle.raid_rack.proofs.Truths.{truths_reads, truths_then}
use Rattle.raid_laws.proofs.Unlost.{unlost_reads, unlost_then}
use Rattle.raid_laws.proofs.Apart.{moves_quiet, reads_apart, set_still}

pub running_still : (r : Arrays) (a b : RackView) → SameRack a b → IsRunning r a → IsRunning r b
running_still r a b stays running = record { count = running.count; set = set_still (raid_by r) a b stays running.set }

pub fit_still : (r : Arrays) (a b : RackView) → SameRack a b → IsFit r a → IsFit r b
fit_still r a b stays fit = record { running = running_still r a b stays fit.running; heeded = fit.heeded }

-- what stops leave meanwhile, of calls on the slices by one table
moments_moves : (t : Slices) (r q : Arrays) (a b : RackView) → IsFit r (slices_of t a) → IsFit q (slices_of t b) → ChangesNoData (raid_by r) (raid_by q) (slices_of t a) (slices_of t b)
    → CrashInvariant (raid_by r) (raid_by q) (slices_of t a) (slices_of t b)
moments_moves t r q a b fit after moves =
    moments_call r q (slices_of t a) (slices_of t b) (λ n vals. vals) fit after (stops_inside t b) (moves_bring (raid_by r) (raid_by q) (slices_of t a) (slices_of t b) moves)

-- A disk without a place was written, and refused a call.
pub refused_lay : (t : Slices) (disk : ℕ) (table : Table) (r : Arrays) (a b : RackView) → IsOrderly t → ((p : ℕ) → seat_of t p ≢ Some disk) → IsFit r (slices_of t a)
    → WritesOnly a b (IsOfDrive disk table) → Rose (a.faults disk) (b.faults disk) → IsRefused t disk table (raid_by r) a b
refused_lay t disk table r a b orderly free fit only gone =
    let v = raid_by r in
    let set = fit.running.set in
    let reads = reads_apart t a b disk (IsOfDrive disk table) orderly set.fit.1 only (λ d s u at. at.0) free in
    let moves = moves_quiet v (slices_of t a) (slices_of t b) set reads in
    record {
      only = only;
      gone = gone;
      moves = moves;
      moments = moments_moves t r r a b fit (fit_still r (slices_of t a) (slices_of t b) reads.stays fit) moves;
      truths = truths_reads v (slices_of t a) (slices_of t b) set reads;
    }

-- A disk without a place was written, and then another drive was found gone: but for its mark all is as before.
pub not_whole : (t : Slices) (disk : ℕ) (table : Table) (r q : Arrays) (a m b : RackView) → IsOrderly t → ((p : ℕ) → seat_of t p ≢ Some disk) → IsFit r (slices_of t a)
    → WritesOnly a m (IsOfDrive disk table) → (m.fit → IsInside t m → WritesOnly m b (IsSliced t)) → IsFit q (slices_of t b)
    → Mends (raid_by r) (raid_by q) (slices_of t m) (slices_of t b) → HasLost (raid_by r) (raid_by q) (slices_of t m) (slices_of t b) → RaisesBy 18 (raid_by r) (raid_by q)
    → KeepsTruths (raid_by r) (raid_by q) (slices_of t m) (slices_of t b) → KeepsUnlost r.state q.state (slices_of t m) (slices_of t b) → IsNotWhole t disk table (raid_by r) (raid_by q) a b
not_whole t disk table r q a m b orderly free fit one two after mends lost raises truths unlost =
    let v = raid_by r in
    let w = raid_by q in
    let set = fit.running.set in
    let inside = set.fit.1 in
    let may : ℕ → ℕ → List ℕ → Type 0 = IsWrittenBy t disk table in
    let reads = reads_apart t a m disk (IsOfDrive disk table) orderly inside one (λ d s u at. at.0) free in
    let moves = moves_then v v w (slices_of t a) (slices_of t m) (slices_of t b) (moves_quiet v (slices_of t a) (slices_of t m) set reads) mends.moves in
    record {
      only =
          only_then may (only_weaker (IsOfDrive disk table) may (λ d s u at. inl at) one)
          (only_weaker (IsSliced t) may (λ d s u at. inr at) (two one.stays.fit (inside_still one.stays inside)));
      mends = record { moves = moves; heeded = mends.heeded; marked = mends.marked };
      raises = raises;
      moments = moments_moves t r q a b fit after moves;
      truths = truths_then v v w (slices_of t a) (slices_of t m) (slices_of t b) refl (truths_reads v (slices_of t a) (slices_of t m) set reads) truths;
      unlost =
          unlost_then r.state r.state q.state (slices_of t a) (slices_of t m) (slices_of t b) reads.stays mends.moves.stays (after_same r.state) mends.moves.book
          (unlost_reads r.state r.state (slices_of t a) (slices_of t m) refl reads) unlost;
      lost =
          let fault = lost.3 in (
            lost.0,
            lost.1,
            lost.2,
            (fault.0, fault.1, rose_since (one.stays.faults (disk_of t fault.0)) fault.2),
          );
    }

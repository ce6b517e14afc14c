-- The end of a run.
use Rattle.std.proofs.Common.{◌≡◌, ℕ, ◌<◌, nat_lt, refl, sym, subst, lt-ltb, arith}
use Rattle.rack.proofs.Writing.{only_quiet}
use Rattle.rack.specs.Values.{IsSingle}
use Rattle.rack.specs.Seen.{Rose, RackView}
use Rattle.rack.specs.Shelf.{Shelf}
use Rattle.slice_rack.specs.Slices.{Slices, disk_of}
use Rattle.slice_rack.specs.SliceRack.{below_of, tables}
use Rattle.array_image.proofs.Sources.{held_single}
use Rattle.array_model.specs.View.{shape_of}
use Rattle.lvm_group.specs.Laws.{live_below}
use Rattle.lvm_group.specs.Runs.{array_of, sector_of}
use Rattle.lvm_group.specs.Volume.{linear}
use Rattle.lvm_group.specs.Framed.{IsShown}
use Rattle.raid_rack.specs.declared.arrays.Arrays.{Arrays}
use Rattle.raid_rack.specs.declared.arrays.RaidRack.{RaidRack}
use Rattle.raid_laws.specs.Cleaning.{CleansAll, NoneFails, LeavesItsRows as LeavesRowsOf}
use Rattle.raid_laws.specs.Laws.{live_parts, stops_inside}
use Rattle.raid_laws.specs.Moves.{RaisesBy}
use Rattle.raid_laws.specs.Raid.{IsTracked, StopsInside, held_in, live_of, spent_of}
use Rattle.raid_rack.specs.RaidRack.{IsFit, KeepsRack, SliceRuns, raid_by, raid_in, raid_seen, slices_in, slices_seen}
use Rattle.raid_laws.proofs.Moving.{moves_bring}
use Rattle.raid_rack.proofs.Serving.{whole_call}
use Rattle.raid_laws.specs.Runs.{CrashInvariant}
use Rattle.raid_laws.specs.Truths.{KeepsTruths}
use Rattle.raid_laws.specs.Unlost.{KeepsUnlost}
use Rattle.raid_rack.proofs.TruthAgrees.{cleans_settled, truth_agrees}
use Rattle.raid_laws.proofs.Whole.{before_amid}
use Rattle.pool.specs.declared.Pool.{Pool}
use Rattle.pool.specs.View.{View, arrays_of, book, slices_shown, view, volume}
use Rattle.pool.specs.Keeping.{most_raised}
use Rattle.pool.specs.Calls.{Ends, LeavesItsRows}
use Rattle.pool.specs.Entering.{Cleaned}
use Rattle.raid_rack.proofs.Raises.{raises_more}
use Rattle.pool.specs.Taking.{Carries}
use Rattle.pool.proofs.Booked.{book_lost}
use Rattle.pool.proofs.Carrying.{carries_kept}
use Rattle.pool.proofs.Held.{held_moves}
use Rattle.pool.proofs.Doing.{does_flush}
use Rattle.pool.proofs.Reached.{reached_keeps, reached_stays, with_arrays}
use Rattle.pool.proofs.Serving.{KeepNames, Laws, is_call}

-- an array that was cleaned has one value in each sector that isn't spent
cleaned_single : (a b : Arrays) (x y : RackView) (n s : ℕ) → IsFit a x → IsFit b y → StopsInside y → CleansAll (raid_by a) (raid_by b) x y
    → n < a.state.made → IsTracked (raid_by a) x n → live_of (raid_by b) n s → IsSingle (held_in (raid_by b) y n s)
cleaned_single a b x y n s fit after inside cleans low told alive =
    let v = raid_by a in
    let w = raid_by b in
    let goes = (live_parts w n s alive).0 in
    let call = whole_call a b x y (λ n vals. vals) fit after (moves_bring v w x y cleans.moves) inside in
    held_single (shape_of (w.arrays n)) n y.held s
    (cleans.settled n (held_in v x n) (spent_of w n) (lt-ltb n a.state.made low) told.joined low goes (λ z unspent. (live_parts w n z unspent).1)
    (before_amid v w x y (held_in v x) call n told goes))

-- what the arrays say of it
pub record IsCleaned {R : Type 0} (seen : R → RackView) (runs : R → R → Type 0) (old new : RaidRack R) : Type 0 where
  pub cleans : CleansAll (raid_in old) (raid_in new) (slices_seen seen old) (slices_seen seen new)
  pub images : LeavesRowsOf (raid_in old) (raid_in new) (slices_seen seen old) (slices_seen seen new)
  pub keeps : KeepsRack (raid_seen seen old) (raid_seen seen new)
  pub raises : RaisesBy 288 (raid_in old) (raid_in new)
  pub ran : SliceRuns seen runs (slices_in old) (slices_in new)
  pub truths : KeepsTruths (raid_in old) (raid_in new) (slices_seen seen old) (slices_seen seen new)
  pub moments : CrashInvariant (raid_in old) (raid_in new) (slices_seen seen old) (slices_seen seen new)
  pub unlost : KeepsUnlost (raid_in old).state (raid_in new).state (slices_seen seen old) (slices_seen seen new)

-- where no disk of the bay has a new fault, no slice has one
none_fails : (x y : View) → y.slices ≡ x.slices → ((d : ℕ) → Rose (x.bay.faults d) (y.bay.faults d) → ⊥) → NoneFails (slices_shown x) (slices_shown y)
none_fails x y same quiet place fault =
    quiet (disk_of x.slices fault.0)
    (subst (λ (t : Slices). Rose (x.bay.faults (disk_of x.slices fault.0)) (y.bay.faults (disk_of t fault.0))) same fault.2)

rows_left : (x y : View) → y.slices ≡ x.slices → LeavesRowsOf (book x) (book y) (slices_shown x) (slices_shown y) → LeavesItsRows x y
rows_left x y same images quiet = images (none_fails x y same quiet)

pub clean_done : {R : Type 0} (seen : R → RackView) (shelf : R → Shelf) (runs : R → R → Type 0) (laws : Laws seen) (names : KeepNames shelf runs) (p : Pool R) (raid : RaidRack R) → (volume (view seen shelf p)).fit
    → IsCleaned seen runs (arrays_of p) raid → Cleaned (view seen shelf p) (view seen shelf (with_arrays p raid)) × Carries (view seen shelf p) (view seen shelf (with_arrays p raid))
clean_done seen shelf runs laws names p raid fit cleaned =
    let x = view seen shelf p in
    let q = with_arrays p raid in
    let y = view seen shelf q in
    let l = linear p.volume in
    let moves = cleaned.cleans.moves in
    let stays = reached_stays seen shelf p raid fit cleaned.keeps in
    let keeps = book_lost (book x) (book y) (slices_shown y) stays.fit.0.running.set stays.fit.0.heeded moves.book.same.made moves.arrays in
    let call = is_call seen shelf runs laws names 1 p q fit stays refl cleaned.ran moves.book (record { left = moves.left; cause = moves.cause }) keeps cleaned.truths cleaned.moments moves.unwritten
    (only_quiet (IsShown l) cleaned.keeps.stays cleaned.keeps.keeps)
    (raises_more 288 most_raised (book x) (book y) (omega arith) cleaned.raises) in
    let ends : Ends x y = record {
      passes = call.passes;
      raises = call.raises;
      works = record { arrays = moves.arrays; plan = moves.plan };
      marks = call.marks;
      does = does_flush x y call.passes call.sound (reached_keeps seen shelf p raid fit cleaned.keeps)
          (λ s v live left.
          let below = live_below {l = l} {a = raid_seen seen (arrays_of p)} {b = raid_seen seen raid} p.volume.orderly stays.fit.1 live in
          cleaned_single x.arrays y.arrays (slices_shown x) (slices_shown y) (array_of l s) (sector_of l s) fit.0 stays.fit.0
          (stops_inside (tables (slices_in raid)) (seen (below_of (slices_in raid)))) cleaned.cleans
          (subst (λ n. array_of l s < n) moves.book.same.made below.disk) below.is_told below.unspent v left);
      rows = rows_left x y cleaned.ran.tables cleaned.images;
      agree = λ quiet n low held told goes r left.
          let now = subst (λ k. n < k) (sym moves.book.same.made) low in
          truth_agrees (book y) (slices_shown y) n stays.fit.0.running.set stays.fit.0.heeded now told goes (cleaned.truths n low held) r left
          (cleans_settled (λ k. nat_lt k (book x).state.made) (book x) (book y) (slices_shown x) (slices_shown y) n cleaned.cleans (none_fails x y cleaned.ran.tables quiet) low
          (lt-ltb n (book x).state.made low));
    } in (
      record { ends = ends; raises = cleaned.raises; plan = moves.plan; arrays = moves.arrays; unlost = cleaned.unlost },
      carries_kept x y stays (reached_keeps seen shelf p raid fit cleaned.keeps) moves.book.same.made (λ names all. cleaned.truths)
          (λ names all. held_moves x y.bay y.slices y.arrays fit stays.fit.0 moves),
    )

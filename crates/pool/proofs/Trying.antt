-- A work is tried: what the call of the arrays says, reached through the volume.
use Rattle.std.specs.Prelude.{IfErr, Result, is_ok}
use Rattle.std.proofs.Common.{◌≡◌, ℕ, ◌^◌, ◌≤◌, true, false, sym, ap, subst}
use Rattle.rack.specs.Seen.{RackView}
use Rattle.rack.specs.Shelf.{Shelf}
use Rattle.slice_rack.specs.Slices.{seat_of}
use Rattle.slice_rack.specs.SliceRack.{below_of, tables}
use Rattle.array_core.specs.Pool.{Goes}
use Rattle.growth_laws.specs.Growing.{GrowsBy, is_due as is_due_to_grow}
use Rattle.lvm_group.specs.Volume.{linear}
use Rattle.pool_state.specs.declared.contents.Work.{Work}
use Rattle.raid_laws.specs.Moves.{RaisesBy}
use Rattle.raid_laws.specs.Raid.{Raid}
use Rattle.raid_laws.specs.Runs.{RaidRuns}
use Rattle.raid_laws.specs.Works.{array_of}
use Rattle.raid_rack.specs.RaidRack.{IsFit, KeepsRack, SliceRuns, arrays_in, one_done, raid_in, raid_seen, slices_in, slices_seen, written_in}
use Rattle.raid_rack.specs.declared.arrays.RaidRack.{RaidRack}
use Rattle.raid_rack.specs.declared.works.Stuck.{Stuck}
use Rattle.pool.specs.declared.Pool.{Pool}
use Rattle.pool.specs.Growing.{IsRefused, IsRefusedGrowth, IsRefusedRow, LacksIn, TriesWork, change_in, linear_after}
use Rattle.pool.specs.View.{arrays_of, bay_in, view, volume}
use Rattle.pool.proofs.Grows.{goes_of, growth_tried, row_tried}
use Rattle.pool.proofs.Reached.{with_arrays}
use Rattle.pool.proofs.Serving.{KeepNames}
use Rattle.pool.proofs.Stepping.{SaysOf}

-- what the call of a row, or of the end of a plan, says
pub record RowSays {R : Type 0} (seen : R → RackView) (runs : R → R → Type 0) (work : Work) (r : Result (Unit {0}) Stuck) (old new : RaidRack R) : Type 0 where
  pub says : SaysOf seen work 1 r (one_done r) old new
  pub keeps : KeepsRack (raid_seen seen old) (raid_seen seen new)
  pub ran : SliceRuns seen runs (slices_in old) (slices_in new)
  pub book : RaidRuns (written_in old) (written_in new) (raid_in old) (raid_in new) (slices_seen seen old) (slices_seen seen new)
  pub raises : RaisesBy 18 (raid_in old) (raid_in new)

-- what that of a work of a growth says
pub record GrowthSays {R : Type 0} (seen : R → RackView) (runs : R → R → Type 0) (seconds : ℕ) (work : Work) (L : RaidRack R → Raid → Raid → Type 0) (k : ℕ) (r : Result (Unit {0}) Stuck)
    (old new : RaidRack R) : Type 0 where
  pub idle : is_due_to_grow (raid_in old) work ≡ false → (is_ok r ≡ false) × (new ≡ old)
  pub grows : is_due_to_grow (raid_in old) work ≡ true → GrowsBy (change_in seconds work) (L old) (raid_in old) (raid_in new) (slices_seen seen old) (slices_seen seen new) (is_ok r)
  pub named : IfErr r (λ e. e.array ≡ array_of work)
  pub fit : IsFit (arrays_in new) (slices_seen seen new)
  pub raises : RaisesBy k (raid_in old) (raid_in new)
  pub seats : (place : ℕ) → seat_of (tables (slices_in new)) place ≡ seat_of (tables (slices_in old)) place
  pub goes : Goes (seen (below_of (slices_in old))) (seen (below_of (slices_in new)))
  pub ran : runs (below_of (slices_in old)) (below_of (slices_in new))

-- where slices stay where they are
pub seats_on : {R : Type 0} (seen : R → RackView) (runs : R → R → Type 0) (old new : RaidRack R) → SliceRuns seen runs (slices_in old) (slices_in new) → (place : ℕ)
    → seat_of (tables (slices_in new)) place ≡ seat_of (tables (slices_in old)) place
seats_on seen runs old new ran place = ap (λ t. seat_of t place) ran.tables

pub goes_on : {R : Type 0} (seen : R → RackView) (runs : R → R → Type 0) (old new : RaidRack R) → IsFit (arrays_in old) (slices_seen seen old)
    → SliceRuns seen runs (slices_in old) (slices_in new) → Goes (seen (below_of (slices_in old))) (seen (below_of (slices_in new)))
goes_on seen runs old new fit ran = goes_of (ran.apart fit.running.set.fit.0 fit.running.set.fit.1)

module _ {R : Type 0} (seen : R → RackView) (shelf : R → Shelf) (runs : R → R → Type 0) (names : KeepNames shelf runs) (p : Pool R) (old new : RaidRack R) (asked work : Work)
    (is : asked ≡ work) (reached : old ≡ arrays_of p) (fit : (volume (view seen shelf p)).fit) (r : Result (Unit {0}) Stuck)
    (same : linear p.volume ≡ linear_after work (linear p.volume) (raid_in (arrays_of p))) where
  pub row_from : RowSays seen runs asked r old new
      → ((w : Raid) (array : ℕ) → array ≡ array_of work → IsRefusedRow work (raid_in (arrays_of p)) w
      → IsRefused seen runs (view seen shelf p).slices (bay_in p) (linear p.volume) work (raid_in (arrays_of p)) w array)
      → TriesWork asked (view seen shelf p) (view seen shelf (with_arrays p new)) runs (bay_in p) r
  row_from own refused =
      let mine = subst (λ k. RowSays seen runs work r k new) reached (subst (λ k. RowSays seen runs k r old new) is own) in
      subst (λ k. TriesWork k (view seen shelf p) (view seen shelf (with_arrays p new)) runs (bay_in p) r) (sym is)
      (row_tried seen shelf runs names p new work fit r same mine.says mine.keeps mine.ran mine.book mine.raises refused)

  pub growth_from : (seconds : ℕ) (L : RaidRack R → Raid → Raid → Type 0) (k : ℕ) → k ≤ 2 ^ 20
      → ((mid w : Raid) → L (arrays_of p) mid w → LacksIn seen runs (view seen shelf p).slices (bay_in p) work mid w)
      → GrowthSays seen runs seconds work L k r old new
      → ((w : Raid) (array : ℕ) → array ≡ array_of work → IsRefusedGrowth seen runs (view seen shelf p).slices (bay_in p) work (raid_in (arrays_of p)) w
      → IsRefused seen runs (view seen shelf p).slices (bay_in p) (linear p.volume) work (raid_in (arrays_of p)) w array)
      → TriesWork asked (view seen shelf p) (view seen shelf (with_arrays p new)) runs (bay_in p) r
  growth_from seconds L k few lacking own refused =
      let mine = subst (λ o. GrowthSays seen runs seconds work L k r o new) reached own in
      subst (λ t. TriesWork t (view seen shelf p) (view seen shelf (with_arrays p new)) runs (bay_in p) r) (sym is)
      (growth_tried seen shelf runs names p new work fit r same seconds (L (arrays_of p)) lacking mine.idle mine.grows mine.named mine.fit k few mine.raises mine.seats mine.goes mine.ran
      refused)

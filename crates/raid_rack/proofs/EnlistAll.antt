-- The whole of a call that takes a drive in, from its parts: the disk is laid, the arrays are settled, the slices are added, and one commit has the drive.
use Rattle.std.proofs.Common.{◌≡◌, ◌≢◌, ℕ, ◌<◌, ◌≤◌, Bool, false, [], ◌∷◌, length, Ok, Some, ap, subst, ◌∙◌, arith}
use Rattle.rack.specs.Seen.{RackView}
use Rattle.rack.specs.Joins.{stays_then}
use Rattle.rack.specs.Sequences.{WritesOnly}
use Rattle.gpt_table.specs.declared.Table.{Table}
use Rattle.gpt_table.specs.Disk.{HoldsCopy, now_on}
use Rattle.slice_rack.specs.Slices.{IsOrderly, Slices, disk_of, seat_of}
use Rattle.slice_rack.specs.Sliced.{slices_of}
use Rattle.slice_rack.specs.Runs.{IsSliced}
use Rattle.pool_state.specs.declared.contents.Plan.{Plan}
use Rattle.pool_state.specs.declared.contents.State.{State}
use Rattle.array_image.specs.States.{is_current}
use Rattle.raid_rack.specs.declared.arrays.Arrays.{Arrays}
use Rattle.array_core.specs.Seats.{losing}
use Rattle.array_model.specs.View.{spent_in}
use Rattle.raid_laws.specs.Vacated.{vacated}
use Rattle.raid_laws.specs.Enlisting.{Enlists, FindsEach, IsEnlisted, IsWrittenBy, JoinsEach, KeepsTold, SettlesWhole, next_drive, with_drive}
use Rattle.raid_laws.specs.Moves.{RaisesBy}
use Rattle.raid_laws.specs.NewDrive.{LaysDrive, SeatsDrive, drive_table, joins}
use Rattle.raid_rack.specs.RaidRack.{IsFit, IsRunning, raid_by}
use Rattle.raid_rack.proofs.EnlistTold.{enlisted_truths, keeps_told}
use Rattle.raid_rack.proofs.Enrolled.{all_only, copies_kept, enrolled, enrolled_raises, mbr_kept, single_kept}
use Rattle.raid_rack.proofs.Renewing.{joins_same, same_members, seats_same}
use Rattle.raid_rack.proofs.Untouched.{only_moved}
use Rattle.raid_laws.specs.Truths.{JoinsTruths}

module _ (r q z : Arrays) (place disk units sectors : ℕ) (plan : Plan) (t u : Slices) (a m y b : RackView) (size : sectors ≡ a.sectors disk)
    (fit : IsFit r (slices_of t a)) (running : IsRunning q (slices_of t y)) (settles : SettlesWhole (raid_by r) (raid_by q) (slices_of t m) (slices_of t y))
    (laid : SeatsDrive q.all.items place disk sectors t u) where
  -- the slices go by the arrays before
  pub seats : SeatsDrive r.all.items place disk (a.sectors disk) t u
  seats =
      seats_same r.all.items q.all.items (same_members r q (slices_of t a) (slices_of t y) fit.running running (ap (λ (k : State). k.made) settles.same) settles.moves.arrays) place disk (a.sectors disk) t u
      (subst (λ k. SeatsDrive q.all.items place disk k t u) size laid)

  pub enlists : (table : Table) → IsOrderly t → IsOrderly u → place < length r.state.drives.items
      → ((p : ℕ) → seat_of t p ≢ Some disk) → 10273 ≤ a.sectors disk
      → table ≡ drive_table (next_drive r.state).0 r.all.items place sectors (length r.all.items) → LaysDrive a m disk table {X = Unit {0}} (Ok tt)
      → WritesOnly m y (IsSliced t) → (slices_of u y).fit
      → IsEnlisted place units plan (joins q.all.items place sectors) (raid_by q) (raid_by z) (slices_of u y) (slices_of u b) → RaisesBy 18 (raid_by q) (raid_by z)
      → (is_current r.state place ≡ false → JoinsEach place units plan (raid_by q) (raid_by z) (slices_of u y) (slices_of u b))
      → FindsEach place units plan (vacated place (raid_by q)) (raid_by z) (slices_of u y) (slices_of u b)
      → ((n k : ℕ) → n < q.state.made → spent_in ((raid_by z).arrays n) k ≡ false → spent_in (losing (place ∷ []) ((raid_by q).arrays n)) k ≡ false)
      → WritesOnly y b (IsSliced u) → IsFit z (slices_of u b)
      → JoinsTruths (with_drive place units plan (joins q.all.items place sectors) (raid_by q)) (raid_by z) (slices_of u y) (slices_of u b)
      → Enlists t u r.all.items place disk units plan (raid_by r) (raid_by z) a b
  enlists table orderly orderly_now listed free room table_is lays two fit_now joined raises each finds less three after truths =
      let v = raid_by r in
      let s = raid_by q in
      let w = raid_by z in
      let joining : ℕ → Bool = joins r.all.items place (a.sectors disk) in
      let same = same_members r q (slices_of t a) (slices_of t y) fit.running running (ap (λ (k : State). k.made) settles.same) settles.moves.arrays in
      let joined_now : IsEnlisted place units plan joining s w (slices_of u y) (slices_of u b) =
      subst (λ (f : ℕ → Bool). IsEnlisted place units plan f s w (slices_of u y) (slices_of u b))
      ((λ i n. joins_same r.all.items q.all.items same place sectors n i) ∙ ap (λ k. joins r.all.items place k) size) joined in
      let few : place < 16 = let most = fit.running.set.few in omega (arith, listed, most) in
      let size_is : table.sectors ≡ a.sectors disk = ap (λ (e : Table). e.sectors) table_is ∙ size in
      let whole : table ≡ drive_table (next_drive r.state).0 r.all.items place (a.sectors disk) (length r.all.items) =
      table_is ∙ ap (λ k. drive_table (next_drive r.state).0 r.all.items place k (length r.all.items)) size in
      let early = stays_then lays.only.stays two.stays in
      record {
        is = enrolled place units plan joining v s w (slices_of t m) (slices_of t y) (slices_of u y) (slices_of u b) settles.same settles fit.heeded (slices_of u a) (slices_of t a)
            fit.running.set (λ d. early.faults (disk_of u d)) joined_now;
        raises = enrolled_raises place units plan joining v s w (slices_of t m) (slices_of t y) (slices_of u y) (slices_of u b) settles.same settles fit.heeded raises;
        only =
            subst (λ (e : Table). WritesOnly a b (IsWrittenBy u disk e)) whole
            (all_only r.all.items place disk t u a m y b table size_is few lays seats (only_moved r.all.items place disk (a.sectors disk) t u seats m y few two settles.reads) three);
        copies = λ live copy.
            subst (λ (e : Table). HoldsCopy copy e (now_on b disk)) whole
            (copies_kept r.all.items place disk t u a m y b table size_is few lays seats orderly orderly_now room free two three live copy);
        mbr = mbr_kept r.all.items place disk t u a m y b table size_is few lays seats orderly orderly_now room free two three;
        durable = single_kept r.all.items place disk t u a m y b table size_is few lays seats orderly orderly_now room free two three;
        mid = y.clock;
        within = λ traced.
            let one = (lays.only.stops traced).later in
            let next = (two.stops (lays.only.stays.traced traced)).later in
            (omega (arith, one, next), (three.stops (early.traced traced)).later);
        told = λ n low told opened other.
            subst (λ (e : Table). KeepsTold t u place disk units plan e v w a b y.clock n) whole
            (keeps_told r.all.items place disk units plan joining t u v s w a m y b table orderly orderly_now few free fit.running.set fit.heeded listed size_is room lays settles two
            seats fit_now joined_now each finds less three after.running.set opened n low told other);
        truths = λ opened n low.
            enlisted_truths r.all.items place disk units plan joining t u v s w a m y b table orderly orderly_now few free fit.running.set fit.heeded listed size_is room lays settles two
            seats fit_now joined_now each finds less three after.running.set opened
            (subst (λ (f : ℕ → Bool). JoinsTruths (with_drive place units plan f s) w (slices_of u y) (slices_of u b))
            ((λ i k. joins_same r.all.items q.all.items same place sectors k i) ∙ ap (λ k. joins r.all.items place k) size) truths)
            n low;
      }

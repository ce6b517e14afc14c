-- What was found of the pending record, by what the disks held before the scan.
use Rattle.std.proofs.Common.{◌≡◌, ℕ, ◌+◌, ◌<◌, ◌≤◌, Bool, true, false, nat_lt, if◌then◌else◌, List, [], Option, refl, sym, subst, ◌∙◌, arith, ltb-true}
use Rattle.rack.specs.Seen.{RackView, Rose}
use Rattle.rack.specs.Joins.{rose_later}
use Rattle.rack.specs.Sequences.{OnlyReads}
use Rattle.rack.proofs.Reading.{only_reads_join}
use Rattle.slice_rack.specs.Slices.{Slices, IsOrderly, disk_of, first_of, sectors_of}
use Rattle.slice_rack.specs.Sliced.{IsInside, slices_of}
use Rattle.slice_rack.specs.Laws.{disk_below, sector_below}
use Rattle.slice_rack.specs.Runs.{Runs}
use Rattle.slice_rack.proofs.Running.{only_reads_below}
use Rattle.array_image.specs.Places.{log_slice}
use Rattle.array_image.specs.Left.{reading}
use Rattle.log_laws.specs.View.{LogView, left_of}
use Rattle.log_laws.specs.Phases.{AreLogs}
use Rattle.log_laws.specs.Opening.{Finds, PendingCall}
use Rattle.commit_log.proofs.Story.{logs_named}
use Rattle.pool_scan.specs.Scanning.{AllTold, IsUnfaulted}
use Rattle.pool_rest.specs.Standing.{IsLasting, HasLooked, FindsAll}
use Rattle.pool_rest.proofs.Meant.{gone_none}

-- slices read alike before reads and after them
pub same_reading : (t : Slices) (a x : RackView) → IsOrderly t → IsInside t x → AllTold a → IsLasting a → OnlyReads a x → reading (slices_of t x) ≡ reading (slices_of t a)
same_reading t a x orderly inside told lasts reads = λ i d s. same d s i
  where
    held : (d s : ℕ) → s < sectors_of t d → (x.held (disk_of t d) (first_of t d + s)).current ≡ (a.held (disk_of t d) (first_of t d + s)).current
    held d s there =
        let disk : disk_of t d < x.disks = disk_below t x d s orderly inside there in
        (reads.keeps.held (disk_of t d) (first_of t d + s) (record {
          disk = disk;
          sector = sector_below t x d s inside there;
          is_told = told (disk_of t d) (subst (λ n. disk_of t d < n) reads.stays.disks disk);
          unspent = reads.stays.lasts lasts.lasting (disk_of t d) (first_of t d + s) (lasts.unspent (disk_of t d) (first_of t d + s));
        })).current

    same : (d s : ℕ) → reading (slices_of t x) d s ≡ reading (slices_of t a) d s
    same d s = by (nat_lt s (sectors_of t d)) refl
      where
        by : (b : Bool) → nat_lt s (sectors_of t d) ≡ b
            → (if b then (x.held (disk_of t d) (first_of t d + s)).current else []) ≡ (if b then (a.held (disk_of t d) (first_of t d + s)).current else [])
        by true there = held d s (ltb-true s (sectors_of t d) there)
        by false none = refl

pub looked_so : (t u : Slices) (a x b : RackView) (own : Type 0) (l m : LogView) (on gone : List ℕ) (is_pending : Bool) (damaged : Option ℕ)
    → IsOrderly t → IsInside t x → AreLogs (sectors_of t) on → OnlyReads a x → Runs t u x b own → l.added ≡ []
    → PendingCall l m on gone is_pending damaged (slices_of t x) (slices_of u b) → HasLooked a b u on gone m is_pending damaged
looked_so t u a x b own l m on gone is_pending damaged orderly inside logs reads runs empty call =
    subst (λ k. HasLooked a b k on gone m is_pending damaged) (sym runs.tables) (record {
      ordered = call.ordered;
      cause = λ p lost.
          let is = call.cause p lost in
          (is.0, rose_later a x b (disk_of t (log_slice p)) reads.stays (subst (λ k. Rose ((slices_of t x).faults (log_slice p)) ((slices_of k b).faults (log_slice p))) runs.tables is.1));
      added = call.added ∙ empty;
      lent = call.lent;
      finds = λ told lasts.
          subst (λ c. Finds m on (left_of on gone) is_pending damaged c) (same_reading t a x orderly inside told lasts reads)
          (call.finds (λ p named.
          let log = logs_named (sectors_of t) on p logs named in
          let disk : disk_of t (log_slice p) < x.disks = disk_below t x (log_slice p) 0 orderly inside (omega (arith, log.1)) in
          reads.stays.told (disk_of t (log_slice p)) (told (disk_of t (log_slice p)) (subst (λ n. disk_of t (log_slice p) < n) reads.stays.disks disk))));
    })

-- nothing was written
pub only_reads_all : (t u : Slices) (a x b : RackView) (own : Type 0) → x.fit → IsInside t x → ((k : ℕ) → 272 ≤ k → sectors_of t k ≡ 0) → OnlyReads a x → Runs t u x b own
    → OnlyReads (slices_of t x) (slices_of u b) → OnlyReads a b
only_reads_all t u a x b own fit inside none reads runs looked =
    only_reads_join reads
    (only_reads_below t x b none (runs.apart fit inside) (subst (λ k. OnlyReads (slices_of t x) (slices_of k b)) runs.tables looked))

-- what was found is what the slices hold still, where nobody was passed over
pub found_still : (a b : RackView) (t : Slices) (on gone : List ℕ) (m : LogView) (is_pending : Bool) (damaged : Option ℕ)
    → IsOrderly t → (slices_of t b).fit → OnlyReads a b → HasLooked a b t on gone m is_pending damaged → AllTold a → IsLasting a → IsUnfaulted a b
    → FindsAll b t on m is_pending damaged
found_still a b t on gone m is_pending damaged orderly fit reads looked told lasts free =
    subst (λ c. Finds m on (left_of on []) is_pending damaged c) (sym (same_reading t a b orderly fit.1 told lasts reads))
    (subst (λ g. Finds m on (left_of on g) is_pending damaged (reading (slices_of t a))) (gone_none a b t on gone m is_pending damaged looked free)
    (looked.finds told lasts))

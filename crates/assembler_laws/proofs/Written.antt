-- What is written on the disks of a rack, part after part.
use Rattle.std.proofs.Common.{◌≡◌, ◌⊎◌, ℕ, ◌+◌, ◌<◌, ◌≤◌, List, Some, inl, sym, subst, ◌∙◌}
use Rattle.rack.specs.Values.{Keeps}
use Rattle.rack.specs.Seen.{IsLive, RackView, SameRack}
use Rattle.rack.specs.Joins.{live_first, live_second, stays_then}
use Rattle.rack.specs.Sequences.{OnlyReads, WritesOnly}
use Rattle.rack.proofs.Writing.{only_then, only_quiet, only_weaker}
use Rattle.slice_rack.specs.Runs.{IsSliced}
use Rattle.slice_rack.specs.Slices.{Slices}
use Rattle.gpt_table.specs.Changes.{AreSingle, BothLive, IsOfCopies, the_table}
use Rattle.gpt_table.specs.Disk.{now_on}
use Rattle.pool_image.specs.Disks.{Seats}
use Rattle.pool_image.proofs.Identities.{table_same}
use Rattle.pool_scan.proofs.Seated.{scan_later}
use Rattle.pool_check.specs.Settling.{IsSettledValue, IsTableSector}
use Rattle.pool_check.proofs.TableSectors.{live_of, of_one}
use Rattle.pool_rest.specs.Resting.{IsOfDrive, WritesDrives}
use Rattle.assembler_laws.specs.Writing.{IsSlicedOrTable}

-- reads after it write nothing more
pub writes_then_reads : (a b c : RackView) → WritesDrives a b → OnlyReads b c → WritesDrives a c
writes_then_reads a b c writes reads = record {
  known = writes.known;
  state = writes.state;
  scan = scan_later a b c writes.known writes.scan reads.stays;
  only = only_then (IsOfDrive a writes.known writes.state) writes.only (only_quiet (IsOfDrive a writes.known writes.state) reads.stays reads.keeps);
}

-- reads, then slices and tables, then slices alone
pub rack_then : (t : Slices) (x y z w : RackView) → OnlyReads x y → WritesOnly y z (IsSlicedOrTable y z t) → WritesOnly z w (IsSliced t) → WritesOnly x w (IsSlicedOrTable y z t)
rack_then t x y z w reads rack texts =
    only_then (IsSlicedOrTable y z t) (only_quiet (IsSlicedOrTable y z t) reads.stays reads.keeps)
    (only_then (IsSlicedOrTable y z t) rack (only_weaker (IsSliced t) (IsSlicedOrTable y z t) (λ d u v at. inl at) texts))

-- ---- sectors of tables

-- Tables are settled from b to c, after calls since a that bring no value to a disk's table, and before other calls up to e.
module _ (a b c e : RackView) (first : SameRack a b) (mid : SameRack b c) (last : SameRack c e) where
  module _ (d : ℕ) (untouched : (u : ℕ) → IsOfCopies (a.sectors d) u → IsLive a b d u → Keeps (a.held d u) (b.held d u)) where
    abbrev n : ℕ
    n = a.sectors d

    before : BothLive a e d n → (u : ℕ) → IsOfCopies n u → Keeps (a.held d u) (b.held d u)
    before live u of = untouched u of (live_first (stays_then mid last) (live_of a e d n u live of))

    live_mid : BothLive a e d n → BothLive b c d n
    live_mid live copy u of = live_second first (live_first last (live copy u of))

    single_mid : BothLive a e d n → AreSingle a d n → AreSingle b d n
    single_mid live single copy u of v may = (let keeps = before live u (of_one copy n u of) in single copy u of v (keeps.within v may) ∙ sym keeps.current)

    -- what is written then is of the table that the disk had at first
    value_around : (u : ℕ) (v : List ℕ) → IsSettledValue b c d u v → IsSettledValue a e d u v
    value_around u v is = record {
      copy = is.copy;
      table = is.table;
      size = is.size ∙ first.sectors d;
      first = λ live single.
          table_same n (now_on a d) (now_on b d) (λ t within of. sym (before live t of).current)
          ∙ subst (λ m. BothLive b c d m → AreSingle b d m → the_table m (now_on b d) ≡ Some is.table) (first.sectors d) is.first (live_mid live) (single_mid live single);
      within = is.within;
    }

  pub sector_around : (seats now : Seats) → ((p d : ℕ) → seats p ≡ Some d → now p ≡ Some d)
      → ((p d u : ℕ) → seats p ≡ Some d → IsOfCopies (a.sectors d) u → IsLive a b d u → Keeps (a.held d u) (b.held d u))
      → (d u : ℕ) (v : List ℕ) → IsTableSector b c seats 16 d u v → IsTableSector a e now 16 d u v
  sector_around seats now same untouched d u v is = record {
    place = is.place;
    below = is.below;
    seat = same is.place d is.seat;
    at_end = subst (λ m. (u < 34) ⊎ (m ≤ u + 33)) (first.sectors d) is.at_end;
    value = value_around d (λ t. untouched is.place d t is.seat) u v is.value;
  }

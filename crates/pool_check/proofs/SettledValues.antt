-- What is written while tables of disks are settled one after the other: values of a copy of the table that each disk had.
use Rattle.std.proofs.Common.{◌≡◌, ◌⊎◌, ℕ, ◌+◌, ◌<◌, ◌≤◌, List, Some, inl, inr, refl, sym, subst, ◌∙◌, arith}
use Rattle.rack.specs.Seen.{RackView, SameRack}
use Rattle.rack.specs.Joins.{live_first}
use Rattle.rack.specs.Sequences.{OnlyReads, WritesOnly}
use Rattle.rack.proofs.Writing.{only_quiet, only_then, only_weaker}
use Rattle.gpt_table.specs.declared.Table.{Table}
use Rattle.gpt_table.specs.declared.TableCopy.{TableCopy}
use Rattle.gpt_table.specs.declared.TableCopy.TheVariants.{Primary}
use Rattle.gpt_table.specs.Changes.{IsInReplaced, IsInSettled, IsOfCopies, the_table}
use Rattle.gpt_table.specs.Disk.{IsOfCopy, now_on}
use Rattle.pool_image.specs.Disks.{Seats}
use Rattle.pool_check.specs.Settling.{IsSettledValue, IsTableSector, KeepsTable}
use Rattle.pool_check.proofs.TableSectors.{of_one, table_end}

-- a sector that is written while a copy is replaced is one of that copy
replaced_of : (copy : TableCopy) (table : Table) (s : ℕ) (v : List ℕ) → IsInReplaced copy table s v → IsOfCopy copy table.sectors s
replaced_of copy table s v (inl header) = inl header.0
replaced_of copy table s v (inr is) = is.within

-- and one that is written while a table is settled is one of its copies
settled_of : (x : RackView) (d n s : ℕ) (v : List ℕ) → IsInSettled x d n s v → IsOfCopies n s
settled_of x d n s v is = of_one is.copy n s (subst (λ m. IsOfCopy is.copy m s) is.size (replaced_of is.copy is.table s v is.within))

module _ (a b c : RackView) (after : SameRack b c) where
  -- a value from before later calls
  value_later : (d s : ℕ) (v : List ℕ) → IsSettledValue a b d s v → IsSettledValue a c d s v
  value_later d s v is = record {
    copy = is.copy;
    table = is.table;
    size = is.size;
    first = λ live single. is.first (λ copy t of. live_first after (live copy t of)) single;
    within = is.within;
  }

  one_more : (seats : Seats) (many d s : ℕ) (v : List ℕ) → IsTableSector a b seats many d s v → IsTableSector a c seats (many + 1) d s v
  one_more seats many d s v is =
      let below = is.below in record {
        place = is.place;
        below = omega (arith, below);
        seat = is.seat;
        at_end = is.at_end;
        value = value_later d s v is.value;
      }

  -- a table that earlier calls kept was settled: what is written is of the table from before them
  value_kept : (d s : ℕ) (v : List ℕ) → SameRack a b → KeepsTable a b d → IsInSettled b d (b.sectors d) s v → IsSettledValue a c d s v
  value_kept d s v stays keeps is = record {
    copy = is.copy;
    table = is.table;
    size = is.size ∙ stays.sectors d;
    first = λ live single.
        sym (keeps.held (λ copy t of. live_first after (live copy t of)) single (now_on b d) (λ t of. inl refl))
        ∙ subst (λ n. the_table n (now_on b d) ≡ Some is.table) (stays.sectors d) (is.first (stays.told d (live Primary 1 (inl refl)).is_told));
    within = is.within;
  }

  sector_kept : (seats : Seats) (place d : ℕ) → seats place ≡ Some d → SameRack a b → KeepsTable a b d → (e s : ℕ) (v : List ℕ)
      → (e ≡ d) × IsInSettled b d (b.sectors d) s v → IsTableSector a c seats (place + 1) e s v
  sector_kept seats place d seat stays keeps e s v here =
      subst (λ k. IsTableSector a c seats (place + 1) k s v) (sym here.0)
      (record {
        place = place;
        below = omega arith;
        seat = seat;
        at_end = subst (λ n. (s < 34) ⊎ (n ≤ s + 33)) (stays.sectors d) (table_end (b.sectors d) s (settled_of b d (b.sectors d) s v here.1));
        value = value_kept d s v stays keeps here.1;
      })

  wider : (seats : Seats) (place : ℕ) → WritesOnly a b (IsTableSector a b seats place) → WritesOnly a b (IsTableSector a c seats (place + 1))
  wider seats place old = only_weaker (IsTableSector a b seats place) (IsTableSector a c seats (place + 1)) (one_more seats place) old

  -- the tables of the first places were settled, and the next place has no disk
  pub only_same : (seats : Seats) (place : ℕ) → WritesOnly a b (IsTableSector a b seats place) → OnlyReads b c
      → WritesOnly a c (IsTableSector a c seats (place + 1))
  only_same seats place old reads =
      only_then (IsTableSector a c seats (place + 1)) (wider seats place old)
      (only_quiet (IsTableSector a c seats (place + 1)) reads.stays reads.keeps)

  -- or the table of its disk was settled too
  pub only_more : (seats : Seats) (place d : ℕ) → seats place ≡ Some d → KeepsTable a b d → WritesOnly a b (IsTableSector a b seats place)
      → WritesOnly b c (λ e s v. (e ≡ d) × IsInSettled b d (b.sectors d) s v) → WritesOnly a c (IsTableSector a c seats (place + 1))
  only_more seats place d seat keeps old new =
      only_then (IsTableSector a c seats (place + 1)) (wider seats place old)
      (only_weaker (λ e s v. (e ≡ d) × IsInSettled b d (b.sectors d) s v) (IsTableSector a c seats (place + 1))
      (sector_kept seats place d seat old.stays keeps) new)

-- Tables of seated disks, of which both copies are made to agree.
use Rattle.std.specs.Prelude.{◌≡◌, ◌≢◌, ◌↔◌, ◌⊎◌, ℕ, ◌+◌, ◌<◌, ◌≤◌, Bool, true, List, Some, None}
use Rattle.rack.specs.Values.{MayLeave}
use Rattle.rack.specs.Seen.{RackView, Rose}
use Rattle.rack.specs.Moments.{Leaves}
use Rattle.rack.specs.Sequences.{OnlyReads, WritesOnly}
use Rattle.gpt_table.specs.declared.Table.{Table}
use Rattle.gpt_table.specs.declared.TableCopy.{TableCopy}
use Rattle.gpt_table.specs.Changes.{AreSingle, BothLive, BothSay, Changes, IsInReplaced, IsInSettled, IsKeptOrWritten, IsOfCopies, IsPickOf, the_table}
use Rattle.gpt_table.specs.Disk.{AgreesUnspent, Contents, CopiesAgree, now_on}
use Rattle.pool_image.specs.Disks.{Seats}
use Rattle.pool_check.specs.Drives.{Loses, flag_by}

-- what a copy of a disk's partition table has in a sector while it is replaced by the table that the disk had in x, where each sector of its copies, live until y, had one value
pub record IsSettledValue (x y : RackView) (d s : ℕ) (v : List ℕ) : Type 0 where
  pub copy : TableCopy
  pub table : Table
  pub size : table.sectors ≡ x.sectors d
  pub first : BothLive x y d (x.sectors d) → AreSingle x d (x.sectors d) → the_table (x.sectors d) (now_on x d) ≡ Some table
  pub within : IsInReplaced copy table s v

-- a sector of a partition table on the disk of one of the first so many places: before sector 34, or one of the last 33; and what a copy of the table has there
pub record IsTableSector (x y : RackView) (seats : Seats) (many d s : ℕ) (v : List ℕ) : Type 0 where
  pub place : ℕ
  pub below : place < many
  pub seat : seats place ≡ Some d
  pub at_end : (s < 34) ⊎ (x.sectors d ≤ s + 33)
  pub value : IsSettledValue x y d s v

-- no two places have one disk
abbrev pub AreDistinct : Seats → Type 0
AreDistinct seats = (p q d : ℕ) → p < 16 → q < 16 → seats p ≡ Some d → seats q ≡ Some d → p ≡ q

-- A flag says whether both copies of a told disk's table agree, whatever its spent sectors hold.
abbrev pub IsAgreement : RackView → ℕ → Bool → Type 0
IsAgreement x d flag =
    x.told d → (contents : Contents) → AgreesUnspent x d contents → (flag ≡ true) ↔ CopiesAgree (x.sectors d) contents

-- the flag of each place says so of its disk
abbrev pub AreCompared : RackView → Seats → List Bool → Type 0
AreCompared x seats agreed = (place d : ℕ) → seats place ≡ Some d → IsAgreement x d (flag_by agreed place)

-- where a flag says that both copies of a told disk's table agree, they do now, unless a sector of them is spent
abbrev pub IsTrueOf : RackView → ℕ → Bool → Type 0
IsTrueOf x d flag = flag ≡ true → BothLive x x d (x.sectors d) → CopiesAgree (x.sectors d) (now_on x d)

-- some contents of a disk have in each sector of its table's copies one of the values that the disk may be left with
abbrev pub IsLeftOn : RackView → ℕ → ℕ → Contents → Type 0
IsLeftOn x d sectors contents = (s : ℕ) → IsOfCopies sectors s → MayLeave (x.held d s) (contents s)

-- The table of a disk is the one from before, at each moment and at the end, where each sector of its copies had one value.
pub record KeepsTable (a b : RackView) (d : ℕ) : Type 0 where
  pub stops :
      a.traced → BothLive a b d (a.sectors d) → AreSingle a d (a.sectors d)
      → Leaves a b (λ c. the_table (a.sectors d) (c d) ≡ the_table (a.sectors d) (now_on a d))
  pub held :
      BothLive a b d (a.sectors d) → AreSingle a d (a.sectors d) → (contents : Contents) → IsLeftOn b d (a.sectors d) contents
      → the_table (a.sectors d) contents ≡ the_table (a.sectors d) (now_on a d)

-- Both copies of a disk's table are valid and say the table that it had, if it had one, durably where each sector of them had one
-- value. Each copy is as it was, or as it is written of a table.
pub record IsSettled (a b : RackView) (d : ℕ) : Type 0 where
  pub now :
      the_table (a.sectors d) (now_on a d) ≢ None → BothLive a b d (a.sectors d) → BothSay a d (a.sectors d) (now_on b d)
  pub durable :
      the_table (a.sectors d) (now_on a d) ≢ None → BothLive a b d (a.sectors d) → AreSingle a d (a.sectors d)
      → (contents : Contents) → IsLeftOn b d (a.sectors d) contents → BothSay a d (a.sectors d) contents
  pub written :
      the_table (a.sectors d) (now_on a d) ≢ None → BothLive a b d (a.sectors d) → (copy : TableCopy) (contents : Contents)
      → IsPickOf b d copy (a.sectors d) contents → IsKeptOrWritten a d (a.sectors d) copy contents

-- the table of a place's disk was settled, where the place's flag is true of it, or the disk went and the place has none
abbrev pub SettlesDisk : RackView → RackView → Seats → ℕ → Bool → ℕ → Type 0
SettlesDisk a b after place flag d =
    ((after place ≡ Some d) × (IsTrueOf a d flag → IsSettled a b d)) ⊎ ((after place ≡ None) × Rose (a.faults d) (b.faults d))

-- The table of a place's disk was settled, and no other disk was written.
pub record SettlesPlace (a b : RackView) (before after : Seats) (place : ℕ) (flag : Bool) : Type 0 where
  pub others : (p : ℕ) → (p ≡ place → ⊥) → after p ≡ before p
  pub empty : before place ≡ None → OnlyReads a b × (after place ≡ None)
  pub changes :
      (d : ℕ) → before place ≡ Some d
      → Changes a b d (IsOfCopies (a.sectors d))
      (λ contents. AreSingle a d (a.sectors d) → the_table (a.sectors d) contents ≡ the_table (a.sectors d) (now_on a d))
  pub only : (d : ℕ) → before place ≡ Some d → WritesOnly a b (λ e s v. (e ≡ d) × IsInSettled a d (a.sectors d) s v)
  pub settles : (d : ℕ) → before place ≡ Some d → SettlesDisk a b after place flag d

-- What stands once the tables of the first so many places are settled.
pub record AreSettled (a b : RackView) (first now : Seats) (agreed : List Bool) (many : ℕ) : Type 0 where
  pub only : WritesOnly a b (IsTableSector a b first many)
  pub seats : Loses a b first now
  pub later : (p : ℕ) → many ≤ p → now p ≡ first p
  pub tables : (d : ℕ) → KeepsTable a b d
  pub settled : (p d : ℕ) → p < many → now p ≡ Some d → IsTrueOf a d (flag_by agreed p) → IsSettled a b d

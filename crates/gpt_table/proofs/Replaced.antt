-- A copy that is replaced in three steps: its header cleared, its entries written, its header written.
use Rattle.std.proofs.Common.{◌≡◌, ℕ, ◌+◌, ◌-◌, ◌*◌, ◌<◌, ◌≤◌, List, [], Some, None, Result, Ok, Err, false, ◌==◌, refl, sym, ap, subst, ◌∙◌, inl, inr, ⊎_elim, arith, length, replicate, codes, bytes_eq}
use Rattle.std.proofs.lemmas.Bool.{and_left, cond-false, ne_eqb}
use Rattle.rack.specs.declared.Gone.{Gone}
use Rattle.rack.specs.Values.{MayLeave}
use Rattle.rack.specs.Seen.{RackView, IsLive, SameRack}
use Rattle.rack.specs.Joins.{stays_then, live_first, live_second, rose_later}
use Rattle.shr_base.specs.Blocks.{bytes_at}
use Rattle.shr_base.proofs.Blocks.{bytes_at-zeros}
use Rattle.gpt_table.specs.declared.Table.{Table}
use Rattle.gpt_table.specs.declared.TableCopy.{TableCopy}
use Rattle.gpt_table.specs.Format.{header_sector, entries_sector, table_of, is_header, IsWritten}
use Rattle.gpt_table.specs.Disk.{Contents, IsOfCopy, HoldsCopy, entries_bytes, table_at}
use Rattle.rack.specs.Sequences.{MayBecome, WritesOnly}
use Rattle.rack.proofs.Writing.{only_then, only_weaker}
use Rattle.gpt_table.specs.Calls.{Plan, IsPlanned}
use Rattle.gpt_table.specs.Plans.{copy_plan, sector_plan, entries_plan, WritesSectors}
use Rattle.gpt_table.specs.Changes.{Changes, IsInReplaced, Passes, ReplacesCopy, IsPickOf, AreLive}
use Rattle.gpt_table.proofs.Decoded.{invalid_header}
use Rattle.gpt_table.proofs.Planned.{plan_cases, plan_holds, plan_own, planned_copy, parts_apart, entries_cases, entries_planned, sector_cases, sector_planned}
use Rattle.gpt_table.proofs.Changed.{live_back, changes_from, changes_join, changes_wider}

-- a sector of zeros is no header
cleared_header : (copy : TableCopy) (sectors : ℕ) → is_header copy sectors (replicate 512 0) ≡ false
cleared_header copy sectors =
    let start : bytes_at 0 8 (replicate 512 0) ≡ replicate 8 0 = bytes_at-zeros 512 0 8 [] (omega arith) refl refl tt in
    let none : bytes_eq (bytes_at 0 8 (replicate 512 0)) (codes "EFI PART") ≡ false = ap (λ (b : List ℕ). bytes_eq b (codes "EFI PART")) start in
    and_left _ _ (and_left _ _ (and_left _ _ (and_left _ _ (and_left _ _ (and_left _ _ (and_left _ _ none))))))

cleared : (copy : TableCopy) (sectors : ℕ) (contents : Contents) → contents (header_sector copy sectors) ≡ replicate 512 0 →
    table_at copy sectors contents ≡ None
cleared copy sectors contents zeros =
    let start = entries_sector copy sectors in
    ap (λ (h : List ℕ). table_of copy sectors h (entries_bytes contents start)) zeros
    ∙ invalid_header copy sectors (replicate 512 0) (entries_bytes contents start) (cleared_header copy sectors)

-- what a sector may come to hold while a copy of a disk is replaced
abbrev IsReplacing : ℕ → TableCopy → Table → ℕ → ℕ → List ℕ → Type 0
IsReplacing disk copy table d s v = (d ≡ disk) × IsInReplaced copy table s v

-- a header and entries as they are written of a table
pub record Written (copy : TableCopy) (header bytes : List ℕ) (table : Table) : Type 0 where
  pub room : 67 ≤ table.sectors
  pub own : length header ≡ 512
  pub long : length bytes ≡ 16384
  pub says : IsWritten copy table header bytes

-- a copy that holds them is written
holds_table : (copy : TableCopy) (header bytes : List ℕ) (table : Table) (contents : Contents) → Written copy header bytes table →
    contents (header_sector copy table.sectors) ≡ header →
    ((s : ℕ) (v : List ℕ) → entries_plan (entries_sector copy table.sectors) bytes s ≡ Some v → contents s ≡ v) →
    HoldsCopy copy table contents
holds_table copy header bytes table contents written start rest =
    let own = header_sector copy table.sectors in
    let first = entries_sector copy table.sectors in
    plan_holds copy table header bytes contents written.room written.long written.says
    (λ s v planned.
    ⊎_elim
    (λ (here : (s ≡ own) × (header ≡ v)). ap contents here.0 ∙ start ∙ here.1)
    (λ (there : (first ≤ s) × (s < first + 32) × (bytes_at (512 * (s - first)) 512 bytes ≡ v)).
    let is : first + (s - first) ≡ s = omega (arith, there.0) in
    let planned_here : entries_plan first bytes s ≡ Some (bytes_at (512 * (s - first)) 512 bytes) =
    subst (λ (t : ℕ). entries_plan first bytes t ≡ Some (bytes_at (512 * (s - first)) 512 bytes)) is
    (entries_planned first bytes (s - first) (omega (arith, there.0, there.1))) in
    rest s (bytes_at (512 * (s - first)) 512 bytes) planned_here ∙ there.2)
    (plan_cases own header first bytes s v planned))

-- what was written and synced is all that a stop leaves
settled : (a b : RackView) (disk : ℕ) (plan : Plan) (s : ℕ) (v w : List ℕ) → WritesSectors a b disk plan {X = Unit {0}} (Ok tt) → plan s ≡ Some v →
    IsLive a b disk s → MayLeave (b.held disk s) w → w ≡ v
settled a b disk plan s v w wrote planned live may = wrote.durable s live w may ∙ wrote.written s v planned live

-- while the header is cleared, the copy is as it was or has none
clearing : (a : RackView) (disk : ℕ) (copy : TableCopy) (table : Table) (contents : Contents) →
    ((s : ℕ) → IsOfCopy copy table.sectors s → MayBecome a (IsPlanned disk (sector_plan (header_sector copy table.sectors) (replicate 512 0))) disk s (contents s)) →
    Passes a disk copy table contents
clearing a disk copy table contents may =
    let own = header_sector copy table.sectors in
    let plan : Plan = sector_plan own (replicate 512 0) in
    ⊎_elim
    (λ (was : MayLeave (a.held disk own) (contents own)).
    inl (λ s among.
    ⊎_elim (λ (old : MayLeave (a.held disk s) (contents s)). old)
    (λ (new : (disk ≡ disk) × (plan s ≡ Some (contents s))).
    let here : s ≡ own = (sector_cases own (replicate 512 0) s (contents s) new.1).0 in
    subst (λ (t : ℕ). MayLeave (a.held disk t) (contents t)) (sym here) was)
    (may s among)))
    (λ (new : (disk ≡ disk) × (plan own ≡ Some (contents own))).
    inr (inl (cleared copy table.sectors contents (sym (sector_cases own (replicate 512 0) own (contents own) new.1).1))))
    (may own (inl refl))

-- the header isn't among the entries
own_unplanned : (copy : TableCopy) (sectors : ℕ) (bytes v : List ℕ) → 67 ≤ sectors →
    entries_plan (entries_sector copy sectors) bytes (header_sector copy sectors) ≡ Some v → ⊥
own_unplanned copy sectors bytes v room planned =
    let at = entries_cases (entries_sector copy sectors) bytes (header_sector copy sectors) v planned in
    ⊎_elim (λ (l : header_sector copy sectors < entries_sector copy sectors). omega (arith, at.0))
    (λ (l : entries_sector copy sectors + 32 ≤ header_sector copy sectors). omega (arith, at.1)) (parts_apart copy sectors room)

-- planned entries lie in the copy
entries_within : (copy : TableCopy) (sectors : ℕ) (bytes : List ℕ) (s : ℕ) (v : List ℕ) → entries_plan (entries_sector copy sectors) bytes s ≡ Some v →
    IsOfCopy copy sectors s
entries_within copy sectors bytes s v planned =
    let at = entries_cases (entries_sector copy sectors) bytes s v planned in inr (at.0, at.1)

own_within : (copy : TableCopy) (sectors : ℕ) (value : List ℕ) (s : ℕ) (v : List ℕ) → sector_plan (header_sector copy sectors) value s ≡ Some v →
    IsOfCopy copy sectors s
own_within copy sectors value s v planned = inl (sector_cases (header_sector copy sectors) value s v planned).0

-- what is shown of each step, of a disk that was told at the first one
abbrev pub Passing : RackView → ℕ → TableCopy → Table → Contents → Type 0
Passing a disk copy table contents = a.told disk → Passes a disk copy table contents

first_step : (a m : RackView) (disk : ℕ) (copy : TableCopy) (table : Table) (result : Result (Unit {0}) Gone) →
    WritesSectors a m disk (sector_plan (header_sector copy table.sectors) (replicate 512 0)) result →
    Changes a m disk (IsOfCopy copy table.sectors) (Passing a disk copy table)
first_step a m disk copy table result first =
    changes_from a m disk (IsOfCopy copy table.sectors) (sector_plan (header_sector copy table.sectors) (replicate 512 0)) (Passing a disk copy table)
    first.follows (own_within copy table.sectors (replicate 512 0)) (λ live contents may told. clearing a disk copy table contents may)

second_step : (a m n : RackView) (disk : ℕ) (copy : TableCopy) (table : Table) (bytes : List ℕ) (result : Result (Unit {0}) Gone) → 67 ≤ table.sectors →
    WritesSectors a m disk (sector_plan (header_sector copy table.sectors) (replicate 512 0)) {X = Unit {0}} (Ok tt) →
    WritesSectors m n disk (entries_plan (entries_sector copy table.sectors) bytes) result →
    Changes m n disk (IsOfCopy copy table.sectors) (Passing a disk copy table)
second_step a m n disk copy table bytes result room first second =
    let own = header_sector copy table.sectors in
    let zeros : List ℕ = replicate 512 0 in
    let plan : Plan = entries_plan (entries_sector copy table.sectors) bytes in
    changes_from m n disk (IsOfCopy copy table.sectors) plan (Passing a disk copy table) second.follows
    (entries_within copy table.sectors bytes)
    (λ live contents may told.
    inr (inl (cleared copy table.sectors contents
    (⊎_elim
    (λ (was : MayLeave (m.held disk own) (contents own)).
    settled a m disk (sector_plan own zeros) own zeros (contents own) first (sector_planned own zeros)
    (live_back first.follows.stays second.follows.stays told (live own (inl refl))) was)
    (λ (new : (disk ≡ disk) × (plan own ≡ Some (contents own))). absurd (own_unplanned copy table.sectors bytes (contents own) room new.1))
    (may own (inl refl))))))

-- after the entries, the header is still clear and the entries are all that a stop leaves
cleared_still : (a m n : RackView) (disk : ℕ) (copy : TableCopy) (table : Table) (bytes w : List ℕ) → 67 ≤ table.sectors →
    WritesSectors a m disk (sector_plan (header_sector copy table.sectors) (replicate 512 0)) {X = Unit {0}} (Ok tt) →
    WritesSectors m n disk (entries_plan (entries_sector copy table.sectors) bytes) {X = Unit {0}} (Ok tt) →
    IsLive a n disk (header_sector copy table.sectors) → MayLeave (n.held disk (header_sector copy table.sectors)) w → w ≡ replicate 512 0
cleared_still a m n disk copy table bytes w room first second live may =
    let own = header_sector copy table.sectors in
    let zeros : List ℕ = replicate 512 0 in
    let plan : Plan = entries_plan (entries_sector copy table.sectors) bytes in
    settled a m disk (sector_plan own zeros) own zeros w first (sector_planned own zeros) (live_first second.follows.stays live)
    ((second.follows.others disk own (live_second first.follows.stays live) (λ v planned. own_unplanned copy table.sectors bytes v room planned.1)).within w may)

not_own : (copy : TableCopy) (sectors : ℕ) (bytes : List ℕ) (s : ℕ) (v : List ℕ) → 67 ≤ sectors →
    entries_plan (entries_sector copy sectors) bytes s ≡ Some v → s ≡ header_sector copy sectors → ⊥
not_own copy sectors bytes s v room planned here =
    own_unplanned copy sectors bytes v room (subst (λ (t : ℕ). entries_plan (entries_sector copy sectors) bytes t ≡ Some v) here planned)

third_step : (a m n b : RackView) (disk : ℕ) (copy : TableCopy) (table : Table) (header bytes : List ℕ) (result : Result (Unit {0}) Gone) →
    Written copy header bytes table →
    WritesSectors a m disk (sector_plan (header_sector copy table.sectors) (replicate 512 0)) {X = Unit {0}} (Ok tt) →
    WritesSectors m n disk (entries_plan (entries_sector copy table.sectors) bytes) {X = Unit {0}} (Ok tt) →
    WritesSectors n b disk (sector_plan (header_sector copy table.sectors) header) result →
    Changes n b disk (IsOfCopy copy table.sectors) (Passing a disk copy table)
third_step a m n b disk copy table header bytes result written first second third =
    let own = header_sector copy table.sectors in
    let plan : Plan = sector_plan own header in
    let early : SameRack a n = stays_then first.follows.stays second.follows.stays in
    changes_from n b disk (IsOfCopy copy table.sectors) plan (Passing a disk copy table) third.follows
    (own_within copy table.sectors header)
    (λ live contents may told.
    ⊎_elim
    (λ (was : MayLeave (n.held disk own) (contents own)).
    inr (inl (cleared copy table.sectors contents
    (cleared_still a m n disk copy table bytes (contents own) written.room first second
    (live_back early third.follows.stays told (live own (inl refl))) was))))
    (λ (new : (disk ≡ disk) × (plan own ≡ Some (contents own))).
    let holds : HoldsCopy copy table contents =
    holds_table copy header bytes table contents written (sym (sector_cases own header own (contents own) new.1).1)
    (λ s v planned.
    ⊎_elim
    (λ (old : MayLeave (n.held disk s) (contents s)).
    settled m n disk (entries_plan (entries_sector copy table.sectors) bytes) s v (contents s) second planned
    (live_back second.follows.stays third.follows.stays (first.follows.stays.told disk told) (live s (entries_within copy table.sectors bytes s v planned))) old)
    (λ (here : (disk ≡ disk) × (plan s ≡ Some (contents s))).
    absurd (not_own copy table.sectors bytes s v written.room planned (sector_cases own header s (contents s) here.1).0))
    (may s (entries_within copy table.sectors bytes s v planned))) in
    inr (inr holds.says))
    (may own (inl refl)))

-- all three
finished : (a m n b : RackView) (disk : ℕ) (copy : TableCopy) (table : Table) (header bytes : List ℕ) → Written copy header bytes table →
    SameRack a m → WritesSectors m n disk (entries_plan (entries_sector copy table.sectors) bytes) {X = Unit {0}} (Ok tt) →
    WritesSectors n b disk (sector_plan (header_sector copy table.sectors) header) {X = Unit {0}} (Ok tt) →
    AreLive a b disk copy table.sectors → (contents : Contents) → IsPickOf b disk copy table.sectors contents →
    HoldsCopy copy table contents
finished a m n b disk copy table header bytes written start second third live contents pick =
    let own = header_sector copy table.sectors in
    let plan : Plan = sector_plan own header in
    let early : SameRack a n = stays_then start second.follows.stays in
    holds_table copy header bytes table contents written
    (settled n b disk plan own header (contents own) third (sector_planned own header) (live_second early (live own (inl refl))) (pick own (inl refl)))
    (λ s v planned.
    let among = entries_within copy table.sectors bytes s v planned in
    settled m n disk (entries_plan (entries_sector copy table.sectors) bytes) s v (contents s) second planned
    (live_second start (live_first third.follows.stays (live s among)))
    ((third.follows.others disk s (live_second early (live s among))
    (λ w here. not_own copy table.sectors bytes s v written.room planned (sector_cases own header s w here.1).0)).within (contents s) (pick s among)))

-- what each step may write is zeros in the header's place, or what the copy has there
first_only : (a m : RackView) (disk : ℕ) (copy : TableCopy) (table : Table) (result : Result (Unit {0}) Gone) →
    WritesSectors a m disk (sector_plan (header_sector copy table.sectors) (replicate 512 0)) result → WritesOnly a m (IsReplacing disk copy table)
first_only a m disk copy table result first =
    only_weaker (IsPlanned disk (sector_plan (header_sector copy table.sectors) (replicate 512 0))) (IsReplacing disk copy table)
    (λ d s v planned.
    let is = sector_cases (header_sector copy table.sectors) (replicate 512 0) s v planned.1 in
    (planned.0, inl (is.0, sym is.1)))
    first.follows

second_only : (m n : RackView) (disk : ℕ) (copy : TableCopy) (table : Table) (header bytes : List ℕ) (result : Result (Unit {0}) Gone) → Written copy header bytes table →
    WritesSectors m n disk (entries_plan (entries_sector copy table.sectors) bytes) result → WritesOnly m n (IsReplacing disk copy table)
second_only m n disk copy table header bytes result written second =
    let own = header_sector copy table.sectors in
    let plan : Plan = entries_plan (entries_sector copy table.sectors) bytes in
    only_weaker (IsPlanned disk plan) (IsReplacing disk copy table)
    (λ d s v planned. (
      planned.0,
      inr (planned_copy copy table header bytes written.room written.own written.long written.says s v
          (cond-false (s == own) (Some header) (plan s) (ne_eqb s own (not_own copy table.sectors bytes s v written.room planned.1)) ∙ planned.1)),
    ))
    second.follows

third_only : (n b : RackView) (disk : ℕ) (copy : TableCopy) (table : Table) (header bytes : List ℕ) (result : Result (Unit {0}) Gone) → Written copy header bytes table →
    WritesSectors n b disk (sector_plan (header_sector copy table.sectors) header) result → WritesOnly n b (IsReplacing disk copy table)
third_only n b disk copy table header bytes result written third =
    let own = header_sector copy table.sectors in
    only_weaker (IsPlanned disk (sector_plan own header)) (IsReplacing disk copy table)
    (λ d s v planned.
    let is = sector_cases own header s v planned.1 in (
      planned.0,
      inr (planned_copy copy table header bytes written.room written.own written.long written.says s v
          (ap (copy_plan own header (entries_sector copy table.sectors) bytes) is.0 ∙ plan_own own header (entries_sector copy table.sectors) bytes ∙ ap Some is.1)),
    ))
    third.follows

-- what was shown of each step holds, as the copy's sectors are told
passes : (a b : RackView) (disk : ℕ) (copy : TableCopy) (table : Table) → Changes a b disk (IsOfCopy copy table.sectors) (Passing a disk copy table) →
    Changes a b disk (IsOfCopy copy table.sectors) (Passes a disk copy table)
passes a b disk copy table changes =
    changes_wider a b disk (IsOfCopy copy table.sectors) (IsOfCopy copy table.sectors) (Passing a disk copy table) (Passes a disk copy table) changes
    (λ s among. among) (λ live contents elsewhere passing. passing (live (header_sector copy table.sectors) (inl refl)).is_told)

-- the header couldn't be cleared
pub replaced_gone_first : (a m : RackView) (disk : ℕ) (copy : TableCopy) (table : Table) (gone : Gone) →
    WritesSectors a m disk (sector_plan (header_sector copy table.sectors) (replicate 512 0)) {X = Unit {0}} (Err gone) →
    ReplacesCopy a m disk copy table {X = Unit {0}} {E = Gone} (Err gone)
replaced_gone_first a m disk copy table gone first = record {
  changes = passes a m disk copy table (first_step a m disk copy table (Err gone) first);
  only = first_only a m disk copy table (Err gone) first;
  says = tt;
  gone = first.gone.1;
}

-- the entries couldn't be written
pub replaced_gone_second : (a m n : RackView) (disk : ℕ) (copy : TableCopy) (table : Table) (header bytes : List ℕ) (gone : Gone) → Written copy header bytes table →
    WritesSectors a m disk (sector_plan (header_sector copy table.sectors) (replicate 512 0)) {X = Unit {0}} (Ok tt) →
    WritesSectors m n disk (entries_plan (entries_sector copy table.sectors) bytes) {X = Unit {0}} (Err gone) →
    ReplacesCopy a n disk copy table {X = Unit {0}} {E = Gone} (Err gone)
replaced_gone_second a m n disk copy table header bytes gone written first second = record {
  changes = passes a n disk copy table
      (changes_join a m n disk (IsOfCopy copy table.sectors) (Passing a disk copy table) (first_step a m disk copy table (Ok tt) first)
      (second_step a m n disk copy table bytes (Err gone) written.room first second));
  only = only_then (IsReplacing disk copy table) (first_only a m disk copy table (Ok tt) first) (second_only m n disk copy table header bytes (Err gone) written second);
  says = tt;
  gone = rose_later a m n disk first.follows.stays second.gone.1;
}

-- all three steps, as far as they came
all_steps : (a m n b : RackView) (disk : ℕ) (copy : TableCopy) (table : Table) (header bytes : List ℕ) (result : Result (Unit {0}) Gone) →
    Written copy header bytes table →
    WritesSectors a m disk (sector_plan (header_sector copy table.sectors) (replicate 512 0)) {X = Unit {0}} (Ok tt) →
    WritesSectors m n disk (entries_plan (entries_sector copy table.sectors) bytes) {X = Unit {0}} (Ok tt) →
    WritesSectors n b disk (sector_plan (header_sector copy table.sectors) header) result →
    Changes a b disk (IsOfCopy copy table.sectors) (Passes a disk copy table)
all_steps a m n b disk copy table header bytes result written first second third =
    let of = IsOfCopy copy table.sectors in
    let P = Passing a disk copy table in
    passes a b disk copy table
    (changes_join a n b disk of P
    (changes_join a m n disk of P (first_step a m disk copy table (Ok tt) first) (second_step a m n disk copy table bytes (Ok tt) written.room first second))
    (third_step a m n b disk copy table header bytes result written first second third))

all_only : (a m n b : RackView) (disk : ℕ) (copy : TableCopy) (table : Table) (header bytes : List ℕ) (result : Result (Unit {0}) Gone) →
    Written copy header bytes table →
    WritesSectors a m disk (sector_plan (header_sector copy table.sectors) (replicate 512 0)) {X = Unit {0}} (Ok tt) →
    WritesSectors m n disk (entries_plan (entries_sector copy table.sectors) bytes) {X = Unit {0}} (Ok tt) →
    WritesSectors n b disk (sector_plan (header_sector copy table.sectors) header) result → WritesOnly a b (IsReplacing disk copy table)
all_only a m n b disk copy table header bytes result written first second third =
    only_then (IsReplacing disk copy table)
    (only_then (IsReplacing disk copy table) (first_only a m disk copy table (Ok tt) first) (second_only m n disk copy table header bytes (Ok tt) written second))
    (third_only n b disk copy table header bytes result written third)

-- the copy was replaced, or the last step refused
pub replaced_by : (a m n b : RackView) (disk : ℕ) (copy : TableCopy) (table : Table) (header bytes : List ℕ) (result : Result (Unit {0}) Gone) →
    Written copy header bytes table →
    WritesSectors a m disk (sector_plan (header_sector copy table.sectors) (replicate 512 0)) {X = Unit {0}} (Ok tt) →
    WritesSectors m n disk (entries_plan (entries_sector copy table.sectors) bytes) {X = Unit {0}} (Ok tt) →
    WritesSectors n b disk (sector_plan (header_sector copy table.sectors) header) result →
    ReplacesCopy a b disk copy table {X = Unit {0}} {E = Gone} result
replaced_by a m n b disk copy table header bytes (Ok tt) written first second third = record {
  changes = all_steps a m n b disk copy table header bytes (Ok tt) written first second third;
  only = all_only a m n b disk copy table header bytes (Ok tt) written first second third;
  says = finished a m n b disk copy table header bytes written first.follows.stays second third;
  gone = tt;
}
replaced_by a m n b disk copy table header bytes (Err gone) written first second third = record {
  changes = all_steps a m n b disk copy table header bytes (Err gone) written first second third;
  only = all_only a m n b disk copy table header bytes (Err gone) written first second third;
  says = tt;
  gone = rose_later a n b disk (stays_then first.follows.stays second.follows.stays) third.gone.1;
}

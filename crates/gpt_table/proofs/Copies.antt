-- What reading a copy says, from what its reads say.
use Rattle.std.proofs.Common.{◌≡◌, ℕ, ◌+◌, ◌-◌, ◌<◌, ◌≤◌, List, Option, Some, None, Ok, false, refl, ap, ◌∙◌, sym, subst, inl, inr, ⊎_elim, arith}
use Rattle.rack.specs.Seen.{RackView}
use Rattle.rack.specs.Calls.{Reads}
use Rattle.gpt_table.specs.declared.Table.{Table}
use Rattle.gpt_table.specs.declared.settling.Copies.{Copies}
use Rattle.gpt_table.specs.declared.Seen.{Seen as SeenTable}
use Rattle.gpt_table.specs.declared.TableCopy.{TableCopy}
use Rattle.gpt_table.specs.declared.TableCopy.TheVariants.{Primary, Backup}
use Rattle.gpt_table.specs.Format.{header_sector, entries_sector, table_of}
use Rattle.gpt_table.specs.Disk.{Contents, IsAmong, IsOfCopy, entries_bytes, now_on, table_at, first_table, first_of}
use Rattle.gpt_table.specs.Changes.{IsOfCopies}
use Rattle.rack.specs.Sequences.{OnlyReads}
use Rattle.gpt_table.specs.Calls.{Looks}
use Rattle.rack.proofs.Reading.{only_reads_start, only_reads_then, only_reads_join, value_then, unspent_before, same_after}
use Rattle.gpt_table.proofs.Joined.{joined_agrees, table_at_agrees}

-- bytes of entries that hold the same
entries_agree : (d e : Contents) (first : ℕ) → ((s : ℕ) → IsAmong first 32 s → d s ≡ e s) → entries_bytes d first ≡ entries_bytes e first
unfolding entries_bytes
entries_agree d e first same = joined_agrees d e first 32 (λ k below. same (first + k) (omega arith, omega arith))

-- the sectors of a copy lie on the disk
pub copy_is_on_disk : (copy : TableCopy) (sectors sector : ℕ) → 67 ≤ sectors → IsOfCopy copy sectors sector → sector < sectors
copy_is_on_disk Primary sectors sector room of =
    ⊎_elim (λ (e : sector ≡ 1). omega arith) (λ (h : IsAmong 2 32 sector). omega (arith, h.0, h.1)) of
copy_is_on_disk Backup sectors sector room of =
    ⊎_elim (λ (e : sector ≡ sectors - 1). omega arith) (λ (h : IsAmong (sectors - 33) 32 sector). omega (arith, h.0, h.1)) of

-- a header, then entries
pub copy_read : {a b c : RackView} (disk sectors : ℕ) (copy : TableCopy) (header entries : List ℕ) (table : Option Table) →
    a.fit → disk < a.disks → sectors ≡ a.sectors disk → 67 ≤ sectors →
    Reads a b disk (header_sector copy sectors) header {X = Unit {0}} (Ok tt) →
    Looks b c disk (IsAmong (entries_sector copy sectors) 32) {X = List ℕ} (λ (bytes : List ℕ). bytes ≡ entries_bytes (now_on b disk) (entries_sector copy sectors)) (Ok entries) →
    table ≡ table_of copy sectors header entries →
    Looks a c disk (IsOfCopy copy sectors) {X = Option Table} (λ t. t ≡ table_at copy sectors (now_on a disk)) (Ok table)
copy_read {a} {b} {c} disk sectors copy header entries table fit has size room first second is =
    let start = only_reads_start a fit in
    let one : OnlyReads a b = only_reads_then start first in
    record {
      only = only_reads_join one second.only;
      served = λ sector of.
          ⊎_elim
          (λ (e : sector ≡ header_sector copy sectors).
          subst (λ (s : ℕ). a.spent disk s ≡ false) (sym e) (unspent_before tt start first))
          (λ (among : IsAmong (entries_sector copy sectors) 32 sector). one.stays.spent disk sector (second.served sector among))
          of;
      value = λ told.
          let start_now : header ≡ now_on a disk (header_sector copy sectors) =
          value_then tt start first has (subst (λ n. header_sector copy sectors < n) size (copy_is_on_disk copy sectors _ room (inl refl))) told in
          let rest_now : entries ≡ entries_bytes (now_on a disk) (entries_sector copy sectors) =
          second.value (one.stays.told disk told)
          ∙ entries_agree (now_on b disk) (now_on a disk) (entries_sector copy sectors)
          (λ s among. same_after disk s one has (subst (λ n. s < n) size (copy_is_on_disk copy sectors s room (inr among))) told (second.served s among)) in
          is ∙ ap (λ (h : List ℕ). table_of copy sectors h entries) start_now
          ∙ ap (λ (es : List ℕ). table_of copy sectors (now_on a disk (header_sector copy sectors)) es) rest_now;
      gone = tt;
    }

-- the primary is valid
pub primary_read : {a b : RackView} (disk sectors : ℕ) (table : Table) →
    Looks a b disk (IsOfCopy Primary sectors) {X = Option Table} (λ t. t ≡ table_at Primary sectors (now_on a disk)) (Ok (Some table)) →
    Looks a b disk (λ sector. ⊥) {X = Option SeenTable} (λ found. found ≡ first_table sectors (now_on a disk)) (Ok (Some (record { table = table; copy = Primary })))
primary_read {a} disk sectors table looks = record {
  only = looks.only;
  served = λ sector none. absurd none;
  value = λ told. ap (λ (p : Option Table). first_of p (table_at Backup sectors (now_on a disk))) (looks.value told);
  gone = tt;
}

-- it isn't, and the backup was read
pub backup_read : {a b c : RackView} (disk sectors : ℕ) (table : Option Table) → disk < a.disks → sectors ≡ a.sectors disk → 67 ≤ sectors →
    Looks a b disk (IsOfCopy Primary sectors) {X = Option Table} (λ t. t ≡ table_at Primary sectors (now_on a disk)) (Ok None) →
    Looks b c disk (IsOfCopy Backup sectors) {X = Option Table} (λ t. t ≡ table_at Backup sectors (now_on b disk)) (Ok table) →
    Looks a c disk (λ sector. ⊥) {X = Option SeenTable} (λ found. found ≡ first_table sectors (now_on a disk)) (Ok (first_of None table))
backup_read {a} {b} {c} disk sectors table has size room first second = record {
  only = only_reads_join first.only second.only;
  served = λ sector none. absurd none;
  value = λ told.
      let same : table_at Backup sectors (now_on b disk) ≡ table_at Backup sectors (now_on a disk) =
      table_at_agrees Backup sectors (now_on b disk) (now_on a disk)
      (λ s of. same_after disk s first.only has (subst (λ n. s < n) size (copy_is_on_disk Backup sectors s room of)) told (second.served s of)) in
      ap (first_of None) (second.value (first.only.stays.told disk told) ∙ same)
      ∙ ap (λ (p : Option Table). first_of p (table_at Backup sectors (now_on a disk))) (first.value told);
  gone = tt;
}

-- and so do all of its entries
pub entries_on_disk : (copy : TableCopy) (sectors : ℕ) → 67 ≤ sectors → entries_sector copy sectors + 32 ≤ sectors
entries_on_disk Primary sectors room = omega arith
entries_on_disk Backup sectors room = omega arith

-- both copies were read
pub copies_read : {a b c : RackView} (disk sectors : ℕ) (primary backup : Option Table) → disk < a.disks → sectors ≡ a.sectors disk → 67 ≤ sectors →
    Looks a b disk (IsOfCopy Primary sectors) {X = Option Table} (λ t. t ≡ table_at Primary sectors (now_on a disk)) (Ok primary) →
    Looks b c disk (IsOfCopy Backup sectors) {X = Option Table} (λ t. t ≡ table_at Backup sectors (now_on b disk)) (Ok backup) →
    Looks a c disk (IsOfCopies sectors) {X = Copies}
    (λ found. (found.primary ≡ table_at Primary sectors (now_on a disk)) × (found.backup ≡ table_at Backup sectors (now_on a disk)))
    (Ok (record { primary = primary; backup = backup }))
copies_read {a} {b} {c} disk sectors primary backup has size room first second = record {
  only = only_reads_join first.only second.only;
  served = λ sector of.
      ⊎_elim (λ (one : IsOfCopy Primary sectors sector). first.served sector one)
      (λ (two : IsOfCopy Backup sectors sector). first.only.stays.spent disk sector (second.served sector two)) of;
  value = λ told. (
    first.value told,
    second.value (first.only.stays.told disk told)
        ∙ table_at_agrees Backup sectors (now_on b disk) (now_on a disk)
        (λ s of. same_after disk s first.only has (subst (λ n. s < n) size (copy_is_on_disk Backup sectors s room of)) told (second.served s of)),
  );
  gone = tt;
}

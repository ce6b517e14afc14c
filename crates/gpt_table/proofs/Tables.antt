-- Both copies replaced, the backup before the primary.
use Rattle.std.proofs.Common.{◌≡◌, ℕ, ◌≤◌, ◌⊎◌, Option, Some, None, option_map, Result, Ok, Err, IfErr, refl, ap, ◌∙◌, inl, inr, ⊎_elim}
use Rattle.rack.specs.declared.Gone.{Gone}
use Rattle.rack.specs.Seen.{RackView, IsLive}
use Rattle.rack.specs.Joins.{live_first, live_second, rose_later}
use Rattle.gpt_table.specs.declared.Table.{Table}
use Rattle.gpt_table.specs.declared.TableCopy.{TableCopy}
use Rattle.gpt_table.specs.declared.TableCopy.TheVariants.{Primary, Backup}
use Rattle.gpt_table.specs.Disk.{Contents, IsOfCopy, HoldsCopy, table_at, first_of}
use Rattle.gpt_table.specs.Changes.{the_table, IsPickOf, IsOfCopies, PrimarySays, IsOneOf, Passes, Changes, ReplacesCopy, ChangesTable}
use Rattle.gpt_table.proofs.Whole.{copies_apart}
use Rattle.gpt_table.proofs.Changed.{live_back, changes_join, changes_wider}

-- the table is the primary's where it is valid
pub first_says : (sectors : ℕ) (contents : Contents) (table : Table) → table_at Primary sectors contents ≡ Some table →
    the_table sectors contents ≡ Some table
first_says sectors contents table is =
    ap (λ (p : Option Table). option_map (λ found. found.table) (first_of p (table_at Backup sectors contents))) is

-- or else the backup's
pub else_says : (sectors : ℕ) (contents : Contents) (table : Option Table) → table_at Primary sectors contents ≡ None →
    table_at Backup sectors contents ≡ table → the_table sectors contents ≡ table
else_says sectors contents None none is =
    ap (λ (p : Option Table). option_map (λ found. found.table) (first_of p (table_at Backup sectors contents))) none
    ∙ ap (λ (b : Option Table). option_map (λ found. found.table) (first_of None b)) is
else_says sectors contents (Some table) none is =
    ap (λ (p : Option Table). option_map (λ found. found.table) (first_of p (table_at Backup sectors contents))) none
    ∙ ap (λ (b : Option Table). option_map (λ found. found.table) (first_of None b)) is

-- what is shown of each copy's change, of a disk that was told at the first one
abbrev Changing : RackView → ℕ → Table → Table → Contents → Type 0
Changing a disk old new contents = a.told disk → PrimarySays a disk new.sectors old → IsOneOf old new (the_table new.sectors contents)

backup_changes : (a m : RackView) (disk : ℕ) (old new : Table) (result : Result (Unit {0}) Gone) → 67 ≤ new.sectors → ReplacesCopy a m disk Backup new result →
    Changes a m disk (IsOfCopies new.sectors) (Changing a disk old new)
backup_changes a m disk old new result room first =
    changes_wider a m disk (IsOfCopy Backup new.sectors) (IsOfCopies new.sectors) (Passes a disk Backup new) (Changing a disk old new) first.changes
    (λ s among. inr among)
    (λ live contents elsewhere passing told says.
    inl (first_says new.sectors contents old (says contents (λ s among. elsewhere s (inl among) (λ both. copies_apart new.sectors s room among both)))))

primary_changes : (a m b : RackView) (disk : ℕ) (old new : Table) (result : Result (Unit {0}) Gone) → 67 ≤ new.sectors →
    ReplacesCopy a m disk Backup new {X = Unit {0}} {E = Gone} (Ok tt) → ReplacesCopy m b disk Primary new result →
    Changes m b disk (IsOfCopies new.sectors) (Changing a disk old new)
primary_changes a m b disk old new result room first second =
    changes_wider m b disk (IsOfCopy Primary new.sectors) (IsOfCopies new.sectors) (Passes m disk Primary new) (Changing a disk old new) second.changes
    (λ s among. inl among)
    (λ live contents elsewhere passing told says.
    ⊎_elim
    (λ (pick : IsPickOf m disk Primary new.sectors contents).
    inl (first_says new.sectors contents old (says contents
    (λ s among.
    (first.changes.others disk s (live_back first.changes.stays second.changes.stays told (live s (inl among)))
    (inr (λ both. copies_apart new.sectors s room among both))).within (contents s) (pick s among)))))
    (λ (other : (table_at Primary new.sectors contents ≡ None) ⊎ (table_at Primary new.sectors contents ≡ Some new)).
    ⊎_elim
    (λ (none : table_at Primary new.sectors contents ≡ None).
    inr (else_says new.sectors contents (Some new) none
    (first.says (λ s among. live_back first.changes.stays second.changes.stays told (live s (inr among))) contents
    (λ s among. elsewhere s (inr among) (λ both. copies_apart new.sectors s room both among))).says))
    (λ (is : table_at Primary new.sectors contents ≡ Some new). inr (first_says new.sectors contents new is))
    other)
    passing)

-- what was shown holds, as the copies' sectors are told
changing_told : (a b : RackView) (disk : ℕ) (old new : Table) → Changes a b disk (IsOfCopies new.sectors) (Changing a disk old new) →
    Changes a b disk (IsOfCopies new.sectors) (λ contents. PrimarySays a disk new.sectors old → IsOneOf old new (the_table new.sectors contents))
changing_told a b disk old new changes =
    changes_wider a b disk (IsOfCopies new.sectors) (IsOfCopies new.sectors) (Changing a disk old new)
    (λ contents. PrimarySays a disk new.sectors old → IsOneOf old new (the_table new.sectors contents)) changes
    (λ s among. among) (λ live contents elsewhere changing says. changing (live 1 (inl (inl refl))).is_told says)

-- the backup was refused
pub change_refused : (a m : RackView) (disk : ℕ) (old new : Table) (gone : Gone) → 67 ≤ new.sectors → gone.disk ≡ disk →
    ReplacesCopy a m disk Backup new {X = Unit {0}} {E = Gone} (Err gone) → ChangesTable a m disk old new {X = Unit {0}} (Err gone)
change_refused a m disk old new gone room named first = record {
  changes = changing_told a m disk old new (backup_changes a m disk old new (Err gone) room first);
  both = tt;
  gone = (named, first.gone);
}

-- the backup was replaced, then the primary or not
pub change_made : (a m b : RackView) (disk : ℕ) (old new : Table) (result : Result (Unit {0}) Gone) → 67 ≤ new.sectors → IfErr result (λ gone. gone.disk ≡ disk) →
    ReplacesCopy a m disk Backup new {X = Unit {0}} {E = Gone} (Ok tt) → ReplacesCopy m b disk Primary new result → ChangesTable a b disk old new result
change_made a m b disk old new (Err gone) room named first second = record {
  changes = changing_told a b disk old new
      (changes_join a m b disk (IsOfCopies new.sectors) (Changing a disk old new) (backup_changes a m disk old new (Ok tt) room first)
      (primary_changes a m b disk old new (Err gone) room first second));
  both = tt;
  gone = (named, rose_later a m b disk first.changes.stays second.gone);
}
change_made a m b disk old new (Ok tt) room named first second = record {
  changes = changing_told a b disk old new
      (changes_join a m b disk (IsOfCopies new.sectors) (Changing a disk old new) (backup_changes a m disk old new (Ok tt) room first)
      (primary_changes a m b disk old new (Ok tt) room first second));
  both = λ live contents pick copy. says live contents pick copy;
  gone = tt;
} where
  says : ((copy : TableCopy) (s : ℕ) → IsOfCopy copy new.sectors s → IsLive a b disk s) → (contents : Contents) →
      ((copy : TableCopy) → IsPickOf b disk copy new.sectors contents) → (copy : TableCopy) → HoldsCopy copy new contents
  says live contents pick Primary = second.says (λ s among. live_second first.changes.stays (live Primary s among)) contents (pick Primary)
  says live contents pick Backup =
      first.says (λ s among. live_first second.changes.stays (live Backup s among)) contents
      (λ s among.
      (second.changes.others disk s (live_second first.changes.stays (live Backup s among))
      (inr (λ both. copies_apart new.sectors s room both among))).within (contents s) (pick Backup s among))

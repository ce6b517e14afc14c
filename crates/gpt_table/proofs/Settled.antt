-- The copy that isn't the first valid one is replaced by it.
use Rattle.std.proofs.Common.{◌≡◌, ◌≢◌, ℕ, List, ◌≤◌, ◌⊎◌, Option, Some, None, option_map, Result, Ok, Err, IfSome, OnErr, Bool, true, false, refl, sym, ap, subst, ◌∙◌, inl, inr, ⊎_elim}
use Rattle.rack.specs.Values.{MayLeave, Keeps}
use Rattle.rack.specs.Seen.{RackView, Rose, SameRack}
use Rattle.rack.specs.Joins.{keeps_then, live_first, live_second, rose_later}
use Rattle.gpt_table.specs.declared.Table.{Table}
use Rattle.gpt_table.specs.declared.TableCopy.{TableCopy}
use Rattle.gpt_table.specs.declared.TableCopy.TheVariants.{Primary, Backup}
use Rattle.gpt_table.specs.declared.TableFault.{TableFault}
use Rattle.gpt_table.specs.declared.TableFault.TheVariants.{NoTable, Gone}
use Rattle.gpt_table.specs.Format.{IsWritableOn}
use Rattle.gpt_table.specs.Disk.{Contents, IsOfCopy, now_on, table_at, first_of, first_table}
use Rattle.rack.specs.Sequences.{OnlyReads, WritesOnly}
use Rattle.rack.proofs.Writing.{only_quiet, only_then, only_weaker}
use Rattle.gpt_table.specs.Changes.{IsInReplaced, IsInSettled, the_table, AreLive, BothLive, IsPickOf, AreSingle, IsOfCopies, Passes, Changes, ReplacesCopy, Settles, BothSay, IsKeptOrWritten, SettlesTable}
use Rattle.std.proofs.lemmas.Bool.{both_ways}
use Rattle.rack.proofs.Reading.{only_reads_join}
use Rattle.gpt_table.proofs.Joined.{table_at_agrees}
use Rattle.gpt_table.proofs.Whole.{copies_apart}
use Rattle.gpt_table.proofs.Changed.{live_back, changes_read, changes_join, changes_wider}
use Rattle.gpt_table.proofs.Tables.{first_says, else_says}

-- contents that agree in both copies have the same table
tables_agree : (sectors : ℕ) (d e : Contents) → ((s : ℕ) → IsOfCopies sectors s → d s ≡ e s) → the_table sectors d ≡ the_table sectors e
tables_agree sectors d e same =
    ap (λ (p : Option Table). option_map (λ found. found.table) (first_of p (table_at Backup sectors d)))
    (table_at_agrees Primary sectors d e (λ s among. same s (inl among)))
    ∙ ap (λ (b : Option Table). option_map (λ found. found.table) (first_of (table_at Primary sectors e) b))
    (table_at_agrees Backup sectors d e (λ s among. same s (inr among)))

-- what is shown of each step, of a disk that was told at the first one
abbrev pub Settling : RackView → ℕ → ℕ → Contents → Type 0
Settling a disk sectors contents = a.told disk → AreSingle a disk sectors → the_table sectors contents ≡ the_table sectors (now_on a disk)

-- what was read
pub record Read (a m : RackView) (disk sectors : ℕ) (primary backup : Option Table) : Type 0 where
  pub only : OnlyReads a m
  pub first : a.told disk → primary ≡ table_at Primary sectors (now_on a disk)
  pub second : a.told disk → backup ≡ table_at Backup sectors (now_on a disk)

-- reads change nothing
reads_settle : (a b : RackView) (disk sectors : ℕ) → OnlyReads a b → Changes a b disk (IsOfCopies sectors) (Settling a disk sectors)
reads_settle a b disk sectors reads =
    changes_read a b disk (IsOfCopies sectors) (Settling a disk sectors) reads
    (λ live contents pick told single.
    tables_agree sectors contents (now_on a disk)
    (λ s among.
    ⊎_elim (λ (of : IsOfCopy Primary sectors s). single Primary s of (contents s) (pick s among))
    (λ (of : IsOfCopy Backup sectors s). single Backup s of (contents s) (pick s among)) among))

-- a copy that wasn't written is as it was
unwritten : (a m b : RackView) (disk sectors : ℕ) (source target : TableCopy) (P : Contents → Type 0) → OnlyReads a m →
    Changes m b disk (IsOfCopy target sectors) P → ((s : ℕ) → IsOfCopy source sectors s → IsOfCopy target sectors s → ⊥) →
    AreLive a b disk source sectors → (s : ℕ) → IsOfCopy source sectors s → Keeps (a.held disk s) (b.held disk s)
unwritten a m b disk sectors source target P reads changes apart live s among =
    keeps_then _ _ _ (reads.keeps.held disk s (live_first changes.stays (live s among)))
    (changes.others disk s (live_second reads.stays (live s among)) (inr (λ both. apart s among both)))

-- during the call it is what it was, where it had one value
source_says : (a m b : RackView) (disk sectors : ℕ) (source : TableCopy) (contents : Contents) → OnlyReads a m → SameRack m b → a.told disk →
    AreSingle a disk sectors → AreLive m b disk source sectors → ((s : ℕ) → IsOfCopy source sectors s → MayLeave (m.held disk s) (contents s)) →
    table_at source sectors contents ≡ table_at source sectors (now_on a disk)
source_says a m b disk sectors source contents reads stays told single live pick =
    table_at_agrees source sectors contents (now_on a disk)
    (λ s among.
    single source s among (contents s)
    ((reads.keeps.held disk s (live_back reads.stays stays told (live s among))).within (contents s) (pick s among)))

-- the backup is replaced
backup_settles : (a m b : RackView) (disk : ℕ) (table : Table) (backup : Option Table) (result : Result (Unit {0}) TableFault) → 67 ≤ table.sectors →
    Read a m disk table.sectors (Some table) backup → ReplacesCopy m b disk Backup table result →
    Changes a b disk (IsOfCopies table.sectors) (Settling a disk table.sectors)
backup_settles a m b disk table backup result room read replaced =
    let sectors = table.sectors in
    changes_join a m b disk (IsOfCopies sectors) (Settling a disk sectors) (reads_settle a m disk sectors read.only)
    (changes_wider m b disk (IsOfCopy Backup sectors) (IsOfCopies sectors) (Passes m disk Backup table) (Settling a disk sectors) replaced.changes
    (λ s among. inr among)
    (λ live contents elsewhere passing told single.
    let is : table_at Primary sectors contents ≡ Some table =
    source_says a m b disk sectors Primary contents read.only replaced.changes.stays told single (λ s among. live s (inl among))
    (λ s among. elsewhere s (inl among) (λ both. copies_apart sectors s room among both))
    ∙ sym (read.first told) in
    first_says sectors contents table is ∙ sym (first_says sectors (now_on a disk) table (sym (read.first told)))))

-- the primary is replaced
primary_settles : (a m b : RackView) (disk : ℕ) (table : Table) (result : Result (Unit {0}) TableFault) → 67 ≤ table.sectors →
    Read a m disk table.sectors None (Some table) → ReplacesCopy m b disk Primary table result →
    Changes a b disk (IsOfCopies table.sectors) (Settling a disk table.sectors)
primary_settles a m b disk table result room read replaced =
    let sectors = table.sectors in
    changes_join a m b disk (IsOfCopies sectors) (Settling a disk sectors) (reads_settle a m disk sectors read.only)
    (changes_wider m b disk (IsOfCopy Primary sectors) (IsOfCopies sectors) (Passes m disk Primary table) (Settling a disk sectors) replaced.changes
    (λ s among. inl among)
    (λ live contents elsewhere passing told single.
    let was : the_table sectors (now_on a disk) ≡ Some table =
    else_says sectors (now_on a disk) (Some table) (sym (read.first told)) (sym (read.second told)) in
    let rest : table_at Backup sectors contents ≡ Some table =
    source_says a m b disk sectors Backup contents read.only replaced.changes.stays told single (λ s among. live s (inr among))
    (λ s among. elsewhere s (inr among) (λ both. copies_apart sectors s room both among))
    ∙ sym (read.second told) in
    ⊎_elim
    (λ (pick : IsPickOf m disk Primary sectors contents).
    else_says sectors contents (Some table)
    (source_says a m b disk sectors Primary contents read.only replaced.changes.stays told single (λ s among. live s (inl among)) pick
    ∙ sym (read.first told)) rest ∙ sym was)
    (λ (other : (table_at Primary sectors contents ≡ None) ⊎ (table_at Primary sectors contents ≡ Some table)).
    ⊎_elim
    (λ (none : table_at Primary sectors contents ≡ None). else_says sectors contents (Some table) none rest ∙ sym was)
    (λ (is : table_at Primary sectors contents ≡ Some table). first_says sectors contents table is ∙ sym was)
    other)
    passing))

-- what was shown holds, as the copies' sectors are told
settling_told : (a b : RackView) (disk sectors : ℕ) → Changes a b disk (IsOfCopies sectors) (Settling a disk sectors) →
    Changes a b disk (IsOfCopies sectors) (λ contents. AreSingle a disk sectors → the_table sectors contents ≡ the_table sectors (now_on a disk))
settling_told a b disk sectors changes =
    changes_wider a b disk (IsOfCopies sectors) (IsOfCopies sectors) (Settling a disk sectors)
    (λ contents. AreSingle a disk sectors → the_table sectors contents ≡ the_table sectors (now_on a disk)) changes
    (λ s among. among) (λ live contents elsewhere settling single. settling (live 1 (inl (inl refl))).is_told single)

-- the copy beside one
abbrev other_copy : TableCopy → TableCopy
other_copy Primary = Backup
other_copy Backup = Primary

-- what holds for a copy and for the other one holds for each
for_both : (target : TableCopy) (P : TableCopy → Type 0) → P target → P (other_copy target) → (copy : TableCopy) → P copy
for_both Primary P own other Primary = own
for_both Primary P own other Backup = other
for_both Backup P own other Primary = other
for_both Backup P own other Backup = own

apart_from : (target : TableCopy) (sectors s : ℕ) → 67 ≤ sectors → IsOfCopy (other_copy target) sectors s → IsOfCopy target sectors s → ⊥
apart_from Primary sectors s room other own = copies_apart sectors s room own other
apart_from Backup sectors s room other own = copies_apart sectors s room other own

-- the disk has this table, and the copy beside the one that is to be replaced says it
record Source (a m : RackView) (disk : ℕ) (table : Table) (target : TableCopy) : Type 0 where
  only : OnlyReads a m
  first : a.told disk → the_table table.sectors (now_on a disk) ≡ Some table
  says : a.told disk → table_at (other_copy target) table.sectors (now_on a disk) ≡ Some table

-- both copies say the table, once the other one was replaced
both_say : (a m b : RackView) (disk : ℕ) (table : Table) (target : TableCopy) (contents : Contents) → Source a m disk table target →
    ReplacesCopy m b disk target table {X = Unit {0}} {E = TableFault} (Ok tt) → BothLive a b disk table.sectors →
    ((s : ℕ) → IsOfCopy (other_copy target) table.sectors s → contents s ≡ now_on a disk s) → IsPickOf b disk target table.sectors contents →
    BothSay a disk table.sectors contents
both_say a m b disk table target contents source replaced live same pick =
    let told : a.told disk = (live Primary 1 (inl refl)).is_told in (
      table,
      source.first told,
      for_both target (λ copy. table_at copy table.sectors contents ≡ Some table)
          (replaced.says (λ s among. live_second source.only.stays (live target s among)) contents pick).says
          (table_at_agrees (other_copy target) table.sectors contents (now_on a disk) same ∙ source.says told),
    )

-- what is written while a copy is replaced by what the other one says
settled_only : (a m b : RackView) (disk : ℕ) (table : Table) (target : TableCopy) (result : Result (Unit {0}) TableFault) → Source a m disk table target →
    ReplacesCopy m b disk target table result → WritesOnly a b (λ d s v. (d ≡ disk) × IsInSettled a disk table.sectors s v)
settled_only a m b disk table target result source replaced =
    let may = λ (d s : ℕ) (v : List ℕ). (d ≡ disk) × IsInSettled a disk table.sectors s v in
    only_then may (only_quiet may source.only.stays source.only.keeps)
    (only_weaker (λ d s v. (d ≡ disk) × IsInReplaced target table s v) may
    (λ d s v is. (is.0, record { copy = target; table = table; size = refl; first = source.first; within = is.1 })) replaced.only)

-- a copy was replaced by what the other one says
settled_copy : (a m b : RackView) (disk : ℕ) (table : Table) (target : TableCopy) (result : Result (Unit {0}) TableFault) → 67 ≤ table.sectors →
    Source a m disk table target → Changes a b disk (IsOfCopies table.sectors) (Settling a disk table.sectors) →
    ReplacesCopy m b disk target table result → SettlesTable a b disk table.sectors result
settled_copy a m b disk table target (Err e) room source settles replaced = record {
  changes = settling_told a b disk table.sectors settles;
  only = settled_only a m b disk table target (Err e) source replaced;
  both = tt;
  written = tt;
  durable = tt;
}
settled_copy a m b disk table target (Ok tt) room source settles replaced = record {
  changes = settling_told a b disk table.sectors settles;
  only = settled_only a m b disk table target (Ok tt) source replaced;
  both = λ live.
      both_say a m b disk table target (now_on b disk) source replaced live (λ s among. (kept live s among).current) (λ s among. inl refl);
  durable = λ live single contents pick.
      both_say a m b disk table target contents source replaced live
      (λ s among. single (other_copy target) s among (contents s) ((kept live s among).within (contents s) (pick (other_copy target) s among)))
      (pick target);
  written = λ live.
      for_both target
      (λ copy. (contents : Contents) → IsPickOf b disk copy table.sectors contents → IsKeptOrWritten a disk table.sectors copy contents)
      (λ contents pick. inr (table, refl, replaced.says (λ s among. live_second source.only.stays (live target s among)) contents pick))
      (λ contents pick. inl (λ s among. (kept live s among).within (contents s) (pick s among)));
} where
  kept : BothLive a b disk table.sectors → (s : ℕ) → IsOfCopy (other_copy target) table.sectors s → Keeps (a.held disk s) (b.held disk s)
  kept live =
      unwritten a m b disk table.sectors (other_copy target) target (Passes m disk target table) source.only replaced.changes
      (λ s other own. apart_from target table.sectors s room other own) (live (other_copy target))

-- nothing had to be written
settled_same : (a m b : RackView) (disk sectors : ℕ) (table : Table) → Read a m disk sectors (Some table) (Some table) → OnlyReads m b →
    SettlesTable a b disk sectors {X = Unit {0}} {E = TableFault} (Ok tt)
settled_same a m b disk sectors table read later = record {
  changes = settling_told a b disk sectors (reads_settle a b disk sectors only);
  only = only_quiet (λ d s v. (d ≡ disk) × IsInSettled a disk sectors s v) only.stays only.keeps;
  both = λ live. says live (now_on b disk) (λ copy s among. (only.keeps.held disk s (live copy s among)).current);
  durable = λ live single contents pick.
      says live contents
      (λ copy s among. single copy s among (contents s) ((only.keeps.held disk s (live copy s among)).within (contents s) (pick copy s among)));
  written = λ live copy contents pick.
      inl (λ s among. (only.keeps.held disk s (live copy s among)).within (contents s) (pick s among));
} where
  only : OnlyReads a b
  only = only_reads_join read.only later

  says : BothLive a b disk sectors → (contents : Contents) → ((copy : TableCopy) (s : ℕ) → IsOfCopy copy sectors s → contents s ≡ now_on a disk s) →
      BothSay a disk sectors contents
  says live contents same = (table, first_says sectors (now_on a disk) table (sym (read.first told)), each) where
    told : a.told disk
    told = (live Primary 1 (inl refl)).is_told

    each : (copy : TableCopy) → table_at copy sectors contents ≡ Some table
    each Primary = table_at_agrees Primary sectors contents (now_on a disk) (same Primary) ∙ sym (read.first told)
    each Backup = table_at_agrees Backup sectors contents (now_on a disk) (same Backup) ∙ sym (read.second told)

-- nothing could be written
pub settled_none : (a b : RackView) (disk sectors : ℕ) (fault : TableFault) → OnlyReads a b →
    SettlesTable a b disk sectors {X = Unit {0}} {E = TableFault} (Err fault)
settled_none a b disk sectors fault only = record {
  changes = settling_told a b disk sectors (reads_settle a b disk sectors only);
  only = only_quiet (λ d s v. (d ≡ disk) × IsInSettled a disk sectors s v) only.stays only.keeps;
  both = tt;
  written = tt;
  durable = tt;
}

-- what was read was settled
pub settled_by : (a m b : RackView) (disk sectors : ℕ) (primary backup : Option Table) (result : Result (Unit {0}) TableFault) → 67 ≤ sectors →
    Read a m disk sectors primary backup → IfSome primary (λ t. IsWritableOn sectors t) → IfSome backup (λ t. IsWritableOn sectors t) →
    Settles m b disk primary backup result → SettlesTable a b disk sectors result
settled_by a m b disk sectors (Some table) backup result room read fits rest settles =
    subst (λ (n : ℕ). 67 ≤ n → Read a m disk n (Some table) backup → SettlesTable a b disk n result) fits.size
    (λ roomy found.
    ⊎_elim
    (λ (same : OnlyReads m b × (backup ≡ Some table) × (result ≡ Ok tt)).
    subst (λ (r : Result (Unit {0}) TableFault). SettlesTable a b disk table.sectors r) (sym same.2)
    (settled_same a m b disk table.sectors table
    (record { only = found.only; first = found.first; second = λ told. sym same.1 ∙ found.second told }) same.0))
    (λ (replaced : ReplacesCopy m b disk Backup table result × (result ≢ Err NoTable)).
    settled_copy a m b disk table Backup result roomy
    (record {
      only = found.only;
      first = λ told. first_says table.sectors (now_on a disk) table (sym (found.first told));
      says = λ told. sym (found.first told);
    })
    (backup_settles a m b disk table backup result roomy found replaced.0) replaced.0)
    settles)
    room read
settled_by a m b disk sectors None (Some table) result room read rest fits settles =
    subst (λ (n : ℕ). 67 ≤ n → Read a m disk n None (Some table) → SettlesTable a b disk n result) fits.size
    (λ roomy found.
    settled_copy a m b disk table Primary result roomy
    (record {
      only = found.only;
      first = λ told. else_says table.sectors (now_on a disk) (Some table) (sym (found.first told)) (sym (found.second told));
      says = λ told. sym (found.second told);
    })
    (primary_settles a m b disk table result roomy found settles.0) settles.0)
    room read
settled_by a m b disk sectors None None result room read one other settles =
    subst (λ (r : Result (Unit {0}) TableFault). SettlesTable a b disk sectors r) (sym settles.1)
    (settled_none a b disk sectors NoTable (only_reads_join read.only settles.0))

-- whether a call was served, and whether it found no table
abbrev served : Result (Unit {0}) TableFault → Bool
served (Ok x) = true
served (Err e) = false

abbrev found_none : Result (Unit {0}) TableFault → Bool
found_none (Ok x) = false
found_none (Err NoTable) = true
found_none (Err Gone) = false

-- no table was found exactly where there is none
pub none_found : (a m b : RackView) (disk sectors : ℕ) (primary backup : Option Table) (result : Result (Unit {0}) TableFault) →
    Read a m disk sectors primary backup → Settles m b disk primary backup result → result ≡ Err NoTable → a.told disk →
    first_table sectors (now_on a disk) ≡ None
none_found a m b disk sectors (Some table) backup result read settles none told =
    ⊎_elim
    (λ (same : OnlyReads m b × (backup ≡ Some table) × (result ≡ Ok tt)). absurd (both_ways (served result) (ap served none) (ap served same.2)))
    (λ (replaced : ReplacesCopy m b disk Backup table result × (result ≢ Err NoTable)). absurd (replaced.1 none))
    settles
none_found a m b disk sectors None (Some table) result read settles none told = absurd (settles.1 none)
none_found a m b disk sectors None None result read settles none told =
    ap (λ (p : Option Table). first_of p (table_at Backup sectors (now_on a disk))) (sym (read.first told))
    ∙ ap (first_of None) (sym (read.second told))

-- a refusal comes only where the faults rose
pub rose_settling : (a m b : RackView) (disk sectors : ℕ) (primary backup : Option Table) (result : Result (Unit {0}) TableFault) →
    Read a m disk sectors primary backup → Settles m b disk primary backup result → result ≡ Err Gone → Rose (a.faults disk) (b.faults disk)
rose_settling a m b disk sectors (Some table) backup result read settles gone =
    ⊎_elim
    (λ (same : OnlyReads m b × (backup ≡ Some table) × (result ≡ Ok tt)). absurd (both_ways (served result) (ap served gone) (ap served same.2)))
    (λ (replaced : ReplacesCopy m b disk Backup table result × (result ≢ Err NoTable)).
    rose_later a m b disk read.only.stays
    (subst (λ (r : Result (Unit {0}) TableFault). OnErr r (Rose (m.faults disk) (b.faults disk))) gone replaced.0.gone))
    settles
rose_settling a m b disk sectors None (Some table) result read settles gone =
    rose_later a m b disk read.only.stays
    (subst (λ (r : Result (Unit {0}) TableFault). OnErr r (Rose (m.faults disk) (b.faults disk))) gone settles.0.gone)
rose_settling a m b disk sectors None None result read settles gone =
    absurd (both_ways (found_none result) (ap found_none gone) (ap found_none settles.1))

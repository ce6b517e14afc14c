-- The table of a disk, whatever its spent sectors hold.
use Rattle.std.proofs.Common.{◌≡◌, ◌↔◌, ℕ, ◌<◌, ◌≤◌, Bool, Option, Some, option_map, Ok, true, false, ap, ◌∙◌, sym, subst, inl, inr}
use Rattle.rack.specs.Seen.{RackView}
use Rattle.gpt_table.specs.declared.settling.Copies.{Copies}
use Rattle.gpt_table.specs.declared.Table.{Table}
use Rattle.gpt_table.specs.declared.TableCopy.{TableCopy}
use Rattle.gpt_table.specs.declared.TableCopy.TheVariants.{Primary, Backup}
use Rattle.gpt_table.specs.Disk.{Contents, IsOfCopy, now_on, table_at, first_table, first_of, AgreesUnspent, CopiesAgree, SaySame}
use Rattle.gpt_table.specs.Calls.{Looks}
use Rattle.gpt_table.specs.Changes.{IsOfCopies, the_table}
use Rattle.gpt_table.proofs.Joined.{table_at_agrees}
use Rattle.gpt_table.proofs.Copies.{copy_is_on_disk}

-- a copy whose sectors aren't spent
copy_agrees : (a : RackView) (disk sectors : ℕ) (copy : TableCopy) (contents : Contents) → sectors ≡ a.sectors disk → 67 ≤ sectors →
    AgreesUnspent a disk contents → ((s : ℕ) → IsOfCopy copy sectors s → a.spent disk s ≡ false) →
    table_at copy sectors contents ≡ table_at copy sectors (now_on a disk)
copy_agrees a disk sectors copy contents size room agrees served =
    table_at_agrees copy sectors contents (now_on a disk)
    (λ s of. agrees s (subst (λ n. s < n) size (copy_is_on_disk copy sectors s room of)) (served s of))

-- the primary is valid: the backup doesn't count
pub primary_agrees : {a b : RackView} (disk sectors : ℕ) (table : Table) → sectors ≡ a.sectors disk → 67 ≤ sectors →
    Looks a b disk (IsOfCopy Primary sectors) {X = Option Table} (λ t. t ≡ table_at Primary sectors (now_on a disk)) (Ok (Some table)) →
    a.told disk → (contents : Contents) → AgreesUnspent a disk contents →
    first_table sectors contents ≡ first_table sectors (now_on a disk)
primary_agrees {a} disk sectors table size room looks told contents agrees =
    let now = now_on a disk in
    let value : Some table ≡ table_at Primary sectors now = looks.value told in
    let same : table_at Primary sectors contents ≡ table_at Primary sectors now =
    copy_agrees a disk sectors Primary contents size room agrees looks.served in
    ap (λ (p : Option Table). first_of p (table_at Backup sectors contents)) (same ∙ sym value)
    ∙ ap (λ (p : Option Table). first_of p (table_at Backup sectors now)) value

-- both copies were read
pub copies_agree : {a b c : RackView} (disk sectors : ℕ) (primary backup : Option Table) → sectors ≡ a.sectors disk → 67 ≤ sectors →
    Looks a b disk (IsOfCopy Primary sectors) {X = Option Table} (λ t. t ≡ table_at Primary sectors (now_on a disk)) (Ok primary) →
    Looks b c disk (IsOfCopy Backup sectors) {X = Option Table} (λ t. t ≡ table_at Backup sectors (now_on b disk)) (Ok backup) →
    (contents : Contents) → AgreesUnspent a disk contents →
    first_table sectors contents ≡ first_table sectors (now_on a disk)
copies_agree {a} {b} disk sectors primary backup size room first second contents agrees =
    let now = now_on a disk in
    let one : table_at Primary sectors contents ≡ table_at Primary sectors now =
    copy_agrees a disk sectors Primary contents size room agrees first.served in
    let two : table_at Backup sectors contents ≡ table_at Backup sectors now =
    copy_agrees a disk sectors Backup contents size room agrees (λ s of. first.only.stays.spent disk s (second.served s of)) in
    ap (λ (p : Option Table). first_of p (table_at Backup sectors contents)) one
    ∙ ap (first_of (table_at Primary sectors now)) two

-- what both copies say
pub both_say : {a b : RackView} (disk sectors : ℕ) (found : Copies) → sectors ≡ a.sectors disk → 67 ≤ sectors →
    Looks a b disk (IsOfCopies sectors) {X = Copies}
    (λ copies. (copies.primary ≡ table_at Primary sectors (now_on a disk)) × (copies.backup ≡ table_at Backup sectors (now_on a disk))) (Ok found) →
    a.told disk → (contents : Contents) → AgreesUnspent a disk contents →
    (found.primary ≡ table_at Primary (a.sectors disk) contents) × (found.backup ≡ table_at Backup (a.sectors disk) contents)
both_say {a} disk sectors found size room looks told contents agrees =
    let value = looks.value told in
    subst (λ (n : ℕ). (found.primary ≡ table_at Primary n contents) × (found.backup ≡ table_at Backup n contents)) size (
      value.0 ∙ sym (copy_agrees a disk sectors Primary contents size room agrees (λ s of. looks.served s (inl of))),
      value.1 ∙ sym (copy_agrees a disk sectors Backup contents size room agrees (λ s of. looks.served s (inr of))),
    )

-- the table of the first valid one of them is the disk's
pub first_said : (sectors : ℕ) (contents : Contents) (found : Copies) →
    (found.primary ≡ table_at Primary sectors contents) × (found.backup ≡ table_at Backup sectors contents) →
    the_table sectors contents ≡ option_map (λ seen. seen.table) (first_of found.primary found.backup)
first_said sectors contents found say =
    ap (λ (p : Option Table). option_map (λ seen. seen.table) (first_of p (table_at Backup sectors contents))) (sym say.0)
    ∙ ap (λ (q : Option Table). option_map (λ seen. seen.table) (first_of found.primary q)) (sym say.1)

-- and both agree where the disk's copies do
pub agree_said : (sectors : ℕ) (contents : Contents) (found : Copies) (agree : Bool) →
    (found.primary ≡ table_at Primary sectors contents) × (found.backup ≡ table_at Backup sectors contents) →
    ((agree ≡ true) ↔ SaySame found.primary found.backup) → (agree ≡ true) ↔ CopiesAgree sectors contents
agree_said sectors contents found agree say same = (
  λ here. let both = same.0 here in (both.0, sym say.0 ∙ both.1, sym say.1 ∙ both.2),
  λ both. same.1 (both.0, say.0 ∙ both.1, say.1 ∙ both.2),
)

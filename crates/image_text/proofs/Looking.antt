-- Reads in a row of an image.
use Rattle.std.proofs.Common.{◌≡◌, ℕ, ◌<◌, List, Result, Ok, Err, false, refl, sym, subst, ◌∙◌, rules}
use Rattle.rack.specs.declared.Gone.{Gone as Refusal}
use Rattle.rack.specs.Seen.{RackView, IsPick}
use Rattle.rack.specs.Calls.{Reads}
use Rattle.rack.specs.Joins.{keeps_same, leaves_same, stays_same, stays_then, keeps_all_then, rose_since}
use Rattle.rack.specs.Sequences.{OnlyReads}
use Rattle.gpt_table.specs.Disk.{Contents}
use Rattle.image_text.specs.declared.bytes.Unread.{Unread}
use Rattle.image_text.specs.declared.bytes.Unread.TheVariants.{Gone, Memory}
use Rattle.image_text.specs.Contents.{IsImage}
use Rattle.image_text.specs.Reading.{Gives}

-- before the first read
pub only_start : (a : RackView) → a.fit → OnlyReads a a
only_start a fit = record {
  stays = stays_same a fit;
  keeps = record { held = λ d s live. keeps_same (a.held d s); stops = λ traced. leaves_same a (IsPick a a a.held) };
}

-- reads after reads
pub only_join : {a b c : RackView} → OnlyReads a b → OnlyReads b c → OnlyReads a c
only_join first second = record {
  stays = stays_then first.stays second.stays;
  keeps = keeps_all_then first.stays second.stays first.keeps second.keeps;
}

-- one read
pub only_one : {a b : RackView} {disk sector : ℕ} {into : List ℕ} {X : Type 0} {result : Result X Refusal} → Reads a b disk sector into result → OnlyReads a b
only_one read = record { stays = read.stays; keeps = read.keeps }

-- one more read
pub only_then : {a b c : RackView} {disk sector : ℕ} {into : List ℕ} {X : Type 0} {result : Result X Refusal} →
    OnlyReads a b → Reads b c disk sector into result → OnlyReads a c
only_then first second = only_join first (only_one second)

-- the disk holds the same image after reads
pub image_later : {a b : RackView} (disk : ℕ) (image : Contents) → OnlyReads a b → disk < a.disks → ((d s : ℕ) → b.spent d s ≡ false)
    → IsImage a disk image → IsImage b disk image
image_later {a} {b} disk image only has unspent is = record {
  told = only.stays.told disk is.told;
  same = λ s below.
      let inside : s < a.sectors disk = subst (λ n. s < n) (only.stays.sectors disk) below in
      (only.keeps.held disk s (record {
        disk = subst (λ n. disk < n) (sym only.stays.disks) has;
        sector = below;
        is_told = is.told;
        unspent = unspent disk s;
      })).current ∙ is.same s inside;
}

-- what a read gives is what the image has there
pub sector_read : {a b : RackView} {disk sector : ℕ} {into : List ℕ} {X : Type 0} {x : X} (image : Contents) →
    Reads a b disk sector into (Ok x) → sector < a.sectors disk → IsImage a disk image → into ≡ image sector
sector_read {sector = sector} image read inside is = read.value is.told ∙ is.same sector inside

-- a value that was read, seen as another
pub gives_as : {a b : RackView} {disk : ℕ} {X Y : Type 0} (P : Contents → X → Type 0) (Q : Contents → Y → Type 0) {x : X} (y : Y) →
    Gives a b disk P (Ok x) → ((image : Contents) → P image x → Q image y) → Gives a b disk Q (Ok y)
gives_as P Q y one seen = record { only = one.only; value = λ image is. seen image (one.value image is); gone = search rules }

-- a fault instead of a value is one instead of another
pub gives_none : {a b : RackView} {disk : ℕ} {X Y : Type 0} (P : Contents → X → Type 0) (Q : Contents → Y → Type 0) (why : Unread) →
    Gives a b disk {X = X} P (Err why) → Gives a b disk {X = Y} Q (Err why)
gives_none P Q Gone one = record { only = one.only; value = λ image is. tt; gone = λ e. one.gone refl }
gives_none P Q Memory one = record { only = one.only; value = λ image is. tt; gone = search rules }

-- a value that was read after another
pub gives_then : {a b c : RackView} {disk : ℕ} {X Y : Type 0} (P : Contents → X → Type 0) (Q S : Contents → Y → Type 0) {x : X} (r : Result Y Unread) →
    disk < a.disks → ((d s : ℕ) → b.spent d s ≡ false) →
    Gives a b disk P (Ok x) → Gives b c disk Q r → ((image : Contents) (y : Y) → P image x → Q image y → S image y) → Gives a c disk S r
gives_then {disk = disk} P Q S (Ok y) has unspent one two seen = record {
  only = only_join one.only two.only;
  value = λ image is. seen image y (one.value image is) (two.value image (image_later disk image one.only has unspent is));
  gone = search rules;
}
gives_then {disk = disk} P Q S (Err why) has unspent one two seen = record {
  only = only_join one.only two.only;
  value = λ image is. tt;
  gone = λ e. rose_since (one.only.stays.faults disk) (two.gone (search (rules, e)));
}

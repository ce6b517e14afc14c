-- Reads in a row.
use Rattle.std.proofs.Common.{◌≡◌, ℕ, ◌<◌, List, Result, Ok, false, sym, subst, ◌∙◌}
use Rattle.rack.specs.declared.Gone.{Gone}
use Rattle.rack.specs.Seen.{RackView, IsPick}
use Rattle.rack.specs.Calls.{Reads}
use Rattle.rack.specs.Joins.{keeps_same, leaves_same, stays_same, stays_then, keeps_all_then}
use Rattle.rack.specs.Sequences.{OnlyReads}

-- before the first read
pub only_reads_start : (a : RackView) → a.fit → OnlyReads a a
only_reads_start a fit =
    record {
      stays = stays_same a fit;
      keeps = record { held = λ d s live. keeps_same (a.held d s); stops = λ traced. leaves_same a (IsPick a a a.held) };
    }

-- one more read
pub only_reads_then :
    {a b c : RackView} {disk sector : ℕ} {into : List ℕ} {X : Type 0} {result : Result X Gone}
    → OnlyReads a b
    → Reads b c disk sector into result
    → OnlyReads a c
only_reads_then first second =
    record {
      stays = stays_then first.stays second.stays;
      keeps = keeps_all_then first.stays second.stays first.keeps second.keeps;
    }

-- reads after reads
pub only_reads_join : {a b c : RackView} → OnlyReads a b → OnlyReads b c → OnlyReads a c
only_reads_join first second =
    record {
      stays = stays_then first.stays second.stays;
      keeps = keeps_all_then first.stays second.stays first.keeps second.keeps;
    }

-- what stands in a sector after reads stood there before them
pub same_after :
    {a b : RackView} (disk sector : ℕ)
    → OnlyReads a b
    → disk < a.disks
    → sector < a.sectors disk
    → a.told disk
    → b.spent disk sector ≡ false
    → (b.held disk sector).current ≡ (a.held disk sector).current
same_after {a} {b} disk sector reads has within told unspent =
    (reads.keeps.held
    disk
    sector
    (record {
      disk = subst (λ n. disk < n) (sym reads.stays.disks) has;
      sector = subst (λ n. sector < n) (sym (reads.stays.sectors disk)) within;
      is_told = told;
      unspent = unspent;
    })).current

-- a sector that was read wasn't spent before
pub unspent_before :
    {a b c : RackView} {disk sector : ℕ} {into : List ℕ} {X : Type 0} (x : X)
    → OnlyReads a b
    → Reads b c disk sector into (Ok x)
    → a.spent disk sector ≡ false
unspent_before {disk = disk} {sector = sector} x first second =
    first.stays.spent disk sector (second.stays.spent disk sector second.cause.served)

-- what a later read gives is what stood there before the first
pub value_then :
    {a b c : RackView} {disk sector : ℕ} {into : List ℕ} {X : Type 0} (x : X)
    → OnlyReads a b
    → Reads b c disk sector into (Ok x)
    → disk < a.disks
    → sector < a.sectors disk
    → a.told disk
    → into ≡ (a.held disk sector).current
value_then {a} {b} {c} {disk} {sector} x first second has within told =
    let unspent = second.stays.spent disk sector second.cause.served in
    second.value (first.stays.told disk told) ∙ same_after disk sector first has within told unspent

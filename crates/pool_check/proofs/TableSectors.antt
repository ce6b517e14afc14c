-- The sectors of a partition table's copies.
use Rattle.std.proofs.Common.{◌≡◌, ◌⊎◌, ℕ, ◌+◌, ◌-◌, ◌<◌, ◌≤◌, inl, inr, arith}
use Rattle.rack.specs.Seen.{IsLive, RackView}
use Rattle.gpt_table.specs.declared.TableCopy.{TableCopy}
use Rattle.gpt_table.specs.declared.TableCopy.TheVariants.{Primary, Backup}
use Rattle.gpt_table.specs.Changes.{BothLive, IsOfCopies}
use Rattle.gpt_table.specs.Disk.{IsOfCopy}

pub of_one : (copy : TableCopy) (sectors s : ℕ) → IsOfCopy copy sectors s → IsOfCopies sectors s
of_one Primary sectors s is = inl is
of_one Backup sectors s is = inr is

pub live_of : (a b : RackView) (d n s : ℕ) → BothLive a b d n → IsOfCopies n s → IsLive a b d s
live_of a b d n s live (inl is) = live Primary s is
live_of a b d n s live (inr is) = live Backup s is

-- sectors of copies stand at the start of the disk, or at its end
pub table_end : (sectors s : ℕ) → IsOfCopies sectors s → (s < 34) ⊎ (sectors ≤ s + 33)
table_end sectors s (inl (inl same)) = let one : s ≡ 1 = same in inl (omega (arith, one))
table_end sectors s (inl (inr entries)) = let most : s < 34 = entries.1 in inl most
table_end sectors s (inr (inl same)) = let last : s ≡ sectors - 1 = same in inr (omega (arith, last))
table_end sectors s (inr (inr entries)) = let least : sectors - 33 ≤ s = entries.0 in inr (omega (arith, least))

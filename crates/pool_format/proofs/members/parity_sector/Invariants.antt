use Rattle.std.proofs.Common.{◌≡◌, ◌+◌, ◌-◌, ◌*◌, ◌%◌, map}
use Rattle.std.specs.List.{range_with_len}
use Rattle.parity.specs.Xor.{xor_all}
use Rattle.raid_map.specs.LeftSymmetric.{row_at}
use Rattle.pool_format.specs.Data.{group_sector}
use Rattle.pool_format.proofs.members.parity_sector.Given as goal

-- the XOR of the columns up to here
abbrev pub invariant-loop-column : goal.invariant-loop-column
invariant-loop-column l =
    l.sum ≡ xor_all 512 (map (λ column. group_sector l.group l.member.number ((row_at l.sector * (l.member.members - 1) + column) * 128 + l.sector % 128)) (range_with_len 0 l.column))

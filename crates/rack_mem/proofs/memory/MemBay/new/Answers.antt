use Rattle.std.proofs.Common.{arith, ◌^◌}
use Rattle.rack_mem.proofs.Attaching.{small_disks}
use Rattle.rack_mem.proofs.Histories.{IsIndex-empty}
use Rattle.rack_mem.proofs.memory.MemBay.new.Goals as goal

pub invariant_of-result-clause-small : goal.invariant_of-result-clause-small
invariant_of-result-clause-small c n = small_disks c.args.shelf.items (2 ^ 48) n (omega arith) c.requires.sectors

pub invariant_of-result-clause-indexed : goal.invariant_of-result-clause-indexed
invariant_of-result-clause-indexed c = IsIndex-empty _ _ c.in-Ok.ensures.items c.in_ok-with_room-2.ensures.empty

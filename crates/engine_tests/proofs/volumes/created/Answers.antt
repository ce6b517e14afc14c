use Rattle.std.proofs.Common.{slice_index_or, arith}
use Rattle.rack_mem.specs.MemBay.{memory}
use Rattle.rack_mem.specs.Memory.{seen_of}
use Rattle.engine_tests.proofs.Holding.{hold_all}
use Rattle.engine_tests.proofs.volumes.created.Goals as goal

pub create-requires-clause-holds : goal.create-requires-clause-holds
create-requires-clause-holds g c =
    let numbers = c.args.numbers in
    hold_all (λ array. (seen_of (memory c.in_ok-bay.bay)).sectors array) (slice_index_or numbers 0 0) (slice_index_or numbers 1 0) (slice_index_or numbers 2 0)
    (omega (arith, c.sectors.ensures.number)) (omega (arith, c.sectors-2.ensures.number)) (omega (arith, c.sectors-3.ensures.number))

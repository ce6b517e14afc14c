-- What a bay in memory shows.
use Rattle.rack_mem.specs.declared.memory.MemBay.{MemBay}
use Rattle.rack_mem.specs.Table.{stored}
use Rattle.rack_mem.specs.Memory.{Memory}

abbrev pub memory : MemBay → Memory
memory bay =
    record {
      shelf = bay.shelf.items;
      contents = stored bay.base;
      attached = bay.attached.items;
      calls = bay.calls.items;
      failing = bay.failing.items;
      room = bay.room;
      faults = bay.faults;
    }

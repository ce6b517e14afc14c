-- The first disks are written, or have refused.
use Rattle.rack.specs.Sequences.{OnlyReads}
use Rattle.rack.specs.Shelf.{KeepsShelf}
use Rattle.buffered_bay.proofs.Written.{AreWritten}
use Rattle.buffered_bay.proofs.bay.BufferedBay.write_back_all.Given as goal

abbrev pub invariant-loop-disk : goal.invariant-loop-disk
invariant-loop-disk g l = record {
  reads : OnlyReads (g.F.FileStore.view l.fn.self.files).seen (g.F.FileStore.view l.self.files).seen;
  shelf : KeepsShelf (g.F.FileStore.shelf l.fn.self.files) (g.F.FileStore.shelf l.self.files);
  written : AreWritten g.F.FileStore.tells (g.F.FileStore.view l.fn.self.files) (g.F.FileStore.view l.self.files) l.disk;
}

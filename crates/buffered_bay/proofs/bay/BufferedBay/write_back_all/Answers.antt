use Rattle.std.proofs.Common.{◌<◌, sym, subst, arith}
use Rattle.rack.specs.Shelf.{keeps_shelf_then}
use Rattle.rack.proofs.Reading.{only_reads_join}
use Rattle.buffered_bay.proofs.Written.{written_more}
use Rattle.buffered_bay.proofs.bay.BufferedBay.write_back_all.Goals as goal

pub loop-disk-preserved : goal.loop-disk-preserved
loop-disk-preserved g c =
    let view = g.F.FileStore.view in
    let before = g.met.F.FileStore.plain c.loop-disk.self.files in
    let after = g.met.F.FileStore.plain c.try_write_back.new.self.files in
    let old = c.loop-disk.invariant in
    let done = c.try_write_back.ensures in
    let has = subst (λ n. c.loop-disk.disk < n) (sym old.reads.stays.disks) (omega (arith, c.loop-disk-test.true, c.disks-disk-end.ensures)) in
    record {
      reads = only_reads_join old.reads done.reads;
      shelf = keeps_shelf_then _ _ _ old.shelf done.shelf;
      written = written_more (view c.args.self.now.files) (view c.loop-disk.self.files) (view c.try_write_back.new.self.files) c.loop-disk.disk before after old.reads done.reads has done.others done.written old.written;
    }

pub returns-clause-written : goal.returns-clause-written
returns-clause-written g c d has =
    c.loop-disk.invariant.written d (omega (arith, has, c.loop-disk-test.false, c.disks-disk-end.ensures))

-- The sectors so far were read.
use Rattle.std.proofs.Common.{◌≡◌, ◌*◌, length}
use Rattle.rack.specs.Sequences.{OnlyReads}
use Rattle.gpt_table.specs.Disk.{Contents, joined}
use Rattle.image_text.specs.Contents.{IsImage}
use Rattle.image_text.proofs.bytes.read_sectors.Given as goal

abbrev pub invariant-loop-place : goal.invariant-loop-place
invariant-loop-place g l = record {
  only : OnlyReads (g.B.Rack.seen l.initial.bay) (g.B.Rack.seen l.bay);
  long : length l.bytes ≡ 512 * l.place;
  read : (image : Contents) → IsImage (g.B.Rack.seen l.initial.bay) l.fn.disk image → l.bytes ≡ joined image l.fn.first l.place;
}

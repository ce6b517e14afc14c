use Rattle.std.proofs.Common.{◌≡◌, ℕ, ◌<◌, ◌∙◌, ap, sym, subst, ◌++◌, ◌+◌, length, arith, length-append}
use Rattle.gpt_table.specs.Disk.{joined}
use Rattle.image_text.proofs.Looking.{only_then, image_later, sector_read}
use Rattle.image_text.proofs.Sectors.{joined_more}
use Rattle.image_text.proofs.bytes.read_sectors.Goals as goal

pub loop-place-preserved : goal.loop-place-preserved
loop-place-preserved g c =
    let inv = c.loop-place.invariant in
    let y = g.B.Rack.seen c.loop-place.bay in
    let sector : length c.read.new.into ≡ 512 = c.read.array_long in
    record {
      only = only_then inv.only c.in_default-read.ensures.reads;
      long = rw c.in_default-append.ensures.ok (let l = length-append c.loop-place.bytes c.read.new.into in let k = inv.long in omega arith);
      read = λ image is.
          let later = image_later c.args.disk image inv.only c.requires.disk (g.met.B.Bay.unspent c.loop-place.bay) is in
          let inside : c.args.first + c.loop-place.place < y.sectors c.args.disk = subst (λ (n : ℕ). c.args.first + c.loop-place.place < n) (sym (inv.only.stays.sectors c.args.disk)) (omega arith) in
          c.in_default-append.ensures.ok
          ∙ ap (λ t. t ++ c.read.new.into) (inv.read image is)
          ∙ ap (λ t. joined image c.args.first c.loop-place.place ++ t) (sector_read image c.in_default-read.ensures.reads inside later)
          ∙ sym (joined_more image c.args.first c.loop-place.place);
    }

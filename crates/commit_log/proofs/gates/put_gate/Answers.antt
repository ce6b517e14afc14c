use Rattle.std.proofs.Common.{◌≡◌, List, ℕ, ap, ◌∙◌}
use Rattle.shr_base.specs.Blocks.{put_all}
use Rattle.shr_base.specs.Crc.{crc32_of}
use Rattle.array_image.specs.Record.{gate_of}
use Rattle.log_laws.proofs.Records.{sum_field}
use Rattle.log_laws.proofs.GateRead.{gate_fields, gate_reads}
use Rattle.commit_log.proofs.gates.put_gate.Goals as goal

pub returns : goal.returns
returns c =
    let old : List ℕ = c.args.block.now in
    let block : c.put_u64.new.block ≡ put_all (gate_fields c.args.flag c.args.number) old = (cc) in
    let last : c.put_u32-3.new.block ≡ put_all (sum_field c.crc32-sum.result) (put_all (gate_fields c.args.flag c.args.number) old) = (cc) in
    ap gate_of last
    ∙ gate_reads old c.args.flag c.args.number c.crc32-sum.result c.requires c.put_u64.ensures.fits c.put_u32-2.ensures.fits c.put_u32-3.ensures.fits
    (c.crc32-sum.ensures ∙ ap crc32_of block)

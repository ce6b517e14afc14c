use Rattle.std.proofs.Common.{◌≡◌, ◌<◌, ◌+◌, ◌*◌, ℕ, List, length, Ok, ap, subst, ◌∙◌, inl, arith}
use Rattle.rack.specs.Calls.{Reads}
use Rattle.rack.proofs.Reading.{only_reads_then}
use Rattle.shr_base.specs.Blocks.{put_at}
use Rattle.log_laws.specs.Bytes.{sector_in}
use Rattle.log_laws.proofs.Loads.{read_more, unspent_more, sector_other, length_put}
use Rattle.commit_log.proofs.loading.read_sectors.Goals as goal

pub loop-at-preserved : goal.loop-at-preserved
loop-at-preserved g c =
    let a = g.R.Rack.seen c.args.rack.now in
    let b = g.R.Rack.seen c.loop-at.rack in
    let d = g.R.Rack.seen c.read.new.self in
    let at : ℕ = c.loop-at.at in
    let block : List ℕ = c.read.new.into in
    let below : at < 4092 = omega (arith, c.loop-at-test.true, c.requires.until) in
    let reads : Reads b d c.args.disk (c.args.first + at) block {X = Unit {0}} (Ok tt) =
    subst (λ (n : ℕ). Reads b d c.args.disk (c.args.first + n) block {X = Unit {0}} (Ok tt)) c.from.ensures c.in_default.ensures.reads in
    let new : c.put_bytes.new.block ≡ put_at (512 * at) 512 block c.loop-at.bytes = c.put_bytes.ensures.written in
    record {
      reads = only_reads_then c.loop-at.invariant.reads reads;
      long = ap (λ (xs : List ℕ). length xs) new ∙ length_put c.loop-at.bytes block at c.loop-at.invariant.long c.put_bytes.ensures.fits below;
      read = λ told k low high.
          ap (λ (xs : List ℕ). sector_in xs k) new
          ∙ read_more c.args.disk c.args.first c.args.from at c.loop-at.bytes block c.loop-at.invariant.long c.put_bytes.ensures.fits below
          c.requires.half c.requires.disk c.loop-at.invariant.reads reads c.loop-at.invariant.read told k low high;
      unspent = unspent_more c.args.disk c.args.first c.args.from at block c.loop-at.invariant.reads reads c.loop-at.invariant.unspent;
      kept = λ k early.
          ap (λ (xs : List ℕ). sector_in xs k) new
          ∙ sector_other c.loop-at.bytes block at k c.loop-at.invariant.long c.put_bytes.ensures.fits below (inl (omega (arith, early, c.loop-at.auto.at)))
          ∙ c.loop-at.invariant.kept k early;
      runs = g.met.R.Rack.runs_then _ _ _ c.loop-at.invariant.runs c.in_default.ensures.runs;
    }

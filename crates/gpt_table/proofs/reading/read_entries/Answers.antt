use Rattle.std.proofs.Common.{◌≡◌, ◌*◌, ◌+◌, ◌++◌, ℕ, take, arith, refl, ap, ◌∙◌, sym, subst, false, below_more, ◌-◌}
use Rattle.std.proofs.lemmas.List.{length-replicate}
use Rattle.shr_base.specs.Blocks.{put_at}
use Rattle.gpt_table.specs.Disk.{joined, now_on}
use Rattle.rack.proofs.Reading.{only_reads_start, only_reads_then, value_then, unspent_before}
use Rattle.gpt_table.proofs.Joined.{joined_more, take_put, entries_read}
use Rattle.gpt_table.proofs.reading.read_entries.Goals as goal

pub loop-place-init : goal.loop-place-init
loop-place-init g c = record { only = only_reads_start (g.R.Rack.seen c.args.rack.now) c.requires.fit; long = length-replicate {A = ℕ} 16384 0; unspent = λ k below. absurd (omega arith); read = λ told. refl; runs = g.met.R.Rack.runs_same c.args.rack.now }

pub loop-place-preserved : goal.loop-place-preserved
loop-place-preserved g c = record {
  only = only_reads_then c.loop-place.invariant.only c.in_default.ensures.reads;
  long = omega (arith, c.put_bytes.auto.block);
  unspent = below_more (λ k. (g.R.Rack.seen c.args.rack.now).spent c.args.disk (c.args.first + k) ≡ false) c.loop-place.place
      c.loop-place.invariant.unspent (unspent_before c.in_default.field-0 c.loop-place.invariant.only c.in_default.ensures.reads);
  read = λ told.
      let disk = now_on (g.R.Rack.seen c.args.rack.now) c.args.disk in
      let put : take (512 * (c.loop-place.place + 1)) c.put_bytes.new.block ≡ take (512 * c.loop-place.place) c.loop-place.bytes ++ c.read.new.into =
      ap (take (512 * (c.loop-place.place + 1)))
      (c.put_bytes.ensures.written
      ∙ ap (λ (n : ℕ). put_at (512 * c.loop-place.place) n c.read.new.into c.loop-place.bytes) (sym c.put_bytes.ensures.fits))
      ∙ take_put (512 * c.loop-place.place) (512 * (c.loop-place.place + 1)) c.read.new.into c.loop-place.bytes (omega arith) (omega arith) in
      let value : c.read.new.into ≡ disk (c.args.first + c.loop-place.place) =
      value_then c.in_default.field-0 c.loop-place.invariant.only c.in_default.ensures.reads c.requires.disk (omega arith) told in
      put ∙ ap (λ done. done ++ c.read.new.into) (c.loop-place.invariant.read told)
      ∙ ap (λ s. joined disk c.args.first c.loop-place.place ++ s) value ∙ sym (joined_more disk c.args.first c.loop-place.place);
  runs = g.met.R.Rack.runs_then _ _ _ c.loop-place.invariant.runs c.in_default.ensures.runs;
}

pub returns-clause-looks : goal.returns-clause-looks
returns-clause-looks g c = record {
  only = c.loop-place.invariant.only;
  served = λ sector among.
      let is : c.args.first + (sector - c.args.first) ≡ sector = omega (arith, among.0) in
      subst (λ s. (g.R.Rack.seen c.args.rack.now).spent c.args.disk s ≡ false) is
      (c.loop-place.invariant.unspent (sector - c.args.first) (omega (arith, among.0, among.1)));
  value = λ told. entries_read (now_on (g.R.Rack.seen c.args.rack.now) c.args.disk) c.args.first c.loop-place.bytes c.loop-place.place
      (omega arith) c.loop-place.invariant.long (c.loop-place.invariant.read told);
  gone = tt;
}

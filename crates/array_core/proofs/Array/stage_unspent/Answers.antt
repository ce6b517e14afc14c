use Rattle.std.proofs.Common.{◌∙◌, refl, sym, inl}
use Rattle.rack.proofs.Reading.{only_reads_start}
use Rattle.array_model.proofs.Views.{notes_none}
use Rattle.array_core.proofs.Array.stage_unspent.Goals as goal

pub returns-then-is_spent-clause-staged : goal.returns-then-is_spent-clause-staged
returns-then-is_spent-clause-staged g c =
    let a = g.R.Rack.seen c.args.rack.now in
    record {
      reads = only_reads_start a c.requires.slices.fit;
      notes = notes_none c.args.self.now a a;
      either = inl (refl, sym c.is_spent.ensures ∙ c.if-is_spent.true, c.requires.empty);
    }

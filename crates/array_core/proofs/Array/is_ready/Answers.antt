use Rattle.std.proofs.Common.{◌∙◌, refl, sym, inl, inr}
use Rattle.rack.proofs.Reading.{only_reads_start}
use Rattle.array_core.specs.Settling.{was_marked, not_whole}
use Rattle.array_core.proofs.Marking.{readied}
use Rattle.array_core.proofs.Array.is_ready.Goals.{then-not-is_whole-via-then-not-is_whole, then-not-is_whole-via-else-not-is_whole+then-has_lost}
use Rattle.array_core.proofs.Array.is_ready.Goals as goal

pub returns-then-not-is_whole-clause-ready : goal.returns-then-not-is_whole-clause-ready
returns-then-not-is_whole-clause-ready g c =
    not_whole refl (only_reads_start (g.R.Rack.seen c.args.rack.now) c.requires.slices.fit)
    (elim c.then-not-is_whole.branch [
      | then-not-is_whole-via-then-not-is_whole w ↦ inl (sym c.is_whole.ensures ∙ w.if-not-is_whole.true)
      | then-not-is_whole-via-else-not-is_whole+then-has_lost w ↦ inr (w.has_lost.ensures.some w.if-has_lost.true)
    ])

pub returns-then-is_marked-clause-ready : goal.returns-then-is_marked-clause-ready
returns-then-is_marked-clause-ready g c =
    was_marked (sym c.is_whole.ensures ∙ c.if-not-is_whole.false) (c.has_lost.ensures.none c.if-has_lost.false) (sym c.is_marked.ensures ∙ c.if-is_marked.true) refl
    (only_reads_start (g.R.Rack.seen c.args.rack.now) c.requires.slices.fit)

pub returns-clause-ready : goal.returns-clause-ready
returns-clause-ready g c =
    readied c.args.self.now c.mark.new.self (g.R.Rack.seen c.args.rack.now) (g.R.Rack.seen c.mark.new.rack) c.is_marked-2.result
    (sym c.is_whole.ensures ∙ c.if-not-is_whole.false) (c.has_lost.ensures.none c.if-has_lost.false) (sym c.is_marked.ensures ∙ c.if-is_marked.false) c.is_marked-2.ensures c.mark.ensures.marks

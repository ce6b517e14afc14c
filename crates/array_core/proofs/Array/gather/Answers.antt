use Rattle.std.proofs.Common.{sym, ◌∙◌, subst, refl, arith}
use Rattle.rack.proofs.Reading.{only_reads_start, only_reads_join}
use Rattle.array_image.specs.Held.{current_in}
use Rattle.array_model.specs.View.{View}
use Rattle.array_model.specs.Members.{Notes}
use Rattle.array_model.proofs.Views.{notes_none}
use Rattle.array_core.proofs.Gathering.{zeros_gathered, gather_next}
use Rattle.array_core.proofs.Array.gather.Goals as goal

pub loop-position-init : goal.loop-position-init
loop-position-init g c = (
  refl,
  only_reads_start (g.R.Rack.seen c.args.rack.now) c.requires.slices.fit,
  g.met.R.Rack.runs_same c.args.rack.now,
  λ opened. c.zero_sector-sum.ensures ∙ zeros_gathered (current_in (g.R.Rack.seen c.args.rack.now).held) c.args.self.now.number c.args.sector,
)

pub returns-then-not-add-clause-reads : goal.returns-then-not-add-clause-reads
returns-then-not-add-clause-reads g c = only_reads_join c.loop-position.invariant.1 c.add.ensures.reads

pub loop-position-preserved : goal.loop-position-preserved
loop-position-preserved g c =
    let served = c.add.ensures.served c.if-not-add.false in
    let same = c.loop-position.invariant.0 in
    let low = c.loop-position-test.true in
    let most = c.requires.members in (
      served.0 ∙ same,
      only_reads_join c.loop-position.invariant.1 c.add.ensures.reads,
      g.met.R.Rack.runs_then _ _ _ c.loop-position.invariant.2 c.add.ensures.runs,
      gather_next c.args.self.now c.loop-position.self (g.R.Rack.seen c.args.rack.now) (g.R.Rack.seen c.loop-position.rack) c.args.sector c.loop-position.position
          c.loop-position.sum c.add.new.sum c.requires.slices.lasting (omega (arith, low, most)) same c.loop-position.invariant.1 c.loop-position.invariant.3 served.1,
    )

pub returns-clause-notes : goal.returns-clause-notes
returns-clause-notes g c =
    subst (λ (w : View). Notes c.args.self.now w (g.R.Rack.seen c.args.rack.now) (g.R.Rack.seen c.loop-position.rack)) (sym c.loop-position.invariant.0)
    (notes_none c.args.self.now _ _)

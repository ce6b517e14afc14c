use Rattle.std.proofs.Common.{sym, subst}
use Rattle.array_model.specs.View.{View}
use Rattle.array_model.specs.ArrayCalls.{IncludesSpent, SyncsArray}
use Rattle.array_core.proofs.Settled.{settles_array}
use Rattle.array_core.proofs.Array.settle.Goals as goal

pub returns-clause-settles : goal.returns-clause-settles
returns-clause-settles g c = λ s durable vals spent covers.
    let a = g.R.Rack.seen c.args.rack.now in
    let b = g.R.Rack.seen c.sync.new.rack in
    subst (λ (w : View). SyncsArray s c.args.self.now w spent a b durable vals) (sym c.settle_truth.ensures)
    (settles_array a b c.args.self.now c.sync.new.self c.sync.ensures.syncs s durable vals spent (subst (λ (w : View). IncludesSpent w spent) c.settle_truth.ensures covers))

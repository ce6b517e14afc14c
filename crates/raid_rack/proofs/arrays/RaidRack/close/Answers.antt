use Rattle.std.proofs.Common.{refl, sym, ◌∙◌}
use Rattle.slice_rack.specs.SliceRack.{tables, below_of}
use Rattle.raid_laws.specs.Laws.{stops_inside}
use Rattle.raid_rack.specs.RaidRack.{raid_in, slices_seen, written_in}
use Rattle.raid_laws.specs.Runs.{raid_runs_same}
use Rattle.raid_rack.proofs.Serving.{brings_keep, runs_call}
use Rattle.raid_rack.proofs.arrays.RaidRack.close.Goals as goal

pub returns-clause-keeps : goal.returns-clause-keeps
returns-clause-keeps g c =
    let closes = c.end_plan.ensures.closes (sym c.has_plan.ensures ∙ c.if-not-has_plan.false) in
    brings_keep c.args.self.now.arrays c.end_plan.new.self _ _ c.requires.fit
    (record { running = c.end_plan.ensures.running; heeded = closes.heeded })
    (stops_inside (tables c.end_plan.new.rack) (g.R.Rack.seen (below_of c.end_plan.new.rack))) closes.brings

pub returns-clause-book : goal.returns-clause-book
returns-clause-book g c =
    let closes = c.end_plan.ensures.closes (sym c.has_plan.ensures ∙ c.if-not-has_plan.false) in
    runs_call (written_in c.args.self.now) (written_in c.args.self.now) c.args.self.now.arrays c.end_plan.new.self _ _ (λ n vals. vals)
    (λ n not. (not, λ was. refl)) c.requires.fit (record { running = c.end_plan.ensures.running; heeded = closes.heeded })
    (stops_inside (tables c.end_plan.new.rack) (g.R.Rack.seen (below_of c.end_plan.new.rack))) closes.brings closes.caused c.end_plan.ensures.truths

pub returns-then-not-has_plan-clause-book : goal.returns-then-not-has_plan-clause-book
returns-then-not-has_plan-clause-book g c = raid_runs_same (written_in c.args.self.now) (raid_in c.args.self.now) (slices_seen g.R.Rack.seen c.args.self.now)

use Rattle.std.proofs.Common.{sym, ◌∙◌}
use Rattle.std.proofs.lemmas.Bool.{both_ways}
use Rattle.pool.specs.Replacing.{has_other_missing}
use Rattle.pool.specs.View.{book, view}
use Rattle.pool.proofs.Pool.fill_alone.Goals as goal

pub fill-requires-clause-missing : goal.fill-requires-clause-missing
fill-requires-clause-missing g c = (c.requires.alone (sym c.lacks_other.ensures ∙ c.if-lacks_other.false)).0

pub fill-requires-clause-admitted : goal.fill-requires-clause-admitted
fill-requires-clause-admitted g c = (c.requires.alone (sym c.lacks_other.ensures ∙ c.if-lacks_other.false)).1

pub returns-then-lacks_other-clause-takes : goal.returns-then-lacks_other-clause-takes
returns-then-lacks_other-clause-takes g c none =
    absurd (both_ways (has_other_missing (book (view g.R.Rack.seen g.R.Bay.shelf c.args.self.now)).state c.args.place) none (sym c.lacks_other.ensures ∙ c.if-lacks_other.true))

pub returns-clause-kept : goal.returns-clause-kept
returns-clause-kept g c lacks =
    absurd (both_ways (has_other_missing (book (view g.R.Rack.seen g.R.Bay.shelf c.args.self.now)).state c.args.place) (sym c.lacks_other.ensures ∙ c.if-lacks_other.false) lacks)

pub returns-then-lacks_other-clause-runs : goal.returns-then-lacks_other-clause-runs
returns-then-lacks_other-clause-runs g c = g.met.R.Rack.runs_same _

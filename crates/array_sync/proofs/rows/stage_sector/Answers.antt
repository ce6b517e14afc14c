use Rattle.std.proofs.Common.{subst, ◌≡◌, ℕ}
use Rattle.sync_laws.specs.Rows.{AddsCopies, OfSector, SourcesCount}
use Rattle.sync_laws.proofs.Copying.{sector_copies}
use Rattle.sync_laws.proofs.Summing.{members_then, sector_then}
use Rattle.array_sync.proofs.rows.stage_sector.Goals as goal

pub stage_made-requires-clause-sector : goal.stage_made-requires-clause-sector
stage_made-requires-clause-sector g c = sector_then c.args.array.now c.sum_sources.new.array c.args.sector c.sum_sources.ensures.notes.same c.requires.sector

pub stage_made-requires-clause-members : goal.stage_made-requires-clause-members
stage_made-requires-clause-members g c =
    members_then c.args.array.now c.sum_sources.new.array c.args.sector c.row_members-members.result c.sum_sources.ensures.notes.same c.row_members-members.ensures

pub returns-clause-added : goal.returns-clause-added
returns-clause-added g c = λ is.
    let v = c.args.array.now in
    let u = c.sum_sources.new.array in
    sector_copies v u (g.R.Rack.seen c.args.rack.now) (g.R.Rack.seen c.sum_sources.new.rack) c.args.sector c.sum_sources.new.into c.args.log.now.added c.stage_made.new.log.added
    c.sum_sources.ensures.notes (c.sum_sources.ensures.sum c.if-not-sum_sources.false)
    (subst (λ (n : ℕ). AddsCopies u (OfSector u c.args.sector n) (λ t w. w ≡ c.sum_sources.new.into) 1 c.args.log.now.added c.stage_made.new.log.added)
    (members_then v u c.args.sector c.row_members-members.result c.sum_sources.ensures.notes.same c.row_members-members.ensures)
    c.stage_made.ensures.added)

pub returns-clause-counts : goal.returns-clause-counts
returns-clause-counts g c = λ is.
    subst (λ (n : ℕ). SourcesCount c.args.array.now c.args.sector n) c.row_members-members.ensures (c.sum_sources.ensures.counts c.if-not-sum_sources.false)

use Rattle.std.proofs.Common.{sym, ap, subst, ◌∙◌}
use Rattle.rack.specs.Seen.{SameRack}
use Rattle.rack.specs.Sequences.{OnlyReads}
use Rattle.slice_rack.specs.SliceRack.{tables, below_of}
use Rattle.pool_scan.proofs.Seated.{scan_later}
use Rattle.pool_image.specs.Disks.{disks_of}
use Rattle.pool_scan.specs.Scanning.{as_read}
use Rattle.pool_scan.proofs.Chosen.{scan_says}
use Rattle.pool_scan.proofs.Meant.{other_meant}
use Rattle.pool_scan.proofs.Valid.{copy_valid}
use Rattle.pool_rest.specs.Standing.{IsLaid}
use Rattle.pool_rest.proofs.Laid.{laid_all, laid_logs, laid_none}
use Rattle.pool_rest.proofs.Meant.{stand_meant}
use Rattle.pool_rest.proofs.Stood.{only_reads_all, looked_so}
use Rattle.pool_rest.proofs.standing.look.Goals as goal

pub pending-looked-requires-clause-logs : goal.pending-looked-requires-clause-logs
pending-looked-requires-clause-logs g c = laid_logs _ _ _ _ _ c.seat_drives-on.ensures.laid

pub returns-clause-only : goal.returns-clause-only
returns-clause-only g c =
    let same = c.seat_drives-on.ensures.below ∙ c.new-slices.ensures.below in
    let reads = subst (λ r. OnlyReads (g.R.Rack.seen c.args.rack) (g.R.Rack.seen r)) (sym same) c.read.ensures.only in
    only_reads_all _ _ _ _ _ _ c.seat_drives-on.ensures.fit.0 c.seat_drives-on.ensures.fit.1 (laid_none _ _ _ _ _ c.seat_drives-on.ensures.laid) reads
    c.pending-looked.ensures.runs c.pending-looked.ensures.looks.reads

pub returns-clause-newest : goal.returns-clause-newest
returns-clause-newest g c =
    let same = c.seat_drives-on.ensures.below ∙ c.new-slices.ensures.below in
    let later = (c.pending-looked.ensures.runs.apart c.seat_drives-on.ensures.fit.0 c.seat_drives-on.ensures.fit.1).stays in
    record {
      scan = scan_later _ _ _ _ c.read.ensures.scanned (subst (λ r. SameRack (g.R.Rack.seen r) (g.R.Rack.seen (below_of c.pending-looked.new.rack))) same later);
      newest = λ told. sym (c.in-Some.ensures.newest _ _ (c.read.ensures.identities told));
    }

pub returns-clause-valid : goal.returns-clause-valid
returns-clause-valid g c = copy_valid _ _ _ _ c.read.ensures.scanned c.in-Some.ensures.copied

pub returns-clause-laid : goal.returns-clause-laid
returns-clause-laid g c =
    let stays = c.read.ensures.only.stays in
    subst (λ t. IsLaid (g.R.Rack.seen c.args.rack) c.read.new.self.disks.items c.in-Some.state t c.seat_drives-on.result.items)
    (sym c.pending-looked.ensures.runs.tables)
    (laid_all _ _ _ _ _ _ (λ d. ap (λ r. (g.R.Rack.seen r).sectors d) c.new-slices.ensures.below ∙ stays.sectors d) c.seat_drives-on.ensures.laid)

pub returns-clause-looked : goal.returns-clause-looked
returns-clause-looked g c =
    let same = c.seat_drives-on.ensures.below ∙ c.new-slices.ensures.below in
    let reads = subst (λ r. OnlyReads (g.R.Rack.seen c.args.rack) (g.R.Rack.seen r)) (sym same) c.read.ensures.only in
    looked_so _ _ _ _ _ _ _ _ _ _ _ _ c.seat_drives-on.new.slices.orderly c.seat_drives-on.ensures.fit.1 (laid_logs _ _ _ _ _ c.seat_drives-on.ensures.laid) reads
    c.pending-looked.ensures.runs c.requires.empty c.pending-looked.ensures.looks

pub returns-clause-runs : goal.returns-clause-runs
returns-clause-runs g c =
    let same = c.seat_drives-on.ensures.below ∙ c.new-slices.ensures.below in
    g.met.R.Rack.runs_then _ _ _ c.read.ensures.runs
    (subst (λ r. g.R.Rack.runs r (below_of c.pending-looked.new.rack)) same c.pending-looked.ensures.runs.below)

pub returns-clause-meant : goal.returns-clause-meant
returns-clause-meant g c = λ told free.
    stand_meant (g.R.Rack.seen c.args.rack) (g.R.Rack.seen (below_of c.pending-looked.new.rack)) c.read.new.self.disks.items c.in-Some.state
    (tables c.pending-looked.new.rack) c.seat_drives-on.result.items c.pending-looked.result.gone.items c.pending-looked.new.self c.pending-looked.result.pending
    c.pending-looked.result.damaged (returns-clause-newest g c) (returns-clause-laid g c) (returns-clause-looked g c) told free

pub returns-clause-one : goal.returns-clause-one
returns-clause-one g c = λ disks identities are. sym (c.has_other_pool.ensures disks identities are) ∙ c.if-has_other_pool.false

pub returns-clause-single : goal.returns-clause-single
returns-clause-single g c = λ told free.
    let newest = returns-clause-newest g c in
    sym (other_meant (g.R.Rack.seen c.args.rack) (g.R.Rack.seen (below_of c.pending-looked.new.rack)) c.in-Some.state.pool.0 c.read.new.self.disks.items newest.scan told free)
    ∙ returns-clause-one g c (disks_of (g.R.Rack.seen c.args.rack)) (as_read (g.R.Rack.seen c.args.rack) c.read.new.self.disks.items)
    (scan_says (g.R.Rack.seen c.args.rack) (g.R.Rack.seen (below_of c.pending-looked.new.rack)) c.read.new.self.disks.items newest.scan told)

pub returns-in_default-clause-refused : goal.returns-in_default-clause-refused
returns-in_default-clause-refused g c =
    (c.read.new.self.disks.items, c.read.ensures.scanned, λ told. sym (c.in_default.ensures.newest _ _ (c.read.ensures.identities told)))

pub returns-then-has_other_pool-clause-refused : goal.returns-then-has_other_pool-clause-refused
returns-then-has_other_pool-clause-refused g c = (
  c.read.new.self.disks.items,
  c.read.ensures.scanned,
  λ told. (
    c.in-Some.state,
    sym (c.in-Some.ensures.newest _ _ (c.read.ensures.identities told)),
    sym (c.has_other_pool.ensures _ _ (c.read.ensures.identities told)) ∙ c.if-has_other_pool.true,
  ),
)

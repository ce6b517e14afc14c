use Rattle.std.proofs.Common.{sym, subst}
use Rattle.raid_rack.specs.RaidRack.{IsFit, arrays_in, slices_seen}
use Rattle.pool.proofs.Pool.holds_number.Goals as goal

pub sectors-sectors-requires-clause-fit : goal.sectors-sectors-requires-clause-fit
sectors-sectors-requires-clause-fit g c = subst (λ r. IsFit (arrays_in r) (slices_seen g.R.Rack.seen r)) (sym c.below.ensures) c.requires.fit.0

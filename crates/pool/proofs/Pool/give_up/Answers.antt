use Rattle.std.proofs.Common.{sym, subst}
use Rattle.raid_rack.specs.RaidRack.{IsFit, arrays_in, slices_seen}
use Rattle.pool.proofs.Pool.give_up.Goals as goal

pub vacate-requires-clause-fit : goal.vacate-requires-clause-fit
vacate-requires-clause-fit g c = subst (λ r. IsFit (arrays_in r) (slices_seen g.R.Rack.seen r)) (sym c.inner.ensures.value) c.requires.fit.0

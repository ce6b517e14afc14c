use Rattle.std.proofs.Common.{sym, subst}
use Rattle.raid_rack.specs.RaidRack.{IsFit, arrays_in, slices_seen}
use Rattle.pool.proofs.Cleaning.{IsCleaned, clean_done}
use Rattle.pool.proofs.Pool.clean.Goals as goal

pub clean-requires : goal.clean-requires
clean-requires g c = record { fit = subst (λ r. IsFit (arrays_in r) (slices_seen g.R.Rack.seen r)) (sym c.inner.ensures.value) c.requires.0 }

pub returns-clause-cleaned : goal.returns-clause-cleaned
returns-clause-cleaned g c =
    let own = c.clean.ensures in
    (clean_done g.R.Rack.seen g.R.Bay.shelf g.R.Rack.runs g.met.R.Rack.sound g.met.R.Bay.runs_shelf c.args.self.now c.clean.new.self c.requires
    (subst (λ old. IsCleaned g.R.Rack.seen g.R.Rack.runs old c.clean.new.self) c.inner.ensures.value
    (record { cleans = own.cleans; images = own.images; keeps = own.keeps; raises = own.raises; ran = own.runs; truths = own.book.truths; moments = own.book.moments; unlost = own.unlost }))).0

pub returns-clause-carries : goal.returns-clause-carries
returns-clause-carries g c =
    let own = c.clean.ensures in
    (clean_done g.R.Rack.seen g.R.Bay.shelf g.R.Rack.runs g.met.R.Rack.sound g.met.R.Bay.runs_shelf c.args.self.now c.clean.new.self c.requires
    (subst (λ old. IsCleaned g.R.Rack.seen g.R.Rack.runs old c.clean.new.self) c.inner.ensures.value
    (record { cleans = own.cleans; images = own.images; keeps = own.keeps; raises = own.raises; ran = own.runs; truths = own.book.truths; moments = own.book.moments; unlost = own.unlost }))).1

use Rattle.std.proofs.Common.{sym, subst}
use Rattle.lvm_group.proofs.Below.{inside_still}
use Rattle.raid_rack.specs.RaidRack.{IsFit, arrays_in, slices_seen}
use Rattle.assembler.specs.Volume.{Agrees}
use Rattle.assembler.proofs.opening.keep_volume.Goals as goal

pub agree-requires : goal.agree-requires
agree-requires g c = record { fit = subst (λ r. IsFit (arrays_in r) (slices_seen g.R.Rack.seen r)) (sym c.inner.ensures.value) c.requires.fit.0 }

pub is_used_up-requires : goal.is_used_up-requires
is_used_up-requires g c = record {
  fit = subst (λ r. IsFit (arrays_in r) (slices_seen g.R.Rack.seen r)) (sym c.below.ensures) c.agree.ensures.agrees.values.stays.fit;
}

pub returns-clause-fit : goal.returns-clause-fit
returns-clause-fit g c =
    let agrees = subst (λ r. Agrees g.R.Rack.seen g.R.Rack.runs r c.agree.new.raid) c.inner.ensures.value c.agree.ensures.agrees in
    (agrees.values.stays.fit, inside_still agrees.values.stays c.requires.fit.1)

use Rattle.slice_rack.proofs.Tables.{empty_orderly, empty_inside}
use Rattle.slice_rack.proofs.SliceRack.new.Goals as goal

pub invariant_of-result : goal.invariant_of-result
invariant_of-result g c = record { orderly = empty_orderly _ (record { seats = c.no_seats.ensures; slices = c.no_slices.ensures }) }

pub returns-clause-fit : goal.returns-clause-fit
returns-clause-fit g c =
    (c.requires.fit, empty_inside _ _ (record { seats = c.no_seats.ensures; slices = c.no_slices.ensures }) c.requires.small)

-- The tables of a rack of slices, and the rack below it.
use Rattle.slice_rack.specs.declared.SliceRack.{SliceRack}
use Rattle.slice_rack.specs.Slices.{Slices}

-- which disk each place has, and which of its sectors each slice is
abbrev pub tables : {R : Type 0} → SliceRack R → Slices
tables rack = record { seats = rack.seats; slices = rack.slices }

-- the rack whose disks are sliced
abbrev pub below_of : {R : Type 0} → SliceRack R → R
below_of rack = rack.rack

-- The runs of a volume, its group's seqno and its pool, the rack below it, and how often opening it calls that.
use Rattle.std.specs.Prelude.{ℕ, ◌*◌, List}
use Rattle.lvm_group.specs.declared.volume.Volume.{Volume}
use Rattle.lvm_group.specs.Runs.{Linear}

abbrev pub linear : {R : Type 0} → Volume R → Linear
linear volume = record { extent = volume.extent; arrays = volume.arrays; runs = volume.runs.items }

abbrev pub seqno_of : {R : Type 0} → Volume R → ℕ
seqno_of volume = volume.seqno

-- the bytes of the pool's id
abbrev pub pool_of : {R : Type 0} → Volume R → List ℕ
pool_of volume = volume.pool.0

-- the rack of the arrays
abbrev pub below_of : {R : Type 0} → Volume R → R
below_of volume = volume.rack

-- An opening calls the rack of the arrays at most so often for each joined array: 4 times for its label, once for its header and 516 times for its
-- text; and where it is brought up, once for where the text is to begin, 515 times for label, headers and text, and twice to sync it.
abbrev pub most_opened : ℕ → ℕ
most_opened joined = 1039 * joined

-- An extension calls it at most so often for each array of the new text: once for where the text is to begin, 515 times for label, headers and text, and twice to
-- sync it.
abbrev pub most_extended : ℕ → ℕ
most_extended arrays = 518 * arrays

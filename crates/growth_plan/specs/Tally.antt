-- What a tally says of a list of works.
use Rattle.std.specs.Prelude.{◌≡◌, ◌-◌, ◌^◌, List, ◌++◌, length, min, slice_get}
use Rattle.pool_state.specs.declared.contents.Work.{Work}
use Rattle.growth_plan.specs.declared.tally.Tally.{Tally}

-- its first work, and how many there are up to the greatest number of a `u64`
pub record IsTally (t : Tally) (works : List Work) : Type 0 where
  pub first : t.first ≡ slice_get works 0
  pub count : t.count ≡ min (length works) (2 ^ 64 - 1)

-- these works come behind those that were there
pub record Appends (old new : Tally) (more : List Work) : Type 0 where
  pub all : (works : List Work) → IsTally old works → IsTally new (works ++ more)

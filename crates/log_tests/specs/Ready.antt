-- What a commit needs of the targets that were added.
use Rattle.std.specs.Prelude.{◌≡◌, ℕ, true, List}
use Rattle.std.specs.List.{list_all}
use Rattle.rack.specs.Seen.{RackView}
use Rattle.rack.specs.Sequences.{IsPayload}
use Rattle.rack.specs.Targets.{Target}
use Rattle.array_image.specs.Record.{are_apart, is_target}
use Rattle.log_laws.specs.Phases.{IsHad}

-- each is one that a record may have, no sector has two, and the rack has their sectors
pub record CanCommit (xs : List Target) (a : RackView) : Type 0 where
  pub valid : list_all is_target xs ≡ true
  pub apart : are_apart xs ≡ true
  pub had : (d s : ℕ) (v : List ℕ) → IsPayload xs d s v → IsHad a d s

-- A book whose parts agree with one another.
use Rattle.std.specs.Prelude.{ℕ, ◌≤◌, ◌||◌, ◌⊎◌, nat_lt, nat_le, if◌then◌else◌, List, ◌++◌, map, count_by, option_to_list, All, Contains, IsPermutation}
use Rattle.layer_plan.specs.Layering.{places_reaching}
use Rattle.pool_state.specs.declared.contents.State.{State}
use Rattle.growth_plan.specs.declared.Progress.{Progress}
use Rattle.growth_plan.specs.Book.{units_of, height_of, Standing, standing}
use Rattle.growth_plan.specs.Target.{joining}

-- the members of an array with the plan's drive, where it has still to join
abbrev pub ends_with : State → Standing → List ℕ
ends_with s x = x.now.members.items ++ option_to_list (joining s x)

pub record IsSoundBook (s : State) (p : Progress) : Type 0 where
  -- these are the drives that reach the array's top
  pub members : All (λ x. IsPermutation (places_reaching (units_of s) x.top) (ends_with s x)) (standing p.arrays.items)
  -- each drive ends at the top of an array, or no array is above it
  pub tops : All (λ own. Contains (map (λ x. x.top) (standing p.arrays.items)) own ⊎ (height_of p.arrays.items ≤ own)) (units_of s)
  -- at most two drives go on above all arrays, and at most one where no new layer can be made
  pub above : count_by (λ own. nat_lt (height_of p.arrays.items) own) (units_of s) ≤ (if nat_lt s.joined s.made || nat_le 16 s.made then 1 else 2)

-- What a check of drives answers.
use Rattle.std.specs.Prelude.{◌≡◌, ℕ, Bool, true, false, find, List, Option, Some, None, option_map}
use Rattle.std.specs.Option.{option_or}
use Rattle.array_core.specs.declared.ArrayFault.{ArrayFault}
use Rattle.array_core.specs.declared.ArrayFault.TheVariants.{Foreign, TooFew, DirtyDegraded}
use Rattle.pool_image.specs.Drives.{Found}
use Rattle.pool_image.specs.Meaning.{Refusal, too_few, dirty_degraded}
use Rattle.pool_check.specs.declared.Layer.{Layer}
use Rattle.pool_check.specs.declared.Checked.{Checked}
use Rattle.pool_check.specs.Refusing.{refused_with}
use Rattle.pool_check.specs.Layers.{AreOpened}

-- an array has too few members, or no truth
abbrev pub is_few : Option ArrayFault → Bool
is_few None = false
is_few (Some Foreign) = true
is_few (Some TooFew) = true
is_few (Some DirtyDegraded) = false

-- a member of it is wanting while rows are left to resync
abbrev pub is_dirty : Option ArrayFault → Bool
is_dirty None = false
is_dirty (Some Foreign) = false
is_dirty (Some TooFew) = false
is_dirty (Some DirtyDegraded) = true

-- the number of the first array whose fault passes
abbrev pub first_number : (Option ArrayFault → Bool) → List Layer → Option ℕ
first_number passes layers = option_map (λ layer. layer.number) (find (λ layer. passes layer.fault) layers)

-- the refusal of arrays, by what was read of them
abbrev pub refused_by_layers : List Layer → Option Refusal
refused_by_layers layers =
    option_or (option_map too_few (first_number is_few layers)) (option_map dirty_degraded (first_number is_dirty layers))

-- Nothing is refused but the volume maybe, the arrays are open, and their slices lie at these extents.
pub record IsChecked (well : ℕ → Bool) (f : Found) (checked : Checked) : Type 0 where
  pub sound : refused_with well None f ≡ None
  pub opened : AreOpened f f.state.made checked.arrays.items checked.extents.items checked.stale.items

use Rattle.std.proofs.Common.{◌≡◌, map, take}
use Rattle.pool_state.specs.declared.contents.Drive.{Drive}
use Rattle.growth_plan.proofs.layers.units_of.Given as goal

abbrev pub invariant-loop-drive : goal.invariant-loop-drive
invariant-loop-drive l = l.units.items ≡ map (λ (drive : Drive). drive.units) (take l.drive-index l.drive-items)

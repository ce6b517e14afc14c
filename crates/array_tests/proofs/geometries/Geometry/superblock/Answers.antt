use Rattle.std.proofs.Common.{◌≡◌, true, refl, sym, subst}
use Rattle.array_core.specs.Model.{is_truth}
use Rattle.array_tests.proofs.geometries.Geometry.superblock.Goals as goal

pub returns-in-Mirror-clause-truth : goal.returns-in-Mirror-clause-truth
returns-in-Mirror-clause-truth c = subst (λ t. is_truth t ≡ true) (sym c.superblock.ensures) refl

pub returns-in-Three-clause-truth : goal.returns-in-Three-clause-truth
returns-in-Three-clause-truth c = subst (λ t. is_truth t ≡ true) (sym c.superblock-in-Three.ensures) refl

pub returns-in-Five-clause-truth : goal.returns-in-Five-clause-truth
returns-in-Five-clause-truth c = subst (λ t. is_truth t ≡ true) (sym c.superblock-in-Five.ensures) refl

pub returns-in-Sixteen-clause-truth : goal.returns-in-Sixteen-clause-truth
returns-in-Sixteen-clause-truth c = subst (λ t. is_truth t ≡ true) (sym c.superblock-in-Sixteen.ensures) refl

use Rattle.std.proofs.Common.{◌≡◌, ◌<◌, length}
use Rattle.std.specs.List.{IsFirstMaxByKey}
use Rattle.layer_plan.proofs.layering.largest_drive.Given as goal

abbrev pub invariant-loop-place : goal.invariant-loop-place
invariant-loop-place l = record {
  inside : l.largest < length l.units;
  best : (0 < l.place → IsFirstMaxByKey (λ own. own) l.units l.place l.largest) × (l.place ≡ 0 → l.largest ≡ 0);
}

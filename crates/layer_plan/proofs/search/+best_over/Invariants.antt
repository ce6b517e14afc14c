use Rattle.std.proofs.Common.{ℕ, ◌*◌, ◌<◌, ◌≤◌, ◌∷◌, List, length}
use Rattle.layer_plan.specs.Search.{Fits, offered}
use Rattle.layer_plan.proofs.Heights.{IsReached}
use Rattle.layer_plan.proofs.search.+best_over.Given as goal

abbrev pub decreases-best_over : goal.decreases-best_over
decreases-best_over l = length l.sets.now

abbrev pub invariant-loop-height : goal.invariant-loop-height
invariant-loop-height l = record {
  reached : IsReached (l.set ∷ l.others) l.units l.best;
  tried : (h : ℕ) (hs : List ℕ) → h < l.height → Fits (l.set ∷ l.others) l.units (h ∷ hs) → offered (l.set ∷ l.others) (h ∷ hs) ≤ l.best;
  bound : l.best ≤ length (l.set ∷ l.others) * 18;
}

use Rattle.std.proofs.Common.{◌∷◌, [], Ok}
use Rattle.rack.specs.Targets.{target}
use Rattle.rack.specs.Several.{Several}
use Rattle.lvm_group.specs.Writing.{Puts, piece, place_at, targets_to}
use Rattle.lvm_group.proofs.writing.put_text.Given as goal

abbrev pub invariant-loop-k : goal.invariant-loop-k
invariant-loop-k g l = record {
  puts : Puts (g.R.Rack.seen l.fn.rack) (g.R.Rack.seen l.rack) (targets_to (λ k. target l.array (place_at l.first k) (piece l.text k) ∷ []) l.k) {X = Unit {0}} (Ok tt);
  several : Several g.R.Rack.once l.k l.fn.rack l.rack;
  runs : g.R.Rack.runs l.fn.rack l.rack;
}

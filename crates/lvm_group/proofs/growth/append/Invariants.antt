use Rattle.std.proofs.Common.{◌≡◌, ◌+◌, ◌*◌, ◌<◌, ◌≤◌, ◌^◌, ◌++◌, length}
use Rattle.std.specs.Prelude.{vec_capacity}
use Rattle.std.specs.List.{AllByRecursion}
use Rattle.lvm_group.specs.declared.growth.Piece.{Piece}
use Rattle.lvm_group.specs.Growth.{started}
use Rattle.lvm_group.proofs.growth.append.Given as goal

abbrev pub invariant-loop-piece : goal.invariant-loop-piece
invariant-loop-piece l = record {
  items : l.into.items ++ started l.at l.rest ≡ l.fn.into.items ++ started l.start l.pieces;
  room : length l.into.items + length l.rest ≤ vec_capacity l.into;
  same : vec_capacity l.fn.into ≤ vec_capacity l.into;
  bounded : l.at + 2 ^ 45 * length l.rest < 2 ^ 63;
  small : AllByRecursion (λ (piece : Piece). piece.first + piece.count < 2 ^ 45) l.rest;
}

abbrev pub decreases-loop-piece : goal.decreases-loop-piece
decreases-loop-piece l = length l.rest

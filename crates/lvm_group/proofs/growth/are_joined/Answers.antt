use Rattle.std.proofs.Common.{◌≡◌, List, [], ◌∷◌, ◌++◌, refl, sym, ◌∙◌}
use Rattle.lvm_group.specs.declared.runs.Run.{Run}
use Rattle.lvm_group.specs.declared.growth.Piece.{Piece}
use Rattle.lvm_group.specs.Growth.{adjoins, are_joined}
use Rattle.lvm_group.proofs.Grown.{joined_last, none_joined, not_joined}
use Rattle.lvm_group.proofs.growth.are_joined.Goals as goal

both_there : (runs rest : List Run) (run : Run) (more others : List Piece) (piece : Piece) → runs ≡ rest ++ run ∷ [] → more ≡ piece ∷ others → adjoins run piece ≡ are_joined runs more
unfolding are_joined
both_there runs rest run more others piece is starts = rw (is, joined_last rest run more, starts) refl

pub returns-in_default : goal.returns-in_default
returns-in_default c = sym (none_joined c.args.runs.now c.args.pieces.now c.in_default.ensures.cases)

pub returns-in_default-split_first : goal.returns-in_default-split_first
returns-in_default-split_first c =
    sym (not_joined c.args.runs.now c.in-Some.field-0-1.now c.in-Some.run'.now c.args.pieces.now c.in-Some.ensures.cases.0 c.in_default-split_first.ensures.cases)

pub returns : goal.returns
returns c =
    c.adjoins.ensures
    ∙ both_there c.args.runs.now c.in-Some.field-0-1.now c.in-Some.run'.now c.args.pieces.now c.in-Some-split_first.field-0-1.now c.in-Some-split_first.piece.now
    c.in-Some.ensures.cases.0 c.in-Some-split_first.ensures.cases.0

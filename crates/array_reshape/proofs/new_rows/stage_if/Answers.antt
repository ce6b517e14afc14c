use Rattle.std.proofs.Common.{refl, sym, ap, ◌∙◌, ◌+◌, ◌++◌, ◌∷◌, [], ℕ}
use Rattle.std.proofs.lemmas.Bool.{both_ways}
use Rattle.rack.specs.Targets.{target}
use Rattle.array_image.specs.Places.{data_sector}
use Rattle.log_laws.specs.View.{LogView}
use Rattle.reshape_laws.specs.Rows.{is_absent}
use Rattle.reshape_laws.proofs.Pieces.{no_pieces, one_piece}
use Rattle.array_reshape.proofs.new_rows.stage_if.Goals as goal

pub returns-then-is_absent-clause-added : goal.returns-then-is_absent-clause-added
returns-then-is_absent-clause-added c =
    no_pieces c.args.array.now _ _ 1 c.args.log.now.added
    (λ t j is. both_ways (is_absent c.args.absent j) is.2 (ap (is_absent c.args.absent) is.1 ∙ sym c.is_absent.ensures ∙ c.if-is_absent.true))

pub returns-clause-added : goal.returns-clause-added
returns-clause-added c =
    one_piece c.args.array.now _ _ c.args.sector c.args.position c.args.from.now c.args.log.now.added c.add.new.self.added
    c.requires.position c.told-from (refl, refl, sym c.is_absent.ensures ∙ c.if-is_absent.false) (λ t j is. (is.0, is.1)) refl
    (ap (λ (l : LogView). l.added) c.add.ensures ∙ ap (λ (d : ℕ). c.args.log.now.added ++ target d (data_sector + c.args.sector) c.args.from.now ∷ []) c.slice_at.ensures)

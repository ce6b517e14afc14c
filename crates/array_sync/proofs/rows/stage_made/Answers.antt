use Rattle.std.proofs.Common.{ap, ◌∙◌, ◌+◌, ◌++◌, ◌∷◌, [], ℕ, arith}
use Rattle.rack.specs.Targets.{target}
use Rattle.array_image.specs.Places.{data_sector}
use Rattle.log_laws.specs.View.{LogView}
use Rattle.array_model.proofs.Layouts.{row_layout_is}
use Rattle.sync_laws.proofs.Copying.{copy_made}
use Rattle.array_sync.proofs.rows.stage_made.Goals as goal

pub slice_at-requires : goal.slice_at-requires
slice_at-requires c =
    let most = (row_layout_is c.args.array.now c.args.sector c.rules.ensures).most in
    let low = c.made_at.ensures.low in
    let members = c.requires.members in
    omega (arith, most, low, members)

pub returns-clause-added : goal.returns-clause-added
returns-clause-added c =
    copy_made c.args.array.now c.args.sector c.args.members c.made_at.result c.args.from.now c.args.log.now.added c.add.new.self.added
    c.rules.ensures c.requires.members c.made_at.ensures.low c.made_at.ensures.made c.made_at.ensures.only c.told-from
    (ap (λ (l : LogView). l.added) c.add.ensures ∙ ap (λ (d : ℕ). c.args.log.now.added ++ target d (data_sector + c.args.sector) c.args.from.now ∷ []) c.slice_at.ensures)

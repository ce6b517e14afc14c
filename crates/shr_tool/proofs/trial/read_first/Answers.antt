-- The sector is read, or it is spent.
use Rattle.std.proofs.Common.{◌∙◌, Err, ap, refl, slice_index_or}
use Rattle.shr_script.specs.Reply.{data_line}
use Rattle.flat_array.specs.Reply.{spent_line}
use Rattle.shr_tool.proofs.Performing.{read_done, read_spent}
use Rattle.shr_tool.proofs.trial.read_first.Goals as goal

pub returns-in-Ok-clause-takes : goal.returns-in-Ok-clause-takes
returns-in-Ok-clause-takes g c =
    let into = c.read.new.into in (
      (data_line into, read_done _ _ c.args.sector into (data_line into) _ c.in-Ok.is refl c.read.ensures.read),
      λ a holds. ap (λ v. slice_index_or v 0 0) (c.in-Ok.ensures.read.value a holds),
    )

pub returns-in-Err-Spent-clause-takes : goal.returns-in-Err-Spent-clause-takes
returns-in-Err-Spent-clause-takes g c =
    let said = spent_line c.args.sector in
    (said, read_spent _ _ c.args.sector c.read.new.into said _ (c.in-Err-Spent.is ∙ ap Err c.in-Err-Spent.field-0-is) refl c.read.ensures.read)

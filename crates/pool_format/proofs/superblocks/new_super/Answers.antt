use Rattle.std.proofs.Common.{List, ℕ, ap₂, ◌∙◌}
use Rattle.new_array.specs.Supers.{new_super as new_super_of}
use Rattle.pool_format.specs.Parts.{all_rows}
use Rattle.pool_format.proofs.superblocks.new_super.Goals as goal

pub returns : goal.returns
returns c =
    let birth = c.args.birth.now in
    let a = c.args.array.now in
    c.new_super.ensures
    ∙ ap₂ (λ (drive members : List ℕ). new_super_of (record { 0 = birth.pool }) (record { 0 = drive }) members c.args.number c.args.place a.size all_rows birth.seconds)
    c.new_drive_id.ensures c.as_slice.ensures.value

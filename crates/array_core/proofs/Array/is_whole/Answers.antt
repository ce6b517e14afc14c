use Rattle.std.proofs.Common.{◌∙◌, ap}
use Rattle.std.specs.List.{list_all}
use Rattle.array_model.specs.View.{is_whole_seat}
use Rattle.array_core.proofs.Marking.{whole_is}
use Rattle.array_core.proofs.Array.is_whole.Goals as goal

pub returns : goal.returns
returns c =
    c.are_all.ensures
    ∙ whole_is c.self.inside c.args.self.now c.are_whole.result c.is_resynced.result c.is_reshaping.result c.self.view_is
    (c.are_whole.ensures ∙ ap (λ slots. list_all (λ s. is_whole_seat s.seat) slots) c.as_slice.ensures.value) c.is_resynced.ensures c.is_reshaping.ensures

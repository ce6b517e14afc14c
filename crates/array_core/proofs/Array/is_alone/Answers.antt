use Rattle.std.proofs.Common.{◌∙◌, ap, sym, count_by, not}
use Rattle.array_model.specs.View.{is_missing_seat}
use Rattle.array_core.proofs.Marking.{alone_is}
use Rattle.array_core.proofs.Array.is_alone.Goals as goal

pub returns : goal.returns
returns c =
    alone_is c.self.inside c.args.self.now c.present.result c.self.view_is (sym c.is_mirror.ensures ∙ c.if-not-is_mirror.false)
    (c.present.ensures ∙ ap (count_by (λ s. not (is_missing_seat s.seat))) c.as_slice.ensures.value)

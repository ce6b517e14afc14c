use Rattle.std.proofs.Common.{◌∙◌, ap, ◌∷◌, [], arith}
use Rattle.std.specs.Result.{result_ok}
use Rattle.lvm_label.specs.Label.{label_in}
use Rattle.lvm_group.proofs.Calls.{several_join}
use Rattle.lvm_group.proofs.Looking.{looks_then, now_later}
use Rattle.lvm_group.proofs.LabelRead.{label_read}
use Rattle.lvm_group.proofs.reading.read_label.Goals as goal

pub returns-clause-looks : goal.returns-clause-looks
returns-clause-looks g c =
    looks_then c.read_at-first.ensures.looks (looks_then c.read_at-second.ensures.looks (looks_then c.read_at-third.ensures.looks c.read_at-fourth.ensures.looks))

pub returns-clause-value : goal.returns-clause-value
returns-clause-value g c now is =
    let array = c.args.array in
    let first = c.read_at-first.ensures.looks in
    let to_third = looks_then first c.read_at-second.ensures.looks in
    let to_fourth = looks_then to_third c.read_at-third.ensures.looks in
    let read = label_read array now c.read_at-first.result c.read_at-second.result c.read_at-third.result c.read_at-fourth.result c.requires.fit
    first c.read_at-second.ensures.looks c.read_at-third.ensures.looks c.read_at-fourth.ensures.looks
    (c.read_at-first.ensures.value now is)
    (c.read_at-second.ensures.value now (now_later array now c.requires.array first is))
    (c.read_at-third.ensures.value now (now_later array now c.requires.array to_third is))
    (c.read_at-fourth.ensures.value now (now_later array now c.requires.array to_fourth is)) in (
      read.0,
      read.1,
      c.ok.ensures.value ∙ ap result_ok (c.decode_label.ensures
          ∙ (λ i. label_in 0 (c.or_zeros.ensures i ∷ c.or_zeros-2.ensures i ∷ c.or_zeros-3.ensures i ∷ c.or_zeros-4.ensures i ∷ []))) ∙ read.2,
    )

pub returns-clause-several : goal.returns-clause-several
returns-clause-several g c =
    several_join g.R.Rack.once 2 2 4 _ _ _ (omega arith) (several_join g.R.Rack.once 1 1 2 _ _ _ (omega arith) c.read_at-first.ensures.several c.read_at-second.ensures.several)
    (several_join g.R.Rack.once 1 1 2 _ _ _ (omega arith) c.read_at-third.ensures.several c.read_at-fourth.ensures.several)

use Rattle.std.proofs.Common.{◌∙◌, sym, ap, arith}
use Rattle.lvm_group.specs.Parts.{area_of}
use Rattle.lvm_group.proofs.Calls.{several_join}
use Rattle.lvm_group.proofs.Looking.{now_later}
use Rattle.lvm_group.proofs.PartRead.{unlabelled, labelled}
use Rattle.lvm_group.proofs.parts.read_part.Goals as goal

pub returns-in_default-clause-part : goal.returns-in_default-clause-part
returns-in_default-clause-part g c now is =
    let label = c.read_label.ensures.value now is in
    let looks = c.read_label.ensures.looks in
    let header = c.read_header-header.ensures.value now (now_later c.args.array now c.requires.array looks is) in
    unlabelled c.args.array now label.0 header.0 c.read_header-header.result c.requires.fit looks c.read_header-header.ensures.looks label.1
    (sym c.in_default.is ∙ label.2) header.1 header.2

pub returns-clause-part : goal.returns-clause-part
returns-clause-part g c now is =
    let label = c.read_label.ensures.value now is in
    let looks = c.read_label.ensures.looks in
    let found = c.in_ok-found.ensures.found now (now_later c.args.array now c.requires.array looks is) in
    labelled c.args.array now label.0 c.in-Some.label c.area_of-area.result _ _ c.requires.fit looks c.in_ok-found.ensures.looks label.1
    (sym c.in-Some.is ∙ label.2) (c.area_of-area.ensures ∙ ap (λ n. area_of n c.in-Some.label) c.sectors-sectors.ensures.number) found

pub returns-in_default-clause-several : goal.returns-in_default-clause-several
returns-in_default-clause-several g c =
    several_join g.R.Rack.once 4 1 521 _ _ _ (omega arith) c.read_label.ensures.several c.read_header-header.ensures.several

pub returns-in_err-found-clause-several : goal.returns-in_err-found-clause-several
returns-in_err-found-clause-several g c =
    several_join g.R.Rack.once 4 517 521 _ _ _ (omega arith) c.read_label.ensures.several c.in_err-found.ensures.several

pub returns-clause-several : goal.returns-clause-several
returns-clause-several g c =
    several_join g.R.Rack.once 4 517 521 _ _ _ (omega arith) c.read_label.ensures.several c.in_ok-found.ensures.several

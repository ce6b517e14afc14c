use Rattle.std.proofs.Common.{sym, subst, ◌∙◌}
use Rattle.lvm_text.specs.Printed.{IsName}
use Rattle.lvm_group.proofs.IdText.{name_is}
use Rattle.lvm_group.proofs.printing.print_run.Goals as goal

pub print_segment-requires-clause-printable : goal.print_segment-requires-clause-printable
print_segment-requires-clause-printable c = subst IsName (sym (c.as_slice.ensures.value ∙ c.pv_name-name.ensures)) (name_is c.args.run.now.array c.requires.few)

pub returns-clause-printable : goal.returns-clause-printable
returns-clause-printable c = name_is c.args.run.now.array c.requires.few

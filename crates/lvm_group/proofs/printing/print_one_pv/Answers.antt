use Rattle.std.proofs.Common.{ap, sym, subst, ◌∙◌}
use Rattle.lvm_text.specs.Printed.{IsId, IsName}
use Rattle.lvm_group.specs.Ids.{text_id}
use Rattle.lvm_group.proofs.IdText.{name_is}
use Rattle.lvm_group.proofs.printing.print_one_pv.Goals as goal

pub print_pv-requires-clause-printable : goal.print_pv-requires-clause-printable
print_pv-requires-clause-printable c = (
  subst IsName (sym (c.as_slice.ensures.value ∙ c.pv_name-name.ensures)) (name_is c.args.array c.requires.few),
  subst IsId (sym c.as_slice-2.ensures.value) c.text_id-id.ensures.is_id,
)

pub returns-clause-printable : goal.returns-clause-printable
returns-clause-printable c = record {
  name = name_is c.args.array c.requires.few;
  id = subst IsId (c.text_id-id.ensures.text ∙ ap text_id c.child_id.ensures) c.text_id-id.ensures.is_id;
}

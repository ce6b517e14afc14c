use Rattle.std.proofs.Common.{ap, ◌∙◌}
use Rattle.lvm_group.specs.Ids.{parted}
use Rattle.lvm_group.proofs.IdText.{each_byte, id_is}
use Rattle.lvm_group.proofs.naming.spelled.Goals as goal

pub returns-clause-is_id : goal.returns-clause-is_id
returns-clause-is_id c =
    id_is c.args.bytes.now c.parted.result.items (each_byte c.args.bytes.now c.fits-bytes) c.parted.ensures.long (c.parted.ensures.text ∙ ap parted c.requires)

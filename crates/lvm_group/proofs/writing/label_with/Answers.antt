use Rattle.std.proofs.Common.{refl, arith}
use Rattle.lvm_group.proofs.IdText.{each_byte}
use Rattle.lvm_group.proofs.writing.label_with.Goals as goal

pub returns-clause-is_label : goal.returns-clause-is_label
returns-clause-is_label c = record {
  id_length = c.told-pv_id;
  id_bytes = each_byte c.args.pv_id.now c.fits-pv_id;
  device_size = let small = c.requires in omega arith;
  few_areas = omega arith;
  areas = (record { offset = omega arith; size = omega arith; real = refl }, tt);
  few_metadata = omega arith;
  metadata = (record { offset = omega arith; size = omega arith; real = refl }, tt);
}

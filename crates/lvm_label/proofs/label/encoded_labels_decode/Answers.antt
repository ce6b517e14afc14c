use Rattle.lvm_label.proofs.LabelLaw.{labels_decode}
use Rattle.lvm_label.proofs.label.encoded_labels_decode.Goals as goal

pub returns : goal.returns
returns c = labels_decode

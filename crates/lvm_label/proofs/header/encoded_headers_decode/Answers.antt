use Rattle.lvm_label.proofs.HeaderLaw.{headers_decode}
use Rattle.lvm_label.proofs.header.encoded_headers_decode.Goals as goal

pub returns : goal.returns
returns c = headers_decode

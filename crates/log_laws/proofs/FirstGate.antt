-- The gate of a new log.
use Rattle.std.proofs.Common.{◌≡◌, Some, false, refl}
use Rattle.shr_base.specs.Blocks.{bytes_at, number_at, put_at}
use Rattle.shr_base.specs.Crc.{times_x, times_x_to}
use Rattle.array_image.specs.Record.{gate_of}
use Rattle.log_laws.specs.Bytes.{first_gate}

-- it is closed, with number 0
pub closed_gate : gate_of first_gate ≡ Some (record { is_open = false; number = 0 })
unfolding gate_of bytes_at put_at number_at times_x_to times_x
closed_gate = refl

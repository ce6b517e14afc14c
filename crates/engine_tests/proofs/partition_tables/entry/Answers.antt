use Rattle.std.proofs.Common.{ℕ, ◌&&◌, nat_le, nat_lt, refl, ap, arith}
use Rattle.gpt_table.proofs.Chosen.{changed_writable}
use Rattle.engine_tests.proofs.partition_tables.entry.Goals as goal

pub returns : goal.returns
returns c = λ table writable size.
    changed_writable _ table writable (omega arith) (omega arith) refl (ap (λ (n : ℕ). nat_le 40 40 && nat_lt 40 n) size)

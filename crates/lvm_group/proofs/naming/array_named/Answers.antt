use Rattle.std.proofs.Common.{◌≡◌, ◌∙◌, sym, true, false, arith, rules}
use Rattle.std.specs.Prelude.{bytes_eq}
use Rattle.lvm_group.specs.Ids.{pv_name}
use Rattle.lvm_group.proofs.Named.{found_here, found_later}
use Rattle.lvm_group.proofs.naming.array_named.Goals as goal

pub returns-then-eq : goal.returns-then-eq
returns-then-eq c =
    let here : bytes_eq (pv_name c.loop-array.array) c.args.name.now ≡ true = search rules in
    sym (found_here (λ array. bytes_eq (pv_name array) c.args.name.now) c.loop-array.array 16 (omega arith) here) ∙ c.loop-array.invariant

pub loop-array-preserved : goal.loop-array-preserved
loop-array-preserved c =
    let here : bytes_eq (pv_name c.loop-array.array) c.args.name.now ≡ false = search rules in
    sym (found_later (λ array. bytes_eq (pv_name array) c.args.name.now) c.loop-array.array 16 (omega arith) here) ∙ c.loop-array.invariant

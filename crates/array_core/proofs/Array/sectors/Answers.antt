use Rattle.std.proofs.Common.{◌*◌, ◌<◌, ◌^◌, ℕ, ap, subst, sym, ◌∙◌, arith}
use Rattle.array_model.specs.View.{sectors_of}
use Rattle.array_core.proofs.Seating.{data_sized, data_fits}
use Rattle.array_core.proofs.Array.sectors.Goals as goal

pub overflow_mul-result : goal.overflow_mul-result
overflow_mul-result c =
    let t = c.self.inside.truth in
    let fits : c.data_disks.result * t.size < 2 ^ 64 = subst (λ (n : ℕ). n * t.size < 2 ^ 64) (sym c.data_disks.ensures) (data_fits t c.self.invariant.truth) in
    omega (arith, fits)

pub returns : goal.returns
returns c =
    let t = c.self.inside.truth in
    ap (λ (n : ℕ). n * t.size) c.data_disks.ensures ∙ data_sized t ∙ ap sectors_of c.self.view_is

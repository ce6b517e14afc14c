use Rattle.std.proofs.Common.{◌<◌, ◌≤◌, sym, arith}
use Rattle.pool_state.specs.Sector.{flags_at}
use Rattle.pool_state.proofs.Places.{has_flags-more, has_flags-false}
use Rattle.pool_state.proofs.reading.has_its_flags.Goals as goal

pub returns-then-u32_at-gt1 : goal.returns-then-u32_at-gt1
returns-then-u32_at-gt1 c =
    let other : 1 < flags_at c.loop-place.place c.args.bytes.now = omega (arith, c.u32_at.ensures) in
    sym (has_flags-false c.args.count c.loop-place.place c.args.bytes.now (omega arith) other)

pub loop-place-preserved : goal.loop-place-preserved
loop-place-preserved c =
    let fits : flags_at c.loop-place.place c.args.bytes.now ≤ 1 = omega (arith, c.u32_at.ensures) in
    has_flags-more c.loop-place.place c.args.bytes.now c.loop-place.invariant fits

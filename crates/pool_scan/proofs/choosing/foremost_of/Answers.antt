use Rattle.std.proofs.Common.{◌≡◌, ℕ, ◌-◌, List, length, map, refl, ap, ap₂, sym, ◌∙◌, Option, arith}
use Rattle.std.specs.List.{range_with_len}
use Rattle.std.specs.Option.{option_map_or}
use Rattle.array_image.specs.Foremost.{ahead, foremost}
use Rattle.pool_scan.specs.Choosing.{epoch_at, standing}
use Rattle.pool_scan.proofs.Ranges.{range_down, foremost_first}
use Rattle.pool_scan.proofs.choosing.foremost_of.Goals as goal

pub loop-after-init : goal.loop-after-init
unfolding foremost
loop-after-init c = record { best = refl }

pub loop-after-preserved : goal.loop-after-preserved
loop-after-preserved c =
    let known = c.args.known.now in
    let at = standing c.args.state.now known c.args.place in
    let n = length known in
    let k = c.loop-after.after in
    let first = foremost_first (epoch_at known) (at (n - 1 - k)) (map at (range_with_len (n - k) k)) in
    let range = ap (λ (ns : List ℕ). foremost (epoch_at known) (map at ns)) (range_down n k (omega arith)) in
    let here = c.standing.ensures in
    record {
      best =
          c.ahead-best.ensures
          ∙ ap₂ (λ (t u : Option ℕ). option_map_or (λ x. ahead (epoch_at known) x u) t u) here c.loop-after.invariant.best
          ∙ sym first ∙ sym range;
    }

pub returns : goal.returns
returns c =
    let known = c.args.known.now in
    let all : c.loop-after.after ≡ length known = omega arith in
    let start : length known - c.loop-after.after ≡ 0 = omega (arith, all) in
    c.loop-after.invariant.best
    ∙ ap₂ (λ a k. foremost (epoch_at known) (map (standing c.args.state.now known c.args.place) (range_with_len a k))) start all

use Rattle.std.proofs.Common.{◌≡◌, ℕ, ◌-◌, List, length, map, refl, ap, ap₂, sym, ◌∙◌, Option, arith}
use Rattle.std.specs.List.{range_with_len}
use Rattle.std.specs.Option.{option_map_or}
use Rattle.pool_state.specs.declared.contents.Copied.{Copied}
use Rattle.array_image.specs.Foremost.{ahead, foremost}
use Rattle.array_image.specs.States.{epoch_of}
use Rattle.pool_scan.specs.Scanning.{copied_at}
use Rattle.pool_scan.proofs.Ranges.{range_down, foremost_first}
use Rattle.pool_scan.proofs.choosing.newest_copy.Goals as goal

pub loop-after-init : goal.loop-after-init
unfolding foremost
loop-after-init c = record { newest = refl }

pub loop-after-preserved : goal.loop-after-preserved
loop-after-preserved c =
    let known = c.args.known.now in
    let n = length known in
    let k = c.loop-after.after in
    let first = foremost_first epoch_of (copied_at known (n - 1 - k)) (map (copied_at known) (range_with_len (n - k) k)) in
    let range = ap (λ (ns : List ℕ). foremost epoch_of (map (copied_at known) ns)) (range_down n k (omega arith)) in
    let at = c.copy_at.ensures in
    record {
      newest =
          c.newer-newest.ensures
          ∙ ap₂ (λ (t u : Option Copied). option_map_or (λ x. ahead epoch_of x u) t u) at c.loop-after.invariant.newest
          ∙ sym first ∙ sym range;
    }

pub returns : goal.returns
returns c =
    let known = c.args.known.now in
    let all : c.loop-after.after ≡ length known = omega arith in
    let start : length known - c.loop-after.after ≡ 0 = omega (arith, all) in
    c.loop-after.invariant.newest
    ∙ ap₂ (λ a k. foremost epoch_of (map (copied_at known) (range_with_len a k))) start all

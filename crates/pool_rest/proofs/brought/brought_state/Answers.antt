use Rattle.std.proofs.Common.{◌≡◌, ℕ, suc, ◌+◌, ◌-◌, ◌<◌, List, length, map, drop, slice_get, ap, ap₂, sym, ◌∙◌, Option, option_map, arith}
use Rattle.std.specs.Option.{option_map_or, option_and_then}
use Rattle.rack.specs.Targets.{Target}
use Rattle.pool_state.specs.declared.contents.Copied.{Copied}
use Rattle.array_image.specs.Foremost.{ahead, foremost}
use Rattle.array_image.specs.States.{epoch_of}
use Rattle.pool_image.specs.Replay.{brought}
use Rattle.pool_rest.proofs.Foremost.{foremost_down, none_left}
use Rattle.pool_rest.proofs.brought.brought_state.Goals as goal

pub loop-after-init : goal.loop-after-init
loop-after-init c =
    let xs : List Target = c.args.log.now.pending in
    none_left xs ∙ ap (λ m. foremost epoch_of (map brought (drop m xs))) (let same : length xs ≡ length xs - 0 = omega arith in same)

pub loop-after-preserved : goal.loop-after-preserved
loop-after-preserved c =
    let xs : List Target = c.args.log.now.pending in
    let n : ℕ = length xs in
    let k : ℕ = c.loop-after.after in
    let count = c.pending_count-count.ensures in
    let low : k < n = omega (arith, c.loop-after-test.true, count) in
    let here : n - (k + 1) ≡ n - 1 - k = omega arith in
    let next : suc (n - 1 - k) ≡ n - k = omega (arith, low) in
    c.newer-newest.ensures
    ∙ ap₂ (λ (t u : Option Copied). option_map_or (λ x. ahead epoch_of x u) t u)
    (c.copy_at.ensures ∙ ap (λ m. option_and_then brought (slice_get xs (m - 1 - k))) count)
    (c.loop-after.invariant ∙ ap (λ m. foremost epoch_of (map brought (drop m xs))) (sym next))
    ∙ sym (foremost_down xs (n - 1 - k) (omega (arith, low)))
    ∙ ap (λ m. foremost epoch_of (map brought (drop m xs))) (sym here)

pub returns : goal.returns
returns c =
    let xs : List Target = c.args.log.now.pending in
    let count = c.pending_count-count.ensures in
    let start : length xs - c.loop-after.after ≡ 0 = omega (arith, count, c.loop-after-test.false) in
    c.state_in.ensures ∙ ap (λ (o : Option Copied). option_map (λ copy. copy.state) o) (c.loop-after.invariant ∙ ap (λ m. foremost epoch_of (map brought (drop m xs))) start)

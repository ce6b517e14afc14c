use Rattle.std.proofs.Common.{◌≡◌, ℕ, ◌-◌, List, map, refl, ap, ap₂, sym, ◌∙◌, Option, arith}
use Rattle.std.specs.List.{range_with_len}
use Rattle.std.specs.Option.{option_map_or}
use Rattle.md_super.specs.declared.superblock.Super.{Super}
use Rattle.array_image.specs.Foremost.{ahead, foremost}
use Rattle.array_core.specs.Opening.{super_at}
use Rattle.array_core.proofs.Lists.{range_down, foremost_first}
use Rattle.array_core.proofs.opening.truth_of.Goals as goal

pub loop-after-init : goal.loop-after-init
unfolding foremost
loop-after-init c = refl

pub loop-after-preserved : goal.loop-after-preserved
loop-after-preserved c =
    let found = c.args.found.now in
    let k = c.loop-after.after in
    let first = foremost_first (λ t. t.events) (super_at found (15 - k)) (map (super_at found) (range_with_len (16 - k) k)) in
    let range = ap (λ (ns : List ℕ). foremost (λ t. t.events) (map (super_at found) ns)) (range_down k (omega arith)) in
    c.ahead-truth.ensures
    ∙ ap₂ (λ (t u : Option Super). option_map_or (λ x. ahead (λ t. t.events) x u) t u) c.super_at.ensures c.loop-after.invariant
    ∙ sym first ∙ sym range

pub returns : goal.returns
returns c =
    let found = c.args.found.now in
    let all : c.loop-after.after ≡ 16 = omega arith in
    c.loop-after.invariant
    ∙ ap (λ (k : ℕ). foremost (λ t. t.events) (map (super_at found) (range_with_len (16 - k) k))) all

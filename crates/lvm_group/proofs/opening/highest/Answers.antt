use Rattle.std.proofs.Common.{◌≡◌, suc, ◌+◌, ◌-◌, ◌∙◌, Option, ◌∷◌, sym, ap, ap₂, arith, length, drop, map}
use Rattle.std.specs.Option.{option_map_or}
use Rattle.lvm_text.specs.declared.group.Group.{Group}
use Rattle.lvm_group.specs.declared.parts.Part.{Part}
use Rattle.lvm_group.specs.Group.{ahead, highest}
use Rattle.lvm_group.specs.Opening.{group_by}
use Rattle.lvm_group.proofs.Answered.{all_dropped, dropped_from, got_at, highest_first}
use Rattle.lvm_group.proofs.opening.highest.Goals as goal

pub loop-after-init : goal.loop-after-init
unfolding highest
loop-after-init c = sym (ap group_by (all_dropped c.args.parts.now (length c.args.parts.now - 0) (omega arith)))

pub loop-after-preserved : goal.loop-after-preserved
loop-after-preserved c =
    let parts = c.args.parts.now in
    let k = c.loop-after.after in
    let place : length parts - (k + 1) ≡ length parts - 1 - k = omega arith in
    let next : suc (length parts - 1 - k) ≡ length parts - k = omega arith in
    let dropped : drop (length parts - (k + 1)) parts ≡ c.index-parts-parts.result ∷ drop (length parts - k) parts =
    ap (λ n. drop n parts) place ∙ dropped_from parts (length parts - 1 - k) c.index-parts-parts.result (got_at parts (length parts - 1 - k) c.index-parts-parts.result (omega arith) c.index-parts-parts.is)
    ∙ ap (λ n. c.index-parts-parts.result ∷ drop n parts) next in
    let first = highest_first c.index-parts-parts.result.group (map (λ (part : Part). part.group) (drop (length parts - k) parts)) in
    c.ahead-found.ensures ∙ ap₂ (λ (t u : Option Group). option_map_or (λ g. ahead g u) t u) c.as_ref.ensures.value c.loop-after.invariant ∙ sym first ∙ sym (ap group_by dropped)

-- No array offers less at the plan's end than it does now.
use Rattle.std.proofs.Common.{◌≡◌, ℕ, zero, suc, ◌+◌, ◌-◌, ◌*◌, ◌≤◌, ◌++◌, List, [], ◌∷◌, length, map, slice_get, slice_index, Some, subst, arith}
use Rattle.std.specs.Option.{option_map_or}
use Rattle.std.proofs.Math.Nat.{mul-le-mul_right}
use Rattle.pool_state.specs.declared.contents.State.{State}
use Rattle.growth_plan.specs.declared.ArrayNow.{ArrayNow}
use Rattle.growth_plan.specs.Book.{Standing, standing_from}
use Rattle.growth_plan.specs.Target.{members_at_end, extents_at_end, new_layer, targets}

kept_from : (s : State) (below level : ℕ) (arrays : List ArrayNow) (new : List ℕ) (number : ℕ) (now : ArrayNow) → slice_get arrays number ≡ Some now →
    (length now.members.items - 1) * now.height ≤ slice_index (map (extents_at_end s) (standing_from below level arrays) ++ new) number
kept_from s below level [] new number now there = cc
kept_from s below level (a ∷ above) new zero now there =
    let same : a ≡ now = cc there in
    let x : Standing = record { number = below; top = level + a.height; now = a } in
    subst (λ (b : ArrayNow). (length b.members.items - 1) * b.height ≤ extents_at_end s x) same
    (mul-le-mul_right {m = length a.members.items - 1} {n = members_at_end s x - 1} a.height (omega arith))
kept_from s below level (a ∷ above) new (suc number) now there = kept_from s (below + 1) (level + a.height) above new number now there

pub kept : (s : State) (arrays : List ArrayNow) (number : ℕ) (now : ArrayNow) → slice_get arrays number ≡ Some now →
    (length now.members.items - 1) * now.height ≤ slice_index (targets s arrays) number
kept s arrays number now there = kept_from s 0 0 arrays (option_map_or (λ layer. layer.extents ∷ []) (new_layer s arrays) []) number now there

-- What a new layer is, and how large it is.
use Rattle.std.proofs.Common.{◌≡◌, ℕ, ◌-◌, ◌*◌, ◌^◌, ◌<◌, ◌≤◌, ◌||◌, List, length, Option, Some, None, All, Contains, nat_lt, nat_le, true, false, if◌then◌else◌, slice_index, refl, sym, ap, arith, ⊎_elim}
use Rattle.std.specs.List.{range_with_len}
use Rattle.std.specs.Option.{option_and_then}
use Rattle.std.proofs.lemmas.Bool.{cases_Bool, leb-true, ltb-false, leb-false, or_parts}
use Rattle.std.proofs.lemmas.List.Elements.{All-contains}
use Rattle.std.proofs.lemmas.List.Sums.{length-filter, count_by-le-length}
use Rattle.std.proofs.lemmas.List.FromFn.{length-range_with_len}
use Rattle.std.proofs.Math.Nat.{mul-le-mul}
use Rattle.layer_plan.specs.declared.Layer.{Layer}
use Rattle.layer_plan.specs.Layering.{layer_between, is_redundant, places_reaching}
use Rattle.pool_state.specs.declared.contents.State.{State}
use Rattle.growth_plan.specs.declared.ArrayNow.{ArrayNow}
use Rattle.growth_plan.specs.Book.{units_of, height_of}
use Rattle.growth_plan.specs.Target.{least_above, layer_above, new_layer}
use Rattle.growth_plan.proofs.Cuts.{least_is}

-- a layer above a level has a cut point
pub record IsLayerAbove (units : List ℕ) (level : ℕ) (layer : Layer) : Type 0 where
  pub cut : ℕ
  pub least : least_above level units ≡ Some cut
  pub above : level < cut
  pub among : Contains units cut
  pub is : layer ≡ layer_between units (level, cut)
  pub pair : 2 ≤ length layer.members.items

at_cut : (units : List ℕ) (level : ℕ) (layer : Layer) (o : Option ℕ) → least_above level units ≡ o →
    option_and_then (λ cut. if is_redundant (layer_between units (level, cut)) then Some (layer_between units (level, cut)) else None) o ≡ Some layer →
    IsLayerAbove units level layer
at_cut units level layer None least e = cc
at_cut units level layer (Some cut) least e =
    ⊎_elim
    (λ (yes : is_redundant (layer_between units (level, cut)) ≡ true).
    let same : layer ≡ layer_between units (level, cut) = cc (rw yes at e) in
    let found = least_is level cut units least in
    record {
      cut = cut;
      least = least;
      above = found.0;
      among = found.1;
      is = same;
      pair = rw same (leb-true 2 (length (places_reaching units cut)) yes);
    })
    (λ (no : is_redundant (layer_between units (level, cut)) ≡ false). cc (rw no at e))
    (cases_Bool (is_redundant (layer_between units (level, cut))))

pub layer_is : (units : List ℕ) (level : ℕ) (layer : Layer) → layer_above units level ≡ Some layer → IsLayerAbove units level layer
layer_is units level layer e = at_cut units level layer (least_above level units) refl e

pub layer_height : (units : List ℕ) (level : ℕ) (layer : Layer) → All (λ own. own < 2 ^ 41) units → layer_above units level ≡ Some layer →
    layer.height < 2 ^ 41
layer_height units level layer small e =
    let is = layer_is units level layer e in
    let height = ap (λ (l : Layer). l.height) is.is in
    omega (arith, height, All-contains (λ own. own < 2 ^ 41) units is.cut small is.among)

-- a layer is still to be made only where all arrays are ready, and fewer than 16
pub new_layer_is : (s : State) (arrays : List ArrayNow) (layer : Layer) → new_layer s arrays ≡ Some layer →
    (s.made ≤ s.joined) × (s.made < 16) × (layer_above (units_of s) (height_of arrays) ≡ Some layer)
new_layer_is s arrays layer e =
    ⊎_elim
    (λ (yes : (nat_lt s.joined s.made || nat_le 16 s.made) ≡ true). cc (rw yes at e))
    (λ (no : (nat_lt s.joined s.made || nat_le 16 s.made) ≡ false).
    let parts = or_parts (nat_lt s.joined s.made) (nat_le 16 s.made) no in
    (ltb-false s.joined s.made parts.0, leb-false 16 s.made parts.1, rw no at e))
    (cases_Bool (nat_lt s.joined s.made || nat_le 16 s.made))

-- what a layer over so few drives offers
pub layer_extents : (units : List ℕ) (level : ℕ) (layer : Layer) → length units ≤ 16 → All (λ own. own < 2 ^ 41) units →
    layer_above units level ≡ Some layer → layer.extents < 2 ^ 57
layer_extents units level layer few small e =
    let is = layer_is units level layer e in
    let height = layer_height units level layer small e in
    let members = length (places_reaching units is.cut) in
    let most : members ≤ 16 =
    omega (
      arith,
      length-filter (λ place. nat_le is.cut (slice_index units place)) (range_with_len 0 (length units)),
      count_by-le-length (λ place. nat_le is.cut (slice_index units place)) (range_with_len 0 (length units)),
      length-range_with_len 0 (length units),
    ) in
    let step : is.cut - level ≡ layer.height = sym (ap (λ (l : Layer). l.height) is.is) in
    let product : (members - 1) * (is.cut - level) ≤ 16 * 2 ^ 41 = mul-le-mul {n₁ = members - 1} {m₁ = is.cut - level} {n₂ = 16} {m₂ = 2 ^ 41} (omega arith) (omega arith) in
    omega (arith, product, ap (λ (l : Layer). l.extents) is.is)

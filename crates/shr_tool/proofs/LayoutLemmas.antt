-- The words after `layout` that are read through a function, and units.
use Rattle.std.proofs.Common.{◌≡◌, ℕ, suc, ◌+◌, ◌-◌, ◌<◌, ◌≤◌, ◌^◌, ◌/◌, ◌*◌, ◌==◌, Bool, true, false, nat_lt, if◌then◌else◌, List, ◌∷◌, ◌++◌, length, get_or, sum_by, ap, sym, ◌∙◌, refl, arith}
use Rattle.std.specs.List.{range_with_len}
use Rattle.std.proofs.lemmas.Bool.Decides.{nat_tests}
use Rattle.std.proofs.Math.Nat.{div-mul-le_self, mul-le-mul_left}
use Rattle.layer_plan.specs.declared.Layer.{Layer}
use Rattle.layer_plan.specs.Slicing.{height_on}
use Rattle.layer_plan.specs.Layering.{array_of}
use Rattle.layer_plan.proofs.Sums.{sum_by-map}
use Rattle.shr_base.specs.Units.{units_of, reserved_sectors}
use Rattle.shr_tool.specs.LayoutText.{unused_on, unused_line, unused_lines}

-- the places from one on
pub range_from : (a n : ℕ) → a < n → range_with_len a (n - a) ≡ a ∷ range_with_len (a + 1) (n - (a + 1))
range_from a n inside =
    let more : n - a ≡ suc (n - (a + 1)) = omega arith in
    rw more refl

-- what a drive keeps outside the layers
pub unused_same : (units : List ℕ) (layers : List Layer) (place used : ℕ) →
    used ≡ sum_by (λ layer. height_on (array_of layer) place) layers →
    get_or units place 0 - used ≡ unused_on units layers place
unused_same units layers place used is =
    ap (λ u. get_or units place 0 - u) (is ∙ sym (sum_by-map (λ array. height_on array place) array_of layers))

-- the lines from a place on are its own and those of the places above
pub unused_from : (units : List ℕ) (layers : List Layer) (place used : ℕ) → place < length units →
    used ≡ sum_by (λ layer. height_on (array_of layer) place) layers →
    unused_lines units layers (range_with_len place (length units - place))
    ≡ unused_line place (get_or units place 0 - used) ++ unused_lines units layers (range_with_len (place + 1) (length units - (place + 1)))
unused_from units layers place used inside is =
    ap (unused_lines units layers) (range_from place (length units) inside)
    ∙ ap (λ u. unused_line place u ++ unused_lines units layers (range_with_len (place + 1) (length units - (place + 1)))) (sym (unused_same units layers place used is))

-- an extent has at least 2^7 sectors
small_choice : (test : Bool) (sectors extent : ℕ) → sectors < 2 ^ 48 → 128 ≤ extent → (if test then 0 else sectors / extent) < 2 ^ 41
small_choice true sectors extent small least = omega arith
small_choice false sectors extent small least =
    let above : sectors / extent * extent ≤ sectors = div-mul-le_self sectors extent in
    let much : sectors / extent * 128 ≤ sectors / extent * extent = mul-le-mul_left (sectors / extent) least in
    omega arith

pub units_small : (sectors extent : ℕ) → sectors < 2 ^ 48 → 128 ≤ extent → units_of sectors extent < 2 ^ 41
units_small sectors extent small least =
    small_choice (nat_lt sectors reserved_sectors) (sectors - reserved_sectors) extent (omega arith) least

-- a list that isn't empty
pub not_empty : (n : ℕ) (empty : Bool) → empty ≡ (n == 0) → empty ≡ false → 0 < n
not_empty n empty is some = grind (arith, nat_tests, is, some)

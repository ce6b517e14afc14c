-- Layers lie one above the other: the heights up to a layer are at most the units of its members.
use Rattle.std.proofs.Common.{◌≡◌, ℕ, zero, suc, ◌+◌, ◌-◌, ◌*◌, ◌<◌, ◌≤◌, ◌^◌, true, nat_le, if◌then◌else◌, List, [], ◌∷◌, take, length, sum_by, slice_get, slice_index, Option, Some, None, refl, sym, ap, subst, inl, inr, leb-true, arith}
use Rattle.std.specs.List.Sorted.{IsStrictlyIncreasing}
use Rattle.std.proofs.Math.Nat.{add-mul, mul-le-mul_right}
use Rattle.std.proofs.lemmas.Bool.{cases_Bool}
use Rattle.std.proofs.lemmas.List.Sums.{sum_by-cons}
use Rattle.layer_plan.specs.declared.Layer.{Layer}
use Rattle.layer_plan.specs.Layering.{IsLayering, is_redundant, layer_between, layers_between, places_reaching}
use Rattle.pool_format.specs.declared.planning.NewArray.{NewArray}
use Rattle.pool_format.specs.Plan.{arrays_from, has}
use Rattle.new_array.proofs.Lists.{filtered}
use Rattle.pool_format.proofs.Lists.{first_has, no_element}

-- a layer up to a level, above a lower one
pub record IsLayer (units : List ℕ) (lower : ℕ) (layer : Layer) (up : ℕ) : Type 0 where
  pub below : lower + layer.height ≤ up
  pub some : 0 < layer.height
  pub members : layer.members.items ≡ places_reaching units up
  pub least : 2 ≤ length layer.members.items
  pub extents : layer.extents ≡ (length layer.members.items - 1) * layer.height

abbrev pub AreStacked : List ℕ → ℕ → List Layer → Type 0
AreStacked units lower [] = Unit {0}
AreStacked units lower (layer ∷ others) = (up : ℕ) × IsLayer units lower layer up × AreStacked units up others

-- above a lower level still
stacked_lower : (units : List ℕ) (low lower : ℕ) (layers : List Layer) → low ≤ lower → AreStacked units lower layers → AreStacked units low layers
stacked_lower units low lower [] less stacked = tt
stacked_lower units low lower (layer ∷ others) less (up, is, above) =
    (up, record { below = let below = is.below in omega (arith, below, less); some = is.some; members = is.members; least = is.least; extents = is.extents }, above)

rising : (a b : ℕ) (cs : List ℕ) → IsStrictlyIncreasing (a ∷ b ∷ cs) → a < b
rising a b cs ascending = ascending zero (omega arith)

rising_later : (a b : ℕ) (cs : List ℕ) → IsStrictlyIncreasing (a ∷ b ∷ cs) → IsStrictlyIncreasing (b ∷ cs)
rising_later a b cs ascending k inside =
    let next : suc k + 1 ≡ suc (k + 1) = omega arith in
    rw next at (ascending (suc k) (omega (arith, inside)))

-- the layers between ascending levels
between_stacked : (units : List ℕ) (low : ℕ) (cs : List ℕ) → IsStrictlyIncreasing (low ∷ cs) → AreStacked units low (layers_between units (low ∷ cs))
between_stacked units low [] ascending = tt
between_stacked units low (next ∷ cs) ascending =
    let less = rising low next cs ascending in
    let others = between_stacked units next cs (rising_later low next cs ascending) in
    let rest = layers_between units (next ∷ cs) in
    let here = layer_between units (low, next) in
    elim (cases_Bool (is_redundant here)) [
      | inl redundant ↦
          subst (λ b. AreStacked units low (if b then here ∷ rest else rest)) (sym redundant) (
            next,
            record {
              below = omega (arith, less);
              some = omega (arith, less);
              members = refl;
              least = leb-true 2 (length here.members.items) redundant;
              extents = refl;
            },
            others,
          )
      | inr single ↦
          subst (λ b. AreStacked units low (if b then here ∷ rest else rest)) (sym single)
          (stacked_lower units low next rest (omega (arith, less)) others)
    ]

pub layering_stacked : (units : List ℕ) (layers : List Layer) → IsLayering units layers → AreStacked units 0 layers
layering_stacked units layers l = subst (AreStacked units 0) (sym l.between) (of l.cuts l.cut_points.ascending)
  where
    of : (cuts : List ℕ) → IsStrictlyIncreasing cuts → AreStacked units 0 (layers_between units cuts)
    of [] ascending = tt
    of (low ∷ cs) ascending = stacked_lower units 0 low (layers_between units (low ∷ cs)) (omega arith) (between_stacked units low cs ascending)

-- a member of a layer has the units of its level
pub member_units : (units : List ℕ) (level p : ℕ) → has (places_reaching units level) p ≡ true → (p < length units) × (level ≤ slice_index units p)
member_units units level p is =
    let at = filtered (λ place. nat_le level (slice_index units place)) 0 (length units) p is in
    (let high = at.1 in omega (arith, high), leb-true level (slice_index units p) at.2)

module _ (units : List ℕ) (extent : ℕ) (small : (p : ℕ) → p < length units → slice_index units p < 2 ^ 41) where
  -- the level of a layer is one of units
  level_low : (lower : ℕ) (layer : Layer) (up : ℕ) → IsLayer units lower layer up → up < 2 ^ 41
  level_low lower layer up is =
      let one = first_has (places_reaching units up) (let least = subst (λ (xs : List ℕ). 2 ≤ length xs) is.members is.least in omega (arith, least)) in
      let own = member_units units up one.0 one.1 in
      let low = small one.0 own.0 in
      let level = own.1 in
      omega (arith, low, level)

  -- all slices end before so many extents and as many times 4096 sectors
  pub slices_most : (lower : ℕ) (layers : List Layer) → lower ≤ 2 ^ 41 → AreStacked units lower layers → (n : ℕ) → n ≤ length layers
      → lower * extent + sum_by (λ layer. layer.height * extent + 4096) (take n layers) ≤ 2 ^ 41 * extent + 4096 * n
  slices_most lower [] low stacked zero inside = let most = mul-le-mul_right extent low in omega (arith, most)
  slices_most lower [] low stacked (suc n) inside = absurd (omega (arith, inside))
  slices_most lower (layer ∷ others) low stacked zero inside = let most = mul-le-mul_right extent low in omega (arith, most)
  slices_most lower (layer ∷ others) low (up, is, above) (suc n) inside =
      let level = level_low lower layer up is in
      let more = slices_most up others (omega (arith, level)) above n (omega (arith, inside)) in
      let wide = mul-le-mul_right extent is.below in
      let parts = add-mul lower layer.height extent in
      let first = sum_by-cons (λ (l : Layer). l.height * extent + 4096) layer (take n others) in
      omega (arith, more, wide, parts, first)

  -- an array of layers, by its level
  pub record IsPlaced (first lower n : ℕ) (a : NewArray) : Type 0 where
    pub up : ℕ
    pub level : up < 2 ^ 41
    pub members : a.members.items ≡ places_reaching units up
    pub least : 2 ≤ length a.members.items
    pub height : ℕ
    pub some : 0 < height
    pub low : height ≤ up
    pub size : a.size ≡ height * extent + 2048
    pub extents : a.extents ≡ (length a.members.items - 1) * height
    pub after : first ≤ a.first
    pub before : a.first + lower * extent + (height * extent + 4096) ≤ first + up * extent + 4096 * (n + 1)

  pub arrays_placed : (first lower : ℕ) (layers : List Layer) → AreStacked units lower layers → (n : ℕ) (a : NewArray)
      → slice_get (arrays_from first extent layers) n ≡ Some a → IsPlaced first lower n a
  arrays_placed first lower [] stacked n a is = absurd (no_element is)
  arrays_placed first lower (layer ∷ others) (up, is, above) zero a at = subst (IsPlaced first lower 0) (some_same at) (record {
    up = up;
    level = level_low lower layer up is;
    members = is.members;
    least = is.least;
    height = layer.height;
    some = is.some;
    low = let below = is.below in omega (arith, below);
    size = refl;
    extents = is.extents;
    after = omega arith;
    before = let wide = mul-le-mul_right extent is.below in let parts = add-mul lower layer.height extent in omega (arith, wide, parts);
  })
    where
      some_same : {x y : NewArray} → Some x ≡ Some y → x ≡ y
      some_same {x} {y} same = cc
  arrays_placed first lower (layer ∷ others) (up, is, above) (suc n) a at =
      let placed = arrays_placed (first + (layer.height * extent + 4096)) up others above n a at in
      record {
        up = placed.up;
        level = placed.level;
        members = placed.members;
        least = placed.least;
        height = placed.height;
        some = placed.some;
        low = placed.low;
        size = placed.size;
        extents = placed.extents;
        after = let after = placed.after in omega (arith, after);
        before =
            let wide = mul-le-mul_right extent is.below in
            let parts = add-mul lower layer.height extent in
            let before = placed.before in
            omega (arith, wide, parts, before);
      }

-- later slices begin behind the first ones
pub arrays_after : (first extent : ℕ) (layers : List Layer) (n : ℕ) (a : NewArray) → slice_get (arrays_from first extent layers) n ≡ Some a → first ≤ a.first
arrays_after first extent [] n a is = absurd (no_element is)
arrays_after first extent (layer ∷ others) zero a is = let same : first ≡ a.first = ap (λ o. of o) is in omega (arith, same)
  where
    of : Option NewArray → ℕ
    of (Some b) = b.first
    of None = 0
arrays_after first extent (layer ∷ others) (suc n) a is =
    let later = arrays_after (first + (layer.height * extent + 4096)) extent others n a is in omega (arith, later)

pub arrays_ordered : (first extent : ℕ) (layers : List Layer) (k n : ℕ) (a b : NewArray) → k < n
    → slice_get (arrays_from first extent layers) k ≡ Some a → slice_get (arrays_from first extent layers) n ≡ Some b → a.first + (a.size + 2048) ≤ b.first
arrays_ordered first extent [] k n a b less one two = absurd (no_element one)
arrays_ordered first extent (layer ∷ others) k zero a b less one two = absurd (omega (arith, less))
arrays_ordered first extent (layer ∷ others) zero (suc n) a b less one two =
    let later = arrays_after (first + (layer.height * extent + 4096)) extent others n b two in
    let at : first + (layer.height * extent + 2048) ≡ a.first + a.size = ap (λ o. of o) one in
    omega (arith, later, at)
  where
    of : Option NewArray → ℕ
    of (Some c) = c.first + c.size
    of None = 0
arrays_ordered first extent (layer ∷ others) (suc k) (suc n) a b less one two =
    arrays_ordered (first + (layer.height * extent + 4096)) extent others k n a b (omega (arith, less)) one two

pub arrays_count : (first extent : ℕ) (layers : List Layer) → length (arrays_from first extent layers) ≡ length layers
arrays_count first extent [] = refl
arrays_count first extent (layer ∷ others) = ap suc (arrays_count (first + (layer.height * extent + 4096)) extent others)

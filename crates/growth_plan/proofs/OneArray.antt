-- All works of a book after one of its arrays has changed.
use Rattle.std.proofs.Common.{◌≡◌, ℕ, List, [], ◌∷◌, ◌++◌, map, sum, Option, slice_get, nat_lt, nat_le, ◌||◌, if◌then◌else◌, None, refl, sym, ap, ◌∙◌}
use Rattle.std.specs.List.{flat_map}
use Rattle.std.specs.Option.{option_map_or}
use Rattle.std.proofs.lemmas.List.Concat.{flat_map_single}
use Rattle.layer_plan.specs.declared.Layer.{Layer}
use Rattle.pool_state.specs.declared.contents.State.{State}
use Rattle.pool_state.specs.declared.contents.Work.{Work}
use Rattle.pool_state.specs.declared.contents.Work.TheVariants.{Make, Extend}
use Rattle.growth_plan.specs.declared.ArrayNow.{ArrayNow}
use Rattle.growth_plan.specs.declared.Progress.{Progress}
use Rattle.growth_plan.specs.Book.{standing, units_of, height_of}
use Rattle.growth_plan.specs.Target.{extents_at_end, layer_above, targets}
use Rattle.growth_plan.specs.Works.{resyncs, rebuilds, growths, rows_of, zeros, makes, extends, closes, works_left}
use Rattle.growth_plan.proofs.Heads.{in_order, in_order-same}
use Rattle.growth_plan.proofs.Parts.{at, swapped, height-swapped, field-swapped}

abbrev pub put : Progress → List ArrayNow → Progress
put p arrays = record p { arrays = record { items = arrays } }

-- what a new layer rests on: the rows left of a young array, and the height of all arrays
abbrev pub layer_by : State → ℕ → Option Layer
layer_by s height = if nat_lt s.joined s.made || nat_le 16 s.made then None else layer_above (units_of s) height

abbrev pub makes_by : State → ℕ → ℕ → List Work
makes_by s rows height =
    if nat_lt s.joined s.made then zeros s.joined rows
    else option_map_or (λ layer. Make s.made layer.height ∷ zeros s.made (rows_of s layer.height)) (layer_by s height) []

pub makes-same : (s : State) (arrays news : List ArrayNow) →
    option_map_or (λ (a : ArrayNow). a.zero) (slice_get news s.joined) 0 ≡ option_map_or (λ (a : ArrayNow). a.zero) (slice_get arrays s.joined) 0 →
    height_of news ≡ height_of arrays → makes s news ≡ makes s arrays
makes-same s arrays news young level =
    ap (λ (z : ℕ). makes_by s z (height_of news)) young
    ∙ ap (λ (h : ℕ). makes_by s (option_map_or (λ (a : ArrayNow). a.zero) (slice_get arrays s.joined) 0) h) level

abbrev pub targets_by : State → List ℕ → ℕ → List ℕ
targets_by s ends height = ends ++ option_map_or (λ layer. layer.extents ∷ []) (layer_by s height) []

pub targets-same : (s : State) (arrays news : List ArrayNow) →
    map (extents_at_end s) (standing news) ≡ map (extents_at_end s) (standing arrays) →
    height_of news ≡ height_of arrays → targets s news ≡ targets s arrays
targets-same s arrays news ends level =
    ap (λ (es : List ℕ). targets_by s es (height_of news)) ends
    ∙ ap (λ (h : ℕ). targets_by s (map (extents_at_end s) (standing arrays)) h) level

-- what one array offers at the end stays, and so does what all offer
pub ends-swapped : (s : State) (below above : List ArrayNow) (x y : ArrayNow) → y.height ≡ x.height →
    extents_at_end s (at below y) ≡ extents_at_end s (at below x) →
    map (extents_at_end s) (standing (below ++ y ∷ above)) ≡ map (extents_at_end s) (standing (below ++ x ∷ above))
ends-swapped s below above x y level e =
    sym (flat_map_single (extents_at_end s) (standing (below ++ y ∷ above)))
    ∙ swapped (λ z. extents_at_end s z ∷ []) below above x y level (ap (λ (n : ℕ). n ∷ []) e)
    ∙ flat_map_single (extents_at_end s) (standing (below ++ x ∷ above))

-- the same but for one array
pub array_done_with : (s : State) (p : Progress) (below above : List ArrayNow) (x y : ArrayNow) (r b g m : List Work) →
    p.arrays.items ≡ below ++ x ∷ above → y.height ≡ x.height → makes s (below ++ y ∷ above) ≡ m →
    extents_at_end s (at below y) ≡ extents_at_end s (at below x) →
    flat_map resyncs (standing (below ++ y ∷ above)) ≡ r → flat_map (rebuilds s) (standing (below ++ y ∷ above)) ≡ b →
    flat_map (growths s) (standing (below ++ y ∷ above)) ≡ g →
    works_left s (put p (below ++ y ∷ above)) ≡ in_order r b g m (extends s p) (closes s)
array_done_with s p below above x y r b g m are level young ends hr hb hg =
    let news = below ++ y ∷ above in
    let height = height-swapped below above x y level ∙ sym (ap (λ (xs : List ArrayNow). height_of xs) are) in
    let offered = ends-swapped s below above x y level ends ∙ sym (ap (λ (xs : List ArrayNow). map (extents_at_end s) (standing xs)) are) in
    let target = targets-same s p.arrays.items news offered height in
    let extended : extends s (put p news) ≡ extends s p =
    ap (λ (ts : List ℕ). if nat_lt p.extents (sum ts) then Extend ∷ [] else []) target in
    in_order-same r b g m (extends s p) (closes s)
    (flat_map resyncs (standing news)) (flat_map (rebuilds s) (standing news)) (flat_map (growths s) (standing news))
    (makes s news) (extends s (put p news)) (closes s)
    hr hb hg young extended refl

-- where it keeps the rows that are left to zero
pub array_done : (s : State) (p : Progress) (below above : List ArrayNow) (x y : ArrayNow) (r b g : List Work) →
    p.arrays.items ≡ below ++ x ∷ above → y.height ≡ x.height → y.zero ≡ x.zero →
    extents_at_end s (at below y) ≡ extents_at_end s (at below x) →
    flat_map resyncs (standing (below ++ y ∷ above)) ≡ r → flat_map (rebuilds s) (standing (below ++ y ∷ above)) ≡ b →
    flat_map (growths s) (standing (below ++ y ∷ above)) ≡ g →
    works_left s (put p (below ++ y ∷ above)) ≡ in_order r b g (makes s p.arrays.items) (extends s p) (closes s)
array_done s p below above x y r b g are level young ends hr hb hg =
    let news = below ++ y ∷ above in
    let height = height-swapped below above x y level ∙ sym (ap (λ (xs : List ArrayNow). height_of xs) are) in
    let zero = field-swapped (λ (a : ArrayNow). a.zero) below above x y s.joined young
    ∙ sym (ap (λ (xs : List ArrayNow). option_map_or (λ (a : ArrayNow). a.zero) (slice_get xs s.joined) 0) are) in
    array_done_with s p below above x y r b g (makes s p.arrays.items) are level (makes-same s p.arrays.items news zero height) ends hr hb hg

-- One pass over the ordered units: what is left of them gives what is left of the layers.
use Rattle.std.proofs.Common.{◌≡◌, ℕ, ◌+◌, ◌<◌, ◌≤◌, List, [], ◌∷◌, ◌++◌, length, get_or, drop, cond, true, false, sym, ap, ◌∙◌, append_assoc, append-nil}
use Rattle.std.proofs.lemmas.Bool.{le-leb, lt-leb}
use Rattle.std.proofs.lemmas.List.{drop_more, drop_all}
use Rattle.layer_plan.specs.declared.Layer.{Layer}
use Rattle.layer_plan.specs.Layering.{layer_between, is_redundant}
use Rattle.layer_plan.proofs.Reached.{layers_above, layers_above_yes, layers_above_no}

rising_step : (units xs : List ℕ) (lower i : ℕ) → i < length xs → lower < get_or xs i 0 →
    let layer = layer_between units (lower, get_or xs i 0) in
    let above = layers_above units (get_or xs i 0) (drop (i + 1) xs) in
    layers_above units lower (drop i xs) ≡ cond (is_redundant layer) (layer ∷ above) above
rising_step units xs lower i inside rises =
    ap (layers_above units lower) (drop_more xs i 0 inside) ∙ layers_above_yes units lower (get_or xs i 0) (drop (i + 1) xs) rises

-- a layer with two members is the next one
pub layer_pushed : (units xs : List ℕ) (done now : List Layer) (layer : Layer) (lower next i : ℕ) (whole : List Layer) →
    i < length xs → lower < get_or xs i 0 → layer ≡ layer_between units (lower, get_or xs i 0) →
    2 ≤ length layer.members.items → now ≡ done ++ layer ∷ [] → next ≡ get_or xs i 0 →
    done ++ layers_above units lower (drop i xs) ≡ whole →
    now ++ layers_above units next (drop (i + 1) xs) ≡ whole
layer_pushed units xs done now layer lower next i whole inside rises is pair pushed moved left =
    let above = layers_above units (get_or xs i 0) (drop (i + 1) xs) in
    let passes : is_redundant (layer_between units (lower, get_or xs i 0)) ≡ true =
    ap is_redundant (sym is) ∙ le-leb 2 (length layer.members.items) pair in
    let step : layers_above units lower (drop i xs) ≡ layer ∷ above =
    rising_step units xs lower i inside rises
    ∙ ap (λ b. cond b (layer_between units (lower, get_or xs i 0) ∷ above) above) passes
    ∙ ap (λ (l : Layer). l ∷ above) (sym is) in
    rw (pushed, moved) (append_assoc done (layer ∷ []) above ∙ ap (λ rest. done ++ rest) (sym step) ∙ left)

-- one with fewer is no layer
pub layer_skipped : (units xs : List ℕ) (done now : List Layer) (layer : Layer) (lower next i : ℕ) (whole : List Layer) →
    i < length xs → lower < get_or xs i 0 → layer ≡ layer_between units (lower, get_or xs i 0) →
    length layer.members.items < 2 → now ≡ done → next ≡ get_or xs i 0 →
    done ++ layers_above units lower (drop i xs) ≡ whole →
    now ++ layers_above units next (drop (i + 1) xs) ≡ whole
layer_skipped units xs done now layer lower next i whole inside rises is few same moved left =
    let above = layers_above units (get_or xs i 0) (drop (i + 1) xs) in
    let fails : is_redundant (layer_between units (lower, get_or xs i 0)) ≡ false =
    ap is_redundant (sym is) ∙ lt-leb 2 (length layer.members.items) few in
    let step : layers_above units lower (drop i xs) ≡ above =
    rising_step units xs lower i inside rises
    ∙ ap (λ b. cond b (layer_between units (lower, get_or xs i 0) ∷ above) above) fails in
    rw (same, moved) (ap (λ rest. done ++ rest) (sym step) ∙ left)

-- equal units give no layer
pub level_stayed : (units xs : List ℕ) (done now : List Layer) (lower next i : ℕ) (whole : List Layer) →
    i < length xs → get_or xs i 0 ≤ lower → now ≡ done → next ≡ lower →
    done ++ layers_above units lower (drop i xs) ≡ whole →
    now ++ layers_above units next (drop (i + 1) xs) ≡ whole
level_stayed units xs done now lower next i whole inside stays same kept left =
    let step : layers_above units lower (drop i xs) ≡ layers_above units lower (drop (i + 1) xs) =
    ap (layers_above units lower) (drop_more xs i 0 inside) ∙ layers_above_no units lower (get_or xs i 0) (drop (i + 1) xs) stays in
    rw (same, kept) (ap (λ rest. done ++ rest) (sym step) ∙ left)

-- with no unit left the layers are complete
pub pass_ended : (units ordered xs : List ℕ) (done : List Layer) (lower i : ℕ) → xs ≡ ordered → length xs ≤ i →
    done ++ layers_above units lower (drop i xs) ≡ layers_above units 0 xs → done ≡ layers_above units 0 ordered
pass_ended units ordered xs done lower i is ended left =
    let none : layers_above units lower (drop i xs) ≡ [] = ap (layers_above units lower) (drop_all i xs ended) in
    sym (append-nil done) ∙ ap (λ rest. done ++ rest) (sym none) ∙ left ∙ ap (layers_above units 0) is
